-- What a session waits for stands in the log of a conforming source, and is read there.
use Rattle.std.proofs.Common.{◌≡◌, ◌∙◌, inl, inr, ◌+◌, ◌≤◌, ◌<◌, ℕ, zero, suc, Bool, true, false, Option, Some, None, List, [], ◌∷◌, ◌++◌, length, map, bytes_eq, refl, sym, ap, ap₂, subst, arith, append_assoc, append-nil, length-append}
use Rattle.std.specs.Prelude.{nat_lt, cond, if◌then◌else◌, option_map, slice_get, take}
use Rattle.std.specs.List.{AllByRecursion}
use Rattle.std.proofs.Math.Seq.{take-length}
use Rattle.std.proofs.lemmas.Bool.Decides.{nat_tests}
use Rattle.std.proofs.lemmas.List.{append_cancel_left, length-map}
use Rattle.std.proofs.lemmas.List.Elements.{filter-append}
use Rattle.std.proofs.lemmas.Slice.Eq.{bytes_eq-Decides}
use Rattle.dbl_base.specs.declared.lsn.Lsn.{Lsn}
use Rattle.dbl_pgmsg.specs.declared.messages.Message.{Message}
use Rattle.dbl_pgmsg.specs.declared.messages.Message.TheVariants as says
use Rattle.dbl_pgmsg.specs.Grammar.{Spells}
use Rattle.dbl_pgmsg.proofs.MessageLaws.{one_message}
use Rattle.dbl_capture_work.specs.Source.Model.{SourceModel}
use Rattle.dbl_model_table.specs.declared.config.Config.{Config}
use Rattle.dbl_model_table.specs.declared.table.TableInfo.{TableInfo}
use Rattle.dbl_model_table.specs.declared.change.Body.{Body}
use Rattle.dbl_model_table.specs.declared.change.Body.TheVariants.{Changes, Mark}
use Rattle.dbl_model_table.specs.declared.change.Change.{Change}
use Rattle.dbl_model_table.specs.declared.change.Commit.{Commit}
use Rattle.dbl_capture_work.specs.ModelHistory.History.{RawBody, RawCommit, History, AreRising, IsRising}
use Rattle.dbl_capture_work.specs.ModelHistory.History as raw
use Rattle.dbl_capture_work.specs.ModelHistory.Typed.{typed_commit}
use Rattle.dbl_capture_work.specs.ModelCommit.Blocks.{AreWithoutFault}
use Rattle.dbl_capture_work.specs.ModelCommit.Past as past
use Rattle.dbl_capture_work.specs.ModelCommit.Past.{Head, begin_of}
use Rattle.dbl_capture_work.specs.ModelCommit.Stated.{body_of, commit_of, commits_of, ended_commit, list_of, open_changes}
use Rattle.dbl_capture_work.specs.SourceModel.Calls.{HasReadAllPlainly, IsBegun, IsHead, Moved, HasReadOneMore, head_after, head_of}
use Rattle.dbl_capture_work.specs.SourceModel.Growth.{Grows, Marks}
use Rattle.dbl_capture_work.specs.SourceModel.Standings.{Reading, SourceState}
use Rattle.dbl_capture_work.specs.SourceModel.Stated.{IsReadPlainly, StatesSome, commits_after, to_state}
use Rattle.dbl_capture_work.specs.SourceModel.Trace.{Trace}
use Rattle.dbl_capture_work.proofs.SourceModelGrowthLemmas.{marks_on}
use Rattle.dbl_capture_work.proofs.SourceModelReadLemmas.{states_so_far}
use Rattle.dbl_capture_work.proofs.FaithfulItems.{first_some}
use Rattle.dbl_capture_work.specs.Offset.declared.offset.Offset.{Offset}
use Rattle.dbl_capture_work.specs.Faithful.Stores.{IsPositionOf}
use Rattle.dbl_capture_work.proofs.FaithfulLists.{after_position, longer, map_append, still_position}
use Rattle.dbl_capture_work.specs.Window.Plans.{Plan, high_text, low_text}
use Rattle.dbl_capture_work.specs.Follow.declared.window.Window.{Window}
use Rattle.dbl_capture_work.specs.Follow.declared.window.Window.TheVariants.{Absent, Armed, Open}
use Rattle.dbl_capture_work.specs.Follow.Followed.{Following}
use Rattle.dbl_capture_work.specs.Follow.Steps.{Becomes, watermark_in, mark_of}
use Rattle.dbl_capture_work.specs.declared.report.Report.{Report}
use Rattle.dbl_capture_work.specs.declared.work.SessionState.{SessionState}
use Rattle.dbl_capture_work.specs.Begins.{IsAgain, IsFirstOffsetAtHead}
use Rattle.dbl_capture_work.specs.Takes.{WasStepped, WasTaken}
use Rattle.dbl_capture_work.specs.Windowed.{HasReadWindow}
use Rattle.dbl_capture_work.specs.Works.{HasOpen, IsWork, rest_in, resting}
use Rattle.dbl_capture_laws.proofs.Beginnings.{head_position}
use Rattle.dbl_capture_laws.proofs.Opened.{IsLike, awaits_like, like_awaits, window_like}
use Rattle.dbl_capture_laws.specs.Carried.{Beginning}
use Rattle.dbl_capture_laws.specs.Sources.{IsUnderWay}
use Rattle.dbl_capture_laws.specs.Awaited.{AreAwaited, Awaits, HasBoth, HasMark, HasPositionInLog, IsWithinLog, StoodOffsetsAreWithin, raw_mark_in, marks_at, watermarks_since, marks_of}
use Rattle.dbl_capture_laws.proofs.Uncaptured.{uncaptured_accepted}

abbrev MarkList : Type 0
MarkList = List (Option (List ℕ))

-- ---- lists of watermarks

has_on : (v : List ℕ) (xs ys : MarkList) → HasMark v xs → HasMark v (xs ++ ys)
has_on v [] ys has = absurd has
has_on v (x ∷ xs) ys (inl is) = inl is
has_on v (x ∷ xs) ys (inr has) = inr (has_on v xs ys has)

has_after : (v : List ℕ) (xs ys : MarkList) → HasMark v ys → HasMark v (xs ++ ys)
has_after v [] ys has = has
has_after v (x ∷ xs) ys has = inr (has_after v xs ys has)

both_on : (low high : List ℕ) (xs ys : MarkList) → HasBoth low high xs → HasBoth low high (xs ++ ys)
both_on low high [] ys both = absurd both
both_on low high (x ∷ xs) ys (inl both) = inl (both.0, has_on high xs ys both.1)
both_on low high (x ∷ xs) ys (inr both) = inr (both_on low high xs ys both)

both_parts : (low high : List ℕ) (xs ys : MarkList) → HasMark low xs → HasMark high ys → HasBoth low high (xs ++ ys)
both_parts low high [] ys one two = absurd one
both_parts low high (x ∷ xs) ys (inl is) two = inl (is, has_after high xs ys two)
both_parts low high (x ∷ xs) ys (inr has) two = inr (both_parts low high xs ys has two)

both_high : (low high : List ℕ) (xs : MarkList) → HasBoth low high xs → HasMark high xs
both_high low high [] both = absurd both
both_high low high (x ∷ xs) (inl both) = inr both.1
both_high low high (x ∷ xs) (inr both) = inr (both_high low high xs both)

awaited_on : (later more : MarkList) (w : Window) → AreAwaited later w → AreAwaited (later ++ more) w
awaited_on later more Absent is = tt
awaited_on later more (Armed chunk) is = both_on (low_text chunk.plan) (high_text chunk.plan) later more is
awaited_on later more (Open chunk) is = has_on (high_text chunk.plan) later more is

-- where none is left, no window waits
none_awaited : (w : Window) → AreAwaited [] w → w ≡ Absent
none_awaited Absent is = refl
none_awaited (Armed chunk) is = absurd is
none_awaited (Open chunk) is = absurd is

-- the next of them is that of a commit that is followed
not_text : (value text : List ℕ) → Some value ≡ Some text → bytes_eq value text ≡ false → ⊥
not_text value text is other =
    let wrong : true ≡ false = sym ((bytes_eq-Decides value text).1 (first_some value text is)) ∙ other in
    cc

awaited_step : (infos : List TableInfo) (w new : Window) (body : Body) (later : MarkList) → Becomes infos w body new → AreAwaited (watermark_in body ∷ later) w → AreAwaited later new
awaited_step infos Absent new (Changes changes) later to is = subst (AreAwaited later) (sym to) tt
awaited_step infos Absent new (Mark value) later to is = subst (AreAwaited later) (sym to) tt
awaited_step infos (Armed chunk) new (Changes changes) later to (inl both) = let wrong : None ≡ Some (low_text chunk.plan) = both.0 in cc
awaited_step infos (Armed chunk) new (Changes changes) later to (inr both) = subst (AreAwaited later) (sym to) both
awaited_step infos (Open chunk) new (Changes changes) later to (inl is) = let wrong : None ≡ Some (high_text chunk.plan) = is in cc
awaited_step infos (Open chunk) new (Changes changes) later to (inr has) = subst (AreAwaited later) (sym to.1) has
awaited_step infos (Armed chunk) new (Mark value) later to is = subst (AreAwaited later) (sym to) (by (bytes_eq value (low_text chunk.plan)) refl is)
  where
    by : (b : Bool) → bytes_eq value (low_text chunk.plan) ≡ b → HasBoth (low_text chunk.plan) (high_text chunk.plan) (Some value ∷ later) → AreAwaited later (if b then Open chunk else Armed chunk)
    by true same (inl both) = both.1
    by true same (inr both) = both_high (low_text chunk.plan) (high_text chunk.plan) later both
    by false other (inl both) = absurd (not_text value (low_text chunk.plan) both.0 other)
    by false other (inr both) = both
awaited_step infos (Open chunk) new (Mark value) later to is = subst (AreAwaited later) (sym to) (by (bytes_eq value (high_text chunk.plan)) refl is)
  where
    by : (b : Bool) → bytes_eq value (high_text chunk.plan) ≡ b → HasMark (high_text chunk.plan) (Some value ∷ later) → AreAwaited later (if b then Absent else Open chunk)
    by true same has = tt
    by false other (inl is) = absurd (not_text value (high_text chunk.plan) is other)
    by false other (inr has) = has

-- ---- watermarks that messages state, for every list of captured tables

mark_body : (o : Option (List ℕ)) (changes : List Change) → watermark_in (body_of o changes) ≡ o
mark_body None changes = refl
mark_body (Some value) changes = refl

ended_marks : (infos : List TableInfo) (m : Message) (ms : List Message) → marks_of (list_of (ended_commit infos m ms)) ≡ marks_of (list_of (ended_commit [] m ms))
ended_marks infos (says.Commit flags lsn end_lsn time) ms = by (begin_of ms)
  where
    by : (o : Option Head) → marks_of (list_of (option_map (commit_of lsn end_lsn (past.open_mark ms) (open_changes infos ms)) o)) ≡ marks_of (list_of (option_map (commit_of lsn end_lsn (past.open_mark ms) (open_changes [] ms)) o))
    by None = refl
    by (Some begun) = ap (λ (x : Option (List ℕ)). x ∷ []) (mark_body (past.open_mark ms) (open_changes infos ms) ∙ sym (mark_body (past.open_mark ms) (open_changes [] ms)))
ended_marks infos m ms = refl

uncaptured_marks : (infos : List TableInfo) (ms : List Message) → marks_of (commits_of infos ms) ≡ marks_of (commits_of [] ms)
uncaptured_marks infos [] = refl
uncaptured_marks infos (m ∷ ms) =
    map_append mark_of (commits_of infos ms) (list_of (ended_commit infos m ms))
    ∙ (ap₂ (λ (a b : MarkList). a ++ b) (uncaptured_marks infos ms) (ended_marks infos m ms)
    ∙ sym (map_append mark_of (commits_of [] ms) (list_of (ended_commit [] m ms))))

-- ---- watermarks of a history

marks_longer : (after : Lsn) (xs ys : List RawCommit) → watermarks_since after (xs ++ ys) ≡ watermarks_since after xs ++ watermarks_since after ys
marks_longer after xs ys =
    ap marks_at (filter-append (λ (commit : RawCommit). nat_lt after.0 commit.lsn.0) xs ys)
    ∙ map_append (λ (commit : RawCommit). raw_mark_in commit.body) (commits_after after xs) (commits_after after ys)

marks_grown : (after : Lsn) (read later : MarkList) (old new more : List RawCommit) → new ≡ old ++ more → watermarks_since after old ≡ read ++ later → watermarks_since after new ≡ read ++ (later ++ watermarks_since after more)
marks_grown after read later old new more is parted =
    ap (watermarks_since after) is ∙ (marks_longer after old more ∙ (ap (λ (l : MarkList). l ++ watermarks_since after more) parted ∙ append_assoc read later (watermarks_since after more)))

-- a watermark that is written after the LSN is one of them
mark_here : (after : Lsn) (c : RawCommit) (cs : List RawCommit) (value : List ℕ) → nat_lt after.0 c.lsn.0 ≡ true → c.body ≡ raw.Mark value → HasMark value (watermarks_since after (c ∷ cs))
mark_here after c cs value lt is =
    subst (λ (b : Bool). HasMark value (marks_at (cond b (c ∷ commits_after after cs) (commits_after after cs)))) (sym lt)
    (inl (ap raw_mark_in is))

at_mark : (P : RawCommit → Type 0) (before : List RawCommit) (mark : RawCommit) (after : List RawCommit) → AllByRecursion P (before ++ mark ∷ after) → P mark
at_mark P [] mark after all = all.0
at_mark P (b ∷ before) mark after all = at_mark P before mark after all.1

passes : (a b c : ℕ) → a ≤ b → b < c → nat_lt a c ≡ true
passes a b c le lt = grind (arith, nat_tests, le, lt)

-- what is said of a history's commits alone
abbrev PositionIn : List RawCommit → ℕ → Type 0
PositionIn commits position = IsPositionOf (record { tables = []; commits = commits }) position

within_grown : (lsn : Lsn) (old new : History) (more : List RawCommit) → new.commits ≡ old.commits ++ more → HasPositionInLog lsn old → HasPositionInLog lsn new
within_grown lsn old new more is w = record {
  position = w.position;
  at = subst (λ (l : List RawCommit). PositionIn l w.position) (sym is) (still_position old more w.position w.at);
  not_below = w.not_below;
}

-- A watermark was written.
record IsWritten (after : Lsn) (value : List ℕ) (read later : MarkList) (new : History) : Type 0 where
  more : MarkList
  parted : watermarks_since after new.commits ≡ read ++ (later ++ more)
  has : HasMark value more
  within : HasPositionInLog after new

written : (after : Lsn) (value : List ℕ) (read later : MarkList) (old new : History) → Marks value old new → HasPositionInLog after old → watermarks_since after old.commits ≡ read ++ later → IsWritten after value read later new
written after value read later old new m w parted = record {
  more = watermarks_since after more;
  parted = marks_grown after read later old.commits new.commits more grown parted;
  has = subst (HasMark value) (sym (marks_longer after m.before (m.mark ∷ m.after)))
      (has_after value (watermarks_since after m.before) (watermarks_since after (m.mark ∷ m.after)) (mark_here after m.mark m.after value lt m.is_mark));
  within = within_grown after old new more grown w;
}
  where
    more : List RawCommit
    more = m.before ++ m.mark ∷ m.after

    grown : new.commits ≡ old.commits ++ more
    grown = m.commits ∙ append_assoc old.commits m.before (m.mark ∷ m.after)

    rising : IsRising (longer old more)
    rising = subst (λ (l : List RawCommit). AreRising 0 (map (λ (c : RawCommit). c.lsn.0) l)) grown m.rising

    lt : nat_lt after.0 m.mark.lsn.0 ≡ true
    lt = passes after.0 w.position m.mark.lsn.0 w.not_below (at_mark (λ (c : RawCommit). w.position < c.lsn.0) m.before m.mark m.after (after_position old more rising w.position w.at))

-- ---- where it begins

head_within : (history : History) (lsn : Lsn) (place : ℕ) → lsn ≡ head_of (take place history.commits) → HasPositionInLog lsn history
head_within history lsn place is = record { position = lsn.0; at = head_position history lsn place is; not_below = same_le lsn.0 }
  where
    same_le : (n : ℕ) → n ≤ n
    same_le n = omega arith

stored_within : (history : History) (old : Option Offset) (stored : Offset) → old ≡ Some stored → IsWithinLog history old → HasPositionInLog stored.lsn history
stored_within history old stored is le = record {
  position = (head_of history.commits).0;
  at = head_position history (head_of history.commits) (length history.commits) (ap head_of (sym (take-length history.commits)));
  not_below = subst (λ (o : Option Offset). IsWithinLog history o) is le;
}

-- the offset that is stored first, of the stored one
pub again_within : (history : History) (old : Option Offset) (offset : Offset) → IsAgain old (Some offset) → IsWithinLog history old → HasPositionInLog offset.lsn history
again_within history None offset again le = absurd again
again_within history (Some stored) offset again le = subst (λ (o : Offset). HasPositionInLog o.lsn history) (sym again) (stored_within history (Some stored) stored refl le)

-- or at the head
pub first_within : (config : Config) (infos : List TableInfo) (head : Lsn) (offset : Offset) (s t : SourceState) → IsFirstOffsetAtHead config infos head offset → IsHead head s t → HasPositionInLog offset.lsn t.history
first_within config infos head offset s t first at = subst (λ (l : Lsn). HasPositionInLog l t.history) (sym first.lsn) (head_within t.history head at.place at.is)

-- ---- at each call

module _ {S : Type 0} (source_model : SourceModel S) where
  -- reading begins
  pub awaits_first : (work : SessionState) (src : S) (after : Lsn) (s t : SourceState) → source_model.stands src t → IsBegun after s t → HasPositionInLog after s.history → work.follower.window ≡ Absent → Awaits source_model.stands work src
  awaits_first work src after s t is begun within absent = record {
    standing = t;
    is = is;
    reading = record { after = after; messages = [] };
    reading_is = begun.reading;
    within = within_grown after s.history t.history begun.grows.others begun.grows.commits within;
    later = watermarks_since after t.history.commits;
    parted = refl;
    awaited = subst (AreAwaited (watermarks_since after t.history.commits)) (sym absent) tt;
  }

  -- nothing is read
  pub awaits_still : (old new : SessionState) (src src2 : S) (a : Awaits source_model.stands old src) (t : SourceState) → source_model.stands src2 t → Grows a.standing.history t.history → t.reading ≡ a.standing.reading
      → new.offset.infos ≡ old.offset.infos → new.follower.window ≡ old.follower.window → Awaits source_model.stands new src2
  awaits_still old new src src2 a t is grows reads infos window = record {
    standing = t;
    is = is;
    reading = a.reading;
    reading_is = reads ∙ a.reading_is;
    within = within_grown a.reading.after a.standing.history t.history grows.others grows.commits a.within;
    later = a.later ++ watermarks_since a.reading.after grows.others;
    parted =
        marks_grown a.reading.after (marks_of (commits_of new.offset.infos a.reading.messages)) a.later a.standing.history.commits t.history.commits grows.others grows.commits
        (subst (λ (l : List TableInfo). watermarks_since a.reading.after a.standing.history.commits ≡ marks_of (commits_of l a.reading.messages) ++ a.later) (sym infos) a.parted);
    awaited = subst (AreAwaited (a.later ++ watermarks_since a.reading.after grows.others)) (sym window) (awaited_on a.later (watermarks_since a.reading.after grows.others) old.follower.window a.awaited);
  }

  -- a window is
  module _ (table : ℕ) (old new : SessionState) (src src2 : S) (a : Awaits source_model.stands old src) (w : HasReadWindow source_model table old new a.standing src2) where
    abbrev plan : Plan
    plan = w.armed.chunk.plan

    abbrev read_so_far : MarkList
    read_so_far = marks_of (commits_of old.offset.infos a.reading.messages)

    low_written : IsWritten a.reading.after (low_text plan) read_so_far a.later w.stood.holds.marked
    low_written = written a.reading.after (low_text plan) read_so_far a.later a.standing.history w.stood.holds.marked w.stood.holds.low_is a.within a.parted

    high_written : IsWritten a.reading.after (high_text plan) read_so_far (a.later ++ low_written.more) w.stood.standing.history
    high_written =
        written a.reading.after (high_text plan) read_so_far (a.later ++ low_written.more) w.stood.holds.marked w.stood.standing.history
        (marks_on (high_text plan) w.stood.holds.marked w.stood.holds.looked.looked w.stood.standing.history w.stood.holds.looked.rows_are w.stood.holds.looked.high_is) low_written.within low_written.parted

    pub awaits_armed : Awaits source_model.stands new src2
    awaits_armed = subst (λ (x : SessionState). Awaits source_model.stands x src2) (sym w.armed.is) (record {
      standing = w.stood.standing;
      is = w.stood.is;
      reading = a.reading;
      reading_is = w.stood.holds.looked.reading ∙ a.reading_is;
      within = high_written.within;
      later = (a.later ++ low_written.more) ++ high_written.more;
      parted = high_written.parted;
      awaited = both_parts (low_text plan) (high_text plan) (a.later ++ low_written.more) high_written.more (has_after (low_text plan) a.later low_written.more low_written.has) high_written.has;
    })

  -- ---- a message is

  -- it reads what the session has taken
  pub work_at : (at : Option SourceState) (found : Option Trace) (b : Beginning) (stored : Option Offset) (work : SessionState) (report : Report) (src : S) (u : IsUnderWay source_model at found b stored work report src)
      → ((s t : SourceState) → source_model.stands src s → source_model.stands src t → s ≡ t) → (s : SourceState) → at ≡ Some s → (a : Awaits source_model.stands work src)
      → (ahead : HasOpen a.reading.messages work) × IsWork a.reading.after a.reading.messages (rest_in ahead)
  work_at at found b stored work report src u same s first a =
      let was = u.stood s first in
      let one : record { after = b.first.lsn; messages = u.messages } ≡ a.reading =
      first_some (record { after = b.first.lsn; messages = u.messages }) a.reading (sym was.holds ∙ (ap (λ (x : SourceState). x.reading) (same was.standing a.standing was.is a.is) ∙ a.reading_is)) in
      subst (λ (r : Reading). (ahead : HasOpen r.messages work) × IsWork r.after r.messages (rest_in ahead)) one (u.ahead, u.is.is.is)

  -- changes of the open transaction are followed
  pub awaits_part : (start : Following) (next new : SessionState) (src : S) → Awaits source_model.stands next src → IsLike start.window next.follower.window → IsLike start.window new.follower.window → new.offset ≡ next.offset → Awaits source_model.stands new src
  awaits_part start next new src a before after same = record {
    standing = a.standing;
    is = a.is;
    reading = a.reading;
    reading_is = a.reading_is;
    within = a.within;
    later = a.later;
    parted = subst (λ (o : Offset). watermarks_since a.reading.after a.standing.history.commits ≡ marks_of (commits_of o.infos a.reading.messages) ++ a.later) (sym same) a.parted;
    awaited = like_awaits a.later start.window new.follower.window after (awaits_like a.later start.window next.follower.window before a.awaited);
  }

  module _ (old : SessionState) (src src2 : S) (a : Awaits source_model.stands old src) (bytes : List ℕ) (m : Message) (t : SourceState) (spells : Spells bytes m) (is : source_model.stands src2 t) (took : HasReadOneMore m a.standing t) where
    abbrev next_reading : Reading
    next_reading = record { after = a.reading.after; messages = m ∷ a.reading.messages }

    reading_next : t.reading ≡ Some next_reading
    reading_next =
        took.is ∙ ap (λ (r : Reading). Some (record { after = r.after; messages = m ∷ r.messages })) (first_some took.before a.reading (sym took.was ∙ a.reading_is))

    abbrev more : MarkList
    more = a.later ++ watermarks_since a.reading.after took.grows.others

    parted_more : watermarks_since a.reading.after t.history.commits ≡ marks_of (commits_of old.offset.infos a.reading.messages) ++ more
    parted_more = marks_grown a.reading.after (marks_of (commits_of old.offset.infos a.reading.messages)) a.later a.standing.history.commits t.history.commits took.grows.others took.grows.commits a.parted

    awaited_more : AreAwaited more old.follower.window
    awaited_more = awaited_on a.later (watermarks_since a.reading.after took.grows.others) old.follower.window a.awaited

    within_more : HasPositionInLog a.reading.after t.history
    within_more = within_grown a.reading.after a.standing.history t.history took.grows.others took.grows.commits a.within

    stated_on : (ms : List Message) → marks_of (commits_of old.offset.infos (m ∷ ms)) ≡ marks_of (commits_of old.offset.infos ms) ++ marks_of (list_of (ended_commit old.offset.infos m ms))
    stated_on ms = map_append mark_of (commits_of old.offset.infos ms) (list_of (ended_commit old.offset.infos m ms))

    -- which ends no commit
    pub awaits_message : (next : SessionState) → WasTaken a.reading.after a.reading.messages bytes old next None → Awaits source_model.stands next src2
    awaits_message next w = subst (λ (x : SessionState). Awaits source_model.stands x src2) (sym w.same) (record {
      standing = t;
      is = is;
      reading = next_reading;
      reading_is = reading_next;
      within = within_more;
      later = more;
      parted = parted_more ∙ ap (λ (l : MarkList). l ++ more) (sym same);
      awaited = awaited_more;
    })
      where
        none : ended_commit old.offset.infos m a.reading.messages ≡ None
        none = subst (λ (x : Message). ended_commit old.offset.infos x a.reading.messages ≡ None) (one_message bytes w.message m w.spells spells) (sym w.commit_is)

        same : marks_of (commits_of old.offset.infos (m ∷ a.reading.messages)) ≡ marks_of (commits_of old.offset.infos a.reading.messages)
        same =
            stated_on a.reading.messages
            ∙ (ap (λ (o : Option Commit). marks_of (commits_of old.offset.infos a.reading.messages) ++ marks_of (list_of o)) none ∙ append-nil (marks_of (commits_of old.offset.infos a.reading.messages)))

    -- or one that is followed
    pub awaits_commit : (next new : SessionState) (commit : Commit) (ahead : HasOpen a.reading.messages old) → WasTaken a.reading.after a.reading.messages bytes old next (Some commit) → AreWithoutFault old.offset.infos a.reading.after a.reading.messages
        → WasStepped commit (resting ahead.start next) new → (t.reading ≡ Some next_reading → IsReadPlainly t.history next_reading) → Awaits source_model.stands new src2
    awaits_commit next new commit ahead w accepted st right = record {
      standing = t;
      is = is;
      reading = next_reading;
      reading_is = reading_next;
      within = within_more;
      later = marks_of some.later;
      parted = subst (λ (l : List TableInfo). watermarks_since a.reading.after t.history.commits ≡ marks_of (commits_of l (m ∷ a.reading.messages)) ++ marks_of some.later) (sym infos_are) parted_told;
      awaited = awaited_step ahead.start.infos ahead.start.window new.follower.window commit.body (marks_of some.later) st.steps.window (awaits_like (mark_of commit ∷ marks_of some.later) ahead.start.window old.follower.window (window_like ahead) (subst (λ (l : MarkList). AreAwaited l old.follower.window) next_mark awaited_more));
    }
      where
        same_message : w.message ≡ m
        same_message = one_message bytes w.message m w.spells spells

        ends : ended_commit old.offset.infos m a.reading.messages ≡ Some commit
        ends = subst (λ (x : Message). ended_commit old.offset.infos x a.reading.messages ≡ Some commit) same_message (sym w.commit_is)

        fine : AreWithoutFault old.offset.infos a.reading.after (m ∷ a.reading.messages)
        fine = subst (λ (x : Message). AreWithoutFault old.offset.infos a.reading.after (x ∷ a.reading.messages)) same_message (w.clean, accepted)

        some : StatesSome [] (to_state [] a.reading.after t.history) (m ∷ a.reading.messages)
        some =
            states_so_far [] a.reading.after (to_state [] a.reading.after t.history) (m ∷ a.reading.messages) (right reading_next [] (record { distinct = refl; each = tt }))
            (uncaptured_accepted old.offset.infos a.reading.after (m ∷ a.reading.messages) fine)

        marks_typed : (cs : List RawCommit) → marks_of (map (typed_commit []) cs) ≡ marks_at cs
        marks_typed [] = refl
        marks_typed (c ∷ cs) = ap₂ (λ (x : Option (List ℕ)) (l : MarkList). x ∷ l) (by c.body) (marks_typed cs)
          where
            by : (body : RawBody) → mark_of (typed_commit [] (record c { body = body })) ≡ raw_mark_in body
            by (raw.Changes changes) = refl
            by (raw.Mark value) = refl
            by (raw.Alter name columns rows) = refl

        parted_told : watermarks_since a.reading.after t.history.commits ≡ marks_of (commits_of old.offset.infos (m ∷ a.reading.messages)) ++ marks_of some.later
        parted_told =
            sym (marks_typed (commits_after a.reading.after t.history.commits))
            ∙ (ap marks_of some.stated
            ∙ (map_append mark_of (commits_of [] (m ∷ a.reading.messages)) some.later
            ∙ ap (λ (l : MarkList). l ++ marks_of some.later) (sym (uncaptured_marks old.offset.infos (m ∷ a.reading.messages)))))

        one_more : marks_of (commits_of old.offset.infos (m ∷ a.reading.messages)) ≡ marks_of (commits_of old.offset.infos a.reading.messages) ++ mark_of commit ∷ []
        one_more = stated_on a.reading.messages ∙ ap (λ (o : Option Commit). marks_of (commits_of old.offset.infos a.reading.messages) ++ marks_of (list_of o)) ends

        next_mark : more ≡ mark_of commit ∷ marks_of some.later
        next_mark =
            append_cancel_left (marks_of (commits_of old.offset.infos a.reading.messages)) more (mark_of commit ∷ marks_of some.later)
            (sym parted_more ∙ (parted_told ∙ (ap (λ (l : MarkList). l ++ marks_of some.later) one_more ∙ append_assoc (marks_of (commits_of old.offset.infos a.reading.messages)) (mark_of commit ∷ []) (marks_of some.later))))

        infos_are : new.offset.infos ≡ old.offset.infos
        infos_are = ap (λ (x : SessionState). x.offset.infos) st.same ∙ ap (λ (x : SessionState). x.offset.infos) w.same

  -- Everything was read.
  all_read : (n k : ℕ) (later : MarkList) → n ≡ k + length later → n ≤ k → later ≡ []
  all_read n k [] is le = refl
  all_read n k (x ∷ later) is le = absurd (omega (arith, is, le))

  pub awaits_nothing : (work : SessionState) (src : S) (t : SourceState) (a : Awaits source_model.stands work src) → AreWithoutFault work.offset.infos a.reading.after a.reading.messages → Moved a.standing t → HasReadAllPlainly a.standing t
      → work.follower.window ≡ Absent
  awaits_nothing work src t a accepted moved all =
      none_awaited work.follower.window (subst (λ (l : MarkList). AreAwaited l work.follower.window)
      (all_read (length (watermarks_since a.reading.after a.standing.history.commits)) (length (marks_of (commits_of work.offset.infos a.reading.messages))) a.later
      (ap length a.parted ∙ length-append (marks_of (commits_of work.offset.infos a.reading.messages)) a.later) few) a.awaited)
    where
      told : length (commits_after a.reading.after a.standing.history.commits) ≤ length (commits_of [] a.reading.messages)
      told = all.each a.reading (moved.reading ∙ a.reading_is) [] (record { distinct = refl; each = tt }) (uncaptured_accepted work.offset.infos a.reading.after a.reading.messages accepted)

      same : length (commits_of [] a.reading.messages) ≡ length (marks_of (commits_of work.offset.infos a.reading.messages))
      same =
          sym (length-map (commits_of [] a.reading.messages) mark_of) ∙ ap length (sym (uncaptured_marks work.offset.infos a.reading.messages))

      few : length (watermarks_since a.reading.after a.standing.history.commits) ≤ length (marks_of (commits_of work.offset.infos a.reading.messages))
      few = omega (arith, told, same, length-map (commits_after a.reading.after a.standing.history.commits) (λ (commit : RawCommit). raw_mark_in commit.body))

-- ---- an offset that stands in the log

further : (a b c : ℕ) → a < b → b ≤ c → a ≤ c
further a b c one two = omega (arith, one, two)

own_le : (n : ℕ) → n ≤ n
own_le n = omega arith

none_le : (n m : ℕ) → n ≡ 0 → n ≤ m
none_le n m is = omega (arith, is)

head_ge : (lsn : Lsn) (cs : List RawCommit) → AreRising lsn.0 (map (λ (c : RawCommit). c.lsn.0) cs) → lsn.0 ≤ (head_after lsn cs).0
head_ge lsn [] rise = own_le lsn.0
head_ge lsn (c ∷ cs) rise = further lsn.0 c.lsn.0 (head_after c.lsn cs).0 rise.0 (head_ge c.lsn cs rise.1)

at_head : (lsn : Lsn) (cs : List RawCommit) → AreRising lsn.0 (map (λ (c : RawCommit). c.lsn.0) cs) → (place position : ℕ) → slice_get (map (λ (c : RawCommit). c.lsn.0) cs) place ≡ Some position → position ≤ (head_after lsn cs).0
at_head lsn [] rise place position at = cc
at_head lsn (c ∷ cs) rise zero position at = subst (λ (p : ℕ). p ≤ (head_after c.lsn cs).0) (first_some c.lsn.0 position at) (head_ge c.lsn cs rise.1)
at_head lsn (c ∷ cs) rise (suc place) position at = at_head c.lsn cs rise.1 place position at

pub stood_offsets_are_within : StoodOffsetsAreWithin
stood_offsets_are_within history None rise stood = tt
stood_offsets_are_within history (Some offset) rise (inl none) = none_le offset.lsn.0 (head_of history.commits).0 none
stood_offsets_are_within history (Some offset) rise (inr at) = at_head (record { 0 = 0 }) history.commits rise at.0 offset.lsn.0 at.1
