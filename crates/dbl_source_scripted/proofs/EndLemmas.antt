-- What a source promises of each of the seven calls, from what the call made of the script.
use Rattle.std.proofs.Common.{◌≡◌, ◌∙◌, ℕ, true, false, Option, Some, None, List, [], ◌∷◌, length, map, refl, sym, ap, subst, ◌++◌}
use Rattle.std.specs.Prelude.{IsTrue, is_some, is_none, IfSome, MatchOption, slice_get, Result, Ok, Err, IfOk, OnOk}
use Rattle.dbl_base.specs.declared.lsn.Lsn.{Lsn}
use Rattle.dbl_pgmsg.specs.declared.messages.Message.{Message}
use Rattle.dbl_pgmsg.specs.Grammar.{Spells, spelling}
use Rattle.dbl_model_table.specs.declared.row.Key.{Key}
use Rattle.dbl_model_table.specs.declared.table.TableName.{TableName}
use Rattle.dbl_model_table.specs.declared.table.RawTable.{RawTable}
use Rattle.dbl_source_model.specs.declared.selected.Selected.{Selected}
use Rattle.dbl_source_model.specs.declared.started.Started.{Started}
use Rattle.dbl_source_model.specs.Standings.{SourceState, HasState}
use Rattle.dbl_source_model.specs.Answered.{IsDescribed, IsHeaded, IsSelectAnswer}
use Rattle.dbl_source_model.specs.Calls.{Moved, IsMarked, IsHead, Starts, HasReadOneMore, HasReadAll, IsConfirmed}
use Rattle.dbl_source_model.specs.Leaves.{MayFollow, MayFollowMark, MayFollowConfirm}
use Rattle.dbl_source_model.specs.Trace.{Answer, Described, Head, Began, Read, RowsSelected, Done, LastAnswerIs, is_ready}
use Rattle.dbl_source_log.specs.declared.logged.Logged.TheVariants.{Changes}
use Rattle.dbl_source_log.specs.declared.reader_position.ReaderPosition.{ReaderPosition}
use Rattle.dbl_source_log.specs.Numbers.{lsn_of}
use Rattle.dbl_source_log.specs.Relations.{catalogue}
use Rattle.dbl_source_scripted.specs.declared.asked.Last.{Last}
use Rattle.dbl_source_scripted.specs.declared.asked.Last.TheVariants as answers
use Rattle.dbl_source_scripted.specs.Played.{Played, played_messages, trace_of, inside_of, with_release, with_answer, with_mark, with_confirmed, started_at, with_start, with_head, with_select, tables_now, commits_before, next_selected}
use Rattle.dbl_source_scripted.specs.Steps.{KeepsPlayed, HasPlayedState, MayLeavePlayed, WasFair, IsAtEnd, IsUnfit}
use Rattle.dbl_source_scripted.specs.Exits.{AnswersPlayedEntry, AnswersPlayedHead, AnswersPlayedStart, HasReadNext, last_read, with_read, AnswersRead, AnswersPlayedRows, Plays}
use Rattle.dbl_source_scripted.proofs.CallLemmas.{WentOn, went_follows, went_fair, went_read, head_leads, describe_leads, confirm_leads, confirm_follows, mark_leads, mark_follows, start_leads, select_leads, select_follows, stood_to}
use Rattle.dbl_source_scripted.proofs.AlterLemmas.{before_others, around_others}
use Rattle.dbl_source_scripted.proofs.AddedLemmas.{select_read, select_fair, mark_read, mark_fair}
use Rattle.dbl_source.proofs.EntryLemmas.{found_named, answer_told}
use Rattle.dbl_source_scripted.proofs.StartLemmas.{nothing_read, is_begun}
use Rattle.dbl_source_scripted.proofs.ReadCallLemmas.{reads_lead, read_left, read_fair, read_taken}
use Rattle.dbl_source_scripted.proofs.ExitLemmas.{went_released, stays, SameRead, SameReader, Ends, Held, held}
use Rattle.dbl_source_model.proofs.CallLemmas.{without_mark, unconfirmed}
use Rattle.dbl_source_log.specs.declared.error.SourceError.{SourceError}

-- the last answer is this
tells : (new : Played) (answer : Answer) → (trace_of new).answer ≡ answer → LastAnswerIs (Some (trace_of new)) answer
tells new answer is t same = answer_told (trace_of new) t answer same is

pub describe_ends : (name : TableName) (old new : Played) (entry : Option RawTable) → KeepsPlayed old → AnswersPlayedEntry name old entry new
    → Ends (λ s. HasState HasPlayedState new (IsDescribed name entry s)) MayFollow (Described entry) (SameRead old new) (SameReader old new) old new
describe_ends name old new entry kept a =
    let mid : Played = with_release old in
    let w : WentOn old mid = went_released old in
    let what : Last = answers.Described a.place in
    record {
      leads = λ s stands. stood_to new (with_answer what mid) (IsDescribed name entry s) a.is (describe_leads old mid s w kept stands what name entry (a.found.there ∙ a.found.named));
      left = λ s l stands may. went_follows old mid s l w kept stands (subst (λ (p : Played). MayLeavePlayed p l) a.is may);
      live = ap (λ (p : Played). p.live) a.is;
      honest = λ fair. went_fair old mid w kept (subst WasFair a.is fair);
      told = tells new (Described entry) (ap (λ (p : Played). (trace_of p).answer) a.is ∙ ap Described (sym a.found.there));
      taken = ap (λ (p : Played). map spelling (played_messages p)) a.is ∙ went_read old mid w kept;
      reading = ap (λ (p : Played). is_some p.place) a.is;
    }

pub head_ends : (old new : Played) (lsn : Lsn) → KeepsPlayed old → AnswersPlayedHead old lsn new → Ends (λ s. HasState HasPlayedState new (IsHeaded lsn s)) MayFollow (Head lsn) (SameRead old new) (SameReader old new) old new
head_ends old new lsn kept a =
    let mid : Played = with_release old in
    let w : WentOn old mid = went_released old in
    record {
      leads = λ s stands. subst (λ (x : Lsn). HasState HasPlayedState new (λ t. Moved s t × IsHead x s t)) (sym a.told)
          (stood_to new (with_head mid) (λ t. Moved s t × IsHead (lsn_of (length mid.log)) s t) a.is (head_leads old mid s w kept stands));
      left = λ s l stands may. went_follows old mid s l w kept stands (subst (λ (p : Played). MayLeavePlayed p l) a.is may);
      live = ap (λ (p : Played). p.live) a.is;
      honest = λ fair. went_fair old mid w kept (subst WasFair a.is fair);
      told = tells new (Head lsn) (ap (λ (p : Played). (trace_of p).answer) a.is ∙ ap Head (sym a.told));
      taken = ap (λ (p : Played). map spelling (played_messages p)) a.is ∙ went_read old mid w kept;
      reading = ap (λ (p : Played). is_some p.place) a.is;
    }

pub start_ends : (after : Lsn) (old new : Played) (started : Started) → KeepsPlayed old → AnswersPlayedStart after old started new
    → Ends (λ s. HasState HasPlayedState new (Starts after started s)) MayFollow (Began started) (map spelling (played_messages new) ≡ []) (is_some new.place ≡ is_ready started) old new
start_ends after old new started kept a =
    let mid : Played = with_release old in
    let w : WentOn old mid = went_released old in
    record {
      leads = λ s stands. subst (λ (x : Started). HasState HasPlayedState new (Starts after x s)) (sym a.told) (stood_to new (with_start after mid) (Starts after (started_at after mid) s) a.is (start_leads old mid s w kept stands after));
      left = λ s l stands may. went_follows old mid s l w kept stands (subst (λ (p : Played). MayLeavePlayed p l) a.is may);
      live = ap (λ (p : Played). p.live) a.is;
      honest = λ fair. went_fair old mid w kept (subst WasFair a.is fair);
      told = tells new (Began started) (ap (λ (p : Played). (trace_of p).answer) a.is ∙ ap Began (sym a.told));
      taken = ap (λ (p : Played). map spelling (played_messages p)) a.is ∙ ap (map spelling) (nothing_read mid.tables mid.log after (started_at after mid));
      reading = ap (λ (p : Played). is_some p.place) a.is ∙ is_begun after (started_at after mid) ∙ ap is_ready (sym a.told);
    }

pub select_ends : (table : TableName) (above : Option Key) (limit : ℕ) (old new : Played) (answer : Selected) → KeepsPlayed old → AnswersPlayedRows table above limit old answer new
    → Ends (λ s. HasState HasPlayedState new (IsSelectAnswer (WasFair new) table above limit answer s)) MayFollow (RowsSelected answer) (SameRead old new) (SameReader old new) old new
select_ends table above limit old new answer kept a =
    let mid : Played = with_release old in
    let w : WentOn old mid = went_released old in
    let from : ℕ = length old.log in
    let inside : List (List Message) = inside_of old in
    let after : Played = with_select table above limit from inside mid in
    record {
      leads = λ s stands. subst (λ (n : Played). HasState HasPlayedState n (IsSelectAnswer (WasFair n) table above limit answer s)) (sym a.is)
          (subst (λ (found : Selected). HasState HasPlayedState after (IsSelectAnswer (WasFair after) table above limit found s)) (sym a.told) (select_leads old mid s w kept stands table above limit inside));
      left = λ s l stands may. select_follows old mid s w kept stands table above limit inside l (subst (λ (p : Played). MayLeavePlayed p l) a.is may);
      live = ap (λ (p : Played). p.live) a.is;
      honest = λ fair. went_fair old mid w kept (select_fair old mid table above limit from inside w kept (subst WasFair a.is fair));
      told = tells new (RowsSelected answer) (ap (λ (p : Played). (trace_of p).answer) a.is ∙ ap RowsSelected (sym a.told));
      taken = ap (λ (p : Played). map spelling (played_messages p)) a.is ∙ ap (map spelling) (select_read old mid table above limit from inside w kept) ∙ went_read old mid w kept;
      reading = ap (λ (p : Played). is_some p.place) a.is;
    }

pub mark_ends : (value : List ℕ) (old new : Played) → KeepsPlayed old → new ≡ with_mark value (with_release old)
    → Ends (λ s. HasState HasPlayedState new (IsMarked value s)) (MayFollowMark value) Done (SameRead old new) (SameReader old new) old new
mark_ends value old new kept is =
    let mid : Played = with_release old in
    let w : WentOn old mid = went_released old in
    record {
      leads = λ s stands. stood_to new (with_mark value mid) (IsMarked value s) is (mark_leads old mid s w kept stands value);
      left = λ s l stands may. mark_follows old mid s w kept stands value l (subst (λ (p : Played). MayLeavePlayed p l) is may);
      live = ap (λ (p : Played). p.live) is;
      honest = λ fair. went_fair old mid w kept (mark_fair old mid value w kept (subst WasFair is fair));
      told = tells new Done (ap (λ (p : Played). (trace_of p).answer) is);
      taken = ap (λ (p : Played). map spelling (played_messages p)) is ∙ ap (map spelling) (mark_read old mid value w kept) ∙ went_read old mid w kept;
      reading = ap (λ (p : Played). is_some p.place) is;
    }

pub confirm_ends : (upto : Lsn) (old new : Played) → KeepsPlayed old → new ≡ with_confirmed upto (with_release old)
    → Ends (λ s. HasState HasPlayedState new (IsConfirmed upto s)) (MayFollowConfirm upto) Done (SameRead old new) (SameReader old new) old new
confirm_ends upto old new kept is =
    let mid : Played = with_release old in
    let w : WentOn old mid = went_released old in
    record {
      leads = λ s stands. stood_to new (with_confirmed upto mid) (IsConfirmed upto s) is (confirm_leads old mid s w kept stands upto);
      left = λ s l stands may. confirm_follows old mid s w kept stands upto l (subst (λ (p : Played). MayLeavePlayed p l) is may);
      live = ap (λ (p : Played). p.live) is;
      honest = λ fair. went_fair old mid w kept (subst WasFair is fair);
      told = tells new Done (ap (λ (p : Played). (trace_of p).answer) is);
      taken = ap (λ (p : Played). map spelling (played_messages p)) is ∙ went_read old mid w kept;
      reading = ap (λ (p : Played). is_some p.place) is;
    }

-- ---- a read

-- what it leads to, by what it read
abbrev pub Takes : Played → Option (List ℕ) → SourceState → Type 0
Takes new read s = MatchOption read (HasState HasPlayedState new (λ t. Moved s t × (WasFair new → HasReadAll s t))) (λ bytes. (m : Message) × Spells bytes m × HasState HasPlayedState new (HasReadOneMore m s))

abbrev pub ReadBesides : Played → Played → Option (List ℕ) → Type 0
ReadBesides old new read = MatchOption read (SameRead old new) (λ bytes. map spelling (played_messages new) ≡ bytes ∷ map spelling (played_messages old))

-- it leads to the same where it is kept whether that was the end
kept_end : (here : Played) (read : Option (List ℕ)) (s : SourceState) → Takes (with_answer (last_read read) here) read s → Takes (with_read read here) read s
kept_end here None s t = record { standing = t.standing; is = t.is; holds = t.holds }
kept_end here (Some bytes) s t = (t.0, t.1, record { standing = t.2.standing; is = t.2.is; holds = t.2.holds })

-- whether there is a reader doesn't change
reader_stays : (old here : Played) (read : Option (List ℕ)) → HasReadNext (with_release old) here read → SameReader old here
reader_stays old here None has = ap (λ (p : Played). is_some p.place) has.is
reader_stays old here (Some bytes) has = ap (λ (p : Played). is_some p.place) has.is ∙ sym (ap (λ (o : Option ReaderPosition). is_some o) has.was)

-- the newest message is the one that was answered
newest : (old here : Played) (read : Option (List ℕ)) → ReadBesides old here read → (trace_of (with_read read here)).answer ≡ Read read
newest old here None taken = refl
newest old here (Some bytes) taken = ap (λ (l : List (List ℕ)). Read (slice_get l 0)) taken

pub read_ends : (old new : Played) (read : Option (List ℕ)) → KeepsPlayed old → AnswersRead old read new → Ends (Takes new read) MayFollow (Read read) (ReadBesides old new read) (SameReader old new) old new
read_ends old new read kept a =
    let mid : Played = with_release old in
    let w : WentOn old mid = went_released old in
    let taken : ReadBesides old a.here read = read_taken old mid a.here read w kept a.has in
    record {
      leads = λ s stands. subst (λ (n : Played). Takes n read s) (sym a.is) (kept_end a.here read s (reads_lead old mid s w kept stands a.here (last_read read) read a.has));
      left = λ s l stands may. went_follows old mid s l w kept stands (read_left mid a.here l read a.has (subst (λ (p : Played). MayLeavePlayed p l) a.is may));
      live = ap (λ (p : Played). p.live) a.is;
      honest = λ fair. went_fair old mid w kept (read_fair mid a.here read a.has (subst WasFair a.is fair));
      told = tells new (Read read) (ap (λ (p : Played). (trace_of p).answer) a.is ∙ newest old a.here read taken);
      taken = subst (λ (n : Played). ReadBesides old n read) (sym a.is) taken;
      reading = ap (λ (p : Played). is_some p.place) a.is ∙ reader_stays old a.here read a.has;
    }

-- what it makes of a source that has a reader
pub read_plays : (old new : Played) (read : Option (List ℕ)) → IsTrue (is_some old.place) → AnswersRead old read new
    → (place : ReaderPosition) × (what : Last) × (new ≡ with_answer what (record (with_release old) { place = Some place; ended = is_none read }))
read_plays old new (Some bytes) some a = (a.has.next, answers.Message, a.is ∙ ap (with_read (Some bytes)) a.has.is)
read_plays old new None some a = by old.place refl some
  where
    unmoved : new ≡ with_read None (with_release old)
    unmoved = a.is ∙ ap (with_read None) a.has.is

    by : (o : Option ReaderPosition) → old.place ≡ o → IsTrue (is_some o) → (place : ReaderPosition) × (what : Last) × (new ≡ with_answer what (record (with_release old) { place = Some place; ended = true }))
    by None at none = let never : false ≡ true = none in cc
    by (Some place) at some_is = (place, answers.Nothing, unmoved ∙ ap (λ (o : Option ReaderPosition). with_read None (record (with_release old) { place = o })) at)

some_none : (bytes : List ℕ) → Some bytes ≡ None → ⊥
some_none bytes is = cc

-- nothing is read at the end alone
pub read_at_end : (old new : Played) (read : Option (List ℕ)) → AnswersRead old read new → read ≡ None → (place : ReaderPosition) → new.place ≡ Some place → IsAtEnd new.log place
read_at_end old new (Some bytes) a none place at = absurd (some_none bytes none)
read_at_end old new None a none place at =
    let unmoved : new ≡ with_read None (with_release old) = a.is ∙ ap (with_read None) a.has.is in
    subst (λ (p : Played). IsAtEnd p.log place) (sym unmoved) (a.has.ends place (sym (ap (λ (p : Played). p.place) unmoved) ∙ at))

-- ---- for every answer

pub describe_held : (name : TableName) (old new : Played) (r : Result (Option RawTable) SourceError) → Plays 0 ⊥ (commits_before old) (AnswersPlayedEntry name old) old new r
    → Held (λ entry s. HasState HasPlayedState new (IsDescribed name entry s)) MayFollow Described (λ entry. SameRead old new) (λ entry. SameReader old new) old new r
describe_held name old new r p =
    held (λ entry s. HasState HasPlayedState new (IsDescribed name entry s)) MayFollow Described (λ entry. SameRead old new) (λ entry. SameReader old new) 0 ⊥ (commits_before old) (AnswersPlayedEntry name old) old new r (before_others old) p (λ s l may. may)
    (λ entry kept a. describe_ends name old new entry kept a)

pub head_held : (old new : Played) (r : Result Lsn SourceError) → Plays 0 ⊥ (commits_before old) (AnswersPlayedHead old) old new r
    → Held (λ lsn s. HasState HasPlayedState new (IsHeaded lsn s)) MayFollow Head (λ lsn. SameRead old new) (λ lsn. SameReader old new) old new r
head_held old new r p =
    held (λ lsn s. HasState HasPlayedState new (IsHeaded lsn s)) MayFollow Head (λ lsn. SameRead old new) (λ lsn. SameReader old new) 0 ⊥ (commits_before old) (AnswersPlayedHead old) old new r (before_others old) p (λ s l may. may)
    (λ lsn kept a. head_ends old new lsn kept a)

pub start_held : (after : Lsn) (old new : Played) (r : Result Started SourceError) → Plays 0 ⊥ (commits_before old) (AnswersPlayedStart after old) old new r
    → Held (λ started s. HasState HasPlayedState new (Starts after started s)) MayFollow Began (λ started. map spelling (played_messages new) ≡ []) (λ started. is_some new.place ≡ is_ready started) old new r
start_held after old new r p =
    held (λ started s. HasState HasPlayedState new (Starts after started s)) MayFollow Began (λ started. map spelling (played_messages new) ≡ []) (λ started. is_some new.place ≡ is_ready started) 0 ⊥ (commits_before old) (AnswersPlayedStart after old) old new r (before_others old) p
    (λ s l may. may) (λ started kept a. start_ends after old new started kept a)

pub read_held : (old new : Played) (r : Result (Option (List ℕ)) SourceError) → Plays 0 (IsUnfit (with_release old)) (commits_before old) (AnswersRead old) old new r
    → Held (λ read s. Takes new read s) MayFollow Read (λ read. ReadBesides old new read) (λ read. SameReader old new) old new r
read_held old new r p =
    held (λ read s. Takes new read s) MayFollow Read (λ read. ReadBesides old new read) (λ read. SameReader old new) 0 (IsUnfit (with_release old)) (commits_before old) (AnswersRead old) old new r (before_others old) p (λ s l may. may)
    (λ read kept a. read_ends old new read kept a)

pub select_held : (table : TableName) (above : Option Key) (limit : ℕ) (old new : Played) (r : Result Selected SourceError)
    → Plays (length (inside_of old)) ⊥ (commits_before old ++ map Changes (inside_of old)) (λ answer. AnswersPlayedRows table above limit old answer) old new r
    → Held (λ answer s. HasState HasPlayedState new (IsSelectAnswer (WasFair new) table above limit answer s)) MayFollow (λ answer. RowsSelected answer) (λ answer. SameRead old new) (λ answer. SameReader old new) old new r
select_held table above limit old new r p =
    held (λ answer s. HasState HasPlayedState new (IsSelectAnswer (WasFair new) table above limit answer s)) MayFollow (λ answer. RowsSelected answer) (λ answer. SameRead old new) (λ answer. SameReader old new)
    (length (inside_of old)) ⊥ (commits_before old ++ map Changes (inside_of old)) (λ answer. AnswersPlayedRows table above limit old answer) old new r (around_others old) p (λ s l may. may)
    (λ answer kept a. select_ends table above limit old new answer kept a)

pub mark_held : {T : Type 0} (value : List ℕ) (old new : Played) (r : Result T SourceError) → Plays 1 ⊥ (commits_before old) (λ done n. n ≡ with_mark value (with_release old)) old new r
    → Held (λ done s. HasState HasPlayedState new (IsMarked value s)) (MayFollowMark value) (λ done. Done) (λ done. SameRead old new) (λ done. SameReader old new) old new r
mark_held value old new r p =
    held (λ done s. HasState HasPlayedState new (IsMarked value s)) (MayFollowMark value) (λ done. Done) (λ done. SameRead old new) (λ done. SameReader old new) 1 ⊥ (commits_before old) (λ done n. n ≡ with_mark value (with_release old)) old new r (before_others old) p
    (λ s l may. without_mark value s l may) (λ done kept is. mark_ends value old new kept is)

pub confirm_held : {T : Type 0} (upto : Lsn) (old new : Played) (r : Result T SourceError) → Plays 0 ⊥ (commits_before old) (λ done n. n ≡ with_confirmed upto (with_release old)) old new r
    → Held (λ done s. HasState HasPlayedState new (IsConfirmed upto s)) (MayFollowConfirm upto) (λ done. Done) (λ done. SameRead old new) (λ done. SameReader old new) old new r
confirm_held upto old new r p =
    held (λ done s. HasState HasPlayedState new (IsConfirmed upto s)) (MayFollowConfirm upto) (λ done. Done) (λ done. SameRead old new) (λ done. SameReader old new) 0 ⊥ (commits_before old) (λ done n. n ≡ with_confirmed upto (with_release old)) old new r (before_others old) p
    (λ s l may. unconfirmed upto s l may) (λ done kept is. confirm_ends upto old new kept is)

-- ---- whether reading has ended

pub describe_still : (name : TableName) (old new : Played) (r : Result (Option RawTable) SourceError) → Plays 0 ⊥ (commits_before old) (AnswersPlayedEntry name old) old new r → new.ended ≡ old.ended
describe_still name old new r p = stays 0 ⊥ (commits_before old) (AnswersPlayedEntry name old) old new r (before_others old) p (λ entry a. ap (λ (q : Played). q.ended) a.is)

pub head_still : (old new : Played) (r : Result Lsn SourceError) → Plays 0 ⊥ (commits_before old) (AnswersPlayedHead old) old new r → new.ended ≡ old.ended
head_still old new r p = stays 0 ⊥ (commits_before old) (AnswersPlayedHead old) old new r (before_others old) p (λ lsn a. ap (λ (q : Played). q.ended) a.is)

pub start_unended : (after : Lsn) (old new : Played) (r : Result Started SourceError) → Plays 0 ⊥ (commits_before old) (AnswersPlayedStart after old) old new r → OnOk r (new.ended ≡ false)
start_unended after old new (Ok started) p = ap (λ (q : Played). q.ended) p.played.is
start_unended after old new (Err e) p = tt

pub read_none : (old new : Played) (r : Result (Option (List ℕ)) SourceError) → Plays 0 (IsUnfit (with_release old)) (commits_before old) (AnswersRead old) old new r → IfOk r (λ read. new.ended ≡ is_none read)
read_none old new (Ok read) p = ap (λ (q : Played). q.ended) p.played.is
read_none old new (Err e) p = tt

pub select_still : (table : TableName) (above : Option Key) (limit : ℕ) (old new : Played) (r : Result Selected SourceError)
    → Plays (length (inside_of old)) ⊥ (commits_before old ++ map Changes (inside_of old)) (λ answer. AnswersPlayedRows table above limit old answer) old new r → new.ended ≡ old.ended
select_still table above limit old new r p =
    stays (length (inside_of old)) ⊥ (commits_before old ++ map Changes (inside_of old)) (λ answer. AnswersPlayedRows table above limit old answer) old new r (around_others old) p (λ answer a. ap (λ (q : Played). q.ended) a.is)

pub mark_still : {T : Type 0} (value : List ℕ) (old new : Played) (r : Result T SourceError) → Plays 1 ⊥ (commits_before old) (λ done n. n ≡ with_mark value (with_release old)) old new r → new.ended ≡ old.ended
mark_still value old new r p = stays 1 ⊥ (commits_before old) (λ done n. n ≡ with_mark value (with_release old)) old new r (before_others old) p (λ done is. ap (λ (q : Played). q.ended) is)

pub confirm_still : {T : Type 0} (upto : Lsn) (old new : Played) (r : Result T SourceError) → Plays 0 ⊥ (commits_before old) (λ done n. n ≡ with_confirmed upto (with_release old)) old new r → new.ended ≡ old.ended
confirm_still upto old new r p = stays 0 ⊥ (commits_before old) (λ done n. n ≡ with_confirmed upto (with_release old)) old new r (before_others old) p (λ done is. ap (λ (q : Played). q.ended) is)

-- ---- what they make of the script, where they answer

pub describe_played : (name : TableName) (old new : Played) (r : Result (Option RawTable) SourceError) → Plays 0 ⊥ (commits_before old) (AnswersPlayedEntry name old) old new r
    → OnOk r ((place : Option ℕ) × (new ≡ with_answer (answers.Described place) (with_release old)))
describe_played name old new (Ok entry) p = (p.played.place, p.played.is)
describe_played name old new (Err e) p = tt

pub describe_named : (name : TableName) (old new : Played) (r : Result (Option RawTable) SourceError) → Plays 0 ⊥ (commits_before old) (AnswersPlayedEntry name old) old new r → IfOk r (λ entry. IfSome entry (λ raw. raw.name ≡ name))
describe_named name old new (Ok entry) p = subst (λ (o : Option RawTable). IfSome o (λ raw. raw.name ≡ name)) (sym (p.played.found.there ∙ p.played.found.named)) (found_named (catalogue (tables_now (with_release old))) name)
describe_named name old new (Err e) p = tt

pub head_played : (old new : Played) (r : Result Lsn SourceError) → Plays 0 ⊥ (commits_before old) (AnswersPlayedHead old) old new r → OnOk r (new ≡ with_head (with_release old))
head_played old new (Ok lsn) p = p.played.is
head_played old new (Err e) p = tt

pub start_played : (after : Lsn) (old new : Played) (r : Result Started SourceError) → Plays 0 ⊥ (commits_before old) (AnswersPlayedStart after old) old new r
    → IfOk r (λ started. (started ≡ started_at after old) × (new ≡ with_start after (with_release old)))
start_played after old new (Ok started) p = (p.played.told, p.played.is)
start_played after old new (Err e) p = tt

pub read_played : (old new : Played) (r : Result (Option (List ℕ)) SourceError) → IsTrue (is_some old.place) → Plays 0 (IsUnfit (with_release old)) (commits_before old) (AnswersRead old) old new r
    → IfOk r (λ read. (place : ReaderPosition) × (what : Last) × (new ≡ with_answer what (record (with_release old) { place = Some place; ended = is_none read })))
read_played old new (Ok read) some p = read_plays old new read some p.played
read_played old new (Err e) some p = tt

pub read_ended : (old new : Played) (r : Result (Option (List ℕ)) SourceError) → Plays 0 (IsUnfit (with_release old)) (commits_before old) (AnswersRead old) old new r
    → IfOk r (λ read. (read ≡ None) → (place : ReaderPosition) → new.place ≡ Some place → IsAtEnd new.log place)
read_ended old new (Ok read) p = read_at_end old new read p.played
read_ended old new (Err e) p = tt

pub select_played : (table : TableName) (above : Option Key) (limit : ℕ) (old new : Played) (r : Result Selected SourceError)
    → Plays (length (inside_of old)) ⊥ (commits_before old ++ map Changes (inside_of old)) (λ answer. AnswersPlayedRows table above limit old answer) old new r
    → IfOk r (λ answer. (answer ≡ next_selected old) × (new ≡ with_select table above limit (length old.log) (inside_of old) (with_release old)))
select_played table above limit old new (Ok answer) p = (p.played.told, p.played.is)
select_played table above limit old new (Err e) p = tt
