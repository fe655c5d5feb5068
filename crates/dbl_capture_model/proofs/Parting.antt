-- A session that ends within a transaction: its sink has some first records of that, but not all.
use Rattle.std.proofs.Common.{◌≡◌, ◌∙◌, ◌⊎◌, inl, inr, ◌+◌, ◌≤◌, ◌<◌, ℕ, zero, suc, ℤ, max, Option, Some, None, List, [], ◌∷◌, ◌++◌, length, map, take, drop, refl, sym, ap, subst, arith, append_assoc, length-append, le_refl}
use Rattle.std.specs.Prelude.{IfSome, IsSomeAnd, flat_map, slice_get}
use Rattle.std.specs.List.{AllByRecursion, AllZip}
use Rattle.std.proofs.lemmas.List.{length-map}
use Rattle.std.proofs.lemmas.List.Concat.{flat_map-append}
use Rattle.dbl_base.specs.declared.lsn.Lsn.{Lsn}
use Rattle.dbl_pgmsg.specs.declared.messages.Message.{Message}
use Rattle.dbl_record.specs.declared.record.Record.{Record}
use Rattle.dbl_record.specs.Cuts.{cut, joined}
use Rattle.dbl_model_table.specs.declared.identity.Identity.{Identity}
use Rattle.dbl_model_table.specs.declared.table.TableInfo.{TableInfo}
use Rattle.dbl_model_table.specs.declared.change.Change.{Change}
use Rattle.dbl_model_table.specs.declared.change.Commit.{Commit}
use Rattle.dbl_model_table.specs.declared.change.Head.{Head}
use Rattle.dbl_model_table.specs.Heads.{commit_head, commit_so_far}
use Rattle.dbl_model_table.specs.Rows.{changes_of}
use Rattle.dbl_faithful.specs.ModelHistory.History.{AreRising, RawCommit}
use Rattle.dbl_faithful.specs.ModelHistory.Ranges.{IsMomentInRange}
use Rattle.dbl_faithful.specs.ModelHistory.Typed.{typed_commit}
use Rattle.dbl_faithful.proofs.ModelHistoryMomentLemmas.{lsns}
use Rattle.dbl_faithful.specs.ModelEvent.Events.{Notice, notices, numbered, events_of}
use Rattle.dbl_faithful.specs.ModelEvent.EventJson.{print, source_data, envelopes}
use Rattle.dbl_faithful.specs.ModelEvent.Clashes.{notice_clash, first_found, clash_of}
use Rattle.dbl_faithful.proofs.ConsumeLawsCommits.{fit_commits}
use Rattle.dbl_faithful.proofs.ConsumeLawsNotices.{all_append}
use Rattle.dbl_faithful.specs.ToldEvents.{tell, IsClearPrint}
use Rattle.dbl_faithful.proofs.Agree.{commit_run}
use Rattle.dbl_faithful.proofs.Items.{all_weaker}
use Rattle.dbl_capture_model.proofs.Rising.{all_above, rising_after, raw_next}
use Rattle.dbl_faithful.specs.Stores.{IsCommitAt, top_position, lag}
use Rattle.dbl_faithful.specs.Faithful.{IsFaithful}
use Rattle.dbl_faithful.specs.Lag.{IsOffsetOf}
use Rattle.dbl_faithful.specs.Onward.{IsLaterCursor, Adds}
use Rattle.dbl_faithful.specs.Offset.declared.offset.Offset.{Offset}
use Rattle.dbl_faithful.proofs.Faithful.{faithful_records_stand}
use Rattle.dbl_faithful.proofs.Offsets.{more_records_keep_offsets}
use Rattle.dbl_faithful.proofs.Splits.{RawNext, top_sent}
use Rattle.dbl_faithful.proofs.Lists.{after_position, after_top}
use Rattle.dbl_follow.specs.SourceModel.Standings.{CrashState}
use Rattle.dbl_follow.specs.SourceModel.Stated.{StatesSome, ReadsRight, to_state}
use Rattle.dbl_follow.specs.ModelCommit.Blocks.{AreWithoutFault}
use Rattle.dbl_follow.specs.ModelCommit.Past.{begin_of}
use Rattle.dbl_follow.specs.ModelCommit.Stated.{open_changes}
use Rattle.dbl_follow.specs.ModelCommit.BegunCommits.{BeginsCommit}
use Rattle.dbl_capture_model.specs.Entries.{SessionStart, WasFaithful}
use Rattle.dbl_capture_model.specs.Stages.{Stage, records_of_stage, next_offset, read_at, IsOfSession, far_at}
use Rattle.dbl_follow.proofs.WindowHonestLemmas.{captured_stays}
use Rattle.dbl_capture_model.specs.Delivered.{IsDelivered}
use Rattle.dbl_capture_model.proofs.Delivered.{sent_on, delivered_faithful}
use Rattle.dbl_capture_model.specs.Going.{IsFirstOf, IsPlacedInHistory, KeepsStage, IsGoing}
use Rattle.dbl_capture_model.specs.Exits.{MayBeLeft, PartsMayBeLeft, ReadHistoriesAreClosed}
use Rattle.dbl_capture_model.specs.Outcomes.{FollowsSession}
use Rattle.dbl_capture_model.proofs.Events.{cancel, no_first, no_other, envelopes_rise}
use Rattle.dbl_capture_model.proofs.Growing.{new}
use Rattle.dbl_capture_model.proofs.Sending.{AreSent, adds_more, grouped_more, joined_more, at_commit}
use Rattle.dbl_capture_model.proofs.Ending.{stood_of, rising_front, offset_goes, appends_so, lag_near, lag_far, up_of, up_left, offset_left, grown_all, rise_all, fit_longer, same}

-- ---- the commit that the open transaction begins

-- what a longer list begins with
some_first : (later : List Commit) (P : Commit → Type 0) → IsSomeAnd (slice_get later 0) P → (commit : Commit) × (rest : List Commit) × (later ≡ commit ∷ rest) × P commit
some_first [] P is = absurd is
some_first (commit ∷ rest) P is = (commit, rest, refl, is)

states_now : (infos : List TableInfo) (after : Lsn) (commits : List Commit) (ms : List Message) (head : Head) → begin_of ms ≡ Some head → ReadsRight infos after commits ms → AreWithoutFault infos after ms → StatesSome infos commits ms
states_now infos after commits [] head begun right accepted = cc
states_now infos after commits (m ∷ ms) head begun right accepted = right.1 accepted

-- it comes next, and its first changes are those stated so far
pub record BeginsNextCommit (stage : Stage) (later : List Commit) (head : Head) : Type 0 where
  pub commit : Commit
  pub rest : List Commit
  pub is : later ≡ commit ∷ rest
  pub head_is : head ≡ commit_head commit
  pub more : List Change
  pub changes : changes_of commit ≡ open_changes stage.first.infos stage.messages ++ more

pub next_begun : (entry : SessionStart) (stage : Stage) (head : Head) (later : List Commit) → begin_of stage.messages ≡ Some head → IsGoing entry stage
    → to_state stage.first.infos stage.first.lsn stage.history ≡ read_at stage ++ later → BeginsNextCommit stage later head
next_begun entry stage head later begun going stated =
    let some = states_now stage.first.infos stage.first.lsn (to_state stage.first.infos stage.first.lsn stage.history) stage.messages head begun going.reading.right going.reading.accepted in
    let same : later ≡ some.later = cancel (read_at stage) later some.later (sym stated ∙ some.stated) in
    let next : IsSomeAnd (slice_get some.later 0) (BeginsCommit stage.first.infos stage.messages head) =
    subst (λ (o : Option Head). IfSome o (λ b. IsSomeAnd (slice_get some.later 0) (BeginsCommit stage.first.infos stage.messages b))) begun some.next in
    let first = some_first some.later (BeginsCommit stage.first.infos stage.messages head) next in
    record {
      commit = first.0;
      rest = first.1;
      is = same ∙ first.2;
      head_is = λ i. record { lsn = first.3.lsn i; time = first.3.time i; xid = first.3.xid i };
      more = first.3.rest;
      changes = sym first.3.stated;
    }

-- ---- a part of its records

-- some first records of a transaction so far, but not its last one, are clear prints of the first events of what it becomes
clear_front : (identity : Identity) (commit : Commit) (now : ℤ) → IsMomentInRange now → (position ordinal n : ℕ) (ns more : List Notice) → n < length ns → first_found (notice_clash identity.placeholder) ns ≡ None
    → AllZip (IsClearPrint identity) (take n (map (tell commit) (numbered position ordinal (ns ++ more)))) (take n (map (print identity commit now) (numbered position ordinal ns)))
clear_front identity commit now in_range position ordinal zero ns more lt clear = tt
clear_front identity commit now in_range position ordinal (suc n) [] more lt clear = absurd (none_less n lt)
  where
    none_less : (n : ℕ) → suc n < zero → ⊥
    none_less n lt = omega (arith, lt)
clear_front identity commit now in_range position ordinal (suc n) (x ∷ []) more lt clear = absurd (one_only n lt)
  where
    one_only : (n : ℕ) → suc n < suc zero → ⊥
    one_only n lt = omega (arith, lt)
clear_front identity commit now in_range position ordinal (suc n) (x ∷ (y ∷ ns)) more lt clear =
    let first : notice_clash identity.placeholder x ≡ None = no_first (notice_clash identity.placeholder x) (first_found (notice_clash identity.placeholder) (y ∷ ns)) clear in
    let rest : first_found (notice_clash identity.placeholder) (y ∷ ns) ≡ None = no_other (notice_clash identity.placeholder x) (first_found (notice_clash identity.placeholder) (y ∷ ns)) clear in (
      record { is = record { now = now; in_range = in_range; printed = refl }; clear = first },
      clear_front identity commit now in_range position (ordinal + 1) n (y ∷ ns) more (one_less n (length (y ∷ ns)) lt) rest,
    )
  where
    one_less : (a b : ℕ) → suc a < suc b → a < b
    one_less a b lt = omega (arith, lt)

numbered_long : (position ordinal : ℕ) (ns : List Notice) → length (numbered position ordinal ns) ≡ length ns
numbered_long position ordinal [] = refl
numbered_long position ordinal (x ∷ ns) = ap (λ (n : ℕ). suc n) (numbered_long position (ordinal + 1) ns)

short_take : {X : Type 0} (n : ℕ) (xs : List X) → n < length xs → length (take n xs) ≡ n
short_take zero xs lt = refl
short_take (suc n) [] lt = absurd (none_less n lt)
  where
    none_less : (n : ℕ) → suc n < zero → ⊥
    none_less n lt = omega (arith, lt)
short_take (suc n) (x ∷ xs) lt = ap (λ (k : ℕ). suc k) (short_take n xs (one_less n (length xs) lt))
  where
    one_less : (a b : ℕ) → suc a < suc b → a < b
    one_less a b lt = omega (arith, lt)

-- the transaction so far, as the commit that it becomes has its Begin
abbrev pub so_far : Commit → List Change → Commit
so_far commit changes = commit_so_far (commit_head commit) changes

-- its records show the Begin alone
printed_so : (identity : Identity) (infos : List TableInfo) (commit : Commit) (changes : List Change) (now : ℤ)
    → envelopes identity infos (so_far commit changes) now ≡ map (print identity commit now) (numbered commit.lsn.0 0 (flat_map (notices infos) changes))
unfolding source_data
printed_so identity infos commit changes now = refl

pub zipped_part : (identity : Identity) (infos : List TableInfo) (commit : Commit) (changes more : List Change) (now : ℤ) (n : ℕ) → IsMomentInRange now → changes_of commit ≡ changes ++ more
    → clash_of identity infos (so_far commit changes) ≡ None → n < length (envelopes identity infos (so_far commit changes) now)
    → AllZip (IsClearPrint identity) (take (length (take n (envelopes identity infos (so_far commit changes) now))) (drop 0 (map (tell commit) (events_of infos commit)))) (take n (envelopes identity infos (so_far commit changes) now))
zipped_part identity infos commit changes more now n in_range is clear lt =
    let ns = flat_map (notices infos) changes in
    let long : length (envelopes identity infos (so_far commit changes) now) ≡ length ns =
    length-map (numbered commit.lsn.0 0 ns) (print identity (so_far commit changes) now) ∙ numbered_long commit.lsn.0 0 ns in
    subst (λ (k : ℕ). AllZip (IsClearPrint identity) (take k (map (tell commit) (events_of infos commit))) (take n (envelopes identity infos (so_far commit changes) now))) (sym (short_take n (envelopes identity infos (so_far commit changes) now) lt))
    (subst (λ (l : List Record). AllZip (IsClearPrint identity) (take n (map (tell commit) (events_of infos commit))) (take n l)) (sym (printed_so identity infos commit changes now))
    (subst (λ (l : List Notice). AllZip (IsClearPrint identity) (take n (map (tell commit) (numbered commit.lsn.0 0 l))) (take n (map (print identity commit now) (numbered commit.lsn.0 0 ns))))
    (sym (ap (flat_map (notices infos)) is ∙ flat_map-append (notices infos) changes more))
    (clear_front identity commit now in_range commit.lsn.0 0 n ns (flat_map (notices infos) more) (subst (λ (k : ℕ). n < k) long lt) clear)))

-- ---- what it leaves

trans_le : (a b c : ℕ) → a ≤ b → b ≤ c → a ≤ c
trans_le a b c one two = omega (arith, one, two)

at_le : (a b c d : ℕ) → a ≤ b → b < c → d ≡ c → a ≤ d
at_le a b c d le lt is = omega (arith, le, lt, is)

same_le : (a b : ℕ) → a ≡ b → a ≤ b
same_le a b is = omega (arith, is)

zero_le : (a b c : ℕ) → a ≡ b → b ≡ 0 → a ≤ c
zero_le a b c one two = omega (arith, one, two)

one_more : (a b c d : ℕ) → a ≡ b + 1 → b ≡ c → c < d → a ≤ d
one_more a b c d is same lt = omega (arith, is, same, lt)

at_place : (xs ys : List RawCommit) (c : RawCommit) (position : ℕ) → c.lsn.0 ≡ position → (place : ℕ) × (slice_get (map (λ (x : RawCommit). x.lsn.0) (xs ++ c ∷ ys)) place ≡ Some position)
at_place [] ys c position is = (0, ap (λ (n : ℕ). Some n) is)
at_place (x ∷ xs) ys c position is = let rest = at_place xs ys c position is in (suc rest.0, rest.1)

module _ (entry : SessionStart) (stage : Stage) (left : CrashState) (faithful : WasFaithful entry) (in_range : IsMomentInRange entry.now) (since : stage.since < entry.config.every) (may : MayBeLeft stage left) (going : IsGoing entry stage)
    (commit : Commit) (rest : List Commit) (later_is : (going.placed (stood_of entry faithful)).parts.later ≡ commit ∷ rest) (changes more : List Change) (changes_are : changes_of commit ≡ changes ++ more)
    (clear : clash_of stage.first.identity stage.first.infos (so_far commit changes) ≡ None) (n : ℕ) (few : n < length (envelopes stage.first.identity stage.first.infos (so_far commit changes) entry.now)) where
  abbrev placed : IsPlacedInHistory stage
  placed = going.placed (stood_of entry faithful)

  abbrev kept : KeepsStage entry stage (going.placed (stood_of entry faithful)).parts
  kept = going.kept (stood_of entry faithful) faithful

  abbrev all : List Record
  all = envelopes stage.first.identity stage.first.infos (so_far commit changes) entry.now

  abbrev part : List Record
  part = take n all

  abbrev before : List Commit
  before = placed.parts.old ++ read_at stage

  -- what comes after it in the history that is left
  abbrev later : List Commit
  later = rest ++ new entry stage may.more (fit_longer entry stage left faithful may going)

  sent : AreSent commit all
  sent = record { run = commit_run stage.first.identity stage.first.infos (so_far commit changes) entry.now; rise = envelopes_rise stage.first.identity stage.first.infos (so_far commit changes) entry.now }

  over_all : AllByRecursion (λ c. stage.lsn.0 < c.lsn.0) (commit ∷ rest)
  over_all = subst (AllByRecursion (λ (c : Commit). stage.lsn.0 < c.lsn.0)) later_is placed.parts.over

  lt : stage.lsn.0 < commit.lsn.0
  lt = over_all.0

  longer_is : placed.parts.later ++ new entry stage may.more (fit_longer entry stage left faithful may going) ≡ commit ∷ later
  longer_is = ap (λ (l : List Commit). l ++ new entry stage may.more (fit_longer entry stage left faithful may going)) later_is

  -- the log with the part, in the history that is left
  up_part : IsDelivered stage.first.identity stage.first.infos left.history stage.first.start.0 stage.first.lsn.0 stage.lsn.0 (max (far_at entry stage) commit.lsn.0) before (commit ∷ later) (0 + length part) (records_of_stage stage ++ part)
  up_part =
      sent_on stage.first.identity stage.first.infos left.history may.fit (captured_stays stage.history left.history stage.first.infos may.grown.tables going.reading.infos) stage.first.start.0 stage.first.lsn.0 stage.lsn.0 (far_at entry stage) before commit later 0 (records_of_stage stage)
      (subst (λ (l : List Commit). IsDelivered stage.first.identity stage.first.infos left.history stage.first.start.0 stage.first.lsn.0 stage.lsn.0 (far_at entry stage) before l 0 (records_of_stage stage)) longer_is (up_left entry stage left faithful may going)) part
      (zipped_part stage.first.identity stage.first.infos commit changes more entry.now n in_range changes_are clear few)

  joined_is : joined (stage.groups ++ cut part) ≡ records_of_stage stage ++ part
  joined_is = joined_more entry stage placed.parts kept commit all lt sent n

  abbrev adds_part : Adds stage.first.lsn.0 (joined entry.groups) (records_of_stage stage ++ part)
  adds_part = adds_more entry stage placed.parts kept commit all lt sent n

  -- ---- how far it lags

  over_rest : AllByRecursion (λ c. commit.lsn.0 < c.lsn.0) rest
  over_rest = all_above commit.lsn.0 rest (rising_after 0 before commit rest (subst (λ (l : List Commit). AreRising 0 (lsns l)) (placed.parts.spelled ∙ ap (λ (l : List Commit). before ++ l) later_is) (fit_commits stage.history stage.first.infos going.reading.fit going.reading.infos).rise))

  raw : RawNext kept.near.later commit.lsn.0
  raw =
      raw_next stage.first.infos stage.lsn.0 (kept.near.before ++ kept.near.since) kept.near.later before commit rest
      (ap (map (typed_commit stage.first.infos)) (append_assoc kept.near.before kept.near.since kept.near.later ∙ sym kept.near.spelled) ∙ (placed.parts.spelled ∙ ap (λ (l : List Commit). before ++ l) later_is))
      (all_append (λ (c : RawCommit). c.lsn.0 ≤ stage.lsn.0) kept.near.before kept.near.since
      (all_weaker (λ (c : RawCommit). c.lsn.0 ≤ stage.stored.lsn.0) (λ (c : RawCommit). c.lsn.0 ≤ stage.lsn.0) kept.near.before (λ c le. trans_le c.lsn.0 stage.stored.lsn.0 stage.lsn.0 le kept.to) kept.near.settled) kept.near.followed)
      kept.near.over placed.parts.under over_all over_rest

  top_part : (top_position (records_of_stage stage ++ part) ≤ commit.lsn.0) ⊎ (top_position (records_of_stage stage ++ part) ≡ top_position (joined entry.groups))
  top_part =
      top_sent (records_of_stage stage) part (top_position (joined entry.groups)) stage.lsn.0 commit.lsn.0 lt
      (all_weaker (λ (item : Record). item.position ≡ commit.lsn.0) (λ (item : Record). item.position ≤ commit.lsn.0) part (λ item is. same_le item.position commit.lsn.0 is) (at_commit entry stage placed.parts kept commit all lt sent n)) kept.near.top

  -- the history has it
  stands : IsCommitAt stage.history commit.lsn.0
  stands =
      subst (λ (l : List RawCommit). (place : ℕ) × (slice_get (map (λ (c : RawCommit). c.lsn.0) l) place ≡ Some commit.lsn.0))
      (sym (kept.near.spelled ∙ (sym (append_assoc kept.near.before kept.near.since kept.near.later) ∙ ap (λ (l : List RawCommit). (kept.near.before ++ kept.near.since) ++ l) raw.is)))
      (at_place (kept.near.before ++ kept.near.since) raw.rest raw.raw commit.lsn.0 raw.lsn_is)

  -- of the history that is left, what comes after the commit is above it
  over_left : AllByRecursion (λ (c : RawCommit). commit.lsn.0 < c.lsn.0) (raw.rest ++ may.more)
  over_left =
      all_append (λ (c : RawCommit). commit.lsn.0 < c.lsn.0) raw.rest may.more raw.over
      (after_position stage.history may.more (fit_longer entry stage left faithful may going).rising commit.lsn.0 (inr stands))

  near_part : (offset : Offset) → stage.stored.lsn.0 ≤ offset.lsn.0 → top_position (records_of_stage stage ++ part) ≤ commit.lsn.0 → lag left.history (records_of_stage stage ++ part) (Some offset) ≤ max entry.config.every (lag entry.history (joined entry.groups) entry.offset)
  near_part offset le top =
      lag_near left.history (records_of_stage stage ++ part) offset kept.near.before (kept.near.since ++ raw.raw ∷ []) (raw.rest ++ may.more) commit.lsn.0 entry.config.every (lag entry.history (joined entry.groups) entry.offset)
      (may.grown.commits
      ∙ (ap (λ (l : List RawCommit). l ++ may.more) (kept.near.spelled ∙ ap (λ (l : List RawCommit). kept.near.before ++ l) (ap (λ (l : List RawCommit). kept.near.since ++ l) raw.is ∙ sym (append_assoc kept.near.since (raw.raw ∷ []) raw.rest)))
      ∙ (append_assoc kept.near.before ((kept.near.since ++ raw.raw ∷ []) ++ raw.rest) may.more ∙ ap (λ (l : List RawCommit). kept.near.before ++ l) (append_assoc (kept.near.since ++ raw.raw ∷ []) raw.rest may.more))))
      (all_weaker (λ (c : RawCommit). c.lsn.0 ≤ stage.stored.lsn.0) (λ (c : RawCommit). c.lsn.0 ≤ offset.lsn.0) kept.near.before (λ c low. trans_le c.lsn.0 stage.stored.lsn.0 offset.lsn.0 low le) kept.near.settled)
      over_left top
      (one_more (length (kept.near.since ++ raw.raw ∷ [])) (length kept.near.since) stage.since entry.config.every (length-append kept.near.since (raw.raw ∷ [])) kept.near.many since)

  far_part : (offset : Offset) (old : Option Offset) → IsFaithful entry.history entry.confirmed (joined entry.groups) old → IsFirstOf entry stage.history stage.first old → stage.stored.lsn.0 ≤ offset.lsn.0
      → top_position (records_of_stage stage ++ part) ≡ top_position (joined entry.groups) → (top_position (records_of_stage stage ++ part) ≤ commit.lsn.0 → lag left.history (records_of_stage stage ++ part) (Some offset) ≤ max entry.config.every (lag entry.history (joined entry.groups) old))
      → lag left.history (records_of_stage stage ++ part) (Some offset) ≤ max entry.config.every (lag entry.history (joined entry.groups) old)
  far_part offset None is began le top near = near (zero_le (top_position (records_of_stage stage ++ part)) (top_position (joined entry.groups)) commit.lsn.0 top (ap top_position is.empty))
  far_part offset (Some old) is began le top near =
      lag_far entry.history left.history (going.reading.more ++ may.more) (joined entry.groups) (records_of_stage stage ++ part) old offset entry.config.every
      (rising_front 0 entry.history.commits (going.reading.more ++ may.more) (rise_all entry stage left faithful may going)) (grown_all entry stage left faithful may going)
      (after_top entry.history (going.reading.more ++ may.more) (rise_all entry stage left faithful may going) (joined entry.groups) (λ place item at. faithful_records_stand entry.history entry.confirmed (joined entry.groups) old place item is at)) top
      (trans_le old.lsn.0 stage.stored.lsn.0 offset.lsn.0 (trans_le old.lsn.0 stage.first.lsn.0 stage.stored.lsn.0 (same_le old.lsn.0 stage.first.lsn.0 (sym (ap (λ (l : Lsn). l.0) began.0.lsn))) kept.from) le)

  lag_part : (offset : Offset) → stage.stored.lsn.0 ≤ offset.lsn.0 → lag left.history (records_of_stage stage ++ part) (Some offset) ≤ max entry.config.every (lag entry.history (joined entry.groups) entry.offset)
  lag_part offset le = by top_part
    where
      by : (top_position (records_of_stage stage ++ part) ≤ commit.lsn.0) ⊎ (top_position (records_of_stage stage ++ part) ≡ top_position (joined entry.groups)) → lag left.history (records_of_stage stage ++ part) (Some offset) ≤ max entry.config.every (lag entry.history (joined entry.groups) entry.offset)
      by (inl low) = near_part offset le low
      by (inr far) = far_part offset entry.offset faithful going.reading.began le far (near_part offset le)

  -- ---- all of it

  pub part_follows : (offset : Offset) → IsOfSession stage.first offset → stage.stored.lsn.0 ≤ offset.lsn.0 → offset.lsn.0 ≤ stage.lsn.0 → IsOffsetOf stage.history stage.confirmed (records_of_stage stage) offset
      → AllZip IsLaterCursor stage.first.cursors offset.cursors → FollowsSession entry left (stage.groups ++ cut part) (Some offset)
  part_follows offset is from to of later_cursors =
      let low : left.confirmed.0 ≤ offset.lsn.0 = trans_le left.confirmed.0 stage.stored.lsn.0 offset.lsn.0 may.confirmed from in
      let late : AllByRecursion (λ (item : Record). offset.lsn.0 ≤ item.position) part =
      all_weaker (λ (item : Record). item.position ≡ commit.lsn.0) (λ (item : Record). offset.lsn.0 ≤ item.position) part (λ item at. at_le offset.lsn.0 stage.lsn.0 commit.lsn.0 item.position to lt at) (at_commit entry stage placed.parts kept commit all lt sent n) in
      record {
        faithful = subst (λ (l : List Record). IsFaithful left.history left.confirmed l (Some offset)) (sym joined_is)
            (delivered_faithful left.history left.confirmed (records_of_stage stage ++ part) offset stage.first.lsn.0 stage.lsn.0 (max (far_at entry stage) commit.lsn.0) before (commit ∷ later) (0 + length part)
            (trans_le stage.first.lsn.0 stage.stored.lsn.0 offset.lsn.0 kept.from from) to
            ((more_records_keep_offsets left.history left.confirmed (records_of_stage stage) part offset late).0 (offset_left entry stage left faithful may going offset is.incarnation low of))
            (up_of stage.first offset left.history stage.first.lsn.0 stage.lsn.0 (max (far_at entry stage) commit.lsn.0) before (commit ∷ later) (0 + length part) (records_of_stage stage ++ part) is up_part));
        onward = record {
          tables = may.grown.tables ∙ going.reading.grown.tables;
          commits = record { more = going.reading.more ++ may.more; is = grown_all entry stage left faithful may going };
          records = record { more = kept.adds.more ++ part; is = joined_is ∙ adds_part.is };
          offset = offset_goes entry stage.history left.history may.more stage.first offset entry.offset (same entry stage left faithful may going) going.reading.began is (trans_le stage.first.lsn.0 stage.stored.lsn.0 offset.lsn.0 kept.from from) later_cursors;
        };
        no_fall = trans_le entry.confirmed.0 stage.confirmed.0 left.confirmed.0 going.reading.no_fall may.no_fall;
        adds = record {
          more = kept.adds.more ++ part;
          is = joined_is ∙ adds_part.is;
          above = subst (λ (position : ℕ). AllByRecursion (λ (item : Record). position < item.position) (kept.adds.more ++ part)) (sym (appends_so entry stage.history stage.first offset entry.offset going.reading.began is)) adds_part.above;
          rise = adds_part.rise;
        };
        grouped = grouped_more entry stage placed.parts kept commit all lt sent n;
        lag_is = subst (λ (l : List Record). lag left.history l (Some offset) ≤ max entry.config.every (lag entry.history (joined entry.groups) entry.offset)) (sym joined_is) (lag_part offset from);
      }

pub parts_may_be_left : PartsMayBeLeft
parts_may_be_left entry stage left part offset faithful in_range since may opened which going =
    let parts = (going.placed (stood_of entry faithful)).parts in
    let k = going.kept (stood_of entry faithful) faithful in
    let next = next_begun entry stage opened.head parts.later opened.begun going parts.stated in
    let changes = open_changes stage.first.infos stage.messages in
    let clear : clash_of stage.first.identity stage.first.infos (so_far next.commit changes) ≡ None =
    subst (λ (h : Head). clash_of stage.first.identity stage.first.infos (commit_so_far h changes) ≡ None) next.head_is opened.no_clash in
    let is : part ≡ take opened.count (envelopes stage.first.identity stage.first.infos (so_far next.commit changes) entry.now) =
    opened.is ∙ ap (λ (h : Head). take opened.count (envelopes stage.first.identity stage.first.infos (commit_so_far h changes) entry.now)) next.head_is in
    let few : opened.count < length (envelopes stage.first.identity stage.first.infos (so_far next.commit changes) entry.now) =
    subst (λ (h : Head). opened.count < length (envelopes stage.first.identity stage.first.infos (commit_so_far h changes) entry.now)) next.head_is opened.few in
    let follows = part_follows entry stage left faithful in_range since may going next.commit next.rest next.is changes next.more next.changes clear opened.count few in
    subst (λ (l : List Record). FollowsSession entry left (stage.groups ++ cut l) (Some offset)) (sym is)
    (elim which [
      | inl stored ↦ subst (λ (o : Offset). FollowsSession entry left (stage.groups ++ cut (take opened.count (envelopes stage.first.identity stage.first.infos (so_far next.commit changes) entry.now))) (Some o)) (sym stored)
          (follows stage.stored going.reading.of_session (le_refl stage.stored.lsn.0) k.to k.stored_is going.reading.stored_later)
      | inr later ↦ subst (λ (o : Offset). FollowsSession entry left (stage.groups ++ cut (take opened.count (envelopes stage.first.identity stage.first.infos (so_far next.commit changes) entry.now))) (Some o)) (sym later)
          (follows (next_offset stage) (record { identity = refl; infos = refl; versions = refl; start = refl; incarnation = refl }) k.to (le_refl stage.lsn.0) k.next_is going.reading.counted.come.later)
    ])

-- ---- where all was read

too_many : (all read more : ℕ) → all ≡ read + suc more → all ≤ read → ⊥
too_many all read more is le = omega (arith, is, le)

pub read_histories_are_closed : ReadHistoriesAreClosed
read_histories_are_closed entry stage le going = by (begin_of stage.messages) refl
  where
    by : (o : Option Head) → begin_of stage.messages ≡ o → o ≡ None
    by None is = refl
    by (Some head) is =
        let some = states_now stage.first.infos stage.first.lsn (to_state stage.first.infos stage.first.lsn stage.history) stage.messages head is going.reading.right going.reading.accepted in
        let next = next_begun entry stage head some.later is going some.stated in
        absurd (too_many (length (to_state stage.first.infos stage.first.lsn stage.history)) (length (read_at stage)) (length next.rest)
        (ap length (some.stated ∙ ap (λ (l : List Commit). read_at stage ++ l) next.is) ∙ length-append (read_at stage) (next.commit ∷ next.rest)) le)
