-- A session that has read everything.
use Rattle.std.proofs.Common.{◌≡◌, ◌∙◌, inl, inr, ◌+◌, ◌≤◌, ◌<◌, ℕ, Bool, true, false, Option, Some, None, List, ◌++◌, length, map, refl, sym, ap, arith, length-append}
use Rattle.std.specs.Prelude.{nat_lt, slice_get}
use Rattle.std.specs.List.{AllByRecursion}
use Rattle.std.proofs.lemmas.Bool.{ltb-false}
use Rattle.std.proofs.lemmas.List.{length-map}
use Rattle.dbl_record.specs.declared.record.Record.{Record}
use Rattle.dbl_record.specs.Cuts.{joined}
use Rattle.dbl_model_table.specs.declared.change.Commit.{Commit}
use Rattle.dbl_faithful.specs.ModelHistory.History.{RawCommit, History}
use Rattle.dbl_faithful.specs.ModelHistory.Typed.{typed_commit}
use Rattle.dbl_follow.specs.SourceModel.Stated.{commits_after, to_state}
use Rattle.dbl_faithful.proofs.Items.{at_left, at_right, at_all, all_by_place, map_get, mapped}
use Rattle.dbl_faithful.proofs.RightSnapshots.{filter_has}
use Rattle.dbl_faithful.specs.Offset.declared.offset.Offset.{Offset}
use Rattle.dbl_faithful.specs.Stores.{top_position}
use Rattle.dbl_faithful.specs.Faithful.{IsFaithful}
use Rattle.dbl_faithful.proofs.Complete.{complete_stores_are_images}
use Rattle.dbl_faithful.proofs.Faithful.{faithful_records_stand}
use Rattle.dbl_faithful.proofs.Plainly.{versions_in_force}
use Rattle.dbl_follow.specs.declared.window.Window.{Window}
use Rattle.dbl_follow.specs.declared.window.Window.TheVariants.{Absent, Armed, Open}
use Rattle.dbl_follow.specs.Window.Plans.{low_text, high_text}
use Rattle.dbl_capture_model.specs.Entries.{SessionStart}
use Rattle.dbl_capture_model.specs.Stages.{Stage, records_of_stage, next_offset, read_at, PartsHistory, later_count}
use Rattle.dbl_capture_model.specs.Marked.{IsAwaited}
use Rattle.dbl_capture_model.specs.Exits.{WindowsAreRead, ReadSessionsAreComplete}
use Rattle.dbl_faithful.proofs.Splits.{top_le}
use Rattle.dbl_capture_model.proofs.Marking.{mark_lt}
use Rattle.dbl_capture_model.proofs.Ending.{stood_of, stores_may_end}

-- ---- no window waits

never : (a b c : ℕ) → a ≡ b → a ≤ c → c < b → ⊥
never a b c is le lt = omega (arith, is, le, lt)

none_awaited : (history : History) (read : ℕ) (window : Window) → read ≡ length history.commits → IsAwaited history read window → window ≡ Absent
none_awaited history read Absent all is = refl
none_awaited history read (Armed chunk) all is = absurd (never read (length history.commits) is.low all is.not_yet (mark_lt history (low_text chunk.plan) is.low is.low_is))
none_awaited history read (Open chunk) all is = absurd (never read (length history.commits) is.high all is.not_yet (mark_lt history (high_text chunk.plan) is.high is.high_is))

-- nothing is left of the history
none_later : (a b c : ℕ) → a ≡ (a + b) + c → b ≡ 0
none_later a b c is = omega (arith, is)

all_read : (a b c d : ℕ) → a ≡ b + c → c ≡ 0 → d ≡ a → b ≡ d
all_read a b c d is none same = omega (arith, is, none, same)

pub windows_are_read : WindowsAreRead
windows_are_read entry stage more is stood going =
    let p = going.placed stood in
    let both : read_at stage ≡ (read_at stage ++ p.parts.later) ++ more = is ∙ ap (λ (l : List Commit). l ++ more) p.parts.stated in
    let none : length p.parts.later ≡ 0 =
    none_later (length (read_at stage)) (length p.parts.later) (length more)
    (ap length both ∙ (length-append (read_at stage ++ p.parts.later) more ∙ ap (λ (n : ℕ). n + length more) (length-append (read_at stage) p.parts.later))) in
    let whole : later_count p.parts ≡ length stage.history.commits =
    all_read (length (map (typed_commit stage.first.infos) stage.history.commits)) (later_count p.parts) (length p.parts.later) (length stage.history.commits)
    (ap length p.parts.spelled ∙ length-append (p.parts.old ++ read_at stage) p.parts.later) none (sym (length-map stage.history.commits (typed_commit stage.first.infos))) in
    none_awaited stage.history (later_count p.parts) stage.following.window whole p.awaited

-- ---- it has come as far as the history went

le_on : (a b c : ℕ) → a ≤ b → b ≤ c → a ≤ c
le_on a b c one two = omega (arith, one, two)

same_le : (a b c : ℕ) → a ≡ b → b ≤ c → a ≤ c
same_le a b c is le = omega (arith, is, le)

-- a commit that stood when the session began was read, or stands before where reading began
found_le : (entry : SessionStart) (stage : Stage) (parts : PartsHistory stage) (more : List Commit) → read_at stage ≡ to_state stage.first.infos stage.first.lsn entry.history ++ more → (k : ℕ) (c : RawCommit) → slice_get entry.history.commits k ≡ Some c → c.lsn.0 ≤ stage.lsn.0
found_le entry stage parts more is k c at = by (nat_lt stage.first.lsn.0 c.lsn.0) refl
  where
    by : (b : Bool) → nat_lt stage.first.lsn.0 c.lsn.0 ≡ b → c.lsn.0 ≤ stage.lsn.0
    by false low = le_on c.lsn.0 stage.first.lsn.0 stage.lsn.0 (ltb-false stage.first.lsn.0 c.lsn.0 low) parts.order
    by true high =
        let there = filter_has (λ (commit : RawCommit). nat_lt stage.first.lsn.0 commit.lsn.0) entry.history.commits k c at high in
        let typed_there : slice_get (to_state stage.first.infos stage.first.lsn entry.history) there.0 ≡ Some (typed_commit stage.first.infos c) =
        map_get (typed_commit stage.first.infos) (commits_after stage.first.lsn entry.history.commits) there.0 c there.1 in
        let read_there : slice_get (read_at stage) there.0 ≡ Some (typed_commit stage.first.infos c) =
        ap (λ (l : List Commit). slice_get l there.0) is ∙ at_left (to_state stage.first.infos stage.first.lsn entry.history) more there.0 (typed_commit stage.first.infos c) typed_there in
        at_all (λ (x : Commit). x.lsn.0 ≤ stage.lsn.0) (parts.old ++ read_at stage) (length parts.old + there.0) (typed_commit stage.first.infos c) parts.under
        (at_right parts.old (read_at stage) there.0 (typed_commit stage.first.infos c) read_there)

-- the records that it found stand at those commits
found_records : (entry : SessionStart) (bound : ℕ) (old : Option Offset) → IsFaithful entry.history entry.confirmed (joined entry.groups) old → AllByRecursion (λ commit. commit.lsn.0 ≤ bound) entry.history.commits → top_position (joined entry.groups) ≤ bound
found_records entry bound None is all = zero_le (top_position (joined entry.groups)) bound (ap top_position is.empty)
  where
    zero_le : (a b : ℕ) → a ≡ 0 → a ≤ b
    zero_le a b none = omega (arith, none)
found_records entry bound (Some old) is all =
    top_le bound 0 (joined entry.groups) (least bound)
    (all_by_place (λ (item : Record). item.position ≤ bound) (joined entry.groups) (λ place item at. (
    let stands = faithful_records_stand entry.history entry.confirmed (joined entry.groups) old place item is at in
    let found = mapped (λ (c : RawCommit). c.lsn.0) entry.history.commits stands.0 item.position stands.1 in
    same_le item.position found.0.lsn.0 bound found.2 (at_all (λ (c : RawCommit). c.lsn.0 ≤ bound) entry.history.commits stands.0 found.0 all found.1))))
  where
    least : (n : ℕ) → 0 ≤ n
    least n = omega arith

pub read_sessions_are_complete : ReadSessionsAreComplete
read_sessions_are_complete entry stage left more faithful is done may confirmed going =
    let p = going.placed (stood_of entry faithful) in
    let k = going.kept (stood_of entry faithful) faithful in
    let all : AllByRecursion (λ (c : RawCommit). c.lsn.0 ≤ stage.lsn.0) entry.history.commits =
    all_by_place (λ (c : RawCommit). c.lsn.0 ≤ stage.lsn.0) entry.history.commits (λ place c at. found_le entry stage p.parts more is place c at) in
    let follows = stores_may_end entry stage left faithful may going in
    let top : top_position (records_of_stage stage) ≤ stage.lsn.0 = elim k.near.top [
      | inl low ↦ low
      | inr far ↦ same_le (top_position (records_of_stage stage)) (top_position (joined entry.groups)) stage.lsn.0 far (found_records entry stage.lsn.0 entry.offset faithful all)
    ] in
    record {
      done = done;
      not_before = all;
      confirmed = confirmed;
      images = λ topic text. complete_stores_are_images left.history left.confirmed (records_of_stage stage) (next_offset stage) topic text may.fit follows.faithful done
          (versions_in_force left.history left.confirmed (records_of_stage stage) (next_offset stage) may.fit follows.faithful.lags.offset_is) top;
    }
