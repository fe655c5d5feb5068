-- What a session repeats.
use Rattle.std.proofs.Common.{◌≡◌, ◌∙◌, ◌⊎◌, inl, inr, ◌+◌, ◌<◌, ◌≤◌, ℕ, true, Option, Some, None, List, length, map, sym, ap, subst, arith}
use Rattle.std.specs.Prelude.{◌&&◌, nat_lt, nat_le, slice_get}
use Rattle.std.specs.List.{AllByRecursion}
use Rattle.std.proofs.lemmas.Bool.Decides.{nat_tests}
use Rattle.dbl_record.specs.declared.record.Record.{Record}
use Rattle.dbl_record.specs.Cuts.{joined}
use Rattle.dbl_model_history.specs.History.{RawCommit, History, IsRising}
use Rattle.dbl_model_history.specs.Fit.{IsFitHistory}
use Rattle.dbl_source.specs.SourceModel.Standings.{CrashState}
use Rattle.dbl_capture_laws.specs.Offset.declared.offset.Offset.{Offset}
use Rattle.dbl_capture_laws.proofs.FaithfulItems.{at_right, at_cases, at_all, map_get, mapped}
use Rattle.dbl_capture_laws.proofs.FaithfulRightSnapshots.{filter_has}
use Rattle.dbl_capture_laws.specs.Faithful.Stores.{IsCommitAt, top_position, repeated}
use Rattle.dbl_capture_laws.specs.Faithful.Faithful.{IsFaithful, IsFaithfulTo}
use Rattle.dbl_capture_laws.specs.Faithful.Onward.{OffsetGoesOn}
use Rattle.dbl_capture_laws.proofs.FaithfulFaithful.{faithful_records_stand}
use Rattle.dbl_capture_laws.proofs.FaithfulLists.{longer, is_longer, map_append, after_top}
use Rattle.dbl_capture_laws.specs.CaptureModel.Entries.{SessionStart, WasFaithful, appends_after}
use Rattle.dbl_capture_laws.specs.CaptureModel.Outcomes.{FollowsSession}
use Rattle.dblog_promise.specs.Outcomes.{IsCountedByLag}
use Rattle.dblog_promise.specs.RestartLaws.{RepeatsAreCounted}

abbrev lsn_of : RawCommit → ℕ
lsn_of commit = commit.lsn.0

too_far : (a b c : ℕ) → a < b → c ≡ b → c ≤ a → ⊥
too_far a b c lt same le = omega (arith, lt, same, le)

same_lt : (a b c : ℕ) → a ≡ b → a < c → b < c
same_lt a b c same lt = omega (arith, same, lt)

between : (low top c : ℕ) → low < c → c ≤ top → (nat_lt low c && nat_le c top) ≡ true
between low top c lt le = grind (arith, nat_tests)

-- a commit between the LSN and the top is one of those that the lag counts
counted_at : (history : History) (records : List Record) (offset : Offset) (place position : ℕ) → slice_get (map lsn_of history.commits) place ≡ Some position → offset.lsn.0 < position → position ≤ top_position records
    → IsCountedByLag history records offset position
counted_at history records offset place position at lt le =
    let commit = mapped lsn_of history.commits place position at in
    let passes : (nat_lt offset.lsn.0 commit.0.lsn.0 && nat_le commit.0.lsn.0 (top_position records)) ≡ true =
    subst (λ (n : ℕ). (nat_lt offset.lsn.0 n && nat_le n (top_position records)) ≡ true) commit.2 (between offset.lsn.0 (top_position records) position lt le) in
    let found = filter_has (λ (c : RawCommit). nat_lt offset.lsn.0 c.lsn.0 && nat_le c.lsn.0 (top_position records)) history.commits place commit.0 commit.1 passes in
    (found.0, map_get lsn_of (repeated history records offset) found.0 commit.0 found.1 ∙ ap (λ (n : ℕ). Some n) (sym commit.2))

module _ (entry : SessionStart) (left : CrashState) (groups : List (List Record)) (old : Offset) (fit : IsFitHistory left.history) (faithful : WasFaithful entry) (was : entry.offset ≡ Some old) where
  found : IsFaithfulTo entry.history entry.confirmed (joined entry.groups) old
  found = subst (λ (o : Option Offset). IsFaithful entry.history entry.confirmed (joined entry.groups) o) was faithful

  -- new commits are after the log as it was
  beyond : (more : List RawCommit) → left.history ≡ longer entry.history more → AllByRecursion (λ commit. top_position (joined entry.groups) < commit.lsn.0) more
  beyond more same =
      after_top entry.history more (subst IsRising same fit.rising) (joined entry.groups)
      (λ place item at. faithful_records_stand entry.history entry.confirmed (joined entry.groups) old place item found at)

  old_commit : (more : List RawCommit) (position : ℕ) → left.history ≡ longer entry.history more → IsCommitAt left.history position → position ≤ top_position (joined entry.groups) → IsCommitAt entry.history position
  old_commit more position same stands le =
      by (at_cases (map lsn_of entry.history.commits) (map lsn_of more) stands.0 position
      (ap (λ (l : List ℕ). slice_get l stands.0) (sym (ap (λ (h : History). map lsn_of h.commits) same ∙ map_append lsn_of entry.history.commits more)) ∙ stands.1))
    where
      by : (slice_get (map lsn_of entry.history.commits) stands.0 ≡ Some position) ⊎ ((j : ℕ) × (slice_get (map lsn_of more) j ≡ Some position) × (stands.0 ≡ length (map lsn_of entry.history.commits) + j)) → IsCommitAt entry.history position
      by (inl at) = (stands.0, at)
      by (inr new) =
          let commit = mapped lsn_of more new.0 position new.1 in
          absurd (too_far (top_position (joined entry.groups)) commit.0.lsn.0 position (at_all (λ (c : RawCommit). top_position (joined entry.groups) < c.lsn.0) more new.0 commit.0 (beyond more same) commit.1) commit.2 le)

  counted : (offset : Option Offset) (follows : FollowsSession entry left groups offset) (place : ℕ) (item : Record) → slice_get follows.adds.more place ≡ Some item → item.position ≤ top_position (joined entry.groups)
      → IsCountedByLag entry.history (joined entry.groups) old item.position
  counted None follows place item at le = absurd (subst (λ (o : Option Offset). OffsetGoesOn entry.config entry.history left.history o None) was follows.onward.offset)
  counted (Some offset) follows place item at le =
      let stands : IsCommitAt left.history item.position =
      faithful_records_stand left.history left.confirmed (joined groups) offset (length (joined entry.groups) + place) item follows.faithful
      (ap (λ (l : List Record). slice_get l (length (joined entry.groups) + place)) follows.adds.is ∙ at_right (joined entry.groups) follows.adds.more place item at) in
      let same : left.history ≡ longer entry.history follows.onward.commits.more =
      is_longer entry.history left.history follows.onward.commits.more (record { tables = follows.onward.tables; commits = follows.onward.commits.is }) in
      let there = old_commit follows.onward.commits.more item.position same stands le in
      let above : old.lsn.0 < item.position =
      same_lt (appends_after entry.offset (Some offset)) old.lsn.0 item.position (ap (λ (o : Option Offset). appends_after o (Some offset)) was)
      (at_all (λ (r : Record). appends_after entry.offset (Some offset) < r.position) follows.adds.more place item follows.adds.above at) in
      counted_at entry.history (joined entry.groups) old there.0 item.position there.1 above le

pub repeats_are_counted : RepeatsAreCounted
repeats_are_counted entry left groups offset old follows place item fit faithful was at le = counted entry left groups old fit faithful was offset follows place item at le
