-- The properties of the topic log and of the in-memory sink that the trait requires: a crash leaves exactly the known groups.
use Rattle.std.proofs.Common.{◌≡◌, ℕ, List, [], ◌∷◌, Some, refl, sym, ap, subst, ◌∙◌}
use Rattle.std.specs.Prelude.{IsTrue}
use Rattle.dbl_disk.specs.Model.{DiskModel}
use Rattle.dbl_record.specs.declared.record.Record.{Record}
use Rattle.dbl_record.proofs.GroupLaws.{one_group}
use Rattle.dbl_journal.specs.Stored.{OnDisk}
use Rattle.dbl_journal.proofs.Reading.{one_journal}
use Rattle.dbl_topic.specs.Logs.{AreLogEntries, IsLog}
use Rattle.dbl_topic.specs.Held.{HoldsGroups, LeavesGroups, MayLeaveGroups}
use Rattle.dbl_topic.specs.Memory.{Gathered}

-- entries encode at most one list of groups
pub one_entries : (entries : List (List ℕ)) (first second : List (List Record)) → AreLogEntries entries first → AreLogEntries entries second
    → first ≡ second
one_entries [] [] [] a b = refl
one_entries [] [] (h ∷ second) a b = absurd b
one_entries [] (g ∷ first) second a b = absurd a
one_entries (entry ∷ entries) [] second a b = absurd a
one_entries (entry ∷ entries) (g ∷ first) [] a b = absurd b
one_entries (entry ∷ entries) (g ∷ first) (h ∷ second) a b =
    let heads = one_group entry g h a.0.is b.0.is in
    ap (λ (x : List Record). x ∷ first) heads ∙ ap (λ (xs : List (List Record)). h ∷ xs) (one_entries entries first second a.1 b.1)

-- bytes are a topic log of at most one list of groups
pub one_log : (bytes : List ℕ) (first second : List (List Record)) → IsLog bytes first → IsLog bytes second → first ≡ second
one_log bytes first second a b =
    one_entries b.entries first second
    (subst (λ (es : List (List ℕ)). AreLogEntries es first) (one_journal bytes a.entries b.entries a.journal b.journal) a.are) b.are

module _ {D : Type 0} (model : DiskModel D) where
  -- the contents of a log with these groups are a topic log of them
  pub log_of : (log : OnDisk D) (groups : List (List Record)) (held : HoldsGroups model log groups) → IsLog held.lists.bytes groups
  log_of log groups held = record { entries = held.entries; journal = held.lists.spelled; are = held.are }

  -- a crash of a log with these groups leaves no others
  pub only_held : (log : OnDisk D) (groups left : List (List Record)) → HoldsGroups model log groups → MayLeaveGroups model log.disk left
      → left ≡ groups
  only_held log groups left held may =
      one_log held.lists.bytes left groups (subst (λ (crashed : List ℕ). IsLog crashed left) (held.lists.only may.0 may.1) may.2)
      (log_of log groups held)

  -- a crash of a log with these groups may leave them
  pub may_leave_held : ((disk : D) (bytes : List ℕ) → model.seen disk ≡ Some bytes → model.may_leave disk bytes)
      → (log : OnDisk D) (groups : List (List Record)) → HoldsGroups model log groups → MayLeaveGroups model log.disk groups
  may_leave_held may_be_left log groups held =
      (held.lists.bytes, may_be_left log.disk held.lists.bytes held.lists.told, log_of log groups held)

  -- a crash of a log with these groups leaves a topic log
  pub leaves_held : (log : OnDisk D) (groups : List (List Record)) → HoldsGroups model log groups
      → LeavesGroups model log.disk (λ groups. Unit {0})
  leaves_held log groups held crashed may =
      (groups, subst (λ (i : List ℕ). IsLog i groups) (sym (held.lists.only crashed may)) (log_of log groups held), tt)

-- an in-memory sink has at most one list of groups
pub one_gathered : (sink : Gathered) (groups left : List (List Record)) → IsTrue sink.live × (sink.groups ≡ groups) → sink.groups ≡ left
    → left ≡ groups
one_gathered sink groups left held may = sym may ∙ held.1
