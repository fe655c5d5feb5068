-- What a topic log on a disk holds, and what a crash leaves of it.
use Rattle.std.proofs.Common.{◌≡◌, ◌⊎◌, ℕ, ◌+◌, ◌^◌, ◌≤◌, Some, List, [], ◌∷◌, ◌++◌, length, refl, sym, ap, subst, ◌∙◌, arith, inl, inr}
use Rattle.std.proofs.lemmas.List.{take_all}
use Rattle.dbl_disk.specs.Model.{DiskModel}
use Rattle.dbl_record.specs.declared.record.Record.{Record}
use Rattle.std.specs.Prelude.{true, false, max, IsTrue}
use Rattle.dbl_disk.specs.Calls.{WritesDisk}
use Rattle.dbl_journal.specs.Form.{IsJournal, up_to_gate}
use Rattle.dbl_journal.specs.Growth.{ExtendsJournal}
use Rattle.dbl_journal.specs.Stored.{LeavesEntries, OnDisk, count_of, size}
use Rattle.dbl_journal.proofs.Growth.{grown_from}
use Rattle.dbl_journal.proofs.Appends.{length-places}
use Rattle.dbl_journal.specs.declared.error.JournalError.{JournalError}
use Rattle.dbl_journal.specs.declared.error.JournalError.TheVariants as journal
use Rattle.dbl_topic.specs.declared.error.SinkError.TheVariants as sink
use Rattle.dbl_topic.specs.Faults.{sink_fault}
use Rattle.dbl_topic.specs.Held.{HasCounted, HasGroups, HoldsGroups, LeavesGroups, MayLeaveGroups}
use Rattle.dbl_topic.specs.SinkLaws.{leaves_held, log_of, one_log}
use Rattle.dbl_topic.specs.Logs.{AreLogEntries, IsLog, IsLogEntry, log_size}
use Rattle.dbl_topic.specs.Sinks.{IsLeftByPut, IsLeftByWhole}
use Rattle.dbl_topic.proofs.LogLaws.{entries-push, forms_of, length-entries}

module _ {D : Type 0} (model : DiskModel D) where
  pub one_held : (log : OnDisk D) (first second : List (List Record)) → HoldsGroups model log first → HoldsGroups model log second → first ≡ second
  one_held log first second a b =
      let told = sym a.lists.told ∙ b.lists.told in
      let same : a.lists.bytes ≡ b.lists.bytes = cc in
      one_log b.lists.bytes first second (subst (λ (i : List ℕ). IsLog i first) same (log_of model log first a)) (log_of model log second b)

  pub counted_held : (log : OnDisk D) (groups : List (List Record)) → HoldsGroups model log groups → count_of log ≡ length groups
  counted_held log groups held = ap length held.lists.places ∙ length-places held.entries 8 ∙ length-entries held.entries groups held.are

  -- what a journal leaves while the entry of a group is appended
  pub leaves_put : (disk : D) (entries : List (List ℕ)) (groups : List (List Record)) (entry : List ℕ) (group : List Record) → AreLogEntries entries groups → IsLogEntry entry group
      → LeavesEntries model disk (λ left. (left ≡ entries) ⊎ (left ≡ entries ++ entry ∷ [])) → LeavesGroups model disk (IsLeftByWhole groups group)
  leaves_put disk entries groups entry group are is leaves crashed may =
      let here = leaves crashed may in
      elim here.2 [
        | inl e ↦ (groups, record { entries = here.0; journal = here.1; are = subst (λ (es : List (List ℕ)). AreLogEntries es groups) (sym e) are }, inl refl)
        | inr e ↦ (groups ++ group ∷ [], record { entries = here.0; journal = here.1; are = subst (λ (es : List (List ℕ)). AreLogEntries es (groups ++ group ∷ [])) (sym e) (entries-push entries groups entry group are is) }, inr refl)
      ]

-- a log that holds groups is kept
pub has_groups : {D : Type 0} (model : DiskModel D) (log : OnDisk D) (groups : List (List Record)) → HoldsGroups model log groups → HasGroups model log
has_groups model log groups held = record { holds = λ live. (groups, held); leaves = leaves_held model log groups held }

-- where an append failed, a journal that can be used is as it was
pub still_there : {D : Type 0} (P : OnDisk D → Type 0) (e : JournalError) (old new : OnDisk D) → (e ≡ journal.Failed → new.live ≡ false) → ((e ≡ journal.Failed → ⊥) → new ≡ old) → IsTrue new.live → P old → P new
still_there P journal.Failed old new dead same live p = let not = dead refl in cc
still_there P (journal.NotAJournal at) old new dead same live p = subst P (sym (same (λ is. cc))) p
still_there P (journal.EntryTooLong len) old new dead same live p = subst P (sym (same (λ is. cc))) p
still_there P journal.Memory old new dead same live p = subst P (sym (same (λ is. cc))) p

-- after an append a log that can be used has counted no more failures
pub counted_put : {D : Type 0} (model : DiskModel D) (failed : Type 0) (old new : OnDisk D) → IsTrue old.live → WritesDisk model failed old.disk new.disk new.live → (faults : ℕ) → HasCounted model faults old
    → HasCounted model faults new
counted_put model failed old new was writes faults has live =
    let here = has was in
    (writes.told here.0.0 here.0.1, writes.steady (λ is. let wrong : true ≡ false = sym live ∙ writes.dead is in cc) here.0.0 here.0.1 ∙ here.1)

-- all of a group is some first records of it
pub part_of_whole : (groups : List (List Record)) (group : List Record) (left : List (List Record)) → 1 ≤ length group → IsLeftByWhole groups group left → IsLeftByPut groups group left
part_of_whole groups group left some (inl e) = inl e
part_of_whole groups group left some (inr e) = inr (length group, some, omega arith, e ∙ ap (λ (g : List Record). groups ++ g ∷ []) (sym (take_all (length group) group (omega arith))))

module _ {D : Type 0} (model : DiskModel D) (disk : D) (groups : List (List Record)) (group : List Record) where
  pub left_by_put : (left : List (List Record)) → 1 ≤ length group → LeavesGroups model disk (IsLeftByWhole groups group) → MayLeaveGroups model disk left → IsLeftByPut groups group left
  left_by_put left some leaves may =
      let here = leaves may.0 may.1 in
      part_of_whole groups group left some (subst (λ (x : List (List Record)). IsLeftByWhole groups group x) (one_log may.0 here.0 left here.1 may.2) here.2)

  pub leaves_any : LeavesGroups model disk (IsLeftByWhole groups group) → LeavesGroups model disk (λ left. Unit {0})
  leaves_any leaves crashed may = let here = leaves crashed may in (here.0, here.1, tt)

-- where what is left is a log of some groups, and the disk tells its bytes, some groups may be left
pub some_left : {D : Type 0} (model : DiskModel D) → ((disk : D) (bytes : List ℕ) → model.seen disk ≡ Some bytes → model.may_leave disk bytes) → (disk : D) (bytes : List ℕ) → model.seen disk ≡ Some bytes
    → (P : List (List Record) → Type 0) → LeavesGroups model disk P → (left : List (List Record)) × MayLeaveGroups model disk left
some_left model may_be_left disk bytes told P leaves =
    let may = may_be_left disk bytes told in
    let here = leaves bytes may in
    (here.0, (bytes, may, here.1))

-- what a log has become that extends one with groups
pub log_grown : {D : Type 0} (model : DiskModel D) (old new : OnDisk D) (groups : List (List Record)) (before after : List ℕ) → ExtendsJournal model old new → HoldsGroups model old groups
    → model.seen old.disk ≡ Some before → model.seen new.disk ≡ Some after → (entries : List (List ℕ)) × IsJournal after entries × (log_size groups ≤ size entries) × (length after ≤ max (length before) (length (up_to_gate entries) + 2 ^ 30))
log_grown model old new groups before after comes held was told =
    let far = grown_from model old new held.entries before after comes held.lists was told in
    let forms = ap size (forms_of held.entries groups held.are) in
    (far.entries, far.journal, omega (arith, far.on, forms), far.short)

-- a sink's fault that a group is too long is the journal's
pub too_long_of : (fault : JournalError) (len : ℕ) → sink_fault fault ≡ sink.TooLong len → fault ≡ journal.EntryTooLong len
too_long_of journal.Failed len e = absurd cc
too_long_of (journal.NotAJournal at) len e = absurd cc
too_long_of (journal.EntryTooLong l) len e = cc
too_long_of journal.Memory len e = absurd cc

-- a sink failed where its journal did
pub failed_of_sink : (fault : JournalError) → ((at : ℕ) → fault ≡ journal.NotAJournal at → ⊥) → sink_fault fault ≡ sink.Failed → fault ≡ journal.Failed
failed_of_sink journal.Failed never e = refl
failed_of_sink (journal.NotAJournal at) never e = absurd (never at refl)
failed_of_sink (journal.EntryTooLong l) never e = absurd cc
failed_of_sink journal.Memory never e = absurd cc
