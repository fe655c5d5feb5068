-- A call that runs two groups, and answers of the source between them.
use Rattle.std.proofs.Common.{◌≡◌, ◌∙◌, ℕ, ◌≤◌, false, Option, List, [], length, refl, ap, subst, arith}
use Rattle.std.specs.Prelude.{Result, Ok, Err}
use Rattle.dbl_base.specs.Streams.{FaultCounted}
use Rattle.dbl_disk.specs.Model.{DiskModel}
use Rattle.dbl_journal.specs.Growth as journals
use Rattle.dbl_source.specs.SourceLog.declared.error.SourceError.{SourceError}
use Rattle.dbl_source.specs.SourceLog.declared.error.SourceError.TheVariants.{Failed}
use Rattle.dbl_demo_workload.specs.Script.declared.script.Step.{Step}
use Rattle.dbl_demo_workload.specs.TablesRows.Acts.{Accepted}
use Rattle.dbl_demo_workload.specs.TablesRows.declared.demo_table.DemoTable.{DemoTable}
use Rattle.dbl_model_table.specs.declared.row.Key.{Key}
use Rattle.dbl_model_table.specs.declared.table.RawRow.{RawRow}
use Rattle.dbl_model_table.specs.declared.table.TableName.{TableName}
use Rattle.dbl_demo_workload.specs.Tables.Stands.{Stands}
use Rattle.dbl_demo_workload.specs.DemoWal.Groups.{group_end}
use Rattle.dbl_demo_workload.specs.DemoWal.Wals.{Wal}
use Rattle.dbl_demo_workload.specs.DemoWal.Workloads.{acts_at}
use Rattle.dbl_demo_workload.proofs.DemoWalGroupLemmas.{end_later}
use Rattle.dbl_demo_laws.specs.Answers.{RunsStepsAndWrites, IsReaderKept}
use Rattle.dbl_demo_workload.specs.DemoWal.Shown.{AreRowsShown}
use Rattle.dbl_demo_laws.specs.Calls.{next_end, second_end}
use Rattle.dbl_demo_laws.specs.Demo.{Demo, IsDemo, IsRunning}
use Rattle.dbl_demo_laws.specs.Running.{IsRunOf, LeavesRun, Ran, StaysKnown}
use Rattle.dbl_demo_laws.proofs.CallLemmas.{running_live}
use Rattle.dbl_demo_laws.proofs.ExitLemmas.{Leaves, Runs, answering, answers, dead_is, fails, kept_is, releases_is, within}
use Rattle.dbl_demo_laws.proofs.LoopLemmas.{end_none, left_all, ran_on, wal_between}

-- no step is left after the last one
second_none : (steps : List Step) (done : ℕ) → done ≡ length steps → group_end steps (group_end steps done) ≡ done
second_none steps done all =
    let once : group_end steps done ≡ done = end_none steps done (omega (arith, all)) in
    ap (group_end steps) once ∙ once

module _ {D : Type 0} (model : DiskModel D) {parts whole : Demo D} (is : parts ≡ whole) (mid : Demo D) (same : IsRunOf (within parts) mid) (runs : Runs model parts (next_end parts) [] mid)
    (end : mid.done ≡ next_end parts) where
  -- the rows of the source between the groups
  pub rows_shown : (table : TableName) (above : Option Key) (limit : ℕ) (rows : List RawRow) → ((tables : List DemoTable) (past : List Accepted) → Stands tables past mid.store → AreRowsShown tables past table above limit rows) → (wal : Wal) → IsDemo model wal parts
      → AreRowsShown wal.workload.tables (acts_at wal.workload (next_end parts)) table above limit rows
  rows_shown table above limit rows shown wal of_old =
      let first = runs wal (running_live model wal parts false of_old.running) in
      subst (λ (n : ℕ). AreRowsShown wal.workload.tables (acts_at wal.workload n) table above limit rows) first.done (shown wal.workload.tables (acts_at wal.workload mid.done) first.running.stands)

  module _ (new : Demo D) (again : IsRunOf mid new) (left : (wal : Wal) → IsRunning model wal mid → LeavesRun model wal (next_end mid) [] mid new) (come : journals.ExtendsJournal model parts.journal mid.journal) (later : model.faults parts.journal.disk ≤ model.faults mid.journal.disk)
      (come_again : journals.ExtendsJournal model mid.journal new.journal) (later_again : model.faults mid.journal.disk ≤ model.faults new.journal.disk) where
    ends : next_end mid ≡ second_end parts
    ends = ap (λ (d : Demo D). group_end d.steps mid.done) same ∙ ap (group_end parts.steps) end

    same_both : IsRunOf (within parts) new
    same_both = again ∙ ap (λ (d : Demo D). let x : Demo D = record d { journal = new.journal; store = new.store; done = new.done; commits = new.commits } in x) same

    left_both : Leaves model parts (second_end parts) [] new
    left_both wal r =
        let first = runs wal r in
        let between = wal_between model wal (within parts) mid (next_end parts) (end_later parts.steps parts.done) first in
        left_all model wal (within parts) mid (next_end parts) (end_later parts.steps parts.done) first new (second_end parts) (second_end parts) (end_later parts.steps (next_end parts)) (omega arith)
        (subst (λ (n : ℕ). LeavesRun model between n [] mid new) ends (left between first.running))

    runs_both : ((wal : Wal) → IsRunning model wal mid → Ran model wal (next_end mid) [] mid new) → Runs model parts (second_end parts) [] new
    runs_both second wal r =
        let first = runs wal r in
        let between = wal_between model wal (within parts) mid (next_end parts) (end_later parts.steps parts.done) first in
        ran_on model wal (within parts) mid (next_end parts) (end_later parts.steps parts.done) first new (second_end parts) (end_later parts.steps (next_end parts)) (subst (λ (n : ℕ). Ran model between n [] mid new) ends (second between first.running))

    come_both : journals.ExtendsJournal model parts.journal new.journal
    come_both gate most h = come_again gate most (come gate most h)

    -- it fails in the second group
    pub fails_again : {T : Type 0} (Answers : Demo D → Demo D → T → Type 0) (result : Result T SourceError) (e : SourceError) → result ≡ Err e → (e ≡ Failed → FaultCounted (model.faults mid.journal.disk) (model.faults new.journal.disk)) → RunsStepsAndWrites model (second_end whole) [] (Answers whole) whole new result
    fails_again Answers result e told failed =
        subst (λ (s : Demo D). RunsStepsAndWrites model (second_end s) [] (Answers s) s new result) is
        (fails model parts (second_end parts) [] (Answers parts) new result e told left_both (dead_is model parts new same_both) (kept_is model parts new same_both) come_both (omega (arith, later, later_again))
        (λ same_error. omega (arith, later, failed same_error)))

    -- it answers after both
    pub answers_again : {T : Type 0} (Answers : Demo D → Demo D → T → Type 0) (x : T) → ((wal : Wal) → IsRunning model wal mid → Ran model wal (next_end mid) [] mid new) → new.done ≡ next_end mid → Answers parts (answering new) x
        → StaysKnown model parts.journal.disk new.journal.disk → RunsStepsAndWrites model (second_end whole) [] (Answers whole) whole (answering new) (Ok x)
    answers_again Answers x second done holds known =
        subst (λ (s : Demo D). RunsStepsAndWrites model (second_end s) [] (Answers s) s (answering new) (Ok x)) is
        (answers model parts (second_end parts) [] (Answers parts) (answering new) (Ok x) x refl (releases_is model parts (second_end parts) [] new (second_none parts.steps parts.done) tt same_both (runs_both second)) (done ∙ ends) left_both refl come_both
        (omega (arith, later, later_again)) holds known)

    pub kept_both : IsReaderKept parts (answering new)
    kept_both = let kept = kept_is model parts new same_both in record { place = kept.place; ended = kept.ended }
