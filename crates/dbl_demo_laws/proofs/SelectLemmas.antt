-- The rows that a select shows are those of its history at the place between the two groups.
use Rattle.std.proofs.Common.{◌≡◌, ℕ, ◌≤◌, Option, List, [], length, sym, ap, subst, arith}
use Rattle.dbl_disk.specs.Model.{DiskModel}
use Rattle.dbl_model_table.specs.declared.row.Key.{Key}
use Rattle.dbl_source.specs.SourceModel.declared.selected.Selected.{Selected}
use Rattle.dbl_model_table.specs.declared.table.TableName.{TableName}
use Rattle.dbl_source.specs.SourceModel.Answered.{IsSelectAnswer}
use Rattle.dbl_source.specs.SourceModel.Selected.{Selects}
use Rattle.dbl_source.specs.SourceModel.Standings.{SourceState, HasState}
use Rattle.dbl_source.specs.SourceLog.declared.reader_position.ReaderPosition.{ReaderPosition}
use Rattle.dbl_demo_workload.specs.Script.declared.script.Step.{Step}
use Rattle.dbl_demo_workload.specs.DemoWal.CrashState.{added_by, with_entries}
use Rattle.dbl_demo_workload.specs.DemoWal.Standings.{history_in, standing_in}
use Rattle.dbl_demo_workload.specs.DemoWal.Wals.{Wal}
use Rattle.dbl_demo_workload.specs.DemoWal.Workloads.{steps_of}
use Rattle.dbl_demo_workload.proofs.DemoWalGroupLemmas.{end_later, end_within}
use Rattle.dbl_demo_workload.proofs.DemoWalGrowsLemmas.{standing_moves}
use Rattle.dbl_demo_workload.proofs.DemoWalSelectLemmas.{selects_answered}
use Rattle.dbl_demo_laws.specs.Answers.{AnswersRows}
use Rattle.dbl_demo_laws.specs.Calls.{Released, next_end, second_end}
use Rattle.dbl_demo_laws.specs.Demo.{Demo, IsDemo, HasDemoState}
use Rattle.dbl_demo_laws.specs.SourceLaws.{wal_of}
use Rattle.dbl_demo_laws.proofs.CallLemmas.{leads}
use Rattle.dbl_demo_laws.proofs.PromiseLemmas.{commits_added}

module _ {D : Type 0} (model : DiskModel D) (old new : Demo D) (wal : Wal) (of_old : IsDemo model wal old) (table : TableName) (above : Option Key) (limit : ℕ) (answered : Selected) where
  abbrev next : Wal
  next = with_entries wal (added_by wal old.done (second_end old) [])

  shows : Released model wal (second_end old) [] old new → AnswersRows model table above limit old new answered → Selects table above limit (history_in wal) (history_in next) answered
  shows done answer =
      let silent = of_old.running.silent in
      let long : length old.steps ≡ length (steps_of wal.workload) = ap (λ (l : List Step). length l) of_old.running.steps in
      let there : old.done ≤ length old.steps = (let t = silent.there in omega (arith, t, long)) in
      let first : next_end old ≤ length old.steps = end_within old.steps old.done there in
      let last : second_end old ≤ length old.steps = end_within old.steps (next_end old) first in
      selects_answered done.is.running.lists.bytes wal old.done (next_end old) (second_end old) table above limit answered answer.version silent (end_later old.steps old.done) (end_later old.steps (next_end old)) (omega (arith, last, long))
      (wal_of model new next done.is.running) (answer.are wal of_old)

  pub lead_select : (s : SourceState) → HasDemoState model old s → Released model wal (second_end old) [] old new → AnswersRows model table above limit old new answered → HasState (HasDemoState model) new (IsSelectAnswer (Unit {0}) table above limit answered s)
  lead_select s stands done answer =
      leads model old new wal next s (IsSelectAnswer (Unit {0}) table above limit answered) of_old done.is stands
      (subst (λ (p : Option ReaderPosition). IsSelectAnswer (Unit {0}) table above limit answered (standing_in wal old.place) (standing_in next p)) (sym answer.reader.place)
      (standing_moves wal (added_by wal old.done (second_end old) []) old.place (commits_added wal old.done (second_end old)) of_old.running.reader.placed, λ honest. shows done answer))
