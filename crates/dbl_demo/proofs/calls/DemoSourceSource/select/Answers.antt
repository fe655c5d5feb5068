use Rattle.std.proofs.Common.{◌≡◌, ℕ, Option}
use Rattle.std.specs.Prelude.{option_copied, Result, Ok, Err, IfOk}
use Rattle.dbl_disk.specs.Model.{DiskModel}
use Rattle.dbl_model_table.specs.declared.row.Key.{Key}
use Rattle.dbl_model_table.specs.declared.table.TableName.{TableName}
use Rattle.dbl_source_log.specs.declared.error.SourceError.{SourceError}
use Rattle.dbl_source_model.specs.declared.selected.Selected.{Selected}
use Rattle.dbl_source_model.specs.Answered.{IsSelectAnswer}
use Rattle.dbl_source_model.specs.Trace.{RowsSelected}
use Rattle.dbl_demo_wal.specs.Wals.{Wal}
use Rattle.dbl_demo_wal.specs.Workloads.{acts_at}
use Rattle.dbl_demo_wal.specs.Shown.{AreRowsShown}
use Rattle.dbl_demo_laws.specs.Answers.{AnswersRows, IsReaderKept}
use Rattle.dbl_demo_laws.specs.Calls.{next_end}
use Rattle.dbl_demo_laws.specs.Demo.{Demo, IsDemo}
use Rattle.dbl_demo_laws.proofs.SelectLemmas.{lead_select}
use Rattle.dbl_demo_laws.proofs.PromiseLemmas.{comes_held, leads_held, left_held, kept_reader, same_reader, some_held, tells_of}
use Rattle.dbl_demo_laws.proofs.KnownLemmas.{steady_from}
use Rattle.dbl_demo.proofs.calls.DemoSourceSource.select.Goals as goal

-- the reader stays, and the rows are those after the first group
rows_said : {D : Type 0} (model : DiskModel D) (table : TableName) (above : Option Key) (limit : ℕ) (old new : Demo D) (result : Result Selected SourceError) → IfOk result (λ x. IsReaderKept old new) → IfOk result (λ x. x.version ≡ 1)
    → ((wal : Wal) → IsDemo model wal old → IfOk result (λ x. AreRowsShown wal.workload.tables (acts_at wal.workload (next_end old)) table above limit x.rows)) → IfOk result (λ x. AnswersRows model table above limit old new x)
rows_said model table above limit old new (Ok x) reader version are = record { reader = reader; version = version; are = are }
rows_said model table above limit old new (Err e) reader version are = tt

pub returns : goal.returns
returns g c =
    let adds = c.answer_select.ensures.added in
    let says = rows_said g.D.Disk c.args.table.now (option_copied c.args.above) c.args.limit c.args.self.now c.answer_select.new.self c.answer_select.result adds.answers c.answer_select.ensures.version c.answer_select.ensures.shown in
    let kept = kept_reader c.args.self.now c.answer_select.new.self (λ x. IsReaderKept c.args.self.now c.answer_select.new.self) c.answer_select.result adds.reader adds.answers (λ x reader. reader) in
    record {
      selected = leads_held g.D.Disk c.args.self.now c.answer_select.new.self _ _ (λ x. AnswersRows g.D.Disk c.args.table.now (option_copied c.args.above) c.args.limit c.args.self.now c.answer_select.new.self x) (λ x. IsSelectAnswer (Unit {0}) c.args.table.now (option_copied c.args.above) c.args.limit x) c.answer_select.result adds.released says (λ x says wal of_old done s stands. lead_select g.D.Disk c.args.self.now c.answer_select.new.self wal of_old c.args.table.now (option_copied c.args.above) c.args.limit x s stands done says);
      shown = c.answer_select.ensures.shown;
      left = left_held g.D.Disk c.args.self.now c.answer_select.new.self _ adds.first;
      some = some_held g.D.Disk c.args.self.now c.answer_select.new.self g.met.D.Disk.seen_may_be_left adds.come _ _ adds.first;
      told = tells_of c.answer_select.result (λ x. RowsSelected x);
      taken = tt;
      reading = same_reader c.args.self.now c.answer_select.new.self kept;
      ended = kept.ended;
      live = adds.live;
      dead = adds.dead;
      honest = λ u. u;
      comes = comes_held g.D.Disk c.args.self.now c.answer_select.new.self _ _ c.answer_select.result c.requires.live adds.come adds.first adds.released adds.dead adds.known;
      cause = record { later = adds.later; cause = adds.failed };
      steady = λ s stands. steady_from g.D.Disk c.args.self.now c.answer_select.new.self c.answer_select.result s stands adds.known;
      group = adds.group;
      released = adds.released;
      first = adds.first;
    }
