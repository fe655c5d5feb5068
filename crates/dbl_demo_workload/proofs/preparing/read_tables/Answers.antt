use Rattle.std.proofs.Common.{◌≡◌, ◌∙◌, List, length, take, sym, subst, arith}
use Rattle.std.specs.Prelude.{None}
use Rattle.std.specs.List.{AllByRecursion}
use Rattle.std.proofs.lemmas.List.{map-id}
use Rattle.std.proofs.lemmas.Result.{err_from_is_err_and}
use Rattle.std.proofs.lemmas.Iterator.Adapters.{YieldsList-from_vec}
use Rattle.std.proofs.lemmas.Iterator.Consumers.{YieldsList-end, YieldsList-so_far, YieldsList-turn}
use Rattle.dbl_model_table.specs.Made.{table_fault}
use Rattle.dbl_script.specs.declared.script.ScriptTable.{ScriptTable}
use Rattle.dbl_demo_workload.proofs.PrepareLemmas.{bad_table_in}
use Rattle.dbl_demo_workload.specs.Preparing.{AreTablesRead}
use Rattle.dbl_demo_workload.proofs.preparing.read_tables.Goals as goal

pub loop-line-preserved : goal.loop-line-preserved
loop-line-preserved c = c.in_ok-read_table.ensures.read c.loop-line.yielded c.loop-line.invariant

pub returns-clause-read : goal.returns-clause-read
returns-clause-read c =
    let gives = c.into_iter-line-iterator.ensures.into_iter_gives in
    let road = YieldsList-from_vec c.args.lines.items gives.0 (omega (arith, gives.1, c.args.lines.ok.0)) in
    let all : c.loop-line.yielded ≡ c.args.lines.items =
    sym (map-id c.loop-line.yielded) ∙ (YieldsList-end road c.loop-line.yielded c.loop-line.line-iterator c.loop-line.yielded_by c.next.result c.next.new.self c.in-None.is c.next.ensures.steps).0 in
    subst (λ (l : List ScriptTable). AreTablesRead l c.loop-line.read.names.items c.loop-line.read.demo.items c.loop-line.read.log.items) all c.loop-line.invariant.read

pub returns-in_err-read_table-clause-refused : goal.returns-in_err-read_table-clause-refused
returns-in_err-read_table-clause-refused c =
    let p = err_from_is_err_and c.from_residual.result c.from_residual.ensures.1 in
    let lines = c.args.lines.items in
    let yielded = c.loop-line.yielded in
    let gives = c.into_iter-line-iterator.ensures.into_iter_gives in
    let road = YieldsList-from_vec lines gives.0 (omega (arith, gives.1, c.args.lines.ok.0)) in
    let turn = YieldsList-turn road yielded c.loop-line.line-iterator c.loop-line.yielded_by c.next.result c.next.new.self c.in-Some.line c.in-Some.is c.next.ensures.steps in
    let front : yielded ≡ take (length yielded) lines = sym (map-id yielded) ∙ YieldsList-so_far road yielded c.loop-line.line-iterator c.loop-line.yielded_by in
    let good = subst (AllByRecursion (λ (other : ScriptTable). table_fault other.raw ≡ None)) front c.loop-line.invariant.good in
    rw (p.1, p.2) (bad_table_in lines (length yielded) c.in-Some.line c.in_err-read_table.field-0.0 turn.0 turn.1 good c.in_err-read_table.ensures.refused)
