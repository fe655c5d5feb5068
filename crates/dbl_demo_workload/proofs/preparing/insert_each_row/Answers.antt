use Rattle.std.proofs.Common.{◌≡◌, ◌∙◌, List, length, take, sym, subst, arith}
use Rattle.std.proofs.lemmas.List.{map-id}
use Rattle.std.proofs.lemmas.Result.{err_from_is_err_and}
use Rattle.std.proofs.lemmas.Iterator.Adapters.{YieldsList-from_vec}
use Rattle.std.proofs.lemmas.Iterator.Consumers.{YieldsList-end, YieldsList-so_far, YieldsList-turn}
use Rattle.dbl_script.specs.declared.script.ScriptRow.{ScriptRow}
use Rattle.dbl_demo_workload.proofs.PrepareLemmas.{AreIn, row_in}
use Rattle.dbl_demo_workload.proofs.RowLemmas.{row_bad}
use Rattle.dbl_demo_workload.proofs.preparing.insert_each_row.Goals as goal

pub loop-row-preserved : goal.loop-row-preserved
loop-row-preserved c = λ tables past inserts.
    let before = c.loop-row.invariant tables past inserts in
    let one = c.in_ok-insert_row.ensures tables _ before.1 in
    row_in tables past c.loop-row.yielded c.in-Some.row c.insert_row.new.first before.0 one.0 one.1

pub returns-in_err-insert_row : goal.returns-in_err-insert_row
returns-in_err-insert_row c = λ tables past inserts.
    let p = err_from_is_err_and c.from_residual.result c.from_residual.ensures.1 in
    let rows = c.args.rows.items in
    let yielded = c.loop-row.yielded in
    let gives = c.into_iter-row-iterator.ensures.into_iter_gives in
    let road = YieldsList-from_vec rows gives.0 (omega (arith, gives.1, c.args.rows.ok.0)) in
    let turn = YieldsList-turn road yielded c.loop-row.row-iterator c.loop-row.yielded_by c.next.result c.next.new.self c.in-Some.row c.in-Some.is c.next.ensures.steps in
    let front : yielded ≡ take (length yielded) rows = sym (map-id yielded) ∙ YieldsList-so_far road yielded c.loop-row.row-iterator c.loop-row.yielded_by in
    let before = subst (λ (l : List ScriptRow). AreIn tables past l c.loop-row.first) front (c.loop-row.invariant tables past inserts) in
    rw (p.1, p.2) (row_bad tables past rows (length yielded) c.in-Some.row c.loop-row.first c.insert_row.new.first c.in_err-insert_row.field-0.0 turn.0 turn.1 before
    (c.in_err-insert_row.ensures tables _ before.1))

pub returns : goal.returns
returns c = λ tables past inserts.
    let gives = c.into_iter-row-iterator.ensures.into_iter_gives in
    let road = YieldsList-from_vec c.args.rows.items gives.0 (omega (arith, gives.1, c.args.rows.ok.0)) in
    let all : c.loop-row.yielded ≡ c.args.rows.items =
    sym (map-id c.loop-row.yielded) ∙ (YieldsList-end road c.loop-row.yielded c.loop-row.row-iterator c.loop-row.yielded_by c.next.result c.next.new.self c.in-None.is c.next.ensures.steps).0 in
    subst (λ (l : List ScriptRow). AreIn tables past l c.loop-row.first) all (c.loop-row.invariant tables past inserts)
