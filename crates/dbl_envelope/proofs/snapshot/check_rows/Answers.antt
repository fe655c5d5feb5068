use Rattle.std.proofs.Common.{◌∙◌, Option, sym, ap, subst}
use Rattle.dbl_model_event.specs.Clashes.{Clash, rows_clash}
use Rattle.dbl_envelope.specs.Clashing.{IsClash}
use Rattle.dbl_envelope.proofs.ClashLemmas.{row_more, row_stop}
use Rattle.dbl_envelope.proofs.snapshot.check_rows.Goals as goal

pub loop-row-preserved : goal.loop-row-preserved
loop-row-preserved c =
    let p = c.args.placeholder.now in
    let info = c.args.info.now in
    row_more p info (c.in-Some.field-0-0.now, c.in-Some.row.now) c.next.new.self c.in-Ok.ensures.ok ∙ ap (rows_clash p info) (sym c.in-Some.ensures.steps) ∙ c.loop-row.invariant

pub returns-in-Err-clause-err : goal.returns-in-Err-clause-err
returns-in-Err-clause-err c =
    let p = c.args.placeholder.now in
    let info = c.args.info.now in
    subst (λ (o : Option Clash). IsClash o c.in-Err.error) (ap (rows_clash p info) (sym c.in-Some.ensures.steps) ∙ c.loop-row.invariant)
    (row_stop p info (c.in-Some.field-0-0.now, c.in-Some.row.now) c.next.new.self c.in-Err.error c.in-Err.ensures.err)
