use Rattle.std.proofs.Common.{List, subst}
use Rattle.std.proofs.lemmas.Result.{err_from_is_err_and}
use Rattle.std.specs.Prelude.{Err}
use Rattle.dbl_model_table.specs.declared.table.TableName.{TableName}
use Rattle.dbl_tables.specs.Truncates.{IsCut, Cuts}
use Rattle.dbl_tables.proofs.tables.Tables.truncate.Goals as goal

pub returns-in_err-cut : goal.returns-in_err-cut
returns-in_err-cut c tables past st =
    let p = err_from_is_err_and c.from_residual.result c.from_residual.ensures.1 in
    rw (p.1, p.2) (record {
      why = subst (λ (l : List TableName). Cuts tables past c.args.session.now l c.args.self.now.tables.items (Err c.in_err-cut.field-0.0)) c.as_slice.ensures.value (c.in_err-cut.ensures tables past st);
      stands = st;
    })

pub returns : goal.returns
returns c tables past st =
    c.cut.ensures tables past c.args.tables.now.items st
    (subst (λ (l : List TableName). IsCut tables past c.args.session.now l c.args.self.now.tables.items c.in_ok-cut.cut) c.as_slice.ensures.value (c.in_ok-cut.ensures tables past st))
