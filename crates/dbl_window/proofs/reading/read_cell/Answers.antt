use Rattle.std.proofs.Common.{◌∙◌, sym, ap, subst}
use Rattle.std.specs.Prelude.{Result, IfOk}
use Rattle.std.proofs.lemmas.Result.{IfOk-weaker}
use Rattle.dbl_value_types.specs.declared.value.Val.{Val}
use Rattle.dbl_window.specs.declared.error.WindowError.{WindowError}
use Rattle.dbl_window.specs.Reading.{null_read, cell_read}
use Rattle.dbl_window.specs.ReadParts.{FitsColumnCell}
use Rattle.dbl_window.proofs.CellLemmas.{reads_same, null_fits, value_fits}
use Rattle.dbl_window.proofs.reading.read_cell.Goals as goal

pub returns-in-None-clause-read : goal.returns-in-None-clause-read
returns-in-None-clause-read c =
    reads_same _ _ (c.read_null.ensures ∙ (ap (null_read c.args.number) c.is_of_key.ensures
    ∙ sym (ap (cell_read c.args.info.now c.args.number c.args.place c.args.column.now) c.in-None.is)))

pub returns-in-None-clause-fits : goal.returns-in-None-clause-fits
returns-in-None-clause-fits c =
    let info = c.args.info.now in
    let ty = c.args.column.now.ty in
    subst (λ (r : Result Val WindowError). IfOk r (FitsColumnCell info c.args.place ty)) (sym (c.read_null.ensures ∙ ap (null_read c.args.number) c.is_of_key.ensures))
    (null_fits info c.args.number c.args.place ty)

pub returns-in-Some-clause-fits : goal.returns-in-Some-clause-fits
returns-in-Some-clause-fits c =
    IfOk-weaker c.read_value.result _ _ (λ v is. value_fits c.args.info.now c.args.place c.args.column.now.ty v is) c.read_value.ensures.is
