use Rattle.std.proofs.Common.{◌∙◌, sym, ap, subst}
use Rattle.serde_json.specs.Find.{is_float}
use Rattle.dbl_consume.specs.Cells.{IsOfKind, is_supported}
use Rattle.dbl_consume.specs.JsonValues.{num_in, data_at}
use Rattle.dbl_consume.proofs.FlatLemmas.{supported_number}
use Rattle.dbl_consume.proofs.texts.write_cell.Goals as goal

pub write_number-requires : goal.write_number-requires
write_number-requires c =
    let is = subst (IsOfKind (data_at c.args.cell.now)) c.in-Number.is c.kind.ensures in
    ap is_float c.number_in.ensures ∙ supported_number (num_in c.in-Number.text.now) (sym (ap is_supported is) ∙ c.requires)
