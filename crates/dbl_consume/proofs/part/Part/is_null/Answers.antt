use Rattle.std.proofs.Common.{◌∙◌, is_some, sym, ap}
use Rattle.serde_json.specs.Find.{as_null}
use Rattle.dbl_consume.proofs.JsonValueLemmas.{is_null-data_of, part_data}
use Rattle.dbl_consume.proofs.part.Part.is_null.Goals as goal

pub returns : goal.returns
returns c =
    let v = c.self.invariant in
    c.is_null.ensures v.0 v.1 ∙ is_null-data_of v.0 ∙ ap (λ d. is_some (as_null d)) (sym (part_data c.self.inside.element c.args.self.now v c.self.view_is))
