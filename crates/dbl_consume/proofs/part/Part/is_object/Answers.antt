use Rattle.std.proofs.Common.{◌∙◌, is_some, sym, ap}
use Rattle.serde_json.specs.Find.{as_object}
use Rattle.dbl_consume.proofs.JsonValueLemmas.{is_object_found, part_data}
use Rattle.dbl_consume.proofs.part.Part.is_object.Goals as goal

pub returns : goal.returns
returns c =
    let v = c.self.invariant in
    c.is_some.ensures ∙ is_object_found c.members.result v.0 (c.members.ensures v.0 v.1)
    ∙ ap (λ d. is_some (as_object d)) (sym (part_data c.self.inside.element c.args.self.now v c.self.view_is))
