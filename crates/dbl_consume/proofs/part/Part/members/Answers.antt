use Rattle.std.proofs.Common.{◌∙◌, Some, sym, ap}
use Rattle.serde_json.specs.Data.{no_members}
use Rattle.serde_json.specs.Find.{as_object}
use Rattle.dbl_consume.specs.JsonValues.{put_all}
use Rattle.dbl_consume.proofs.JsonValueLemmas.{object_found, no_object, part_data}
use Rattle.dbl_consume.proofs.part.Part.members.Goals as goal

pub members_left-requires : goal.members_left-requires
members_left-requires c =
    let v = c.self.invariant in
    let shape = c.in-Some.ensures v.0 v.1 in
    (shape.0, shape.2)

pub returns-in-Ok : goal.returns-in-Ok
returns-in-Ok c =
    let v = c.self.invariant in
    let shape = c.in-Some.ensures v.0 v.1 in
    ap (λ ms. Some (put_all ms no_members)) (c.in-Ok.ensures shape.0 shape.2) ∙ sym (object_found v.0 shape.0 shape.1) ∙ ap as_object (sym (part_data c.self.inside.element c.args.self.now v c.self.view_is))

pub returns-in_default : goal.returns-in_default
returns-in_default c =
    let v = c.self.invariant in
    sym (ap as_object (part_data c.self.inside.element c.args.self.now v c.self.view_is) ∙ no_object v.0 (c.in_default.ensures v.0 v.1))
