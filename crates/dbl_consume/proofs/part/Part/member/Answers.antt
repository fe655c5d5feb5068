use Rattle.std.proofs.Common.{◌∙◌, Some, None, sym, ap}
use Rattle.serde_json.specs.Find.{get}
use Rattle.dbl_consume.specs.JsonValues.{data_at}
use Rattle.dbl_consume.proofs.JsonValueLemmas.{found_data, part_data}
use Rattle.dbl_consume.proofs.part.Part.member.Goals as goal

pub part_of-requires : goal.part_of-requires
part_of-requires c =
    let v = c.self.invariant in
    let found = c.in-Some.ensures v.0 v.1 in
    (found.0, found.2)

pub returns-in-Some : goal.returns-in-Some
returns-in-Some c =
    let v = c.self.invariant in
    ap (λ ts. Some (data_at ts)) c.part_of.ensures ∙ found_data (Some c.in-Some.element) c.args.name.now v.0 (c.in-Some.ensures v.0 v.1) ∙ ap (get c.args.name.now) (sym (part_data c.self.inside.element c.args.self.now v c.self.view_is))

pub returns-in-None : goal.returns-in-None
returns-in-None c =
    let v = c.self.invariant in
    found_data None c.args.name.now v.0 (c.in-None.ensures v.0 v.1) ∙ ap (get c.args.name.now) (sym (part_data c.self.inside.element c.args.self.now v c.self.view_is))
