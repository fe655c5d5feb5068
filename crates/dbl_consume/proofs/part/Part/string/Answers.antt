use Rattle.std.proofs.Common.{◌∙◌, option_map, option_and_then, sym, ap}
use Rattle.serde_json.specs.Find.{get, as_str}
use Rattle.dbl_consume.specs.JsonValues.{data_of}
use Rattle.dbl_consume.proofs.JsonValueLemmas.{get-data_of, as_str-data_of, part_data}
use Rattle.dbl_consume.proofs.part.Part.string.Goals as goal

pub returns-in-Some : goal.returns-in-Some
returns-in-Some c =
    let v = c.self.invariant in
    let found = c.in-Some.ensures v.0 v.1 in
    c.as_str.ensures found.0 found.2 ∙ as_str-data_of found.0 ∙ sym (ap (option_and_then as_str) (get-data_of c.args.name.now v.0 ∙ ap (option_map data_of) found.1))
    ∙ ap (λ d. option_and_then as_str (get c.args.name.now d)) (sym (part_data c.self.inside.element c.args.self.now v c.self.view_is))

pub returns-in-None : goal.returns-in-None
returns-in-None c =
    let v = c.self.invariant in
    sym (ap (option_and_then as_str) (get-data_of c.args.name.now v.0 ∙ ap (option_map data_of) (c.in-None.ensures v.0 v.1)))
    ∙ ap (λ d. option_and_then as_str (get c.args.name.now d)) (sym (part_data c.self.inside.element c.args.self.now v c.self.view_is))
