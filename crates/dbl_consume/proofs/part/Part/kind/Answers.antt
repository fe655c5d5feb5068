use Rattle.std.proofs.Common.{◌≡◌, ◌∙◌, true, false, sym, ap, subst}
use Rattle.json.specs.Find as found
use Rattle.dbl_consume.specs.Cells.{is_nested}
use Rattle.dbl_consume.proofs.JsonValueLemmas.{kind_null, kind_truth, kind_number, kind_text, kind_nested, part_data}
use Rattle.dbl_consume.proofs.part.Part.kind.Goals as goal

pub returns-then-is_null : goal.returns-then-is_null
returns-then-is_null c =
    let v = c.self.invariant in
    part_data c.self.inside.element c.args.self.now v c.self.view_is ∙ kind_null v.0 (sym (c.is_null.ensures v.0 v.1) ∙ c.if-is_null.true)

pub returns-in-Some : goal.returns-in-Some
returns-in-Some c =
    let v = c.self.invariant in
    part_data c.self.inside.element c.args.self.now v c.self.view_is ∙ kind_truth v.0 c.in-Some.truth (c.in-Some.ensures v.0 v.1)

pub returns-in-Some-as_number : goal.returns-in-Some-as_number
returns-in-Some-as_number c =
    let v = c.self.invariant in
    part_data c.self.inside.element c.args.self.now v c.self.view_is ∙ kind_number v.0 c.in-Some-as_number.text.now (c.in-Some-as_number.ensures v.0 v.1)

pub returns-in-Some-as_str : goal.returns-in-Some-as_str
returns-in-Some-as_str c =
    let v = c.self.invariant in
    part_data c.self.inside.element c.args.self.now v c.self.view_is ∙ kind_text v.0 c.in-Some-as_str.text.now (c.in-Some-as_str.ensures v.0 v.1)

pub returns-in-None : goal.returns-in-None
returns-in-None c =
    let v = c.self.invariant in
    subst (λ d. is_nested d ≡ true) (sym (part_data c.self.inside.element c.args.self.now v c.self.view_is))
    (kind_nested v.0 (sym (c.is_null.ensures v.0 v.1) ∙ c.if-is_null.false) (c.in_default.ensures v.0 v.1) (c.in_default-as_number.ensures v.0 v.1) (c.in-None.ensures v.0 v.1))
