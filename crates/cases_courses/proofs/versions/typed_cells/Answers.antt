use Rattle.std.proofs.Common.{◌≡◌, ◌∙◌, ◌<◌, ◌≤◌, ℕ, Option, List, length, get_or, ap, subst}
use Rattle.std.proofs.lemmas.List.{take_all}
use Rattle.dbl_value_types.specs.declared.value.Val.{Val}
use Rattle.dbl_model_history.specs.Typed.{typed_cells}
use Rattle.cases_courses.specs.AlteredHistories.{column_types}
use Rattle.cases_courses.proofs.AlteredLemmas.{typed_more}
use Rattle.cases_courses.proofs.versions.typed_cells.Goals as goal

pub loop-i-preserved : goal.loop-i-preserved
loop-i-preserved c =
    let texts : c.deref-text-items.result.now ≡ c.args.texts.now = c.deref-text-items.ensures.value ∙ c.items.ensures in
    ◌∙◌ {A = List Val} c.in_ok-push.ensures.items
    (typed_more (column_types c.args.columns.now) c.args.texts.now c.loop-i.cells.items c.loop-i.i c.text-item.result c.type_at.result c.in_ok-typed_cell.field-0
    (subst (λ (l : List (Option (List ℕ))). c.loop-i.i < length l) texts c.loop-i-test.true)
    (c.text-item.is ∙ ap (λ (l : List (Option (List ℕ))). get_or l c.loop-i.i c.text-item.result) texts)
    c.type_at.ensures c.in_ok-typed_cell.ensures c.loop-i.invariant)

pub returns : goal.returns
returns c =
    let texts : c.deref-text-items.result.now ≡ c.args.texts.now = c.deref-text-items.ensures.value ∙ c.items.ensures in
    c.make.ensures ∙ (c.loop-i.invariant ∙ ap (typed_cells (column_types c.args.columns.now)) (take_all c.loop-i.i c.args.texts.now (subst (λ (l : List (Option (List ℕ))). length l ≤ c.loop-i.i) texts c.loop-i-test.false)))
