use Rattle.std.proofs.Common.{◌≡◌, ◌∙◌, ◌≤◌, ℕ, List, Option, Some, true, false, length, get_or, ap, subst}
use Rattle.std.specs.Prelude.{IsSome, slice_get}
use Rattle.std.proofs.lemmas.Option.{slice_get_read}
use Rattle.cases_ages.proofs.PlainAgeLemmas.{passes, fails, refuted, unmet_none, met_here, unmet_more, unmet, there_met}
use Rattle.cases_ages.proofs.plain_ages.was_there.Goals as goal

pub loop-i-init : goal.loop-i-init
loop-i-init c = unmet_none IsSome c.args.life.now.items c.args.from c.args.to

pub returns-then-is_there_at : goal.returns-then-is_there_at
returns-then-is_there_at c =
    let life : c.deref-text-items.result.now ≡ c.args.life.now.items = c.deref-text-items.ensures.value in
    let at : slice_get c.args.life.now.items c.loop-i.i ≡ Some c.text-item.result =
    slice_get_read c.args.life.now.items (length c.deref-text-items.result.now) c.loop-i.i c.text-item.result (ap length life) c.loop-i-test.true (c.text-item.is ∙ ap (λ (l : List (Option (List ℕ))). get_or l c.loop-i.i c.text-item.result) life) in
    let here = c.is_there_at.ensures.0 c.if-is_there_at.true in
    there_met c.args.life.now.items c.args.from c.args.to true (passes (met_here IsSome c.args.life.now.items c.args.from c.args.to c.loop-i.i c.text-item.result at here.0 here.1 here.2))

pub loop-i-preserved : goal.loop-i-preserved
loop-i-preserved c =
    let life : c.deref-text-items.result.now ≡ c.args.life.now.items = c.deref-text-items.ensures.value in
    let at : slice_get c.args.life.now.items c.loop-i.i ≡ Some c.text-item.result =
    slice_get_read c.args.life.now.items (length c.deref-text-items.result.now) c.loop-i.i c.text-item.result (ap length life) c.loop-i-test.true (c.text-item.is ∙ ap (λ (l : List (Option (List ℕ))). get_or l c.loop-i.i c.text-item.result) life) in
    unmet_more IsSome c.args.life.now.items c.args.from c.args.to c.loop-i.i c.text-item.result at (refuted c.is_there_at.result c.if-is_there_at.false c.is_there_at.ensures) c.loop-i.invariant

pub returns : goal.returns
returns c =
    let life : c.deref-text-items.result.now ≡ c.args.life.now.items = c.deref-text-items.ensures.value in
    there_met c.args.life.now.items c.args.from c.args.to false (fails (unmet IsSome c.args.life.now.items c.args.from c.args.to c.loop-i.i
    (subst (λ (l : List (Option (List ℕ))). length l ≤ c.loop-i.i) life c.loop-i-test.false) c.requires c.loop-i.invariant))
