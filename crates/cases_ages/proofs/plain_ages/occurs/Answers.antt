use Rattle.std.proofs.Common.{◌≡◌, ◌∙◌, ◌≤◌, ℕ, List, Option, Some, true, false, length, get_or, ap, subst}
use Rattle.std.specs.Prelude.{slice_get}
use Rattle.std.specs.Option.{option_copied}
use Rattle.std.proofs.lemmas.Option.{slice_get_read}
use Rattle.cases_ages.proofs.PlainAgeLemmas.{IsCell, passes, fails, refuted, unmet_none, met_here, unmet_more, unmet, occurs_met}
use Rattle.cases_ages.proofs.plain_ages.occurs.Goals as goal

pub loop-i-init : goal.loop-i-init
loop-i-init c = unmet_none (IsCell (option_copied c.args.wanted)) c.args.life.now.items c.args.from c.args.to

pub returns-then-is_so_at : goal.returns-then-is_so_at
returns-then-is_so_at c =
    let life : c.deref-text-items.result.now ≡ c.args.life.now.items = c.deref-text-items.ensures.value in
    let at : slice_get c.args.life.now.items c.loop-i.i ≡ Some c.text-item.result =
    slice_get_read c.args.life.now.items (length c.deref-text-items.result.now) c.loop-i.i c.text-item.result (ap length life) c.loop-i-test.true (c.text-item.is ∙ ap (λ (l : List (Option (List ℕ))). get_or l c.loop-i.i c.text-item.result) life) in
    let here = c.is_so_at.ensures.0 c.if-is_so_at.true in
    occurs_met (option_copied c.args.wanted) c.args.life.now.items c.args.from c.args.to true (passes (met_here (IsCell (option_copied c.args.wanted)) c.args.life.now.items c.args.from c.args.to c.loop-i.i c.text-item.result at here.0 here.1 here.2))

pub loop-i-preserved : goal.loop-i-preserved
loop-i-preserved c =
    let life : c.deref-text-items.result.now ≡ c.args.life.now.items = c.deref-text-items.ensures.value in
    let at : slice_get c.args.life.now.items c.loop-i.i ≡ Some c.text-item.result =
    slice_get_read c.args.life.now.items (length c.deref-text-items.result.now) c.loop-i.i c.text-item.result (ap length life) c.loop-i-test.true (c.text-item.is ∙ ap (λ (l : List (Option (List ℕ))). get_or l c.loop-i.i c.text-item.result) life) in
    unmet_more (IsCell (option_copied c.args.wanted)) c.args.life.now.items c.args.from c.args.to c.loop-i.i c.text-item.result at (refuted c.is_so_at.result c.if-is_so_at.false c.is_so_at.ensures) c.loop-i.invariant

pub returns : goal.returns
returns c =
    let life : c.deref-text-items.result.now ≡ c.args.life.now.items = c.deref-text-items.ensures.value in
    occurs_met (option_copied c.args.wanted) c.args.life.now.items c.args.from c.args.to false (fails (unmet (IsCell (option_copied c.args.wanted)) c.args.life.now.items c.args.from c.args.to c.loop-i.i
    (subst (λ (l : List (Option (List ℕ))). length l ≤ c.loop-i.i) life c.loop-i-test.false) c.requires c.loop-i.invariant))
