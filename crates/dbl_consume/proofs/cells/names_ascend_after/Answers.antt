use Rattle.std.proofs.Common.{◌≡◌, ◌∙◌, ◌+◌, ◌∷◌, drop, sym, ap, arith, rules}
use Rattle.std.proofs.lemmas.List.{drop_more}
use Rattle.dbl_consume.proofs.CellLemmas.{ascends_on, ascends_no_more}
use Rattle.dbl_consume.proofs.cells.names_ascend_after.Goals as goal

pub cmp-requires-text-self : goal.cmp-requires-text-self
cmp-requires-text-self c κs = c.loop-cell.invariant.utf8

pub returns-in_default : goal.returns-in_default
returns-in_default c =
    let l = c.loop-cell in
    let xs = c.args.cells.now in
    let x = c.cell-item.result in
    let rest = drop (l.cell-index + 1) xs in
    let here : drop l.cell-index xs ≡ x ∷ rest = drop_more xs l.cell-index x (omega arith) ∙ ap (λ y. y ∷ rest) (sym c.cell-item.is) in
    ascends_no_more l.previous.now (drop l.cell-index xs) rest x here (λ less. c.in_default.not-Less (c.cmp.ensures ∙ less)) ∙ l.invariant.ascends

pub loop-cell-preserved : goal.loop-cell-preserved
loop-cell-preserved c =
    let l = c.loop-cell in
    let xs = c.args.cells.now in
    let x = c.cell-item.result in
    let rest = drop (l.cell-index + 1) xs in
    let here : drop l.cell-index xs ≡ x ∷ rest = drop_more xs l.cell-index x (omega arith) ∙ ap (λ y. y ∷ rest) (sym c.cell-item.is) in
    record {
      utf8 = search rules;
      ascends = ascends_on l.previous.now (drop l.cell-index xs) rest x here (sym c.cmp.ensures ∙ c.in-Less.is) ∙ l.invariant.ascends;
    }
