use Rattle.std.proofs.Common.{◌≡◌, ◌∙◌, ◌+◌, ◌∷◌, drop, sym, ap, arith}
use Rattle.std.proofs.lemmas.List.{drop_more}
use Rattle.dbl_consume.proofs.FlatLemmas.{error_later, error_here}
use Rattle.dbl_consume.proofs.acting.check_cells.Goals as goal

pub returns-in-Err-clause-err : goal.returns-in-Err-clause-err
returns-in-Err-clause-err c =
    let l = c.loop-cell in
    let xs = c.args.cells.now in
    let x = c.cell-item.result in
    let rest = drop (l.cell-index + 1) xs in
    let here : drop l.cell-index xs ≡ x ∷ rest = drop_more xs l.cell-index x (omega arith) ∙ ap (λ y. y ∷ rest) (sym c.cell-item.is) in
    λ other. sym l.invariant ∙ error_here (drop l.cell-index xs) rest x here c.in-Err.error (c.in-Err.ensures.err other)

pub loop-cell-preserved : goal.loop-cell-preserved
loop-cell-preserved c =
    let l = c.loop-cell in
    let xs = c.args.cells.now in
    let x = c.cell-item.result in
    let rest = drop (l.cell-index + 1) xs in
    let here : drop l.cell-index xs ≡ x ∷ rest = drop_more xs l.cell-index x (omega arith) ∙ ap (λ y. y ∷ rest) (sym c.cell-item.is) in
    error_later (drop l.cell-index xs) rest x here c.in-Ok.ensures.ok ∙ l.invariant
