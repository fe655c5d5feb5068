use Rattle.std.proofs.Common.{◌≡◌, ◌∙◌, ◌+◌, ◌∷◌, drop, sym, ap, arith}
use Rattle.std.proofs.lemmas.List.{drop_more}
use Rattle.dbl_consume.proofs.FlatLemmas.{no_error, supported_cell, one_given}
use Rattle.dbl_consume.proofs.acting.cells_of.Goals as goal

pub sent_text-requires : goal.sent_text-requires
sent_text-requires c =
    let l = c.loop-cell in
    let xs = c.args.cells.now in
    let x = c.cell-item.result in
    let rest = drop (l.cell-index + 1) xs in
    let here : drop l.cell-index xs ≡ x ∷ rest = drop_more xs l.cell-index x (omega arith) ∙ ap (λ y. y ∷ rest) (sym c.cell-item.is) in
    supported_cell x.0.now _ (no_error (drop l.cell-index xs) rest x here l.invariant.unread).0

pub loop-cell-preserved : goal.loop-cell-preserved
loop-cell-preserved c =
    let l = c.loop-cell in
    let xs = c.args.cells.now in
    let x = c.cell-item.result in
    let rest = drop (l.cell-index + 1) xs in
    let here : drop l.cell-index xs ≡ x ∷ rest = drop_more xs l.cell-index x (omega arith) ∙ ap (λ y. y ∷ rest) (sym c.cell-item.is) in
    record {
      unread = (no_error (drop l.cell-index xs) rest x here l.invariant.unread).1;
      given = one_given (drop l.cell-index xs) rest x here c.args.placeholder.now l.given.items c.push.new.self.items _ _ c.in_ok-push.ensures.items c.in_ok-column.ensures c.in_ok-sent_text.ensures l.invariant.given;
    }
