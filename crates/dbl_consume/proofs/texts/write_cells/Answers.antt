use Rattle.std.proofs.Common.{◌≡◌, ◌∙◌, ◌+◌, ◌∷◌, ◌++◌, drop, sym, ap, arith}
use Rattle.std.proofs.lemmas.List.{drop_more}
use Rattle.json.specs.Tree.{json_tokens}
use Rattle.serde_json.specs.Written.{outline}
use Rattle.dbl_consume.specs.JsonValues.{data_at}
use Rattle.dbl_consume.proofs.FlatLemmas.{no_error, supported_cell, one_written}
use Rattle.dbl_consume.proofs.texts.write_cells.Goals as goal

pub write_cell-requires : goal.write_cell-requires
write_cell-requires c =
    let l = c.loop-cell in
    let xs = c.args.cells.now in
    let x = c.cell-item.result in
    let rest = drop (l.cell-index + 1) xs in
    let here : drop l.cell-index xs ≡ x ∷ rest = drop_more xs l.cell-index x (omega arith) ∙ ap (λ y. y ∷ rest) (sym c.cell-item.is) in
    supported_cell x.0.now _ (no_error (drop l.cell-index xs) rest x here l.invariant.unread).0

pub loop-cell-preserved : goal.loop-cell-preserved
loop-cell-preserved c =
    let l = c.loop-cell in
    let xs = c.args.cells.now in
    let x = c.cell-item.result in
    let rest = drop (l.cell-index + 1) xs in
    let here : drop l.cell-index xs ≡ x ∷ rest = drop_more xs l.cell-index x (omega arith) ∙ ap (λ y. y ∷ rest) (sym c.cell-item.is) in
    record {
      unread = (no_error (drop l.cell-index xs) rest x here l.invariant.unread).1;
      tokens = one_written (drop l.cell-index xs) rest x here l.writer.tokens c.write_cell.new.writer.tokens _ (c.in_ok-write_cell.ensures.ok ∙ ap (λ ts. ts ++ json_tokens (outline (data_at x.1))) c.in_ok-key.ensures.ok) l.invariant.tokens;
      before = c.in_ok-write_cell.ensures.before ∙ c.in_ok-key.ensures.room.0 ∙ l.invariant.before;
    }
