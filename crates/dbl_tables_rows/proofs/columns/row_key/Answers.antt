use Rattle.std.proofs.Common.{◌≡◌, ◌∙◌, ◌≤◌, ℕ, None, List, length, map, take, sym, ap, subst}
use Rattle.std.specs.Prelude.{unwrap_or, slice_get}
use Rattle.std.proofs.lemmas.List.{take_all}
use Rattle.dbl_tables_rows.proofs.KeyTexts.{row_key_is}
use Rattle.dbl_tables_rows.proofs.columns.row_key.Goals as goal

pub returns : goal.returns
returns c =
    let key : c.deref-place-items.result.now ≡ c.args.info.now.key = c.deref-place-items.ensures.value ∙ c.items.ensures in
    let whole : take c.loop-place.place-index c.args.info.now.key ≡ c.args.info.now.key = take_all c.loop-place.place-index c.args.info.now.key (subst (λ (l : List ℕ). length l ≤ c.loop-place.place-index) key c.loop-place-test.false) in
    c.loop-place.invariant ∙ (ap (map (λ (p : ℕ). unwrap_or (slice_get c.args.row.now.cells p) None)) whole ∙ sym (row_key_is c.args.info.now c.args.row.now.cells))
