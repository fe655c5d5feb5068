use Rattle.std.proofs.Common.{◌≡◌, ◌∙◌, ◌<◌, ℕ, List, length, get_or, ap, arith}
use Rattle.dbl_model_table.specs.Keys.{cell_or_null}
use Rattle.dbl_txn_changes.proofs.KeyLemmas.{cell_pushed}
use Rattle.dbl_txn_changes.proofs.keys.key_of.Goals as goal

pub loop-place-preserved : goal.loop-place-preserved
loop-place-preserved c =
    let cell = cell_or_null c.args.cells.now in
    let places = c.args.info.now.key in
    let i = c.loop-place.place-index in
    let are : c.deref-place-items.result.now ≡ places = c.deref-place-items.ensures.value ∙ c.items-2.ensures in
    let lt : i < length places = omega (arith, c.loop-place-test.true, ap length are) in
    cell_pushed cell places i c.loop-place.key.items c.push.new.self.items c.in_ok-cell_or_null.field-0 c.loop-place.invariant lt c.in_ok-push.ensures.items
    (c.in_ok-cell_or_null.ensures ∙ ap (λ (l : List ℕ). cell (get_or l i 0)) are)
