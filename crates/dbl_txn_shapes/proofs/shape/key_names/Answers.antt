use Rattle.std.proofs.Common.{◌≡◌, ◌∙◌, ◌<◌, ℕ, List, length, get_or, ap, arith}
use Rattle.dbl_model_table.specs.Infos.{name_at}
use Rattle.dbl_txn_shapes.proofs.OidLemmas.{name_pushed}
use Rattle.dbl_txn_shapes.proofs.shape.key_names.Goals as goal

pub loop-place-preserved : goal.loop-place-preserved
loop-place-preserved c =
    let name = name_at c.args.info.now.columns in
    let places = c.args.info.now.key in
    let i = c.loop-place.place-index in
    let are : c.deref-place-items.result.now ≡ places = c.deref-place-items.ensures.value ∙ c.items.ensures in
    let lt : i < length places = omega (arith, c.loop-place-test.true, ap length are) in
    name_pushed name places i c.loop-place.names.items c.push.new.self.items c.in_ok-name_at.field-0 c.loop-place.invariant lt c.in_ok-push.ensures.items
    (c.in_ok-name_at.ensures ∙ ap (λ (l : List ℕ). name (get_or l i 0)) are)
