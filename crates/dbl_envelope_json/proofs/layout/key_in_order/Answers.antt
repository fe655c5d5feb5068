use Rattle.std.proofs.Common.{◌≡◌, ◌∙◌, ◌<◌, ◌-◌, length, slice_get, Some, arith, refl, sym, ap, ap₂}
use Rattle.std.proofs.lemmas.Option.{slice_get_read}
use Rattle.std.specs.BTreeMap.{insert_entry}
use Rattle.dbl_base.specs.Texts.{text_cmp}
use Rattle.dbl_envelope_json.proofs.LayoutLemmas.{key_step, key_place}
use Rattle.dbl_envelope_json.proofs.layout.key_in_order.Goals as goal

pub loop-at-preserved : goal.loop-at-preserved
loop-at-preserved c =
    let cs = c.items-columns.result.now.items in
    let key = c.items-key.result.now.items in
    let at = c.loop-at.at in
    let k = c.index.result.now in
    let key_is : slice_get key (at - 1) ≡ Some k = slice_get_read key (length key) (at - 1) k refl (omega arith) c.index.ensures in
    let in_info : k < length c.args.info.now.columns = key_place c.args.info.now (at - 1) k (ap (λ ks. slice_get ks (at - 1)) (sym c.items-key.ensures) ∙ key_is) in
    let in_columns : k < length cs = omega (arith, ap length c.items-columns.ensures) in
    let column_is : slice_get cs k ≡ Some c.index-in-loop-at.result.now = slice_get_read cs (length cs) k c.index-in-loop-at.result.now refl in_columns c.index-in-loop-at.ensures in
    let wrote : c.insert.new.self.entries ≡ insert_entry text_cmp c.loop-at.order.entries c.in_ok-copy.field-0 k = c.in_ok-insert.ensures.entries in
    wrote ∙ ap₂ (λ es n. insert_entry text_cmp es n k) c.loop-at.invariant c.in_ok-copy.ensures ∙ key_step cs key at k c.index-in-loop-at.result.now c.loop-at-test.true key_is column_is
