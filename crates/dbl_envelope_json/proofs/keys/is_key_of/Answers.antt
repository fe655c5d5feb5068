use Rattle.std.proofs.Common.{◌≡◌, ◌∙◌, ◌+◌, ◌<◌, suc, length, slice_get, Some, true, false, refl, sym, ap, arith, rules}
use Rattle.std.proofs.lemmas.Option.{slice_get_read}
use Rattle.dbl_model_table.specs.Keys.{new_key_of, given_or_null}
use Rattle.dbl_envelope_json.proofs.LayoutLemmas.{key_place}
use Rattle.dbl_envelope_json.proofs.KeySteps.{new_cell, same_from, same_more, same_not}
use Rattle.dbl_envelope_json.proofs.keys.is_key_of.Goals as goal

pub returns-then-not-is_given : goal.returns-then-not-is_given
returns-then-not-is_given c =
    let info = c.args.info.now in
    let key = c.args.key.now in
    let cells = c.args.cells.now in
    let at = c.loop-at.at in
    let new = new_key_of info cells in
    let vs = c.items-values.result.now.items in
    let ks = c.items-places.result.now.items in
    let cs = c.items-cells.result.now.items in
    let v = c.index.result.now in
    let k = c.index-in-loop-at.result.now in
    let cell = c.index-in-loop-at-2.result.now in
    let long_ks = ap length c.items-places.ensures in
    let long_vs = ap length c.items-values.ensures in
    let ka : slice_get info.key at ≡ Some k = ap (λ l. slice_get l at) (sym c.items-places.ensures) ∙ slice_get_read ks (length ks) at k refl (omega (arith, long_ks)) c.index-in-loop-at.ensures in
    let va : slice_get key.cells at ≡ Some v = ap (λ l. slice_get l at) (sym c.items-values.ensures) ∙ slice_get_read vs (length vs) at v refl (omega (arith, long_vs, long_ks, c.requires.long)) c.index.ensures in
    let in_info : k < length info.columns = key_place info at k ka in
    let ca : slice_get cells k ≡ Some cell = ap (λ l. slice_get l k) (sym c.items-cells.ensures) ∙ slice_get_read cs (length cs) k cell refl (omega (arith, ap length c.items-cells.ensures, c.requires.wide)) c.index-in-loop-at-2.ensures in
    let wb : slice_get new.cells at ≡ Some (given_or_null cell) = new_cell info cells at k cell ka ca in
    let no : c.is_given.result ≡ false = search rules in
    sym (c.loop-at.invariant ∙ same_not key new at v (given_or_null cell) va wb (sym c.is_given.ensures ∙ no))

pub loop-at-preserved : goal.loop-at-preserved
loop-at-preserved c =
    let info = c.args.info.now in
    let key = c.args.key.now in
    let cells = c.args.cells.now in
    let at = c.loop-at.at in
    let new = new_key_of info cells in
    let vs = c.items-values.result.now.items in
    let ks = c.items-places.result.now.items in
    let cs = c.items-cells.result.now.items in
    let v = c.index.result.now in
    let k = c.index-in-loop-at.result.now in
    let cell = c.index-in-loop-at-2.result.now in
    let long_ks = ap length c.items-places.ensures in
    let long_vs = ap length c.items-values.ensures in
    let ka : slice_get info.key at ≡ Some k = ap (λ l. slice_get l at) (sym c.items-places.ensures) ∙ slice_get_read ks (length ks) at k refl (omega (arith, long_ks)) c.index-in-loop-at.ensures in
    let va : slice_get key.cells at ≡ Some v = ap (λ l. slice_get l at) (sym c.items-values.ensures) ∙ slice_get_read vs (length vs) at v refl (omega (arith, long_vs, long_ks, c.requires.long)) c.index.ensures in
    let in_info : k < length info.columns = key_place info at k ka in
    let ca : slice_get cells k ≡ Some cell = ap (λ l. slice_get l k) (sym c.items-cells.ensures) ∙ slice_get_read cs (length cs) k cell refl (omega (arith, ap length c.items-cells.ensures, c.requires.wide)) c.index-in-loop-at-2.ensures in
    let wb : slice_get new.cells at ≡ Some (given_or_null cell) = new_cell info cells at k cell ka ca in
    let yes : c.is_given.result ≡ true = search rules in
    let next : suc at ≡ at + 1 = omega arith in
    c.loop-at.invariant ∙ same_more key new at v (given_or_null cell) va wb (sym c.is_given.ensures ∙ yes) ∙ ap (λ m. same_from m key new) next
