use Rattle.std.proofs.Common.{◌≡◌, ◌∙◌, ◌++◌, ◌∷◌, ◌+◌, [], Some, slice_get, ap, sym, refl, subst, length, ◌<◌, drop, arith}
use Rattle.std.proofs.lemmas.List.{drop_more}
use Rattle.std.proofs.lemmas.Option.{slice_get_read}
use Rattle.std.specs.List.{slice_index_or}
use Rattle.json.specs.Token.{key}
use Rattle.json.specs.Tree.{json_tokens}
use Rattle.serde_json.specs.Written.{outline}
use Rattle.dbl_value_types.specs.Values.{json_data}
use Rattle.dbl_envelope_json.proofs.TokenLemmas.{cell_step}
use Rattle.dbl_envelope_json.proofs.tokens.write_cells.Goals as goal

pub loop-place-preserved : goal.loop-place-preserved
loop-place-preserved c =
    let order = c.args.order.now in
    let cells = c.args.cells.now in
    let i = c.loop-place.place-index in
    let p = c.place-item.result in
    let cell = c.index.result.now in
    let tie : c.deref-place-items.result.now ≡ order = c.deref-place-items.ensures.value ∙ c.items.ensures in
    let cell_tie : c.items-cells.result.now.items ≡ cells = c.items-cells.ensures in
    let within : i < length order = omega (arith, ap length tie) in
    let place_is : p ≡ slice_index_or order i p = c.place-item.is ∙ ap (λ l. slice_index_or l i p) tie in
    let here : drop i order ≡ p ∷ drop (i + 1) order = drop_more order i p within ∙ ap (λ y. y ∷ drop (i + 1) order) (sym place_is) in
    let bound : p.index < length cells = subst (λ y. y.index < length cells) (sym place_is) (c.requires.places i p within) in
    let cell_is : cell ≡ slice_index_or cells p.index cell = c.index.ensures ∙ ap (λ l. slice_index_or l p.index cell) cell_tie in
    let found : slice_get cells p.index ≡ Some cell = slice_get_read cells (length cells) p.index cell refl bound cell_is in
    let wrote : c.write_json.new.writer.tokens ≡ (c.loop-place.writer.tokens ++ key p.name ∷ []) ++ json_tokens (outline (json_data cell)) =
    c.in_ok-write_json.ensures.ok ∙ ap (λ ts. ts ++ json_tokens (outline (json_data cell))) (c.in_ok-key.ensures.ok ∙ ap (λ n. c.loop-place.writer.tokens ++ key n ∷ []) c.as_str.ensures.value) in
    (cell_step cells (drop i order) (drop (i + 1) order) p cell c.loop-place.writer.tokens c.write_json.new.writer.tokens _ here found c.loop-place.invariant.0 wrote, c.in_ok-write_json.ensures.before ∙ c.in_ok-key.ensures.room.0 ∙ c.loop-place.invariant.1)
