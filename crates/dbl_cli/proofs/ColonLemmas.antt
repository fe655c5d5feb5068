-- The last colon of a text.
use Rattle.std.proofs.Common.{◌≡◌, ◌∙◌, ℕ, zero, suc, ◌+◌, ◌<◌, ◌≤◌, Option, Some, None, MatchOption, List, [], ◌∷◌, ◌++◌, length, get_or, take, drop}
use Rattle.std.proofs.Common.{refl, sym, ap, ap₂, arith, true, Bor, eqb, take-append-drop}
use Rattle.std.specs.List.{before_first, after_first}
use Rattle.std.specs.Prelude.{option_map}
use Rattle.std.specs.Str.Parse.{digits_value}
use Rattle.std.specs.Str.Pattern.{RFindsChar}
use Rattle.std.proofs.lemmas.Bool.{ne_eqb, cond-false, and_from}
use Rattle.std.proofs.lemmas.List.{drop_more}
use Rattle.std.proofs.lemmas.Str.{len_utf8_ascii}
use Rattle.std.proofs.lemmas.Str.Pattern.{NoCharPasses-char}
use Rattle.dbl_model_table.specs.declared.table.TableName.{TableName}
use Rattle.dbl_cli_commands.specs.Values.{is_dot, is_named, masked_table_in, after_table, around_colon, around_last_colon, mask_parts, is_masked, mask_in, is_mask}

not_here : (c : ℕ) (text : List ℕ) → (c ≡ 58 → ⊥) → around_colon c text None ≡ None
not_here c text other =
    let found : Option (List ℕ × List ℕ) = Some ([], text) in
    cond-false (eqb c 58) found None (ne_eqb c 58 other)

no_colon : (text : List ℕ) → ((i : ℕ) → i < length text → get_or text i 0 ≡ 58 → ⊥) → around_last_colon text ≡ None
no_colon [] none = refl
no_colon (c ∷ text) none =
    ap (around_colon c text) (no_colon text (λ i lt is. none (suc i) (omega (arith, lt)) is)) ∙ not_here c text (none zero (omega arith))

last_colon : (before after : List ℕ) → around_last_colon after ≡ None → around_last_colon (before ++ 58 ∷ after) ≡ Some (before, after)
last_colon [] after none = ap (around_colon 58 after) none
last_colon (c ∷ before) after none = ap (around_colon c (before ++ 58 ∷ after)) (last_colon before after none)

pub split_at_last : (text : List ℕ) (r : Option (Bor (List ℕ) × Bor (List ℕ)))
    → MatchOption r (RFindsChar 58 text None) (λ x. (i : ℕ) × (j : ℕ) × RFindsChar 58 text (Some (i, j)) × (x.0.now ≡ take i text)
    × (x.1.now ≡ drop j text) × (i ≤ j) × (length x.0.now ≡ i) × (length x.1.now + j ≡ length text))
    → option_map (λ x. (x.0.now, x.1.now)) r ≡ around_last_colon text
split_at_last text None h = sym (no_colon text (λ i. NoCharPasses-char 58 text i h (omega arith)))
split_at_last text (Some x) h =
    let i = h.0 in
    let j = h.1 in
    let next : j ≡ i + 1 = omega (arith, h.2.1.ends, len_utf8_ascii 58 (omega arith)) in
    let later : (k : ℕ) → k < length (drop j text) → get_or (drop j text) k 0 ≡ 58 → ⊥ =
    λ k. NoCharPasses-char 58 (drop j text) k h.2.0 (omega arith) in
    let within : i < length text = omega (arith, h.7) in
    let here : drop i text ≡ 58 ∷ drop j text =
    drop_more text i 0 within ∙ ap (λ (n : ℕ). n ∷ drop (i + 1) text) (h.2.1.byte (omega arith)) ∙ ap (λ (n : ℕ). 58 ∷ drop n text) (sym next) in
    let whole : text ≡ take i text ++ 58 ∷ drop j text = sym (take-append-drop i text) ∙ ap (λ (l : List ℕ). take i text ++ l) here in
    let found = last_colon (take i text) (drop j text) (no_colon (drop j text) later) in
    (λ t. Some (h.3 t, h.4 t)) ∙ sym (ap around_last_colon whole ∙ found)

-- the mask that the parts of a word make
pub mask_made : (word schema name rest : List ℕ) (table : TableName) (column : List ℕ) (stars : ℕ) → schema ≡ before_first is_dot word
    → name ≡ before_first is_dot (after_first is_dot word) → rest ≡ after_table word
    → (is_named (record { schema = schema; name = name }) ≡ true) × (table ≡ record { schema = schema; name = name })
    → (is_masked (mask_parts rest) ≡ true) × ◌≡◌ {A = List ℕ × ℕ} (column, stars) ((mask_parts rest).0, digits_value 10 (mask_parts rest).1)
    → (is_mask word ≡ true) × (record { table = table; column = column; stars = stars } ≡ mask_in word)
mask_made word schema name rest table column stars schema_is name_is rest_is named masked =
    let whole : table ≡ masked_table_in word = named.1 ∙ ap₂ (λ (s n : List ℕ). record { schema = s; name = n }) schema_is name_is in
    let column_is : column ≡ (mask_parts (after_table word)).0 =
    ap (λ (x : List ℕ × ℕ). x.0) masked.1 ∙ ap (λ (r : List ℕ). (mask_parts r).0) rest_is in
    let stars_are : stars ≡ digits_value 10 (mask_parts (after_table word)).1 =
    ap (λ (x : List ℕ × ℕ). x.1) masked.1 ∙ ap (λ (r : List ℕ). digits_value 10 (mask_parts r).1) rest_is in
    let table_named : is_named (masked_table_in word) ≡ true = ap is_named (sym whole ∙ named.1) ∙ named.0 in
    let parts_masked : is_masked (mask_parts (after_table word)) ≡ true = ap (λ (r : List ℕ). is_masked (mask_parts r)) (sym rest_is) ∙ masked.0 in
    (and_from _ _ table_named parts_masked, (λ i. record { table = whole i; column = column_is i; stars = stars_are i }))
