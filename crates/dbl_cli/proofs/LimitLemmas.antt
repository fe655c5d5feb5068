-- What the words spell is within the limits.
use Rattle.std.proofs.Common.{◌≡◌, ◌∙◌, ℕ, ◌≤◌, ◌&&◌, nat_le, Bool, true, option_map, List, [], ◌∷◌, ◌++◌, length, map, Option, Some, None, Result, Ok, Err, IfOk, codes, refl, sym, ap, subst, arith, leb, ltb}
use Rattle.std.specs.List.{list_all, after_first, slice_split}
use Rattle.std.specs.Option.{unwrap_or}
use Rattle.std.specs.Str.Parse.{digits_value}
use Rattle.std.proofs.lemmas.Bool.{and_parts, and_from, leb-true}
use Rattle.std.proofs.lemmas.Bool.Decides.{nat_tests}
use Rattle.std.proofs.lemmas.List.{length-map}
use Rattle.std.proofs.lemmas.List.Splits.{length-slice_split}
use Rattle.dbl_model_table.specs.Identities.{default_placeholder}
use Rattle.dbl_model_table.specs.Tables.{is_name}
use Rattle.dbl_cli.specs.declared.verbs.Verb.{Verb}
use Rattle.dbl_cli.specs.declared.verbs.Verb.TheVariants as verb
use Rattle.dbl_cli_commands.specs.declared.commands.Command.{Command}
use Rattle.dbl_cli.specs.Items.{Setting, value_of}
use Rattle.dbl_cli_commands.specs.Values.{is_number, number_or, passes, is_placeholder, is_named, is_table, table_in, are_tables, is_comma, is_colon, is_column, is_key, key_in, tables_in, are_keys, masked_table_in, after_table, mask_parts, is_stars, is_masked, mask_in, is_mask}
use Rattle.dbl_cli.specs.Commands.{most_of, names_pass, pace_passes, limit_passes, name_or_demo, placeholder_or_own, number_in, values_pass, command_of}
use Rattle.dbl_cli.specs.declared.error.CliError.{CliError}
use Rattle.dbl_cli.specs.Found.{ReadsItems}
use Rattle.dbl_cli_commands.specs.Limits.{IsBetween, AreGoodNames, IsGoodPace, AreGoodTables, has_columns, AreGoodKeys, IsGoodMask, IsWithin}

text_within : (test : List ℕ → Bool) (default : List ℕ) → test default ≡ true → (value : Option (List ℕ)) → passes test value ≡ true → test (unwrap_or value default) ≡ true
text_within test default own None pass = own
text_within test default own (Some text) pass = pass

spelled_within : (least most : ℕ) (text : List ℕ) → is_number least most text ≡ true → IsBetween least most (digits_value 10 text)
spelled_within least most text pass =
    let outer = and_parts _ _ pass in
    let inner = and_parts _ _ outer.0 in
    (leb-true _ _ inner.1, leb-true _ _ outer.1)

number_within : (least most default : ℕ) → least ≤ default → default ≤ most → (value : Option (List ℕ)) → passes (is_number least most) value ≡ true → IsBetween least most (number_or default value)
number_within least most default low high None pass = (low, high)
number_within least most default low high (Some text) pass = spelled_within least most text pass

names_within : (prefix db placeholder : Option (List ℕ)) → names_pass prefix db placeholder ≡ true → AreGoodNames (name_or_demo prefix) (name_or_demo db) (placeholder_or_own placeholder)
names_within prefix db placeholder pass =
    let outer = and_parts (passes is_name prefix) _ pass in
    let inner = and_parts (passes is_name db) _ outer.1 in
    record {
      prefix_is = text_within is_name (codes "demo") refl prefix outer.0;
      db_is = text_within is_name (codes "demo") refl db inner.0;
      placeholder_is = text_within is_placeholder default_placeholder refl placeholder inner.1;
    }

pace_within : (chunk every messages : Option (List ℕ)) → pace_passes chunk every messages ≡ true → IsGoodPace (number_or 1000 chunk) (number_or 100 every) (number_or 999999999 messages)
pace_within chunk every messages pass =
    let outer = and_parts (passes (is_number 1 100000) chunk) _ pass in
    let inner = and_parts (passes (is_number 1 10000) every) _ outer.1 in
    record {
      chunk_is = number_within 1 100000 1000 (omega arith) (omega arith) chunk outer.0;
      every_is = number_within 1 10000 100 (omega arith) (omega arith) every inner.0;
      messages_are = number_within 1 999999999 999999999 (omega arith) (omega arith) messages inner.1;
    }

list_all-map : {X Y : Type 0} (p : Y → Bool) (f : X → Y) (xs : List X) → list_all p (map f xs) ≡ list_all (λ x. p (f x)) xs
list_all-map p f [] = refl
list_all-map p f (x ∷ xs) = ap (λ b. p (f x) && b) (list_all-map p f xs)

few_mapped : {Y : Type 0} (f : List ℕ → Y) (texts : List (List ℕ)) → leb (length texts) 64 ≡ true → length (map f texts) ≤ 64
few_mapped f texts few = rw length-map (leb-true (length texts) 64 few)

tables_within : (texts : List (List ℕ)) → leb (length texts) 64 ≡ true → are_tables texts ≡ true → AreGoodTables (map table_in texts)
tables_within texts few pass =
    let parts = and_parts (list_all is_table texts) _ pass in
    record { few = few_mapped table_in texts few; named = list_all-map is_named table_in texts ∙ parts.0; distinct = parts.1 }

columns_within : (word : List ℕ) → is_key word ≡ true → has_columns (key_in word) ≡ true
columns_within word pass =
    let parts = and_parts _ (list_all is_column (key_in word).columns) pass in
    let some : ltb 0 (length (slice_split is_comma (after_first is_colon word))) ≡ true = rw (length-slice_split is_comma (after_first is_colon word)) (grind (arith, nat_tests)) in
    and_from _ _ some parts.1

keys_named : (texts : List (List ℕ)) → list_all is_key texts ≡ true → list_all is_named (tables_in (map key_in texts)) ≡ true
keys_named [] pass = refl
keys_named (text ∷ texts) pass =
    let parts = and_parts (is_key text) (list_all is_key texts) pass in
    and_from _ _ (and_parts _ _ parts.0).0 (keys_named texts parts.1)

keys_columns : (texts : List (List ℕ)) → list_all is_key texts ≡ true → list_all has_columns (map key_in texts) ≡ true
keys_columns [] pass = refl
keys_columns (text ∷ texts) pass =
    let parts = and_parts (is_key text) (list_all is_key texts) pass in
    and_from _ _ (columns_within text parts.0) (keys_columns texts parts.1)

keys_within : (texts : List (List ℕ)) → leb (length texts) 64 ≡ true → are_keys texts ≡ true → AreGoodKeys (map key_in texts)
keys_within texts few pass =
    let parts = and_parts (list_all is_key texts) _ pass in
    let short = few_mapped key_in texts few in
    record {
      tables = record { few = rw length-map short; named = keys_named texts parts.0; distinct = parts.1 };
      columns = keys_columns texts parts.0;
    }

-- a mask's word within the limits
mask_within : (mask : Option (List ℕ)) → passes is_mask mask ≡ true → IsGoodMask (option_map mask_in mask)
mask_within None pass = tt
mask_within (Some word) pass =
    let outer = and_parts (is_named (masked_table_in word)) (is_masked (mask_parts (after_table word))) pass in
    let inner = and_parts (is_column (mask_parts (after_table word)).0) (is_stars (mask_parts (after_table word)).1) outer.1 in
    let digits : List ℕ = (mask_parts (after_table word)).1 in
    let short = and_parts (nat_le (length digits) 3) (is_number 0 255 digits) inner.1 in
    (outer.0, inner.0, (spelled_within 0 255 digits short.1).1)

one_within : (texts : List (List ℕ)) → list_all (is_number 0 999999999) texts ≡ true → IsBetween 0 999999999 (number_in texts)
one_within [] pass = (omega arith, omega arith)
one_within (text ∷ texts) pass = spelled_within 0 999999999 text (and_parts (is_number 0 999999999 text) _ pass).0

command_within : (v : Verb) (settings : List Setting) (texts : List (List ℕ)) → values_pass v settings texts ≡ true → leb (length texts) (most_of v) ≡ true → IsWithin (command_of v settings texts)
command_within verb.Init settings texts pass few = tt
command_within verb.Topics settings texts pass few = tt
command_within verb.Offsets settings texts pass few = tt
command_within verb.Compact settings texts pass few = tt
command_within verb.Capture settings texts pass few =
    let outer = and_parts (names_pass (value_of (codes "prefix") settings) (value_of (codes "db") settings) (value_of (codes "placeholder") settings)) _ pass in
    let inner = and_parts (pace_passes (value_of (codes "chunk") settings) (value_of (codes "every") settings) (value_of (codes "messages") settings)) _ outer.1 in (
      names_within (value_of (codes "prefix") settings) (value_of (codes "db") settings) (value_of (codes "placeholder") settings) outer.0,
      pace_within (value_of (codes "chunk") settings) (value_of (codes "every") settings) (value_of (codes "messages") settings) inner.0,
      tables_within texts few (and_parts (limit_passes (value_of (codes "max-value") settings)) _ inner.1).1,
    )
command_within verb.Resume settings texts pass few =
    let both = and_parts (pace_passes (value_of (codes "chunk") settings) (value_of (codes "every") settings) (value_of (codes "messages") settings)) _ pass in
    pace_within (value_of (codes "chunk") settings) (value_of (codes "every") settings) (value_of (codes "messages") settings) both.0
command_within verb.Apply settings texts pass few =
    text_within is_placeholder default_placeholder refl (value_of (codes "placeholder") settings) (and_parts _ (passes is_placeholder (value_of (codes "placeholder") settings)) pass).1
command_within verb.Replay settings texts pass few =
    let outer = and_parts (names_pass (value_of (codes "prefix") settings) (value_of (codes "db") settings) (value_of (codes "placeholder") settings)) _ pass in
    let inner = and_parts (passes is_mask (value_of (codes "mask") settings)) _ outer.1 in
    (names_within (value_of (codes "prefix") settings) (value_of (codes "db") settings) (value_of (codes "placeholder") settings) outer.0, keys_within texts few inner.1, mask_within (value_of (codes "mask") settings) inner.0)
command_within verb.Gen settings texts pass few =
    let outer = and_parts (list_all (is_number 0 999999999) texts) _ pass in
    let inner = and_parts (passes (is_number 0 400000) (value_of (codes "rows") settings)) _ outer.1 in (
      one_within texts outer.0,
      number_within 0 400000 2500 (omega arith) (omega arith) (value_of (codes "rows") settings) inner.0,
      number_within 0 90000 500 (omega arith) (omega arith) (value_of (codes "groups") settings) inner.1,
    )

-- what the words say is within the limits
pub said_is_within : (v : Verb) (words : List (List ℕ)) (r : Result Command CliError) → ReadsItems v words r → IfOk r IsWithin
said_is_within v words (Ok command) says = subst IsWithin (sym says.says) (command_within v (says.front ++ says.back) says.texts says.pass says.items.few)
said_is_within v words (Err e) reads = tt
