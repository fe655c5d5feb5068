-- A catalogue entry has one info, and a topic one table.
use Rattle.std.proofs.Common.{◌≡◌, ◌∙◌, ◌<◌, ℕ, zero, suc, Bool, true, false, not, ◌&&◌, ◌||◌, List, [], ◌∷◌, ◌++◌, inl, inr, length, map, refl, sym, ap, arith, append_assoc}
use Rattle.std.specs.Prelude.{Some, IsTrue, nat_eq, nat_lt, nat_le, codes}
use Rattle.std.specs.List.{list_any, list_all}
use Rattle.std.specs.Str.{bytes_eq}
use Rattle.std.proofs.Math.Bool.{Bool-set}
use mathlib.Core.HLevel.{is_prop→PathP}
use Rattle.std.proofs.lemmas.List.{append_cancel_left}
use Rattle.std.proofs.lemmas.Slice.Eq.{bytes_eq-Decides}
use Rattle.std.proofs.lemmas.Bool.Decides.{Decides-eqb, Decides-ltb}
use Rattle.dbl_value_types.specs.declared.column_type.PgType.{PgType}
use Rattle.dbl_value_types.specs.Values.{oid_of, type_of, is_column_type}
use Rattle.dbl_value_types.proofs.TypeLemmas.{type_of-oid_of}
use Rattle.dbl_model_table.specs.declared.table.Column.{Column}
use Rattle.dbl_model_table.specs.declared.table.RawColumn.{RawColumn}
use Rattle.dbl_model_table.specs.declared.table.RawTable.{RawTable}
use Rattle.dbl_model_table.specs.declared.table.TableInfo.{TableInfo}
use Rattle.dbl_model_table.specs.declared.identity.Identity.{Identity}
use Rattle.dbl_model_table.specs.Tables.{is_name_byte, is_good_name, are_distinct, column_names, are_typed, is_key, is_table, full_name}
use Rattle.dbl_model_table.specs.Infos.{raw_column, name_at, key_names, catalogue_of, IsInfoOf, topic_of}
use Rattle.dbl_model_table.proofs.Lists.{bool_case, and_left, and_right, and_both, or_false}

-- ---- what soundness says

pub good_name : (info : TableInfo) → is_good_name info.name ≡ true
good_name info = and_left _ _ (and_left _ _ (and_left _ _ info.sound))

pub distinct_columns : (info : TableInfo) → are_distinct bytes_eq (column_names info.columns) ≡ true
distinct_columns info = and_right (is_good_name info.name) _ (and_left _ _ (and_left _ _ info.sound))

pub typed_columns : (info : TableInfo) → are_typed info.columns ≡ true
typed_columns info = and_right (is_good_name info.name && are_distinct bytes_eq (column_names info.columns)) _ (and_left _ _ info.sound)

pub sound_key : (info : TableInfo) → is_key info.columns info.key ≡ true
sound_key info = and_right (is_good_name info.name && are_distinct bytes_eq (column_names info.columns) && are_typed info.columns) _ info.sound

pub places_within : (info : TableInfo) → list_all (λ place. nat_lt place (length info.columns)) info.key ≡ true
places_within info = and_right (nat_lt 0 (length info.key)) _ (and_left _ _ (and_left _ _ (sound_key info)))

-- ---- one info

oid_of-one : (a b : PgType) → is_column_type a ≡ true → is_column_type b ≡ true → oid_of a ≡ oid_of b → a ≡ b
oid_of-one a b of_a of_b h = let same : Some a ≡ Some b = sym (type_of-oid_of a of_a) ∙ (ap type_of h ∙ type_of-oid_of b of_b) in cc

column_one : (a b : Column) → is_column_type a.ty ≡ true → is_column_type b.ty ≡ true → raw_column a ≡ raw_column b → a ≡ b
column_one a b of_a of_b h =
    let name : a.name ≡ b.name = ap (λ (c : RawColumn). c.name) h in
    let ty : a.ty ≡ b.ty = oid_of-one a.ty b.ty of_a of_b (ap (λ (c : RawColumn). c.oid) h) in
    λ i. record { name = name i; ty = ty i }

columns_one : (a b : List Column) → are_typed a ≡ true → are_typed b ≡ true → map raw_column a ≡ map raw_column b → a ≡ b
columns_one [] [] of_a of_b h = refl
columns_one [] (d ∷ b) of_a of_b h = cc
columns_one (c ∷ a) [] of_a of_b h = cc
columns_one (c ∷ a) (d ∷ b) of_a of_b h =
    let first : raw_column c ≡ raw_column d = cc in
    let rest : map raw_column a ≡ map raw_column b = cc in
    ap (λ (x : Column). x ∷ a) (column_one c d (and_left _ _ of_a) (and_left _ _ of_b) first)
    ∙ ap (λ (l : List Column). d ∷ l) (columns_one a b (and_right (is_column_type c.ty) _ of_a) (and_right (is_column_type d.ty) _ of_b) rest)

pub has_name : (columns : List Column) (i : ℕ) → i < length columns → list_any (bytes_eq (name_at columns i)) (column_names columns) ≡ true
has_name [] i lt = absurd (omega arith)
has_name (c ∷ columns) zero lt = ap (λ (b : Bool). b || list_any (bytes_eq c.name) (column_names columns)) ((bytes_eq-Decides c.name c.name).1 refl)
has_name (c ∷ columns) (suc i) lt = step (bytes_eq (name_at columns i) c.name) (has_name columns i (omega arith))
  where
    step : (b : Bool) → list_any (bytes_eq (name_at columns i)) (column_names columns) ≡ true → (b || list_any (bytes_eq (name_at columns i)) (column_names columns)) ≡ true
    step true h = refl
    step false h = h

pub not_true : (b : Bool) → not b ≡ true → b ≡ false
not_true true h = sym h
not_true false h = refl

clash : (x : List ℕ) (xs : List (List ℕ)) (y : List ℕ) → list_any (bytes_eq x) xs ≡ false → x ≡ y → list_any (bytes_eq y) xs ≡ true → ⊥
clash x xs y new same there = let contra : true ≡ false = sym there ∙ (ap (λ (z : List ℕ). list_any (bytes_eq z) xs) (sym same) ∙ new) in cc

pub place_one : (columns : List Column) (i j : ℕ) → are_distinct bytes_eq (column_names columns) ≡ true → i < length columns → j < length columns → name_at columns i ≡ name_at columns j → i ≡ j
place_one [] i j apart li lj h = absurd (omega arith)
place_one (c ∷ columns) zero zero apart li lj h = refl
place_one (c ∷ columns) zero (suc j) apart li lj h = absurd (clash c.name (column_names columns) (name_at columns j) (not_true _ (and_left _ _ apart)) h (has_name columns j (omega arith)))
place_one (c ∷ columns) (suc i) zero apart li lj h = absurd (clash c.name (column_names columns) (name_at columns i) (not_true _ (and_left _ _ apart)) (sym h) (has_name columns i (omega arith)))
place_one (c ∷ columns) (suc i) (suc j) apart li lj h = ap suc (place_one columns i j (and_right (not (list_any (bytes_eq c.name) (column_names columns))) _ apart) (omega arith) (omega arith) h)

places_one : (columns : List Column) (a b : List ℕ) → are_distinct bytes_eq (column_names columns) ≡ true → list_all (λ place. nat_lt place (length columns)) a ≡ true → list_all (λ place. nat_lt place (length columns)) b ≡ true
    → map (name_at columns) a ≡ map (name_at columns) b → a ≡ b
places_one columns [] [] apart wa wb h = refl
places_one columns [] (y ∷ b) apart wa wb h = cc
places_one columns (x ∷ a) [] apart wa wb h = cc
places_one columns (x ∷ a) (y ∷ b) apart wa wb h =
    let first : name_at columns x ≡ name_at columns y = cc in
    let rest : map (name_at columns) a ≡ map (name_at columns) b = cc in
    let here : x ≡ y = place_one columns x y apart ((Decides-ltb x (length columns)).0 (and_left _ _ wa)) ((Decides-ltb y (length columns)).0 (and_left _ _ wb)) first in
    ap (λ (n : ℕ). n ∷ a) here ∙ ap (λ (l : List ℕ). y ∷ l) (places_one columns a b apart (and_right (nat_lt x (length columns)) _ wa) (and_right (nat_lt y (length columns)) _ wb) rest)

-- infos of the same name, columns and key are one
pub info_one : (a b : TableInfo) → a.name ≡ b.name → a.columns ≡ b.columns → a.key ≡ b.key → a ≡ b
info_one a b names columns key = λ i. record {
  name = names i;
  columns = columns i;
  key = key i;
  sound = is_prop→PathP (λ j. IsTrue (is_table (names j) (columns j) (key j))) (λ j. Bool-set _ _) a.sound b.sound i;
}

pub one_info : (raw : RawTable) (a b : TableInfo) → IsInfoOf raw a → IsInfoOf raw b → a ≡ b
one_info raw a b of_a of_b =
    let same : catalogue_of a ≡ catalogue_of b = of_a ∙ sym of_b in
    let columns : a.columns ≡ b.columns = columns_one a.columns b.columns (typed_columns a) (typed_columns b) (ap (λ (r : RawTable). r.columns) same) in
    let names : map (name_at a.columns) a.key ≡ map (name_at a.columns) b.key = ap (λ (r : RawTable). r.key) same ∙ ap (λ (l : List Column). map (name_at l) b.key) (sym columns) in
    let within : list_all (λ place. nat_lt place (length a.columns)) b.key ≡ true = ap (λ (l : List Column). list_all (λ place. nat_lt place (length l)) b.key) columns ∙ places_within b in
    info_one a b (ap (λ (r : RawTable). r.name) same) columns (places_one a.columns a.key b.key (distinct_columns a) (places_within a) within names)

-- ---- one table for a topic

letter : (c : ℕ) → is_name_byte c ≡ true → c ≡ 46 → ⊥
letter c h e = let contra : is_name_byte 46 ≡ true = ap is_name_byte (sym e) ∙ h in cc

-- texts without a dot, each before one
parted : (xs ys zs ws : List ℕ) → list_all is_name_byte xs ≡ true → list_all is_name_byte ys ≡ true → xs ++ 46 ∷ zs ≡ ys ++ 46 ∷ ws → (xs ≡ ys) × (zs ≡ ws)
parted [] [] zs ws hx hy h = (refl, (cc))
parted [] (y ∷ ys) zs ws hx hy h = let e : 46 ≡ y = cc in absurd (letter y (and_left _ _ hy) (sym e))
parted (x ∷ xs) [] zs ws hx hy h = let e : x ≡ 46 = cc in absurd (letter x (and_left _ _ hx) e)
parted (x ∷ xs) (y ∷ ys) zs ws hx hy h =
    let first : x ≡ y = cc in
    let rest : xs ++ 46 ∷ zs ≡ ys ++ 46 ∷ ws = cc in
    let both : (xs ≡ ys) × (zs ≡ ws) = parted xs ys zs ws (and_right (is_name_byte x) _ hx) (and_right (is_name_byte y) _ hy) rest in
    (ap (λ (c : ℕ). c ∷ xs) first ∙ ap (λ (l : List ℕ). y ∷ l) both.0, both.1)

schema_bytes : (info : TableInfo) → list_all is_name_byte info.name.schema ≡ true
schema_bytes info = and_right (nat_lt 0 (length info.name.schema) && nat_le (length info.name.schema) 63) _ (and_left _ _ (and_left _ _ (and_left _ _ (good_name info))))

pub topic_one : (identity : Identity) (a b : TableInfo) → topic_of identity a ≡ topic_of identity b → a.name ≡ b.name
topic_one identity a b h =
    let whole : full_name a.name ≡ full_name b.name = append_cancel_left (identity.prefix ++ codes ".") (full_name a.name) (full_name b.name) h in
    let dotted : a.name.schema ++ 46 ∷ a.name.name ≡ b.name.schema ++ 46 ∷ b.name.name = sym (append_assoc a.name.schema (codes ".") a.name.name) ∙ (whole ∙ append_assoc b.name.schema (codes ".") b.name.name) in
    let parts = parted a.name.schema b.name.schema a.name.name b.name.name (schema_bytes a) (schema_bytes b) dotted in
    λ i. record { schema = parts.0 i; name = parts.1 i }

-- ---- the key's names

key_places_distinct : (info : TableInfo) → are_distinct nat_eq info.key ≡ true
key_places_distinct info = and_right (nat_lt 0 (length info.key) && list_all (λ place. nat_lt place (length info.columns)) info.key) _ (and_left _ _ (sound_key info))

pub true_false : true ≡ false → ⊥
true_false e = cc

apart_names : (columns : List Column) (x : ℕ) (places : List ℕ) → are_distinct bytes_eq (column_names columns) ≡ true → x < length columns → list_all (λ place. nat_lt place (length columns)) places ≡ true
    → list_any (nat_eq x) places ≡ false → list_any (bytes_eq (name_at columns x)) (map (name_at columns) places) ≡ false
apart_names columns x [] apart lt within new = refl
apart_names columns x (y ∷ places) apart lt within new =
    let other = or_false (nat_eq x y) (list_any (nat_eq x) places) new in
    elim (bool_case (bytes_eq (name_at columns x) (name_at columns y))) [
      | inl same ↦ (
          let e : x ≡ y = place_one columns x y apart lt ((Decides-ltb y (length columns)).0 (and_left _ _ within)) ((bytes_eq-Decides (name_at columns x) (name_at columns y)).0 same) in
          absurd (true_false (sym ((Decides-eqb x y).1 e) ∙ other.0)))
      | inr differ ↦ ap (λ (b : Bool). b || list_any (bytes_eq (name_at columns x)) (map (name_at columns) places)) differ ∙ apart_names columns x places apart lt (and_right (nat_lt y (length columns)) _ within) other.1
    ]

names_distinct : (columns : List Column) (places : List ℕ) → are_distinct bytes_eq (column_names columns) ≡ true → list_all (λ place. nat_lt place (length columns)) places ≡ true → are_distinct nat_eq places ≡ true
    → are_distinct bytes_eq (map (name_at columns) places) ≡ true
names_distinct columns [] apart within places_apart = refl
names_distinct columns (x ∷ places) apart within places_apart =
    and_both _ _
    (ap not (apart_names columns x places apart ((Decides-ltb x (length columns)).0 (and_left _ _ within)) (and_right (nat_lt x (length columns)) _ within) (not_true (list_any (nat_eq x) places) (and_left _ _ places_apart))))
    (names_distinct columns places apart (and_right (nat_lt x (length columns)) _ within) (and_right (not (list_any (nat_eq x) places)) _ places_apart))

pub key_names_distinct : (info : TableInfo) → are_distinct bytes_eq (key_names info) ≡ true
key_names_distinct info = names_distinct info.columns info.key (distinct_columns info) (places_within info) (key_places_distinct info)
