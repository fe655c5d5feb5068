-- What is captured of a catalogue's table.
use Rattle.std.proofs.lemmas.List.{length-map, length-take-le, map-append, take_more, drop_more, take-append-drop}
use Rattle.std.proofs.Common.{◌≡◌, ◌≢◌, ◌∙◌, ◌+◌, ◌<◌, ℕ, zero, suc, Bool, true, false, cond, not, ◌&&◌, ◌||◌, ◌⊎◌, inl, inr, Option, Some, None, List, [], ◌∷◌, ◌++◌, length, map, take, drop, get_or, refl, sym, ap, subst, arith}
use Rattle.std.specs.Prelude.{nat_eq, nat_lt, is_some, slice_get, option_map, option_and_then, unwrap_or, if◌then◌else◌}
use Rattle.std.specs.List.{find, list_any, list_all}
use Rattle.std.proofs.lemmas.Option.{slice_get-map}
use Rattle.std.specs.Str.{bytes_eq}
use Rattle.std.proofs.lemmas.Slice.Eq.{bytes_eq-Decides}
use Rattle.std.proofs.lemmas.Bool.Decides.{Decides-eqb, Decides-ltb}
use Rattle.dbl_value_types.specs.declared.column_type.PgType.{PgType}
use Rattle.dbl_value_types.specs.declared.column_type.PgType.TheVariants as type
use Rattle.dbl_value_types.specs.Types.{oid_of, listed, is_float, has_oid, type_of, is_column_type}
use Rattle.dbl_value_types.proofs.TypeLemmas.{type_of-oid_of, oids_name_types}
use Rattle.dbl_model_table.specs.declared.table.TableName.{TableName}
use Rattle.dbl_model_table.specs.declared.table.Column.{Column}
use Rattle.dbl_model_table.specs.declared.table.RawColumn.{RawColumn}
use Rattle.dbl_model_table.specs.declared.table.RawTable.{RawTable}
use Rattle.dbl_model_table.specs.declared.error.ModelError.{ModelError}
use Rattle.dbl_model_table.specs.Tables.{is_good_name, are_distinct, column_names, type_at, is_key_type, are_typed, is_unfit, is_table}
use Rattle.dbl_model_table.specs.Infos.{raw_column, name_at}
use Rattle.dbl_model_table.specs.Made.{raw_names, place_of, first_repeated, has_key, may_be_key, is_key_column, has_key_type, first_fault}
use Rattle.dbl_model_table.proofs.Lists.{bool_case, and_left, and_right, and_both, and_false, or_false, or_none, same_text, text_itself, text_flip, any-push, any_here, all_not, distinct-push, distinct_not, or_else, or_else-none, position_from-push, is_some-position_from, position_from-at, slice_get-lt}

-- ---- columns by their names

pub place_of-push : (names : List (List ℕ)) (name q : List ℕ) → place_of (names ++ name ∷ []) q ≡ or_else (place_of names q) (cond (bytes_eq q name) (Some (length names)) None)
place_of-push names name q = let e : 0 + length names ≡ length names = omega arith in position_from-push (bytes_eq q) 0 names name ∙ ap (λ (n : ℕ). or_else (place_of names q) (cond (bytes_eq q name) (Some n) None)) e

pub place_of-none : (names : List (List ℕ)) (q : List ℕ) → list_any (bytes_eq q) names ≡ false → place_of names q ≡ None
place_of-none names q h = step (place_of names q) (is_some-position_from (bytes_eq q) 0 names ∙ h)
  where
    step : (o : Option ℕ) → is_some o ≡ false → o ≡ None
    step None e = refl
    step (Some n) e = cc

-- one more column
pub entered : (names : List (List ℕ)) (name : List ℕ) (i : ℕ) (before after : List ℕ → Option ℕ) → i ≡ length names → ((q : List ℕ) → before q ≡ place_of names q) → list_any (bytes_eq name) names ≡ false
    → ((q : List ℕ) → after q ≡ cond (bytes_eq name q) (Some i) (before q)) → (q : List ℕ) → after q ≡ place_of (names ++ name ∷ []) q
entered names name i before after at was new is q = elim (bool_case (bytes_eq name q)) [
  | inl same ↦ (
      let e : name ≡ q = same_text name q same in
      let none : place_of names q ≡ None = ap (place_of names) (sym e) ∙ place_of-none names name new in
      let there : bytes_eq q name ≡ true = (bytes_eq-Decides q name).1 (sym e) in
      is q ∙ (ap (λ (b : Bool). cond b (Some i) (before q)) same ∙ (ap Some at
      ∙ sym (place_of-push names name q ∙ (ap (λ (o : Option ℕ). or_else o (cond (bytes_eq q name) (Some (length names)) None)) none ∙ ap (λ (b : Bool). cond b (Some (length names)) None) there)))))
  | inr other ↦ (
      is q ∙ (ap (λ (b : Bool). cond b (Some i) (before q)) other ∙ (was q
      ∙ sym (place_of-push names name q ∙ (ap (λ (b : Bool). or_else (place_of names q) (cond b (Some (length names)) None)) (text_flip name q other) ∙ or_else-none (place_of names q))))))
]

pub first_repeated-new : (before : List (List ℕ)) (name : List ℕ) (names : List (List ℕ)) → list_any (bytes_eq name) before ≡ false → first_repeated before (name ∷ names) ≡ first_repeated (before ++ name ∷ []) names
first_repeated-new before name names h = ap (λ (b : Bool). if b then Some name else first_repeated (before ++ name ∷ []) names) h

pub first_repeated-here : (before : List (List ℕ)) (name : List ℕ) (names : List (List ℕ)) → list_any (bytes_eq name) before ≡ true → first_repeated before (name ∷ names) ≡ Some name
first_repeated-here before name names h = ap (λ (b : Bool). if b then Some name else first_repeated (before ++ name ∷ []) names) h

-- ---- the key's columns

-- what is left of the columns after some names were taken
abbrev pub left_of : List (List ℕ) → List (List ℕ) → List ℕ → Option ℕ
left_of taken names q = cond (list_any (bytes_eq q) taken) None (place_of names q)

pub taken_one : (taken names : List (List ℕ)) (name : List ℕ) (before after : List ℕ → Option ℕ) → ((q : List ℕ) → before q ≡ left_of taken names q)
    → ((q : List ℕ) → after q ≡ cond (bytes_eq name q) None (before q)) → (q : List ℕ) → after q ≡ left_of (taken ++ name ∷ []) names q
taken_one taken names name before after was is q = elim (bool_case (bytes_eq name q)) [
  | inl same ↦ (
      let there : list_any (bytes_eq q) (taken ++ name ∷ []) ≡ true = any_here (bytes_eq q) taken name [] ((bytes_eq-Decides q name).1 (sym (same_text name q same))) in
      is q ∙ (ap (λ (b : Bool). cond b None (before q)) same ∙ sym (ap (λ (b : Bool). cond b None (place_of names q)) there)))
  | inr other ↦ (
      let there : list_any (bytes_eq q) (taken ++ name ∷ []) ≡ list_any (bytes_eq q) taken = any-push (bytes_eq q) taken name ∙ (ap (λ (b : Bool). list_any (bytes_eq q) taken || b) (text_flip name q other) ∙ or_none (list_any (bytes_eq q) taken)) in
      is q ∙ (ap (λ (b : Bool). cond b None (before q)) other ∙ (was q ∙ sym (ap (λ (b : Bool). cond b None (place_of names q)) there))))
]

abbrev pub IsLeft : List (List ℕ) → List (List ℕ) → List ℕ → ℕ → Type 0
IsLeft taken names name place = (list_any (bytes_eq name) taken ≡ false) × (place_of names name ≡ Some place)

pub found : (taken names : List (List ℕ)) (name : List ℕ) (place : ℕ) → left_of taken names name ≡ Some place → IsLeft taken names name place
found taken names name place h = step (list_any (bytes_eq name) taken) (place_of names name) h
  where
    step : (b : Bool) (o : Option ℕ) → cond b None o ≡ Some place → (b ≡ false) × (o ≡ Some place)
    step true o e = cc
    step false o e = (refl, e)

-- a name that isn't left makes the key no key
pub no_key : (raw : RawTable) (taken : List (List ℕ)) (name : List ℕ) (rest : List (List ℕ)) → raw.key ≡ taken ++ name ∷ rest → left_of taken (raw_names raw.columns) name ≡ None → has_key raw ≡ false
no_key raw taken name rest is h = elim (bool_case (list_any (bytes_eq name) taken)) [
  | inl twice ↦ (
      let apart : are_distinct bytes_eq raw.key ≡ false = ap (are_distinct bytes_eq) is ∙ distinct_not taken name rest twice in
      ap (λ (b : Bool). nat_lt 0 (length raw.key) && list_all (λ (n : List ℕ). list_any (bytes_eq n) (raw_names raw.columns)) raw.key && b) apart
      ∙ and_false (nat_lt 0 (length raw.key) && list_all (λ (n : List ℕ). list_any (bytes_eq n) (raw_names raw.columns)) raw.key))
  | inr once ↦ (
      let none : place_of (raw_names raw.columns) name ≡ None = sym (ap (λ (b : Bool). cond b None (place_of (raw_names raw.columns) name)) once) ∙ h in
      let absent : list_any (bytes_eq name) (raw_names raw.columns) ≡ false = sym (is_some-position_from (bytes_eq name) 0 (raw_names raw.columns)) ∙ ap is_some none in
      let all : list_all (λ (n : List ℕ). list_any (bytes_eq n) (raw_names raw.columns)) raw.key ≡ false = ap (list_all (λ (n : List ℕ). list_any (bytes_eq n) (raw_names raw.columns))) is ∙ all_not _ taken name rest absent in
      ap (λ (b : Bool). nat_lt 0 (length raw.key) && b && are_distinct bytes_eq raw.key) all
      ∙ ap (λ (b : Bool). b && are_distinct bytes_eq raw.key) (and_false (nat_lt 0 (length raw.key))))
]

pub all_there : (names key : List (List ℕ)) (places : List ℕ) → map (place_of names) key ≡ map Some places → list_all (λ name. list_any (bytes_eq name) names) key ≡ true
all_there names [] places h = refl
all_there names (name ∷ key) [] h = cc
all_there names (name ∷ key) (place ∷ places) h =
    let first : place_of names name ≡ Some place = cc in
    let rest : map (place_of names) key ≡ map Some places = cc in
    and_both _ _ (sym (is_some-position_from (bytes_eq name) 0 names) ∙ ap is_some first) (all_there names key places rest)

pub has_key_made : (raw : RawTable) (places : List ℕ) → map (place_of (raw_names raw.columns)) raw.key ≡ map Some places → are_distinct bytes_eq raw.key ≡ true → length places ≢ 0 → has_key raw ≡ true
has_key_made raw places all apart some =
    let long : length raw.key ≡ length places = sym (length-map raw.key (place_of (raw_names raw.columns))) ∙ (ap length all ∙ length-map places Some) in
    and_both _ _ (and_both _ _ ((Decides-ltb 0 (length raw.key)).1 (omega arith)) (all_there (raw_names raw.columns) raw.key places all)) apart

-- ---- types

pub oid_of-type_of : (oid : ℕ) (ty : PgType) → type_of oid ≡ Some ty → oid_of ty ≡ oid
oid_of-type_of oid ty h = ((oids_name_types oid ty).0 h).0

pub type_of-typed : (oid : ℕ) (ty : PgType) → type_of oid ≡ Some ty → is_column_type ty ≡ true
type_of-typed oid ty h = ((oids_name_types oid ty).0 h).1

pub no_float : (oid : ℕ) (ty : PgType) → type_of oid ≡ Some ty → is_float oid ≡ false
unfolding type_of
no_float oid ty h = step (is_float oid) h
  where
    step : (b : Bool) → (if b then None else Some (unwrap_or (find (has_oid oid) listed) (type.Other oid))) ≡ Some ty → b ≡ false
    step true e = cc
    step false e = refl

pub a_float : (oid : ℕ) → type_of oid ≡ None → is_float oid ≡ true
unfolding type_of
a_float oid h = step (is_float oid) h
  where
    step : (b : Bool) → (if b then None else Some (unwrap_or (find (has_oid oid) listed) (type.Other oid))) ≡ None → b ≡ true
    step true e = refl
    step false e = cc

pub typed_of : (oid : ℕ) → is_float oid ≡ false → (ty : PgType) × (type_of oid ≡ Some ty)
unfolding type_of
typed_of oid h = (unwrap_or (find (has_oid oid) listed) (type.Other oid), rw h refl)

abbrev pub is_float_column : RawColumn → Bool
is_float_column column = is_float column.oid

-- ---- the types of a key's columns

-- the column at a place is of a column's type
typed_at : (columns : List Column) (place : ℕ) (column : Column) → are_typed columns ≡ true → slice_get columns place ≡ Some column → is_column_type column.ty ≡ true
typed_at [] place column typed h = cc
typed_at (c ∷ columns) zero column typed h = let same : c ≡ column = cc in subst (λ (x : Column). is_column_type x.ty ≡ true) same (and_left _ _ typed)
typed_at (c ∷ columns) (suc place) column typed h = typed_at columns place column (and_right (is_column_type c.ty) _ typed) h

column_there : (columns : List Column) (place : ℕ) → place < length columns → (column : Column) × (slice_get columns place ≡ Some column)
column_there [] place lt = absurd (omega arith)
column_there (c ∷ columns) zero lt = (c, refl)
column_there (c ∷ columns) (suc place) lt = column_there columns place (omega arith)

key_type_at : (columns : List Column) (place : ℕ) → are_typed columns ≡ true → place < length columns → is_key_column (slice_get (map raw_column columns) place) ≡ is_key_type (type_at columns place)
key_type_at columns place typed lt =
    let found = column_there columns place lt in
    let known : type_of (oid_of found.0.ty) ≡ Some found.0.ty = type_of-oid_of found.0.ty (typed_at columns place found.0 typed found.1) in
    ap is_key_column (slice_get-map raw_column columns place)
    ∙ (ap (λ (o : Option Column). is_key_column (option_map raw_column o)) found.1
    ∙ (ap may_be_key known
    ∙ sym (ap (λ (o : Option Column). is_key_type (unwrap_or (option_map (λ (c : Column). c.ty) o) type.Text)) found.1)))

-- ---- the table is one that can be captured

pub names_made : (columns : List Column) (raws : List RawColumn) → map raw_column columns ≡ raws → column_names columns ≡ raw_names raws
names_made columns raws h = same columns ∙ ap raw_names h
  where
    same : (cs : List Column) → column_names cs ≡ raw_names (map raw_column cs)
    same [] = refl
    same (c ∷ cs) = ap (λ (l : List (List ℕ)). c.name ∷ l) (same cs)

-- names of which none repeats an earlier one are distinct, and none of them is among those before
abbrev AreNew : List (List ℕ) → List (List ℕ) → Type 0
AreNew before names = (are_distinct bytes_eq names ≡ true) × ((x : List ℕ) → list_any (bytes_eq x) before ≡ true → list_any (bytes_eq x) names ≡ false)

new_names : (before names : List (List ℕ)) → first_repeated before names ≡ None → AreNew before names
new_names before [] h = (refl, λ x among. refl)
new_names before (name ∷ names) h = elim (bool_case (list_any (bytes_eq name) before)) [
  | inl among ↦ (let e : Some name ≡ None = sym (first_repeated-here before name names among) ∙ h in cc)
  | inr new ↦ (
      let rest : AreNew (before ++ name ∷ []) names = new_names (before ++ name ∷ []) names (sym (first_repeated-new before name names new) ∙ h) in
      let here : list_any (bytes_eq name) (before ++ name ∷ []) ≡ true = any_here (bytes_eq name) before name [] (text_itself name) in (
        and_both _ _ (ap not (rest.1 name here)) rest.0,
        λ x among. elim (bool_case (bytes_eq x name)) [
          | inl same ↦ (
              let e : list_any (bytes_eq name) before ≡ true = ap (λ (y : List ℕ). list_any (bytes_eq y) before) (sym (same_text x name same)) ∙ among in
              let contra : true ≡ false = sym e ∙ new in
              cc)
          | inr other ↦ (
              let later : list_any (bytes_eq x) (before ++ name ∷ []) ≡ true = any-push (bytes_eq x) before name ∙ ap (λ (b : Bool). b || bytes_eq x name) among in
              ap (λ (b : Bool). b || list_any (bytes_eq x) names) other ∙ rest.1 x later)
        ],
      ))
]

name_at-slice_get : (columns : List Column) (i : ℕ) (name : List ℕ) → slice_get (column_names columns) i ≡ Some name → name_at columns i ≡ name
name_at-slice_get [] i name h = cc
name_at-slice_get (c ∷ columns) zero name h = cc
name_at-slice_get (c ∷ columns) (suc i) name h = name_at-slice_get columns i name h

pub placed : (columns : List Column) (name : List ℕ) (place : ℕ) → place_of (column_names columns) name ≡ Some place → (name_at columns place ≡ name) × (place < length columns)
placed columns name place h =
    let at = position_from-at (bytes_eq name) 0 (column_names columns) place h in
    let same : place ≡ at.0 = omega (arith, at.1) in
    let is : slice_get (column_names columns) place ≡ Some at.2.0 = ap (slice_get (column_names columns)) same ∙ at.2.1 in
    (name_at-slice_get columns place at.2.0 is ∙ sym (same_text name at.2.0 at.2.2), subst (λ (n : ℕ). place < n) (length-map columns (λ (c : Column). c.name)) (slice_get-lt (column_names columns) place at.2.0 is))

pub names_placed : (columns : List Column) (key : List (List ℕ)) (places : List ℕ) → map (place_of (column_names columns)) key ≡ map Some places → map (name_at columns) places ≡ key
names_placed columns [] [] h = refl
names_placed columns [] (place ∷ places) h = cc
names_placed columns (name ∷ key) [] h = cc
names_placed columns (name ∷ key) (place ∷ places) h =
    let first : place_of (column_names columns) name ≡ Some place = cc in
    let rest : map (place_of (column_names columns)) key ≡ map Some places = cc in
    ap (λ (n : List ℕ). n ∷ map (name_at columns) places) (placed columns name place first).0 ∙ ap (λ (l : List (List ℕ)). name ∷ l) (names_placed columns key places rest)

places_within : (columns : List Column) (key : List (List ℕ)) (places : List ℕ) → map (place_of (column_names columns)) key ≡ map Some places → list_all (λ place. nat_lt place (length columns)) places ≡ true
places_within columns [] [] h = refl
places_within columns [] (place ∷ places) h = cc
places_within columns (name ∷ key) [] h = cc
places_within columns (name ∷ key) (place ∷ places) h =
    let first : place_of (column_names columns) name ≡ Some place = cc in
    let rest : map (place_of (column_names columns)) key ≡ map Some places = cc in
    and_both _ _ ((Decides-ltb place (length columns)).1 (placed columns name place first).1) (places_within columns key places rest)

-- a place that is there again has a name that is there again
again : (columns : List Column) (key : List (List ℕ)) (places : List ℕ) (name : List ℕ) (place : ℕ) → map (place_of (column_names columns)) key ≡ map Some places
    → place_of (column_names columns) name ≡ Some place → list_any (bytes_eq name) key ≡ false → list_any (nat_eq place) places ≡ false
again columns [] [] name place h is new = refl
again columns [] (p ∷ places) name place h is new = cc
again columns (n ∷ key) [] name place h is new = cc
again columns (n ∷ key) (p ∷ places) name place h is new =
    let first : place_of (column_names columns) n ≡ Some p = cc in
    let rest : map (place_of (column_names columns)) key ≡ map Some places = cc in
    let apart = or_false (bytes_eq name n) (list_any (bytes_eq name) key) new in
    elim (bool_case (nat_eq place p)) [
      | inl same ↦ (
          let e : place ≡ p = (Decides-eqb place p).0 same in
          let names : name ≡ n = sym (placed columns name place is).0 ∙ (ap (name_at columns) e ∙ (placed columns n p first).0) in
          let contra : true ≡ false = sym ((bytes_eq-Decides name n).1 names) ∙ apart.0 in
          cc)
      | inr other ↦ ap (λ (b : Bool). b || list_any (nat_eq place) places) other ∙ again columns key places name place rest is apart.1
    ]

places_distinct : (columns : List Column) (key : List (List ℕ)) (places : List ℕ) → map (place_of (column_names columns)) key ≡ map Some places → are_distinct bytes_eq key ≡ true → are_distinct nat_eq places ≡ true
places_distinct columns [] [] h apart = refl
places_distinct columns [] (place ∷ places) h apart = cc
places_distinct columns (name ∷ key) [] h apart = cc
places_distinct columns (name ∷ key) (place ∷ places) h apart =
    let first : place_of (column_names columns) name ≡ Some place = cc in
    let rest : map (place_of (column_names columns)) key ≡ map Some places = cc in
    let new : list_any (bytes_eq name) key ≡ false = not_true (list_any (bytes_eq name) key) (and_left _ _ apart) in
    and_both _ _ (ap not (again columns key places name place rest first new)) (places_distinct columns key places rest (and_right (not (list_any (bytes_eq name) key)) _ apart))
  where
    not_true : (b : Bool) → not b ≡ true → b ≡ false
    not_true true e = sym e
    not_true false e = refl

all_fit : (columns : List Column) (places : List ℕ) → find (is_unfit columns) places ≡ None → list_all (λ place. is_key_type (type_at columns place)) places ≡ true
all_fit columns [] none = refl
all_fit columns (place ∷ places) none = step (is_key_type (type_at columns place)) none (all_fit columns places)
  where
    step : (b : Bool) → (if not b then Some place else find (is_unfit columns) places) ≡ None → (find (is_unfit columns) places ≡ None → list_all (λ p. is_key_type (type_at columns p)) places ≡ true)
        → (b && list_all (λ p. is_key_type (type_at columns p)) places) ≡ true
    step true e later = later e
    step false e later = cc

-- the first name of a key whose column is unfit is that of the first such place
pub unfit_named : (columns : List Column) (raws : List RawColumn) (key : List (List ℕ)) (places : List ℕ) → map raw_column columns ≡ raws → are_typed columns ≡ true
    → map (place_of (raw_names raws)) key ≡ map Some places → find (λ name. not (has_key_type raws name)) key ≡ option_map (name_at columns) (find (is_unfit columns) places)
unfit_named columns raws [] [] made typed h = refl
unfit_named columns raws [] (place ∷ places) made typed h = cc
unfit_named columns raws (name ∷ key) [] made typed h = cc
unfit_named columns raws (name ∷ key) (place ∷ places) made typed h =
    let first : place_of (raw_names raws) name ≡ Some place = cc in
    let rest : map (place_of (raw_names raws)) key ≡ map Some places = cc in
    let at = placed columns name place (ap (λ (l : List (List ℕ)). place_of l name) (names_made columns raws made) ∙ first) in
    let same : has_key_type raws name ≡ is_key_type (type_at columns place) =
    ap (λ (o : Option ℕ). is_key_column (option_and_then (slice_get raws) o)) first ∙ (ap (λ (l : List RawColumn). is_key_column (slice_get l place)) (sym made) ∙ key_type_at columns place typed at.1) in
    step (has_key_type raws name) (is_key_type (type_at columns place)) same at.0 (unfit_named columns raws key places made typed rest)
  where
    step : (b c : Bool) → b ≡ c → name_at columns place ≡ name → find (λ n. not (has_key_type raws n)) key ≡ option_map (name_at columns) (find (is_unfit columns) places)
        → (if not b then Some name else find (λ n. not (has_key_type raws n)) key) ≡ option_map (name_at columns) (if not c then Some place else find (is_unfit columns) places)
    step true true e named later = later
    step true false e named later = cc
    step false true e named later = cc
    step false false e named later = ap Some (sym named)

pub table_made : (raw : RawTable) (columns : List Column) (places : List ℕ) → is_good_name raw.name ≡ true → map raw_column columns ≡ raw.columns → first_repeated [] (raw_names raw.columns) ≡ None
    → map (place_of (raw_names raw.columns)) raw.key ≡ map Some places → has_key raw ≡ true → are_typed columns ≡ true → find (is_unfit columns) places ≡ None → is_table raw.name columns places ≡ true
table_made raw columns places good cs new at key typed fit =
    let names : column_names columns ≡ raw_names raw.columns = names_made columns raw.columns cs in
    let found_at : map (place_of (column_names columns)) raw.key ≡ map Some places = ap (λ (l : List (List ℕ)). map (place_of l) raw.key) names ∙ at in
    let long : length raw.key ≡ length places = sym (length-map raw.key (place_of (raw_names raw.columns))) ∙ (ap length at ∙ length-map places Some) in
    let apart : are_distinct bytes_eq raw.key ≡ true = and_right (nat_lt 0 (length raw.key) && list_all (λ (n : List ℕ). list_any (bytes_eq n) (raw_names raw.columns)) raw.key) _ key in
    let some : nat_lt 0 (length raw.key) ≡ true = and_left _ _ (and_left _ _ key) in
    let some_places : nat_lt 0 (length places) ≡ true = ap (λ (n : ℕ). nat_lt 0 n) (sym long) ∙ some in
    and_both _ _ (and_both _ _ (and_both _ _ good (ap (are_distinct bytes_eq) names ∙ (new_names [] (raw_names raw.columns) new).0)) typed)
    (and_both _ _ (and_both _ _ (and_both _ _ some_places (places_within columns raw.key places found_at)) (places_distinct columns raw.key places found_at apart)) (all_fit columns places fit))

-- ---- one more column, in a list

names_more : (columns : List RawColumn) (i : ℕ) (column : RawColumn) → i < length columns → column ≡ get_or columns i column → raw_names (take (i + 1) columns) ≡ raw_names (take i columns) ++ column.name ∷ []
names_more columns i column lt is =
    ap raw_names (take_more columns i column lt ∙ ap (λ (c : RawColumn). take i columns ++ c ∷ []) (sym is)) ∙ map-append (λ (c : RawColumn). c.name) (take i columns) (column ∷ [])

names_left : (columns : List RawColumn) (i : ℕ) (column : RawColumn) → i < length columns → column ≡ get_or columns i column → raw_names (drop i columns) ≡ column.name ∷ raw_names (drop (i + 1) columns)
names_left columns i column lt is = ap raw_names (drop_more columns i column lt ∙ ap (λ (c : RawColumn). c ∷ drop (i + 1) columns) (sym is))

pub repeats : (columns : List RawColumn) (i : ℕ) (column : RawColumn) (o : Option ℕ) → i < length columns → column ≡ get_or columns i column
    → first_repeated [] (raw_names columns) ≡ first_repeated (raw_names (take i columns)) (raw_names (drop i columns))
    → o ≡ place_of (raw_names (take i columns)) column.name → is_some o ≡ true → first_repeated [] (raw_names columns) ≡ Some column.name
repeats columns i column o lt is so_far at there =
    so_far ∙ (ap (first_repeated (raw_names (take i columns))) (names_left columns i column lt is)
    ∙ first_repeated-here (raw_names (take i columns)) column.name (raw_names (drop (i + 1) columns))
    (sym (is_some-position_from (bytes_eq column.name) 0 (raw_names (take i columns))) ∙ (ap is_some (sym at) ∙ there)))

pub enters : (columns : List RawColumn) (i : ℕ) (column : RawColumn) (before after : List ℕ → Option ℕ) → i < length columns → column ≡ get_or columns i column
    → ((q : List ℕ) → before q ≡ place_of (raw_names (take i columns)) q) → is_some (before column.name) ≡ false
    → ((q : List ℕ) → after q ≡ cond (bytes_eq column.name q) (Some i) (before q)) → (q : List ℕ) → after q ≡ place_of (raw_names (take (i + 1) columns)) q
enters columns i column before after lt is was new next q =
    let long : i ≡ length (raw_names (take i columns)) = sym (length-map (take i columns) (λ (c : RawColumn). c.name) ∙ length-take-le i columns (omega arith)) in
    let absent : list_any (bytes_eq column.name) (raw_names (take i columns)) ≡ false = sym (is_some-position_from (bytes_eq column.name) 0 (raw_names (take i columns))) ∙ (ap is_some (sym (was column.name)) ∙ new) in
    entered (raw_names (take i columns)) column.name i before after long was absent next q ∙ ap (λ (l : List (List ℕ)). place_of l q) (sym (names_more columns i column lt is))

pub repeats_not : (columns : List RawColumn) (i : ℕ) (column : RawColumn) (o : Option ℕ) → i < length columns → column ≡ get_or columns i column
    → first_repeated [] (raw_names columns) ≡ first_repeated (raw_names (take i columns)) (raw_names (drop i columns))
    → o ≡ place_of (raw_names (take i columns)) column.name → is_some o ≡ false → first_repeated [] (raw_names columns) ≡ first_repeated (raw_names (take (i + 1) columns)) (raw_names (drop (i + 1) columns))
repeats_not columns i column o lt is so_far at new =
    so_far ∙ (ap (first_repeated (raw_names (take i columns))) (names_left columns i column lt is)
    ∙ (first_repeated-new (raw_names (take i columns)) column.name (raw_names (drop (i + 1) columns))
    (sym (is_some-position_from (bytes_eq column.name) 0 (raw_names (take i columns))) ∙ (ap is_some (sym at) ∙ new))
    ∙ ap (λ (l : List (List ℕ)). first_repeated l (raw_names (drop (i + 1) columns))) (sym (names_more columns i column lt is))))

-- ---- one more name of the key, in a list

key_split : (key : List (List ℕ)) (i : ℕ) (name : List ℕ) → i < length key → name ≡ get_or key i name → key ≡ take i key ++ name ∷ drop (i + 1) key
key_split key i name lt is = sym (take-append-drop i key) ∙ ap (λ (l : List (List ℕ)). take i key ++ l) (drop_more key i name lt ∙ ap (λ (n : List ℕ). n ∷ drop (i + 1) key) (sym is))

key_more : (key : List (List ℕ)) (i : ℕ) (name : List ℕ) → i < length key → name ≡ get_or key i name → take (i + 1) key ≡ take i key ++ name ∷ []
key_more key i name lt is = take_more key i name lt ∙ ap (λ (n : List ℕ). take i key ++ n ∷ []) (sym is)

pub refuses : (raw : RawTable) (i : ℕ) (name : List ℕ) (o : Option ℕ) → i < length raw.key → name ≡ get_or raw.key i name → o ≡ left_of (take i raw.key) (raw_names raw.columns) name → None ≡ o → has_key raw ≡ false
refuses raw i name o lt is left none = no_key raw (take i raw.key) name (drop (i + 1) raw.key) (key_split raw.key i name lt is) (sym left ∙ sym none)

pub takes : (names key : List (List ℕ)) (i : ℕ) (name : List ℕ) (before after : List ℕ → Option ℕ) → i < length key → name ≡ get_or key i name → ((q : List ℕ) → before q ≡ left_of (take i key) names q)
    → ((q : List ℕ) → after q ≡ cond (bytes_eq name q) None (before q)) → (q : List ℕ) → after q ≡ left_of (take (i + 1) key) names q
takes names key i name before after lt is was next q = taken_one (take i key) names name before after was next q ∙ ap (λ (l : List (List ℕ)). left_of l names q) (sym (key_more key i name lt is))

pub finds : (names key : List (List ℕ)) (i : ℕ) (name : List ℕ) (place : ℕ) (places : List ℕ) → i < length key → name ≡ get_or key i name → IsLeft (take i key) names name place
    → map (place_of names) (take i key) ≡ map Some places → map (place_of names) (take (i + 1) key) ≡ map Some (places ++ place ∷ [])
finds names key i name place places lt is left so_far =
    ap (map (place_of names)) (key_more key i name lt is) ∙ (map-append (place_of names) (take i key) (name ∷ [])
    ∙ (ap (λ (l : List (Option ℕ)). l ++ place_of names name ∷ []) so_far ∙ (ap (λ (o : Option ℕ). map Some places ++ o ∷ []) left.1
    ∙ sym (map-append {B = Option ℕ} Some places (place ∷ [])))))

pub stays_apart : (names key : List (List ℕ)) (i : ℕ) (name : List ℕ) (place : ℕ) → i < length key → name ≡ get_or key i name → IsLeft (take i key) names name place
    → are_distinct bytes_eq (take i key) ≡ true → are_distinct bytes_eq (take (i + 1) key) ≡ true
stays_apart names key i name place lt is left apart = ap (are_distinct bytes_eq) (key_more key i name lt is) ∙ distinct-push (take i key) name apart left.0

abbrev entry : TableName → List RawColumn → List (List ℕ) → RawTable
entry name columns key = record { name = name; columns = columns; key = key; version = 1 }

pub entry_made : (raw : RawTable) (name : TableName) (columns : List Column) (places : List ℕ) → name ≡ raw.name → map raw_column columns ≡ raw.columns → map (place_of (raw_names raw.columns)) raw.key ≡ map Some places
    → entry name (map raw_column columns) (map (name_at columns) places) ≡ record raw { version = 1 }
entry_made raw name columns places names cs at =
    let same : column_names columns ≡ raw_names raw.columns = names_made columns raw.columns cs in
    let key : map (name_at columns) places ≡ raw.key = names_placed columns raw.key places (ap (λ (l : List (List ℕ)). map (place_of l) raw.key) same ∙ at) in
    λ i. entry (names i) (cs i) (key i)

-- ---- one more column with its type

pub typed_more : (columns : List RawColumn) (typed : List Column) (i : ℕ) (column : RawColumn) (name : List ℕ) (ty : PgType) → i < length columns → column ≡ get_or columns i column → name ≡ column.name → type_of column.oid ≡ Some ty
    → map raw_column typed ≡ take i columns → map raw_column (typed ++ record { name = name; ty = ty } ∷ []) ≡ take (i + 1) columns
typed_more columns typed i column name ty lt is names of so_far =
    let here : record { name = name; oid = oid_of ty } ≡ column = (let oid = oid_of-type_of column.oid ty of in λ k. record { name = names k; oid = oid k }) in
    map-append raw_column typed (record { name = name; ty = ty } ∷ [])
    ∙ (ap (λ (l : List RawColumn). l ++ record { name = name; oid = oid_of ty } ∷ []) so_far
    ∙ (ap (λ (c : RawColumn). take i columns ++ c ∷ []) (here ∙ is) ∙ sym (take_more columns i column lt)))

pub all_typed_more : (typed : List Column) (oid : ℕ) (name : List ℕ) (ty : PgType) → type_of oid ≡ Some ty → are_typed typed ≡ true → are_typed (typed ++ record { name = name; ty = ty } ∷ []) ≡ true
all_typed_more [] oid name ty of all = and_both _ _ (type_of-typed oid ty of) refl
all_typed_more (c ∷ typed) oid name ty of all = and_both _ _ (and_left _ _ all) (all_typed_more typed oid name ty of (and_right (is_column_type c.ty) _ all))

find_here : (columns : List RawColumn) (i : ℕ) (column : RawColumn) → i < length columns → column ≡ get_or columns i column → find is_float_column (drop i columns) ≡ cond (is_float column.oid) (Some column) (find is_float_column (drop (i + 1) columns))
find_here columns i column lt is = ap (find is_float_column) (drop_more columns i column lt ∙ ap (λ (c : RawColumn). c ∷ drop (i + 1) columns) (sym is))

pub float_here : (columns : List RawColumn) (i : ℕ) (column : RawColumn) → i < length columns → column ≡ get_or columns i column → type_of column.oid ≡ None
    → find is_float_column (drop i columns) ≡ find is_float_column columns → find is_float_column columns ≡ Some column
float_here columns i column lt is of so_far =
    sym so_far ∙ (find_here columns i column lt is ∙ ap (λ (b : Bool). cond b (Some column) (find is_float_column (drop (i + 1) columns))) (a_float column.oid of))

pub float_later : (columns : List RawColumn) (i : ℕ) (column : RawColumn) (ty : PgType) → i < length columns → column ≡ get_or columns i column → type_of column.oid ≡ Some ty
    → find is_float_column (drop i columns) ≡ find is_float_column columns → find is_float_column (drop (i + 1) columns) ≡ find is_float_column columns
float_later columns i column ty lt is of so_far =
    sym (find_here columns i column lt is ∙ ap (λ (b : Bool). cond b (Some column) (find is_float_column (drop (i + 1) columns))) (no_float column.oid ty of)) ∙ so_far

-- ---- the first of some faults

pub passes : (o : Option ModelError) (faults : List (Option ModelError)) → o ≡ None → first_fault (o ∷ faults) ≡ first_fault faults
passes o faults none = ap (λ (x : Option ModelError). first_fault (x ∷ faults)) none

pub stops : (o : Option ModelError) (faults : List (Option ModelError)) (e : ModelError) → o ≡ Some e → first_fault (o ∷ faults) ≡ Some e
stops o faults e some = ap (λ (x : Option ModelError). first_fault (x ∷ faults)) some
