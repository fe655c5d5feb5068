-- Layouts, column by column from the last to the first, and what they show of rows and keys.
use Rattle.std.proofs.Common.{◌≡◌, ◌∙◌, ◌+◌, ◌-◌, ◌<◌, ◌≤◌, ℕ, zero, suc, List, [], ◌∷◌, length, drop, map, true, nat_lt, Some, option_map, unwrap_or, slice_get, refl, sym, ap, ap₂, arith, Ordering, Less, Equal, Greater}
use Rattle.std.specs.List.{AllByRecursion, list_all, All}
use Rattle.std.proofs.lemmas.Bool.{and_parts, ltb-true}
use Rattle.std.proofs.lemmas.List.{drop_more}
use Rattle.std.proofs.lemmas.Option.{unwrap_or-slice_get}
use Rattle.std.specs.BTreeMap.{insert_entry}
use Rattle.std.specs.Ordering.{match_ordering}
use Rattle.serde_json.specs.Data.{member, put}
use Rattle.dbl_value_types.specs.declared.value.Val.{Val}
use Rattle.dbl_value_types.specs.declared.value.Val.TheVariants as val
use Rattle.dbl_value_types.specs.Values.{json_data}
use Rattle.dbl_model_table.specs.declared.identity.Identity.{Identity}
use Rattle.dbl_model_table.specs.declared.table.Column.{Column}
use Rattle.dbl_model_table.specs.declared.table.TableInfo.{TableInfo}
use Rattle.dbl_model_table.specs.Tables.{column_names}
use Rattle.dbl_model_table.specs.Infos.{name_at, key_names, width, topic_of}
use Rattle.dbl_model_table.specs.Keys.{cell_or_null, key_of}
use Rattle.dbl_model_event.specs.ModelHistory.Image.{members_of}
use Rattle.dbl_model_table.proofs.InfoLemmas.{places_within}
use Rattle.dbl_envelope_json.specs.Layouts.{NamedPlaces, sorted, column_names_from, column_names_at, key_names_from, places_of, layout_of, members_at}
use Rattle.dbl_base.specs.Texts.{text_cmp}
use Rattle.dbl_envelope_json.specs.declared.layout.Place.{Place}

pub drop_here : {A : Type 0} (xs : List A) (j : ℕ) (x : A) → slice_get xs j ≡ Some x → drop j xs ≡ x ∷ drop (suc j) xs
drop_here [] j x h = cc
drop_here (y ∷ ys) zero x h = cc
drop_here (y ∷ ys) (suc j) x h = drop_here ys j x h

pub key_step : (cs : List Column) (key : List ℕ) (i k : ℕ) (c : Column) → 0 < i → slice_get key (i - 1) ≡ Some k → slice_get cs k ≡ Some c
    → insert_entry text_cmp (sorted (column_names_at cs (drop i key))) c.name k ≡ sorted (column_names_at cs (drop (i - 1) key))
key_step cs key zero k c h is at = absurd (omega arith)
key_step cs key (suc j) k c h is at =
    let before : suc j - 1 ≡ j = omega arith in
    let here : drop j key ≡ k ∷ drop (suc j) key = drop_here key j k (ap (slice_get key) (sym before) ∙ is) in
    let name : name_at cs k ≡ c.name = ap (λ o. unwrap_or (option_map (λ (column : Column). column.name) o) []) at in
    ap (λ n. insert_entry text_cmp (sorted (column_names_at cs (drop (suc j) key))) n k) (sym name)
    ∙ sym (ap (λ i. sorted (column_names_at cs (drop i key))) before ∙ ap (λ ks. sorted (column_names_at cs ks)) here)

pub key_cells_step : (cs : List Column) (key : List ℕ) (i k : ℕ) (c : Column) → 0 < i → slice_get key (i - 1) ≡ Some k → slice_get cs k ≡ Some c
    → insert_entry text_cmp (sorted (key_names_from cs i (drop i key))) c.name (i - 1) ≡ sorted (key_names_from cs (i - 1) (drop (i - 1) key))
key_cells_step cs key zero k c h is at = absurd (omega arith)
key_cells_step cs key (suc j) k c h is at =
    let before : suc j - 1 ≡ j = omega arith in
    let next : j + 1 ≡ suc j = omega arith in
    let here : drop j key ≡ k ∷ drop (suc j) key = drop_here key j k (ap (slice_get key) (sym before) ∙ is) in
    let name : name_at cs k ≡ c.name = ap (λ o. unwrap_or (option_map (λ (column : Column). column.name) o) []) at in
    ap₂ (λ n i. insert_entry text_cmp (sorted (key_names_from cs (suc j) (drop (suc j) key))) n i) (sym name) before
    ∙ ap (λ m. insert_entry text_cmp (sorted (key_names_from cs m (drop (suc j) key))) (name_at cs k) j) (sym next)
    ∙ sym (ap (λ i. sorted (key_names_from cs i (drop i key))) before ∙ ap (λ ks. sorted (key_names_from cs j ks)) here)

-- ---- what is written by places is what is put under names

split : (cells : List Val) (o : Ordering) (a b c : NamedPlaces)
    → members_at cells (places_of (match_ordering o a b c)) ≡ match_ordering o (members_at cells (places_of a)) (members_at cells (places_of b)) (members_at cells (places_of c))
split cells Less a b c = refl
split cells Equal a b c = refl
split cells Greater a b c = refl

-- one more column
put_place : (cells : List Val) (es : NamedPlaces) (n : List ℕ) (i : ℕ)
    → members_at cells (places_of (insert_entry text_cmp es n i)) ≡ put n (json_data (cell_or_null cells i)) (members_at cells (places_of es))
put_place cells [] n i = refl
put_place cells (e ∷ es) n i =
    split cells (text_cmp n e.0) _ _ _
    ∙ ap (λ ms. match_ordering (text_cmp n e.0) (member n (json_data (cell_or_null cells i)) (members_at cells (places_of (e ∷ es)))) (member e.0 (json_data (cell_or_null cells i)) (members_at cells (places_of es))) (member e.0 (json_data (cell_or_null cells e.1)) ms)) (put_place cells es n i)

pub sorted_members : (cells : List Val) (es : NamedPlaces) → members_at cells (places_of (sorted es)) ≡ members_of (map (λ e. e.0) es) (map (λ e. cell_or_null cells e.1) es)
sorted_members cells [] = refl
sorted_members cells (e ∷ es) = put_place cells (sorted es) e.0 e.1 ∙ ap (put e.0 (json_data (cell_or_null cells e.1))) (sorted_members cells es)

map_names : (cs : List Column) (key : List ℕ) → map (λ e. e.0) (column_names_at cs key) ≡ map (name_at cs) key
map_names cs [] = refl
map_names cs (k ∷ ks) = ap (λ ns. name_at cs k ∷ ns) (map_names cs ks)

map_cells : (cs : List Column) (cells : List Val) (key : List ℕ) → map (λ e. cell_or_null cells e.1) (column_names_at cs key) ≡ map (cell_or_null cells) key
map_cells cs cells [] = refl
map_cells cs cells (k ∷ ks) = ap (λ vs. cell_or_null cells k ∷ vs) (map_cells cs cells ks)

-- the key's places show the key
pub key_members : (identity : Identity) (info : TableInfo) (cells : List Val)
    → members_at cells (layout_of identity info).key ≡ members_of (key_names info) (key_of info cells).cells
unfolding layout_of
key_members identity info cells =
    sorted_members cells (column_names_at info.columns info.key) ∙ ap₂ members_of (map_names info.columns info.key) (map_cells info.columns cells info.key)

names_from : (i : ℕ) (cs : List Column) → map (λ e. e.0) (column_names_from i cs) ≡ column_names cs
names_from i [] = refl
names_from i (c ∷ cs) = ap (λ ns. c.name ∷ ns) (names_from (i + 1) cs)

drop_end : {A : Type 0} (xs : List A) (i : ℕ) → i ≡ length xs → drop i xs ≡ []
drop_end [] zero e = refl
drop_end [] (suc i) e = refl
drop_end (x ∷ xs) zero e = absurd (omega arith)
drop_end (x ∷ xs) (suc i) e = drop_end xs i (omega arith)

cells_from : (cells : List Val) (i : ℕ) (cs : List Column) → i + length cs ≡ length cells → map (λ e. cell_or_null cells e.1) (column_names_from i cs) ≡ drop i cells
cells_from cells i [] e = sym (drop_end cells i (omega arith))
cells_from cells i (c ∷ cs) e =
    let rest : map (λ e. cell_or_null cells e.1) (column_names_from (i + 1) cs) ≡ drop (i + 1) cells = cells_from cells (i + 1) cs (omega arith) in
    ap₂ (λ v vs. v ∷ vs) (unwrap_or-slice_get cells i val.Null) rest ∙ sym (drop_more cells i val.Null (omega arith))

-- the columns' places show the row
pub row_members : (identity : Identity) (info : TableInfo) (cells : List Val) → length cells ≡ width info
    → members_at cells (layout_of identity info).columns ≡ members_of (column_names info.columns) cells
unfolding layout_of
row_members identity info cells wide =
    sorted_members cells (column_names_from 0 info.columns) ∙ ap₂ members_of (names_from 0 info.columns) (cells_from cells 0 info.columns (omega arith))

-- ---- each place stands in the row

abbrev Fit : ℕ → List Place → Type 0
Fit n ps = AllByRecursion (λ p. p.index < n) ps

all_from : (n : ℕ) (ps : List Place) → Fit n ps → All (λ p. p.index < n) ps
all_from n [] h k d below = absurd (omega arith)
all_from n (p ∷ ps) h zero d below = h.0
all_from n (p ∷ ps) h (suc k) d below = all_from n ps h.1 k d (omega arith)

by_order : (n : ℕ) (o : Ordering) (a b c : NamedPlaces) → Fit n (places_of a) → Fit n (places_of b) → Fit n (places_of c) → Fit n (places_of (match_ordering o a b c))
by_order n Less a b c x y z = x
by_order n Equal a b c x y z = y
by_order n Greater a b c x y z = z

inserted_fits : (n : ℕ) (es : NamedPlaces) (name : List ℕ) (i : ℕ) → i < n → Fit n (places_of es) → Fit n (places_of (insert_entry text_cmp es name i))
inserted_fits n [] name i h fit = (h, tt)
inserted_fits n (e ∷ es) name i h fit =
    by_order n (text_cmp name e.0) ((name, i) ∷ e ∷ es) ((e.0, i) ∷ es) (e ∷ insert_entry text_cmp es name i)
    (h, fit) (h, fit.1) (fit.0, inserted_fits n es name i h fit.1)

sorted_fits : (n : ℕ) (es : NamedPlaces) → AllByRecursion (λ e. e.1 < n) es → Fit n (places_of (sorted es))
sorted_fits n [] h = tt
sorted_fits n (e ∷ es) h = inserted_fits n (sorted es) e.0 e.1 h.0 (sorted_fits n es h.1)

from_fits : (n i : ℕ) (cs : List Column) → i + length cs ≤ n → AllByRecursion (λ e. e.1 < n) (column_names_from i cs)
from_fits n i [] h = tt
from_fits n i (c ∷ cs) h = (omega arith, from_fits n (i + 1) cs (omega arith))

at_fits : (n : ℕ) (cs : List Column) (key : List ℕ) → list_all (λ place. nat_lt place n) key ≡ true → AllByRecursion (λ e. e.1 < n) (column_names_at cs key)
at_fits n cs [] h = tt
at_fits n cs (k ∷ ks) h =
    let parts = and_parts (nat_lt k n) (list_all (λ place. nat_lt place n) ks) h in
    (ltb-true k n parts.0, at_fits n cs ks parts.1)

pub columns_fit : (identity : Identity) (info : TableInfo) (n : ℕ) → n ≡ width info → All (λ p. p.index < n) (layout_of identity info).columns
unfolding layout_of
columns_fit identity info n wide =
    all_from n (places_of (sorted (column_names_from 0 info.columns))) (sorted_fits n (column_names_from 0 info.columns) (from_fits n 0 info.columns (omega arith)))

pub key_fits : (identity : Identity) (info : TableInfo) (n : ℕ) → n ≡ width info → All (λ p. p.index < n) (layout_of identity info).key
unfolding layout_of
key_fits identity info n wide =
    all_from n (places_of (sorted (column_names_at info.columns info.key))) (sorted_fits n (column_names_at info.columns info.key) (at_fits n info.columns info.key (ap (λ n. list_all (λ place. nat_lt place n) info.key) wide ∙ places_within info)))

-- ---- the places in a key

key_names-map : (cs : List Column) (i : ℕ) (key : List ℕ) → map (λ e. e.0) (key_names_from cs i key) ≡ map (name_at cs) key
key_names-map cs i [] = refl
key_names-map cs i (k ∷ ks) = ap (λ ns. name_at cs k ∷ ns) (key_names-map cs (i + 1) ks)

key_cells_from : (cells : List Val) (i : ℕ) (cs : List Column) (key : List ℕ) → i + length key ≡ length cells → map (λ e. cell_or_null cells e.1) (key_names_from cs i key) ≡ drop i cells
key_cells_from cells i cs [] e = sym (drop_end cells i (omega arith))
key_cells_from cells i cs (k ∷ ks) e =
    let rest : map (λ e. cell_or_null cells e.1) (key_names_from cs (i + 1) ks) ≡ drop (i + 1) cells = key_cells_from cells (i + 1) cs ks (omega arith) in
    ap₂ (λ v vs. v ∷ vs) (unwrap_or-slice_get cells i val.Null) rest ∙ sym (drop_more cells i val.Null (omega arith))

pub key_cells_members : (identity : Identity) (info : TableInfo) (cells : List Val) → length cells ≡ length info.key
    → members_at cells (layout_of identity info).key_cells ≡ members_of (key_names info) cells
unfolding layout_of
key_cells_members identity info cells long =
    sorted_members cells (key_names_from info.columns 0 info.key) ∙ ap₂ members_of (key_names-map info.columns 0 info.key) (key_cells_from cells 0 info.columns info.key (omega arith))

key_from_fits : (n i : ℕ) (cs : List Column) (key : List ℕ) → i + length key ≤ n → AllByRecursion (λ e. e.1 < n) (key_names_from cs i key)
key_from_fits n i cs [] h = tt
key_from_fits n i cs (k ∷ ks) h = (omega arith, key_from_fits n (i + 1) cs ks (omega arith))

pub key_cells_fit : (identity : Identity) (info : TableInfo) (n : ℕ) → n ≡ length info.key → All (λ p. p.index < n) (layout_of identity info).key_cells
unfolding layout_of
key_cells_fit identity info n long =
    all_from n (places_of (sorted (key_names_from info.columns 0 info.key))) (sorted_fits n (key_names_from info.columns 0 info.key) (key_from_fits n 0 info.columns info.key (omega arith)))

below_at : (n : ℕ) (key : List ℕ) → list_all (λ place. nat_lt place n) key ≡ true → (i k : ℕ) → slice_get key i ≡ Some k → k < n
below_at n [] h i k is = cc
below_at n (x ∷ xs) h zero k is =
    let same : x ≡ k = cc in
    omega (arith, ltb-true x n (and_parts (nat_lt x n) (list_all (λ place. nat_lt place n) xs) h).0)
below_at n (x ∷ xs) h (suc i) k is = below_at n xs (and_parts (nat_lt x n) (list_all (λ place. nat_lt place n) xs) h).1 i k is

-- a key column's place is one of a column
pub key_place : (info : TableInfo) (i k : ℕ) → slice_get info.key i ≡ Some k → k < length info.columns
key_place info = below_at (length info.columns) info.key (places_within info)

pub topic_is : (identity : Identity) (info : TableInfo) → (layout_of identity info).topic ≡ topic_of identity info
unfolding layout_of
topic_is identity info = refl
