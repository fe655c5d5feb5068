-- The rows and the fault of a list of items, and what is read of the rows.
use Rattle.std.proofs.Common.{◌≡◌, ◌∙◌, ◌&&◌, ◌||◌, Bool, true, false, cond, List, [], ◌∷◌, ◌++◌, map, Some, None, not, refl, sym, ap}
use Rattle.std.specs.List.{find, list_all}
use Rattle.std.specs.Str.{bytes_eq}
use Rattle.std.proofs.lemmas.Bool.{and_parts, and_from, or_parts, or_from, false_from_ne_true}
use Rattle.std.proofs.lemmas.Slice.Eq.{bytes_eq-Decides}
use Rattle.clap.specs.Kinds.{Kinds, or_else}
use Rattle.clap.specs.Walk.{Row, Text, has_row}
use Rattle.dbl_model_table.specs.Tables.{are_distinct}
use Rattle.dbl_cli.specs.Items.{Setting, Flag, Joined, Apart, Named, name_in, has_value, is_option, is_known, is_dashed}
use Rattle.dbl_cli.proofs.ClapRules.{place}
use Rattle.dbl_cli.proofs.ClapSteps.{or_else-nil}
use Rattle.dbl_cli.proofs.ClapRuns.{AreNames, used_by, fault_by, placed, rows_of_items, fault_of_items, option_is, flag_is}
use Rattle.dbl_cli.proofs.ClapRows.{row_for, place_rows, fresh, apart, fresh_used, fresh_clear, clear_fresh, fresh_is, fresh_append, fresh_distinct, placed_is}

abbrev pub names_in : List Setting → List Text
names_in gs = map name_in gs

abbrev pub with_id : Text → Row → Bool
with_id id r = bytes_eq r.id id

abbrev pub with_name : Text → Setting → Bool
with_name name g = bytes_eq (name_in g) name

-- ---- names

-- a setting has the name that its kind says
pub known_kind : (names : List Named) (g : Setting) → is_known names g ≡ true → (b : Bool) × (has_value names (name_in g) ≡ Some b)
known_kind names (Flag name) known = (false, flag_is names name known)
known_kind names (Joined name value) known = (true, option_is names name known)
known_kind names (Apart name value) known = (true, option_is names name (and_parts (is_option names name) (not (is_dashed value)) known).0)

-- no flag or option is a word in capitals
pub not_place : (names : List Named) → AreNames names → (g : Setting) → is_known names g ≡ true → bytes_eq place (name_in g) ≡ false
not_place names names_are g known = false_from_ne_true (bytes_eq place (name_in g)) (λ e.
    let same : place ≡ name_in g = (bytes_eq-Decides place (name_in g)).0 e in
    let kind = known_kind names g known in
    let bad : None ≡ Some kind.0 = sym names_are.no_place ∙ ap (has_value names) same ∙ kind.1 in
    cc)

name_not_place : (names : List Named) → AreNames names → (g : Setting) → is_known names g ≡ true → bytes_eq (name_in g) place ≡ false
name_not_place names names_are g known = false_from_ne_true (bytes_eq (name_in g) place) (λ e.
    let same : name_in g ≡ place = (bytes_eq-Decides (name_in g) place).0 e in
    let kind = known_kind names g known in
    let bad : None ≡ Some kind.0 = sym names_are.no_place ∙ ap (has_value names) (sym same) ∙ kind.1 in
    cc)

-- ---- rows

pub has_append : (id : Text) (xs ys : List Row) → has_row id xs ≡ false → has_row id (xs ++ ys) ≡ has_row id ys
has_append id [] ys none = refl
has_append id (x ∷ xs) ys none =
    let parts = or_parts (bytes_eq x.id id) (has_row id xs) none in
    rw parts.0 (has_append id xs ys parts.1)

pub has_after : (id : Text) (xs ys : List Row) → has_row id ys ≡ false → has_row id (xs ++ ys) ≡ has_row id xs
has_after id [] ys none = none
has_after id (x ∷ xs) ys none = ap (λ b. bytes_eq x.id id || b) (has_after id xs ys none)

pub place_lacks : (name : Text) (texts : List Text) → bytes_eq place name ≡ false → has_row name (place_rows texts) ≡ false
place_lacks name [] other = refl
place_lacks name (text ∷ texts) other = rw other refl

pub rows_lack_place : (names : List Named) → AreNames names → (gs : List Setting) → list_all (is_known names) gs ≡ true → has_row place (map row_for gs) ≡ false
rows_lack_place names names_are [] known = refl
rows_lack_place names names_are (g ∷ gs) known =
    let parts = and_parts (is_known names g) (list_all (is_known names) gs) known in
    or_from _ _ (name_not_place names names_are g parts.0) (rows_lack_place names names_are gs parts.1)

-- the words in capitals are not in the way
apart_places : (names : List Named) → AreNames names → (gs : List Setting) → list_all (is_known names) gs ≡ true → (rows : List Row) (texts : List Text) → apart gs (rows ++ place_rows texts) ≡ apart gs rows
apart_places names names_are [] known rows texts = refl
apart_places names names_are (g ∷ gs) known rows texts =
    let parts = and_parts (is_known names g) (list_all (is_known names) gs) known in
    let own = has_after (name_in g) rows (place_rows texts) (place_lacks (name_in g) texts (not_place names names_are g parts.0)) in
    (λ i. not (own i) && apart_places names names_are gs parts.1 rows texts i)

pub find_after : (id : Text) (xs ys : List Row) → has_row id ys ≡ false → find (with_id id) (xs ++ ys) ≡ find (with_id id) xs
find_after id [] [] none = refl
find_after id [] (y ∷ ys) none =
    let parts = or_parts (bytes_eq y.id id) (has_row id ys) none in
    rw parts.0 (find_after id [] ys parts.1)
find_after id (x ∷ xs) ys none = ap (λ o. cond (bytes_eq x.id id) (Some x) o) (find_after id xs ys none)

pub find_past : (id : Text) (xs ys : List Row) → has_row id xs ≡ false → find (with_id id) (xs ++ ys) ≡ find (with_id id) ys
find_past id [] ys none = refl
find_past id (x ∷ xs) ys none =
    let parts = or_parts (bytes_eq x.id id) (has_row id xs) none in
    rw parts.0 (find_past id xs ys parts.1)

pub find_between : (id : Text) (xs ys zs : List Row) → has_row id ys ≡ false → find (with_id id) ((xs ++ ys) ++ zs) ≡ find (with_id id) (xs ++ zs)
find_between id [] ys zs none = find_past id ys zs none
find_between id (x ∷ xs) ys zs none = ap (λ o. cond (bytes_eq x.id id) (Some x) o) (find_between id xs ys zs none)

pub find_kept : (id : Text) (xs ys : List Row) (r : Row) → find (with_id id) xs ≡ Some r → find (with_id id) (xs ++ ys) ≡ Some r
find_kept id [] ys r found = cc
find_kept id (x ∷ xs) ys r found = go (bytes_eq x.id id) (λ h. find_kept id xs ys r h) found
  where
    go : (b : Bool) → (find (with_id id) xs ≡ Some r → find (with_id id) (xs ++ ys) ≡ Some r) → cond b (Some x) (find (with_id id) xs) ≡ Some r → cond b (Some x) (find (with_id id) (xs ++ ys)) ≡ Some r
    go true next h = h
    go false next h = next h

-- ---- all the rows

module _ (names : List Named) (names_are : AreNames names) (front back : List Setting) (texts : List Text)
    (known_before : list_all (is_known names) front ≡ true) (known_since : list_all (is_known names) back ≡ true) where
  beyond_is : fresh back (map row_for front ++ place_rows texts) ≡ fresh back (map row_for front)
  beyond_is =
      fresh_is back (map row_for front ++ place_rows texts)
      ∙ ap (λ b. b && are_distinct bytes_eq (names_in back)) (apart_places names names_are back known_since (map row_for front) texts)
      ∙ sym (fresh_is back (map row_for front))

  all_fresh : (fresh front [] && fresh back (map row_for front)) ≡ are_distinct bytes_eq (names_in (front ++ back))
  all_fresh = sym (fresh_append front back []) ∙ fresh_distinct (front ++ back)

  placed_rows : fresh front [] ≡ true → placed texts (used_by front []) ≡ map row_for front ++ place_rows texts
  placed_rows clear = ap (placed texts) (fresh_used front [] clear) ∙ placed_is texts (map row_for front) (rows_lack_place names names_are front known_before)

  -- no name twice: no fault
  pub distinct_clear : are_distinct bytes_eq (names_in (front ++ back)) ≡ true → fault_of_items front texts back ≡ []
  distinct_clear distinct =
      let parts = and_parts (fresh front []) (fresh back (map row_for front)) (all_fresh ∙ distinct) in
      (λ i. or_else (fresh_clear front [] parts.0 i) (or_else (fault_by back (placed_rows parts.0 i)) []))
      ∙ or_else-nil _ ∙ fresh_clear back (map row_for front ++ place_rows texts) (beyond_is ∙ parts.1)

  -- no fault: no name twice
  pub clear_distinct : fault_of_items front texts back ≡ [] → are_distinct bytes_eq (names_in (front ++ back)) ≡ true
  clear_distinct none =
      let first = no_first (fault_by front []) _ none in
      let clear = clear_fresh front [] first.0 in
      let then_none : fault_by back (map row_for front ++ place_rows texts) ≡ [] = ap (fault_by back) (sym (placed_rows clear)) ∙ sym (or_else-nil _) ∙ first.1 in
      sym all_fresh ∙ and_from _ _ clear (sym beyond_is ∙ clear_fresh back (map row_for front ++ place_rows texts) then_none)
    where
      no_first : (a b : Kinds) → or_else a b ≡ [] → (a ≡ []) × (b ≡ [])
      no_first [] b h = (refl, h)
      no_first (k ∷ ks) b h = cc

  pub distinct_rows : are_distinct bytes_eq (names_in (front ++ back)) ≡ true → rows_of_items front texts back ≡ (map row_for front ++ place_rows texts) ++ map row_for back
  distinct_rows distinct =
      let parts = and_parts (fresh front []) (fresh back (map row_for front)) (all_fresh ∙ distinct) in
      ap (used_by back) (placed_rows parts.0) ∙ fresh_used back (map row_for front ++ place_rows texts) (beyond_is ∙ parts.1)
