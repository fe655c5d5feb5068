-- The rows that the uses of a list of items leave.
use Rattle.std.proofs.Common.{◌≡◌, ◌∙◌, ◌&&◌, ◌||◌, Bool, true, false, List, [], ◌∷◌, ◌++◌, map, Some, None, codes, not, refl, sym, ap, append-nil, append_assoc, inl, inr}
use Rattle.std.specs.List.{list_all, list_any}
use Rattle.std.specs.Str.{bytes_eq}
use Rattle.std.proofs.lemmas.Bool.{and_parts, or_parts, cases_Bool, not-true}
use Rattle.clap.specs.Kinds.{or_else}
use Rattle.clap.specs.Faults.{use_fault}
use Rattle.clap.specs.Walk.{Row, Text, at_row, has_row, more_values, used}
use Rattle.clap.specs.declared.builder.value_parser.Reading.TheVariants.{AsWritten}
use Rattle.clap.specs.declared.parser.matches.ValueSource.TheVariants.{CommandLine}
use Rattle.clap.specs.declared.error.kind.ErrorKind.TheVariants as kind
use Rattle.dbl_model_table.specs.Tables.{are_distinct}
use Rattle.dbl_cli.specs.Items.{Setting, Flag, Joined, Apart, name_in}
use Rattle.dbl_cli.proofs.ClapRules.{place}
use Rattle.dbl_cli.proofs.ClapRuns.{rule_for, values_for, used_by, fault_by, placed}

abbrev pub texts_for : Setting → List Text
texts_for (Flag name) = codes "true" ∷ []
texts_for (Joined name value) = value ∷ []
texts_for (Apart name value) = value ∷ []

abbrev pub row_with : Text → List Text → Row
row_with id values = record { id = id; values = values; count = None; source = Some CommandLine; reading = AsWritten }

abbrev pub row_for : Setting → Row
row_for g = row_with (name_in g) (texts_for g)

-- ---- a row joins

pub at_none : (id : Text) (change : Row → List Row) (missing rows : List Row) → has_row id rows ≡ false → at_row id change missing rows ≡ rows ++ missing
at_none id change missing [] none = refl
at_none id change missing (r ∷ rows) none =
    let parts = or_parts (bytes_eq r.id id) (has_row id rows) none in
    rw parts.0 (ap (λ rs. r ∷ rs) (at_none id change missing rows parts.1))

at_last : (id : Text) (change : Row → List Row) (missing rows : List Row) (r : Row) → has_row id rows ≡ false → bytes_eq r.id id ≡ true → at_row id change missing (rows ++ r ∷ []) ≡ rows ++ (change r ++ [])
at_last id change missing [] r none hit = rw hit refl
at_last id change missing (x ∷ rows) r none hit =
    let parts = or_parts (bytes_eq x.id id) (has_row id rows) none in
    rw parts.0 (ap (λ rs. x ∷ rs) (at_last id change missing rows r parts.1 hit))

gone : (id : Text) (rows : List Row) → has_row id rows ≡ false → at_row id (λ _. []) [] rows ≡ rows
gone id rows none = at_none id (λ _. []) [] rows none ∙ append-nil rows

set_new : (id : Text) (change : Row → List Row) (missing rows : List Row) → has_row id rows ≡ false → at_row id change missing (at_row id (λ _. []) [] rows) ≡ rows ++ missing
set_new id change missing rows none = ap (at_row id change missing) (gone id rows none) ∙ at_none id change missing rows none

used_new : (g : Setting) (rows : List Row) → has_row (name_in g) rows ≡ false → used (rule_for g) (values_for g) rows ≡ rows ++ row_for g ∷ []
used_new (Flag name) rows none = set_new name (more_values CommandLine (codes "true" ∷ [])) (row_for (Flag name) ∷ []) rows none
used_new (Joined name value) rows none = set_new name (more_values CommandLine (value ∷ [])) (row_for (Joined name value) ∷ []) rows none
used_new (Apart name value) rows none = set_new name (more_values CommandLine (value ∷ [])) (row_for (Apart name value) ∷ []) rows none

use_clear : (g : Setting) (rows : List Row) → has_row (name_in g) rows ≡ false → use_fault false (rule_for g) (values_for g) rows ≡ []
use_clear (Flag name) rows none = rw none refl
use_clear (Joined name value) rows none = rw none refl
use_clear (Apart name value) rows none = rw none refl

use_clash : (g : Setting) (rows : List Row) → has_row (name_in g) rows ≡ true → use_fault false (rule_for g) (values_for g) rows ≡ kind.ArgumentConflict ∷ []
use_clash (Flag name) rows has = rw has refl
use_clash (Joined name value) rows has = rw has refl
use_clash (Apart name value) rows has = rw has refl

-- ---- flags and options, none twice

-- none of them is among the rows, or named twice
abbrev pub fresh : List Setting → List Row → Bool
fresh [] rows = true
fresh (g ∷ gs) rows = not (has_row (name_in g) rows) && fresh gs (rows ++ row_for g ∷ [])

pub fresh_used : (gs : List Setting) (rows : List Row) → fresh gs rows ≡ true → used_by gs rows ≡ rows ++ map row_for gs
fresh_used [] rows h = sym (append-nil rows)
fresh_used (g ∷ gs) rows h =
    let parts = and_parts (not (has_row (name_in g) rows)) (fresh gs (rows ++ row_for g ∷ [])) h in
    ap (used_by gs) (used_new g rows (not-true _ parts.0)) ∙ fresh_used gs (rows ++ row_for g ∷ []) parts.1 ∙ append_assoc rows (row_for g ∷ []) (map row_for gs)

pub fresh_clear : (gs : List Setting) (rows : List Row) → fresh gs rows ≡ true → fault_by gs rows ≡ []
fresh_clear [] rows h = refl
fresh_clear (g ∷ gs) rows h =
    let parts = and_parts (not (has_row (name_in g) rows)) (fresh gs (rows ++ row_for g ∷ [])) h in
    let none = not-true (has_row (name_in g) rows) parts.0 in
    (λ i. or_else (use_clear g rows none i) (fault_by gs (used_new g rows none i))) ∙ fresh_clear gs (rows ++ row_for g ∷ []) parts.1

pub clear_fresh : (gs : List Setting) (rows : List Row) → fault_by gs rows ≡ [] → fresh gs rows ≡ true
clear_fresh [] rows h = refl
clear_fresh (g ∷ gs) rows h = elim (cases_Bool (has_row (name_in g) rows)) [
  | inl has ↦
      let bad : kind.ArgumentConflict ∷ [] ≡ [] = sym (ap (λ k. or_else k (fault_by gs (used (rule_for g) (values_for g) rows))) (use_clash g rows has)) ∙ h in
      cc
  | inr none ↦
      let rest : fault_by gs (rows ++ row_for g ∷ []) ≡ [] = sym (λ i. or_else (use_clear g rows none i) (fault_by gs (used_new g rows none i))) ∙ h in
      rw none (clear_fresh gs (rows ++ row_for g ∷ []) rest)
]

has_push : (id : Text) (rows : List Row) (r : Row) → has_row id (rows ++ r ∷ []) ≡ (has_row id rows || bytes_eq r.id id)
has_push id [] r = or_none (bytes_eq r.id id)
  where
    or_none : (b : Bool) → (b || false) ≡ b
    or_none true = refl
    or_none false = refl
has_push id (x ∷ rows) r = ap (λ b. bytes_eq x.id id || b) (has_push id rows r) ∙ sym (or_assoc (bytes_eq x.id id) (has_row id rows) (bytes_eq r.id id))
  where
    or_assoc : (a b c : Bool) → ((a || b) || c) ≡ (a || (b || c))
    or_assoc true b c = refl
    or_assoc false b c = refl

-- none of them is among the rows
abbrev pub apart : List Setting → List Row → Bool
apart gs rows = list_all (λ g. not (has_row (name_in g) rows)) gs

abbrev names_in : List Setting → List Text
names_in gs = map name_in gs

four : (a b x y : Bool) → (not (a || b) && (x && not y)) ≡ ((not a && x) && not (b || y))
four true b x y = refl
four false true true y = refl
four false true false y = refl
four false false x y = refl

apart_push : (gs : List Setting) (rows : List Row) (g : Setting) → apart gs (rows ++ row_for g ∷ []) ≡ (apart gs rows && not (list_any (bytes_eq (name_in g)) (names_in gs)))
apart_push [] rows g = refl
apart_push (h ∷ gs) rows g =
    (λ i. not (has_push (name_in h) rows (row_for g) i) && apart_push gs rows g i)
    ∙ four (has_row (name_in h) rows) (bytes_eq (name_in g) (name_in h)) (apart gs rows) (list_any (bytes_eq (name_in g)) (names_in gs))

regroup : (p a y d : Bool) → (p && ((a && y) && d)) ≡ ((p && a) && (y && d))
regroup true true y d = refl
regroup true false y d = refl
regroup false a y d = refl

-- fresh is apart, and distinct
pub fresh_is : (gs : List Setting) (rows : List Row) → fresh gs rows ≡ (apart gs rows && are_distinct bytes_eq (names_in gs))
fresh_is [] rows = refl
fresh_is (g ∷ gs) rows =
    ap (λ b. not (has_row (name_in g) rows) && b) (fresh_is gs (rows ++ row_for g ∷ []) ∙ ap (λ b. b && are_distinct bytes_eq (names_in gs)) (apart_push gs rows g))
    ∙ regroup (not (has_row (name_in g) rows)) (apart gs rows) (not (list_any (bytes_eq (name_in g)) (names_in gs))) (are_distinct bytes_eq (names_in gs))

pub fresh_append : (gs hs : List Setting) (rows : List Row) → fresh (gs ++ hs) rows ≡ (fresh gs rows && fresh hs (rows ++ map row_for gs))
fresh_append [] hs rows = ap (fresh hs) (sym (append-nil rows))
fresh_append (g ∷ gs) hs rows =
    ap (λ b. not (has_row (name_in g) rows) && b) (fresh_append gs hs (rows ++ row_for g ∷ []) ∙ ap (λ rs. fresh gs (rows ++ row_for g ∷ []) && fresh hs rs) (append_assoc rows (row_for g ∷ []) (map row_for gs)))
    ∙ sym (and_assoc (not (has_row (name_in g) rows)) (fresh gs (rows ++ row_for g ∷ [])) (fresh hs (rows ++ (row_for g ∷ map row_for gs))))
  where
    and_assoc : (a b c : Bool) → ((a && b) && c) ≡ (a && (b && c))
    and_assoc true b c = refl
    and_assoc false b c = refl

none_apart : (gs : List Setting) → apart gs [] ≡ true
none_apart [] = refl
none_apart (g ∷ gs) = none_apart gs

pub fresh_distinct : (gs : List Setting) → fresh gs [] ≡ are_distinct bytes_eq (names_in gs)
fresh_distinct gs = fresh_is gs [] ∙ ap (λ b. b && are_distinct bytes_eq (names_in gs)) (none_apart gs)

-- ---- the words in capitals

abbrev pub place_rows : List Text → List Row
place_rows [] = []
place_rows (text ∷ texts) = row_with place (text ∷ texts) ∷ []

placed_on : (texts before : List Text) (rows : List Row) → has_row place rows ≡ false → placed texts (rows ++ row_with place before ∷ []) ≡ rows ++ row_with place (before ++ texts) ∷ []
placed_on [] before rows none = ap (λ vs. rows ++ row_with place vs ∷ []) (sym (append-nil before))
placed_on (text ∷ texts) before rows none =
    ap (placed texts) (at_last place (more_values CommandLine (text ∷ [])) (row_with place (text ∷ []) ∷ []) rows (row_with place before) none refl)
    ∙ placed_on texts (before ++ text ∷ []) rows none
    ∙ ap (λ vs. rows ++ row_with place vs ∷ []) (append_assoc before (text ∷ []) texts)

pub placed_is : (texts : List Text) (rows : List Row) → has_row place rows ≡ false → placed texts rows ≡ rows ++ place_rows texts
placed_is [] rows none = sym (append-nil rows)
placed_is (text ∷ texts) rows none =
    ap (placed texts) (at_none place (more_values CommandLine (text ∷ [])) (row_with place (text ∷ []) ∷ []) rows none) ∙ placed_on texts (text ∷ []) rows none
