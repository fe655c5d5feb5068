-- What is read of the rows of a list of items.
use Rattle.std.proofs.Common.{◌≡◌, ◌∙◌, ◌||◌, Bool, true, false, cond, List, [], ◌∷◌, ◌++◌, map, Option, Some, None, codes, not, refl, sym, ap, append-nil, append_assoc, inl, inr}
use Rattle.std.specs.List.{fold, find, list_all}
use Rattle.std.specs.Option.{option_map, option_map_or}
use Rattle.std.specs.Prelude.{option_and_then, slice_get}
use Rattle.std.specs.Str.{bytes_eq}
use Rattle.std.proofs.lemmas.Bool.{and_parts, and_from, or_from, or_right, cases_Bool, not-true, false_from_ne_true, not_from_false}
use Rattle.std.proofs.lemmas.List.{map-append}
use Rattle.std.proofs.lemmas.Slice.Eq.{bytes_eq-Decides}
use Rattle.clap.specs.Values.{bool_text}
use Rattle.clap.specs.Walk.{Row, Text, has_row, with_default, more_values, first_of, one_of, all_of, row_text}
use Rattle.clap.specs.declared.builder.value_parser.Reading.TheVariants.{AsWritten}
use Rattle.clap.specs.declared.parser.matches.ValueSource.TheVariants.{DefaultValue}
use Rattle.clap.proofs.WalkLemmas.{find-map}
use Rattle.dbl_cli.specs.Items.{Setting, Flag, Joined, Apart, Named, name_in, value_in, has_value, is_flag, is_option, is_known, is_dashed, value_of, is_given}
use Rattle.dbl_cli.proofs.ClapRules.{place, place_rule, rule_by, places_by, all_rules}
use Rattle.dbl_cli.proofs.ClapRuns.{AreNames, option_is, flag_is}
use Rattle.dbl_cli.proofs.ClapRows.{row_for, place_rows, at_none}
use Rattle.dbl_cli.proofs.ClapItems.{with_id, with_name, find_after, find_past, find_between, find_kept, place_lacks, rows_lack_place}

-- ---- defaults

abbrev default_row : Text → Row
default_row name = record { id = name; values = codes "false" ∷ []; count = None; source = Some DefaultValue; reading = AsWritten }

same : (b : Bool) (rows : List Row) → cond b rows rows ≡ rows
same true rows = refl
same false rows = refl

option_default : (rows : List Row) (own : Text) → with_default rows (rule_by true own) ≡ rows
option_default rows own = same (has_row own rows) rows

place_default : (rows : List Row) → with_default rows place_rule ≡ rows
place_default rows = same (has_row place rows) rows

flag_there : (rows : List Row) (own : Text) → has_row own rows ≡ true → with_default rows (rule_by false own) ≡ rows
flag_there rows own has = rw has refl

flag_missing : (rows : List Row) (own : Text) → has_row own rows ≡ false → with_default rows (rule_by false own) ≡ rows ++ default_row own ∷ []
flag_missing rows own none = rw none (at_none own (more_values DefaultValue (codes "false" ∷ [])) (default_row own ∷ []) rows none)

none_found : (id : Text) (rows : List Row) → find (with_id id) rows ≡ None → has_row id rows ≡ false
none_found id [] none = refl
none_found id (r ∷ rows) none = go (bytes_eq r.id id) (λ h. none_found id rows h) none
  where
    go : (b : Bool) → (find (with_id id) rows ≡ None → has_row id rows ≡ false) → cond b (Some r) (find (with_id id) rows) ≡ None → (b || has_row id rows) ≡ false
    go true next h = cc
    go false next h = next h

-- a row that is there stays the first of its id
kept_once : (id : Text) (rows : List Row) (b : Bool) (own : Text) (r : Row) → find (with_id id) rows ≡ Some r → find (with_id id) (with_default rows (rule_by b own)) ≡ Some r
kept_once id rows true own r found = ap (find (with_id id)) (option_default rows own) ∙ found
kept_once id rows false own r found = elim (cases_Bool (has_row own rows)) [
  | inl has ↦ ap (find (with_id id)) (flag_there rows own has) ∙ found
  | inr none ↦ ap (find (with_id id)) (flag_missing rows own none) ∙ find_kept id rows (default_row own ∷ []) r found
]

places_keep : (b : Bool) (rows : List Row) → fold with_default rows (places_by b) ≡ rows
places_keep true rows = place_default rows
places_keep false rows = refl

kept : (id : Text) (names : List Named) (b : Bool) (rows : List Row) (r : Row) → find (with_id id) rows ≡ Some r → find (with_id id) (fold with_default rows (all_rules names b)) ≡ Some r
kept id [] b rows r found = ap (find (with_id id)) (places_keep b rows) ∙ found
kept id (n ∷ names) b rows r found = kept id names b (with_default rows (rule_by n.has_value n.name)) r (kept_once id rows n.has_value n.name r found)

-- defaults of other flags change nothing
other_once : (id : Text) (rows : List Row) (b : Bool) (own : Text) → (b || not (bytes_eq own id)) ≡ true → find (with_id id) (with_default rows (rule_by b own)) ≡ find (with_id id) rows
other_once id rows true own other = ap (find (with_id id)) (option_default rows own)
other_once id rows false own other = elim (cases_Bool (has_row own rows)) [
  | inl has ↦ ap (find (with_id id)) (flag_there rows own has)
  | inr none ↦ ap (find (with_id id)) (flag_missing rows own none) ∙ find_after id rows (default_row own ∷ []) (or_from _ _ (not-true (bytes_eq own id) other) refl)
]

others : (id : Text) (names : List Named) → list_all (λ (m : Named). m.has_value || not (bytes_eq m.name id)) names ≡ true
    → (b : Bool) (rows : List Row) → find (with_id id) (fold with_default rows (all_rules names b)) ≡ find (with_id id) rows
others id [] all b rows = ap (find (with_id id)) (places_keep b rows)
others id (n ∷ names) all b rows =
    let parts = and_parts (n.has_value || not (bytes_eq n.name id)) (list_all (λ (m : Named). m.has_value || not (bytes_eq m.name id)) names) all in
    others id names parts.1 b (with_default rows (rule_by n.has_value n.name)) ∙ other_once id rows n.has_value n.name parts.0

-- a flag that isn't given has its default
defaulted : (id : Text) (names : List Named) → has_value names id ≡ Some false → (b : Bool) (rows : List Row) → find (with_id id) rows ≡ None
    → find (with_id id) (fold with_default rows (all_rules names b)) ≡ Some (default_row id)
defaulted id [] has b rows none = cc
defaulted id (n ∷ names) has b rows none = go (bytes_eq n.name id) refl has (λ h rs e. defaulted id names h b rs e)
  where
    go : (t : Bool) → bytes_eq n.name id ≡ t → option_map (λ (m : Named). m.has_value) (cond t (Some n) (find (λ (m : Named). bytes_eq m.name id) names)) ≡ Some false
        → (has_value names id ≡ Some false → (rs : List Row) → find (with_id id) rs ≡ None → find (with_id id) (fold with_default rs (all_rules names b)) ≡ Some (default_row id))
        → find (with_id id) (fold with_default rows (all_rules (n ∷ names) b)) ≡ Some (default_row id)
    go true e h next =
        let same_name : n.name ≡ id = (bytes_eq-Decides n.name id).0 e in
        let flag : n.has_value ≡ false = cc in
        let lacks = none_found id rows none in
        let joins : with_default rows (rule_by n.has_value n.name) ≡ rows ++ default_row id ∷ [] = (λ i. with_default rows (rule_by (flag i) (same_name i))) ∙ flag_missing rows id lacks in
        let there : find (with_id id) (with_default rows (rule_by n.has_value n.name)) ≡ Some (default_row id) =
        ap (find (with_id id)) joins ∙ find_past id rows (default_row id ∷ []) lacks ∙ (λ i. cond ((bytes_eq-Decides id id).1 refl i) (Some (default_row id)) None) in
        kept id names b (with_default rows (rule_by n.has_value n.name)) (default_row id) there
    go false e h next = next h (with_default rows (rule_by n.has_value n.name)) (other_once id rows n.has_value n.name (or_right n.has_value _ (not_from_false _ e)) ∙ none)

-- ---- the flags and options that are given

option_text : (names : List Named) (name : Text) → has_value names name ≡ Some true → (gs : List Setting) → list_all (is_known names) gs ≡ true
    → option_and_then (λ (r : Row). slice_get r.values 0) (option_map row_for (find (with_name name) gs)) ≡ value_of name gs
option_text names name has [] known = refl
option_text names name has (g ∷ gs) known =
    let parts = and_parts (is_known names g) (list_all (is_known names) gs) known in
    go (bytes_eq (name_in g) name) refl (option_text names name has gs parts.1) (here g parts.0)
  where
    here : (h : Setting) → is_known names h ≡ true → bytes_eq (name_in h) name ≡ true → slice_get (row_for h).values 0 ≡ value_in h
    here (Flag own) is same_text =
        let bad : Some false ≡ Some true = sym (flag_is names own is) ∙ ap (has_value names) ((bytes_eq-Decides own name).0 same_text) ∙ has in
        cc
    here (Joined own value) is same_text = refl
    here (Apart own value) is same_text = refl

    go : (t : Bool) → bytes_eq (name_in g) name ≡ t → option_and_then (λ (r : Row). slice_get r.values 0) (option_map row_for (find (with_name name) gs)) ≡ value_of name gs
        → (bytes_eq (name_in g) name ≡ true → slice_get (row_for g).values 0 ≡ value_in g)
        → option_and_then (λ (r : Row). slice_get r.values 0) (option_map row_for (cond t (Some g) (find (with_name name) gs))) ≡ option_map_or value_in (cond t (Some g) (find (with_name name) gs)) None
    go true e next own = own e
    go false e next own = next

flag_text : (names : List Named) (name : Text) → has_value names name ≡ Some false → (gs : List Setting) → list_all (is_known names) gs ≡ true
    → option_and_then row_text (option_map row_for (find (with_name name) gs)) ≡ option_map (λ (g : Setting). codes "true") (find (with_name name) gs)
flag_text names name has [] known = refl
flag_text names name has (g ∷ gs) known =
    let parts = and_parts (is_known names g) (list_all (is_known names) gs) known in
    go (bytes_eq (name_in g) name) refl (flag_text names name has gs parts.1) (here g parts.0)
  where
    here : (h : Setting) → is_known names h ≡ true → bytes_eq (name_in h) name ≡ true → row_text (row_for h) ≡ Some (codes "true")
    here (Flag own) is same_text = refl
    here (Joined own value) is same_text =
        let bad : Some true ≡ Some false = sym (option_is names own is) ∙ ap (has_value names) ((bytes_eq-Decides own name).0 same_text) ∙ has in
        cc
    here (Apart own value) is same_text =
        let option = (and_parts (is_option names own) (not (is_dashed value)) is).0 in
        let bad : Some true ≡ Some false = sym (option_is names own option) ∙ ap (has_value names) ((bytes_eq-Decides own name).0 same_text) ∙ has in
        cc

    go : (t : Bool) → bytes_eq (name_in g) name ≡ t → option_and_then row_text (option_map row_for (find (with_name name) gs)) ≡ option_map (λ (h : Setting). codes "true") (find (with_name name) gs)
        → (bytes_eq (name_in g) name ≡ true → row_text (row_for g) ≡ Some (codes "true"))
        → option_and_then row_text (option_map row_for (cond t (Some g) (find (with_name name) gs))) ≡ option_map (λ (h : Setting). codes "true") (cond t (Some g) (find (with_name name) gs))
    go true e next own = own e
    go false e next own = next

-- ---- the rows of the items, with the defaults

differ_once : (names : List Named) (id : Text) → (has_value names id ≡ Some false → ⊥) → (m : Named) → (m.has_value || is_flag names m.name) ≡ true → (m.has_value || not (bytes_eq m.name id)) ≡ true
differ_once names id other m h = go m.has_value h
  where
    go : (b : Bool) → (b || is_flag names m.name) ≡ true → (b || not (bytes_eq m.name id)) ≡ true
    go true e = refl
    go false e = not_from_false (bytes_eq m.name id) (false_from_ne_true (bytes_eq m.name id) (λ t.
        other (sym (ap (has_value names) ((bytes_eq-Decides m.name id).0 t)) ∙ flag_is names m.name e)))

differ : (names : List Named) (id : Text) → (has_value names id ≡ Some false → ⊥) → (ms : List Named) → list_all (λ (m : Named). m.has_value || is_flag names m.name) ms ≡ true
    → list_all (λ (m : Named). m.has_value || not (bytes_eq m.name id)) ms ≡ true
differ names id other [] all = refl
differ names id other (m ∷ ms) all =
    let parts = and_parts (m.has_value || is_flag names m.name) (list_all (λ (k : Named). k.has_value || is_flag names k.name) ms) all in
    and_from _ _ (differ_once names id other m parts.0) (differ names id other ms parts.1)

-- the words in capitals, if there is one
abbrev pub some_texts : List Text → Option (List Text)
some_texts [] = None
some_texts (text ∷ texts) = Some (text ∷ texts)

module _ (names : List Named) (names_are : AreNames names) (b : Bool) (front back : List Setting) (texts : List Text)
    (known_before : list_all (is_known names) front ≡ true) (known_since : list_all (is_known names) back ≡ true) where
  abbrev rows : List Row
  rows = (map row_for front ++ place_rows texts) ++ map row_for back

  known_all : list_all (is_known names) (front ++ back) ≡ true
  known_all = go front known_before
    where
      go : (gs : List Setting) → list_all (is_known names) gs ≡ true → list_all (is_known names) (gs ++ back) ≡ true
      go [] h = known_since
      go (g ∷ gs) h =
          let parts = and_parts (is_known names g) (list_all (is_known names) gs) h in
          and_from _ _ parts.0 (go gs parts.1)

  found : (name : Text) (kind : Bool) → has_value names name ≡ Some kind → find (with_id name) rows ≡ option_map row_for (find (with_name name) (front ++ back))
  found name kind has =
      let other : bytes_eq place name ≡ false = false_from_ne_true (bytes_eq place name) (λ e.
      let bad : None ≡ Some kind = sym names_are.no_place ∙ ap (has_value names) ((bytes_eq-Decides place name).0 e) ∙ has in
      cc) in
      find_between name (map row_for front) (place_rows texts) (map row_for back) (place_lacks name texts other)
      ∙ ap (find (with_id name)) (sym (map-append row_for front back)) ∙ sym (find-map (with_id name) row_for (front ++ back))

  pub option_read : (name : Text) → has_value names name ≡ Some true → first_of name (fold with_default rows (all_rules names b)) ≡ value_of name (front ++ back)
  option_read name has =
      let other : has_value names name ≡ Some false → ⊥ = λ e. let bad : Some true ≡ Some false = sym has ∙ e in cc in
      ap (option_and_then (λ (r : Row). slice_get r.values 0)) (others name names (differ names name other names names_are.flags) b rows ∙ found name true has)
      ∙ option_text names name has (front ++ back) known_all

  pub flag_read : (name : Text) → has_value names name ≡ Some false → one_of name (fold with_default rows (all_rules names b)) ≡ Some (bool_text (is_given name (front ++ back)))
  flag_read name has = go (find (with_name name) (front ++ back)) refl
    where
      text : option_and_then row_text (find (with_id name) rows) ≡ option_map (λ (g : Setting). codes "true") (find (with_name name) (front ++ back))
      text = ap (option_and_then row_text) (found name false has) ∙ flag_text names name has (front ++ back) known_all

      go : (o : Option Setting) → find (with_name name) (front ++ back) ≡ o → one_of name (fold with_default rows (all_rules names b)) ≡ Some (bool_text (is_given name (front ++ back)))
      go None e =
          let none : find (with_id name) rows ≡ None = found name false has ∙ ap (option_map row_for) e in
          ap (option_and_then row_text) (defaulted name names has b rows none) ∙ ap (λ o. Some (bool_text (option_map_or (λ (g : Setting). true) o false))) (sym e)
      go (Some g) e =
          let there : find (with_id name) rows ≡ Some (row_for g) = found name false has ∙ ap (option_map row_for) e in
          ap (option_and_then row_text) (kept name names b rows (row_for g) there)
          ∙ ap (option_and_then row_text) (sym there) ∙ text ∙ ap (option_map (λ (h : Setting). codes "true")) e
          ∙ ap (λ o. Some (bool_text (option_map_or (λ (h : Setting). true) o false))) (sym e)

  pub places_read : all_of place (fold with_default rows (all_rules names b)) ≡ some_texts texts
  places_read =
      let other : has_value names place ≡ Some false → ⊥ = λ e. let bad : None ≡ Some false = sym names_are.no_place ∙ e in cc in
      ap (option_map (λ (r : Row). r.values)) (others place names (differ names place other names names_are.flags) b rows
      ∙ ap (find (with_id place)) (append_assoc (map row_for front) (place_rows texts) (map row_for back))
      ∙ find_past place (map row_for front) (place_rows texts ++ map row_for back) (rows_lack_place names names_are front known_before))
      ∙ last texts
    where
      last : (ts : List Text) → option_map (λ (r : Row). r.values) (find (with_id place) (place_rows ts ++ map row_for back)) ≡ some_texts ts
      last [] =
          ap (option_map (λ (r : Row). r.values)) (ap (find (with_id place)) (sym (append-nil (map row_for back))) ∙ find_past place (map row_for back) [] (rows_lack_place names names_are back known_since))
      last (t ∷ ts) = refl
