-- What clap makes of a list of items.
use Rattle.std.proofs.Common.{◌≡◌, ◌∙◌, ◌||◌, Bool, true, false, List, [], ◌∷◌, ◌++◌, Option, Some, None, codes, not, refl, sym, ap, subst, append-nil, fold}
use Rattle.std.specs.List.{list_all}
use Rattle.std.specs.Option.{option_map_or}
use Rattle.std.specs.Str.{bytes_eq}
use Rattle.std.proofs.lemmas.Bool.{and_parts, false≢true, not-true}
use Rattle.std.proofs.lemmas.Slice.Eq.{bytes_eq-Decides}
use Rattle.clap.specs.Kinds.{Kinds, or_else}
use Rattle.clap.specs.Faults.{settle_fault, turn_fault, use_fault, walk_fault}
use Rattle.clap.specs.Walk.{Row, Rule, Text, Walk, arg_by_id, arg_by_index, settled_rows, used, walked}
use Rattle.dbl_cli.specs.Items.{Setting, Flag, Joined, Apart, Named, dashed, words_of, has_value, is_flag, is_option, is_known, is_dashed}
use Rattle.dbl_cli.proofs.ClapRules.{place, place_rule, rule_by, rules_by, all_rules, built_shape, by_long, by_id, by_index, by_place_id}
use Rattle.dbl_cli.proofs.ClapWords.{IsPlainName, bare_long, bare_dash, joined_long, joined_dash, plain_dash, plain_long, plain_short}
use Rattle.dbl_cli.proofs.ClapSteps.{at, within, owed, or_else-nil, joined_walks, joined_fault, flag_walks, flag_fault, half_walks, half_fault, value_walks, value_fault, place_walks, place_fault}

or_else-assoc : (a b d : Kinds) → or_else (or_else a b) d ≡ or_else a (or_else b d)
or_else-assoc [] b d = refl
or_else-assoc (k ∷ ks) b d = refl

-- ---- uses

abbrev pub rule_for : Setting → Rule
rule_for (Flag name) = rule_by false name
rule_for (Joined name value) = rule_by true name
rule_for (Apart name value) = rule_by true name

abbrev pub values_for : Setting → List Text
values_for (Flag name) = []
values_for (Joined name value) = value ∷ []
values_for (Apart name value) = value ∷ []

-- the rows after the uses of flags and options
abbrev pub used_by : List Setting → List Row → List Row
used_by [] rows = rows
used_by (g ∷ gs) rows = used_by gs (used (rule_for g) (values_for g) rows)

abbrev pub fault_by : List Setting → List Row → Kinds
fault_by [] rows = []
fault_by (g ∷ gs) rows = or_else (use_fault false (rule_for g) (values_for g) rows) (fault_by gs (used (rule_for g) (values_for g) rows))

-- the rows after the words in capitals
abbrev pub placed : List Text → List Row → List Row
placed [] rows = rows
placed (text ∷ texts) rows = placed texts (used place_rule (text ∷ []) rows)

-- ---- runs

abbrev ended : List Rule → Walk → List Text → Walk
ended c w words = fold (walked c []) w words

-- from this point on the words have this fault, and these rows at their end
pub record Runs (c : List Rule) (w : Walk) (words : List Text) (fault : Kinds) (rows : List Row) : Type 0 where
  pub faults : or_else (walk_fault (built_shape c) [] w words) (settle_fault c false (ended c w words).held) ≡ fault
  pub ends : settled_rows c (ended c w words).held.pending (ended c w words).held.rows ≡ rows
  pub goes : (ended c w words).stopped ≡ None

run_end : (c : List Rule) (many : Bool) (rows : List Row) (pending : Option (Text × List Text)) (now : List Row) (f : Kinds) → settled_rows c pending rows ≡ now → owed c rows pending ≡ f
    → Runs c (at many rows pending) [] (or_else f []) now
unfolding walk_fault
run_end c many rows pending now f is owes = record { faults = owes ∙ sym (or_else-nil f); ends = is; goes = refl }

run_more : (c : List Rule) (w v : Walk) (word : Text) (rest : List Text) (t fault : Kinds) (rows : List Row) → walked c [] w word ≡ v → turn_fault (built_shape c) [] w word ≡ t → Runs c v rest fault rows
    → Runs c w (word ∷ rest) (or_else t fault) rows
unfolding walk_fault
run_more c w v word rest t fault rows walks turns run = record {
  faults = or_else-assoc (turn_fault (built_shape c) [] w word) _ _
      ∙ (λ i. or_else (turns i) (or_else (walk_fault (built_shape c) [] (walks i) rest) (settle_fault c false (ended c (walks i) rest).held)))
      ∙ ap (or_else t) run.faults;
  ends = (λ i. settled_rows c (ended c (walks i) rest).held.pending (ended c (walks i) rest).held.rows) ∙ run.ends;
  goes = (λ i. (ended c (walks i) rest).stopped) ∙ run.goes;
}

-- ---- the items of a form

-- a form's names: none is that of the words in capitals, none has a `=`, and a flag is no option too
pub record AreNames (names : List Named) : Type 0 where
  pub plain : (name : Text) (b : Bool) → has_value names name ≡ Some b → IsPlainName name
  pub no_place : has_value names place ≡ None
  pub flags : list_all (λ (m : Named). m.has_value || is_flag names m.name) names ≡ true

pub option_is : (names : List Named) (name : Text) → is_option names name ≡ true → has_value names name ≡ Some true
option_is names name known = go (has_value names name) known
  where
    go : (o : Option Bool) → option_map_or (λ b. b) o false ≡ true → o ≡ Some true
    go None h = absurd (false≢true h)
    go (Some b) h = ap Some h

pub flag_is : (names : List Named) (name : Text) → is_flag names name ≡ true → has_value names name ≡ Some false
flag_is names name known = go (has_value names name) known
  where
    go : (o : Option Bool) → option_map_or not o false ≡ true → o ≡ Some false
    go None h = absurd (false≢true h)
    go (Some b) h = ap Some (not-true b h)

same_text : (name : Text) → bytes_eq name name ≡ true
same_text name = (bytes_eq-Decides name name).1 refl

module _ (names : List Named) (names_are : AreNames names) (rest_rules : List Rule) where
  abbrev c : List Rule
  c = rules_by names ++ rest_rules

  -- what the words of flags and options do, where the words after them do so
  pub settings_run : (settings : List Setting) → list_all (is_known names) settings ≡ true → (rest : List Text) (fault : Kinds) (end now : List Row)
      → ((many : Bool) (rows : List Row) (pending : Option (Text × List Text)) (f : Kinds) → settled_rows c pending rows ≡ used_by settings now → owed c rows pending ≡ f → Runs c (at many rows pending) rest (or_else f fault) end)
      → (many : Bool) (rows : List Row) (pending : Option (Text × List Text)) (f : Kinds) → settled_rows c pending rows ≡ now → owed c rows pending ≡ f
      → Runs c (at many rows pending) (words_of settings ++ rest) (or_else f (or_else (fault_by settings now) fault)) end
  settings_run [] known rest fault end now next many rows pending f is owes = next many rows pending f is owes
  settings_run (Flag name ∷ gs) known rest fault end now next many rows pending f is owes =
      let parts = and_parts (is_known names (Flag name)) (list_all (is_known names) gs) known in
      let has = flag_is names name parts.0 in
      let plain = names_are.plain name false has in
      let rule = by_long names rest_rules name false has in
      let after = settings_run gs parts.1 rest fault end (used (rule_by false name) [] now) next false (used (rule_by false name) [] now) None [] refl refl in
      let walks = flag_walks c rows pending (dashed name) name (bare_dash name plain) many (bare_long name plain) rule ∙ ap (λ rs. at false (used (rule_by false name) [] rs) None) is in
      let turns = flag_fault c rows pending (dashed name) name (bare_dash name plain) many (bare_long name plain) rule ∙ (λ i. or_else (owes i) (use_fault false (rule_by false name) [] (is i))) in
      subst (λ (k : Kinds). Runs c (at many rows pending) (dashed name ∷ (words_of gs ++ rest)) k end)
      (or_else-assoc f (use_fault false (rule_by false name) [] now) _ ∙ ap (or_else f) (sym (or_else-assoc (use_fault false (rule_by false name) [] now) _ fault)))
      (run_more c _ _ (dashed name) (words_of gs ++ rest) _ _ end walks turns after)
  settings_run (Joined name value ∷ gs) known rest fault end now next many rows pending f is owes =
      let parts = and_parts (is_known names (Joined name value)) (list_all (is_known names) gs) known in
      let has = option_is names name parts.0 in
      let plain = names_are.plain name true has in
      let rule = by_long names rest_rules name true has in
      let word : Text = dashed name ++ (codes "=" ++ value) in
      let after = settings_run gs parts.1 rest fault end (used (rule_by true name) (value ∷ []) now) next false (used (rule_by true name) (value ∷ []) now) None [] refl refl in
      let walks = joined_walks c rows pending word name (joined_dash name value plain) many value (joined_long name value plain) rule ∙ ap (λ rs. at false (used (rule_by true name) (value ∷ []) rs) None) is in
      let turns = joined_fault c rows pending word name (joined_dash name value plain) many value (joined_long name value plain) rule ∙ (λ i. or_else (owes i) (use_fault false (rule_by true name) (value ∷ []) (is i))) in
      subst (λ (k : Kinds). Runs c (at many rows pending) (word ∷ (words_of gs ++ rest)) k end)
      (or_else-assoc f (use_fault false (rule_by true name) (value ∷ []) now) _ ∙ ap (or_else f) (sym (or_else-assoc (use_fault false (rule_by true name) (value ∷ []) now) _ fault)))
      (run_more c _ _ word (words_of gs ++ rest) _ _ end walks turns after)
  settings_run (Apart name value ∷ gs) known rest fault end now next many rows pending f is owes =
      let parts = and_parts (is_known names (Apart name value)) (list_all (is_known names) gs) known in
      let halves = and_parts (is_option names name) (not (is_dashed value)) parts.0 in
      let has = option_is names name halves.0 in
      let plain = names_are.plain name true has in
      let rule = by_long names rest_rules name true has in
      let own = by_id names rest_rules name true has in
      let bare = not-true (is_dashed value) halves.1 in
      let pend : Option (Text × List Text) = Some (name, value ∷ []) in
      let settles : settled_rows c pend now ≡ used (rule_by true name) (value ∷ []) now = rw own refl in
      let owing : owed c now pend ≡ use_fault false (rule_by true name) (value ∷ []) now = rw own refl in
      let after = settings_run gs parts.1 rest fault end (used (rule_by true name) (value ∷ []) now) next false now pend _ settles owing in
      let walks = half_walks c rows pending (dashed name) name (bare_dash name plain) many (bare_long name plain) rule ∙ ap (within name) is in
      let turns = half_fault c rows pending (dashed name) name (bare_dash name plain) many (bare_long name plain) rule ∙ or_else-nil _ ∙ owes in
      let then_walks = value_walks c now value (plain_dash value bare) (plain_long value bare) (plain_short value bare) name own (same_text name) in
      let then_turns = value_fault c now value (plain_dash value bare) (plain_long value bare) (plain_short value bare) name in
      subst (λ (k : Kinds). Runs c (at many rows pending) (dashed name ∷ value ∷ (words_of gs ++ rest)) k end)
      (ap (or_else f) (sym (or_else-assoc (use_fault false (rule_by true name) (value ∷ []) now) _ fault)))
      (run_more c _ _ (dashed name) (value ∷ (words_of gs ++ rest)) _ _ end walks turns
      (run_more c _ _ value (words_of gs ++ rest) _ _ end then_walks then_turns after))

  -- what the words in capitals do, likewise
  pub texts_run : arg_by_index c 1 ≡ Some place_rule → arg_by_id c place ≡ Some place_rule
      → (texts : List Text) → list_all (λ text. not (is_dashed text)) texts ≡ true → (rest : List Text) (fault : Kinds) (end now : List Row)
      → ((many : Bool) (rows : List Row) (pending : Option (Text × List Text)) (f : Kinds) → settled_rows c pending rows ≡ placed texts now → owed c rows pending ≡ f → Runs c (at many rows pending) rest (or_else f fault) end)
      → (many : Bool) (rows : List Row) (pending : Option (Text × List Text)) (f : Kinds) → settled_rows c pending rows ≡ now → owed c rows pending ≡ f
      → Runs c (at many rows pending) (texts ++ rest) (or_else f fault) end
  texts_run index own [] plain rest fault end now next many rows pending f is owes = next many rows pending f is owes
  texts_run index own (text ∷ texts) plain rest fault end now next many rows pending f is owes =
      let parts = and_parts (not (is_dashed text)) (list_all (λ t. not (is_dashed t)) texts) plain in
      let bare = not-true (is_dashed text) parts.0 in
      let pend : Option (Text × List Text) = Some (place, text ∷ []) in
      let settles : settled_rows c pend now ≡ used place_rule (text ∷ []) now = rw own refl in
      let owing : owed c now pend ≡ [] = rw own refl in
      let after = texts_run index own texts parts.1 rest fault end (used place_rule (text ∷ []) now) next true now pend [] settles owing in
      let walks = place_walks c rows text (plain_dash text bare) (plain_long text bare) (plain_short text bare) many pending index ∙ ap (λ rs. at true rs pend) is in
      let turns = place_fault c rows text (plain_dash text bare) (plain_long text bare) (plain_short text bare) many pending index ∙ owes in
      run_more c _ _ text (texts ++ rest) _ _ end walks turns after

-- the rows and the fault of a list of items
abbrev pub rows_of_items : List Setting → List Text → List Setting → List Row
rows_of_items front texts back = used_by back (placed texts (used_by front []))

abbrev pub fault_of_items : List Setting → List Text → List Setting → Kinds
fault_of_items front texts back = or_else (fault_by front []) (or_else (fault_by back (placed texts (used_by front []))) [])

module _ (names : List Named) (names_are : AreNames names) (front back : List Setting) (texts : List Text)
    (known_before : list_all (is_known names) front ≡ true) (known_since : list_all (is_known names) back ≡ true)
    (plain : list_all (λ text. not (is_dashed text)) texts ≡ true) where
  back_run : (rest_rules : List Rule) (many : Bool) (rows : List Row) (pending : Option (Text × List Text)) (f : Kinds) (now : List Row) → settled_rows (rules_by names ++ rest_rules) pending rows ≡ now
      → owed (rules_by names ++ rest_rules) rows pending ≡ f → Runs (rules_by names ++ rest_rules) (at many rows pending) (words_of back) (or_else f (or_else (fault_by back now) [])) (used_by back now)
  back_run rest_rules many rows pending f now is owes =
      subst (λ (ws : List Text). Runs (rules_by names ++ rest_rules) (at many rows pending) ws (or_else f (or_else (fault_by back now) [])) (used_by back now)) (append-nil (words_of back))
      (settings_run names names_are rest_rules back known_since [] [] (used_by back now) now
      (λ m rs p k same owed_too. run_end (rules_by names ++ rest_rules) m rs p (used_by back now) k same owed_too) many rows pending f is owes)

  pub items_run : (has_places : Bool) → (has_places ≡ false → texts ≡ [])
      → Runs (all_rules names has_places) (at false [] None) (words_of front ++ (texts ++ words_of back)) (fault_of_items front texts back) (rows_of_items front texts back)
  items_run true none =
      settings_run names names_are (place_rule ∷ []) front known_before (texts ++ words_of back) (or_else (fault_by back (placed texts (used_by front []))) []) (rows_of_items front texts back) []
      (λ m rs p f same owed_too. texts_run names names_are (place_rule ∷ []) (by_index names []) (by_place_id names [] names_are.no_place) texts plain (words_of back) _ _ (used_by front [])
      (λ m2 rs2 p2 f2 same2 owed2. back_run (place_rule ∷ []) m2 rs2 p2 f2 (placed texts (used_by front [])) same2 owed2) m rs p f same owed_too)
      false [] None [] refl refl
  items_run false none =
      subst (λ (ts : List Text). Runs (all_rules names false) (at false [] None) (words_of front ++ (ts ++ words_of back)) (fault_of_items front ts back) (rows_of_items front ts back)) (sym (none refl))
      (settings_run names names_are [] front known_before (words_of back) (or_else (fault_by back (used_by front [])) []) (used_by back (used_by front [])) []
      (λ m rs p f same owed_too. back_run [] m rs p f (used_by front []) same owed_too) false [] None [] refl refl)
