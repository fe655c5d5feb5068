-- The rules by which clap reads a form.
use Rattle.std.proofs.Common.{◌≡◌, ◌∙◌, ◌==◌, ℕ, ◌&&◌, ◌||◌, Bool, true, false, cond, List, [], ◌∷◌, ◌++◌, map, Some, None, is_some, codes, not, refl, ap}
use Rattle.std.specs.List.{find}
use Rattle.std.specs.Option.{option_map, option_map_or}
use Rattle.std.specs.Str.{bytes_eq}
use Rattle.std.proofs.lemmas.Slice.Eq.{bytes_eq-Decides}
use Rattle.clap.specs.Walk.{Rule, Text, has_long, arg_by_long, arg_by_id, arg_by_index}
use Rattle.clap.specs.Simple.{Shape, new_rule, new_shape, filled_from, built}
use Rattle.clap.specs.declared.builder.action.ArgAction.TheVariants.{Set, Append, SetTrue}
use Rattle.clap.specs.declared.builder.range.ValueRange.{ValueRange}
use Rattle.clap.specs.declared.builder.value_parser.ValueParser.TheVariants as vp
use Rattle.dbl_cli.specs.Items.{Named, has_value}
pub use Rattle.dbl_cli.specs.Parsers.{place, given_rule, given_rules, given_place, given_places, app}

abbrev pub values : ℕ → ValueRange
values n = record { start_inclusive = n; end_inclusive = n }

-- an argument as clap fills it in
abbrev pub rule_by : Bool → Text → Rule
rule_by true name = record (new_rule name) { long = Some name; action = Some Set; range = Some (values 1); parser = Some vp.String }
rule_by false name = record (new_rule name) {
  long = Some name;
  action = Some SetTrue;
  range = Some (values 0);
  defaults = codes "false" ∷ [];
  missing = codes "true" ∷ [];
  parser = Some vp.Bool;
}

abbrev pub place_rule : Rule
place_rule = record (new_rule place) { action = Some Append; range = Some (values 1); parser = Some vp.String; index = Some 1 }

abbrev pub rules_by : List Named → List Rule
rules_by names = map (λ (n : Named). rule_by n.has_value n.name) names

abbrev pub places_by : Bool → List Rule
places_by true = place_rule ∷ []
places_by false = []

abbrev pub all_rules : List Named → Bool → List Rule
all_rules names has_places = rules_by names ++ places_by has_places

abbrev pub built_shape : List Rule → Shape
built_shape rules = record (new_shape (codes "dblog")) { no_binary_name = true; disable_help_flag = true; disable_help_subcommand = true; is_built = true; rules = rules }

filled_front : (names : List Named) (rest : List Rule) → filled_from 1 (given_rules names ++ rest) ≡ rules_by names ++ filled_from 1 rest
filled_front [] rest = refl
filled_front (n ∷ names) rest = go n.has_value (filled_front names rest)
  where
    go : (b : Bool) → filled_from 1 (given_rules names ++ rest) ≡ rules_by names ++ filled_from 1 rest
        → filled_from 1 (given_rule b n.name ∷ (given_rules names ++ rest)) ≡ rule_by b n.name ∷ (rules_by names ++ filled_from 1 rest)
    go true e = ap (λ rs. rule_by true n.name ∷ rs) e
    go false e = ap (λ rs. rule_by false n.name ∷ rs) e

places_filled : (b : Bool) → filled_from 1 (given_places b) ≡ places_by b
places_filled true = refl
places_filled false = refl

pub rules_filled : (names : List Named) (b : Bool) → filled_from 1 (given_rules names ++ given_places b) ≡ all_rules names b
rules_filled names b = filled_front names (given_places b) ∙ ap (λ rs. rules_by names ++ rs) (places_filled b)

pub app_built : (names : List Named) (b : Bool) → built (app names b) ≡ record { top = built_shape (all_rules names b); subs = [] }
app_built names b = ap (λ rs. record { top = built_shape rs; subs = [] }) (rules_filled names b)

-- ---- the rule of a name

or_none : (b : Bool) → (b || false) ≡ b
or_none true = refl
or_none false = refl

abbrev by_name : Text → Rule → Bool
by_name name a = not (is_some a.index) && has_long a name

abbrev with_id : Text → Rule → Bool
with_id name a = bytes_eq a.id name

named_as : (b : Bool) (own name : Text) → by_name name (rule_by b own) ≡ bytes_eq own name
named_as true own name = or_none _
named_as false own name = or_none _

id_as : (b : Bool) (own name : Text) → with_id name (rule_by b own) ≡ bytes_eq own name
id_as true own name = refl
id_as false own name = refl

pub first_rule : (test : Rule → Bool) (name : Text) → ((b : Bool) (own : Text) → test (rule_by b own) ≡ bytes_eq own name) → (names : List Named) (rest : List Rule) (b : Bool)
    → has_value names name ≡ Some b → find test (rules_by names ++ rest) ≡ Some (rule_by b name)
first_rule test name is [] rest b has = cc
first_rule test name is (n ∷ names) rest b has = go (bytes_eq n.name name) refl has (λ h. first_rule test name is names rest b h)
  where
    go : (t : Bool) → bytes_eq n.name name ≡ t → option_map (λ (m : Named). m.has_value) (cond t (Some n) (find (λ (m : Named). bytes_eq m.name name) names)) ≡ Some b
        → (has_value names name ≡ Some b → find test (rules_by names ++ rest) ≡ Some (rule_by b name))
        → find test (rule_by n.has_value n.name ∷ (rules_by names ++ rest)) ≡ Some (rule_by b name)
    go true e h next =
        let same : n.name ≡ name = (bytes_eq-Decides n.name name).0 e in
        let kind : n.has_value ≡ b = cc in
        let hit : test (rule_by n.has_value n.name) ≡ true = is n.has_value n.name ∙ e in
        (λ i. cond (hit i) (Some (rule_by n.has_value n.name)) (find test (rules_by names ++ rest))) ∙ (λ i. Some (rule_by (kind i) (same i)))
    go false e h next =
        let miss : test (rule_by n.has_value n.name) ≡ false = is n.has_value n.name ∙ e in
        (λ i. cond (miss i) (Some (rule_by n.has_value n.name)) (find test (rules_by names ++ rest))) ∙ next h

pub by_long : (names : List Named) (rest : List Rule) (name : Text) (b : Bool) → has_value names name ≡ Some b → arg_by_long (rules_by names ++ rest) name ≡ Some (rule_by b name)
by_long names rest name b has = first_rule (by_name name) name (λ k own. named_as k own name) names rest b has

pub by_id : (names : List Named) (rest : List Rule) (name : Text) (b : Bool) → has_value names name ≡ Some b → arg_by_id (rules_by names ++ rest) name ≡ Some (rule_by b name)
by_id names rest name b has = first_rule (with_id name) name (λ k own. id_as k own name) names rest b has

-- no flag or option has the name of the words in capitals
pub by_place_id : (names : List Named) (rest : List Rule) → has_value names place ≡ None → arg_by_id (rules_by names ++ place_rule ∷ rest) place ≡ Some place_rule
by_place_id [] rest none = refl
by_place_id (n ∷ names) rest none = go (bytes_eq n.name place) refl none (λ h. by_place_id names rest h)
  where
    go : (t : Bool) → bytes_eq n.name place ≡ t → option_map (λ (m : Named). m.has_value) (cond t (Some n) (find (λ (m : Named). bytes_eq m.name place) names)) ≡ None
        → (has_value names place ≡ None → arg_by_id (rules_by names ++ place_rule ∷ rest) place ≡ Some place_rule)
        → arg_by_id (rule_by n.has_value n.name ∷ (rules_by names ++ place_rule ∷ rest)) place ≡ Some place_rule
    go true e h next = cc
    go false e h next =
        let miss : with_id place (rule_by n.has_value n.name) ≡ false = id_as n.has_value n.name place ∙ e in
        (λ i. cond (miss i) (Some (rule_by n.has_value n.name)) (arg_by_id (rules_by names ++ place_rule ∷ rest) place)) ∙ next h

no_index : (b : Bool) (own : Text) → option_map_or (λ k. k == 1) (rule_by b own).index false ≡ false
no_index true own = refl
no_index false own = refl

pub by_index : (names : List Named) (rest : List Rule) → arg_by_index (rules_by names ++ place_rule ∷ rest) 1 ≡ Some place_rule
by_index [] rest = refl
by_index (n ∷ names) rest =
    (λ i. cond (no_index n.has_value n.name i) (Some (rule_by n.has_value n.name)) (arg_by_index (rules_by names ++ place_rule ∷ rest) 1)) ∙ by_index names rest
