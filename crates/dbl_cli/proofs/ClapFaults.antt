-- The fault that clap's specification gives of a list of items.
use Rattle.std.proofs.Common.{◌≡◌, ◌∙◌, ℕ, ◌+◌, ◌&&◌, Bool, true, false, cond, List, [], ◌∷◌, ◌++◌, None, is_some, not, refl, ap, count_by}
use Rattle.std.specs.List.{fold, list_all, list_any}
use Rattle.clap.specs.Kinds.{Kinds, or_else}
use Rattle.clap.specs.Faults.{check_fault, defaults_fault, fault_of, is_free_app, is_simple_and_free, built_fault, settle_fault, walk_fault}
use Rattle.clap.specs.Takes.{is_given}
use Rattle.clap.specs.Walk.{Row, Rule, Text, is_early_multiple, nothing_held, rows_after, walk, walk_from, finished, settled, with_default}
use Rattle.clap.specs.Simple.{App, is_buildable, is_simple, is_ready, is_ready_leaf, is_in_order, matches_of, names_of}
use Rattle.clap.proofs.FaultLemmas.{leaf_fault}
use Rattle.dbl_cli.specs.Items.{Named}
use Rattle.dbl_cli.proofs.ClapRules.{rule_by, rules_by, places_by, given_rule, given_rules, given_places, all_rules, app, built_shape, app_built}
use Rattle.dbl_cli.proofs.ClapSteps.{at, or_else-nil}
use Rattle.dbl_cli.proofs.ClapRuns.{Runs}

-- ---- the command is simple

abbrev front_passes : (Rule → Bool) → Type 0
front_passes test = (b : Bool) (own : Text) → test (given_rule b own) ≡ true

all_given : (test : Rule → Bool) → ((b : Bool) (own : Text) → test (given_rule b own) ≡ true) → (names : List Named) (rest : List Rule) → list_all test rest ≡ true → list_all test (given_rules names ++ rest) ≡ true
all_given test is [] rest h = h
all_given test is (n ∷ names) rest h = rw (is n.has_value n.name) (all_given test is names rest h)

all_by : (test : Rule → Bool) → ((b : Bool) (own : Text) → test (rule_by b own) ≡ true) → (names : List Named) (rest : List Rule) → list_all test rest ≡ true → list_all test (rules_by names ++ rest) ≡ true
all_by test is [] rest h = h
all_by test is (n ∷ names) rest h = rw (is n.has_value n.name) (all_by test is names rest h)

none_by : (test : Rule → Bool) → ((b : Bool) (own : Text) → test (rule_by b own) ≡ false) → (names : List Named) (rest : List Rule) → list_any test rest ≡ false → list_any test (rules_by names ++ rest) ≡ false
none_by test is [] rest h = h
none_by test is (n ∷ names) rest h = rw (is n.has_value n.name) (none_by test is names rest h)

given_simple : (b : Bool) (own : Text) → (given_rule b own).is_simple ≡ true
given_simple true own = refl
given_simple false own = refl

by_simple : (b : Bool) (own : Text) → (rule_by b own).is_simple ≡ true
by_simple true own = refl
by_simple false own = refl

by_free : (b : Bool) (own : Text) → (rule_by b own).is_free ≡ true
by_free true own = refl
by_free false own = refl

no_index : (b : Bool) (own : Text) → is_some (rule_by b own).index ≡ false
no_index true own = refl
no_index false own = refl

never_early : (n : ℕ) (b : Bool) (own : Text) → is_early_multiple n (rule_by b own) ≡ false
never_early n true own = refl
never_early n false own = refl

counted : (names : List Named) (rest : List Rule) → count_by (λ (a : Rule). is_some a.index) (rules_by names ++ rest) ≡ count_by (λ (a : Rule). is_some a.index) rest
counted [] rest = refl
counted (n ∷ names) rest =
    (λ i. fold (λ k (a : Rule). k + cond (is_some a.index) 1 0) (0 + cond (no_index n.has_value n.name i) 1 0) (rules_by names ++ rest)) ∙ counted names rest

places_simple : (b : Bool) → list_all (λ (a : Rule). a.is_simple) (given_places b) ≡ true
places_simple true = refl
places_simple false = refl

filled_simple : (b : Bool) → list_all (λ (a : Rule). a.is_simple) (places_by b) ≡ true
filled_simple true = refl
filled_simple false = refl

filled_free : (b : Bool) → list_all (λ (a : Rule). a.is_free) (places_by b) ≡ true
filled_free true = refl
filled_free false = refl

in_order : (names : List Named) (b : Bool) → is_in_order (all_rules names b) ≡ true
in_order names b =
    ap (λ n. not (list_any (is_early_multiple n) (all_rules names b))) (counted names (places_by b))
    ∙ ap not (none_by (is_early_multiple (count_by (λ (a : Rule). is_some a.index) (places_by b))) (λ k own. never_early _ k own) names (places_by b) (last b))
  where
    last : (t : Bool) → list_any (is_early_multiple (count_by (λ (a : Rule). is_some a.index) (places_by t))) (places_by t) ≡ false
    last true = refl
    last false = refl

pub app_simple : (names : List Named) (b : Bool) → is_simple (app names b) ≡ true
app_simple names b =
    let before : list_all (λ (a : Rule). a.is_simple) (given_rules names ++ given_places b) ≡ true = all_given (λ (a : Rule). a.is_simple) given_simple names (given_places b) (places_simple b) in
    let after : list_all (λ (a : Rule). a.is_simple) (all_rules names b) ≡ true = all_by (λ (a : Rule). a.is_simple) by_simple names (places_by b) (filled_simple b) in
    let start : is_buildable (app names b) ≡ true = rw before refl in
    let ready : is_ready (built_shape (all_rules names b)) ≡ true = rw (after, in_order names b) refl in
    ap (λ (z : App). is_buildable (app names b) && (is_ready z.top && list_all is_ready_leaf z.subs)) (app_built names b) ∙ rw (start, ready) refl

pub app_free : (names : List Named) (b : Bool) → is_simple_and_free (app names b) ≡ true
app_free names b =
    let free : list_all (λ (a : Rule). a.is_free) (all_rules names b) ≡ true = all_by (λ (a : Rule). a.is_free) by_free names (places_by b) (filled_free b) in
    ap (λ (z : App). is_simple (app names b) && is_free_app z) (app_built names b) ∙ rw (app_simple names b, free) refl

-- ---- nothing fails after the words

same : (b : Bool) → cond {A = Kinds} b [] [] ≡ []
same true = refl
same false = refl

defaults_pass : (names : List Named) (b : Bool) (rows : List Row) → defaults_fault rows (all_rules names b) ≡ []
unfolding defaults_fault
defaults_pass [] true rows = rw same refl
defaults_pass [] false rows = refl
defaults_pass (n ∷ names) b rows = go n.has_value (λ rs. defaults_pass names b rs)
  where
    go : (t : Bool) → ((rs : List Row) → defaults_fault rs (all_rules names b) ≡ []) → defaults_fault rows (rule_by t n.name ∷ all_rules names b) ≡ []
    go true next = rw same (next _)
    go false next = rw same (next _)

none_required : (b : Bool) (own : Text) (rows : List Row) → ((rule_by b own).required && not (is_given (rule_by b own).id rows)) ≡ false
none_required true own rows = refl
none_required false own rows = refl

checks_pass : (names : List Named) (b : Bool) (rows : List Row) → check_fault (built_shape (all_rules names b)) rows false ≡ []
checks_pass names b rows =
    let none : list_any (λ (a : Rule). a.required && not (is_given a.id rows)) (all_rules names b) ≡ false =
    none_by (λ (a : Rule). a.required && not (is_given a.id rows)) (λ k own. none_required k own rows) names (places_by b) (last b) in
    rw none refl
  where
    last : (t : Bool) → list_any (λ (a : Rule). a.required && not (is_given a.id rows)) (places_by t) ≡ false
    last true = refl
    last false = refl

-- ---- the fault and the rows of the words

nothing_more : (w s d k : Kinds) → d ≡ [] → k ≡ [] → or_else w (or_else [] (or_else s (or_else d k))) ≡ or_else w s
nothing_more w s d k no_default no_check = (λ i. or_else w (or_else s (or_else (no_default i) (no_check i)))) ∙ ap (or_else w) (or_else-nil s)

pub fault_from_run : (names : List Named) (b : Bool) (words : List Text) (fault : Kinds) (rows : List Row) → Runs (all_rules names b) (at false [] None) words fault rows → fault_of (app names b) words ≡ fault
fault_from_run names b words fault rows run =
    let rules = all_rules names b in
    let end = (walk rules [] nothing_held words).held in
    ap (λ (z : App). built_fault z nothing_held words) (app_built names b)
    ∙ leaf_fault (record { top = built_shape rules; subs = [] }) nothing_held words refl
    ∙ nothing_more (walk_fault (built_shape rules) [] (walk_from nothing_held) words) (settle_fault rules false end) (defaults_fault (settled rules end).rows rules) (check_fault (built_shape rules) (finished rules end) false)
    (defaults_pass names b (settled rules end).rows) (checks_pass names b (finished rules end))
    ∙ run.faults

pub rows_from_run : (names : List Named) (b : Bool) (words : List Text) (fault : Kinds) (rows : List Row) → Runs (all_rules names b) (at false [] None) words fault rows
    → matches_of (app names b) words ≡ fold with_default rows (all_rules names b)
rows_from_run names b words fault rows run =
    ap (λ (z : App). rows_after z.top.rules (names_of z) words) (app_built names b) ∙ ap (λ rs. fold with_default rs (all_rules names b)) run.ends
