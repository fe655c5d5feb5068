-- The first in byte order: of two names, of a list, and of those that pass a test. There is one at most.
use Rattle.std.proofs.Common.{◌≡◌, ◌∙◌, ◌⊎◌, inl, inr, ℕ, Bool, true, false, Option, Some, None, List, [], ◌∷◌, cond, refl, sym, ap, subst}
use Rattle.std.specs.Prelude.{◌&&◌, ◌||◌, not, if◌then◌else◌, filter, find, bytes_eq}
use Rattle.std.specs.List.{AllByRecursion, list_any}
use Rattle.std.specs.List.Sorted.{IsStrictlySortedBy}
use Rattle.std.specs.declared.cmp.Ordering.{Ordering}
use Rattle.std.specs.declared.cmp.Ordering.TheVariants.{Less, Equal, Greater}
use Rattle.std.specs.Ordering.{is_eq, is_lt, is_gt, ordering_reverse}
use Rattle.std.specs.Cmp.{tied_itself, upto}
use Rattle.std.specs.BTreeMap.{is_at}
use Rattle.std.specs.BTreeSet.{BTreeSet, contains}
use Rattle.std.proofs.lemmas.Cmp.{nat_list_cmp_total}
use Rattle.std.proofs.lemmas.Map.Lookups.{exact_bytes}
use Rattle.dbl_base.specs.Texts.{text_cmp}
use Rattle.dbl_model_table.proofs.Lists.{same_text, text_itself}
use Rattle.dbl_tables_rows.specs.Locks.{lesser, least}
use Rattle.dbl_tables_rows.specs.declared.rows.Cleared.{Cleared}
use Rattle.dbl_tables_rows.specs.Holders.{other_than, lesser_if, IsFirstPassing, IsFirstHolder}
use Rattle.dbl_tables_rows.specs.Views.{is_owner}

-- ---- two names

never_before_itself : (a : List ℕ) → is_lt (text_cmp a a) ≡ false
never_before_itself a = ap is_lt (tied_itself nat_list_cmp_total a)

turned : (a b : List ℕ) → is_gt (text_cmp a b) ≡ is_lt (text_cmp b a)
turned a b = ap is_gt (nat_list_cmp_total.antisymm a b) ∙ by (text_cmp b a)
  where
    by : (o : Ordering) → is_gt (ordering_reverse o) ≡ is_lt o
    by Less = refl
    by Equal = refl
    by Greater = refl

-- where neither is before the other they are the same
same_place : (a b : List ℕ) → is_lt (text_cmp a b) ≡ false → is_lt (text_cmp b a) ≡ false → a ≡ b
same_place a b late early = by (text_cmp a b) refl
  where
    by : (o : Ordering) → text_cmp a b ≡ o → a ≡ b
    by Less is = let contra : true ≡ false = sym (ap is_lt is) ∙ late in cc
    by Equal is = exact_bytes a b is
    by Greater is =
        let back : text_cmp b a ≡ Less = nat_list_cmp_total.antisymm b a ∙ ap ordering_reverse is in
        let contra : true ≡ false = sym (ap is_lt back) ∙ early in
        cc

-- what isn't before the second isn't before the first, where the second isn't either
further : (a b c : List ℕ) → is_lt (text_cmp b a) ≡ false → is_lt (text_cmp c b) ≡ false → is_lt (text_cmp c a) ≡ false
further a b c ab bc = sym (turned a c) ∙ upto nat_list_cmp_total a b c (turned a b ∙ ab) (turned b c ∙ bc)

-- the lesser of two is one of them, and neither is before it
lesser_is : (a b : List ℕ) → (lesser a (Some b) ≡ a) ⊎ (lesser a (Some b) ≡ b)
lesser_is a b = by (is_lt (text_cmp b a))
  where
    by : (t : Bool) → ((if t then b else a) ≡ a) ⊎ ((if t then b else a) ≡ b)
    by true = inr refl
    by false = inl refl

first_not_before : (a b : List ℕ) → is_lt (text_cmp a (lesser a (Some b))) ≡ false
first_not_before a b = by (is_lt (text_cmp b a)) refl
  where
    less : (o : Ordering) → is_lt o ≡ true → is_lt (ordering_reverse o) ≡ false
    less Less is = refl
    less Equal is = refl
    less Greater is = cc

    by : (t : Bool) → is_lt (text_cmp b a) ≡ t → is_lt (text_cmp a (if t then b else a)) ≡ false
    by true early = ap is_lt (nat_list_cmp_total.antisymm a b) ∙ less (text_cmp b a) early
    by false late = never_before_itself a

second_not_before : (a b : List ℕ) → is_lt (text_cmp b (lesser a (Some b))) ≡ false
second_not_before a b = by (is_lt (text_cmp b a)) refl
  where
    by : (t : Bool) → is_lt (text_cmp b a) ≡ t → is_lt (text_cmp b (if t then b else a)) ≡ false
    by true early = never_before_itself b
    by false late = late

-- ---- the first of those that pass

-- there is one at most
pub first_one : (p : List ℕ → Bool) (a b : Option (List ℕ)) → IsFirstPassing p a → IsFirstPassing p b → a ≡ b
first_one p None None none_a none_b = refl
first_one p None (Some b) none is = let contra : true ≡ false = sym is.0 ∙ none b in cc
first_one p (Some a) None is none = let contra : true ≡ false = sym is.0 ∙ none a in cc
first_one p (Some a) (Some b) is_a is_b = ap Some (same_place a b (is_b.1 a is_a.0) (is_a.1 b is_b.0))

-- of tests that agree
pub first_same : (p q : List ℕ → Bool) (a : Option (List ℕ)) → ((name : List ℕ) → p name ≡ q name) → IsFirstPassing p a → IsFirstPassing q a
first_same p q None same none = λ name. sym (same name) ∙ none name
first_same p q (Some a) same is = (sym (same a) ∙ is.0, λ name passes. is.1 name (same name ∙ passes))

-- of one test or another
module _ (p q : List ℕ → Bool) where
  or_none_of : (x y : Bool) → x ≡ false → y ≡ false → (x || y) ≡ false
  or_none_of x y no_x no_y = ap (λ (b : Bool). b || y) no_x ∙ no_y

  one_of : (x y : Bool) → (x || y) ≡ true → (x ≡ true) ⊎ (y ≡ true)
  one_of true y is = inl refl
  one_of false y is = inr is

  or_left : (x y : Bool) → x ≡ true → (x || y) ≡ true
  or_left x y is = ap (λ (b : Bool). b || y) is

  or_right : (x y : Bool) → y ≡ true → (x || y) ≡ true
  or_right true y is = refl
  or_right false y is = is

  pub first_of_both : (a b : Option (List ℕ)) → IsFirstPassing p a → IsFirstPassing q b → IsFirstPassing (λ name. p name || q name) (lesser_if a b)
  first_of_both None None none_p none_q = λ name. or_none_of (p name) (q name) (none_p name) (none_q name)
  first_of_both None (Some b) none is = (or_right (p b) (q b) is.0, λ name passes. by name (one_of (p name) (q name) passes))
    where
      by : (name : List ℕ) → (p name ≡ true) ⊎ (q name ≡ true) → is_lt (text_cmp name b) ≡ false
      by name (inl passes) = let contra : true ≡ false = sym passes ∙ none name in cc
      by name (inr passes) = is.1 name passes
  first_of_both (Some a) None is none = (or_left (p a) (q a) is.0, λ name passes. by name (one_of (p name) (q name) passes))
    where
      by : (name : List ℕ) → (p name ≡ true) ⊎ (q name ≡ true) → is_lt (text_cmp name a) ≡ false
      by name (inl passes) = is.1 name passes
      by name (inr passes) = let contra : true ≡ false = sym passes ∙ none name in cc
  first_of_both (Some a) (Some b) is_a is_b = (passes_it (lesser_is a b), λ name passes. by name (one_of (p name) (q name) passes))
    where
      passes_it : (lesser a (Some b) ≡ a) ⊎ (lesser a (Some b) ≡ b) → (p (lesser a (Some b)) || q (lesser a (Some b))) ≡ true
      passes_it (inl e) = or_left (p (lesser a (Some b))) (q (lesser a (Some b))) (ap p e ∙ is_a.0)
      passes_it (inr e) = or_right (p (lesser a (Some b))) (q (lesser a (Some b))) (ap q e ∙ is_b.0)

      by : (name : List ℕ) → (p name ≡ true) ⊎ (q name ≡ true) → is_lt (text_cmp name (lesser a (Some b))) ≡ false
      by name (inl passes) = further (lesser a (Some b)) a name (first_not_before a b) (is_a.1 name passes)
      by name (inr passes) = further (lesser a (Some b)) b name (second_not_before a b) (is_b.1 name passes)

-- ---- the first of a list

itself_first : (n : List ℕ) → IsFirstPassing (bytes_eq n) (Some n)
itself_first n = (text_itself n, λ name same. ap (λ (x : List ℕ). is_lt (text_cmp x n)) (sym (same_text n name same)) ∙ never_before_itself n)

least_first : (names : List (List ℕ)) → IsFirstPassing (λ name. list_any (λ (o : List ℕ). bytes_eq o name) names) (least names)
least_first [] = λ name. refl
least_first (n ∷ names) = first_of_both (bytes_eq n) (λ name. list_any (λ (o : List ℕ). bytes_eq o name) names) (Some n) (least names) (itself_first n) (least_first names)

among_passing : (p : List ℕ → Bool) (names : List (List ℕ)) (name : List ℕ) → list_any (λ (o : List ℕ). bytes_eq o name) (filter p names) ≡ (p name && list_any (λ (o : List ℕ). bytes_eq o name) names)
among_passing p [] name = by (p name)
  where
    by : (b : Bool) → false ≡ (b && false)
    by true = refl
    by false = refl
among_passing p (n ∷ names) name = by (p n) (bytes_eq n name) (p name) refl refl refl (among_passing p names name)
  where
    rest : List ℕ → Bool
    rest o = bytes_eq o name

    by : (pn same px : Bool) → p n ≡ pn → bytes_eq n name ≡ same → p name ≡ px → list_any rest (filter p names) ≡ (p name && list_any rest names) → list_any rest (cond (p n) (n ∷ filter p names) (filter p names)) ≡ (p name && (bytes_eq n name || list_any rest names))
    by true true true pn_is same_is px_is ih = rw (pn_is, px_is, same_is) refl
    by true true false pn_is same_is px_is ih = let contra : true ≡ false = sym pn_is ∙ (ap p (same_text n name same_is) ∙ px_is) in cc
    by true false px pn_is same_is px_is ih = rw (pn_is, same_is) ih
    by false true true pn_is same_is px_is ih = let contra : true ≡ false = sym px_is ∙ (ap p (sym (same_text n name same_is)) ∙ pn_is) in cc
    by false true false pn_is same_is px_is ih = rw (pn_is, px_is) (ih ∙ rw px_is refl)
    by false false px pn_is same_is px_is ih = rw (pn_is, same_is) ih

-- of those of a list that pass, where all that pass are of it
pub least_passing : (p : List ℕ → Bool) (names : List (List ℕ)) → ((name : List ℕ) → p name ≡ true → list_any (λ (o : List ℕ). bytes_eq o name) names ≡ true) → IsFirstPassing p (least (filter p names))
least_passing p names all =
    first_same (λ name. list_any (λ (o : List ℕ). bytes_eq o name) (filter p names)) p (least (filter p names))
    (λ name. among_passing p names name ∙ by name (p name) refl) (least_first (filter p names))
  where
    by : (name : List ℕ) (b : Bool) → p name ≡ b → (b && list_any (λ (o : List ℕ). bytes_eq o name) names) ≡ b
    by name true passes = all name passes
    by name false fails = refl

-- ---- an owner that is another

pub owner_first : (session : List ℕ) (o : Option (List ℕ)) → IsFirstPassing (λ name. not (bytes_eq name session) && is_owner name o) (other_than session o)
owner_first session None = λ name. by (bytes_eq name session)
  where
    by : (b : Bool) → (not b && false) ≡ false
    by true = refl
    by false = refl
owner_first session (Some owner) = by (bytes_eq owner session) refl
  where
    not_both : (name : List ℕ) → bytes_eq owner session ≡ true → (s t : Bool) → bytes_eq name session ≡ s → bytes_eq owner name ≡ t → (not s && t) ≡ false
    not_both name own true t is same = refl
    not_both name own false false is same = refl
    not_both name own false true is same =
        let contra : true ≡ false = sym own ∙ (ap (λ (x : List ℕ). bytes_eq x session) (same_text owner name same) ∙ is) in
        cc

    owns : (s t : Bool) → (not s && t) ≡ true → t ≡ true
    owns true t is = cc
    owns false t is = is

    by : (b : Bool) → bytes_eq owner session ≡ b → IsFirstPassing (λ name. not (bytes_eq name session) && bytes_eq owner name) (if b then None else Some owner)
    by true own = λ name. not_both name own (bytes_eq name session) (bytes_eq owner name) refl refl
    by false other = (
      ap (λ (b : Bool). not b && bytes_eq owner owner) other ∙ text_itself owner,
      λ name passes. ap (λ (x : List ℕ). is_lt (text_cmp x owner)) (sym (same_text owner name (owns (bytes_eq name session) (bytes_eq owner name) passes))) ∙ never_before_itself owner,
    )

-- ---- the first of a list in order

-- a name in the rest of the list is after its head
after_head : (k name : List ℕ) (keys : List (List ℕ)) → AllByRecursion (λ y. text_cmp k y ≡ Less) keys → list_any (is_at (text_cmp name)) keys ≡ true → text_cmp k name ≡ Less
after_head k name [] below there = cc
after_head k name (y ∷ keys) below there = by (text_cmp name y) refl there (λ more. after_head k name keys below.1 more)
  where
    by : (o : Ordering) → text_cmp name y ≡ o → (is_eq o || list_any (is_at (text_cmp name)) keys) ≡ true → (list_any (is_at (text_cmp name)) keys ≡ true → text_cmp k name ≡ Less) → text_cmp k name ≡ Less
    by Equal is told later = ap (text_cmp k) (exact_bytes name y is) ∙ below.0
    by Less is told later = later told
    by Greater is told later = later told

pub first_sorted : (p : List ℕ → Bool) (keys : List (List ℕ)) → IsStrictlySortedBy text_cmp keys → IsFirstPassing (λ name. p name && list_any (is_at (text_cmp name)) keys) (find p keys)
unfolding IsStrictlySortedBy
first_sorted p [] sorted = λ name. by (p name)
  where
    by : (b : Bool) → (b && false) ≡ false
    by true = refl
    by false = refl
first_sorted p (k ∷ keys) sorted = by (p k) refl (first_sorted p keys sorted.1)
  where
    is_first : (name : List ℕ) → p k ≡ true → (p name && (is_eq (text_cmp name k) || list_any (is_at (text_cmp name)) keys)) ≡ true → is_lt (text_cmp name k) ≡ false
    is_first name passes told = at (text_cmp name k) refl (right (p name) (is_eq (text_cmp name k) || list_any (is_at (text_cmp name)) keys) told)
      where
        right : (a b : Bool) → (a && b) ≡ true → b ≡ true
        right true b is = is
        right false b is = cc

        at : (o : Ordering) → text_cmp name k ≡ o → (is_eq o || list_any (is_at (text_cmp name)) keys) ≡ true → is_lt (text_cmp name k) ≡ false
        at Equal is there = ap is_lt is
        at Less is there =
            let back : text_cmp k name ≡ Less = after_head k name keys sorted.0 there in
            let contra : Greater ≡ Less = sym (nat_list_cmp_total.antisymm k name ∙ ap ordering_reverse is) ∙ back in
            cc
        at Greater is there = ap is_lt is

    agrees : p k ≡ false → (name : List ℕ) → (p name && list_any (is_at (text_cmp name)) keys) ≡ (p name && (is_eq (text_cmp name k) || list_any (is_at (text_cmp name)) keys))
    agrees fails name = at (text_cmp name k) refl
      where
        at : (o : Ordering) → text_cmp name k ≡ o → (p name && list_any (is_at (text_cmp name)) keys) ≡ (p name && (is_eq (text_cmp name k) || list_any (is_at (text_cmp name)) keys))
        at Equal is =
            let none : p name ≡ false = ap p (exact_bytes name k is) ∙ fails in
            rw none refl
        at Less is = ap (λ (b : Bool). p name && (b || list_any (is_at (text_cmp name)) keys)) (sym (ap is_eq is))
        at Greater is = ap (λ (b : Bool). p name && (b || list_any (is_at (text_cmp name)) keys)) (sym (ap is_eq is))

    by : (b : Bool) → p k ≡ b → IsFirstPassing (λ name. p name && list_any (is_at (text_cmp name)) keys) (find p keys) → IsFirstPassing (λ name. p name && (is_eq (text_cmp name k) || list_any (is_at (text_cmp name)) keys)) (cond b (Some k) (find p keys))
    by true passes rest = (
      ap (λ (b : Bool). b && (is_eq (text_cmp k k) || list_any (is_at (text_cmp k)) keys)) passes ∙ ap (λ (b : Bool). b || list_any (is_at (text_cmp k)) keys) (ap is_eq (tied_itself nat_list_cmp_total k)),
      λ name told. is_first name passes told,
    )
    by false fails rest = first_same (λ name. p name && list_any (is_at (text_cmp name)) keys) (λ name. p name && (is_eq (text_cmp name k) || list_any (is_at (text_cmp name)) keys)) (find p keys) (agrees fails) rest

-- who is in the way of a truncate where nobody truncates
pub holder_first : (session : List ℕ) (cleared : Option Cleared) (holders : BTreeSet (List ℕ)) (first : Option (List ℕ)) → cleared ≡ None → IsStrictlySortedBy text_cmp holders.keys → first ≡ find (λ other. not (bytes_eq other session)) holders.keys → IsFirstHolder session cleared holders first
holder_first session cleared holders first none sorted is =
    subst (λ (o : Option Cleared). IsFirstHolder session o holders first) (sym none)
    (subst (IsFirstPassing (λ name. not (bytes_eq name session) && contains text_cmp holders name)) (sym is) (first_sorted (λ (o : List ℕ). not (bytes_eq o session)) holders.keys sorted))
