-- A table after what one session does: who holds it, what it cleared, and one table of several.
use Rattle.std.proofs.Common.{◌≡◌, ◌∙◌, ◌+◌, ◌<◌, ◌≤◌, ℕ, zero, suc, Bool, true, false, Option, Some, None, List, [], ◌∷◌, ◌++◌, cond, length, take, drop, refl, sym, ap, subst, arith}
use Rattle.std.specs.Prelude.{◌&&◌, ◌||◌, not, nat_eq, nat_lt, if◌then◌else◌, option_map, slice_get, bytes_eq}
use Rattle.std.specs.Ordering.{is_eq}
use Rattle.std.specs.BTreeSet.{BTreeSet, contains}
use Rattle.std.proofs.Math.ListN.{set}
use Rattle.std.proofs.lemmas.Bool.Decides.{Decides-eqb, nat_tests}
use Rattle.std.proofs.lemmas.Option.{slice_get_within}
use Rattle.std.proofs.lemmas.Map.Text.{is_eq-slice_cmp}
use Rattle.dbl_base.specs.Texts.{text_cmp}
use Rattle.dbl_model_table.specs.declared.row.Key.{Key}
use Rattle.dbl_model_table.specs.Keys.{same_key}
use Rattle.dbl_model_table.proofs.KeyLemmas.{same_key-itself}
use Rattle.dbl_model_table.proofs.Lists.{any-append}
use Rattle.dbl_tables_rows.specs.declared.held.HeldKey.{HeldKey}
use Rattle.dbl_tables_rows.specs.declared.rows.Cleared.{Cleared}
use Rattle.dbl_tables_rows.specs.declared.rows.Rows.{Rows}
use Rattle.dbl_tables_rows.specs.Views.{Slots, committed_in, held_in, is_owner}
use Rattle.dbl_tables_rows.specs.Changing.{settled_row, given_up, cleared_left, restored, Settles, ReleasesKey}
use Rattle.dbl_tables_rows.specs.Ends.{SettlesAll, ReleasesAll, IsChangedTo, EachChanges, SettlesOne, ReleasesOne}
use Rattle.dbl_tables_rows.specs.Listed.{is_listed}
use Rattle.dbl_tables_rows.proofs.EndKeys.{each_none, each_more, only_none}

-- ---- who holds it, and what it cleared

-- a name is taken out of a set
pub left_set : (s : List ℕ) (old new : BTreeSet (List ℕ)) → ((q : List ℕ) → contains text_cmp new q ≡ cond (is_eq (text_cmp s q)) false (contains text_cmp old q)) → (name : List ℕ) → contains text_cmp new name ≡ (not (bytes_eq s name) && contains text_cmp old name)
left_set s old new updates name = updates name ∙ (ap (λ (b : Bool). cond b false (contains text_cmp old name)) (is_eq-slice_cmp s name) ∙ by (bytes_eq s name))
  where
    by : (b : Bool) → cond b false (contains text_cmp old name) ≡ (not b && contains text_cmp old name)
    by true = refl
    by false = refl

module _ (s : List ℕ) where
  -- another session's truncate stays
  pub others_stay : (o : Option Cleared) → is_owner s (option_map (λ (c : Cleared). c.by) o) ≡ false → o ≡ cleared_left s o
  others_stay None other = refl
  others_stay (Some c) other = sym (ap (λ (b : Bool). if b then None else Some c) other)

  pub others_slots : (o : Option Cleared) (slots : Slots) → is_owner s (option_map (λ (c : Cleared). c.by) o) ≡ false → slots ≡ restored s o slots
  others_slots None slots other = refl
  others_slots (Some c) slots other = sym (ap (λ (b : Bool). if b then c.slots else slots) other)

  -- its own is gone
  pub own_goes : (o : Option Cleared) → is_owner s (option_map (λ (c : Cleared). c.by) o) ≡ true → None ≡ cleared_left s o
  own_goes None own = refl
  own_goes (Some c) own = sym (ap (λ (b : Bool). if b then None else Some c) own)

  pub own_slots : (o : Option Cleared) (c : Cleared) (slots : Slots) → Some c ≡ o → is_owner s (option_map (λ (c : Cleared). c.by) o) ≡ true → c.slots ≡ restored s o slots
  own_slots o c slots is own = subst (λ (p : Option Cleared). is_owner s (option_map (λ (c : Cleared). c.by) p) ≡ true → c.slots ≡ restored s p slots) is (λ mine. sym (ap (λ (b : Bool). if b then c.slots else slots) mine)) own

-- ---- one table of several

pub set_same : (tables : List Rows) (i : ℕ) (new was : Rows) → slice_get tables i ≡ Some was → slice_get (set tables i new) i ≡ Some new
set_same [] i new was there = cc
set_same (r ∷ tables) zero new was there = refl
set_same (r ∷ tables) (suc i) new was there = set_same tables i new was there

pub set_other : (tables : List Rows) (i p : ℕ) (new : Rows) → (p ≡ i → ⊥) → slice_get (set tables i new) p ≡ slice_get tables p
set_other [] i p new other = refl
set_other (r ∷ tables) zero zero new other = absurd (other refl)
set_other (r ∷ tables) zero (suc p) new other = refl
set_other (r ∷ tables) (suc i) zero new other = refl
set_other (r ∷ tables) (suc i) (suc p) new other = set_other tables i p new (λ e. other (ap suc e))

pub not_place : (p i : ℕ) → nat_eq p i ≡ false → p ≡ i → ⊥
not_place p i other e = let contra : true ≡ false = sym ((Decides-eqb p i).1 e) ∙ other in cc

module _ (Change : ℕ → Rows → Rows → Type 0) (old : List Rows) (i : ℕ) (aside : (p : ℕ) (r : Rows) → (p ≡ i → ⊥) → Change p r r) where
  pub each_at : (was new : Rows) → slice_get old i ≡ Some was → Change i was new → EachChanges Change old (set old i new)
  each_at was new there changes = record { each = λ p r is. by p r is (nat_eq p i) refl; back = λ p none. none_at p none (nat_eq p i) refl }
    where
      by : (p : ℕ) (r : Rows) → slice_get old p ≡ Some r → (b : Bool) → nat_eq p i ≡ b → IsChangedTo (Change p r) (slice_get (set old i new) p)
      by p r is true same =
          let e : p ≡ i = (Decides-eqb p i).0 same in
          let both : Some r ≡ Some was = sym is ∙ (ap (slice_get old) e ∙ there) in
          let f : r ≡ was = cc in
          subst (λ (n : ℕ). IsChangedTo (Change n r) (slice_get (set old i new) n)) (sym e)
          (subst (IsChangedTo (Change i r)) (sym (set_same old i new was there)) (subst (λ (x : Rows). Change i x new) (sym f) changes))
      by p r is false other =
          subst (IsChangedTo (Change p r)) (sym (set_other old i p new (not_place p i other) ∙ is)) (aside p r (not_place p i other))

      none_at : (p : ℕ) → slice_get old p ≡ None → (b : Bool) → nat_eq p i ≡ b → slice_get (set old i new) p ≡ None
      none_at p none true same = let e : p ≡ i = (Decides-eqb p i).0 same in let contra : None ≡ Some was = sym none ∙ (ap (slice_get old) e ∙ there) in cc
      none_at p none false other = set_other old i p new (not_place p i other) ∙ none

  -- there is no such table
  pub each_past : slice_get old i ≡ None → EachChanges Change old old
  each_past none = record {
    each = λ p r is. subst (IsChangedTo (Change p r)) (sym is) (aside p r (λ e. (let contra : Some r ≡ None = sym is ∙ (ap (slice_get old) e ∙ none) in cc)));
    back = λ p is. is;
  }

-- ---- one key of one table

module _ (held : HeldKey) (s : List ℕ) where
  elsewhere : (p : ℕ) → (p ≡ held.table → ⊥) → (key : Key) → is_listed p key (held ∷ []) ≡ false
  elsewhere p other key = ap (λ (b : Bool). (b && same_key held.key key) || false) (by (nat_eq held.table p) refl)
    where
      by : (b : Bool) → nat_eq held.table p ≡ b → b ≡ false
      by true same = absurd (other (sym ((Decides-eqb held.table p).0 same)))
      by false apart = refl

  here : (key : Key) → is_listed held.table key (held ∷ []) ≡ same_key held.key key
  here key = ap (λ (b : Bool). (b && same_key held.key key) || false) ((Decides-eqb held.table held.table).1 refl) ∙ by (same_key held.key key)
    where
      by : (b : Bool) → ((true && b) || false) ≡ b
      by true = refl
      by false = refl

  pub settles_aside : (p : ℕ) (r : Rows) → (p ≡ held.table → ⊥) → SettlesOne held s p r r
  settles_aside p r other = only_none (SettlesAll p (held ∷ []) s) r (record {
    committed = λ key. sym (ap (λ (b : Bool). if b then settled_row s (held_in r.slots key) (committed_in r.slots key) else committed_in r.slots key) (elsewhere p other key));
    held = λ key. sym (ap (λ (b : Bool). if b then given_up s (held_in r.slots key) else held_in r.slots key) (elsewhere p other key));
  })

  pub releases_aside : (p : ℕ) (r : Rows) → (p ≡ held.table → ⊥) → ReleasesOne held s p r r
  releases_aside p r other = only_none (ReleasesAll p (held ∷ []) s) r (record {
    committed = λ key. refl;
    held = λ key. sym (ap (λ (b : Bool). if b then given_up s (held_in r.slots key) else held_in r.slots key) (elsewhere p other key));
  })

  pub settles_here : (old new : Slots) → Settles held.key s old new → SettlesAll held.table (held ∷ []) s old new
  settles_here old new settles = record {
    committed = λ key. settles.committed key ∙ sym (ap (λ (b : Bool). if b then settled_row s (held_in old key) (committed_in old key) else committed_in old key) (here key));
    held = λ key. settles.held key ∙ sym (ap (λ (b : Bool). if b then given_up s (held_in old key) else held_in old key) (here key));
  }

  pub releases_here : (old new : Slots) → ReleasesKey held.key s old new → ReleasesAll held.table (held ∷ []) s old new
  releases_here old new releases = record {
    committed = releases.committed;
    held = λ key. releases.held key ∙ sym (ap (λ (b : Bool). if b then given_up s (held_in old key) else held_in old key) (here key));
  }

-- a key that was listed last is listed
pub listed_last : (keys new : List HeldKey) (table : ℕ) (key copied : Key) → copied ≡ key → new ≡ keys ++ (record { table = table; key = copied }) ∷ [] → is_listed table key new ≡ true
listed_last keys new table key copied same is =
    ap (is_listed table key) is
    ∙ (any-append (λ held. nat_eq held.table table && same_key held.key key) keys ((record { table = table; key = copied }) ∷ [])
    ∙ (ap (λ (b : Bool). is_listed table key keys || b) last ∙ by (is_listed table key keys)))
  where
    last : is_listed table key ((record { table = table; key = copied }) ∷ []) ≡ true
    last =
        ap (λ (b : Bool). (b && same_key copied key) || false) ((Decides-eqb table table).1 refl)
        ∙ (ap (λ (k : Key). (true && same_key k key) || false) same ∙ ap (λ (b : Bool). (true && b) || false) (same_key-itself key))

    by : (b : Bool) → (b || true) ≡ true
    by true = refl
    by false = refl

-- ---- one table after the other

abbrev pub SoFar : Bool → (Rows → Rows → Type 0) → Rows → Rows → Type 0
SoFar true Change old new = Change old new
SoFar false Change old new = new ≡ old

module _ (Change : Rows → Rows → Type 0) where
  pub none_so_far : (tables : List Rows) → EachChanges (λ p old new. SoFar (nat_lt p 0) Change old new) tables tables
  none_so_far tables = each_none (λ p old new. SoFar (nat_lt p 0) Change old new) tables (λ p r. subst (λ (b : Bool). SoFar b Change r r) (sym (none p)) refl)
    where
      none : (p : ℕ) → nat_lt p 0 ≡ false
      none p = grind (arith, nat_tests)

  pub more_so_far : (i : ℕ) (first items : List Rows) (was new : Rows) → slice_get items i ≡ Some was → Change was new → EachChanges (λ p old new. SoFar (nat_lt p i) Change old new) first items
      → EachChanges (λ p old new. SoFar (nat_lt p (i + 1)) Change old new) first (set items i new)
  more_so_far i first items was new there changes before =
      each_more (λ p old new. SoFar (nat_lt p i) Change old new) (λ p old new. SoFar (nat_eq p i) Change old new) (λ p old new. SoFar (nat_lt p (i + 1)) Change old new) first items (set items i new)
      (λ p o m n a b. joined p o m n (nat_lt p i) (nat_eq p i) refl refl a b) before
      (each_at (λ p old new. SoFar (nat_eq p i) Change old new) items i aside was new there (subst (λ (b : Bool). SoFar b Change was new) (sym ((Decides-eqb i i).1 refl)) changes))
    where
      aside : (p : ℕ) (r : Rows) → (p ≡ i → ⊥) → SoFar (nat_eq p i) Change r r
      aside p r other = by (nat_eq p i) refl
        where
          by : (b : Bool) → nat_eq p i ≡ b → SoFar b Change r r
          by true same = absurd (other ((Decides-eqb p i).0 same))
          by false apart = refl

      below : (p : ℕ) → nat_lt p i ≡ true → nat_lt p (i + 1) ≡ true
      below p less = grind (arith, nat_tests)

      at : (p : ℕ) → nat_eq p i ≡ true → nat_lt p (i + 1) ≡ true
      at p same = grind (arith, nat_tests)

      never : (p : ℕ) → nat_lt p i ≡ true → nat_eq p i ≡ true → ⊥
      never p less same =
          let e : p ≡ i = (Decides-eqb p i).0 same in
          let l : p < i = grind (arith, nat_tests) in
          omega arith

      past : (p : ℕ) → nat_lt p i ≡ false → nat_eq p i ≡ false → nat_lt p (i + 1) ≡ false
      past p more apart = grind (arith, nat_tests)

      joined : (p : ℕ) (o m n : Rows) (a b : Bool) → nat_lt p i ≡ a → nat_eq p i ≡ b → SoFar a Change o m → SoFar b Change m n → SoFar (nat_lt p (i + 1)) Change o n
      joined p o m n true true less same done then_this = absurd (never p less same)
      joined p o m n true false less apart done stays = subst (λ (c : Bool). SoFar c Change o n) (sym (below p less)) (subst (Change o) (sym stays) done)
      joined p o m n false true more same stays done = subst (λ (c : Bool). SoFar c Change o n) (sym (at p same)) (subst (λ (x : Rows). Change x n) stays done)
      joined p o m n false false more apart stays too = subst (λ (c : Bool). SoFar c Change o n) (sym (past p more apart)) (too ∙ stays)

  pub all_so_far : (i : ℕ) (first items : List Rows) → length items ≤ i → EachChanges (λ p old new. SoFar (nat_lt p i) Change old new) first items → EachChanges (λ p old new. Change old new) first items
  all_so_far i first items all so_far = record { each = λ p r there. by p r (slice_get items p) refl (so_far.each p r there); back = so_far.back }
    where
      within : (p : ℕ) → p < length items → nat_lt p i ≡ true
      within p less = grind (arith, nat_tests)

      by : (p : ℕ) (r : Rows) (o : Option Rows) → slice_get items p ≡ o → IsChangedTo (SoFar (nat_lt p i) Change r) o → IsChangedTo (Change r) o
      by p r None is changed = changed
      by p r (Some n) is changed = subst (λ (b : Bool). SoFar b Change r n) (within p (slice_get_within items p n is)) changed

-- ---- what a loop over all tables leaves

gone : (xs ys : List Rows) → length xs ≡ length ys → drop (length xs) ys ≡ []
gone [] [] e = refl
gone [] (y ∷ ys) e = absurd (omega arith)
gone (x ∷ xs) [] e = refl
gone (x ∷ xs) (y ∷ ys) e = gone xs ys (omega arith)

front : (xs : List Rows) → take (length xs) (xs ++ []) ≡ xs
front [] = refl
front (x ∷ xs) = ap (λ (l : List Rows). x ∷ l) (front xs)

pub taken_whole : (n : ℕ) (xs ys : List Rows) → length xs ≡ length ys → n ≡ length xs → take n (xs ++ drop (length xs) ys) ≡ xs
taken_whole n xs ys e is = ap (λ (k : ℕ). take k (xs ++ drop (length xs) ys)) is ∙ (ap (λ (l : List Rows). take (length xs) (xs ++ l)) (gone xs ys e) ∙ front xs)
