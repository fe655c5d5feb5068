-- The keys of a session are settled, or released, one after the other: a key that is listed twice counts once.
use Rattle.std.proofs.Common.{◌≡◌, ◌∙◌, ℕ, Bool, true, false, Option, Some, None, List, [], ◌∷◌, ◌++◌, refl, sym, ap, subst}
use Rattle.std.specs.Prelude.{◌&&◌, ◌||◌, nat_eq, if◌then◌else◌, slice_get, bytes_eq}
use Rattle.std.specs.BTreeSet.{BTreeSet, contains}
use Rattle.dbl_base.specs.Texts.{text_cmp}
use Rattle.dbl_model_table.specs.declared.row.Key.{Key}
use Rattle.dbl_model_table.specs.Keys.{same_key}
use Rattle.dbl_model_table.proofs.Lists.{any-append}
use Rattle.dbl_source_log.specs.Texts.{Texts}
use Rattle.dbl_tables_rows.specs.declared.slots.Held.{Held}
use Rattle.dbl_tables_rows.specs.declared.rows.Rows.{Rows}
use Rattle.dbl_tables_rows.specs.declared.held.HeldKey.{HeldKey}
use Rattle.dbl_tables_rows.specs.Views.{Slots, texts_of, committed_in, held_in}
use Rattle.dbl_tables_rows.specs.Changing.{settled_row, given_up, IsTableLeft, IsEnded, IsUndone}
use Rattle.dbl_tables_rows.specs.Ends.{SettlesAll, ReleasesAll, IsCommitted, IsRolledBack, ChangesOnlySlots, IsChangedTo, EachChanges, SettlesOne, ReleasesOne, SettlesListed, ReleasesListed}
use Rattle.dbl_tables_rows.specs.Listed.{is_listed}

-- ---- one key

-- a lock that was given up isn't there to be given up again
given_twice : (s : List ℕ) (h : Option Held) → given_up s (given_up s h) ≡ given_up s h
given_twice s None = refl
given_twice s (Some h) = by (bytes_eq h.by s) refl
  where
    by : (b : Bool) → bytes_eq h.by s ≡ b → given_up s (if b then None else Some h) ≡ (if b then None else Some h)
    by true is = refl
    by false is = ap (λ (b : Bool). if b then None else Some h) is

-- nor to become a row
settled_twice : (s : List ℕ) (h : Option Held) (c : Option Texts) → settled_row s (given_up s h) (settled_row s h c) ≡ settled_row s h c
settled_twice s None c = refl
settled_twice s (Some h) c = by (bytes_eq h.by s) refl
  where
    by : (b : Bool) → bytes_eq h.by s ≡ b → settled_row s (if b then None else Some h) (if b then texts_of h.row else c) ≡ (if b then texts_of h.row else c)
    by true is = refl
    by false is = ap (λ (b : Bool). if b then texts_of h.row else c) is

held_both : (s : List ℕ) (a b : Bool) (h : Option Held) → (if b then given_up s (if a then given_up s h else h) else (if a then given_up s h else h)) ≡ (if a || b then given_up s h else h)
held_both s true true h = given_twice s h
held_both s true false h = refl
held_both s false true h = refl
held_both s false false h = refl

row_both : (s : List ℕ) (a b : Bool) (h : Option Held) (c : Option Texts) → (if b then settled_row s (if a then given_up s h else h) (if a then settled_row s h c else c) else (if a then settled_row s h c else c)) ≡ (if a || b then settled_row s h c else c)
row_both s true true h c = settled_twice s h c
row_both s true false h c = refl
row_both s false true h c = refl
row_both s false false h c = refl

-- ---- one more key of a list

abbrev is_at_key : ℕ → Key → HeldKey → Bool
is_at_key place key held = nat_eq held.table place && same_key held.key key

listed_more : (place : ℕ) (key : Key) (keys : List HeldKey) (k : HeldKey) → (is_listed place key keys || is_listed place key (k ∷ [])) ≡ is_listed place key (keys ++ k ∷ [])
listed_more place key keys k = sym (any-append (is_at_key place key) keys (k ∷ []))

module _ (s : List ℕ) (place : ℕ) (keys : List HeldKey) (k : HeldKey) (old between new : Slots) where
  pub settles_more : SettlesAll place keys s old between → SettlesAll place (k ∷ []) s between new → SettlesAll place (keys ++ k ∷ []) s old new
  settles_more first then_one = record {
    committed = λ key.
        then_one.committed key
        ∙ ap (λ (h : Option Held). if is_listed place key (k ∷ []) then settled_row s h (committed_in between key) else committed_in between key) (first.held key)
        ∙ ap (λ (c : Option Texts). if is_listed place key (k ∷ []) then settled_row s (if is_listed place key keys then given_up s (held_in old key) else held_in old key) c else c) (first.committed key)
        ∙ row_both s (is_listed place key keys) (is_listed place key (k ∷ [])) (held_in old key) (committed_in old key)
        ∙ ap (λ (b : Bool). if b then settled_row s (held_in old key) (committed_in old key) else committed_in old key) (listed_more place key keys k);
    held = λ key.
        then_one.held key
        ∙ ap (λ (h : Option Held). if is_listed place key (k ∷ []) then given_up s h else h) (first.held key)
        ∙ held_both s (is_listed place key keys) (is_listed place key (k ∷ [])) (held_in old key)
        ∙ ap (λ (b : Bool). if b then given_up s (held_in old key) else held_in old key) (listed_more place key keys k);
  }

  pub releases_more : ReleasesAll place keys s old between → ReleasesAll place (k ∷ []) s between new → ReleasesAll place (keys ++ k ∷ []) s old new
  releases_more first then_one = record {
    committed = λ key. then_one.committed key ∙ first.committed key;
    held = λ key.
        then_one.held key
        ∙ ap (λ (h : Option Held). if is_listed place key (k ∷ []) then given_up s h else h) (first.held key)
        ∙ held_both s (is_listed place key keys) (is_listed place key (k ∷ [])) (held_in old key)
        ∙ ap (λ (b : Bool). if b then given_up s (held_in old key) else held_in old key) (listed_more place key keys k);
  }

-- no key at all
pub settles_none : (s : List ℕ) (place : ℕ) (slots : Slots) → SettlesAll place [] s slots slots
settles_none s place slots = record { committed = λ key. refl; held = λ key. refl }

pub releases_none : (s : List ℕ) (place : ℕ) (slots : Slots) → ReleasesAll place [] s slots slots
releases_none s place slots = record { committed = λ key. refl; held = λ key. refl }

-- ---- only the slots of a table

pub only_none : (Change : Slots → Slots → Type 0) (rows : Rows) → Change rows.slots rows.slots → ChangesOnlySlots Change rows rows
only_none Change rows none = record { table = refl; places = refl; cleared = refl; holders = refl; slots = none }

pub only_more : (A B C : Slots → Slots → Type 0) (old between new : Rows) → (A old.slots between.slots → B between.slots new.slots → C old.slots new.slots) → ChangesOnlySlots A old between → ChangesOnlySlots B between new → ChangesOnlySlots C old new
only_more A B C old between new joins first then_one = record {
  table = then_one.table ∙ first.table;
  places = then_one.places ∙ first.places;
  cleared = then_one.cleared ∙ first.cleared;
  holders = then_one.holders ∙ first.holders;
  slots = joins first.slots then_one.slots;
}

-- ---- all tables

pub each_none : (Change : ℕ → Rows → Rows → Type 0) (tables : List Rows) → ((place : ℕ) (rows : Rows) → Change place rows rows) → EachChanges Change tables tables
each_none Change tables none = record { each = λ place rows there. subst (IsChangedTo (Change place rows)) (sym there) (none place rows); back = λ place is. is }

pub each_more : (A B C : ℕ → Rows → Rows → Type 0) (old between new : List Rows) → ((place : ℕ) (o m n : Rows) → A place o m → B place m n → C place o n) → EachChanges A old between → EachChanges B between new → EachChanges C old new
each_more A B C old between new joins first then_one = record {
  each = λ place rows there. by place rows (slice_get between place) refl (first.each place rows there);
  back = λ place none. then_one.back place (first.back place none);
}
  where
    last : (place : ℕ) (rows middle : Rows) (o : Option Rows) → A place rows middle → IsChangedTo (B place middle) o → IsChangedTo (C place rows) o
    last place rows middle None a changed = changed
    last place rows middle (Some n) a changed = joins place rows middle n a changed

    by : (place : ℕ) (rows : Rows) (o : Option Rows) → slice_get between place ≡ o → IsChangedTo (A place rows) o → IsChangedTo (C place rows) (slice_get new place)
    by place rows None is changed = absurd changed
    by place rows (Some middle) is changed = last place rows middle (slice_get new place) changed (then_one.each place middle is)

-- ---- the keys of a session, in all tables

pub settles_listed : (s : List ℕ) (keys : List HeldKey) (k : HeldKey) (old between new : List Rows) → EachChanges (SettlesListed keys s) old between → EachChanges (SettlesOne k s) between new → EachChanges (SettlesListed (keys ++ k ∷ []) s) old new
settles_listed s keys k old between new first then_one =
    each_more (SettlesListed keys s) (SettlesOne k s) (SettlesListed (keys ++ k ∷ []) s) old between new
    (λ place o m n a b. only_more (SettlesAll place keys s) (SettlesAll place (k ∷ []) s) (SettlesAll place (keys ++ k ∷ []) s) o m n (settles_more s place keys k o.slots m.slots n.slots) a b) first then_one

pub releases_listed : (s : List ℕ) (keys : List HeldKey) (k : HeldKey) (old between new : List Rows) → EachChanges (ReleasesListed keys s) old between → EachChanges (ReleasesOne k s) between new → EachChanges (ReleasesListed (keys ++ k ∷ []) s) old new
releases_listed s keys k old between new first then_one =
    each_more (ReleasesListed keys s) (ReleasesOne k s) (ReleasesListed (keys ++ k ∷ []) s) old between new
    (λ place o m n a b. only_more (ReleasesAll place keys s) (ReleasesAll place (k ∷ []) s) (ReleasesAll place (keys ++ k ∷ []) s) o m n (releases_more s place keys k o.slots m.slots n.slots) a b) first then_one

pub settles_no_key : (s : List ℕ) (tables : List Rows) → EachChanges (SettlesListed [] s) tables tables
settles_no_key s tables = each_none (SettlesListed [] s) tables (λ place rows. only_none (SettlesAll place [] s) rows (settles_none s place rows.slots))

pub releases_no_key : (s : List ℕ) (tables : List Rows) → EachChanges (ReleasesListed [] s) tables tables
releases_no_key s tables = each_none (ReleasesListed [] s) tables (λ place rows. only_none (ReleasesAll place [] s) rows (releases_none s place rows.slots))

-- ---- a table that is given up, and then its keys

left_then : (s : List ℕ) (Change : Slots → Slots → Type 0) (o m n : Rows) → IsTableLeft s o m → ChangesOnlySlots Change m n → IsTableLeft s o n
left_then s Change o m n left only = record {
  table = only.table ∙ left.table;
  places = only.places ∙ left.places;
  cleared = only.cleared ∙ left.cleared;
  holders = λ name. ap (λ (h : BTreeSet (List ℕ)). contains text_cmp h name) only.holders ∙ left.holders name;
}

pub commits_all : (s : List ℕ) (keys : List HeldKey) (old between new : List Rows) → EachChanges (λ place o n. IsEnded s o n) old between → EachChanges (SettlesListed keys s) between new → EachChanges (λ place o n. IsCommitted place keys s o n) old new
commits_all s keys old between new ended settled =
    each_more (λ place o n. IsEnded s o n) (SettlesListed keys s) (λ place o n. IsCommitted place keys s o n) old between new
    (λ place o m n a b. record { left = left_then s (SettlesAll place keys s) o m n a.left b; slots = subst (λ (l : Slots). SettlesAll place keys s l n.slots) a.slots b.slots }) ended settled

pub rolls_all_back : (s : List ℕ) (keys : List HeldKey) (old between new : List Rows) → EachChanges (λ place o n. IsUndone s o n) old between → EachChanges (ReleasesListed keys s) between new → EachChanges (λ place o n. IsRolledBack place keys s o n) old new
rolls_all_back s keys old between new undone released =
    each_more (λ place o n. IsUndone s o n) (ReleasesListed keys s) (λ place o n. IsRolledBack place keys s o n) old between new
    (λ place o m n a b. record { left = left_then s (ReleasesAll place keys s) o m n a.left b; slots = subst (λ (l : Slots). ReleasesAll place keys s l n.slots) a.slots b.slots }) undone released
