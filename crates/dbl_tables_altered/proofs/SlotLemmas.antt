-- The slots of a table, one after the other, as an alteration makes them.
use Rattle.std.proofs.Common.{◌≡◌, ◌∙◌, ◌⊎◌, inl, inr, ℕ, Bool, true, false, cond, Option, Some, None, List, [], ◌∷◌, refl, sym, ap, subst}
use Rattle.std.specs.Prelude.{if◌then◌else◌, option_map, option_and_then, Result, Ok, Err}
use Rattle.std.specs.List.{AllByRecursion}
use Rattle.std.specs.List.Sorted.{IsStrictlySortedBy}
use Rattle.std.specs.declared.cmp.Ordering.{Ordering}
use Rattle.std.specs.declared.cmp.Ordering.TheVariants.{Less}
use Rattle.std.specs.Ordering.{is_eq}
use Rattle.std.specs.BTreeMap.{is_at, get, Updates}
use Rattle.std.specs.Map.{lookup, keys_of}
use Rattle.dbl_model_table.specs.declared.row.Key.{Key}
use Rattle.dbl_model_table.specs.declared.table.RawColumn.{RawColumn}
use Rattle.dbl_model_table.specs.declared.table.RawRow.{RawRow}
use Rattle.dbl_model_table.specs.Keys.{key_cmp, same_key}
use Rattle.dbl_model_table.proofs.KeyLemmas.{same_key-is, same_key-itself}
use Rattle.dbl_tables_rows.specs.SourceLog.Texts.{Texts}
use Rattle.dbl_tables_rows.specs.declared.error.StepError.{StepError}
use Rattle.dbl_tables_rows.specs.declared.error.StepError.TheVariants as errors
use Rattle.dbl_tables_rows.specs.declared.slots.Slot.{Slot}
use Rattle.dbl_tables_rows.specs.Views.{Slots, texts_of, committed_in, held_in}
use Rattle.dbl_tables_rows.proofs.SlotLemmas.{derived_cmp, changed_at}
use Rattle.dbl_tables_altered.specs.declared.alteration.Alteration.{Alteration}
use Rattle.dbl_tables_altered.specs.Alterations.{row_after, is_too_long_with}
use Rattle.dbl_tables_altered.specs.Altered.{AltersRow, EntersRow, EntersAltered, IsLong, HasLongAfter, AreAltered}

abbrev pub Entry : Type 0
Entry = Key × Slot

-- the slot of a key in some entries, and its committed row
abbrev pub slot_in : List Entry → Key → Option Slot
slot_in es key = lookup (is_at (key_cmp key)) es

abbrev pub row_of : Option Slot → Option Texts
row_of slot = option_and_then (λ (s : Slot). texts_of s.committed) slot

-- ---- one row

pub row_entered : (old new : Slots) (key : Key) (row : RawRow) → Updates derived_cmp old new key (Some (let slot : Slot = record { committed = Some row; held = None } in slot)) → EntersRow key row.cells old new
row_entered old new key row updates = record {
  committed = λ q. ap row_of (changed_at old new key (Some own) updates q) ∙ rows_by (same_key key q) q;
  held = λ q. ap (option_and_then (λ (s : Slot). s.held)) (changed_at old new key (Some own) updates q) ∙ locks_by (same_key key q) q;
}
  where
    own : Slot
    own = record { committed = Some row; held = None }

    rows_by : (b : Bool) (q : Key) → row_of (if b then Some own else get key_cmp old q) ≡ (if b then Some row.cells else committed_in old q)
    rows_by true q = refl
    rows_by false q = refl

    locks_by : (b : Bool) (q : Key) → option_and_then (λ (s : Slot). s.held) (if b then Some own else get key_cmp old q) ≡ (if b then None else held_in old q)
    locks_by true q = refl
    locks_by false q = refl

-- ---- all slots

-- no later entry has the key
none_later : (key q : Key) (es : List Entry) → q ≡ key → AllByRecursion (λ y. key_cmp key y ≡ Less) (keys_of es) → slot_in es q ≡ None
none_later key q [] is below = refl
none_later key q (e ∷ es) is below =
    let less : key_cmp q e.0 ≡ Less = ap (λ (k : Key). key_cmp k e.0) is ∙ below.0 in
    ap (λ (o : Ordering). cond (is_eq o) (Some e.1) (slot_in es q)) less ∙ none_later key q es is below.1

pub later_sorted : (e : Entry) (es : List Entry) → IsStrictlySortedBy key_cmp (keys_of (e ∷ es)) → IsStrictlySortedBy key_cmp (keys_of es)
unfolding IsStrictlySortedBy
later_sorted e es sorted = sorted.1

pub first_least : (e : Entry) (es : List Entry) → IsStrictlySortedBy key_cmp (keys_of (e ∷ es)) → AllByRecursion (λ y. key_cmp e.0 y ≡ Less) (keys_of es)
unfolding IsStrictlySortedBy
first_least e es sorted = sorted.0

module _ (alteration : Alteration) (oid : ℕ) (columns : List RawColumn) (all : List Entry) where
  -- the row of a key whose slot was passed is altered
  pub record IsPassed (q : Key) (after : Slots) : Type 0 where
    pub short : (row : Texts) → row_of (slot_in all q) ≡ Some row → is_too_long_with alteration oid (row_after alteration columns row) ≡ false
    pub committed : committed_in after q ≡ option_map (row_after alteration columns) (row_of (slot_in all q))
    pub free : held_in after q ≡ None

  -- the slot of a key is still to come
  pub record IsToCome (slot : Slot) (q : Key) (after : Slots) : Type 0 where
    pub is : slot_in all q ≡ Some slot
    pub committed : committed_in after q ≡ None
    pub free : held_in after q ≡ None

  abbrev pub IsSoFar : Option Slot → Key → Slots → Type 0
  IsSoFar None q after = IsPassed q after
  IsSoFar (Some slot) q after = IsToCome slot q after

  -- nothing was passed
  pub none_so_far : (after : Slots) → after.entries ≡ [] → (q : Key) → IsSoFar (slot_in all q) q after
  none_so_far after empty q = by (slot_in all q) refl
    where
      none : committed_in after q ≡ None
      none = ap (λ (es : List Entry). row_of (slot_in es q)) empty

      unlocked : held_in after q ≡ None
      unlocked = ap (λ (es : List Entry). option_and_then (λ (s : Slot). s.held) (slot_in es q)) empty

      by : (o : Option Slot) → slot_in all q ≡ o → IsSoFar o q after
      by None is = record {
        short = λ row there. (let contra : None ≡ Some row = sym (ap row_of is) ∙ there in cc);
        committed = none ∙ sym (ap (λ (o : Option Slot). option_map (row_after alteration columns) (row_of o)) is);
        free = unlocked;
      }
      by (Some slot) is = record { is = is; committed = none; free = unlocked }

  -- nothing changed at a key
  same_so_far : (o : Option Slot) (q : Key) (before after : Slots) → committed_in after q ≡ committed_in before q → held_in after q ≡ held_in before q → IsSoFar o q before → IsSoFar o q after
  same_so_far None q before after rows locks is = record { short = is.short; committed = rows ∙ is.committed; free = locks ∙ is.free }
  same_so_far (Some slot) q before after rows locks is = record { is = is.is; committed = rows ∙ is.committed; free = locks ∙ is.free }

  module _ (e : Entry) (es : List Entry) (sorted : IsStrictlySortedBy key_cmp (keys_of (e ∷ es))) (before : Slots) (so_far : (q : Key) → IsSoFar (slot_in (e ∷ es) q) q before) where
    its_slot : (q : Key) → same_key q e.0 ≡ true → IsToCome e.1 q before
    its_slot q same = subst (λ (b : Bool). IsSoFar (cond b (Some e.1) (slot_in es q)) q before) same (so_far q)

    another : (q : Key) → same_key q e.0 ≡ false → IsSoFar (slot_in es q) q before
    another q other = subst (λ (b : Bool). IsSoFar (cond b (Some e.1) (slot_in es q)) q before) other (so_far q)

    turned : (q : Key) (b : Bool) → same_key q e.0 ≡ b → same_key e.0 q ≡ b
    turned q true same = ap (λ (k : Key). same_key e.0 k) (same_key-is q e.0 same) ∙ same_key-itself e.0
    turned q false other = not_same (same_key e.0 q) refl
      where
        not_same : (b : Bool) → same_key e.0 q ≡ b → same_key e.0 q ≡ false
        not_same true same = let contra : true ≡ false = sym (ap (λ (k : Key). same_key q k) (same_key-is e.0 q same) ∙ same_key-itself q) ∙ other in cc
        not_same false is = is

    pub one_more : (after : Slots) → EntersAltered alteration oid columns e.0 (texts_of e.1.committed) before after → (q : Key) → IsSoFar (slot_in es q) q after
    one_more after enters q = by_row (texts_of e.1.committed) refl enters
      where
        gone : same_key q e.0 ≡ true → slot_in es q ≡ None
        gone same = none_later e.0 q es (same_key-is q e.0 same) (first_least e es sorted)

        by_row : (r : Option Texts) → texts_of e.1.committed ≡ r → EntersAltered alteration oid columns e.0 r before after → IsSoFar (slot_in es q) q after
        by_row None none same = subst (IsSoFar (slot_in es q) q) (sym same) (by (same_key q e.0) refl)
          where
            by : (b : Bool) → same_key q e.0 ≡ b → IsSoFar (slot_in es q) q before
            by true here =
                let own = its_slot q here in
                subst (λ (o : Option Slot). IsSoFar o q before) (sym (gone here)) (record {
                  short = λ row there. (let contra : None ≡ Some row = sym (ap row_of own.is ∙ none) ∙ there in cc);
                  committed = own.committed ∙ sym (ap (λ (o : Option Slot). option_map (row_after alteration columns) (row_of o)) own.is ∙ ap (option_map (row_after alteration columns)) none);
                  free = own.free;
                })
            by false other = another q other
        by_row (Some row) is entered = by (same_key q e.0) refl
          where
            by : (b : Bool) → same_key q e.0 ≡ b → IsSoFar (slot_in es q) q after
            by true here =
                let own = its_slot q here in
                let same : same_key e.0 q ≡ true = turned q true here in
                let was : row_of (slot_in all q) ≡ Some row = ap row_of own.is ∙ is in
                subst (λ (o : Option Slot). IsSoFar o q after) (sym (gone here)) (record {
                  short = λ other there.
                      (let e_row : row ≡ other = (let both : Some row ≡ Some other = sym was ∙ there in cc) in
                      subst (λ (r : Texts). is_too_long_with alteration oid (row_after alteration columns r) ≡ false) e_row entered.0);
                  committed = entered.1.committed q
                      ∙ (ap (λ (b : Bool). if b then Some (row_after alteration columns row) else committed_in before q) same ∙ sym (ap (option_map (row_after alteration columns)) was));
                  free = entered.1.held q ∙ ap (λ (b : Bool). if b then None else held_in before q) same;
                })
            by false other =
                let apart : same_key e.0 q ≡ false = turned q false other in
                same_so_far (slot_in es q) q before after (entered.1.committed q ∙ ap (λ (b : Bool). if b then Some (row_after alteration columns row) else committed_in before q) apart)
                (entered.1.held q ∙ ap (λ (b : Bool). if b then None else held_in before q) apart) (another q other)

    -- a row that is too long
    pub long_there : IsLong alteration oid columns (texts_of e.1.committed) → HasLongAfter alteration oid columns (λ key. row_of (slot_in all key))
    long_there long = by (texts_of e.1.committed) refl long
      where
        by : (r : Option Texts) → texts_of e.1.committed ≡ r → IsLong alteration oid columns r → HasLongAfter alteration oid columns (λ key. row_of (slot_in all key))
        by None none told = absurd told
        by (Some row) is told = let own = its_slot e.0 (same_key-itself e.0) in record { key = e.0; row = row; there = ap row_of own.is ∙ is; long = told }

  -- all were passed
  pub all_passed : (after : Slots) → ((q : Key) → IsSoFar None q after) → AreAltered alteration oid columns (λ key. row_of (slot_in all key)) after
  all_passed after done = record {
    short = λ key row there. let own = done key in own.short row there;
    committed = λ key. let own = done key in own.committed;
    free = λ key. let own = done key in own.free;
  }

-- ---- one slot

module _ (alteration : Alteration) (oid : ℕ) (columns : List RawColumn) (key : Key) (slot : Slot) (old : Slots) where
  -- it has no row
  pub no_row : slot.committed ≡ None → EntersAltered alteration oid columns key (texts_of slot.committed) old old
  no_row none = subst (λ (r : Option RawRow). EntersAltered alteration oid columns key (texts_of r) old old) (sym none) refl

  module _ (row : RawRow) (there : slot.committed ≡ Some row) where
    pub row_refused : (e : StepError) → AltersRow alteration oid columns row.cells (Err e) → (e ≡ errors.Memory) ⊎ ((e ≡ errors.BadAlter) × IsLong alteration oid columns (texts_of slot.committed))
    row_refused e (inl memory) = inl memory
    row_refused e (inr long) = inr (long.0, subst (λ (r : Option RawRow). IsLong alteration oid columns (texts_of r)) (sym there) long.1)

    pub row_taken : (altered : RawRow) (new : Slots) → AltersRow alteration oid columns row.cells (Ok altered) → EntersRow key altered.cells old new → EntersAltered alteration oid columns key (texts_of slot.committed) old new
    row_taken altered new of enters =
        subst (λ (r : Option RawRow). EntersAltered alteration oid columns key (texts_of r) old new) (sym there)
        (of.1, subst (λ (r : Texts). EntersRow key r old new) of.0 enters)
