-- Locks that are put on the keys of several writes, one after the other.
use Rattle.std.proofs.Common.{◌≡◌, ◌∙◌, ◌<◌, ℕ, zero, suc, Bool, true, false, Option, Some, List, [], ◌∷◌, ◌++◌, length, get_or, refl, sym, ap, subst, arith}
use Rattle.std.specs.Prelude.{◌&&◌, ◌||◌, not, if◌then◌else◌}
use Rattle.std.specs.List.{AllByRecursion, list_any}
use Rattle.dbl_model_table.specs.declared.row.Key.{Key}
use Rattle.dbl_model_table.specs.Keys.{same_key}
use Rattle.dbl_model_table.proofs.KeyLemmas.{same_key-is, same_key-itself}
use Rattle.dbl_model_table.proofs.Lists.{and_left, and_right, any-append}
use Rattle.dbl_tables_rows.specs.declared.slots.Held.{Held}
use Rattle.dbl_tables_rows.specs.declared.held.HeldKey.{HeldKey}
use Rattle.dbl_tables_rows.specs.Views.{Slots, committed_in, held_in}
use Rattle.dbl_tables_rows.specs.Changing.{HasSlot, IsInvisible, WritesLock}
use Rattle.dbl_tables_rows.specs.Listed.{is_listed}
use Rattle.dbl_tables_rows.proofs.RestLemmas.{all_push}
use Rattle.dbl_tables_changes.specs.declared.planned.Write.{Write}
use Rattle.dbl_tables_changes.specs.Taking.{HasMadeRoom, AreReady}
use Rattle.dbl_tables_changes.specs.Written.{lock_written, are_apart, WritesAll}

all_weaker : (P Q : Write → Type 0) → ((w : Write) → P w → Q w) → (ws : List Write) → AllByRecursion P ws → AllByRecursion Q ws
all_weaker P Q more [] all = tt
all_weaker P Q more (w ∷ ws) all = (more w all.0, all_weaker P Q more ws all.1)

-- of an item at an index
pub all_at : (P : Write → Type 0) (ws : List Write) (i : ℕ) (w : Write) → i < length ws → w ≡ get_or ws i w → AllByRecursion P ws → P w
all_at P [] i w within is all = absurd (omega arith)
all_at P (x ∷ ws) zero w within is all = subst P (sym is) all.0
all_at P (x ∷ ws) (suc i) w within is all = all_at P ws i w (omega arith) is all.1

-- ---- room is made, and keys are listed

module _ (old slots new : Slots) (old_keys keys new_keys : List HeldKey) (so_far : HasMadeRoom old slots old_keys keys) where
  pub ready_keys : ((place : ℕ) (key : Key) → is_listed place key keys ≡ true → is_listed place key new_keys ≡ true) → HasMadeRoom old slots old_keys new_keys
  ready_keys more = record { slots = so_far.slots; keys = λ place key is. more place key (so_far.keys place key is) }

  pub ready_both : ((place : ℕ) (key : Key) → is_listed place key keys ≡ true → is_listed place key new_keys ≡ true) → IsInvisible slots new → HasMadeRoom old new old_keys new_keys
  ready_both more same = record {
    slots = record { committed = λ q. same.committed q ∙ so_far.slots.committed q; held = λ q. same.held q ∙ so_far.slots.held q };
    keys = λ place key is. more place key (so_far.keys place key is);
  }

pub ready_none : (slots : Slots) (keys : List HeldKey) → HasMadeRoom slots slots keys keys
ready_none slots keys = record { slots = record { committed = λ q. refl; held = λ q. refl }; keys = λ place key is. is }

pub ready_more : (place : ℕ) (ws : List Write) (w : Write) (slots new : Slots) (keys new_keys : List HeldKey) → AreReady place ws slots keys → ((q : Key) → HasSlot slots q → HasSlot new q) → HasSlot new w.key
    → ((p : ℕ) (key : Key) → is_listed p key keys ≡ true → is_listed p key new_keys ≡ true) → is_listed place w.key new_keys ≡ true → AreReady place (ws ++ w ∷ []) new new_keys
ready_more place ws w slots new keys new_keys ready stay room more listed = record {
  room = all_push (λ (x : Write). HasSlot new x.key) ws w (all_weaker (λ x. HasSlot slots x.key) (λ x. HasSlot new x.key) (λ x. stay x.key) ws ready.room) room;
  listed = all_push (λ (x : Write). is_listed place x.key new_keys ≡ true) ws w (all_weaker (λ x. is_listed place x.key keys ≡ true) (λ x. is_listed place x.key new_keys ≡ true) (λ x. more place x.key) ws ready.listed) listed;
}

-- ---- locks are put

-- without its last write a list is apart too
apart_front : (ws : List Write) (w : Write) → are_apart (ws ++ w ∷ []) ≡ true → are_apart ws ≡ true
apart_front [] w apart = refl
apart_front (x ∷ ws) w apart = by (list_any (λ o. same_key x.key o.key) ws) refl (and_left (not (list_any (λ o. same_key x.key o.key) (ws ++ w ∷ []))) (are_apart (ws ++ w ∷ [])) apart) (apart_front ws w (and_right (not (list_any (λ o. same_key x.key o.key) (ws ++ w ∷ []))) (are_apart (ws ++ w ∷ [])) apart))
  where
    by : (b : Bool) → list_any (λ (o : Write). same_key x.key o.key) ws ≡ b → not (list_any (λ (o : Write). same_key x.key o.key) (ws ++ w ∷ [])) ≡ true → are_apart ws ≡ true → (not b && are_apart ws) ≡ true
    by true is none rest =
        let contra : not true ≡ true = sym (ap not (any-append (λ (o : Write). same_key x.key o.key) ws (w ∷ []) ∙ ap (λ (b : Bool). b || list_any (λ (o : Write). same_key x.key o.key) (w ∷ [])) is)) ∙ none in
        cc
    by false is none rest = rest

-- the last write's lock is the last that is put
lock_last : (ws : List Write) (w : Write) (key : Key) (h : Option Held) → are_apart (ws ++ w ∷ []) ≡ true → lock_written (ws ++ w ∷ []) key h ≡ (if same_key w.key key then Some w.held else lock_written ws key h)
lock_last [] w key h apart = refl
lock_last (x ∷ ws) w key h apart =
    by (same_key x.key key) (same_key w.key key) refl refl (lock_last ws w key h (and_right (not (list_any (λ o. same_key x.key o.key) (ws ++ w ∷ []))) (are_apart (ws ++ w ∷ [])) apart))
    (and_left (not (list_any (λ o. same_key x.key o.key) (ws ++ w ∷ []))) (are_apart (ws ++ w ∷ [])) apart)
  where
    by : (a b : Bool) → same_key x.key key ≡ a → same_key w.key key ≡ b → lock_written (ws ++ w ∷ []) key h ≡ (if same_key w.key key then Some w.held else lock_written ws key h) → not (list_any (λ (o : Write). same_key x.key o.key) (ws ++ w ∷ [])) ≡ true
        → (if same_key x.key key then Some x.held else lock_written (ws ++ w ∷ []) key h) ≡ (if same_key w.key key then Some w.held else (if same_key x.key key then Some x.held else lock_written ws key h))
    by true true first last ih none =
        let e : x.key ≡ w.key = same_key-is x.key key first ∙ sym (same_key-is w.key key last) in
        let here : same_key x.key w.key ≡ true = ap (same_key x.key) (sym e) ∙ same_key-itself x.key in
        let some : list_any (λ (o : Write). same_key x.key o.key) (ws ++ w ∷ []) ≡ true =
        any-append (λ (o : Write). same_key x.key o.key) ws (w ∷ []) ∙ (ap (λ (b : Bool). list_any (λ (o : Write). same_key x.key o.key) ws || (b || false)) here ∙ right (list_any (λ (o : Write). same_key x.key o.key) ws)) in
        let contra : not true ≡ true = sym (ap not some) ∙ none in
        cc
      where
        right : (b : Bool) → (b || (true || false)) ≡ true
        right true = refl
        right false = refl
    by true false first last ih none = rw (first, last) refl
    by false true first last ih none = rw first ih
    by false false first last ih none = rw first ih

-- the locks of the writes so far
pub record IsHeldSoFar (ws : List Write) (old new : Slots) : Type 0 where
  pub committed : (key : Key) → committed_in new key ≡ committed_in old key
  pub locked : are_apart ws ≡ true → (key : Key) → held_in new key ≡ lock_written ws key (held_in old key)
  pub room : (key : Key) → HasSlot old key → HasSlot new key

pub held_none : (slots : Slots) → IsHeldSoFar [] slots slots
held_none slots = record { committed = λ key. refl; locked = λ apart key. refl; room = λ key has. has }

pub held_more : (ws : List Write) (w : Write) (old slots new : Slots) → IsHeldSoFar ws old slots → WritesLock w.key w.held slots new → ((key : Key) → HasSlot slots key → HasSlot new key) → IsHeldSoFar (ws ++ w ∷ []) old new
held_more ws w old slots new so_far writes stay = record {
  committed = λ key. writes.committed key ∙ so_far.committed key;
  locked = λ apart key. writes.locked key ∙ (ap (λ (h : Option Held). if same_key w.key key then Some w.held else h) (so_far.locked (apart_front ws w apart) key) ∙ sym (lock_last ws w key (held_in old key) apart));
  room = λ key has. stay key (so_far.room key has);
}

pub held_all : (ws : List Write) (old new : Slots) → IsHeldSoFar ws old new → WritesAll ws old new
held_all ws old new so_far = record { committed = so_far.committed; locked = so_far.locked }
