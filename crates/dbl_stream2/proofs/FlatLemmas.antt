-- What is returned of a transaction at its Stream Commit, from what is stored of it.
use Rattle.std.proofs.Common.{◌≡◌, ◌⊎◌, ℕ, suc, ◌+◌, ◌<◌, ◌≤◌, Bool, true, false, cond, eqb, ltb, List, [], ◌∷◌}
use Rattle.std.proofs.Common.{◌++◌, length, refl, sym, ◌∙◌, ap, append_assoc, add-zero, arith, inl, inr}
use Rattle.std.specs.Prelude.{Option, Some, None, is_some, option_to_list, ◌||◌}
use Rattle.std.specs.List.{list_any}
use Rattle.std.proofs.lemmas.Bool.{cases_Bool, lt-ltb, le-ltb, or_right, or_left, or_parts, eqb-true, eq-eqb, false_from_ne_true}
use Rattle.std.proofs.lemmas.List.{length-append, append-nil}
use Rattle.dbl_pgmsg.specs.declared.messages.Message.{Message}
use Rattle.dbl_stream2.specs.declared.messages.StreamMessage.{StreamMessage}
use Rattle.dbl_stream2.specs.declared.messages.StreamMessage.TheVariants.{Start, Stop, Commit, Abort, Plain, Carried}
use Rattle.dbl_stream2.specs.declared.error.StreamError.{StreamError}
use Rattle.dbl_stream2.specs.Flat.{block_of, is_end_of, is_start_of, is_abort_of, has_block, is_block_of}
use Rattle.dbl_stream2.specs.Flat.{message_for, unless_aborted, kept_messages, is_begun, error_if, HasNoFault}
use Rattle.dbl_stream2.specs.State.{buffer_of, aborts_of}
use Rattle.dbl_stream2_pending.specs.Buffers.{Item, item_left, remaining}

-- one more item
left_push : (is_lost : ℕ → ℕ → Bool) (i : ℕ) (items : List (Item Message)) (item : Item Message)
    → remaining is_lost i (items ++ item ∷ []) ≡ remaining is_lost i items ++ item_left (is_lost item.0 (i + length items)) item
left_push is_lost i [] item =
    append-nil (item_left (is_lost item.0 i) item) ∙ ap (λ (n : ℕ). item_left (is_lost item.0 n) item) (sym (add-zero i))
left_push is_lost i (first ∷ items) item =
    let here : List Message = item_left (is_lost first.0 i) first in
    let sum : suc i + length items ≡ i + suc (length items) = omega arith in
    ap (λ (l : List Message). here ++ l) (left_push is_lost (suc i) items item)
    ∙ sym (append_assoc here (remaining is_lost (suc i) items) (item_left (is_lost item.0 (suc i + length items)) item))
    ∙ ap (λ (n : ℕ). (here ++ remaining is_lost (suc i) items) ++ item_left (is_lost item.0 n) item) sum

-- two tests that agree below the length leave the same
pub same_left : (p q : ℕ → ℕ → Bool) (i : ℕ) (items : List (Item Message)) → ((y k : ℕ) → k < i + length items → p y k ≡ q y k)
    → remaining p i items ≡ remaining q i items
same_left p q i [] same = refl
same_left p q i (item ∷ items) same =
    ap (λ (b : Bool). item_left b item ++ remaining p (suc i) items) (same item.0 i (omega arith))
    ∙ ap (λ (l : List Message). item_left (q item.0 i) item ++ l) (same_left p q (suc i) items (λ y k lt. same y k (omega arith)))

bound_of : (e a : Bool) (g : ℕ) (h more : List (Item Message)) → g ≤ length h → cond e 0 (cond a (length h) g) ≤ length (cond e [] (h ++ more))
bound_of true a g h more le = omega arith
bound_of false true g h more le = omega (arith, length-append h more)
bound_of false false g h more le = omega (arith, length-append h more)

-- the number at an abort is at most that of all messages
pub aborts_bound : (x y : ℕ) (past : List StreamMessage) → aborts_of x y past ≤ length (buffer_of x past)
aborts_bound x y [] = omega arith
aborts_bound x y (m ∷ past) = bound_of (is_end_of x m) (is_abort_of x y m) (aborts_of x y past) (buffer_of x past)
    (option_to_list (message_for x (block_of past) m)) (aborts_bound x y past)

-- an abort adds no message
apart : (x y : ℕ) (block : Option ℕ) (m : StreamMessage) → (is_abort_of x y m ≡ false) ⊎ (message_for x block m ≡ None)
apart x y block (Start xid first) = inl refl
apart x y block Stop = inl refl
apart x y block (Commit xid flags lsn end_lsn time) = inl refl
apart x y block (Abort xid subxid) = inr refl
apart x y block (Plain m) = inl refl
apart x y block (Carried xid m) = inl refl

no_abort : (x y : ℕ) (block : Option ℕ) (m : StreamMessage) (item : Item Message) → message_for x block m ≡ Some item → is_abort_of x y m ≡ false
no_abort x y block m item is = elim (apart x y block m) [ inl un ↦ un | inr none ↦ absurd (let both = sym is ∙ none in cc) ]

-- a message with this xid at this index is lost: a later abort, or an abort after it
abbrev pub lost : ℕ → List StreamMessage → List StreamMessage → ℕ → ℕ → Bool
lost x later past y i = list_any (is_abort_of x y) later || ltb i (aborts_of x y past)

-- a message is lost alike whether the message m, which doesn't end what is pending, is counted before the abort or after it
abbrev moved : (abort any : Bool) (i n g : ℕ) → Type 0
moved abort any i n g = ((abort || any) || ltb i g) ≡ (any || ltb i (cond abort n g))

is_moved : (abort any : Bool) (i n g : ℕ) → i < n → moved abort any i n g
is_moved true any i n g lt = sym (or_right any (ltb i n) (lt-ltb i n lt))
is_moved false any i n g lt = refl

or_false : (b c : Bool) → c ≡ false → (b || c) ≡ b
or_false true c is = refl
or_false false c is = is

module _ (x : ℕ) (later past : List StreamMessage) (m : StreamMessage) where
  -- what is lost, with m before
  abbrev lost_with : ℕ → ℕ → Bool
  lost_with y i = list_any (is_abort_of x y) later || ltb i (cond (is_abort_of x y m) (length (buffer_of x past)) (aborts_of x y past))

  same_lost : remaining (lost x (m ∷ later) past) 0 (buffer_of x past) ≡ remaining lost_with 0 (buffer_of x past)
  same_lost = same_left (lost x (m ∷ later) past) lost_with 0 (buffer_of x past)
      (λ y k lt. is_moved (is_abort_of x y m) (list_any (is_abort_of x y) later) k (length (buffer_of x past)) (aborts_of x y past) (omega arith))

  last_is : (item : Item Message) → is_abort_of x item.0 m ≡ false → lost_with item.0 (0 + length (buffer_of x past)) ≡ list_any (is_abort_of x item.0) later
  last_is item un =
      rw un (or_false (list_any (is_abort_of x item.0) later) (ltb (0 + length (buffer_of x past)) (aborts_of x item.0 past))
      (le-ltb (0 + length (buffer_of x past)) (aborts_of x item.0 past) (omega (arith, aborts_bound x item.0 past))))

  one_more : (o : Option (Item Message)) → ((item : Item Message) → o ≡ Some item → is_abort_of x item.0 m ≡ false)
      → remaining (lost x (m ∷ later) past) 0 (buffer_of x past) ++ unless_aborted x later o ≡ remaining lost_with 0 (buffer_of x past ++ option_to_list o)
  one_more None un = append-nil (remaining (lost x (m ∷ later) past) 0 (buffer_of x past)) ∙ same_lost
      ∙ ap (remaining lost_with 0) (sym (append-nil (buffer_of x past)))
  one_more (Some item) un =
      ap (λ (l : List Message). l ++ item_left (list_any (is_abort_of x item.0) later) item) same_lost
      ∙ ap (λ (b : Bool). remaining lost_with 0 (buffer_of x past) ++ item_left b item) (sym (last_is item (un item refl)))
      ∙ sym (left_push lost_with 0 (buffer_of x past) item)

  -- a message that doesn't end what is pending loses what it did
  same_with : is_end_of x m ≡ false → (items : List (Item Message)) → remaining lost_with 0 items ≡ remaining (lost x later (m ∷ past)) 0 items
  same_with goes items =
      same_left lost_with (lost x later (m ∷ past)) 0 items
      (λ y k lt. ap (λ (b : Bool). list_any (is_abort_of x y) later || ltb k
      (cond b 0 (cond (is_abort_of x y m) (length (buffer_of x past)) (aborts_of x y past)))) (sym goes))

  -- the message m, in both
  kept_with : kept_messages x (m ∷ later) past ≡ remaining (lost x (m ∷ later) past) 0 (buffer_of x past)
      → kept_messages x later (m ∷ past) ≡ remaining (lost x later (m ∷ past)) 0 (buffer_of x (m ∷ past))
  kept_with before =
      elim (cases_Bool (is_end_of x m)) [
        | inl ends ↦ rw ends refl
        | inr goes ↦
            let o : Option (Item Message) = message_for x (block_of past) m in
            let made = ap (λ (l : List Message). l ++ unless_aborted x later o) before ∙ one_more o (λ item is. no_abort x item.0 (block_of past) m item is)
            ∙ same_with goes (buffer_of x past ++ option_to_list o) in
            rw goes made
      ]

-- what is kept of a transaction is what remains of its messages
pub kept_is : (x : ℕ) (later past : List StreamMessage) → kept_messages x later past ≡ remaining (lost x later past) 0 (buffer_of x past)
kept_is x later [] = refl
kept_is x later (m ∷ past) = kept_with x later past m (kept_is x (m ∷ later) past)

-- ---- messages none of which has a fault

some_is : (x y : ℕ) → Some x ≡ Some y → x ≡ y
some_is x y e = cc

none_open : (x : ℕ) (o : Option ℕ) (b : Bool) → o ≡ Some x → (is_some o || b) ≡ false → ⊥
none_open x o b is none = let open_so : is_some o ≡ true = ap is_some is in let both = sym open_so ∙ (or_parts (is_some o) b none).0 in cc

refused_not : (b : Bool) (e : StreamError) → error_if b e ≡ None → b ≡ false
refused_not true e is = absurd cc
refused_not false e is = refl

first_not : (b : Bool) (e : StreamError) (o : Option StreamError) → cond b (Some e) o ≡ None → b ≡ false
first_not true e o is = absurd cc
first_not false e o is = refl

-- a transaction whose block is open has a block
pub there : (past : List StreamMessage) → HasNoFault past → (x : ℕ) → block_of past ≡ Some x → has_block x past ≡ true
there [] clean x is = absurd cc
there (Start xid first ∷ past) clean x is = or_left (eqb xid x) (has_block x past) (eq-eqb xid x (some_is xid x is))
there (Stop ∷ past) clean x is = absurd cc
there (Commit xid flags lsn end_lsn time ∷ past) clean x is = absurd (none_open x (block_of past) (is_begun past) is (first_not _ _ _ clean.1))
there (Abort xid subxid ∷ past) clean x is = absurd (none_open x (block_of past) (is_begun past) is (refused_not _ _ clean.1))
there (Plain m ∷ past) clean x is = there past clean.0 x is
there (Carried xid m ∷ past) clean x is = there past clean.0 x is

block_is : (x : ℕ) (o : Option ℕ) → is_block_of x o ≡ true → o ≡ Some x
block_is x None is = absurd cc
block_is x (Some xid) is = ap (λ (n : ℕ). Some n) (eqb-true xid x is)

pub no_message_for : (x : ℕ) (o : Option ℕ) (m : StreamMessage) → is_block_of x o ≡ false → message_for x o m ≡ None
no_message_for x o (Start xid first) un = refl
no_message_for x o Stop un = refl
no_message_for x o (Commit xid flags lsn end_lsn time) un = refl
no_message_for x o (Abort xid subxid) un = refl
no_message_for x o (Plain m) un = rw un refl
no_message_for x o (Carried xid m) un = rw un refl

empty_of : (past : List StreamMessage) (x : ℕ) (m : StreamMessage) → HasNoFault past → (has_block x past ≡ false → buffer_of x past ≡ [])
    → has_block x (m ∷ past) ≡ false → buffer_of x (m ∷ past) ≡ []
empty_of past x m clean before none =
    elim (cases_Bool (is_end_of x m)) [
      | inl ends ↦ rw ends refl
      | inr goes ↦
          let parts = or_parts (is_start_of x m) (has_block x past) (rw goes at none) in
          let outside : is_block_of x (block_of past) ≡ false = false_from_ne_true (is_block_of x (block_of past))
          (λ so. (let both = sym (there past clean x (block_is x (block_of past) so)) ∙ parts.1 in cc)) in
          rw (goes, no_message_for x (block_of past) m outside) (append-nil (buffer_of x past) ∙ before parts.1)
    ]

-- nothing is pending of a transaction without a block
pub empty : (past : List StreamMessage) → HasNoFault past → (x : ℕ) → has_block x past ≡ false → buffer_of x past ≡ []
empty [] clean x none = refl
empty (m ∷ past) clean x none = empty_of past x m clean.0 (empty past clean.0 x) none
