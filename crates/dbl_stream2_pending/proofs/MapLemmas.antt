-- One transaction changes among those that are stored.
use Rattle.std.proofs.Common.{◌≡◌, ℕ, Bool, true, false, cond, eqb, List, [], ◌∷◌, ◌++◌, length, refl, sym, ◌∙◌, ap, subst, rules}
use Rattle.std.specs.Prelude.{Option, Some, None, is_some, option_map, unwrap_or, Result, Ok, Err, OnOk, ◌&&◌}
use Rattle.std.specs.Ordering.{nat_cmp}
use Rattle.std.specs.BTreeMap.{is_at}
use Rattle.std.proofs.lemmas.Bool.{eqb-true}
use Rattle.dbl_stream2_pending.specs.declared.pending.Pending.{Pending}
use Rattle.dbl_stream2_pending.specs.Buffers.{Item, buffer_in, aborts_in, buffer_or_empty}

-- a fact that holds whether or not the call succeeded
pub on_ok : {T E Q : Type 0} (r : Result T E) → Q → OnOk r Q
on_ok (Ok x) fact = fact
on_ok (Err e) fact = tt

-- a key compares as equal only to itself
pub is_at-number : (k q : ℕ) → is_at (nat_cmp k) q ≡ eqb k q
is_at-number k q = search rules

-- what a map of numbers has, 0 by default, once a number is set
pub number_set : (b : Bool) (n : ℕ) (o : Option ℕ) → unwrap_or (cond b (Some n) o) 0 ≡ cond b n (unwrap_or o 0)
number_set true n o = refl
number_set false n o = refl

module _ {M : Type 0} where
  abbrev push : Item M → List (Item M) → List (Item M)
  push item items = items ++ item ∷ []

  push_case : (item : Item M) (b : Bool) (was now : Pending M) (o n : Option (Pending M)) → n ≡ cond b (Some now) o → (b ≡ true → o ≡ Some was)
      → buffer_in (Some now) ≡ Some (was.buffer.items ++ item ∷ [])
      → buffer_in n ≡ cond b (option_map (push item) (buffer_in o)) (buffer_in o)
  push_case item true was now o n is here h = ap buffer_in is ∙ h ∙ sym (ap (λ (p : Option (Pending M)). option_map (push item) (buffer_in p)) (here refl))
  push_case item false was now o n is here h = ap buffer_in is

  same_case : {X : Type 0} (f : Option (Pending M) → X) (b : Bool) (was now : Pending M) (o n : Option (Pending M)) → n ≡ cond b (Some now) o
      → (b ≡ true → o ≡ Some was)
      → f (Some now) ≡ f (Some was) → f n ≡ f o
  same_case f true was now o n is here h = ap f is ∙ h ∙ sym (ap f (here refl))
  same_case f false was now o n is here h = ap f is

  aborts_case : (y : ℕ) (b c : Bool) (was now : Pending M) (o n : Option (Pending M)) → n ≡ cond b (Some now) o → (b ≡ true → o ≡ Some was)
      → aborts_in y (Some now) ≡ cond c (length was.buffer.items) (aborts_in y (Some was))
      → aborts_in y n ≡ cond (b && c) (length (buffer_or_empty (buffer_in o))) (aborts_in y o)
  aborts_case y true c was now o n is here h = ap (aborts_in y) is ∙ h ∙ sym
      (ap (λ (p : Option (Pending M)). cond c (length (buffer_or_empty (buffer_in p))) (aborts_in y p)) (here refl))
  aborts_case y false c was now o n is here h = ap (aborts_in y) is

  module _ (old new : ℕ → Option (Pending M)) (k : ℕ) (was now : Pending M) (found : old k ≡ Some was) (updates : (x : ℕ)
      → new x ≡ cond (is_at (nat_cmp k) x) (Some now) (old x)) where
    at : (x : ℕ) → new x ≡ cond (eqb k x) (Some now) (old x)
    at x = updates x ∙ ap (λ (b : Bool). cond b (Some now) (old x)) (is_at-number k x)

    here : (x : ℕ) → eqb k x ≡ true → old x ≡ Some was
    here x is = subst (λ (z : ℕ). old z ≡ Some was) (eqb-true k x is) found

    pub pushed_at : (item : Item M) → buffer_in (Some now) ≡ Some (was.buffer.items ++ item ∷ []) → (x : ℕ)
        → buffer_in (new x) ≡ cond (eqb k x) (option_map (λ items. items ++ item ∷ []) (buffer_in (old x))) (buffer_in (old x))
    pushed_at item h x = push_case item (eqb k x) was now (old x) (new x) (at x) (here x) h

    pub same_at : {X : Type 0} (f : Option (Pending M) → X) → f (Some now) ≡ f (Some was) → (x : ℕ) → f (new x) ≡ f (old x)
    same_at f h x = same_case f (eqb k x) was now (old x) (new x) (at x) (here x) h

    pub aborts_at : (subxid : ℕ) → ((y : ℕ) → aborts_in y (Some now) ≡ cond (eqb subxid y) (length was.buffer.items) (aborts_in y (Some was)))
        → (x y : ℕ) → aborts_in y (new x) ≡ cond (eqb k x && eqb subxid y) (length (buffer_or_empty (buffer_in (old x)))) (aborts_in y (old x))
    aborts_at subxid h x y = aborts_case y (eqb k x) (eqb subxid y) was now (old x) (new x) (at x) (here x) (h y)

  -- ---- a transaction that isn't stored

  none_push : (item : Item M) (b : Bool) (o : Option (Pending M)) → (b ≡ true → o ≡ None)
      → buffer_in o ≡ cond b (option_map (push item) (buffer_in o)) (buffer_in o)
  none_push item true o none = ap buffer_in (none refl) ∙ sym (ap (λ (p : Option (Pending M)). option_map (push item) (buffer_in p)) (none refl))
  none_push item false o none = refl

  none_aborts : (y : ℕ) (b c : Bool) (o : Option (Pending M)) → (b ≡ true → o ≡ None)
      → aborts_in y o ≡ cond (b && c) (length (buffer_or_empty (buffer_in o))) (aborts_in y o)
  none_aborts y true true o none = ap (aborts_in y) (none refl) ∙ sym (ap (λ (p : Option (Pending M)). length (buffer_or_empty (buffer_in p))) (none refl))
  none_aborts y true false o none = refl
  none_aborts y false c o none = refl

  module _ (old : ℕ → Option (Pending M)) (k : ℕ) (missing : old k ≡ None) where
    none_at : (x : ℕ) → eqb k x ≡ true → old x ≡ None
    none_at x is = subst (λ (z : ℕ). old z ≡ None) (eqb-true k x is) missing

    pub none_pushed : (item : Item M) (x : ℕ) → buffer_in (old x) ≡ cond (eqb k x) (option_map (λ items. items ++ item ∷ []) (buffer_in (old x)))
        (buffer_in (old x))
    none_pushed item x = none_push item (eqb k x) (old x) (none_at x)

    pub none_aborted : (subxid x y : ℕ) → aborts_in y (old x) ≡ cond (eqb k x && eqb subxid y) (length (buffer_or_empty (buffer_in (old x))))
        (aborts_in y (old x))
    none_aborted subxid x y = none_aborts y (eqb k x) (eqb subxid y) (old x) (none_at x)

  -- ---- room for a transaction

  is_there : (o : Option (Pending M)) → is_some o ≡ true → buffer_in o ≡ Some (buffer_or_empty (buffer_in o))
  is_there None some = absurd cc
  is_there (Some p) some = refl

  is_missing : (o : Option (Pending M)) → is_some o ≡ false → o ≡ None
  is_missing None none = refl
  is_missing (Some p) none = absurd cc

  there_case : (b : Bool) (o : Option (Pending M)) → (b ≡ true → is_some o ≡ true) → buffer_in o ≡ cond b (Some (buffer_or_empty (buffer_in o))) (buffer_in o)
  there_case true o some = is_there o (some refl)
  there_case false o some = refl

  pub room_there : (old : ℕ → Option (Pending M)) (k : ℕ) → is_some (old k) ≡ true → (x : ℕ)
      → buffer_in (old x) ≡ cond (eqb k x) (Some (buffer_or_empty (buffer_in (old x)))) (buffer_in (old x))
  room_there old k some x = there_case (eqb k x) (old x) (λ is. subst (λ (z : ℕ). is_some (old z) ≡ true) (eqb-true k x is) some)

  room_case : (b : Bool) (made : Pending M) (o n : Option (Pending M)) → n ≡ cond b (Some made) o → (b ≡ true → o ≡ None) → buffer_in (Some made) ≡ Some []
      → buffer_in n ≡ cond b (Some (buffer_or_empty (buffer_in o))) (buffer_in o)
  room_case true made o n is none h = ap buffer_in is ∙ h ∙ sym (ap (λ (p : Option (Pending M)). Some (buffer_or_empty (buffer_in p))) (none refl))
  room_case false made o n is none h = ap buffer_in is

  room_aborts : (y : ℕ) (b : Bool) (made : Pending M) (o n : Option (Pending M)) → n ≡ cond b (Some made) o → (b ≡ true → o ≡ None)
      → aborts_in y (Some made) ≡ 0
      → aborts_in y n ≡ aborts_in y o
  room_aborts y true made o n is none h = ap (aborts_in y) is ∙ h ∙ sym (ap (aborts_in y) (none refl))
  room_aborts y false made o n is none h = ap (aborts_in y) is

  module _ (old new : ℕ → Option (Pending M)) (k : ℕ) (made : Pending M) (missing : is_some (old k) ≡ false) (updates : (x : ℕ)
      → new x ≡ cond (is_at (nat_cmp k) x) (Some made) (old x)) where
    made_at : (x : ℕ) → new x ≡ cond (eqb k x) (Some made) (old x)
    made_at x = updates x ∙ ap (λ (b : Bool). cond b (Some made) (old x)) (is_at-number k x)

    absent : (x : ℕ) → eqb k x ≡ true → old x ≡ None
    absent x is = subst (λ (z : ℕ). old z ≡ None) (eqb-true k x is) (is_missing (old k) missing)

    pub room_made : buffer_in (Some made) ≡ Some [] → (x : ℕ) → buffer_in (new x) ≡ cond (eqb k x) (Some (buffer_or_empty (buffer_in (old x))))
        (buffer_in (old x))
    room_made h x = room_case (eqb k x) made (old x) (new x) (made_at x) (absent x) h

    pub room_counts : ((y : ℕ) → aborts_in y (Some made) ≡ 0) → (x y : ℕ) → aborts_in y (new x) ≡ aborts_in y (old x)
    room_counts h x y = room_aborts y (eqb k x) made (old x) (new x) (made_at x) (absent x) (h y)
