-- Reading items one after the other, as a loop does.
use Rattle.std.proofs.Common.{◌≡◌, ℕ, suc, ◌-◌, ◌+◌, ◌≤◌, ◌<◌, List, [], ◌∷◌, ◌++◌, Ok, Err, refl, sym, ap, ◌∙◌, append_assoc, arith, inl, inr}
use Rattle.std.proofs.lemmas.List.{append-nil}
use Rattle.dbl_pgmsg.specs.declared.error.MsgError.{MsgError}
use Rattle.dbl_pgmsg.specs.Reading.{Read, ◌>>=◌, Fails, many_at}

module _ {A : Type 0} (item : List ℕ → Read A) where
  -- what was read before, and what is still read
  abbrev pub with_front : List A → Read (List A) → Read (List A)
  with_front front read = read >>= λ x. Ok (front ++ x.0, x.1)

  regroup : (front : List A) (x : A) (read : Read (List A)) → with_front front (read >>= λ y. Ok (x ∷ y.0, y.1)) ≡ with_front (front ++ x ∷ []) read
  regroup front x (Ok y) = ap (λ (xs : List A). Ok (xs, y.1)) (simp append_assoc)
  regroup front x (Err e) = refl

  pub starts : (count : ℕ) (bytes : List ℕ) → with_front [] (many_at item count bytes) ≡ many_at item count bytes
  starts count bytes = elim (many_at item count bytes) as (λ r. with_front [] r ≡ r) [ Ok x ↦ refl | Err e ↦ refl ]

  pub goes_on : (front : List A) (count i : ℕ) (bytes : List ℕ) (x : A) (after : List ℕ) (total : Read (List A)) → i < count → item bytes ≡ Ok (x, after)
      → with_front front (many_at item (count - i) bytes) ≡ total → with_front (front ++ x ∷ []) (many_at item (count - (i + 1)) after) ≡ total
  unfolding many_at
  goes_on front count i bytes x after total lt h so_far =
      let k : count - i ≡ suc (count - (i + 1)) = omega arith in
      let one : with_front front (many_at item (count - i) bytes) ≡ with_front (front ++ x ∷ []) (many_at item (count - (i + 1)) after) = rw (k, h) (regroup front x (many_at item (count - (i + 1)) after)) in
      sym one ∙ so_far

  pub ends : (e : MsgError) (front : List A) (count i : ℕ) (bytes : List ℕ) (total : Read (List A)) → i < count → Fails e (item bytes)
      → with_front front (many_at item (count - i) bytes) ≡ total → Fails e total
  unfolding many_at
  ends e front count i bytes total lt (inl m) so_far = inl m
  ends e front count i bytes total lt (inr h) so_far =
      let k : count - i ≡ suc (count - (i + 1)) = omega arith in
      let one : with_front front (many_at item (count - i) bytes) ≡ Err e = rw (k, h) refl in
      inr (sym so_far ∙ one)

  pub is_done : (front : List A) (count i : ℕ) (bytes : List ℕ) (total : Read (List A)) → count ≤ i → with_front front (many_at item (count - i) bytes) ≡ total → total ≡ Ok (front, bytes)
  unfolding many_at
  is_done front count i bytes total le so_far =
      let k : count - i ≡ 0 = omega arith in
      let one : with_front front (many_at item (count - i) bytes) ≡ Ok (front, bytes) = rw k (ap (λ (xs : List A). Ok (xs, bytes)) (append-nil front)) in
      sym so_far ∙ one
