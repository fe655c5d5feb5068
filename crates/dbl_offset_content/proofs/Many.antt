-- Reading the cells of a key, as a loop does. Their types stand at the key's places.
use Rattle.std.proofs.Common.{◌≡◌, ℕ, suc, ◌+◌, ◌≤◌, ◌<◌, List, [], ◌∷◌, ◌++◌, length, map, get_or, drop, Ok, Err, refl, sym, ap, ◌∙◌, append_assoc, arith, inl, inr}
use Rattle.std.proofs.lemmas.List.{append-nil, length-drop, nil_from_length}
use Rattle.std.proofs.Math.Seq.{drop-cons}
use Rattle.dbl_value_types.specs.declared.column_type.PgType.{PgType}
use Rattle.dbl_value_types.specs.declared.value.Val.{Val}
use Rattle.dbl_record.specs.declared.error.RecordError.{RecordError}
use Rattle.dbl_record.specs.GroupReading.{Read, ◌>>=◌, Fails}
use Rattle.dbl_offset_content.specs.Reading.{offset_cell_at, cells_at}

-- what was read before, and what is still read
abbrev pub with_front : {A : Type 0} → List A → Read (List A) → Read (List A)
with_front front read = read >>= λ x. Ok (front ++ x.0, x.1)

regroup : {A : Type 0} (front : List A) (x : A) (read : Read (List A)) → with_front front (read >>= λ y. Ok (x ∷ y.0, y.1)) ≡ with_front (front ++ x ∷ []) read
regroup {A = A} front x (Ok y) = ap (λ (xs : List A). Ok (xs, y.1)) (simp append_assoc)
regroup front x (Err e) = refl

module _ (type_of : ℕ → PgType) (key : List ℕ) where
  rest_is : (i place : ℕ) → i < length key → place ≡ get_or key i 0 → map type_of (drop i key) ≡ type_of place ∷ map type_of (drop (i + 1) key)
  rest_is i place lt is =
      let k : suc i ≡ i + 1 = omega arith in
      ap (map type_of) (drop-cons key i 0 lt ∙ ap (λ (y : ℕ). y ∷ drop (suc i) key) (sym is) ∙ ap (λ (k : ℕ). place ∷ drop k key) k)

  pub cells_go_on : (front : List Val) (i place : ℕ) (bytes : List ℕ) (x : Val) (after : List ℕ) (total : Read (List Val)) → i < length key → place ≡ get_or key i 0 → offset_cell_at (type_of place) bytes ≡ Ok (x, after)
      → with_front front (cells_at (map type_of (drop i key)) bytes) ≡ total → with_front (front ++ x ∷ []) (cells_at (map type_of (drop (i + 1) key)) after) ≡ total
  unfolding cells_at
  cells_go_on front i place bytes x after total lt is h so_far =
      let one : with_front front (cells_at (map type_of (drop i key)) bytes) ≡ with_front (front ++ x ∷ []) (cells_at (map type_of (drop (i + 1) key)) after) =
      rw (rest_is i place lt is, h) (regroup front x (cells_at (map type_of (drop (i + 1) key)) after)) in
      sym one ∙ so_far

  pub cells_end : (e : RecordError) (front : List Val) (i place : ℕ) (bytes : List ℕ) (total : Read (List Val)) → i < length key → place ≡ get_or key i 0 → Fails e (offset_cell_at (type_of place) bytes)
      → with_front front (cells_at (map type_of (drop i key)) bytes) ≡ total → Fails e total
  unfolding cells_at
  cells_end e front i place bytes total lt is (inl m) so_far = inl m
  cells_end e front i place bytes total lt is (inr h) so_far =
      let one : with_front front (cells_at (map type_of (drop i key)) bytes) ≡ Err e = rw (rest_is i place lt is, h) refl in
      inr (sym so_far ∙ one)

  pub cells_done : (front : List Val) (i : ℕ) (bytes : List ℕ) (total : Read (List Val)) → length key ≤ i → with_front front (cells_at (map type_of (drop i key)) bytes) ≡ total → total ≡ Ok (front, bytes)
  unfolding cells_at
  cells_done front i bytes total le so_far =
      let none : drop i key ≡ [] = nil_from_length (drop i key) (omega (arith, length-drop i key)) in
      let one : with_front front (cells_at (map type_of (drop i key)) bytes) ≡ Ok (front, bytes) = rw none (ap (λ (xs : List Val). Ok (xs, bytes)) (append-nil front)) in
      sym so_far ∙ one
