-- Rows and columns: what is read was written, and what was written is read again.
use Rattle.std.proofs.Common.{◌≡◌, ◌⊎◌, ℕ, ◌≤◌, Bool, true, false, cond, eqb, List, [], ◌∷◌, ◌++◌, length, Ok, refl, sym, ap, subst, ◌∙◌, append_assoc, arith, inl, inr}
use Rattle.std.specs.List.{flat_map, AllByRecursion}
use Rattle.std.proofs.lemmas.Bool.{eqb-true}
use Rattle.dbl_pgmsg.specs.declared.messages.RelationColumn.{RelationColumn}
use Rattle.dbl_pgmsg.specs.declared.messages.Tuple.{Tuple}
use Rattle.dbl_pgmsg.specs.declared.messages.TupleCell.{TupleCell}
use Rattle.dbl_pgmsg.specs.declared.messages.TupleCell.TheVariants.{Null, Unchanged, Text}
use Rattle.dbl_pgmsg.specs.Grammar.{int16, int32, signed32, string, cell, tuple, column, FitsCell, FitsTuple, FitsColumn}
use Rattle.dbl_pgmsg.specs.Reading.{Read, byte_at, count_at, text_at, counted_at, cell_at, tuple_at, new_at, column_at}
use Rattle.dbl_pgmsg.proofs.FieldLaws.{IsBytes, IsBytes-rest, bind_ok, guard_held, ok_is, Takes, Takes-then, Reads, took, byte_reads, int32_reads, signed32_reads, count_reads, string_reads, text_reads, many_again, many_takes}

pub chosen : {A : Type 0} (b : Bool) (x y z : A) → cond b x y ≡ z → ((b ≡ true) × (x ≡ z)) ⊎ ((b ≡ false) × (y ≡ z))
chosen true x y z e = inl (refl, e)
chosen false x y z e = inr (refl, e)

-- ---- items after their number

module _ {A : Type 0} {item : List ℕ → Read A} {spell : A → List ℕ} {Fits : A → Type 0} (reads : Reads item spell Fits) where
  counted_again : (total : ℕ) (xs : List A) (rest : List ℕ) → (length xs ≤ 1600) × AllByRecursion Fits xs → counted_at item total ((int16 (length xs) ++ flat_map spell xs) ++ rest) ≡ Ok (xs, rest)
  unfolding counted_at
  counted_again total xs rest fits = rw (append_assoc (int16 (length xs)) (flat_map spell xs) rest, (count_reads total).again (length xs) (flat_map spell xs ++ rest) fits.0) (many_again reads xs rest fits.1)

  counted_takes : (total : ℕ) (bytes : List ℕ) (xs : List A) (rest : List ℕ) → IsBytes bytes → counted_at item total bytes ≡ Ok (xs, rest) → Takes bytes (int16 (length xs) ++ flat_map spell xs) rest × ((length xs ≤ 1600) × AllByRecursion Fits xs)
  unfolding counted_at
  counted_takes total bytes xs rest fits e =
      let a = bind_ok (count_at total bytes) _ (xs, rest) e in
      let first = (count_reads total).takes bytes a.0.0 a.0.1 fits a.1 in
      let second = many_takes reads a.0.0 a.0.1 xs rest first.0.rest_fits a.2 in
      let both = Takes-then bytes (int16 a.0.0) a.0.1 (flat_map spell xs) rest first.0 second.0 in
      (subst (λ (k : ℕ). Takes bytes (int16 k ++ flat_map spell xs) rest) (sym second.1) both, (omega (arith, first.1, second.1), second.2))

  pub counted_reads : (total : ℕ) → Reads (counted_at item total) (λ xs. int16 (length xs) ++ flat_map spell xs) (λ xs. (length xs ≤ 1600) × AllByRecursion Fits xs)
  counted_reads total = record { again = counted_again total; takes = counted_takes total }

-- ---- rows

cell_again : (total : ℕ) (x : TupleCell) (rest : List ℕ) → FitsCell x → cell_at total (cell x ++ rest) ≡ Ok (x, rest)
unfolding cell_at cell
cell_again total Null rest fits = refl
cell_again total Unchanged rest fits = refl
cell_again total (Text text) rest fits = rw ((text_reads total).again text rest fits) refl

cell_takes : (total : ℕ) (bytes : List ℕ) (x : TupleCell) (rest : List ℕ) → IsBytes bytes → cell_at total bytes ≡ Ok (x, rest) → Takes bytes (cell x) rest × FitsCell x
unfolding cell_at cell
cell_takes total [] x rest fits e = absurd cc
cell_takes total (b ∷ bytes) x rest fits e =
    let whole = IsBytes-rest b bytes fits in
    elim (chosen (eqb b 110) _ _ _ e) [
      | inl p ↦ subst (λ (y : TupleCell × List ℕ). Takes (b ∷ bytes) (cell y.0) y.1 × FitsCell y.0) (ok_is (Null, bytes) (x, rest) p.1) (record { parts = ap (λ (a : ℕ). a ∷ bytes) (eqb-true b 110 p.0); rest_fits = whole }, tt)
      | inr p ↦ elim (chosen (eqb b 117) _ _ _ p.1) [
        | inl p ↦ subst (λ (y : TupleCell × List ℕ). Takes (b ∷ bytes) (cell y.0) y.1 × FitsCell y.0) (ok_is (Unchanged, bytes) (x, rest) p.1) (record { parts = ap (λ (a : ℕ). a ∷ bytes) (eqb-true b 117 p.0); rest_fits = whole }, tt)
        | inr p ↦ elim (chosen (eqb b 116) _ _ _ p.1) [
          | inl p ↦
              let a = bind_ok (text_at total bytes) (λ text. Ok (Text text.0, text.1)) (x, rest) p.1 in
              let t = (text_reads total).takes bytes a.0.0 a.0.1 whole a.1 in
              let takes : Takes (b ∷ bytes) (cell (Text a.0.0)) a.0.1 = record { parts = ap (λ (a : ℕ). a ∷ bytes) (eqb-true b 116 p.0) ∙ ap (λ (w : List ℕ). 116 ∷ w) t.0.parts; rest_fits = t.0.rest_fits } in
              subst (λ (y : TupleCell × List ℕ). Takes (b ∷ bytes) (cell y.0) y.1 × FitsCell y.0) (ok_is (Text a.0.0, a.0.1) (x, rest) a.2) (takes, t.1)
          | inr p ↦ absurd (let h = (chosen (eqb b 98) _ _ _ p.1) in elim h [ inl q ↦ (let e = q.1 in cc) | inr q ↦ (let e = q.1 in cc) ])
        ]
      ]
    ]

pub cell_reads : (total : ℕ) → Reads (cell_at total) cell FitsCell
cell_reads total = record { again = cell_again total; takes = cell_takes total }

tuple_again : (total : ℕ) (t : Tuple) (rest : List ℕ) → FitsTuple t → tuple_at total (tuple t ++ rest) ≡ Ok (t, rest)
unfolding tuple_at tuple
tuple_again total t rest fits = rw ((counted_reads (cell_reads total) total).again t.cells rest (fits.count, fits.each)) refl

tuple_takes : (total : ℕ) (bytes : List ℕ) (t : Tuple) (rest : List ℕ) → IsBytes bytes → tuple_at total bytes ≡ Ok (t, rest) → Takes bytes (tuple t) rest × FitsTuple t
unfolding tuple_at tuple
tuple_takes total bytes t rest fits e =
    let a = bind_ok (counted_at (cell_at total) total bytes) _ (t, rest) e in
    let taken = (counted_reads (cell_reads total) total).takes bytes a.0.0 a.0.1 fits a.1 in
    let made : Tuple = record { cells = a.0.0 } in
    subst (λ (y : Tuple × List ℕ). Takes bytes (tuple y.0) y.1 × FitsTuple y.0) (ok_is (made, a.0.1) (t, rest) a.2) (taken.0, record { count = taken.1.0; each = taken.1.1 })

pub tuple_reads : (total : ℕ) → Reads (tuple_at total) tuple FitsTuple
tuple_reads total = record { again = tuple_again total; takes = tuple_takes total }

new_again : (total : ℕ) (t : Tuple) (rest : List ℕ) → FitsTuple t → new_at total (78 ∷ (tuple t ++ rest)) ≡ Ok (t, rest)
unfolding new_at
new_again total t rest fits = (tuple_reads total).again t rest fits

new_takes : (total : ℕ) (bytes : List ℕ) (t : Tuple) (rest : List ℕ) → IsBytes bytes → new_at total bytes ≡ Ok (t, rest) → Takes bytes (78 ∷ tuple t) rest × FitsTuple t
unfolding new_at
new_takes total [] t rest fits e = absurd cc
new_takes total (b ∷ bytes) t rest fits e =
    let g = guard_held (eqb b 78) _ (tuple_at total bytes) (t, rest) e in
    let taken = (tuple_reads total).takes bytes t rest (IsBytes-rest b bytes fits) g.1 in
    (record { parts = ap (λ (a : ℕ). a ∷ bytes) (eqb-true b 78 g.0) ∙ ap (λ (w : List ℕ). 78 ∷ w) taken.0.parts; rest_fits = taken.0.rest_fits }, taken.1)

pub new_reads : (total : ℕ) → Reads (new_at total) (λ t. 78 ∷ tuple t) FitsTuple
new_reads total = record { again = new_again total; takes = new_takes total }

-- ---- columns

column_again : (total : ℕ) (c : RelationColumn) (rest : List ℕ) → FitsColumn c → column_at total (column c ++ rest) ≡ Ok (c, rest)
unfolding column_at column byte_at
column_again total c rest fits =
    let regrouped : column c ++ rest ≡ c.flags ∷ (string c.name ++ (int32 c.oid ++ (signed32 c.modifier ++ rest))) = simp append_assoc in
    ap (column_at total) regrouped ∙ rw ((string_reads total).again c.name (int32 c.oid ++ (signed32 c.modifier ++ rest)) fits.name, (int32_reads total).again c.oid (signed32 c.modifier ++ rest) fits.oid, (signed32_reads total).again c.modifier rest fits.modifier) refl

column_takes : (total : ℕ) (bytes : List ℕ) (c : RelationColumn) (rest : List ℕ) → IsBytes bytes → column_at total bytes ≡ Ok (c, rest) → Takes bytes (column c) rest × FitsColumn c
unfolding column_at column
column_takes total bytes x rest fits e =
    let flags = took (byte_reads total) bytes [] bytes _ (x, rest) (record { parts = refl; rest_fits = fits }) e in
    let name = took (string_reads total) bytes _ flags.rest _ (x, rest) flags.takes flags.more in
    let oid = took (int32_reads total) bytes _ name.rest _ (x, rest) name.takes name.more in
    let modifier = took (signed32_reads total) bytes _ oid.rest _ (x, rest) oid.takes oid.more in
    let made : RelationColumn = record { flags = flags.value; name = name.value; oid = oid.value; modifier = modifier.value } in
    subst (λ (y : RelationColumn × List ℕ). Takes bytes (column y.0) y.1 × FitsColumn y.0) (ok_is (made, modifier.rest) (x, rest) modifier.more) (modifier.takes, record { flags = flags.fits; name = name.fits; oid = oid.fits; modifier = modifier.fits })

pub column_reads : (total : ℕ) → Reads (column_at total) column FitsColumn
column_reads total = record { again = column_again total; takes = column_takes total }
