-- What is read is what was written, and what was written is read again: bytes, and items after their number.
use Rattle.std.proofs.Common.{◌≡◌, ℕ, ◌^◌, ◌<◌, List, [], ◌∷◌, ◌++◌, length, Option, Some, None, Ok, refl, sym, subst, append_assoc, arith}
use Rattle.std.specs.Int.{w32}
use Rattle.std.specs.List.{flat_map, AllByRecursion}
use Rattle.dbl_record.specs.Fields.{number32}
use Rattle.dbl_record.specs.GroupReading.{Read, number_at}
use Rattle.dbl_record.proofs.FieldLaws.{IsBytes, IsBytes-rest, ok_is, bind_ok, Takes, Takes-then, Reads, number32_reads, many_again, many_takes}
use Rattle.dbl_offset_content.specs.Entries.{counted}
use Rattle.dbl_offset_content.specs.Reading.{or_no_offset, offset_byte_at, offset_items_at}

-- what was found is there
pub found_is : {A : Type 0} (o : Option A) (x : A) → or_no_offset o ≡ Ok x → o ≡ Some x
found_is (Some y) x e = cc
found_is None x e = cc

byte_takes : (bytes : List ℕ) (b : ℕ) (rest : List ℕ) → IsBytes bytes → offset_byte_at bytes ≡ Ok (b, rest) → Takes bytes (b ∷ []) rest × (b < 2 ^ 8)
unfolding offset_byte_at
byte_takes [] b rest fits e = absurd cc
byte_takes (a ∷ bytes) b rest fits e =
    subst (λ (x : ℕ × List ℕ). Takes (a ∷ bytes) (x.0 ∷ []) x.1 × (x.0 < 2 ^ 8)) (ok_is (a, bytes) (b, rest) e) (record { parts = refl; rest_fits = IsBytes-rest a bytes fits }, fits 0)

byte_again : (b : ℕ) (rest : List ℕ) → offset_byte_at (b ∷ rest) ≡ Ok (b, rest)
unfolding offset_byte_at
byte_again b rest = refl

pub byte_reads : Reads offset_byte_at (λ b. b ∷ []) (λ b. b < 2 ^ 8)
byte_reads = record { again = λ b rest lt. byte_again b rest; takes = byte_takes }

module _ {A : Type 0} {item : List ℕ → Read A} {spell : A → List ℕ} {Fits : A → Type 0} (reads : Reads item spell Fits) where
  counted_again : (xs : List A) (rest : List ℕ) → (length xs < 2 ^ 32) × AllByRecursion Fits xs → offset_items_at item (counted spell xs ++ rest) ≡ Ok (xs, rest)
  unfolding offset_items_at counted
  counted_again xs rest fits = rw (append_assoc (number32 (length xs)) (flat_map spell xs) rest, (number32_reads 0).again (length xs) (flat_map spell xs ++ rest) fits.0) (many_again reads xs rest fits.1)

  counted_takes : (bytes : List ℕ) (xs : List A) (rest : List ℕ) → IsBytes bytes → offset_items_at item bytes ≡ Ok (xs, rest) → Takes bytes (counted spell xs) rest × ((length xs < 2 ^ 32) × AllByRecursion Fits xs)
  unfolding offset_items_at counted
  counted_takes bytes xs rest fits e =
      let a = bind_ok (number_at w32 0 bytes) _ (xs, rest) e in
      let first = (number32_reads 0).takes bytes a.0.0 a.0.1 fits a.1 in
      let second = many_takes reads a.0.0 a.0.1 xs rest first.0.rest_fits a.2 in
      let both = Takes-then bytes (number32 a.0.0) a.0.1 (flat_map spell xs) rest first.0 second.0 in
      (subst (λ (k : ℕ). Takes bytes (number32 k ++ flat_map spell xs) rest) (sym second.1) both, (omega (arith, first.1, second.1), second.2))

  pub counted_reads : Reads (offset_items_at item) (counted spell) (λ xs. (length xs < 2 ^ 32) × AllByRecursion Fits xs)
  counted_reads = record { again = counted_again; takes = counted_takes }
