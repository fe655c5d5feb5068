-- No fault of a message is past the end of its bytes.
use Rattle.std.proofs.Common.{◌≡◌, ◌⊎◌, ℕ, ◌+◌, ◌^◌, ◌≤◌, Bool, true, false, cond, eqb, leb, ltb, List, []}
use Rattle.std.proofs.Common.{◌∷◌, ◌++◌, length, get_or, Result, Ok, Err, ap, subst, arith, inl, inr}
use Rattle.std.specs.Prelude.{IfErr}
use Rattle.std.specs.Int.{w16, w32, from_be_bytes}
use Rattle.std.specs.Str.{is_utf8}
use Rattle.std.proofs.lemmas.List.{length-append}
use Rattle.dbl_pgmsg.specs.declared.error.MsgError.{MsgError}
use Rattle.dbl_pgmsg.specs.declared.error.MsgError.TheVariants.{BadIdentity, Memory}
use Rattle.dbl_pgmsg.specs.Grammar.{is_identity}
use Rattle.dbl_pgmsg.specs.Fields.{Field, Tag, Raw, String, Identity, ColumnCount, CellCount, RelationCount, Cell, TextLength, Characters, ContentLength, New}
use Rattle.dbl_pgmsg.specs.Fields.{Old, OldOrNew, width, fields_after, form, kind_fields, counted, sized, cell_fields, new_fields, old_fields, utf8_fields}
use Rattle.dbl_pgmsg.specs.Faults.{FaultAt, cut, wrong, later, IsFault, too_long, in_field, trailing}
use Rattle.dbl_stream2.specs.Reading.{fault_offset}

-- an error of the result is at this offset or before
abbrev IsWithin : ℕ → Result (List Field) MsgError → Type 0
IsWithin at (Ok fields) = Unit {0}
IsWithin at (Err e) = fault_offset e ≤ at

either_within : (at : ℕ) (b : Bool) (x y : Result (List Field) MsgError) → IsWithin at x → IsWithin at y → IsWithin at (cond b x y)
either_within at true x y p q = p
either_within at false x y p q = q

kind_within : (at b : ℕ) → IsWithin at (kind_fields b)
unfolding kind_fields
kind_within at b =
    either_within at (eqb b 66) _ _ tt (either_within at (eqb b 67) _ _ tt
    (either_within at (eqb b 79) _ _ tt (either_within at (eqb b 89) _ _ tt (either_within at (eqb b 82) _ _ tt
    (either_within at (eqb b 73) _ _ tt (either_within at (eqb b 85) _ _ tt
    (either_within at (eqb b 68) _ _ tt (either_within at (eqb b 84) _ _ tt (either_within at (eqb b 77) _ _ tt (omega arith))))))))))

counted_within : (at n : ℕ) (item : List Field) → IsWithin at (counted at n item)
unfolding counted
counted_within at n item = either_within at (leb (2 ^ 15) n) _ _ (omega arith) (either_within at (ltb 1600 n) _ _ (omega arith) tt)

sized_within : (at n : ℕ) (fields : List Field) → IsWithin at (sized at n fields)
unfolding sized
sized_within at n fields = either_within at (leb (2 ^ 31) n) _ _ (omega arith) tt

cell_within : (at b : ℕ) → IsWithin at (cell_fields at b)
unfolding cell_fields
cell_within at b =
    either_within at (eqb b 110) _ _ tt (either_within at (eqb b 117) _ _ tt
    (either_within at (eqb b 116) _ _ tt (either_within at (eqb b 98) _ _ (omega arith) (omega arith))))

new_within : (at b : ℕ) → IsWithin at (new_fields at b)
unfolding new_fields
new_within at b = either_within at (eqb b 78) _ _ tt (omega arith)

old_within : (at b : ℕ) (row : List Field) → IsWithin at (old_fields at b row)
unfolding old_fields
old_within at b row = either_within at (eqb b 75) _ _ tt (either_within at (eqb b 79) _ _ tt (omega arith))

utf8_within : (at : ℕ) (text : List ℕ) → IsWithin at (utf8_fields at text)
unfolding utf8_fields
utf8_within at text = either_within at (is_utf8 text) _ _ tt (omega arith)

after_within : (field : Field) (at : ℕ) (content : List ℕ) → IsWithin at (fields_after field at content)
after_within Tag at content = kind_within at (get_or content 0 0)
after_within (Raw n) at content = tt
after_within String at content = utf8_within at content
after_within Identity at content = either_within at (is_identity (get_or content 0 0)) (Ok []) (Err (BadIdentity (get_or content 0 0))) tt (omega arith)
after_within ColumnCount at content = counted_within at (from_be_bytes w16 content) _
after_within CellCount at content = counted_within at (from_be_bytes w16 content) _
after_within RelationCount at content = sized_within at (from_be_bytes w32 content) _
after_within Cell at content = cell_within at (get_or content 0 0)
after_within TextLength at content = sized_within at (from_be_bytes w32 content) _
after_within (Characters n) at content = utf8_within at content
after_within ContentLength at content = sized_within at (from_be_bytes w32 content) _
after_within New at content = new_within at (get_or content 0 0)
after_within Old at content = old_within at (get_or content 0 0) []
after_within OldOrNew at content = either_within at (eqb (get_or content 0 0) 78) _ _ tt (old_within at (get_or content 0 0) (New ∷ []))

error_within : (at : ℕ) (r : Result (List Field) MsgError) (e : MsgError) → r ≡ Err e → IsWithin at r → fault_offset e ≤ at
error_within at r e is within = subst (IsWithin at) is within

pub place_within : (e : MsgError) (at : ℕ) (fields : List Field) (bytes : List ℕ) → FaultAt e at fields bytes → fault_offset e ≤ at + length bytes
place_within e at fields bytes (cut is_cut is) = omega (arith, ap fault_offset is)
place_within e at (field ∷ fields) bytes (wrong content rest whole is) =
    omega (arith, error_within at (fields_after field at content) e is (after_within field at content))
place_within e at (field ∷ fields) bytes (later content rest more whole is below) =
    omega (
      arith,
      place_within e (at + length (form (width field) content)) (more ++ fields) rest below,
      ap (λ (w : List ℕ). length w) whole.parts,
      length-append (form (width field) content) rest,
    )

pub fault_within : (bytes : List ℕ) (e : MsgError) → IsFault bytes e → fault_offset e ≤ length bytes
fault_within bytes e (too_long lt is) = omega (arith, ap fault_offset is)
fault_within bytes e (in_field le h) = omega (arith, place_within e 0 (Tag ∷ []) bytes h)
fault_within bytes e (trailing le t) = omega (arith, ap fault_offset t.is, ap (λ (w : List ℕ). length w) t.parts, length-append t.front t.rest)

pub refused_within : {A : Type 0} (bytes : List ℕ) (r : Result A MsgError) → IfErr r (λ e. (e ≡ Memory) ⊎ IsFault bytes e)
    → IfErr r (λ e. fault_offset e ≤ length bytes)
refused_within bytes (Ok m) refused = tt
refused_within bytes (Err e) (inl memory) = omega (arith, ap fault_offset memory)
refused_within bytes (Err e) (inr fault) = fault_within bytes e fault
