-- A change of texts that isn't too long has a spelling, and how much one more change takes.
use Rattle.std.proofs.Common.{◌≡◌, ◌∙◌, ◌+◌, ◌<◌, ◌≤◌, ◌^◌, ℕ, Bool, true, false, Option, Some, None, List, [], ◌∷◌, ◌++◌, length, map, refl, ap, arith}
use Rattle.std.specs.Prelude.{◌||◌, nat_lt, fold, sum, flat_map}
use Rattle.std.specs.List.{AllByRecursion}
use Rattle.std.proofs.lemmas.List.{length-append, map-append}
use Rattle.std.proofs.lemmas.Bool.Decides.{nat_tests}
use Rattle.dbl_pgmsg.specs.declared.messages.Message.{Message}
use Rattle.dbl_pgmsg.specs.declared.messages.Message.TheVariants as says
use Rattle.dbl_pgmsg.specs.declared.messages.OldTuple.{OldTuple}
use Rattle.dbl_pgmsg.specs.declared.messages.OldTuple.TheVariants as old
use Rattle.dbl_pgmsg.specs.declared.messages.Tuple.{Tuple}
use Rattle.dbl_pgmsg.specs.declared.messages.TupleCell.{TupleCell}
use Rattle.dbl_pgmsg.specs.declared.messages.TupleCell.TheVariants as item
use Rattle.dbl_pgmsg.specs.Grammar.{cell, tuple, old_tuple, optional_tuple, spelling, FitsCell, FitsTuple, FitsOld, FitsOptional, Fits}
use Rattle.dbl_pgmsg.proofs.Sizes.{text_size, tuple_size, key_size, whole_size}
use Rattle.dbl_pgmsg.proofs.MessageSizes.{insert_size, update_size, delete_size, truncate_size}
use Rattle.dbl_tables_rows.specs.Given.{IsUtf8Cell, IsUtf8Tuple, IsUtf8Old, IsUtf8OldIfAny, IsUtf8Change}
use Rattle.dbl_tables_rows.specs.Sending.{entry_size, is_too_long}

cell_fits : (c : TupleCell) → IsUtf8Cell c → length (cell c) < 2 ^ 31 → FitsCell c
cell_fits item.Null utf8 short = tt
cell_fits item.Unchanged utf8 short = tt
cell_fits (item.Text text) utf8 short = record { utf8 = utf8; short = omega (arith, text_size text, short) }

cells_fit : (cells : List TupleCell) → AllByRecursion IsUtf8Cell cells → length (flat_map cell cells) < 2 ^ 31 → AllByRecursion FitsCell cells
cells_fit [] utf8 short = tt
cells_fit (c ∷ cells) utf8 short =
    let sizes : length (flat_map cell (c ∷ cells)) ≡ length (cell c) + length (flat_map cell cells) = length-append (cell c) (flat_map cell cells) in
    (cell_fits c utf8.0 (omega (arith, sizes, short)), cells_fit cells utf8.1 (omega (arith, sizes, short)))

tuple_fits : (t : Tuple) → IsUtf8Tuple t → length (tuple t) < 2 ^ 31 → FitsTuple t
tuple_fits t utf8 short = record { count = utf8.count; each = cells_fit t.cells utf8.each (omega (arith, tuple_size t, short)) }

old_fits : (before : OldTuple) → IsUtf8Old before → length (old_tuple before) < 2 ^ 31 → FitsOld before
old_fits (old.Key t) utf8 short = tuple_fits t utf8 (omega (arith, key_size t, short))
old_fits (old.Whole t) utf8 short = tuple_fits t utf8 (omega (arith, whole_size t, short))

optional_fits : (before : Option OldTuple) → IsUtf8OldIfAny before → length (optional_tuple before) < 2 ^ 31 → FitsOptional before
optional_fits None utf8 short = tt
optional_fits (Some before) utf8 short = old_fits before utf8 short

pub short_fits : (m : Message) → IsUtf8Change m → length (spelling m) ≤ 16777216 → Fits m
short_fits (says.Insert oid new) utf8 short = record { fields = (utf8.0, tuple_fits new utf8.1 (omega (arith, insert_size oid new, short))); short = short }
short_fits (says.Update oid before new) utf8 short = record {
  fields = (utf8.0, optional_fits before utf8.1 (omega (arith, update_size oid before new, short)), tuple_fits new utf8.2 (omega (arith, update_size oid before new, short)));
  short = short;
}
short_fits (says.Delete oid before) utf8 short = record { fields = (utf8.0, old_fits before utf8.1 (omega (arith, delete_size oid before, short))); short = short }
short_fits (says.Truncate options oids) utf8 short = record { fields = (utf8.0, omega (arith, truncate_size options oids, short), utf8.1); short = short }
short_fits (says.Begin l t x) utf8 short = absurd utf8
short_fits (says.Commit f l e t) utf8 short = absurd utf8
short_fits (says.Origin l n) utf8 short = absurd utf8
short_fits (says.TypeName o n m) utf8 short = absurd utf8
short_fits (says.Relation o n m i c) utf8 short = absurd utf8
short_fits (says.Logical f l p c) utf8 short = absurd utf8

-- so what has no spelling is too long
pub unfit_too_long : (ms : List Message) (m : Message) → IsUtf8Change m → (Fits m → ⊥) → is_too_long ms m ≡ true
unfit_too_long ms m utf8 unfit = by (nat_lt 16777216 (length (spelling m))) refl
  where
    by : (b : Bool) → nat_lt 16777216 (length (spelling m)) ≡ b → (b || nat_lt 268435456 (entry_size (ms ++ m ∷ []))) ≡ true
    by true long = refl
    by false short = let low : length (spelling m) ≤ 16777216 = grind (arith, nat_tests) in absurd (unfit (short_fits m utf8 low))

-- the sum with one more at the end
sum_push : (ns : List ℕ) (n : ℕ) → sum (ns ++ n ∷ []) ≡ sum ns + n
sum_push ns n = by 0 ns
  where
    by : (a : ℕ) (xs : List ℕ) → fold (λ (b x : ℕ). b + x) a (xs ++ n ∷ []) ≡ fold (λ (b x : ℕ). b + x) a xs + n
    by a [] = refl
    by a (x ∷ xs) = by (a + x) xs

-- the size of one message in an entry
abbrev pub size_in : Message → ℕ
size_in m = 4 + length (spelling m)

pub size_push : (ms : List Message) (m : Message) → entry_size (ms ++ m ∷ []) ≡ entry_size ms + (4 + length (spelling m))
size_push ms m =
    let sums : sum (map size_in (ms ++ m ∷ [])) ≡ sum (map size_in ms) + (4 + length (spelling m)) =
    ap sum (map-append size_in ms (m ∷ [])) ∙ sum_push (map size_in ms) (4 + length (spelling m)) in
    omega (arith, sums)
