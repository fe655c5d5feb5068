-- The cells of a tuple of which one was masked.
use Rattle.std.proofs.Common.{◌≡◌, ℕ, zero, suc, ◌<◌, ◌≤◌, List, [], ◌∷◌, length, get_or, refl, ap, arith}
use Rattle.std.proofs.Math.ListN.{set}
use Rattle.dbl_pgmsg.specs.declared.messages.TupleCell.{TupleCell}
use Rattle.dbl_hooks_masks.specs.declared.mask.Mask.{Mask}
use Rattle.dbl_hooks_masks.specs.Messages.{masked_cell, masked_cells}

-- the cell at the index was masked
pub cells_at : (mask : Mask) (place : ℕ) (cells : List TupleCell) (was : TupleCell) → place < length cells → was ≡ get_or cells place was
    → set cells place (masked_cell mask was) ≡ masked_cells mask place cells
cells_at mask zero [] was lt is = absurd (omega arith)
cells_at mask (suc place) [] was lt is = absurd (omega arith)
cells_at mask zero (c ∷ cells) was lt is = ap (λ (x : TupleCell). masked_cell mask x ∷ cells) is
cells_at mask (suc place) (c ∷ cells) was lt is = ap (λ (l : List TupleCell). c ∷ l) (cells_at mask place cells was (omega (arith, lt)) is)

-- there is no cell at the index
pub cells_past : (mask : Mask) (place : ℕ) (cells : List TupleCell) → length cells ≤ place → cells ≡ masked_cells mask place cells
cells_past mask zero [] le = refl
cells_past mask (suc place) [] le = refl
cells_past mask zero (c ∷ cells) le = absurd (omega (arith, le))
cells_past mask (suc place) (c ∷ cells) le = ap (λ (l : List TupleCell). c ∷ l) (cells_past mask place cells (omega (arith, le)))
