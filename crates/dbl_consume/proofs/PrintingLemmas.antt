-- The text of a row.
use Rattle.std.proofs.Common.{◌≡◌, ◌∙◌, true, false, List, ℕ, [], ◌∷◌, ◌++◌, map, refl, sym, ap, append_assoc, codes}
use Rattle.std.specs.List.{join_with_byte}
use Rattle.dbl_record.specs.declared.acts.HeldCell.{HeldCell}
use Rattle.dbl_record.specs.Consumers.{HeldCells}
use Rattle.dbl_record.specs.Line.{part_text, object_text}
use Rattle.dbl_consume.specs.Printing.{cell_part}
use Rattle.dbl_consume.specs.RowTexts.{cells_tail}

joined : (c : List ℕ × HeldCell) (cs : HeldCells) → join_with_byte 44 (part_text (cell_part c) ∷ map part_text (map cell_part cs)) ++ codes "}" ≡ part_text (cell_part c) ++ cells_tail true cs
joined c [] = refl
joined c (d ∷ ds) =
    append_assoc (part_text (cell_part c)) (44 ∷ join_with_byte 44 (part_text (cell_part d) ∷ map part_text (map cell_part ds))) (codes "}")
    ∙ ap (λ t. part_text (cell_part c) ++ 44 ∷ t) (joined d ds)

pub row_is : (cells : HeldCells) → codes "{" ++ cells_tail false cells ≡ object_text (map cell_part cells)
row_is [] = refl
row_is (c ∷ cs) = ap (λ t. 123 ∷ t) (sym (joined c cs))
