use Rattle.std.proofs.Common.{◌≡◌, map, drop}
use Rattle.dbl_model_table.specs.Tables.{type_at}
use Rattle.dbl_offset_content.specs.Reading.{cells_at}
use Rattle.dbl_offset_content.proofs.Many.{with_front}
use Rattle.dbl_offset_content.proofs.cursors.read_cells.Given as goal

abbrev pub invariant-loop-place : goal.invariant-loop-place
invariant-loop-place l = with_front l.cells.items (cells_at (map (type_at l.columns) (drop l.place-index l.key)) l.rest) ≡ cells_at (map (type_at l.columns) l.key) l.bytes
