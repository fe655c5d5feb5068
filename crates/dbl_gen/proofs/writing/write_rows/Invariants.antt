use Rattle.std.proofs.Common.{◌≡◌, ◌+◌, ◌-◌, ◌++◌}
use Rattle.std.specs.String.{string_bytes}
use Rattle.dbl_base.specs.Lines.{lines_text}
use Rattle.dbl_gen.specs.Workload.{row_lines}
use Rattle.dbl_gen.proofs.writing.write_rows.Given as goal

abbrev pub invariant-rows : goal.invariant-rows
invariant-rows l = string_bytes l.text ++ lines_text (row_lines (l.row + 1) (l.rows - l.row)) ≡ string_bytes l.fn.text ++ lines_text (row_lines 1 l.rows)
