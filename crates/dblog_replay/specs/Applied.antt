-- What `apply --lines` promises: the rows in the state of the consumer of its input's records, or the first line that isn't applied. The
-- record of a line is defined in `Apply.antt`, the consumer's state in `Consumers.antt` of dbl_record, and the line of a row in
-- `Printing.antt` of dbl_consume.
use Rattle.std.specs.Prelude.{◌≡◌, ℕ, List, Some, None, Result, Ok, Err}
use Rattle.dbl_record.specs.Consumers.{consumer_of}
use Rattle.dbl_consume.specs.Printing.{HeldRow, AreRowsOf}
use Rattle.dblog_replay.specs.declared.apply.FaultAt.{FaultAt}
use Rattle.dblog_replay.specs.Apply.{readings_of_lines, first_line_fault}

-- With this placeholder the lines lead to these rows, in byte order of topics and keys, or to this error.
abbrev pub IsApplied : List ℕ → List (List ℕ) → Result (List HeldRow) FaultAt → Type 0
IsApplied placeholder lines (Ok rows) = (first_line_fault placeholder lines ≡ None)
    × AreRowsOf (consumer_of placeholder (readings_of_lines lines)) rows
IsApplied placeholder lines (Err at) = first_line_fault placeholder lines ≡ Some at
