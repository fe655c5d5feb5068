-- Definitions for the plain functions that compute rows.
use Rattle.std.specs.Prelude.{Option, Some, None}
use Rattle.dbl_value_types.specs.declared.value.Val.{Val}
use Rattle.dbl_model_table.specs.declared.change.Cell.{Cell}
use Rattle.dbl_model_table.specs.declared.change.Cell.TheVariants.{Given, Unchanged}

-- A cell of the row after an update: the sent value, or the old one.
abbrev pub over : Option Cell → Val → Val
over None old = old
over (Some (Given v)) old = v
over (Some Unchanged) old = old
