use Rattle.std.proofs.Common.{◌≡◌, map, take}
use Rattle.std.specs.List.{AllByRecursion}
use Rattle.dbl_tables_rows.specs.Sending.{sent_cell}
use Rattle.dbl_tables_rows.specs.Given.{IsUtf8Cell}
use Rattle.dbl_tables_rows.proofs.sending.whole_tuple.Given as goal

abbrev pub invariant-loop-text : goal.invariant-loop-text
invariant-loop-text l = record {
  sent : l.cells.items ≡ map sent_cell (take l.text-index l.text-items);
  utf8 : AllByRecursion IsUtf8Cell l.cells.items;
}
