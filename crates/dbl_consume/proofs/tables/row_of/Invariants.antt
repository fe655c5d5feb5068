use Rattle.std.proofs.Common.{◌≡◌, fold}
use Rattle.std.specs.BTreeMap.{insert_entry}
use Rattle.dbl_base.specs.Texts.{text_cmp}
use Rattle.dbl_record.specs.Consumers.{held_now, row_of}
use Rattle.dbl_consume.specs.Rows.{cells_in}
use Rattle.dbl_consume.proofs.tables.row_of.Given as goal

abbrev pub invariant-loop-given : goal.invariant-loop-given
invariant-loop-given l = fold (λ made cell. insert_entry text_cmp made cell.column (held_now (cells_in l.row) cell.column cell.text)) l.made.entries l.given-iterator.rest.items ≡ row_of (cells_in l.row) l.fn.cells
