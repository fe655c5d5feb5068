use Rattle.std.proofs.Common.{◌≡◌}
use Rattle.serde_json.specs.Data.{no_members}
use Rattle.dbl_consume.specs.Cells.{cells_data}
use Rattle.dbl_consume.specs.JsonValues.{put_all}
use Rattle.dbl_consume.proofs.cells.index_cells.Given as goal

abbrev pub invariant-loop-name : goal.invariant-loop-name
invariant-loop-name l = put_all (cells_data l.name-iterator.rest.items) (cells_data l.found.entries) ≡ put_all (cells_data l.fn.cells.items) no_members
