use Rattle.std.proofs.Common.{◌≡◌, ◌++◌, drop}
use Rattle.std.specs.List.{flat_map}
use Rattle.dbl_pgmsg.specs.Room.{Begins}
use Rattle.dbl_pgmsg.specs.Grammar.{column}
use Rattle.dbl_pgmsg.proofs.writing.write_columns.Given as goal

abbrev pub invariant-loop-item : goal.invariant-loop-item
invariant-loop-item l = record { front : Begins l.fn.out.items l.out.items; equal : l.out.items ++ flat_map column (drop l.item-index l.columns) ≡ l.fn.out.items ++ flat_map column l.columns }
