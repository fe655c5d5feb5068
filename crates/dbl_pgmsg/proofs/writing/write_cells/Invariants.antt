use Rattle.std.proofs.Common.{◌≡◌, ◌++◌, drop}
use Rattle.std.specs.List.{flat_map}
use Rattle.dbl_pgmsg.specs.Room.{Begins}
use Rattle.dbl_pgmsg.specs.Grammar.{cell}
use Rattle.dbl_pgmsg.proofs.writing.write_cells.Given as goal

abbrev pub invariant-loop-item : goal.invariant-loop-item
invariant-loop-item l = record { front : Begins l.fn.out.items l.out.items; equal : l.out.items ++ flat_map cell (drop l.item-index l.cells) ≡ l.fn.out.items ++ flat_map cell l.cells }
