use Rattle.dbl_pgmsg.specs.Grammar.{cell, FitsCell}
use Rattle.dbl_pgmsg.proofs.Sizes.{Rest}
use Rattle.dbl_pgmsg.proofs.fitting.cells_room.Given as goal

abbrev pub invariant-loop-item : goal.invariant-loop-item
invariant-loop-item l = Rest cell FitsCell l.fn.room l.left l.cells l.item-index
