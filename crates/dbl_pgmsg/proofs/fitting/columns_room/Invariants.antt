use Rattle.dbl_pgmsg.specs.Grammar.{column, FitsColumn}
use Rattle.dbl_pgmsg.proofs.Sizes.{Rest}
use Rattle.dbl_pgmsg.proofs.fitting.columns_room.Given as goal

abbrev pub invariant-loop-item : goal.invariant-loop-item
invariant-loop-item l = Rest column FitsColumn l.fn.room l.left l.columns l.item-index
