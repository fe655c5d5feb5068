use Rattle.std.proofs.Common.{List}
use Rattle.std.specs.Vec.Iter.{into_iter_items}
use Rattle.dbl_pgmsg.specs.declared.messages.Message.{Message}
use Rattle.dbl_base.specs.declared.lsn.Lsn.{Lsn}
use Rattle.dbl_model_table.specs.declared.table.TableInfo.{TableInfo}
use Rattle.dbl_txn.specs.Stands.{StandsWhole}
use Rattle.dbl_txn.proofs.Wholes.{TakenSoFar}
use Rattle.dbl_txn.proofs.whole.take_all.Given as goal

abbrev pub invariant-loop-message : goal.invariant-loop-message
invariant-loop-message l = (infos : List TableInfo) (after : Lsn) (ms : List Message) → StandsWhole infos after ms l.fn.assembler
    → TakenSoFar infos after ms l.fn.messages.items (into_iter_items l.message-iterator) l.assembler l.commits.items
