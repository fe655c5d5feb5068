use Rattle.std.proofs.Common.{◌≡◌, List, drop}
use Rattle.std.specs.Prelude.{nat_eq}
use Rattle.std.specs.HashMap.{get}
use Rattle.dbl_pgmsg.specs.declared.messages.Message.{Message}
use Rattle.dbl_model_table.specs.declared.table.TableInfo.{TableInfo}
use Rattle.dbl_model_commit.specs.Stated.{targets_at}
use Rattle.dbl_txn_pieces.specs.Reading.{Recalls}
use Rattle.dbl_txn_changes.proofs.Loops.{with_front}
use Rattle.dbl_txn_pieces.proofs.reader.targets_in.Given as goal

abbrev pub invariant-loop-oid : goal.invariant-loop-oid
invariant-loop-oid l = (infos : List TableInfo) (ms : List Message) → Recalls infos ms (get nat_eq l.relations)
    → with_front l.targets.items (targets_at infos (drop l.oid-index l.oids.items) ms) ≡ targets_at infos l.oids.items ms
