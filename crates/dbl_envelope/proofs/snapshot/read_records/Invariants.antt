use Rattle.std.proofs.Common.{◌≡◌, ◌++◌, length}
use Rattle.dbl_model_event.specs.Snapshots.{read_records}
use Rattle.dbl_envelope.specs.Suits.{SuitsRows}
use Rattle.dbl_envelope.proofs.snapshot.read_records.Given as goal

abbrev pub invariant-loop-key : goal.invariant-loop-key
invariant-loop-key l =
    (SuitsRows l.frame.info.now l.key-iterator)
    × (l.made.items ++ read_records l.frame.identity.now l.frame.info.now l.frame.commit.now l.frame.now_ms.now (length l.made.items) l.key-iterator ≡ read_records l.frame.identity.now l.frame.info.now l.frame.commit.now l.frame.now_ms.now 0 l.fn.rows)
