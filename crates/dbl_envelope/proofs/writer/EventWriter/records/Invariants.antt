use Rattle.std.proofs.Common.{◌≡◌, ◌++◌, length}
use Rattle.dbl_model_event.specs.EventJson.{envelopes}
use Rattle.dbl_envelope.proofs.writer.EventWriter.records.Given as goal

abbrev pub invariant-left : goal.invariant-left
invariant-left l = l.made.items ++ l.left ≡ envelopes l.self.identity l.self.infos l.commit l.now_ms

abbrev pub decreases-left : goal.decreases-left
decreases-left l = length l.left
