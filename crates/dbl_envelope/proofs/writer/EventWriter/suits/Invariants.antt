use Rattle.std.proofs.Common.{All, take}
use Rattle.dbl_envelope.specs.Suits.{Suits}
use Rattle.dbl_envelope.proofs.writer.EventWriter.suits.Given as goal

abbrev pub invariant-loop-change : goal.invariant-loop-change
invariant-loop-change l = All (Suits l.self.infos) (take l.change-index l.change-items)
