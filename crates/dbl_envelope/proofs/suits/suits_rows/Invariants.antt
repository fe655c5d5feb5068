use Rattle.dbl_envelope.specs.Suits.{SuitsRows}
use Rattle.dbl_envelope.proofs.suits.suits_rows.Given as goal

abbrev pub invariant-loop-key : goal.invariant-loop-key
invariant-loop-key l = (SuitsRows l.info l.key-iterator → SuitsRows l.info l.fn.rows) × (SuitsRows l.info l.fn.rows → SuitsRows l.info l.key-iterator)
