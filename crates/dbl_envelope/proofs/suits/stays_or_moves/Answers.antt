use Rattle.std.proofs.Common.{inl}
use Rattle.dbl_envelope.proofs.SuitTests.{passes, stays, moves}
use Rattle.dbl_envelope.proofs.suits.stays_or_moves.Goals as goal

pub returns-then-is_key_of : goal.returns-then-is_key_of
returns-then-is_key_of c = passes (inl (stays c.args.info.now c.args.key.now c.args.cells.now c.is_key_of.result c.is_key_of.ensures c.if-is_key_of.true))

pub returns : goal.returns
returns c = moves c.args.info.now c.args.key.now c.args.cells.now c.is_key_of.result c.are_given.result c.is_key_of.ensures c.if-is_key_of.false c.are_given.ensures
