use Rattle.dbl_model_commit.proofs.PieceLemmas.{pieces_joined}
use Rattle.dbl_model_commit.proofs.piece_laws.pieces_are_joined.Goals as goal

pub returns : goal.returns
returns c = pieces_joined
