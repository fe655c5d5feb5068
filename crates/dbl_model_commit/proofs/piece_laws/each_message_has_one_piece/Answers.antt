use Rattle.dbl_model_commit.proofs.PieceLemmas.{one_piece}
use Rattle.dbl_model_commit.proofs.piece_laws.each_message_has_one_piece.Goals as goal

pub returns : goal.returns
returns c = one_piece
