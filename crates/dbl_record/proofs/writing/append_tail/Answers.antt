use Rattle.std.proofs.lemmas.Result.{on_ok_weaker}
use Rattle.dbl_record.specs.Line.{tail_pieces}
use Rattle.dbl_record.proofs.Pieces.{both}
use Rattle.dbl_record.proofs.writing.append_tail.Goals as goal

pub returns : goal.returns
unfolding tail_pieces
returns c = on_ok_weaker c.append-2.result (λ last. both (both c.in_ok-append.ensures c.in_ok-append_or_null.ensures) last) c.append-2.ensures
