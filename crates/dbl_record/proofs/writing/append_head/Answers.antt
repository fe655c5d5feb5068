use Rattle.std.proofs.lemmas.Result.{on_ok_weaker}
use Rattle.dbl_record.specs.Line.{head_pieces}
use Rattle.dbl_record.proofs.Pieces.{both}
use Rattle.dbl_record.proofs.writing.append_head.Goals as goal

pub returns : goal.returns
unfolding head_pieces
returns c = on_ok_weaker c.append-3.result (λ last. both (both (both (both c.in_ok-append.ensures c.in_ok-append_headers.ensures) c.in_ok-append-2.ensures) c.in_ok-append_or_null.ensures) last) c.append-3.ensures
