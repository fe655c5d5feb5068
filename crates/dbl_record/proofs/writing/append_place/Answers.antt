use Rattle.std.proofs.lemmas.Result.{on_ok_weaker}
use Rattle.dbl_record.specs.Line.{place_pieces}
use Rattle.dbl_record.proofs.Pieces.{both}
use Rattle.dbl_record.proofs.writing.append_place.Goals as goal

pub returns : goal.returns
unfolding place_pieces
returns c = on_ok_weaker c.append-2.result (λ last. both (both (both (both c.in_ok-append.ensures c.in_ok-append_truth.ensures) c.in_ok-append_number.ensures) c.in_ok-append_number-2.ensures) last) c.append-2.ensures
