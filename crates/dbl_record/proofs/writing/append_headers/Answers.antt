use Rattle.std.proofs.lemmas.Result.{on_ok_weaker}
use Rattle.dbl_record.specs.Line.{headers_pieces}
use Rattle.dbl_record.proofs.Pieces.{both}
use Rattle.dbl_record.proofs.writing.append_headers.Goals as goal

pub returns : goal.returns
unfolding headers_pieces
returns c = on_ok_weaker c.append_place.result (λ last. both (both (both c.in_ok-append.ensures c.in_ok-append_key_header.ensures) c.in_ok-append_key_header-2.ensures) last) c.append_place.ensures
