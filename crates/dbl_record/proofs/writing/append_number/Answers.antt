use Rattle.std.proofs.Common.{subst}
use Rattle.std.proofs.lemmas.Result.{on_ok_weaker}
use Rattle.dbl_record.specs.Line.{Appends}
use Rattle.dbl_record.proofs.Pieces.{both}
use Rattle.dbl_record.proofs.writing.append_number.Goals as goal

pub returns : goal.returns
returns c = on_ok_weaker c.append-2.result (λ last. both c.in_ok-append.ensures (subst (λ t. Appends c.append.new.out.items c.append-2.new.out.items t) c.format.ensures.text last)) c.append-2.ensures
