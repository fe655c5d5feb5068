use Rattle.std.proofs.Common.{subst}
use Rattle.std.proofs.lemmas.Result.{on_ok_weaker}
use Rattle.dbl_record.specs.Line.{Appends}
use Rattle.dbl_record.proofs.Pieces.{both}
use Rattle.dbl_record.proofs.writing.append_key_header.Goals as goal

pub returns-in_ok-append-in-Some-2 : goal.returns-in_ok-append-in-Some-2
returns-in_ok-append-in-Some-2 c =
    let key : Appends c.append.new.out.items c.append-in-Some.new.out.items c.in-Some.key = subst (λ t. Appends c.append.new.out.items c.append-in-Some.new.out.items t) c.as_str.ensures.value c.in_ok-append-in-Some-2.ensures in
    rw c.in-Some.is (on_ok_weaker c.append-in-Some-2.result (λ last. both (both c.in_ok-append-in-Some.ensures key) last) c.append-in-Some-2.ensures)
