use Rattle.std.proofs.Common.{sym, subst, arith, ◌∙◌}
use Rattle.dbl_record.specs.GroupReading.{Fails}
use Rattle.dbl_demo_wal.specs.Reading.{spelled_change}
use Rattle.dbl_demo_wal.proofs.ChangeLaws.{change_found, change_refused, gives_same}
use Rattle.dbl_demo_wal.proofs.decoding.spelled_change.Goals as goal

pub returns-in-Ok : goal.returns-in-Ok
returns-in-Ok c =
    let bytes = c.args.bytes.now in
    gives_same c.change_of.result (spelled_change bytes) (c.change_of.ensures ∙ sym (change_found bytes c.in-Ok.message c.in-Ok.ensures.read))

pub returns-in-Err : goal.returns-in-Err
returns-in-Err c =
    let bytes = c.args.bytes.now in
    subst (λ e. Fails e (spelled_change bytes)) (sym c.refusal.ensures)
    (change_refused bytes c.decode.result c.in-Err.error (λ i. omega (arith, c.type_inv.bytes i)) c.decode.ensures.spelled c.in-Err.is)
