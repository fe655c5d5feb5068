use Rattle.std.proofs.Common.{◌≡◌, ◌<◌, ◌^◌, length, refl, ap, arith}
use Rattle.dbl_journal.specs.Stored.{OnDisk}
use Rattle.dbl_demo_laws.proofs.OpenLemmas.{bad_opened, opened_demo}
use Rattle.dbl_demo.proofs.opening.open_journal.Goals as goal

pub returns-in-Err-clause-bad : goal.returns-in-Err-clause-bad
returns-in-Err-clause-bad g c = λ forms index lists is. bad_opened forms c.in-Err.error index (c.in-Err.ensures.opened forms lists) is

pub returns-clause-opened : goal.returns-clause-opened
returns-clause-opened g c = λ forms lists.
    let read = c.in-Ok.ensures.read in
    let same : length c.check_log.new.journal.places ≡ length c.args.journal.places = ap (λ (j : OnDisk g.row.D.Denot). length j.places) read.same in
    let small : length c.check_log.new.journal.places < 2 ^ 40 = (let few = c.in-Ok.ensures.small in omega (arith, same, few)) in
    opened_demo g.D.Disk forms _ (c.in-Ok.ensures.opened forms lists) c.in-Ok.ensures.found _ (read.lists forms lists) small refl refl refl refl refl refl refl refl refl refl
