use Rattle.std.proofs.Common.{arith, sym, subst, ap}
use Rattle.std.specs.Prelude.{List, length}
use Rattle.dbl_record.specs.declared.record.Record.{Record}
use Rattle.dbl_record.specs.Cuts.{IsHandful}
use Rattle.dbl_record.specs.Groups.{group_form}
use Rattle.dbl_hooks_gate.proofs.Fronts.{before_handful, before_short}
use Rattle.dbl_hooks_gate.proofs.gate.put_before.Goals as goal

pub put-requires-clause-handful : goal.put-requires-clause-handful
put-requires-clause-handful g c =
    subst IsHandful (sym c.in_ok-before.ensures)
    (before_handful c.args.group.now.items c.args.index c.requires.handful (omega (arith, c.if-index-eq0.false)) c.requires.within)

pub returns-clause-short : goal.returns-clause-short
returns-clause-short g c len is =
    let long = (c.put.ensures.too_long len is).0 in
    let short = before_short c.args.group.now.items c.args.index c.requires.handful (omega (arith, c.if-index-eq0.false)) c.requires.within in
    omega (arith, long, short, ap (λ (items : List Record). length (group_form items)) c.in_ok-before.ensures)
