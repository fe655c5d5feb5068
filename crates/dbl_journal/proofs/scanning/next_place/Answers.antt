use Rattle.std.proofs.Common.{◌⊎◌, inl, inr, ◌<◌, ◌+◌, ◌-◌, ◌^◌, length, arith}
use Rattle.dbl_journal.proofs.Scans.{broken_at, step_at}
use Rattle.dbl_journal.proofs.scanning.next_place.Goals.{then-got-lt5-via-then-got-lt5, then-got-lt5-via-else-got-lt5+then-length, then-got-lt5-via-else-got-lt5+else-length+then-length-total}
use Rattle.dbl_journal.proofs.scanning.next_place.Goals as goal

pub returns-then-got-lt5-clause-broken : goal.returns-then-got-lt5-clause-broken
returns-then-got-lt5-clause-broken g c bytes at told total is =
    let bad : (c.in_ok-got.got < 5) ⊎ ((2 ^ 28 < c.in-Some.length) ⊎ (length bytes - c.args.gate < c.in-Some.length + 5)) =
    elim c.then-got-lt5.branch [
      | then-got-lt5-via-then-got-lt5 w ↦ inl (omega (arith, w.if-got-lt5.true))
      | then-got-lt5-via-else-got-lt5+then-length w ↦ inr (inl (omega (arith, w.if-length.true)))
      | then-got-lt5-via-else-got-lt5+else-length+then-length-total w ↦ inr (inr (omega (arith, w.if-length-total.true, total)))
    ] in
    (cc, broken_at bytes c.read_at.new.buffer c.args.gate c.in_ok-got.got c.in-Some.length c.read_at.auto.buffer (c.in_ok-got.ensures.told bytes told) (c.in_ok-got.ensures.moved bytes told) c.in-Some.ensures.open c.in-Some.ensures.fits (omega arith) bad)

pub returns-clause-step : goal.returns-clause-step
returns-clause-step g c bytes told total =
    step_at bytes c.read_at.new.buffer c.args.gate c.in_ok-got.got c.in-Some.length c.read_at.auto.buffer (c.in_ok-got.ensures.told bytes told) (c.in_ok-got.ensures.moved bytes told) c.in-Some.ensures.open c.in-Some.ensures.fits (omega (arith, c.in_ok-got.ensures.bound)) (omega arith) (omega (arith, total))
