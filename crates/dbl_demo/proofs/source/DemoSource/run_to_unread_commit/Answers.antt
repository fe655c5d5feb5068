use Rattle.std.proofs.Common.{◌≡◌, ◌∙◌, ◌<◌, ◌≤◌, length, ap, sym, inl, inr, arith}
use Rattle.dbl_journal.proofs.Growth.{comes_on}
use Rattle.dbl_demo_wal.proofs.GroupLemmas.{end_above}
use Rattle.dbl_demo_laws.specs.Demo.{Demo}
use Rattle.dbl_demo_laws.proofs.LoopLemmas.{first_left, ran_left, reads_all, reads_end, reads_first, reads_left, reads_on}
use Rattle.dbl_demo.proofs.source.DemoSource.run_to_unread_commit.Goals as goal

-- the first group failed
pub returns-in_err-run_to_tick-clause-crash : goal.returns-in_err-run_to_tick-clause-crash
returns-in_err-run_to_tick-clause-crash g c = λ wal place running at. first_left g.D.Disk c.args.self.now c.run_to_tick.new.self c.run_to_tick.ensures.crash wal place running

pub groups-init : goal.groups-init
groups-init g c = let r = c.in_ok-run_to_tick.ensures in reads_first g.D.Disk c.args.self.now c.run_to_tick.new.self r.ran r.end r.live r.same r.comes r.cause.later r.steady

-- a commit stands there to be read
pub returns-then-has_unread-clause-ran : goal.returns-then-has_unread-clause-ran
returns-then-has_unread-clause-ran g c = reads_end g.D.Disk c.args.self.now c.groups.self c.groups.invariant (sym c.has_unread.ensures ∙ c.if-has_unread.true)

pub returns-then-has_unread-clause-crash : goal.returns-then-has_unread-clause-crash
returns-then-has_unread-clause-crash g c = λ wal place running at.
    ran_left g.D.Disk c.args.self.now c.groups.self wal place c.groups.invariant.later (reads_end g.D.Disk c.args.self.now c.groups.self c.groups.invariant (sym c.has_unread.ensures ∙ c.if-has_unread.true) wal place running at)

pub returns-then-has_unread-clause-end : goal.returns-then-has_unread-clause-end
returns-then-has_unread-clause-end g c = inl (sym c.has_unread.ensures ∙ c.if-has_unread.true)

-- a later one failed
pub returns-in_err-run_to_tick-2-clause-crash : goal.returns-in_err-run_to_tick-2-clause-crash
returns-in_err-run_to_tick-2-clause-crash g c = reads_left g.D.Disk c.args.self.now c.groups.self c.run_to_tick-in-groups.new.self c.groups.invariant (sym c.has_unread.ensures ∙ c.if-has_unread.false) c.run_to_tick-in-groups.ensures.crash

pub returns-in_err-run_to_tick-2-clause-comes : goal.returns-in_err-run_to_tick-2-clause-comes
returns-in_err-run_to_tick-2-clause-comes g c = comes_on g.D.Disk c.args.self.now.journal c.groups.self.journal c.run_to_tick-in-groups.new.self.journal c.groups.invariant.comes c.run_to_tick-in-groups.ensures.comes

pub groups-preserved : goal.groups-preserved
groups-preserved g c =
    let r = c.in_ok-run_to_tick-2.ensures in
    reads_on g.D.Disk c.args.self.now c.groups.self c.groups.invariant c.run_to_tick-in-groups.new.self (sym c.has_unread.ensures ∙ c.if-has_unread.false) r.ran r.end r.live r.same r.comes r.cause.later r.steady

-- no step is left
pub returns-clause-ran : goal.returns-clause-ran
returns-clause-ran g c =
    let steps : length c.self.inside.steps.items ≡ length c.groups.self.steps = ap (λ (s : Demo _). length s.steps) c.self.view_is in
    let none : length c.groups.self.steps ≤ c.groups.self.done = omega (arith, steps, ap (λ (s : Demo _). s.done) c.self.view_is) in
    reads_all g.D.Disk c.args.self.now c.groups.self c.groups.invariant none

pub returns-clause-crash : goal.returns-clause-crash
returns-clause-crash g c = λ wal place running at.
    let steps : length c.self.inside.steps.items ≡ length c.groups.self.steps = ap (λ (s : Demo _). length s.steps) c.self.view_is in
    let none : length c.groups.self.steps ≤ c.groups.self.done = omega (arith, steps, ap (λ (s : Demo _). s.done) c.self.view_is) in
    ran_left g.D.Disk c.args.self.now c.groups.self wal place c.groups.invariant.later (reads_all g.D.Disk c.args.self.now c.groups.self c.groups.invariant none wal place running at)

pub returns-clause-end : goal.returns-clause-end
returns-clause-end g c =
    let steps : length c.self.inside.steps.items ≡ length c.groups.self.steps = ap (λ (s : Demo _). length s.steps) c.self.view_is in
    let none : length c.groups.self.steps ≤ c.groups.self.done = omega (arith, steps, ap (λ (s : Demo _). s.done) c.self.view_is) in
    inr none

-- a group has a step at least
pub groups-smaller : goal.groups-smaller
groups-smaller g c =
    let r = c.in_ok-run_to_tick-2.ensures in
    let steps : length c.self.inside.steps.items ≡ length c.groups.self.steps = ap (λ (s : Demo _). length s.steps) c.self.view_is in
    let left : c.groups.self.done < length c.groups.self.steps = omega (arith, steps, ap (λ (s : Demo _). s.done) c.self.view_is) in
    omega (arith, left, r.end, ap (λ (s : Demo _). length s.steps) r.same, end_above c.groups.self.steps c.groups.self.done left)

pub returns-then-has_unread-clause-steady : goal.returns-then-has_unread-clause-steady
returns-then-has_unread-clause-steady g c = c.groups.invariant.known

pub returns-clause-steady : goal.returns-clause-steady
returns-clause-steady g c = c.groups.invariant.known
