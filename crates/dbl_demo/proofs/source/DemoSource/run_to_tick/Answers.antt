use Rattle.std.proofs.Common.{◌≡◌, ◌<◌, ◌≤◌, length, ap, refl, arith}
use Rattle.dbl_demo_laws.specs.Demo.{Demo}
use Rattle.dbl_demo.proofs.GroupLemmas.{group_comes, group_end_is, group_goes, group_left, group_over, group_known, group_over_left, group_ran}
use Rattle.dbl_demo.proofs.source.DemoSource.run_to_tick.Goals as goal

-- the step failed
pub returns-in_err-run_one-clause-crash : goal.returns-in_err-run_one-clause-crash
returns-in_err-run_one-clause-crash g c =
    let steps : length c.self.inside.steps.items ≡ length c.steps.self.steps = ap (λ (s : Demo _). length s.steps) c.self.view_is in
    let left : c.steps.self.done < length c.steps.self.steps = omega (arith, steps, ap (λ (s : Demo _). s.done) c.self.view_is) in
    group_left g.D.Disk c.args.self.now refl c.steps.invariant c.run_one.new.self left c.run_one.ensures.crash

pub returns-in_err-run_one-clause-comes : goal.returns-in_err-run_one-clause-comes
returns-in_err-run_one-clause-comes g c = group_comes g.D.Disk c.args.self.now refl c.steps.invariant c.run_one.new.self c.run_one.ensures.comes

-- it ended the group
pub returns-then-branch-clause-ran : goal.returns-then-branch-clause-ran
returns-then-branch-clause-ran g c =
    let steps : length c.self.inside.steps.items ≡ length c.steps.self.steps = ap (λ (s : Demo _). length s.steps) c.self.view_is in
    let left : c.steps.self.done < length c.steps.self.steps = omega (arith, steps, ap (λ (s : Demo _). s.done) c.self.view_is) in
    group_ran g.D.Disk c.args.self.now refl c.steps.invariant c.run_one.new.self left c.in_ok-run_one.ensures.ran c.in_ok-run_one.field-0 c.in_ok-run_one.ensures.ends c.if-branch.true

pub returns-then-branch-clause-crash : goal.returns-then-branch-clause-crash
returns-then-branch-clause-crash g c =
    let steps : length c.self.inside.steps.items ≡ length c.steps.self.steps = ap (λ (s : Demo _). length s.steps) c.self.view_is in
    let left : c.steps.self.done < length c.steps.self.steps = omega (arith, steps, ap (λ (s : Demo _). s.done) c.self.view_is) in
    group_left g.D.Disk c.args.self.now refl c.steps.invariant c.run_one.new.self left c.run_one.ensures.crash

pub returns-then-branch-clause-end : goal.returns-then-branch-clause-end
returns-then-branch-clause-end g c =
    let steps : length c.self.inside.steps.items ≡ length c.steps.self.steps = ap (λ (s : Demo _). length s.steps) c.self.view_is in
    let left : c.steps.self.done < length c.steps.self.steps = omega (arith, steps, ap (λ (s : Demo _). s.done) c.self.view_is) in
    group_end_is g.D.Disk c.args.self.now refl c.steps.invariant c.run_one.new.self left c.in_ok-run_one.ensures.ran c.in_ok-run_one.field-0 c.in_ok-run_one.ensures.ends c.if-branch.true c.in_ok-run_one.ensures.one

pub returns-then-branch-clause-comes : goal.returns-then-branch-clause-comes
returns-then-branch-clause-comes g c = group_comes g.D.Disk c.args.self.now refl c.steps.invariant c.run_one.new.self c.run_one.ensures.comes

-- it didn't
pub steps-preserved : goal.steps-preserved
steps-preserved g c =
    let steps : length c.self.inside.steps.items ≡ length c.steps.self.steps = ap (λ (s : Demo _). length s.steps) c.self.view_is in
    let left : c.steps.self.done < length c.steps.self.steps = omega (arith, steps, ap (λ (s : Demo _). s.done) c.self.view_is) in
    group_goes g.D.Disk c.args.self.now refl c.steps.invariant c.run_one.new.self left c.in_ok-run_one.ensures.ran c.in_ok-run_one.field-0 c.in_ok-run_one.ensures.ends c.if-branch.false c.in_ok-run_one.ensures.one c.in_ok-run_one.ensures.live c.run_one.ensures.same c.run_one.ensures.comes c.run_one.ensures.cause.later c.in_ok-run_one.ensures.steady

-- no step is left
pub returns-clause-ran : goal.returns-clause-ran
returns-clause-ran g c =
    let steps : length c.self.inside.steps.items ≡ length c.steps.self.steps = ap (λ (s : Demo _). length s.steps) c.self.view_is in
    let none : length c.steps.self.steps ≤ c.steps.self.done = omega (arith, steps, ap (λ (s : Demo _). s.done) c.self.view_is) in
    group_over g.D.Disk c.args.self.now c.steps.self c.steps.invariant none

pub returns-clause-crash : goal.returns-clause-crash
returns-clause-crash g c =
    let steps : length c.self.inside.steps.items ≡ length c.steps.self.steps = ap (λ (s : Demo _). length s.steps) c.self.view_is in
    let none : length c.steps.self.steps ≤ c.steps.self.done = omega (arith, steps, ap (λ (s : Demo _). s.done) c.self.view_is) in
    group_over_left g.D.Disk c.args.self.now c.steps.self c.steps.invariant none

pub returns-then-branch-clause-steady : goal.returns-then-branch-clause-steady
returns-then-branch-clause-steady g c = group_known g.D.Disk c.args.self.now refl c.steps.invariant c.run_one.new.self c.in_ok-run_one.ensures.steady

pub returns-clause-steady : goal.returns-clause-steady
returns-clause-steady g c = c.steps.invariant.known
