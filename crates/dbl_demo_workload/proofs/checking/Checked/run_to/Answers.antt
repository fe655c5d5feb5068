use Rattle.std.proofs.Common.{◌≡◌, ◌∙◌, ◌+◌, ◌<◌, ◌≤◌, length, sym, arith, inl, inr}
use Rattle.std.proofs.lemmas.Result.{err_from_is_err_and}
use Rattle.dbl_demo_workload.proofs.CheckLemmas.{after_at, after_here, alone_left, alone_on, goes_left, goes_on, left_here, none_when, run_bad, run_begins, run_goes, run_last, run_none, run_out, runs_next, some_when, within_here}
use Rattle.dbl_demo_workload.proofs.checking.Checked.run_to.Goals as goal

pub loop-number-init : goal.loop-number-init
loop-number-init c = run_begins c.args.self.now c.requires

pub run_next-requires-clause-has_run : goal.run_next-requires-clause-has_run
run_next-requires-clause-has_run c = after_here c.args.self.now c.loop-number.self c.loop-number.number c.loop-number.invariant c.as_slice-steps.result.now c.as_slice-steps.ensures.value

pub run_next-requires-clause-left : goal.run_next-requires-clause-left
run_next-requires-clause-left c =
    left_here c.args.self.now c.loop-number.self c.loop-number.number c.loop-number.invariant c.as_slice-steps.result.now c.as_slice-steps.ensures.value c.args.steps c.loop-number-test.true (omega arith)

pub loop-number-preserved : goal.loop-number-preserved
loop-number-preserved c =
    let old = c.args.self.now in
    let now = c.loop-number.self in
    let number = c.loop-number.number in
    let run = c.loop-number.invariant in
    let steps = c.as_slice-steps.result.now in
    let are = c.as_slice-steps.ensures.value in
    let store = c.run_next.new.store in
    let committed = c.in_ok-committed.committed in
    let has_run = after_at old now number run steps are (number + 1) store c.in_ok-committed.ensures.has_run in
    let next = runs_next old now number run steps are committed store c.in_ok-committed.ensures.ran in
    run_goes old now number run committed store has_run next (none_when committed (sym c.is_some.ensures ∙ c.if-is_some.false))

-- too few, or too many
pub returns-then-last-self-clause-runs : goal.returns-then-last-self-clause-runs
returns-then-last-self-clause-runs c = run_out c.args.self.now c.args.steps (inl (omega arith))

pub returns-then-last-all-clause-runs : goal.returns-then-last-all-clause-runs
returns-then-last-all-clause-runs c = run_out c.args.self.now c.args.steps (inr (omega arith))

-- memory ran out
pub returns-in_err-committed-clause-runs : goal.returns-in_err-committed-clause-runs
returns-in_err-committed-clause-runs c = λ w entries is none.
    let p = err_from_is_err_and c.from_residual.result c.from_residual.ensures.1 in
    rw (p.1, p.2) tt

pub returns-in_err-committed-clause-same : goal.returns-in_err-committed-clause-same
returns-in_err-committed-clause-same c = alone_left c.args.self.now c.loop-number.self c.loop-number.number c.loop-number.invariant c.run_next.new.store

pub returns-in_err-committed-clause-goes : goal.returns-in_err-committed-clause-goes
returns-in_err-committed-clause-goes c =
    let old = c.args.self.now in
    let now = c.loop-number.self in
    let number = c.loop-number.number in
    let run = c.loop-number.invariant in
    let steps = c.as_slice-steps.result.now in
    let are = c.as_slice-steps.ensures.value in
    goes_left old now number run c.run_next.new.store (after_at old now number run steps are number c.run_next.new.store c.in_err-committed.ensures.kept)

-- the last step
pub returns-then-is_last-clause-runs : goal.returns-then-is_last-clause-runs
returns-then-is_last-clause-runs c =
    let old = c.args.self.now in
    let now = c.loop-number.self in
    let number = c.loop-number.number in
    let run = c.loop-number.invariant in
    let steps = c.as_slice-steps.result.now in
    let are = c.as_slice-steps.ensures.value in
    let store = c.run_next.new.store in
    let committed = c.in_ok-committed.committed in
    let has_run = after_at old now number run steps are (number + 1) store c.in_ok-committed.ensures.has_run in
    let next = runs_next old now number run steps are committed store c.in_ok-committed.ensures.ran in
    let whole : c.args.steps ≤ length old.prepared.steps.items = omega arith in
    run_last old now number run committed store has_run next c.args.steps (sym c.if-is_last.true) (within_here old now number run steps are c.args.steps whole)

pub returns-then-is_last-clause-fits : goal.returns-then-is_last-clause-fits
returns-then-is_last-clause-fits c = c.in_ok-committed.ensures.fits

pub returns-then-is_last-clause-same : goal.returns-then-is_last-clause-same
returns-then-is_last-clause-same c =
    let old = c.args.self.now in
    let now = c.loop-number.self in
    let number = c.loop-number.number in
    let run = c.loop-number.invariant in
    let steps = c.as_slice-steps.result.now in
    let are = c.as_slice-steps.ensures.value in
    let store = c.run_next.new.store in
    let committed = c.in_ok-committed.committed in
    let has_run = after_at old now number run steps are (number + 1) store c.in_ok-committed.ensures.has_run in
    let next = runs_next old now number run steps are committed store c.in_ok-committed.ensures.ran in
    alone_on old now number run committed store has_run next

pub returns-then-is_last-clause-goes : goal.returns-then-is_last-clause-goes
returns-then-is_last-clause-goes c =
    let old = c.args.self.now in
    let now = c.loop-number.self in
    let number = c.loop-number.number in
    let run = c.loop-number.invariant in
    let steps = c.as_slice-steps.result.now in
    let are = c.as_slice-steps.ensures.value in
    let store = c.run_next.new.store in
    let committed = c.in_ok-committed.committed in
    let has_run = after_at old now number run steps are (number + 1) store c.in_ok-committed.ensures.has_run in
    let next = runs_next old now number run steps are committed store c.in_ok-committed.ensures.ran in
    goes_on old now number run committed store has_run next

-- an earlier one commits
pub returns-then-is_some-clause-runs : goal.returns-then-is_some-clause-runs
returns-then-is_some-clause-runs c =
    let old = c.args.self.now in
    let now = c.loop-number.self in
    let number = c.loop-number.number in
    let run = c.loop-number.invariant in
    let steps = c.as_slice-steps.result.now in
    let are = c.as_slice-steps.ensures.value in
    let store = c.run_next.new.store in
    let committed = c.in_ok-committed.committed in
    let has_run = after_at old now number run steps are (number + 1) store c.in_ok-committed.ensures.has_run in
    let next = runs_next old now number run steps are committed store c.in_ok-committed.ensures.ran in
    let some = some_when committed (sym c.is_some.ensures ∙ c.if-is_some.true) in
    let earlier : number + 1 < c.args.steps = omega arith in
    run_bad old now number run committed store has_run next c.args.steps some.0 earlier some.1

pub returns-then-is_some-clause-same : goal.returns-then-is_some-clause-same
returns-then-is_some-clause-same c =
    let old = c.args.self.now in
    let now = c.loop-number.self in
    let number = c.loop-number.number in
    let run = c.loop-number.invariant in
    let steps = c.as_slice-steps.result.now in
    let are = c.as_slice-steps.ensures.value in
    let store = c.run_next.new.store in
    let committed = c.in_ok-committed.committed in
    let has_run = after_at old now number run steps are (number + 1) store c.in_ok-committed.ensures.has_run in
    let next = runs_next old now number run steps are committed store c.in_ok-committed.ensures.ran in
    alone_on old now number run committed store has_run next

pub returns-then-is_some-clause-goes : goal.returns-then-is_some-clause-goes
returns-then-is_some-clause-goes c =
    let old = c.args.self.now in
    let now = c.loop-number.self in
    let number = c.loop-number.number in
    let run = c.loop-number.invariant in
    let steps = c.as_slice-steps.result.now in
    let are = c.as_slice-steps.ensures.value in
    let store = c.run_next.new.store in
    let committed = c.in_ok-committed.committed in
    let has_run = after_at old now number run steps are (number + 1) store c.in_ok-committed.ensures.has_run in
    let next = runs_next old now number run steps are committed store c.in_ok-committed.ensures.ran in
    goes_on old now number run committed store has_run next

-- no step was left
pub returns-clause-runs : goal.returns-clause-runs
returns-clause-runs c =
    let last : c.args.steps ≡ c.loop-number.number = omega arith in
    let whole : c.args.steps ≤ length c.args.self.now.prepared.steps.items = omega arith in
    run_none c.args.self.now c.loop-number.self c.loop-number.number c.args.steps c.loop-number.invariant last whole

pub returns-clause-same : goal.returns-clause-same
returns-clause-same c = c.loop-number.invariant.same

pub returns-clause-goes : goal.returns-clause-goes
returns-clause-goes c = c.loop-number.invariant.goes
