use Rattle.std.proofs.Common.{◌≡◌, ◌∙◌, ℕ, ◌≤◌, List, subst, arith}
use Rattle.std.specs.Prelude.{Ok, Err}
use Rattle.std.proofs.lemmas.Result.{err_from_is_err_and}
use Rattle.dbl_journal.specs.Stored.{count_of}
use Rattle.dbl_demo_workload.specs.Checking.{Checks}
use Rattle.dbl_demo_workload.specs.Logs.{HasReadParts}
use Rattle.dbl_demo_workload.proofs.LogLemmas.{check_begins, check_ends, check_goes, check_stops, read_on}
use Rattle.dbl_demo_workload.proofs.ReadLemmas.{count_same, entry_stops, fault_of_check, fault_of_entry, live_same, other_kind, read_done, read_err, read_none, read_other}
use Rattle.dbl_demo_workload.proofs.logs.check_entries.Goals as goal

pub loop-number-init : goal.loop-number-init
loop-number-init g c = check_begins g.D.Disk c.args.journal.now c.args.checked.now c.requires.parts

pub read_entry-requires-clause-live : goal.read_entry-requires-clause-live
read_entry-requires-clause-live g c = live_same c.args.journal.now c.loop-number.journal c.loop-number.invariant.read.same c.requires.live

pub read_entry-requires-clause-within : goal.read_entry-requires-clause-within
read_entry-requires-clause-within g c = omega (arith, count_same c.args.journal.now c.loop-number.journal c.loop-number.invariant.read.same)

pub loop-number-preserved : goal.loop-number-preserved
loop-number-preserved g c =
    let d = g.D.Disk in
    let old = c.args.journal.now in
    let l = c.loop-number in
    check_goes d old l.journal c.read_entry.new.journal c.args.checked.now l.checked l.number l.invariant c.in_ok-entry.entry (read_none d l.journal c.read_entry.new.journal c.in_ok-entry.entry c.in_ok-entry.ensures.read)
    c.in_ok-entry.ensures.found c.take.new.self (subst (λ (b : List ℕ). Checks l.number b l.checked c.take.new.self (Ok tt)) (c.as_slice.ensures.value ∙ c.items.ensures) c.in_ok-take.ensures.checks) c.in_ok-take.ensures.parts

-- an entry can't be read
pub returns-in_err-entry-clause-checks : goal.returns-in_err-entry-clause-checks
returns-in_err-entry-clause-checks g c = λ forms lists first others are opened.
    let p = err_from_is_err_and c.from_residual.result c.from_residual.ensures.1 in
    rw (p.1, p.2) (entry_stops forms c.args.checked.now c.loop-number.checked c.in_err-entry.field-0.0 c.in_err-entry.ensures.kinds first others are opened)

pub returns-in_err-entry-clause-kinds : goal.returns-in_err-entry-clause-kinds
returns-in_err-entry-clause-kinds g c =
    let p = err_from_is_err_and c.from_residual.result c.from_residual.ensures.1 in
    rw (p.1, p.2) (fault_of_entry c.in_err-entry.field-0.0 c.in_err-entry.ensures.kinds)

pub returns-in_err-entry-clause-read : goal.returns-in_err-entry-clause-read
returns-in_err-entry-clause-read g c =
    let d = g.D.Disk in
    let old = c.args.journal.now in
    let l = c.loop-number in
    let p = err_from_is_err_and c.from_residual.result c.from_residual.ensures.1 in
    rw (p.1, p.2) (read_on d _ old l.journal c.read_entry.new.journal l.invariant.read (read_err d l.journal c.read_entry.new.journal c.in_err-entry.field-0.0 c.in_err-entry.ensures.read))

-- it isn't taken
pub returns-in_err-take-clause-checks : goal.returns-in_err-take-clause-checks
returns-in_err-take-clause-checks g c = λ forms lists first others are opened.
    let d = g.D.Disk in
    let old = c.args.journal.now in
    let l = c.loop-number in
    let p = err_from_is_err_and c.from_residual-in_err-take.result c.from_residual-in_err-take.ensures.1 in
    let e = c.in_err-take.field-0.0 in
    rw (p.1, p.2) (check_stops d old l.journal c.read_entry.new.journal c.args.checked.now l.checked l.number l.invariant c.in_ok-entry.entry (read_none d l.journal c.read_entry.new.journal c.in_ok-entry.entry c.in_ok-entry.ensures.read)
    c.in_ok-entry.ensures.found c.take.new.self e (subst (λ (b : List ℕ). Checks l.number b l.checked c.take.new.self (Err e)) (c.as_slice.ensures.value ∙ c.items.ensures) c.in_err-take.ensures.checks) forms lists first others are opened)

pub returns-in_err-take-clause-kinds : goal.returns-in_err-take-clause-kinds
returns-in_err-take-clause-kinds g c =
    let p = err_from_is_err_and c.from_residual-in_err-take.result c.from_residual-in_err-take.ensures.1 in
    rw (p.1, p.2) (fault_of_check c.loop-number.number c.in_err-take.field-0.0 c.in_err-take.ensures.kinds)

pub returns-in_err-take-clause-read : goal.returns-in_err-take-clause-read
returns-in_err-take-clause-read g c =
    let d = g.D.Disk in
    let old = c.args.journal.now in
    let l = c.loop-number in
    let p = err_from_is_err_and c.from_residual-in_err-take.result c.from_residual-in_err-take.ensures.1 in
    let e = c.in_err-take.field-0.0 in
    rw (p.1, p.2) (read_on d _ old l.journal c.read_entry.new.journal l.invariant.read
    (read_other d l.journal c.read_entry.new.journal c.in_ok-entry.entry e (other_kind l.number e c.in_err-take.ensures.kinds) c.in_ok-entry.ensures.read))

-- all were taken
pub returns-clause-checks : goal.returns-clause-checks
returns-clause-checks g c =
    let all : count_of c.args.journal.now ≤ c.loop-number.number = omega arith in
    check_ends g.D.Disk c.args.journal.now c.loop-number.journal c.args.checked.now c.loop-number.checked c.loop-number.number c.loop-number.invariant all

pub returns-clause-parts : goal.returns-clause-parts
returns-clause-parts g c =
    let all : c.loop-number.number ≡ count_of c.args.journal.now = omega arith in
    subst (λ (n : ℕ). HasReadParts n c.loop-number.checked) all c.loop-number.invariant.parts

pub returns-clause-read : goal.returns-clause-read
returns-clause-read g c = read_done g.D.Disk c.args.journal.now c.loop-number.journal tt c.loop-number.invariant.read
