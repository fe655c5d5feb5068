use Rattle.std.proofs.Common.{◌∙◌, ℕ, inr, refl, sym, subst, arith}
use Rattle.std.proofs.lemmas.Result.{err_from_is_err_and}
use Rattle.dbl_demo_workload.specs.declared.error.DemoError.TheVariants as demo
use Rattle.dbl_demo_workload.specs.Logs.{HasReadParts}
use Rattle.dbl_demo_workload.proofs.ReadLemmas.{count_same, live_same, log_first, log_missing, log_read, log_refused, other_kind, read_err, read_none, read_ok, read_other}
use Rattle.dbl_demo_workload.proofs.CheckLemmas.{none_when, some_when}
use Rattle.dbl_demo_workload.proofs.LogLemmas.{read_on}
use Rattle.dbl_demo_workload.proofs.logs.check_log.Goals as goal

pub check_entries-requires-clause-live : goal.check_entries-requires-clause-live
check_entries-requires-clause-live g c = live_same c.args.journal.now c.read_first.new.journal c.in_ok-checked.ensures.read.same c.requires

pub check_entries-requires-clause-some : goal.check_entries-requires-clause-some
check_entries-requires-clause-some g c = omega (arith, c.in_ok-checked.ensures.some, count_same c.args.journal.now c.read_first.new.journal c.in_ok-checked.ensures.read.same)

pub check_entries-requires-clause-parts : goal.check_entries-requires-clause-parts
check_entries-requires-clause-parts g c = c.in_ok-checked.ensures.parts

-- the first entry
pub returns-in_err-checked-clause-opened : goal.returns-in_err-checked-clause-opened
returns-in_err-checked-clause-opened g c = λ forms lists.
    let p = err_from_is_err_and c.from_residual.result c.from_residual.ensures.1 in
    rw (p.1, p.2) (log_first forms c.in_err-checked.field-0.0 (c.in_err-checked.ensures.first forms lists))

pub returns-in_err-checked-clause-kinds : goal.returns-in_err-checked-clause-kinds
returns-in_err-checked-clause-kinds g c =
    let p = err_from_is_err_and c.from_residual.result c.from_residual.ensures.1 in
    rw (p.1, p.2) c.in_err-checked.ensures.kinds

pub returns-in_err-checked-clause-read : goal.returns-in_err-checked-clause-read
returns-in_err-checked-clause-read g c =
    let p = err_from_is_err_and c.from_residual.result c.from_residual.ensures.1 in
    rw (p.1, p.2) (read_err g.D.Disk c.args.journal.now c.read_first.new.journal c.in_err-checked.field-0.0 c.in_err-checked.ensures.read)

-- the others
pub returns-in_err-check_entries-clause-opened : goal.returns-in_err-check_entries-clause-opened
returns-in_err-check_entries-clause-opened g c = λ forms lists.
    let p = err_from_is_err_and c.from_residual-in_err-check_entries.result c.from_residual-in_err-check_entries.ensures.1 in
    rw (p.1, p.2) (log_refused forms c.in_ok-checked.checked c.check_entries.new.checked c.in_err-check_entries.field-0.0 (c.in_ok-checked.ensures.first forms lists)
    (c.in_err-check_entries.ensures.checks forms (c.in_ok-checked.ensures.read.lists forms lists)))

pub returns-in_err-check_entries-clause-kinds : goal.returns-in_err-check_entries-clause-kinds
returns-in_err-check_entries-clause-kinds g c =
    let p = err_from_is_err_and c.from_residual-in_err-check_entries.result c.from_residual-in_err-check_entries.ensures.1 in
    rw (p.1, p.2) c.in_err-check_entries.ensures.kinds

pub returns-in_err-check_entries-clause-read : goal.returns-in_err-check_entries-clause-read
returns-in_err-check_entries-clause-read g c =
    let d = g.D.Disk in
    let first = c.args.journal.now in
    let second = c.read_first.new.journal in
    let third = c.check_entries.new.journal in
    let begun = read_none d first second c.in_ok-checked.checked c.in_ok-checked.ensures.read in
    let p = err_from_is_err_and c.from_residual-in_err-check_entries.result c.from_residual-in_err-check_entries.ensures.1 in
    rw (p.1, p.2) (read_on d _ first second third begun (read_err d second third c.in_err-check_entries.field-0.0 c.in_err-check_entries.ensures.read))

-- the commit of the rows is missing
pub returns-then-is_some-clause-opened : goal.returns-then-is_some-clause-opened
returns-then-is_some-clause-opened g c = λ forms lists.
    let some = some_when c.check_entries.new.checked.prepared.rows (sym c.is_some.ensures ∙ c.if-is_some.true) in
    log_missing forms c.in_ok-checked.checked c.check_entries.new.checked some.0 (c.in_ok-checked.ensures.first forms lists) (c.in_ok-check_entries.ensures.checks forms (c.in_ok-checked.ensures.read.lists forms lists)) some.1

pub returns-then-is_some-clause-kinds : goal.returns-then-is_some-clause-kinds
returns-then-is_some-clause-kinds g c = inr (inr (1, refl))

pub returns-then-is_some-clause-read : goal.returns-then-is_some-clause-read
returns-then-is_some-clause-read g c =
    let d = g.D.Disk in
    let first = c.args.journal.now in
    let second = c.read_first.new.journal in
    let third = c.check_entries.new.journal in
    let begun = read_none d first second c.in_ok-checked.checked c.in_ok-checked.ensures.read in
    read_on d _ first second third begun (read_other d second third tt (demo.BadEntry 1) (other_kind 1 (demo.BadEntry 1) (inr refl)) c.in_ok-check_entries.ensures.read)

-- nothing is missing
pub returns-clause-opened : goal.returns-clause-opened
returns-clause-opened g c = λ forms lists.
    let none = none_when c.check_entries.new.checked.prepared.rows (sym c.is_some.ensures ∙ c.if-is_some.false) in
    log_read forms c.in_ok-checked.checked c.check_entries.new.checked (c.in_ok-checked.ensures.first forms lists) (c.in_ok-check_entries.ensures.checks forms (c.in_ok-checked.ensures.read.lists forms lists)) none

pub returns-clause-found : goal.returns-clause-found
returns-clause-found g c = none_when c.check_entries.new.checked.prepared.rows (sym c.is_some.ensures ∙ c.if-is_some.false)

pub returns-clause-named : goal.returns-clause-named
returns-clause-named g c = c.in_ok-check_entries.ensures.parts.goes.named

pub returns-clause-parts : goal.returns-clause-parts
returns-clause-parts g c = subst (λ (n : ℕ). HasReadParts n c.check_entries.new.checked) (count_same c.args.journal.now c.read_first.new.journal c.in_ok-checked.ensures.read.same) c.in_ok-check_entries.ensures.parts

pub returns-clause-read : goal.returns-clause-read
returns-clause-read g c =
    let d = g.D.Disk in
    let first = c.args.journal.now in
    let second = c.read_first.new.journal in
    let third = c.check_entries.new.journal in
    let begun = read_none d first second c.in_ok-checked.checked c.in_ok-checked.ensures.read in
    read_on d _ first second third begun (read_ok d second third tt c.check_entries.new.checked c.in_ok-check_entries.ensures.read)
