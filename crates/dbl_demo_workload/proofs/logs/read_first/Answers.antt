use Rattle.std.proofs.Common.{◌∙◌, ℕ, List, inr, refl, sym, subst}
use Rattle.std.proofs.lemmas.Result.{err_from_is_err_and}
use Rattle.dbl_demo_workload.specs.Logs.{BeginsWithWorkload}
use Rattle.dbl_demo_workload.proofs.LogLemmas.{not_read}
use Rattle.dbl_demo_workload.proofs.ReadLemmas.{fault_of_entry, fault_of_workload, first_fault, first_none, first_parts, first_read, other_kind, read_err, read_ok, read_other, refused_there, workload_kind}
use Rattle.dbl_demo_workload.proofs.logs.read_first.Goals as goal

-- there is none
pub returns-then-count-eq0-clause-first : goal.returns-then-count-eq0-clause-first
returns-then-count-eq0-clause-first g c = first_none g.D.Disk c.args.journal.now c.no_workload.result c.no_workload.ensures (sym c.count.ensures.count ∙ c.if-count-eq0.true)

pub returns-then-count-eq0-clause-kinds : goal.returns-then-count-eq0-clause-kinds
returns-then-count-eq0-clause-kinds g c = inr (inr (0, c.no_workload.ensures))

pub returns-then-count-eq0-clause-read : goal.returns-then-count-eq0-clause-read
returns-then-count-eq0-clause-read g c = not_read g.D.Disk _ c.args.journal.now (λ failed. other_kind {T = _} 0 c.no_workload.result (inr c.no_workload.ensures) failed)

-- it can't be read
pub returns-in_err-entry-clause-first : goal.returns-in_err-entry-clause-first
returns-in_err-entry-clause-first g c = λ forms lists.
    let p = err_from_is_err_and c.from_residual.result c.from_residual.ensures.1 in
    rw (p.1, p.2) (first_fault forms c.in_err-entry.field-0.0 c.in_err-entry.ensures.kinds)

pub returns-in_err-entry-clause-kinds : goal.returns-in_err-entry-clause-kinds
returns-in_err-entry-clause-kinds g c =
    let p = err_from_is_err_and c.from_residual.result c.from_residual.ensures.1 in
    rw (p.1, p.2) (fault_of_entry c.in_err-entry.field-0.0 c.in_err-entry.ensures.kinds)

pub returns-in_err-entry-clause-read : goal.returns-in_err-entry-clause-read
returns-in_err-entry-clause-read g c =
    let p = err_from_is_err_and c.from_residual.result c.from_residual.ensures.1 in
    rw (p.1, p.2) (read_err g.D.Disk c.args.journal.now c.read_entry.new.journal c.in_err-entry.field-0.0 c.in_err-entry.ensures.read)

-- it is no workload
pub returns-in_err-prepared-clause-first : goal.returns-in_err-prepared-clause-first
returns-in_err-prepared-clause-first g c = λ forms lists.
    let p = err_from_is_err_and c.from_residual-in_err-prepared.result c.from_residual-in_err-prepared.ensures.1 in
    rw (p.1, p.2) (refused_there forms c.in_ok-entry.entry c.as_slice.result.now c.in_err-prepared.field-0.0 (c.as_slice.ensures.value ∙ c.items.ensures) (c.in_ok-entry.ensures.found forms lists) c.in_err-prepared.ensures.refused)

pub returns-in_err-prepared-clause-kinds : goal.returns-in_err-prepared-clause-kinds
returns-in_err-prepared-clause-kinds g c =
    let p = err_from_is_err_and c.from_residual-in_err-prepared.result c.from_residual-in_err-prepared.ensures.1 in
    rw (p.1, p.2) (fault_of_workload c.in_err-prepared.field-0.0 c.in_err-prepared.ensures.refused)

pub returns-in_err-prepared-clause-read : goal.returns-in_err-prepared-clause-read
returns-in_err-prepared-clause-read g c =
    let p = err_from_is_err_and c.from_residual-in_err-prepared.result c.from_residual-in_err-prepared.ensures.1 in
    let e = c.in_err-prepared.field-0.0 in
    rw (p.1, p.2) (read_other g.D.Disk c.args.journal.now c.read_entry.new.journal c.in_ok-entry.entry e (other_kind 0 e (workload_kind e c.in_err-prepared.ensures.refused)) c.in_ok-entry.ensures.read)

-- it is one
pub returns-clause-first : goal.returns-clause-first
returns-clause-first g c = λ forms lists.
    let bytes = c.as_slice.ensures.value ∙ c.items.ensures in
    first_read forms c.in_ok-entry.entry (record { prepared = c.in_ok-prepared.prepared; done = 0; commits = c.new.result; confirmed = record { 0 = 0 } }) (c.in_ok-entry.ensures.found forms lists)
    (subst (λ (b : List ℕ). BeginsWithWorkload b c.in_ok-prepared.prepared) bytes c.in_ok-prepared.ensures.ready) c.in_ok-prepared.ensures.fits refl c.new.ensures.items refl

pub returns-clause-parts : goal.returns-clause-parts
returns-clause-parts g c =
    first_parts c.as_slice.result.now (record { prepared = c.in_ok-prepared.prepared; done = 0; commits = c.new.result; confirmed = record { 0 = 0 } }) c.in_ok-prepared.ensures.ready c.in_ok-prepared.ensures.fits refl c.new.ensures.items

pub returns-clause-read : goal.returns-clause-read
returns-clause-read g c = read_ok g.D.Disk c.args.journal.now c.read_entry.new.journal c.in_ok-entry.entry (record { prepared = c.in_ok-prepared.prepared; done = 0; commits = c.new.result; confirmed = record { 0 = 0 } }) c.in_ok-entry.ensures.read
