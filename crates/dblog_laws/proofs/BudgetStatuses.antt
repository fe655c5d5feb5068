-- What the statuses 0 and 3 tell of how a session ended, and what a summary tells of what it left.
use Rattle.std.proofs.Common.{◌≡◌, ◌∙◌, inl, inr, ℕ, ℤ, ◌<◌, ◌≤◌, Option, Ok, Err, List, refl, sym, ap, subst, arith}
use Rattle.std.specs.Prelude.{IfOk}
use Rattle.dbl_model_commit.specs.declared.txn_error.TxnError.{TxnError}
use Rattle.dbl_model_commit.specs.declared.txn_error.TxnError.TheVariants as txn
use Rattle.dblog_run.specs.Replay.LogFaults.{transaction_status}
use Rattle.dblog_run.specs.CaptureWork.declared.halt.Halt.{Halt}
use Rattle.dblog_run.specs.CaptureWork.declared.halt.Halt.TheVariants as halt
use Rattle.dblog_run.specs.CaptureWork.declared.report.Ending.{Ending}
use Rattle.dblog_run.specs.CaptureWork.declared.report.Ending.TheVariants.{Complete, Budget}
use Rattle.dblog_run.specs.Init.declared.error.Store.TheVariants.{Wal as WalStore, Topics, Offsets}
use Rattle.dbl_demo_wal.specs.Wals.{Wal}
use Rattle.dbl_demo_wal.specs.Workloads.{IsWorkload}
use Rattle.dbl_demo_wal.proofs.WalLaws.{one_wal, one_workload}
use Rattle.dblog_run.specs.Promise.Contents.{Contents, ReadAs}
use Rattle.dblog_run.proofs.PromiseKeptLaws.{disks_are_read_once}
use Rattle.dblog_run.specs.Connect.declared.asked.Asked.{Asked}
use Rattle.dblog_run.specs.Connect.ConnectEnds.declared.summary.Summary.{Summary}
use Rattle.dblog_run.specs.Connect.ConnectEnds.declared.error.ConnectError.{ConnectError}
use Rattle.dblog_run.specs.Connect.ConnectEnds.declared.error.ConnectError.TheVariants as connect
use Rattle.dblog_run.specs.Connect.Asked.{budget_of}
use Rattle.dblog_run.specs.Connect.Ends.{ConnectEnd, HasRun, IsCompleteEnd, IsSpent}
use Rattle.dblog_run.specs.Capture.Halts.{halt_status}
use Rattle.dblog_run.specs.Capture.Reports.{ending_status}
use Rattle.dblog_run.specs.Capture.Ends.{SaysSession, connect_status, session_status}
use Rattle.dblog_run.proofs.CaptureSessionLemmas.{complete_end, says_status}
use Rattle.dbl_lines.specs.declared.status.Status.{Status}
use Rattle.dbl_lines.specs.declared.status.Status.TheVariants.{BudgetSpent}
use Rattle.dbl_lines.proofs.SayLemmas.{cut_other}
use Rattle.dblog_laws.specs.RunLaws.{StatusesTellBudgets}
use Rattle.dblog_laws.specs.Sessions.{MayLeaveContents}

-- ---- no error has the status 3

txn_not_3 : (e : TxnError) (status : Status) → status ≡ transaction_status e → status ≡ BudgetSpent → ⊥
txn_not_3 txn.OutsideTransaction status is three = cc
txn_not_3 txn.NestedBegin status is three = cc
txn_not_3 (txn.CommitMismatch begin commit) status is three = cc
txn_not_3 (txn.LsnOrder last got) status is three = cc
txn_not_3 (txn.UnknownRelation oid) status is three = cc
txn_not_3 (txn.ColumnCount want got) status is three = cc
txn_not_3 (txn.SchemaChanged table) status is three = cc
txn_not_3 (txn.KeyNotInIdentity table) status is three = cc
txn_not_3 (txn.MissingOld table) status is three = cc
txn_not_3 (txn.UnchangedCell table column) status is three = cc
txn_not_3 (txn.MovedUnchanged table column) status is three = cc
txn_not_3 (txn.NullKey table) status is three = cc
txn_not_3 (txn.Value table column error) status is three = cc
txn_not_3 txn.BadMark status is three = cc
txn_not_3 txn.Memory status is three = cc

halt_not_3 : (h : Halt) (status : Status) → status ≡ halt_status h → status ≡ BudgetSpent → ⊥
halt_not_3 (halt.Message number error) status is three = cc
halt_not_3 (halt.Txn number error) status is three = txn_not_3 error status is three
halt_not_3 (halt.Chunk table row) status is three = cc
halt_not_3 (halt.Altered table) status is three = cc
halt_not_3 (halt.Cell table column error) status is three = cc
halt_not_3 (halt.Clash table column) status is three = cc
halt_not_3 (halt.RecordTooLong len) status is three = cc
halt_not_3 (halt.OffsetTooLong len) status is three = cc
halt_not_3 (halt.Model error) status is three = cc
halt_not_3 (halt.UnknownTable table) status is three = cc
halt_not_3 (halt.Gone asked first) status is three = cc
halt_not_3 (halt.WatermarkMissing value at) status is three = cc
halt_not_3 (halt.Exhausted incarnation) status is three = cc
halt_not_3 halt.Source status is three = cc
halt_not_3 halt.Sink status is three = cc
halt_not_3 halt.Offsets status is three = cc
halt_not_3 halt.Memory status is three = cc

error_not_3 : (e : ConnectError) (status : Status) → status ≡ connect_status e → status ≡ BudgetSpent → ⊥
error_not_3 (connect.Failed WalStore) status is three = cc
error_not_3 (connect.Failed Topics) status is three = cc
error_not_3 (connect.Failed Offsets) status is three = cc
error_not_3 (connect.NotAStore store at) status is three = cc
error_not_3 (connect.BadEntry store index) status is three = cc
error_not_3 connect.AlreadyStarted status is three = cc
error_not_3 connect.NotStarted status is three = cc
error_not_3 (connect.Halted h) status is three = halt_not_3 h status is three
error_not_3 (connect.Refused position ordinal) status is three = cc
error_not_3 connect.Memory status is three = cc

-- ---- it ended with its budget

abbrev pub HasSpent : ConnectEnd → Type 0
HasSpent (Ok summary) = summary.ending ≡ Budget
HasSpent (Err e) = ⊥

ending_3 : (ending : Ending) (status : Status) → status ≡ ending_status ending → status ≡ BudgetSpent → ending ≡ Budget
ending_3 Complete status is three = cc
ending_3 Budget status is three = refl

own_3 : (end : ConnectEnd) (status : Status) → status ≡ session_status end → status ≡ BudgetSpent → HasSpent end
own_3 (Ok summary) status is three = ending_3 summary.ending status is three
own_3 (Err e) status is three = absurd (error_not_3 e status is three)

pub spent_end : (end : ConnectEnd) (status : Status) (before after : Option (List ℕ)) → SaysSession end status before after → status ≡ BudgetSpent → HasSpent end
spent_end end status before after says three =
    elim (says_status end status before after says) [ inl is ↦ own_3 end status is three | inr cut ↦ absurd (cut_other BudgetSpent status (λ e. cc, λ e. cc) cut three) ]

-- ---- what that tells of the budget

with_budget : (budget : ℕ) (end : ConnectEnd) → HasSpent end → IfOk end (IsSpent budget)
    → (summary : Summary) × (end ≡ Ok summary) × (summary.ending ≡ Budget) × (summary.report.messages ≡ budget)
with_budget budget (Ok summary) spent counts = (summary, refl, spent, counts.spent spent)
with_budget budget (Err e) spent counts = absurd spent

below_budget : (budget : ℕ) (end : ConnectEnd) → IsCompleteEnd end → IfOk end (IsSpent budget)
    → (summary : Summary) × (end ≡ Ok summary) × (summary.ending ≡ Complete) × (summary.report.messages < budget)
below_budget budget (Ok summary) complete counts = (summary, refl, complete, counts.complete complete)
below_budget budget (Err e) complete counts = absurd complete

pub statuses_tell_budgets : (wals logs stores new_wals new_logs new_stores : List ℕ → Type 0) → StatusesTellBudgets wals logs stores new_wals new_logs new_stores
statuses_tell_budgets wals logs stores new_wals new_logs new_stores asked now told_wal told_topics told_offsets status before after runs = record {
  spent = λ three. with_budget (budget_of asked) runs.end (spent_end runs.end status before after runs.says three) runs.spent;
  complete = λ zero. below_budget (budget_of asked) runs.end (complete_end runs.end runs.kinds status before after runs.says zero) runs.spent;
}

pub not_spent : (budget most : ℕ) (end : ConnectEnd) → HasSpent end → IfOk end (λ summary. summary.report.messages ≤ most) → IfOk end (IsSpent budget) → most < budget → ⊥
not_spent budget most (Ok summary) spent few counts less =
    let many = counts.spent spent in
    omega (arith, few, many, less)
not_spent budget most (Err e) spent few counts less = absurd spent

-- ---- what was left has the workload of before

pub workload_stays : (asked : Asked) (now : ℤ) (wals logs stores : List ℕ → Type 0) (w t f : List ℕ) (left held : Contents) → MayLeaveContents wals logs stores left → ReadAs w t f held
    → (summary : Summary) → HasRun asked now wals logs stores w t f summary → left.wal.workload ≡ held.wal.workload
workload_stays asked now wals logs stores w t f left held may read summary run =
    let stays = run.stays may.w may.wal in
    let same : stays.0 ≡ left.wal = one_wal may.w stays.0 left.wal stays.1 may.read.source in
    let began : run.begun.held ≡ held = disks_are_read_once w t f run.begun.held held run.begun.read read in
    let script : left.wal.script ≡ held.wal.script = sym (ap (λ (x : Wal). x.script) same) ∙ stays.2 ∙ ap (λ (c : Contents). c.wal.script) began in
    one_workload held.wal.script left.wal.workload held.wal.workload (subst (λ (s : List ℕ). IsWorkload s left.wal.workload) script may.read.source.are.workload) read.source.are.workload
