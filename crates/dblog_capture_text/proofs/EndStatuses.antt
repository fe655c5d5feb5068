-- The status with which a session ends, by its error.
use Rattle.std.proofs.Common.{◌≡◌, ◌≢◌, ◌⊎◌, inl, inr, ◌∙◌, refl, sym}
use Rattle.dbl_model_commit.specs.declared.txn_error.TxnError.{TxnError}
use Rattle.dbl_model_commit.specs.declared.txn_error.TxnError.TheVariants as txn
use Rattle.dblog_replay.specs.LogFaults.{transaction_status}
use Rattle.dbl_capture_work.specs.declared.halt.Halt.{Halt}
use Rattle.dbl_capture_work.specs.declared.halt.Halt.TheVariants as halt
use Rattle.dbl_capture_work.specs.declared.report.Ending.{Ending}
use Rattle.dbl_capture_work.specs.declared.report.Ending.TheVariants.{Complete, Budget}
use Rattle.dblog_init.specs.declared.error.Store.TheVariants.{Wal, Topics, Offsets}
use Rattle.dblog_connect_ends.specs.declared.error.ConnectError.{ConnectError}
use Rattle.dblog_connect_ends.specs.declared.error.ConnectError.TheVariants as connect
use Rattle.dblog_connect_ends.specs.Errors.{IsOwnHalt}
use Rattle.dblog_capture_text.specs.Halts.{halt_status}
use Rattle.dblog_capture_text.specs.Reports.{ending_status}
use Rattle.dbl_lines.specs.declared.status.Status.{Status}
use Rattle.dbl_lines.specs.declared.status.Status.TheVariants.{MalformedLog, Unsupported}
use Rattle.dbl_lines.specs.declared.status.Status.TheVariants.{StdoutFailed, OutOfMemory, InvalidStore, LogGone}
use Rattle.dblog_capture_text.specs.Ends.{IsSessionStatus, connect_status}

-- a session's own halts: the log is malformed, its content isn't supported, no incarnation is left, or the log lacks what it needs
abbrev pub IsHaltStatus : Status → Type 0
IsHaltStatus status = (status ≡ MalformedLog) ⊎ ((status ≡ Unsupported) ⊎ ((status ≡ InvalidStore) ⊎ ((status ≡ LogGone) ⊎ (status ≡ OutOfMemory))))

txn_status : (e : TxnError) (status : Status) → status ≡ transaction_status e → IsHaltStatus status
txn_status txn.OutsideTransaction status is = inl is
txn_status txn.NestedBegin status is = inl is
txn_status (txn.CommitMismatch begin commit) status is = inl is
txn_status (txn.LsnOrder last got) status is = inl is
txn_status (txn.UnknownRelation oid) status is = inl is
txn_status (txn.ColumnCount want got) status is = inl is
txn_status (txn.SchemaChanged table) status is = inr (inl is)
txn_status (txn.KeyNotInIdentity table) status is = inl is
txn_status (txn.MissingOld table) status is = inl is
txn_status (txn.UnchangedCell table column) status is = inl is
txn_status (txn.MovedUnchanged table column) status is = inr (inl is)
txn_status (txn.NullKey table) status is = inl is
txn_status (txn.Value table column error) status is = inr (inl is)
txn_status txn.BadMark status is = inl is
txn_status txn.Memory status is = inr (inr (inr (inr is)))

pub own_status : (h : Halt) → IsOwnHalt h → (status : Status) → status ≡ halt_status h → IsHaltStatus status
own_status (halt.Message number error) own status is = inl is
own_status (halt.Txn number error) own status is = txn_status error status is
own_status (halt.Chunk table row) own status is = inl is
own_status (halt.Altered table) own status is = inr (inl is)
own_status (halt.Cell table column error) own status is = inr (inl is)
own_status (halt.Clash table column) own status is = inr (inl is)
own_status (halt.RecordTooLong len) own status is = inr (inl is)
own_status (halt.OffsetTooLong len) own status is = inr (inl is)
own_status (halt.Model error) own status is = inr (inl is)
own_status (halt.UnknownTable table) own status is = inr (inl is)
own_status (halt.Gone asked first) own status is = inr (inr (inr (inl is)))
own_status (halt.WatermarkMissing value at) own status is = inr (inr (inr (inl is)))
own_status (halt.Exhausted incarnation) own status is = inr (inr (inl is))
own_status halt.Source own status is = absurd own
own_status halt.Sink own status is = absurd own
own_status halt.Offsets own status is = absurd own
own_status halt.Memory own status is = absurd own

pub halt_other : (n status : Status) → (n ≢ MalformedLog) × (n ≢ Unsupported) × (n ≢ InvalidStore) × (n ≢ LogGone) × (n ≢ OutOfMemory) → IsHaltStatus status → status ≡ n → ⊥
halt_other n status other (inl is) same = other.0 (sym same ∙ is)
halt_other n status other (inr (inl is)) same = other.1 (sym same ∙ is)
halt_other n status other (inr (inr (inl is))) same = other.2 (sym same ∙ is)
halt_other n status other (inr (inr (inr (inl is)))) same = other.3 (sym same ∙ is)
halt_other n status other (inr (inr (inr (inr is)))) same = other.4 (sym same ∙ is)

pub halt_known : (status : Status) → IsHaltStatus status → IsSessionStatus status
halt_known status (inl is) = inr (inr (inr (inl is)))
halt_known status (inr (inl is)) = inr (inr (inr (inr (inl is))))
halt_known status (inr (inr (inl is))) = inr (inr (inr (inr (inr (inl is)))))
halt_known status (inr (inr (inr (inl is)))) = inr (inr (inr (inr (inr (inr (inl is))))))
halt_known status (inr (inr (inr (inr is)))) = inr (inr (inr (inr (inr (inr (inr (inr (inr (inr is)))))))))

-- ---- it is never that of a failed output

halt_no_output : (h : Halt) → halt_status h ≢ StdoutFailed
halt_no_output (halt.Message number error) is = cc
halt_no_output (halt.Txn number error) is = halt_other StdoutFailed (transaction_status error) (λ e. cc, λ e. cc, λ e. cc, λ e. cc, λ e. cc) (txn_status error (transaction_status error) refl) is
halt_no_output (halt.Chunk table row) is = cc
halt_no_output (halt.Altered table) is = cc
halt_no_output (halt.Cell table column error) is = cc
halt_no_output (halt.Clash table column) is = cc
halt_no_output (halt.RecordTooLong len) is = cc
halt_no_output (halt.OffsetTooLong len) is = cc
halt_no_output (halt.Model error) is = cc
halt_no_output (halt.UnknownTable table) is = cc
halt_no_output (halt.Gone asked first) is = cc
halt_no_output (halt.WatermarkMissing value at) is = cc
halt_no_output (halt.Exhausted incarnation) is = cc
halt_no_output halt.Source is = cc
halt_no_output halt.Sink is = cc
halt_no_output halt.Offsets is = cc
halt_no_output halt.Memory is = cc

pub error_no_output : (e : ConnectError) → connect_status e ≢ StdoutFailed
error_no_output (connect.Failed Wal) is = cc
error_no_output (connect.Failed Topics) is = cc
error_no_output (connect.Failed Offsets) is = cc
error_no_output (connect.NotAStore store at) is = cc
error_no_output (connect.BadEntry store index) is = cc
error_no_output connect.AlreadyStarted is = cc
error_no_output connect.NotStarted is = cc
error_no_output (connect.Halted h) is = halt_no_output h is
error_no_output (connect.Refused position ordinal) is = cc
error_no_output connect.Memory is = cc

pub ending_no_output : (ending : Ending) → ending_status ending ≢ StdoutFailed
ending_no_output Complete is = cc
ending_no_output Budget is = cc
