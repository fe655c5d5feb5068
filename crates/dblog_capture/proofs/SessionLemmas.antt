-- What the status of a session tells of how it ended.
use Rattle.std.proofs.Common.{◌≡◌, ◌≢◌, ◌⊎◌, inl, inr, ◌∙◌, ℕ, Option, Ok, Err, List, refl, sym, ap, subst}
use Rattle.std.specs.Prelude.{IfErr, OnOk}
use Rattle.dbl_base.specs.Streams.{FaultCounted}
use Rattle.dbl_capture_work.specs.declared.report.Ending.{Ending}
use Rattle.dbl_capture_work.specs.declared.report.Ending.TheVariants.{Complete, Budget}
use Rattle.dblog_init.specs.declared.disks.Disks.{Disks}
use Rattle.dblog_init.specs.declared.error.Store.{Store}
use Rattle.dblog_init.specs.declared.error.Store.TheVariants.{Wal, Topics, Offsets}
use Rattle.dblog_connect_ends.specs.declared.error.ConnectError.{ConnectError}
use Rattle.dblog_connect_ends.specs.declared.error.ConnectError.TheVariants as connect
use Rattle.dblog_connect.specs.Ends.{CountsFaults, ConnectEnd, IsCompleteEnd, OnlyRead}
use Rattle.dblog_connect.specs.declared.asked.Asked.{Asked}
use Rattle.dblog_connect.specs.Errors.{IsConnectError, IsConnectRefusal}
use Rattle.dblog_connect.specs.Refusals.{ExceedsMaximum, IsErrorFor}
use Rattle.dbl_model_table.specs.declared.config.Config.{Config}
use Rattle.dblog_connect.specs.Promise.Contents.{Contents}
use Rattle.dblog_connect.specs.Promise.Goes.{Advances}
use Rattle.dblog_connect.specs.Promise.Headline.{GuaranteesAfterCrash}
use Rattle.dblog_capture_text.specs.Reports.{ending_status}
use Rattle.dbl_lines.specs.declared.status.Status.{Status}
use Rattle.dbl_lines.specs.declared.status.Status.TheVariants.{Done, BudgetSpent, StartMismatch, MalformedLog, Unsupported, SourceFailed, TopicsFailed}
use Rattle.dbl_lines.specs.declared.status.Status.TheVariants.{OffsetsFailed, StdinFailed, StdoutFailed, OutOfMemory, InvalidStore, LogGone, RecordRefused}
use Rattle.dbl_lines.specs.Says.{IsCutShort}
use Rattle.dblog_capture.specs.Runs.{WroteNothing}
use Rattle.dblog_capture_text.specs.Ends.{IsNormalStatus, IsSessionStatus, SaysSession, connect_status, session_status, store_status}
use Rattle.dbl_lines.proofs.SayLemmas.{cut_other}
use Rattle.dbl_disk.specs.Model.{DiskModel}
use Rattle.dblog_capture_text.proofs.EndStatuses.{halt_known, halt_other, own_status}

-- the kinds of errors for any arguments, and that a record that was refused is longer than these allow
pub kinds_of : (asked : Asked) (end : ConnectEnd) → IfErr end (IsErrorFor asked) → IfErr end IsConnectError
kinds_of asked (Ok summary) kinds = tt
kinds_of asked (Err e) kinds = kinds.0

pub exceeds_of : (asked : Asked) (end : ConnectEnd) → IfErr end (IsErrorFor asked) → IfErr end (ExceedsMaximum asked)
exceeds_of asked (Ok summary) kinds = tt
exceeds_of asked (Err e) kinds = kinds.1

pub says_status : (end : ConnectEnd) (status : Status) (before after : Option (List ℕ)) → SaysSession end status before after → (status ≡ session_status end) ⊎ IsCutShort status
says_status end status before after (inl (inl said)) = inl said.0
says_status end status before after (inl (inr cut)) = inr (inl cut.0)
says_status end status before after (inr (inl said)) = inr (inr said.0)
says_status end status before after (inr (inr cut)) = inr (inl cut.0)

-- ---- the status of a session is one of these

cut_known : (status : Status) → IsCutShort status → IsSessionStatus status
cut_known status cut = inr (inr (inr (inr (inr (inr (inr (inr (inr cut))))))))

error_known : (e : ConnectError) → IsConnectError e → (status : Status) → status ≡ connect_status e → IsSessionStatus status
error_known (connect.Failed Wal) kind status is = inr (inr (inr (inr (inr (inr (inr (inl is)))))))
error_known (connect.Failed Topics) kind status is = inr (inr (inr (inr (inr (inr (inr (inr (inl (inl is)))))))))
error_known (connect.Failed Offsets) kind status is = inr (inr (inr (inr (inr (inr (inr (inr (inl (inr (inl is))))))))))
error_known (connect.NotAStore store at) kind status is = inr (inr (inr (inr (inr (inl is)))))
error_known (connect.BadEntry store index) kind status is = inr (inr (inr (inr (inr (inl is)))))
error_known connect.AlreadyStarted kind status is = inr (inr (inl is))
error_known connect.NotStarted kind status is = inr (inr (inl is))
error_known (connect.Halted h) kind status is = halt_known status (own_status h kind status is)
error_known (connect.Refused position ordinal) kind status is = inr (inr (inr (inr (inr (inr (inr (inr (inl (inr (inr is))))))))))
error_known connect.Memory kind status is = cut_known status (inr is)

ending_known : (ending : Ending) (status : Status) → status ≡ ending_status ending → IsSessionStatus status
ending_known Complete status is = inl is
ending_known Budget status is = inr (inl is)

own_known : (end : ConnectEnd) → IfErr end IsConnectError → (status : Status) → status ≡ session_status end → IsSessionStatus status
own_known (Ok summary) kind status is = ending_known summary.ending status is
own_known (Err e) kind status is = error_known e kind status is

pub session_known : (end : ConnectEnd) → IfErr end IsConnectError → (status : Status) (before after : Option (List ℕ)) → SaysSession end status before after → IsSessionStatus status
session_known end kind status before after says = elim (says_status end status before after says) [ inl is ↦ own_known end kind status is | inr cut ↦ cut_known status cut ]

-- ---- it is no other one

pub session_other : (n status : Status) → (n ≢ Done) × (n ≢ BudgetSpent) × (n ≢ StartMismatch) × (n ≢ MalformedLog) × (n ≢ Unsupported) → (n ≢ InvalidStore) × (n ≢ LogGone) × (n ≢ SourceFailed) × (n ≢ TopicsFailed) × (n ≢ OffsetsFailed) × (n ≢ RecordRefused) → (n ≢ StdoutFailed) × (n ≢ OutOfMemory) → IsSessionStatus status → status ≡ n → ⊥
session_other n status own other short (inl is) same = own.0 (sym same ∙ is)
session_other n status own other short (inr (inl is)) same = own.1 (sym same ∙ is)
session_other n status own other short (inr (inr (inl is))) same = own.2 (sym same ∙ is)
session_other n status own other short (inr (inr (inr (inl is)))) same = own.3 (sym same ∙ is)
session_other n status own other short (inr (inr (inr (inr (inl is))))) same = own.4 (sym same ∙ is)
session_other n status own other short (inr (inr (inr (inr (inr (inl is)))))) same = other.0 (sym same ∙ is)
session_other n status own other short (inr (inr (inr (inr (inr (inr (inl is))))))) same = other.1 (sym same ∙ is)
session_other n status own other short (inr (inr (inr (inr (inr (inr (inr (inl is)))))))) same = other.2 (sym same ∙ is)
session_other n status own other short (inr (inr (inr (inr (inr (inr (inr (inr (inl (inl is)))))))))) same = other.3 (sym same ∙ is)
session_other n status own other short (inr (inr (inr (inr (inr (inr (inr (inr (inl (inr (inl is))))))))))) same = other.4 (sym same ∙ is)
session_other n status own other short (inr (inr (inr (inr (inr (inr (inr (inr (inl (inr (inr is))))))))))) same = other.5 (sym same ∙ is)
session_other n status own other short (inr (inr (inr (inr (inr (inr (inr (inr (inr cut))))))))) same = cut_other n status short cut same

pub session_no_input : (status : Status) → IsSessionStatus status → status ≢ StdinFailed
session_no_input status known is =
    session_other StdinFailed status (λ e. cc, λ e. cc, λ e. cc, λ e. cc, λ e. cc) (λ e. cc, λ e. cc, λ e. cc, λ e. cc, λ e. cc, λ e. cc) (λ e. cc, λ e. cc) known is

-- ---- where it is 0, the session was complete

error_not_0 : (e : ConnectError) → IsConnectError e → (status : Status) → status ≡ connect_status e → status ≡ Done → ⊥
error_not_0 (connect.Failed Wal) kind status is zero = cc
error_not_0 (connect.Failed Topics) kind status is zero = cc
error_not_0 (connect.Failed Offsets) kind status is zero = cc
error_not_0 (connect.NotAStore store at) kind status is zero = cc
error_not_0 (connect.BadEntry store index) kind status is zero = cc
error_not_0 connect.AlreadyStarted kind status is zero = cc
error_not_0 connect.NotStarted kind status is zero = cc
error_not_0 (connect.Halted h) kind status is zero = halt_other Done status (λ e. cc, λ e. cc, λ e. cc, λ e. cc, λ e. cc) (own_status h kind status is) zero
error_not_0 (connect.Refused position ordinal) kind status is zero = cc
error_not_0 connect.Memory kind status is zero = cc

ending_0 : (ending : Ending) (status : Status) → status ≡ ending_status ending → status ≡ Done → ending ≡ Complete
ending_0 Complete status is zero = refl
ending_0 Budget status is zero = cc

own_0 : (end : ConnectEnd) → IfErr end IsConnectError → (status : Status) → status ≡ session_status end → status ≡ Done → IsCompleteEnd end
own_0 (Ok summary) kind status is zero = ending_0 summary.ending status is zero
own_0 (Err e) kind status is zero = absurd (error_not_0 e kind status is zero)

pub complete_end : (end : ConnectEnd) → IfErr end IsConnectError → (status : Status) (before after : Option (List ℕ)) → SaysSession end status before after → status ≡ Done → IsCompleteEnd end
complete_end end kind status before after says zero =
    elim (says_status end status before after says) [ inl is ↦ own_0 end kind status is zero | inr cut ↦ absurd (cut_other Done status (λ e. cc, λ e. cc) cut zero) ]

-- ---- where it is 0 or 3, the session ended normally

error_not_3 : (e : ConnectError) → IsConnectError e → (status : Status) → status ≡ connect_status e → status ≡ BudgetSpent → ⊥
error_not_3 (connect.Failed Wal) kind status is three = cc
error_not_3 (connect.Failed Topics) kind status is three = cc
error_not_3 (connect.Failed Offsets) kind status is three = cc
error_not_3 (connect.NotAStore store at) kind status is three = cc
error_not_3 (connect.BadEntry store index) kind status is three = cc
error_not_3 connect.AlreadyStarted kind status is three = cc
error_not_3 connect.NotStarted kind status is three = cc
error_not_3 (connect.Halted h) kind status is three = halt_other BudgetSpent status (λ e. cc, λ e. cc, λ e. cc, λ e. cc, λ e. cc) (own_status h kind status is) three
error_not_3 (connect.Refused position ordinal) kind status is three = cc
error_not_3 connect.Memory kind status is three = cc

error_unnormal : (e : ConnectError) → IsConnectError e → (status : Status) → (status ≡ connect_status e) ⊎ IsCutShort status → IsNormalStatus status → ⊥
error_unnormal e kind status (inl is) (inl zero) = error_not_0 e kind status is zero
error_unnormal e kind status (inl is) (inr three) = error_not_3 e kind status is three
error_unnormal e kind status (inr cut) (inl zero) = cut_other Done status (λ e. cc, λ e. cc) cut zero
error_unnormal e kind status (inr cut) (inr three) = cut_other BudgetSpent status (λ e. cc, λ e. cc) cut three

pub normal_end : {P : Type 0} (end : ConnectEnd) → IfErr end IsConnectError → (status : Status) (before after : Option (List ℕ)) → SaysSession end status before after → OnOk end P → IsNormalStatus status → P
normal_end (Ok summary) kind status before after says holds normal = holds
normal_end (Err e) kind status before after says none normal = absurd (error_unnormal e kind status (says_status (Err e) status before after says) normal)

-- ---- where it is that of a failed disk, that disk failed

no_ending : (ending : Ending) (n status : Status) → (n ≢ Done) × (n ≢ BudgetSpent) → status ≡ ending_status ending → status ≡ n → ⊥
no_ending Complete n status other is same = other.0 (sym same ∙ is)
no_ending Budget n status other is same = other.1 (sym same ∙ is)

one_store : (a b : Store) (status : Status) → status ≡ store_status a → status ≡ store_status b → a ≡ b
one_store Wal Wal status is same = refl
one_store Wal Topics status is same = cc
one_store Wal Offsets status is same = cc
one_store Topics Wal status is same = cc
one_store Topics Topics status is same = refl
one_store Topics Offsets status is same = cc
one_store Offsets Wal status is same = cc
one_store Offsets Topics status is same = cc
one_store Offsets Offsets status is same = refl

abbrev Others : Status → Type 0
Others n = ((n ≢ Done) × (n ≢ BudgetSpent)) × (((n ≢ StartMismatch) × (n ≢ InvalidStore) × (n ≢ RecordRefused)) × ((n ≢ MalformedLog) × (n ≢ Unsupported) × (n ≢ InvalidStore) × (n ≢ LogGone) × (n ≢ OutOfMemory)))

store_others : (store : Store) → Others (store_status store)
store_others Wal = ((λ e. cc, λ e. cc), ((λ e. cc, λ e. cc, λ e. cc), (λ e. cc, λ e. cc, λ e. cc, λ e. cc, λ e. cc)))
store_others Topics = ((λ e. cc, λ e. cc), ((λ e. cc, λ e. cc, λ e. cc), (λ e. cc, λ e. cc, λ e. cc, λ e. cc, λ e. cc)))
store_others Offsets = ((λ e. cc, λ e. cc), ((λ e. cc, λ e. cc, λ e. cc), (λ e. cc, λ e. cc, λ e. cc, λ e. cc, λ e. cc)))

store_cut : (store : Store) (status : Status) → IsCutShort status → status ≡ store_status store → ⊥
store_cut Wal status cut same = cut_other SourceFailed status (λ e. cc, λ e. cc) cut same
store_cut Topics status cut same = cut_other TopicsFailed status (λ e. cc, λ e. cc) cut same
store_cut Offsets status cut same = cut_other OffsetsFailed status (λ e. cc, λ e. cc) cut same

failed_error : (e : ConnectError) → IsConnectError e → (store : Store) (status : Status) → status ≡ connect_status e → status ≡ store_status store → e ≡ connect.Failed store
failed_error (connect.Failed other) kind store status is same = ap connect.Failed (one_store other store status is same)
failed_error (connect.NotAStore other at) kind store status is same = absurd ((store_others store).1.0.1 (sym same ∙ is))
failed_error (connect.BadEntry other index) kind store status is same = absurd ((store_others store).1.0.1 (sym same ∙ is))
failed_error connect.AlreadyStarted kind store status is same = absurd ((store_others store).1.0.0 (sym same ∙ is))
failed_error connect.NotStarted kind store status is same = absurd ((store_others store).1.0.0 (sym same ∙ is))
failed_error (connect.Halted h) kind store status is same = absurd (halt_other (store_status store) status (store_others store).1.1 (own_status h kind status is) same)
failed_error (connect.Refused position ordinal) kind store status is same = absurd ((store_others store).1.0.2 (sym same ∙ is))
failed_error connect.Memory kind store status is same = absurd ((store_others store).1.1.4 (sym same ∙ is))

failed_end : (end : ConnectEnd) → IfErr end IsConnectError → (store : Store) (status : Status) → status ≡ session_status end → status ≡ store_status store → end ≡ Err (connect.Failed store)
failed_end (Ok summary) kind store status is same = absurd (no_ending summary.ending (store_status store) status (store_others store).0 is same)
failed_end (Err e) kind store status is same = ap (λ (x : ConnectError). let r : ConnectEnd = Err x in r) (failed_error e kind store status is same)

pub failed_cause : {D : Type 0} (model : DiskModel D) (store : Store) (end : ConnectEnd) (old new : D) → IfErr end IsConnectError → (status : Status) (before after : Option (List ℕ)) → SaysSession end status before after
    → CountsFaults model store end old new → status ≡ store_status store → FaultCounted (model.faults old) (model.faults new)
failed_cause model store end old new kind status before after says counts same =
    elim (says_status end status before after says) [
      | inl is ↦ counts.cause (failed_end end kind store status is same)
      | inr cut ↦ absurd (store_cut store status cut same)
    ]

-- ---- what a refused session leaves

pub refused_end : {W T F : Type 0} (wal_model : DiskModel W) (topics_model : DiskModel T) (offsets_model : DiskModel F)
    (old new : Disks W T F) (end : ConnectEnd) → IfErr end (λ e. IsConnectRefusal e → OnlyRead wal_model old.wal new.wal) → IfErr end (λ e. IsConnectRefusal e → OnlyRead topics_model old.topics new.topics) → IfErr end (λ e. IsConnectRefusal e → OnlyRead offsets_model old.offsets new.offsets)
    → IfErr end (λ e. IsConnectRefusal e → WroteNothing (wal_model.may_leave old.wal) (topics_model.may_leave old.topics) (offsets_model.may_leave old.offsets) (wal_model.may_leave new.wal) (topics_model.may_leave new.topics) (offsets_model.may_leave new.offsets))
refused_end wal_model topics_model offsets_model old new (Ok summary) wal topics offsets = tt
refused_end wal_model topics_model offsets_model old new (Err e) wal topics offsets =
    λ refusal. record { wal = (wal refusal).crash; topics = (topics refusal).crash; offsets = (offsets refusal).crash }

-- ---- promises

-- the promise of a run that was complete less often
pub promised_less : (often seldom : Type 0) (asks other : Contents → Option Config) (wals logs stores : List ℕ → Type 0) (w t f : List ℕ) → (seldom → often) → ((held : Contents) → asks held ≡ other held)
    → GuaranteesAfterCrash often asks wals logs stores w t f → GuaranteesAfterCrash seldom other wals logs stores w t f
promised_less often seldom asks other wals logs stores w t f less same is =
    let left = is.left in
    let predecessor = left.predecessor in
    record {
      left = record {
        held = left.held;
        read = left.read;
        kept = left.kept;
        predecessor = record {
          wal = predecessor.wal;
          topics = predecessor.topics;
          offsets = predecessor.offsets;
          may_wal = predecessor.may_wal;
          may_topics = predecessor.may_topics;
          may_offsets = predecessor.may_offsets;
          old = predecessor.old;
          read = predecessor.read;
          advances = subst (λ (o : Option Config). Advances o predecessor.old left.held) (same predecessor.old) predecessor.advances;
        };
      };
      guarantees = record { first_deliveries = is.guarantees.first_deliveries; snapshots = is.guarantees.snapshots; appends = is.guarantees.appends; tables = λ complete. is.guarantees.tables (less complete) };
    }
