-- The status of a command over the stores, from how it ended.
use Rattle.std.proofs.Common.{◌≡◌, ◌⊎◌, inl, inr, ◌∙◌, ℕ, ◌≤◌, Option, Ok, Err, IfErr, List, refl, sym, ap, subst}
use Rattle.dbl_base.specs.Streams.{FaultCounted}
use Rattle.dblog_stores.specs.declared.error.CommandError.{CommandError}
use Rattle.dblog_stores.specs.declared.error.CommandError.TheVariants as error
use Rattle.dblog_stores.specs.declared.error.Store.{Store}
use Rattle.dblog_stores.specs.declared.error.Store.TheVariants as store
use Rattle.dblog_stores.specs.Ends.{CommandEnd, HasOpenedOffset, IsErrorOf}
use Rattle.dblog_stores.specs.Errors.{error_status}
use Rattle.dblog_stores.proofs.ErrorLaws.{apart}
use Rattle.dbl_lines.specs.declared.status.Status.{Status}
use Rattle.dbl_lines.specs.declared.status.Status.TheVariants.{Done, StartMismatch, TopicsFailed, OffsetsFailed}
use Rattle.dbl_lines.specs.declared.status.Status.TheVariants.{StdinFailed, StdoutFailed, InvalidStore}
use Rattle.dbl_lines.specs.declared.run_error.RunError.TheVariants.{InputFailed}
use Rattle.dbl_lines.specs.Faults.{status_of}
use Rattle.dblog_run_stores.specs.Disks.{Finishes, SaysError}
use Rattle.dblog_run_stores.specs.Runs.{HasOpenedTopics, IsOffsetsStatus, IsRowsStatus, IsTopicsStatus}
use Rattle.dblog_run_stores.proofs.DiskLemmas.{rose_after, rose_before}
use Rattle.dblog_run_stores.proofs.StoreStatuses.{offsets_other, offsets_running, offsets_whole, rows_other, topics_other, topics_running, topics_whole}
use Rattle.dbl_lines.proofs.SayLemmas.{cut_other}
use Rattle.dbl_lines.specs.Says.{IsCutShort}

-- ---- the status of a command that was finished

abbrev pub end_code : CommandEnd → Status
end_code (Ok nothing) = Done
end_code (Err e) = error_status e

said_code : (e : CommandError) (status : Status) (before after : Option (List ℕ)) → SaysError e status before after → (status ≡ error_status e) ⊎ IsCutShort status
said_code e status before after (inl (inl said)) = inl said.0
said_code e status before after (inl (inr cut)) = inr (inl cut.0)
said_code e status before after (inr (inl said)) = inr (inr said.0)
said_code e status before after (inr (inr cut)) = inr (inl cut.0)

pub finished_code : (end : CommandEnd) (status : Status) (before after : Option (List ℕ)) → Finishes end status before after → (status ≡ end_code end) ⊎ IsCutShort status
finished_code (Ok nothing) status before after finishes = inl finishes.0
finished_code (Err error.OutputFailed) status before after finishes = inl finishes.0
finished_code (Err error.Memory) status before after finishes = said_code error.Memory status before after finishes
finished_code (Err (error.Failed s)) status before after finishes = said_code (error.Failed s) status before after finishes
finished_code (Err error.NotStarted) status before after finishes = said_code error.NotStarted status before after finishes
finished_code (Err (error.NotAStore s at)) status before after finishes = said_code (error.NotAStore s at) status before after finishes
finished_code (Err (error.BadEntry s index)) status before after finishes = said_code (error.BadEntry s index) status before after finishes

-- ---- the statuses of the commands over the stores

no_failed_output : (s : Store) → error.Failed s ≡ error.OutputFailed → ⊥
no_failed_output s is = cc

no_start_output : error.NotStarted ≡ error.OutputFailed → ⊥
no_start_output is = cc

pub other_kind : (s t : Store) → (s ≡ t → ⊥) → (error.Failed s ≡ error.OutputFailed) ⊎ (s ≡ t) → ⊥
other_kind s t other (inl is) = no_failed_output s is
other_kind s t other (inr is) = other is

start_kind : (error.NotStarted ≡ error.OutputFailed) ⊎ ⊥ → ⊥
start_kind (inl is) = no_start_output is
start_kind (inr none) = none

topics_code : (e : CommandError) (status : Status) → (e ≡ error.OutputFailed) ⊎ IsErrorOf store.Topics e → status ≡ error_status e → IsTopicsStatus status
topics_code error.OutputFailed status kind is = inr (inr (inr (inl is)))
topics_code error.Memory status kind is = inr (inr (inr (inr is)))
topics_code (error.Failed store.Topics) status kind is = inr (inl is)
topics_code (error.Failed store.Offsets) status kind is = absurd (other_kind store.Offsets store.Topics (λ same. apart (sym same)) kind)
topics_code error.NotStarted status kind is = absurd (start_kind kind)
topics_code (error.NotAStore s at) status kind is = inr (inr (inl is))
topics_code (error.BadEntry s index) status kind is = inr (inr (inl is))

pub topics_known : (end : CommandEnd) (status : Status) (before after : Option (List ℕ)) → IfErr end (λ e. (e ≡ error.OutputFailed) ⊎ IsErrorOf store.Topics e) → Finishes end status before after → IsTopicsStatus status
topics_known (Ok nothing) status before after kinds finishes = inl finishes.0
topics_known (Err e) status before after kinds finishes =
    elim (finished_code (Err e) status before after finishes) [ inl is ↦ topics_code e status kinds is | inr cut ↦ inr (inr (inr cut)) ]

no_failed_start : (s : Store) → error.Failed s ≡ error.NotStarted → ⊥
no_failed_start s is = cc

pub offsets_kind : (error.Failed store.Topics ≡ error.OutputFailed) ⊎ ((error.Failed store.Topics ≡ error.NotStarted) ⊎ (store.Topics ≡ store.Offsets)) → ⊥
offsets_kind (inl is) = no_failed_output store.Topics is
offsets_kind (inr (inl is)) = no_failed_start store.Topics is
offsets_kind (inr (inr is)) = apart is

offsets_code : (e : CommandError) (status : Status) → (e ≡ error.OutputFailed) ⊎ ((e ≡ error.NotStarted) ⊎ IsErrorOf store.Offsets e) → status ≡ error_status e → IsOffsetsStatus status
offsets_code error.OutputFailed status kind is = inr (inr (inr (inr (inl is))))
offsets_code error.Memory status kind is = inr (inr (inr (inr (inr is))))
offsets_code (error.Failed store.Topics) status kind is = absurd (offsets_kind kind)
offsets_code (error.Failed store.Offsets) status kind is = inr (inr (inl is))
offsets_code error.NotStarted status kind is = inr (inl is)
offsets_code (error.NotAStore s at) status kind is = inr (inr (inr (inl is)))
offsets_code (error.BadEntry s index) status kind is = inr (inr (inr (inl is)))

pub offsets_known : (end : CommandEnd) (status : Status) (before after : Option (List ℕ)) → IfErr end (λ e. (e ≡ error.OutputFailed) ⊎ ((e ≡ error.NotStarted) ⊎ IsErrorOf store.Offsets e)) → Finishes end status before after
    → IsOffsetsStatus status
offsets_known (Ok nothing) status before after kinds finishes = inl finishes.0
offsets_known (Err e) status before after kinds finishes =
    elim (finished_code (Err e) status before after finishes) [ inl is ↦ offsets_code e status kinds is | inr cut ↦ inr (inr (inr (inr cut))) ]

rows_code : (e : CommandError) (status : Status) → status ≡ error_status e → IsRowsStatus status
rows_code error.OutputFailed status is = inr (inr (inr (inr (inr (inl is)))))
rows_code error.Memory status is = inr (inr (inr (inr (inr (inr is)))))
rows_code (error.Failed store.Topics) status is = inl is
rows_code (error.Failed store.Offsets) status is = inr (inr (inr (inl is)))
rows_code error.NotStarted status is = inr (inr (inl is))
rows_code (error.NotAStore s at) status is = inr (inr (inr (inr (inl is))))
rows_code (error.BadEntry s index) status is = inr (inr (inr (inr (inl is))))

pub rows_status : (end : CommandEnd) (status : Status) (before after : Option (List ℕ)) → Finishes end status before after → IsRowsStatus status
rows_status (Ok nothing) status before after finishes = inr (inl finishes.0)
rows_status (Err e) status before after finishes =
    elim (finished_code (Err e) status before after finishes) [ inl is ↦ rows_code e status is | inr cut ↦ inr (inr (inr (inr (inr cut)))) ]

-- the statuses of a disk tell that it failed
eight_code : (end : CommandEnd) → end_code end ≡ TopicsFailed → end ≡ Err (error.Failed store.Topics)
eight_code (Ok nothing) is = cc
eight_code (Err error.OutputFailed) is = cc
eight_code (Err error.Memory) is = cc
eight_code (Err (error.Failed store.Topics)) is = refl
eight_code (Err (error.Failed store.Offsets)) is = cc
eight_code (Err error.NotStarted) is = cc
eight_code (Err (error.NotAStore s at)) is = cc
eight_code (Err (error.BadEntry s index)) is = cc

nine_code : (end : CommandEnd) → end_code end ≡ OffsetsFailed → end ≡ Err (error.Failed store.Offsets)
nine_code (Ok nothing) is = cc
nine_code (Err error.OutputFailed) is = cc
nine_code (Err error.Memory) is = cc
nine_code (Err (error.Failed store.Topics)) is = cc
nine_code (Err (error.Failed store.Offsets)) is = refl
nine_code (Err error.NotStarted) is = cc
nine_code (Err (error.NotAStore s at)) is = cc
nine_code (Err (error.BadEntry s index)) is = cc

pub eight_fails : (end : CommandEnd) (status : Status) (before after : Option (List ℕ)) → Finishes end status before after → status ≡ TopicsFailed → end ≡ Err (error.Failed store.Topics)
eight_fails end status before after finishes same =
    elim (finished_code end status before after finishes) [
      | inl is ↦ eight_code end (sym is ∙ same)
      | inr cut ↦ absurd (cut_other TopicsFailed status (λ e. cc, λ e. cc) cut same)
    ]

pub nine_fails : (end : CommandEnd) (status : Status) (before after : Option (List ℕ)) → Finishes end status before after → status ≡ OffsetsFailed → end ≡ Err (error.Failed store.Offsets)
nine_fails end status before after finishes same =
    elim (finished_code end status before after finishes) [
      | inl is ↦ nine_code end (sym is ∙ same)
      | inr cut ↦ absurd (cut_other OffsetsFailed status (λ e. cc, λ e. cc) cut same)
    ]

-- and where it failed they are answered, unless the line was cut short
pub fails_eight : (end : CommandEnd) (status : Status) (before after : Option (List ℕ)) → Finishes end status before after → end ≡ Err (error.Failed store.Topics) → (status ≡ TopicsFailed) ⊎ IsCutShort status
fails_eight end status before after finishes is = elim (finished_code end status before after finishes) [ inl same ↦ inl (same ∙ ap (λ (e : CommandEnd). end_code e) is) | inr cut ↦ inr cut ]

pub fails_nine : (end : CommandEnd) (status : Status) (before after : Option (List ℕ)) → Finishes end status before after → end ≡ Err (error.Failed store.Offsets) → (status ≡ OffsetsFailed) ⊎ IsCutShort status
fails_nine end status before after finishes is = elim (finished_code end status before after finishes) [ inl same ↦ inl (same ∙ ap (λ (e : CommandEnd). end_code e) is) | inr cut ↦ inr cut ]

-- a disk that was opened, as the status tells, didn't fail
pub opened_topics : (end : CommandEnd) (status : Status) (before after : Option (List ℕ)) → Finishes end status before after → HasOpenedTopics status → end ≡ Err (error.Failed store.Topics) → ⊥
opened_topics end status before after finishes opened is =
    elim (fails_eight end status before after finishes is) [ inl same ↦ topics_running status opened same | inr cut ↦ topics_whole status opened cut ]

pub opened_offsets : (end : CommandEnd) (status : Status) (before after : Option (List ℕ)) → Finishes end status before after → (status ≡ Done) ⊎ ((status ≡ StartMismatch) ⊎ (status ≡ InvalidStore)) → end ≡ Err (error.Failed store.Offsets) → ⊥
opened_offsets end status before after finishes opened is =
    elim (fails_nine end status before after finishes is) [ inl same ↦ offsets_running status opened same | inr cut ↦ offsets_whole status opened cut ]

-- with 0 and 4 `apply` has opened the offset
opened_code : (end : CommandEnd) → (end_code end ≡ Done) ⊎ (end_code end ≡ StartMismatch) → HasOpenedOffset end
opened_code (Ok nothing) told = tt
opened_code (Err error.OutputFailed) told = tt
opened_code (Err error.Memory) (inl is) = cc
opened_code (Err error.Memory) (inr is) = cc
opened_code (Err (error.Failed store.Topics)) (inl is) = cc
opened_code (Err (error.Failed store.Topics)) (inr is) = cc
opened_code (Err (error.Failed store.Offsets)) (inl is) = cc
opened_code (Err (error.Failed store.Offsets)) (inr is) = cc
opened_code (Err error.NotStarted) told = tt
opened_code (Err (error.NotAStore s at)) (inl is) = cc
opened_code (Err (error.NotAStore s at)) (inr is) = cc
opened_code (Err (error.BadEntry s index)) (inl is) = cc
opened_code (Err (error.BadEntry s index)) (inr is) = cc

as_code : (status code : Status) → status ≡ code → (status ≡ Done) ⊎ (status ≡ StartMismatch) → (code ≡ Done) ⊎ (code ≡ StartMismatch)
as_code status code is (inl same) = inl (sym is ∙ same)
as_code status code is (inr same) = inr (sym is ∙ same)

cut_rows : (status : Status) → IsCutShort status → (status ≡ Done) ⊎ (status ≡ StartMismatch) → ⊥
cut_rows status cut (inl same) = cut_other Done status (λ e. cc, λ e. cc) cut same
cut_rows status cut (inr same) = cut_other StartMismatch status (λ e. cc, λ e. cc) cut same

pub opened_rows : (end : CommandEnd) (status : Status) (before after : Option (List ℕ)) → Finishes end status before after → (status ≡ Done) ⊎ (status ≡ StartMismatch) → HasOpenedOffset end
opened_rows end status before after finishes told =
    elim (finished_code end status before after finishes) [ inl is ↦ opened_code end (as_code status (end_code end) is told) | inr cut ↦ absurd (cut_rows status cut told) ]

-- no command over the stores answers that the input failed
pub topics_no_input : (status : Status) → IsTopicsStatus status → status ≡ status_of InputFailed → ⊥
topics_no_input status known = topics_other StdinFailed status (λ e. cc, λ e. cc, λ e. cc) (λ e. cc, λ e. cc) known

pub offsets_no_input : (status : Status) → IsOffsetsStatus status → status ≡ status_of InputFailed → ⊥
offsets_no_input status known = offsets_other StdinFailed status (λ e. cc, λ e. cc, λ e. cc, λ e. cc) (λ e. cc, λ e. cc) known

pub rows_no_input : (status : Status) → IsRowsStatus status → status ≡ status_of InputFailed → ⊥
rows_no_input status known = rows_other StdinFailed status (λ e. cc) (λ e. cc, λ e. cc, λ e. cc, λ e. cc) (λ e. cc, λ e. cc) known

-- the output's count rose where the output failed, at the text or at the error's line
pub finished_output : (end : CommandEnd) (was middle now : ℕ) → (end ≡ Err error.OutputFailed → FaultCounted was middle) → was ≤ middle → middle ≤ now → (end ≡ Err error.OutputFailed) ⊎ FaultCounted middle now → FaultCounted was now
finished_output end was middle now failed earlier later (inl is) = rose_before was middle now (failed is) later
finished_output end was middle now failed earlier later (inr rose) = rose_after was middle now earlier rose

-- ---- an error that was said

-- an error but a failed output has another status
pub no_output_status : (e : CommandError) → (e ≡ error.OutputFailed → ⊥) → error_status e ≡ StdoutFailed → ⊥
no_output_status error.OutputFailed other same = other refl
no_output_status error.Memory other same = cc
no_output_status (error.Failed store.Topics) other same = cc
no_output_status (error.Failed store.Offsets) other same = cc
no_output_status error.NotStarted other same = cc
no_output_status (error.NotAStore s at) other same = cc
no_output_status (error.BadEntry s index) other same = cc

pub error_finishes : (e : CommandError) (status : Status) (before after : Option (List ℕ)) → (e ≡ error.OutputFailed → ⊥) → SaysError e status before after → Finishes (Err e) status before after
error_finishes error.OutputFailed status before after other says = absurd (other refl)
error_finishes error.Memory status before after other says = says
error_finishes (error.Failed s) status before after other says = says
error_finishes error.NotStarted status before after other says = says
error_finishes (error.NotAStore s at) status before after other says = says
error_finishes (error.BadEntry s index) status before after other says = says

-- the output failed, and nothing more was written
pub output_finishes : (e : CommandError) (before : Option (List ℕ)) → e ≡ error.OutputFailed → Finishes (Err e) StdoutFailed before before
output_finishes e before is = subst (λ (x : CommandError). Finishes (Err x) StdoutFailed before before) (sym is) (refl, refl)
