-- Statuses that a command over the stores does not have.
use Rattle.std.proofs.Common.{◌≡◌, ◌≢◌, ◌⊎◌, inl, inr, ◌∙◌, sym}
use Rattle.dbl_lines.specs.declared.status.Status.{Status}
use Rattle.dbl_lines.specs.declared.status.Status.TheVariants.{Done, StartMismatch, TopicsFailed, OffsetsFailed}
use Rattle.dbl_lines.specs.declared.status.Status.TheVariants.{StdoutFailed, OutOfMemory, InvalidStore}
use Rattle.dblog_run_stores.specs.Runs.{HasOpenedTopics, IsOffsetsStatus, IsRowsStatus, IsTopicsStatus}
use Rattle.dbl_lines.proofs.SayLemmas.{cut_other}
use Rattle.dbl_lines.specs.Says.{IsCutShort}

pub topics_other : (n status : Status) → (n ≢ Done) × (n ≢ TopicsFailed) × (n ≢ InvalidStore) → (n ≢ StdoutFailed) × (n ≢ OutOfMemory) → IsTopicsStatus status → status ≡ n → ⊥
topics_other n status own other (inl is) same = own.0 (sym same ∙ is)
topics_other n status own other (inr (inl is)) same = own.1 (sym same ∙ is)
topics_other n status own other (inr (inr (inl is))) same = own.2 (sym same ∙ is)
topics_other n status own other (inr (inr (inr cut))) same = cut_other n status other cut same

pub offsets_other : (n status : Status) → (n ≢ Done) × (n ≢ StartMismatch) × (n ≢ OffsetsFailed) × (n ≢ InvalidStore) → (n ≢ StdoutFailed) × (n ≢ OutOfMemory) → IsOffsetsStatus status → status ≡ n → ⊥
offsets_other n status own other (inl is) same = own.0 (sym same ∙ is)
offsets_other n status own other (inr (inl is)) same = own.1 (sym same ∙ is)
offsets_other n status own other (inr (inr (inl is))) same = own.2 (sym same ∙ is)
offsets_other n status own other (inr (inr (inr (inl is)))) same = own.3 (sym same ∙ is)
offsets_other n status own other (inr (inr (inr (inr cut)))) same = cut_other n status other cut same

pub rows_other : (n status : Status) → n ≢ TopicsFailed → (n ≢ Done) × (n ≢ StartMismatch) × (n ≢ OffsetsFailed) × (n ≢ InvalidStore) → (n ≢ StdoutFailed) × (n ≢ OutOfMemory) → IsRowsStatus status → status ≡ n → ⊥
rows_other n status first own other (inl is) same = first (sym same ∙ is)
rows_other n status first own other (inr rest) same = offsets_other n status own other rest same

pub topics_running : (status : Status) → HasOpenedTopics status → status ≡ TopicsFailed → ⊥
topics_running status (inl is) same = cc
topics_running status (inr (inl is)) same = cc
topics_running status (inr (inr (inl is))) same = cc
topics_running status (inr (inr (inr is))) same = cc

pub topics_whole : (status : Status) → HasOpenedTopics status → IsCutShort status → ⊥
topics_whole status (inl is) cut = cut_other Done status (λ e. cc, λ e. cc) cut is
topics_whole status (inr (inl is)) cut = cut_other StartMismatch status (λ e. cc, λ e. cc) cut is
topics_whole status (inr (inr (inl is))) cut = cut_other OffsetsFailed status (λ e. cc, λ e. cc) cut is
topics_whole status (inr (inr (inr is))) cut = cut_other InvalidStore status (λ e. cc, λ e. cc) cut is

pub offsets_running : (status : Status) → (status ≡ Done) ⊎ ((status ≡ StartMismatch) ⊎ (status ≡ InvalidStore)) → status ≡ OffsetsFailed → ⊥
offsets_running status (inl is) same = cc
offsets_running status (inr (inl is)) same = cc
offsets_running status (inr (inr is)) same = cc

pub offsets_whole : (status : Status) → (status ≡ Done) ⊎ ((status ≡ StartMismatch) ⊎ (status ≡ InvalidStore)) → IsCutShort status → ⊥
offsets_whole status (inl is) cut = cut_other Done status (λ e. cc, λ e. cc) cut is
offsets_whole status (inr (inl is)) cut = cut_other StartMismatch status (λ e. cc, λ e. cc) cut is
offsets_whole status (inr (inr is)) cut = cut_other InvalidStore status (λ e. cc, λ e. cc) cut is
