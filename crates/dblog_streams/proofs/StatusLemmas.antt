-- Statuses that a command over the input doesn't have.
use Rattle.std.proofs.Common.{◌≡◌, ◌≢◌, inl, inr, ◌∙◌, sym}
use Rattle.dbl_lines.specs.declared.status.Status.{Status}
use Rattle.dbl_lines.specs.declared.status.Status.TheVariants.{Done, MalformedLog, Unsupported, StdinFailed, StdoutFailed, OutOfMemory, InvalidInput}
use Rattle.dblog_streams.specs.Statuses.{IsApplyStatus, IsReplayStatus}
use Rattle.dblog_streams.specs.Answers.{IsExternalStatus}

outside_other : (n status : Status) → (n ≢ StdinFailed) × (n ≢ StdoutFailed) × (n ≢ OutOfMemory) → IsExternalStatus status → status ≡ n → ⊥
outside_other n status other (inl is) same = other.0 (sym same ∙ is)
outside_other n status other (inr (inl is)) same = other.1 (sym same ∙ is)
outside_other n status other (inr (inr is)) same = other.2 (sym same ∙ is)

pub replay_other : (n status : Status) → (n ≢ Done) × (n ≢ MalformedLog) × (n ≢ Unsupported) × (n ≢ InvalidInput) → (n ≢ StdinFailed) × (n ≢ StdoutFailed)
    × (n ≢ OutOfMemory) → IsReplayStatus status → status ≡ n → ⊥
replay_other n status own other (inl (inl is)) same = own.0 (sym same ∙ is)
replay_other n status own other (inl (inr (inl is))) same = own.1 (sym same ∙ is)
replay_other n status own other (inl (inr (inr (inl is)))) same = own.2 (sym same ∙ is)
replay_other n status own other (inl (inr (inr (inr is)))) same = own.3 (sym same ∙ is)
replay_other n status own other (inr outside) same = outside_other n status other outside same

pub lines_other : (n status : Status) → (n ≢ Done) × (n ≢ InvalidInput) → (n ≢ StdinFailed) × (n ≢ StdoutFailed) × (n ≢ OutOfMemory) → IsApplyStatus status
    → status ≡ n → ⊥
lines_other n status own other (inl is) same = own.0 (sym same ∙ is)
lines_other n status own other (inr (inl is)) same = own.1 (sym same ∙ is)
lines_other n status own other (inr (inr outside)) same = outside_other n status other outside same
