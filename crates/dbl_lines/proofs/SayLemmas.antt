-- Statuses that a run which is cut short doesn't have.
use Rattle.std.proofs.Common.{◌≡◌, ◌≢◌, inl, inr, ◌∙◌, sym}
use Rattle.dbl_lines.specs.declared.status.Status.{Status}
use Rattle.dbl_lines.specs.declared.status.Status.TheVariants.{StdoutFailed, OutOfMemory}
use Rattle.dbl_lines.specs.Says.{IsCutShort}

pub cut_other : (n status : Status) → (n ≢ StdoutFailed) × (n ≢ OutOfMemory) → IsCutShort status → status ≡ n → ⊥
cut_other n status other (inl is) same = other.0 (sym same ∙ is)
cut_other n status other (inr is) same = other.1 (sym same ∙ is)
