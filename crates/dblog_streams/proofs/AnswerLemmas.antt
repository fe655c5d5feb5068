-- How a run ends, from what it wrote.
use Rattle.std.proofs.Common.{◌≡◌, ◌⊎◌, inl, inr, ℕ, Option, List, [], ◌∷◌, ◌++◌, refl, sym}
use Rattle.dbl_base.specs.Lines.{lines_text}
use Rattle.dbl_lines.specs.declared.status.Status.{Status}
use Rattle.dbl_lines.specs.declared.run_error.RunError.{RunError}
use Rattle.dbl_lines.specs.declared.run_error.RunError.TheVariants.{Memory}
use Rattle.dbl_lines.specs.Faults.{status_of, fault_line}
use Rattle.dbl_lines.specs.Writing.{Wrote}
use Rattle.dbl_lines.proofs.WritingLemmas.{wrote_then, front_then}
use Rattle.dblog_streams.specs.Answers.{RunAnswer, fault, whole, out_of_memory, Ends, IsExternalStatus, EndsAs}
use Rattle.dbl_lines.specs.Says.{Says, Writes}
use Rattle.dbl_lines.specs.declared.status.Status.TheVariants.{StdoutFailed}

pub says_ends : (halt : RunError) (status : Status) (before after : Option (List ℕ)) → Says halt status before after → Ends (fault halt) status before after
says_ends halt status before after (inl writes) =
    record { wanted = status_of halt; text = lines_text (fault_line halt ∷ []); may = whole refl refl; writes = writes }
says_ends halt status before after (inr writes) =
    record { wanted = status_of Memory; text = lines_text (fault_line Memory ∷ []); may = out_of_memory 0 refl refl; writes = writes }

-- out of memory ends a run of any answer
pub memory_ends : (answer : RunAnswer) (status : Status) (before after : Option (List ℕ))
    → Writes (status_of Memory) (lines_text (fault_line Memory ∷ [])) status before after → Ends answer status before after
memory_ends answer status before after writes =
    record { wanted = status_of Memory; text = lines_text (fault_line Memory ∷ []); may = out_of_memory 0 refl refl; writes = writes }

pub written_or_outside : (wanted : Status) (text : List ℕ) (status : Status) (before after : Option (List ℕ)) → Writes wanted text status before after
    → (status ≡ wanted) ⊎ IsExternalStatus status
written_or_outside wanted text status before after (inl wrote) = inl wrote.0
written_or_outside wanted text status before after (inr wrote) = inr (inr (inl wrote.0))

pub memory_is_outside : (status : Status) → (status ≡ status_of Memory) ⊎ IsExternalStatus status → IsExternalStatus status
memory_is_outside status (inl is) = inr (inr is)
memory_is_outside status (inr outside) = outside

pub writes_then : (wanted : Status) (status : Status) (before middle after : Option (List ℕ)) (first second : List ℕ) → Wrote before middle first
    → Writes wanted second status middle after → Writes wanted (first ++ second) status before after
writes_then wanted status before middle after first second wrote (inl whole') = inl (whole'.0, wrote_then before middle after first second wrote whole'.1)
writes_then wanted status before middle after first second wrote (inr cut) = inr (cut.0, front_then before middle after first second wrote cut.1)

pub memory_outside : (status : Status) (before after : Option (List ℕ)) → Says Memory status before after → IsExternalStatus status
memory_outside status before after (inl writes) = memory_is_outside status (written_or_outside _ _ status before after writes)
memory_outside status before after (inr writes) = memory_is_outside status (written_or_outside _ _ status before after writes)

pub memory_written : (status : Status) (before after : Option (List ℕ)) → Says Memory status before after
    → Writes (status_of Memory) (lines_text (fault_line Memory ∷ [])) status before after
memory_written status before after (inl writes) = writes
memory_written status before after (inr writes) = writes

-- memory ran out, before anything was written
pub starved : (answer : RunAnswer) (status : Status) (before after : Option (List ℕ)) → Says Memory status before after → EndsAs answer status before after
starved answer status before after says =
    record { ended = memory_ends answer status before after (memory_written status before after says); told = inl (memory_outside status before after says) }

pub says_is : (halt : RunError) (status : Status) (before after : Option (List ℕ)) → Says halt status before after → (status ≡ status_of halt)
    ⊎ ((status ≡ StdoutFailed) ⊎ (status ≡ status_of Memory))
says_is halt status before after (inl (inl said)) = inl said.0
says_is halt status before after (inl (inr cut)) = inr (inl cut.0)
says_is halt status before after (inr (inl said)) = inr (inr said.0)
says_is halt status before after (inr (inr cut)) = inr (inl cut.0)

pub outside_of : (status : Status) → (status ≡ StdoutFailed) ⊎ (status ≡ status_of Memory) → IsExternalStatus status
outside_of status (inl is) = inr (inl is)
outside_of status (inr is) = inr (inr is)

-- a text was to be written with this status
pub written_ends : (answer : RunAnswer) (text : List ℕ) (status : Status) (before after : Option (List ℕ)) → text ≡ lines_text answer.lines
    → Writes answer.status text status before after → EndsAs answer status before after
written_ends answer text status before after is writes = record {
  ended = record { wanted = answer.status; text = text; may = whole refl is; writes = writes };
  told = elim (written_or_outside _ _ status before after writes) [ inl same ↦ inr (sym same) | inr outside ↦ inl outside ];
}
