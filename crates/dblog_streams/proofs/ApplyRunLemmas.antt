-- How a run of `apply --lines` ends.
use Rattle.std.proofs.Common.{◌≡◌, ◌≢◌, ◌⊎◌, inl, inr, ◌∙◌, ℕ, ◌≤◌, Option, Some, None, List, [], ◌∷◌, ◌++◌, Ok, Err, length, take, map, refl, sym, ap, subst}
use Rattle.dbl_base.specs.Lines.{lines_of, lines_text}
use Rattle.dbl_base.specs.Streams.{FaultCounted, input_limit}
use Rattle.dbl_record.specs.declared.acts.ConsumeError.{ConsumeError}
use Rattle.dbl_record.specs.Acts.{Reading}
use Rattle.dbl_record.specs.Consumers.{HeldCells, consumer_of}
use Rattle.dbl_consume.specs.declared.consumer.Consumer.{Consumer}
use Rattle.dbl_lines.specs.declared.status.Status.{Status}
use Rattle.dbl_lines.specs.declared.status.Status.TheVariants.{Done, StdoutFailed, InvalidInput}
use Rattle.dbl_lines.specs.declared.error.PrintError.TheVariants as print_error
use Rattle.dbl_lines.specs.Writing.{Wrote, WrotePrefix}
use Rattle.dbl_consume.specs.Holdings.{Took, placeholder_of}
use Rattle.dbl_consume.specs.Printing.{row_line, PrintsRows}
use Rattle.dblog_replay.specs.declared.apply.FaultAt.{FaultAt}
use Rattle.dblog_replay.specs.declared.apply.LineFault.{LineFault}
use Rattle.dblog_replay.specs.declared.apply.LineFault.TheVariants as line
use Rattle.dbl_lines.specs.declared.run_error.RunError.{RunError}
use Rattle.dbl_lines.specs.declared.run_error.RunError.TheVariants.{Usage, BadLine, InputTooLong, InputFailed, Memory}
use Rattle.dbl_lines.specs.Faults.{status_of, fault_line}
use Rattle.dblog_replay.specs.Apply.{first_line_fault, fault_text, readings_of_lines}
use Rattle.dblog_streams.specs.Answers.{RunAnswer, fault, done, whole, out_of_memory, Ends, FailsReading, EndsAs}
use Rattle.dblog_streams.specs.Applies.{line_fault, Applies, long_input, refused, applied, HaltsApplying, RunsApplying, PrintedAs}
use Rattle.dblog_streams.specs.Statuses.{IsApplyStatus}
use Rattle.dblog_streams.proofs.ApplyLaws.{applies_one}
use Rattle.dblog_streams.proofs.AnswerLemmas.{says_ends, written_or_outside, memory_is_outside, writes_then, memory_outside, memory_written, starved, says_is}
use Rattle.dblog_streams.proofs.AnswerLemmas.{outside_of}
use Rattle.dbl_lines.specs.Says.{Says, Writes}

-- a run with the answer of its bytes
pub answered : (placeholder : List ℕ) (bytes : List ℕ) (answer : RunAnswer) (status : Status) (before after : Option (List ℕ)) → Applies placeholder bytes answer → EndsAs answer status before after → RunsApplying placeholder bytes status before after
answered placeholder bytes answer status before after applies ends = record {
  ended = λ other meant. subst (λ a. Ends a status before after) (applies_one placeholder bytes answer other applies meant) ends.ended;
  meant = elim ends.told [ inl outside ↦ inl outside | inr is ↦ inr (answer, applies, is) ];
}

pub memory_applies : (placeholder : List ℕ) (bytes : List ℕ) (status : Status) (before after : Option (List ℕ)) → Says Memory status before after → RunsApplying placeholder bytes status before after
memory_applies placeholder bytes status before after says = record {
  ended = λ answer meant. (starved answer status before after says).ended;
  meant = inl (memory_outside status before after says);
}

too_long_ends : (status : Status) (before after : Option (List ℕ)) → Says InputTooLong status before after → EndsAs (fault InputTooLong) status before after
too_long_ends status before after (inl writes) = record { ended = says_ends InputTooLong status before after (inl writes); told = elim (written_or_outside _ _ status before after writes) [ inl is ↦ inr (sym is) | inr outside ↦ inl outside ] }
too_long_ends status before after (inr writes) = record { ended = says_ends InputTooLong status before after (inr writes); told = inl (memory_is_outside status (written_or_outside _ _ status before after writes)) }

-- a fault of reading the lines was said
pub halt_applies : (placeholder : List ℕ) (bytes : List ℕ) (halt : RunError) (was later : ℕ) (status : Status) (before after : Option (List ℕ)) → HaltsApplying placeholder bytes halt → (halt ≡ InputFailed → FaultCounted was later)
    → Says halt status before after → RunsApplying placeholder bytes status before after ⊎ FailsReading was later status before after
halt_applies placeholder bytes Usage was later status before after halts failed says = absurd halts
halt_applies placeholder bytes InputFailed was later status before after halts failed says = inr (record { rose = failed refl; says = says })
halt_applies placeholder bytes Memory was later status before after halts failed says = inl (memory_applies placeholder bytes status before after says)
halt_applies placeholder bytes (BadLine number) was later status before after halts failed says = absurd halts
halt_applies placeholder bytes InputTooLong was later status before after halts failed says = inl (answered placeholder bytes (fault InputTooLong) status before after halts (too_long_ends status before after says))

-- the line of a line that isn't applied was to be written
pub line_ends : (at : FaultAt) (status : Status) (before after : Option (List ℕ)) → Writes InvalidInput (lines_text (fault_text at ∷ [])) status before after → EndsAs (line_fault at) status before after
line_ends at status before after writes = record {
  ended = record { wanted = InvalidInput; text = lines_text (fault_text at ∷ []); may = whole refl refl; writes = writes };
  told = elim (written_or_outside _ _ status before after writes) [ inl is ↦ inr (sym is) | inr outside ↦ inl outside ];
}

-- a run whose first line that isn't applied was found, unless memory ran out there
pub fault_applies : (placeholder : List ℕ) (bytes : List ℕ) (at : FaultAt) (status : Status) (before after : Option (List ℕ)) → length bytes ≤ input_limit
    → (at.fault ≢ line.Memory → first_line_fault placeholder (lines_of bytes) ≡ Some at) → (at.fault ≢ line.Memory → EndsAs (line_fault at) status before after)
    → (at.fault ≡ line.Memory → Says Memory status before after) → RunsApplying placeholder bytes status before after
fault_applies placeholder bytes at status before after within found ends says = go at.fault refl
  where
    bad_is_none : line.BadRecord ≡ line.Memory → ⊥
    bad_is_none e = cc

    refused_is_none : (error : ConsumeError) → line.Refused error ≡ line.Memory → ⊥
    refused_is_none error e = cc

    told : (at.fault ≢ line.Memory) → RunsApplying placeholder bytes status before after
    told other = answered placeholder bytes (line_fault at) status before after (refused at within (found other) refl) (ends other)

    go : (fault : LineFault) → at.fault ≡ fault → RunsApplying placeholder bytes status before after
    go line.BadRecord is = told (λ memory. bad_is_none (sym is ∙ memory))
    go (line.Refused error) is = told (λ memory. refused_is_none error (sym is ∙ memory))
    go line.Memory is = memory_applies placeholder bytes status before after (says is)

-- a run whose rows were to be printed
pub rows_apply : (placeholder : List ℕ) (bytes : List ℕ) (status : Status) (before after : Option (List ℕ)) → length bytes ≤ input_limit → first_line_fault placeholder (lines_of bytes) ≡ None
    → PrintedAs (consumer_of placeholder (readings_of_lines (lines_of bytes))) status before after → RunsApplying placeholder bytes status before after
rows_apply placeholder bytes status before after within none printed = answered placeholder bytes (done (map row_line printed.rows)) status before after (applied printed.rows within (none, printed.are) refl) printed.ends

-- ---- the lines of the rows

pub lines_printed : (lines : List (List ℕ)) (before after : Option (List ℕ)) → Wrote before after (lines_text lines) → EndsAs (done lines) Done before after
lines_printed lines before after wrote = record { ended = record { wanted = Done; text = lines_text lines; may = whole refl refl; writes = inl (refl, wrote) }; told = inr refl }

pub lines_cut : (lines : List (List ℕ)) (status : Status) (before after : Option (List ℕ)) → status ≡ StdoutFailed → WrotePrefix before after (lines_text lines) → EndsAs (done lines) status before after
lines_cut lines status before after is front = record { ended = record { wanted = Done; text = lines_text lines; may = whole refl refl; writes = inr (is, front) }; told = inl (inr (inl is)) }

pub lines_starved : (lines : List (List ℕ)) (n : ℕ) (status : Status) (before middle after : Option (List ℕ)) → Wrote before middle (lines_text (take n lines)) → Says Memory status middle after → EndsAs (done lines) status before after
lines_starved lines n status before middle after wrote says =
    let all : Writes (status_of Memory) (lines_text (take n lines) ++ lines_text (fault_line Memory ∷ [])) status before after = writes_then (status_of Memory) status before middle after _ _ wrote (memory_written status middle after says) in
    record {
      ended = record { wanted = status_of Memory; text = lines_text (take n lines) ++ lines_text (fault_line Memory ∷ []); may = out_of_memory n refl refl; writes = all };
      told = inl (memory_is_outside status (written_or_outside _ _ status before after all));
    }

-- what the consumer's printing answers
pub rows_printed : (held : List ℕ → List ℕ → Option HeldCells) (before after : Option (List ℕ)) → PrintsRows {A = Unit {0}} held (Ok tt) before after → PrintedAs held Done before after
rows_printed held before after prints = record {
  rows = prints.0;
  are = prints.1;
  ends = lines_printed (map row_line prints.0) before after prints.2;
}

pub rows_cut : (held : List ℕ → List ℕ → Option HeldCells) (status : Status) (before after : Option (List ℕ)) → status ≡ StdoutFailed → PrintsRows {A = Unit {0}} held (Err print_error.OutputFailed) before after → PrintedAs held status before after
rows_cut held status before after is prints = record {
  rows = prints.0;
  are = prints.1;
  ends = lines_cut (map row_line prints.0) status before after is prints.2;
}

pub rows_starved : (held : List ℕ → List ℕ → Option HeldCells) (status : Status) (before middle after : Option (List ℕ)) → PrintsRows {A = Unit {0}} held (Err print_error.Memory) before middle → Says Memory status middle after → PrintedAs held status before after
rows_starved held status before middle after prints says =
    let lines = map row_line prints.0 in
    record {
      rows = prints.0;
      are = prints.1;
      ends = lines_starved lines prints.2.0 status before middle after prints.2.1 says;
    }

pub says_memory : (status : Status) (before after : Option (List ℕ)) → Says Memory status before after → (status ≡ InvalidInput) ⊎ ((status ≡ StdoutFailed) ⊎ (status ≡ status_of Memory))
says_memory status before after (inl (inl said)) = inr (inr said.0)
says_memory status before after (inl (inr cut)) = inr (inl cut.0)
says_memory status before after (inr (inl said)) = inr (inr said.0)
says_memory status before after (inr (inr cut)) = inr (inl cut.0)

-- the same of the consumer that was made
pub rows_apply_at : (placeholder bytes : List ℕ) (held : Consumer) (status : Status) (before after : Option (List ℕ)) → placeholder_of held ≡ placeholder → length bytes ≤ input_limit
    → first_line_fault placeholder (lines_of bytes) ≡ None → Took (readings_of_lines (lines_of bytes)) held
    → ((taken : List Reading) → Took taken held → PrintedAs (consumer_of (placeholder_of held) taken) status before after) → RunsApplying placeholder bytes status before after
rows_apply_at placeholder bytes held status before after held_is within none took prints =
    rows_apply placeholder bytes status before after within none
    (subst (λ p. PrintedAs (consumer_of p (readings_of_lines (lines_of bytes))) status before after) held_is (prints (readings_of_lines (lines_of bytes)) took))

-- ---- statuses

pub memory_said : (status : Status) (before after : Option (List ℕ)) → Says Memory status before after → IsApplyStatus status
memory_said status before after says = elim (says_is Memory status before after says) [ inl is ↦ inr (inr (inr (inr is))) | inr outside ↦ inr (inr (outside_of status outside)) ]

-- a fault of reading the lines was said
pub apply_said : (halt : RunError) (status : Status) (before after : Option (List ℕ)) → (halt ≡ InputFailed) ⊎ ((halt ≡ InputTooLong) ⊎ (halt ≡ Memory)) → Says halt status before after → IsApplyStatus status
apply_said halt status before after (inl is) says = elim (says_is halt status before after says) [ inl said ↦ inr (inr (inl (said ∙ ap status_of is))) | inr outside ↦ inr (inr (outside_of status outside)) ]
apply_said halt status before after (inr (inl is)) says = elim (says_is halt status before after says) [ inl said ↦ inr (inl (said ∙ ap status_of is)) | inr outside ↦ inr (inr (outside_of status outside)) ]
apply_said halt status before after (inr (inr is)) says = elim (says_is halt status before after says) [ inl said ↦ inr (inr (inr (inr (said ∙ ap status_of is)))) | inr outside ↦ inr (inr (outside_of status outside)) ]

pub rows_known : (status : Status) → (status ≡ Done) ⊎ ((status ≡ StdoutFailed) ⊎ (status ≡ status_of Memory)) → IsApplyStatus status
rows_known status (inl is) = inl is
rows_known status (inr outside) = inr (inr (outside_of status outside))

pub fault_known : (status : Status) → (status ≡ InvalidInput) ⊎ ((status ≡ StdoutFailed) ⊎ (status ≡ status_of Memory)) → IsApplyStatus status
fault_known status (inl is) = inr (inl is)
fault_known status (inr outside) = inr (inr (outside_of status outside))

-- the status of an answer
pub applies_known : (placeholder bytes : List ℕ) (answer : RunAnswer) → Applies placeholder bytes answer → IsApplyStatus answer.status
applies_known placeholder bytes answer (long_input long is) = inr (inl (ap (λ (a : RunAnswer). a.status) is))
applies_known placeholder bytes answer (refused at within found is) = inr (inl (ap (λ (a : RunAnswer). a.status) is))
applies_known placeholder bytes answer (applied rows within found is) = inl (ap (λ (a : RunAnswer). a.status) is)
