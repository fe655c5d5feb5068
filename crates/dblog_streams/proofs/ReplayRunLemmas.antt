-- How a run of `replay` ends.
use Rattle.std.proofs.Common.{◌≡◌, ◌≢◌, ◌⊎◌, inl, inr, ◌∙◌, ℕ, ℤ, Bool, true, false, Option, Some, None, Ok, Err, List, [], ◌∷◌, ◌++◌, length, take, refl, sym}
use Rattle.std.proofs.Common.{ap, ap₂, subst}
use Rattle.std.proofs.Math.Seq.{take-nil}
use Rattle.dbl_base.specs.Lines.{lines_text}
use Rattle.dbl_base.specs.Streams.{FaultCounted}
use Rattle.dbl_model_commit.specs.declared.txn_error.TxnError.{TxnError}
use Rattle.dbl_model_commit.specs.declared.txn_error.TxnError.TheVariants as txn
use Rattle.dbl_lines.specs.declared.status.Status.{Status}
use Rattle.dbl_lines.specs.declared.run_error.RunError.{RunError}
use Rattle.dbl_lines.specs.declared.run_error.RunError.TheVariants.{Usage, BadLine, InputTooLong, InputFailed, Memory}
use Rattle.dblog_replay.specs.declared.log_fault.LogFault.{LogFault}
use Rattle.dblog_replay.specs.declared.log_fault.LogFault.TheVariants as log
use Rattle.dblog_replay.specs.declared.options.LogOptions.{LogOptions}
use Rattle.dbl_cli_commands.specs.declared.commands.ReplayOptions.{ReplayOptions}
use Rattle.dbl_lines.specs.declared.error.PrintError.TheVariants as print_error
use Rattle.dbl_lines.specs.Faults.{status_of, fault_line}
use Rattle.dblog_replay.specs.Pieces.{Piece, AllFitFields}
use Rattle.dblog_replay.specs.Streams.{ReadsPieces}
use Rattle.dblog_replay.specs.Log.{LogWrites, end_status, end_lines}
use Rattle.dblog_replay.specs.LogFaults.{transaction_status}
use Rattle.dblog_replay.specs.LogPrinting.{IsLogPrinted, LogFails}
use Rattle.dblog_streams.specs.Answers.{RunAnswer, fault, MayEnd, whole, out_of_memory, Ends, EndsAs, FailsReading, IsExternalStatus}
use Rattle.dblog_streams.specs.Statuses.{IsReplayAnswer, IsReplayStatus}
use Rattle.dblog_streams.proofs.AnswerLemmas.{memory_outside, memory_written, memory_ends, writes_then}
use Rattle.dblog_replay.proofs.CommitLaws.{commits_written, replayed_written}
use Rattle.dblog_replay.proofs.LogLemmas.{log_one}
use Rattle.dblog_replay.proofs.StreamLemmas.{reads_exist, reads_fit}
use Rattle.dblog_replay.specs.Masked.{masked_pieces}
use Rattle.dblog_replay.proofs.MaskedLemmas.{masked_pieces_fit}
use Rattle.dblog_streams.proofs.InputLemmas.{strings_small}
use Rattle.dbl_lines.specs.Says.{Says, Writes}
use Rattle.dbl_lines.specs.declared.status.Status.TheVariants.{StdoutFailed, InvalidInput}
use Rattle.dblog_streams.specs.declared.unread.Unread.{Unread}
use Rattle.dblog_streams.specs.declared.unread.Unread.TheVariants.{Run, BadFrame, CutFrame}
use Rattle.dblog_streams.specs.Inputs.{frame_text, cut_text, invalid_input, EncodesLines, bad_line, good_lines, EncodesFrames, bad_frame, cut_frame}
use Rattle.dblog_streams.specs.Inputs.{whole_frames}
use Rattle.dblog_streams.specs.Inputs.{EncodesWithin, EncodesStrings, too_long, encoded}
use Rattle.dblog_streams.specs.Replays.{log_options, ReplaysLog, log_answer, Replays, unread, replayed, RunsLog, RunsReplaying}
use Rattle.dblog_streams.specs.Streaming.{HaltsReading, IsFailure, unread_answer}
use Rattle.dblog_streams.proofs.ReplayLaws.{strings_one, ok_one, answer_one, ok_or_answer, replays_one}

-- ---- how a run over pieces ends

pub printed_runs : (options : LogOptions) (now : ℤ) (pieces : List Piece) (status : Status) (before after : Option (List ℕ))
    → IsLogPrinted options now pieces status before after → RunsLog options now pieces status before after
printed_runs options now pieces status before after is = record {
  ended = λ lines end writes. (
      let same = log_one options now [] pieces is.lines lines is.end end is.writes writes in
      subst (λ (a : RunAnswer). Ends a status before after) (ap₂ (λ (l : List (List ℕ)) (e : Option LogFault). log_answer l e) same.lines same.end)
      (record { wanted = end_status is.end; text = lines_text (is.lines ++ end_lines is.end); may = whole refl refl; writes = inl (is.is, is.wrote) }));
  meant = inr (is.lines, is.end, is.writes, sym is.is);
}

pub cut_runs : (options : LogOptions) (now : ℤ) (pieces : List Piece) (status : Status) (before after : Option (List ℕ)) → status ≡ StdoutFailed
    → ((lines : List (List ℕ)) (end : Option LogFault) → LogWrites options now [] pieces lines end → LogFails lines end print_error.OutputFailed before after)
    → RunsLog options now pieces status before after
cut_runs options now pieces status before after is fails = record {
  ended = λ lines end writes. record {
    wanted = end_status end;
    text = lines_text (lines ++ end_lines end);
    may = whole refl refl;
    writes = inr (is, fails lines end writes);
  };
  meant = inl (inr (inl is));
}

pub starved_runs : (options : LogOptions) (now : ℤ) (pieces : List Piece) (status : Status) (before middle after : Option (List ℕ))
    → ((lines : List (List ℕ)) (end : Option LogFault) → LogWrites options now [] pieces lines end → LogFails lines end print_error.Memory before middle)
    → Says Memory status middle after → RunsLog options now pieces status before after
starved_runs options now pieces status before middle after fails says = record {
  ended = λ lines end writes. (
      let part = fails lines end writes in
      record {
        wanted = status_of Memory;
        text = lines_text (take part.0 lines) ++ lines_text (fault_line Memory ∷ []);
        may = out_of_memory part.0 refl refl;
        writes = writes_then (status_of Memory) status before middle after _ _ part.1 (memory_written status middle after says);
      });
  meant = inl (memory_outside status middle after says);
}

-- ---- statuses

transaction_known : (error : TxnError) → IsReplayStatus (transaction_status error)
transaction_known (txn.SchemaChanged name) = inl (inr (inr (inl refl)))
transaction_known (txn.MovedUnchanged name column) = inl (inr (inr (inl refl)))
transaction_known (txn.Value name column error) = inl (inr (inr (inl refl)))
transaction_known txn.Memory = inr (inr (inr refl))
transaction_known txn.OutsideTransaction = inl (inr (inl refl))
transaction_known txn.NestedBegin = inl (inr (inl refl))
transaction_known (txn.CommitMismatch begin commit) = inl (inr (inl refl))
transaction_known (txn.LsnOrder last got) = inl (inr (inl refl))
transaction_known (txn.UnknownRelation oid) = inl (inr (inl refl))
transaction_known (txn.ColumnCount want got) = inl (inr (inl refl))
transaction_known (txn.KeyNotInIdentity name) = inl (inr (inl refl))
transaction_known (txn.MissingOld name) = inl (inr (inl refl))
transaction_known (txn.UnchangedCell name column) = inl (inr (inl refl))
transaction_known (txn.NullKey name) = inl (inr (inl refl))
transaction_known txn.BadMark = inl (inr (inl refl))

pub end_known : (end : Option LogFault) → IsReplayStatus (end_status end)
end_known None = inl (inl refl)
end_known (Some (log.Message number error)) = inl (inr (inl refl))
end_known (Some (log.Stream number error)) = inl (inr (inl refl))
end_known (Some (log.Transaction number error)) = transaction_known error
end_known (Some (log.Table error)) = inl (inr (inr (inl refl)))
end_known (Some log.TooManyTables) = inl (inr (inr (inl refl)))
end_known (Some (log.Mask name column error)) = inl (inr (inr (inl refl)))
end_known (Some (log.Placeholder name column)) = inl (inr (inr (inl refl)))
end_known (Some log.Unfinished) = inl (inr (inl refl))
end_known (Some log.Memory) = inr (inr (inr refl))

pub printed_known : (options : LogOptions) (now : ℤ) (pieces : List Piece) (status : Status) (before after : Option (List ℕ))
    → IsLogPrinted options now pieces status before after → IsReplayStatus status
printed_known options now pieces status before after is = subst IsReplayStatus (sym is.is) (end_known is.end)

-- a log's status is neither that of a failed output nor that of a failed input
transaction_other : (error : TxnError) → (transaction_status error ≢ StdoutFailed) × (transaction_status error ≢ status_of InputFailed)
transaction_other (txn.SchemaChanged name) = (λ is. cc, λ is. cc)
transaction_other (txn.MovedUnchanged name column) = (λ is. cc, λ is. cc)
transaction_other (txn.Value name column error) = (λ is. cc, λ is. cc)
transaction_other txn.Memory = (λ is. cc, λ is. cc)
transaction_other txn.OutsideTransaction = (λ is. cc, λ is. cc)
transaction_other txn.NestedBegin = (λ is. cc, λ is. cc)
transaction_other (txn.CommitMismatch begin commit) = (λ is. cc, λ is. cc)
transaction_other (txn.LsnOrder last got) = (λ is. cc, λ is. cc)
transaction_other (txn.UnknownRelation oid) = (λ is. cc, λ is. cc)
transaction_other (txn.ColumnCount want got) = (λ is. cc, λ is. cc)
transaction_other (txn.KeyNotInIdentity name) = (λ is. cc, λ is. cc)
transaction_other (txn.MissingOld name) = (λ is. cc, λ is. cc)
transaction_other (txn.UnchangedCell name column) = (λ is. cc, λ is. cc)
transaction_other (txn.NullKey name) = (λ is. cc, λ is. cc)
transaction_other txn.BadMark = (λ is. cc, λ is. cc)

end_other : (end : Option LogFault) → (end_status end ≢ StdoutFailed) × (end_status end ≢ status_of InputFailed)
end_other None = (λ is. cc, λ is. cc)
end_other (Some (log.Message number error)) = (λ is. cc, λ is. cc)
end_other (Some (log.Stream number error)) = (λ is. cc, λ is. cc)
end_other (Some (log.Transaction number error)) = transaction_other error
end_other (Some (log.Table error)) = (λ is. cc, λ is. cc)
end_other (Some log.TooManyTables) = (λ is. cc, λ is. cc)
end_other (Some (log.Mask name column error)) = (λ is. cc, λ is. cc)
end_other (Some (log.Placeholder name column)) = (λ is. cc, λ is. cc)
end_other (Some log.Unfinished) = (λ is. cc, λ is. cc)
end_other (Some log.Memory) = (λ is. cc, λ is. cc)

pub printed_no_output : (options : LogOptions) (now : ℤ) (pieces : List Piece) (status : Status) (before after : Option (List ℕ))
    → IsLogPrinted options now pieces status before after → status ≢ StdoutFailed
printed_no_output options now pieces status before after is same = (end_other is.end).0 (sym is.is ∙ same)

pub printed_no_input : (options : LogOptions) (now : ℤ) (pieces : List Piece) (status : Status) (before after : Option (List ℕ))
    → IsLogPrinted options now pieces status before after → status ≢ status_of InputFailed
printed_no_input options now pieces status before after is same = (end_other is.end).1 (sym is.is ∙ same)

-- the status of an answer
lines_known : (bytes : List ℕ) (answer : RunAnswer) → EncodesLines bytes (Err answer) → answer.status ≡ InvalidInput
lines_known bytes answer (bad_line n bad is) = ap (λ (a : RunAnswer). a.status) (answer_one answer (fault (BadLine n)) is)
lines_known bytes answer (good_lines good is) = absurd (ok_or_answer _ answer (sym is))

frames_known : (bytes : List ℕ) (answer : RunAnswer) → EncodesFrames bytes (Err answer) → answer.status ≡ InvalidInput
frames_known bytes answer (bad_frame frames reason are is) = ap (λ (a : RunAnswer). a.status) (answer_one answer (invalid_input (frame_text reason)) is)
frames_known bytes answer (cut_frame frames rest are some is) =
    ap (λ (a : RunAnswer). a.status) (answer_one answer (invalid_input (cut_text (length bytes))) is)
frames_known bytes answer (whole_frames frames are is) = absurd (ok_or_answer _ answer (sym is))

within_known : (raw : Bool) (bytes : List ℕ) (answer : RunAnswer) → EncodesWithin raw bytes (Err answer) → answer.status ≡ InvalidInput
within_known true bytes answer enc = frames_known bytes answer enc
within_known false bytes answer enc = lines_known bytes answer enc

encoding_known : (raw : Bool) (bytes : List ℕ) (answer : RunAnswer) → EncodesStrings raw bytes (Err answer) → answer.status ≡ InvalidInput
encoding_known raw bytes answer (too_long long is) = ap (λ (a : RunAnswer). a.status) (answer_one answer (fault InputTooLong) is)
encoding_known raw bytes answer (encoded within enc) = within_known raw bytes answer enc

pub replays_known : (options : ReplayOptions) (now : ℤ) (bytes : List ℕ) (answer : RunAnswer) → Replays options now bytes answer → IsReplayStatus answer.status
replays_known options now bytes answer (unread enc) = inl (inr (inr (inr (encoding_known options.raw bytes answer enc))))
replays_known options now bytes answer (replayed lines end log is) = subst (λ (a : RunAnswer). IsReplayStatus a.status) (sym is) (end_known end)

-- the status of an error of reading
unread_known : (u : Unread) → u ≢ Run Usage → IsReplayStatus (unread_answer u).status
unread_known (Run Usage) other = absurd (other refl)
unread_known (Run InputFailed) other = inr (inl refl)
unread_known (Run Memory) other = inr (inr (inr refl))
unread_known (Run (BadLine number)) other = inl (inr (inr (inr refl)))
unread_known (Run InputTooLong) other = inl (inr (inr (inr refl)))
unread_known (BadFrame reason) other = inl (inr (inr (inr refl)))
unread_known (CutFrame size) other = inl (inr (inr (inr refl)))

-- an error of reading was said
pub unread_said : (u : Unread) (status : Status) (before after : Option (List ℕ)) → u ≢ Run Usage → EndsAs (unread_answer u) status before after
    → IsReplayStatus status
unread_said u status before after other ends = elim ends.told [ inl outside ↦ inr outside | inr is ↦ subst IsReplayStatus is (unread_known u other) ]

-- a run's status is its answer's, unless the output failed or memory ran out
ended_is : (answer : RunAnswer) (status : Status) (before after : Option (List ℕ)) → Ends answer status before after
    → (status ≡ answer.status) ⊎ ((status ≡ StdoutFailed) ⊎ (status ≡ status_of Memory))
ended_is answer status before after ends = elim ends.writes [ inl wrote ↦ by_status ends.may wrote.0 | inr cut ↦ inr (inl cut.0) ]
  where
    by_status : MayEnd answer ends.wanted ends.text → status ≡ ends.wanted
        → (status ≡ answer.status) ⊎ ((status ≡ StdoutFailed) ⊎ (status ≡ status_of Memory))
    by_status (whole is text_is) same = inl (same ∙ is)
    by_status (out_of_memory n is text_is) same = inr (inr (same ∙ is))

input_error : (u : Unread) → (unread_answer u).status ≡ status_of InputFailed → u ≡ Run InputFailed
input_error (Run Usage) is = cc
input_error (Run InputFailed) is = refl
input_error (Run Memory) is = cc
input_error (Run (BadLine number)) is = cc
input_error (Run InputTooLong) is = cc
input_error (BadFrame reason) is = cc
input_error (CutFrame size) is = cc

-- only a failed input has its status
pub unread_input : (u : Unread) (status : Status) (before after : Option (List ℕ)) → EndsAs (unread_answer u) status before after
    → status ≡ status_of InputFailed → u ≡ Run InputFailed
unread_input u status before after ends same = elim (ended_is (unread_answer u) status before after ends.ended) [
  | inl is ↦ input_error u (sym is ∙ same)
  | inr outside ↦ elim outside [ inl is ↦ cc | inr is ↦ cc ]
]

-- out of memory, or a fault of the input, tells nothing of what it means
memory_no_answer : (status : Status) → (status ≡ StdoutFailed) ⊎ (status ≡ status_of Memory) → IsReplayAnswer status → ⊥
memory_no_answer status (inl is) (inl told) = cc
memory_no_answer status (inl is) (inr (inl told)) = cc
memory_no_answer status (inl is) (inr (inr (inl told))) = cc
memory_no_answer status (inl is) (inr (inr (inr told))) = cc
memory_no_answer status (inr is) (inl told) = cc
memory_no_answer status (inr is) (inr (inl told)) = cc
memory_no_answer status (inr is) (inr (inr (inl told))) = cc
memory_no_answer status (inr is) (inr (inr (inr told))) = cc

input_no_answer : (status : Status) → status ≡ status_of InputFailed → IsReplayAnswer status → ⊥
input_no_answer status is (inl told) = cc
input_no_answer status is (inr (inl told)) = cc
input_no_answer status is (inr (inr (inl told))) = cc
input_no_answer status is (inr (inr (inr told))) = cc

pub outside_no_answer : (status : Status) → IsExternalStatus status → IsReplayAnswer status → ⊥
outside_no_answer status (inl is) answer = input_no_answer status is answer
outside_no_answer status (inr outside) answer = memory_no_answer status outside answer

failure_outside : (u : Unread) → IsFailure u → IsExternalStatus (unread_answer u).status
failure_outside u (inl is) = inl (ap (λ (v : Unread). (unread_answer v).status) is)
failure_outside u (inr is) = inr (inr (ap (λ (v : Unread). (unread_answer v).status) is))

pub failure_no_answer : (u : Unread) (status : Status) (before after : Option (List ℕ)) → IsFailure u → EndsAs (unread_answer u) status before after
    → IsReplayAnswer status → ⊥
failure_no_answer u status before after fails ends answer = elim ends.told [
  | inl outside ↦ outside_no_answer status outside answer
  | inr is ↦ outside_no_answer status (subst IsExternalStatus is (failure_outside u fails)) answer
]

-- ---- how a run over bytes ends

-- a run with an error's answer wrote the error's line, unless memory ran out
ends_says : (halt : RunError) (status : Status) (before after : Option (List ℕ)) → Ends (fault halt) status before after → Says halt status before after
ends_says halt status before after ends = by_text ends.may
  where
    by_text : MayEnd (fault halt) ends.wanted ends.text → Says halt status before after
    by_text (whole is text_is) =
        inl (subst (λ (l : List ℕ). Writes (status_of halt) l status before after) text_is
        (subst (λ (s : Status). Writes s ends.text status before after) is ends.writes))
    by_text (out_of_memory n is text_is) =
        inr (subst (λ (l : List ℕ). Writes (status_of Memory) l status before after)
        (text_is ∙ ap (λ (ls : List (List ℕ)). lines_text ls ++ lines_text (fault_line Memory ∷ [])) (take-nil n))
        (subst (λ (s : Status). Writes s ends.text status before after) is ends.writes))

answered : (options : ReplayOptions) (now : ℤ) (bytes : List ℕ) (answer : RunAnswer) (status : Status) (before after : Option (List ℕ))
    → EncodesStrings options.raw bytes (Err answer) → EndsAs answer status before after → RunsReplaying options now bytes status before after
answered options now bytes answer status before after encodes ends = record {
  ended = λ other replays.
      subst (λ (a : RunAnswer). Ends a status before after) (replays_one options now bytes answer other (unread encodes) replays) ends.ended;
  meant = elim ends.told [ inl outside ↦ inl outside | inr is ↦ inr (answer, unread encodes, is) ];
}

starved_replays : (options : ReplayOptions) (now : ℤ) (bytes : List ℕ) (status : Status) (before after : Option (List ℕ))
    → Says Memory status before after → RunsReplaying options now bytes status before after
starved_replays options now bytes status before after says = record {
  ended = λ answer replays. memory_ends answer status before after (memory_written status before after says);
  meant = inl (memory_outside status before after says);
}

-- the line of an error of reading was to be written
pub unread_replays : (options : ReplayOptions) (now : ℤ) (bytes : List ℕ) (u : Unread) (was later : ℕ) (status : Status) (before after : Option (List ℕ))
    → HaltsReading options.raw bytes u → (u ≡ Run InputFailed → FaultCounted was later)
    → EndsAs (unread_answer u) status before after → RunsReplaying options now bytes status before after ⊎ FailsReading was later status before after
unread_replays options now bytes u was later status before after (inr encodes) failed ends =
    inl (answered options now bytes (unread_answer u) status before after encodes ends)
unread_replays options now bytes u was later status before after (inl (inl is)) failed ends =
    inr (record {
      rose = failed is;
      says = ends_says InputFailed status before after (subst (λ (v : Unread). Ends (unread_answer v) status before after) is ends.ended);
    })
unread_replays options now bytes u was later status before after (inl (inr is)) failed ends =
    inl (starved_replays options now bytes status before after
    (ends_says Memory status before after (subst (λ (v : Unread). Ends (unread_answer v) status before after) is ends.ended)))

-- the byte strings were replayed
pub strings_replay : (options : ReplayOptions) (now : ℤ) (bytes : List ℕ) (strings : List (List ℕ)) (status : Status) (before after : Option (List ℕ))
    → EncodesStrings options.raw bytes (Ok strings)
    → ((pieces : List Piece) → ReadsPieces options.stream strings pieces → RunsLog (log_options options) now (masked_pieces (log_options options).mask [] pieces) status before after)
    → RunsReplaying options now bytes status before after
strings_replay options now bytes strings status before after encodes runs =
    let some = reads_exist options.stream strings (strings_small options.raw bytes strings encodes) in
    record {
      ended = ends;
      meant = elim (runs some.0 some.1).meant [
        | inl outside ↦ inl outside
        | inr told ↦ inr (log_answer told.0 told.1, replayed told.0 told.1 (logged some.0 some.1 told.0 told.1 told.2) refl, told.3)
      ];
    }
  where
    fits : (pieces : List Piece) → ReadsPieces options.stream strings pieces → AllFitFields (masked_pieces (log_options options).mask [] pieces)
    fits pieces read = masked_pieces_fit (log_options options).mask [] pieces (reads_fit options.stream strings pieces read)

    logged : (pieces : List Piece) → ReadsPieces options.stream strings pieces → (lines : List (List ℕ)) (end : Option LogFault)
        → LogWrites (log_options options) now [] (masked_pieces (log_options options).mask [] pieces) lines end → ReplaysLog options now bytes lines end
    logged pieces read lines end writes = record {
      strings = strings;
      pieces = pieces;
      encodes = encodes;
      read = read;
      replayed = commits_written (log_options options) now (masked_pieces (log_options options).mask [] pieces) lines end (fits pieces read) writes;
    }

    ends : (answer : RunAnswer) → Replays options now bytes answer → Ends answer status before after
    ends answer (unread encodes') = absurd (ok_or_answer strings answer (strings_one options.raw bytes (Ok strings) (Err answer) encodes encodes'))
    ends answer (replayed lines end log is) =
        let same = ok_one log.strings strings (strings_one options.raw bytes (Ok log.strings) (Ok strings) log.encodes encodes) in
        let read : ReadsPieces options.stream strings log.pieces = subst (λ (bs : List (List ℕ)). ReadsPieces options.stream bs log.pieces) same log.read in
        subst (λ (a : RunAnswer). Ends a status before after) (sym is)
        ((runs log.pieces read).ended lines end
        (replayed_written (log_options options) now (masked_pieces (log_options options).mask [] log.pieces) lines end (fits log.pieces read) log.replayed))
