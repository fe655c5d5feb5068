-- How a log is printed.
use Rattle.std.proofs.Common.{◌≡◌, ℕ, ℤ, Option, List, [], ◌++◌, Result, Ok, Err, refl, sym, ap₂, subst, append-nil}
use Rattle.dbl_base.specs.Lines.{lines_text}
use Rattle.dbl_base.proofs.LineLemmas.{lines_text-append}
use Rattle.dbl_lines.specs.declared.status.Status.{Status}
use Rattle.dbl_lines.specs.declared.error.PrintError.{PrintError}
use Rattle.dbl_lines.specs.declared.error.PrintError.TheVariants as print_error
use Rattle.dbl_lines.specs.Writing.{WrotePrefix, PrintFails}
use Rattle.dbl_lines.specs.Gathering.{IsPut, PutFails}
use Rattle.dbl_lines.proofs.WritingLemmas.{front_more}
use Rattle.dbl_lines.proofs.PutLemmas.{none_put, put_fails_prints, putting_starves}
use Rattle.dblog_replay.specs.declared.log_fault.LogFault.{LogFault}
use Rattle.dblog_replay.specs.declared.options.LogOptions.{LogOptions}
use Rattle.dblog_replay.specs.Pieces.{Piece}
use Rattle.dblog_replay.specs.Log.{LogWrites, end_lines}
use Rattle.dblog_replay.specs.LogPrinting.{IsLogPut, IsLogPrinted, LogFails, PrintsLog, EndFails, FinishesLog}
use Rattle.dblog_replay.proofs.LogLemmas.{log_one}

-- not all lines were put
pub fails_log : (lines : List (List ℕ)) (end : Option LogFault) (gathered : List ℕ) (error : PrintError) (before after : Option (List ℕ)) → gathered ≡ [] → PutFails lines gathered error before after → LogFails lines end error before after
fails_log lines end gathered print_error.OutputFailed before after none fails =
    subst (WrotePrefix before after) (sym (lines_text-append lines (end_lines end))) (front_more before after (lines_text lines) (lines_text (end_lines end)) (put_fails_prints lines gathered print_error.OutputFailed before after none fails))
fails_log lines end gathered print_error.Memory before after none fails = put_fails_prints lines gathered print_error.Memory before after none fails

-- ---- the line of the fault

-- it wasn't put
pub end_cut : (fault : Option LogFault) (gathered : List ℕ) (error : PrintError) (before after : Option (List ℕ)) → PutFails (end_lines fault) gathered error before after → (error ≡ print_error.Memory → after ≡ before) → EndFails fault gathered error before after
end_cut fault gathered print_error.OutputFailed before after fails unwritten = fails
end_cut fault gathered print_error.Memory before after fails unwritten = unwritten refl

-- or the output failed after it
pub finish_cut : (fault : Option LogFault) (gathered : List ℕ) (error : PrintError) (before after : Option (List ℕ)) → error ≡ print_error.OutputFailed
    → ((start : Option (List ℕ)) (lines : List (List ℕ)) → IsPut start before gathered lines → PrintFails (lines ++ end_lines fault) error start after) → EndFails fault gathered error before after
finish_cut fault gathered print_error.OutputFailed before after is fails = fails
finish_cut fault gathered print_error.Memory before after is fails = cc

-- ---- the lines of a log

-- the line of the fault wasn't put, as memory ran out
pub starves_log : (options : LogOptions) (now : ℤ) (pieces : List Piece) (gathered later : List ℕ) (fault : Option LogFault) (before after : Option (List ℕ))
    → gathered ≡ [] → IsLogPut options now pieces gathered later fault before after
    → (lines : List (List ℕ)) (end : Option LogFault) → LogWrites options now [] pieces lines end → LogFails lines end print_error.Memory before after
starves_log options now pieces gathered later fault before after none is lines end writes =
    let same = log_one options now [] pieces is.lines lines fault end is.writes writes in
    let part : PutFails is.lines gathered print_error.Memory before after = putting_starves is.lines [] gathered later before after (record { first = is.lines; is = append-nil is.lines; puts = is.puts }) in
    subst (λ (l : List (List ℕ)). LogFails l end print_error.Memory before after) same.lines (put_fails_prints is.lines gathered print_error.Memory before after none part)

-- all lines were put, and the line of the fault, and then written
pub prints_log : (options : LogOptions) (now : ℤ) (pieces : List Piece) (gathered later : List ℕ) (fault : Option LogFault) (status : Status)
    (before between after : Option (List ℕ))
    → gathered ≡ [] → IsLogPut options now pieces gathered later fault before between
    → FinishesLog fault later (Ok status) between after → IsLogPrinted options now pieces status before after
prints_log options now pieces gathered later fault status before between after none is ends = record {
  lines = is.lines;
  end = fault;
  writes = is.writes;
  is = ends.0;
  wrote = ends.1 before is.lines (is.puts before [] (none_put before gathered none));
}

pub cuts_log : (options : LogOptions) (now : ℤ) (pieces : List Piece) (gathered later : List ℕ) (fault : Option LogFault)
    (before between after : Option (List ℕ))
    → gathered ≡ [] → IsLogPut options now pieces gathered later fault before between
    → EndFails fault later print_error.OutputFailed between after
    → (lines : List (List ℕ)) (end : Option LogFault) → LogWrites options now [] pieces lines end → LogFails lines end print_error.OutputFailed before after
cuts_log options now pieces gathered later fault before between after none is fails lines end writes =
    let same = log_one options now [] pieces is.lines lines fault end is.writes writes in
    let cut : WrotePrefix before after (lines_text (is.lines ++ end_lines fault)) = fails before is.lines (is.puts before [] (none_put before gathered none)) in
    subst (WrotePrefix before after) (ap₂ (λ (l : List (List ℕ)) (e : Option LogFault). lines_text (l ++ end_lines e)) same.lines same.end) cut

pub ended_log : (options : LogOptions) (now : ℤ) (pieces : List Piece) (gathered later : List ℕ) (fault : Option LogFault) (result : Result Status PrintError)
    (before between after : Option (List ℕ))
    → gathered ≡ [] → IsLogPut options now pieces gathered later fault before between
    → FinishesLog fault later result between after → PrintsLog options now pieces result before after
ended_log options now pieces gathered later fault (Ok status) before between after none is ends =
    prints_log options now pieces gathered later fault status before between after none is ends
ended_log options now pieces gathered later fault (Err print_error.OutputFailed) before between after none is ends =
    cuts_log options now pieces gathered later fault before between after none is ends
ended_log options now pieces gathered later fault (Err print_error.Memory) before between after none is same = λ lines end writes.
    subst (λ (a : Option (List ℕ)). LogFails lines end print_error.Memory before a) (sym same)
    (starves_log options now pieces gathered later fault before between none is lines end writes)
