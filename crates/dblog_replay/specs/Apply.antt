-- What `apply --lines` makes of the lines of its input.
use Rattle.std.specs.Prelude.{ℕ, ◌+◌, List, [], ◌∷◌, ◌++◌, if◌then◌else◌, Option, Some, None, Result, Ok, Err, codes, decimal}
use Rattle.std.specs.List.{filter_map}
use Rattle.std.specs.Str.{is_utf8}
use Rattle.dbl_record.specs.declared.acts.Act.{Act}
use Rattle.dbl_record.specs.declared.acts.ConsumeError.{ConsumeError}
use Rattle.dbl_record.specs.declared.acts.ConsumeError.TheVariants as consume
use Rattle.dbl_record.specs.Acts.{Reading, act_of}
use Rattle.dbl_record.specs.Reading.{reading_in}
use Rattle.dblog_replay.specs.declared.apply.FaultAt.{FaultAt}
use Rattle.dblog_replay.specs.declared.apply.LineFault.{LineFault}
use Rattle.dblog_replay.specs.declared.apply.LineFault.TheVariants.{BadRecord, Refused, Memory}

-- The record of a line that is UTF-8 and a record; an empty line is skipped.
abbrev pub reading_of_line : List ℕ → Option Reading
reading_of_line [] = None
reading_of_line (c ∷ cs) = if is_utf8 (c ∷ cs) then reading_in (c ∷ cs) else None

-- The records of the lines, in order.
abbrev pub readings_of_lines : List (List ℕ) → List Reading
readings_of_lines lines = filter_map reading_of_line lines

-- The error of a record that the consumer refuses, if it does.
abbrev pub refusal_of : Result Act ConsumeError → Option LineFault
refusal_of (Ok act) = None
refusal_of (Err error) = Some (Refused error)

-- Why there is no record, or why this one isn't applied.
abbrev pub line_fault_of : List ℕ → Option Reading → Option LineFault
line_fault_of placeholder None = Some BadRecord
line_fault_of placeholder (Some reading) = refusal_of (act_of placeholder reading)

-- Why a line isn't applied.
abbrev pub fault_in : List ℕ → List ℕ → Option LineFault
fault_in placeholder [] = None
fault_in placeholder (c ∷ cs) = line_fault_of placeholder (reading_of_line (c ∷ cs))

-- The error of this line, or else the first one of the later lines.
abbrev pub or_later_line : ℕ → Option LineFault → Option FaultAt → Option FaultAt
or_later_line number None later = later
or_later_line number (Some fault) later = Some (record { number = number; fault = fault })

-- The first line that isn't applied, if the first of these lines has this number.
abbrev pub first_fault_from : ℕ → List ℕ → List (List ℕ) → Option FaultAt
first_fault_from number placeholder [] = None
first_fault_from number placeholder (line ∷ lines) =
    or_later_line number (fault_in placeholder line) (first_fault_from (number + 1) placeholder lines)

-- The first line that isn't applied, counted from 1; empty lines count too.
abbrev pub first_line_fault : List ℕ → List (List ℕ) → Option FaultAt
first_line_fault = first_fault_from 1

-- The letter, the number and the words of a refusal.
abbrev pub refusal_text : ConsumeError → List ℕ
refusal_text consume.BadJson = codes "C1 bad json"
refusal_text consume.NoOp = codes "C2 no op"
refusal_text consume.UnknownOp = codes "C3 unknown op"
refusal_text consume.NoKey = codes "C4 no key"
refusal_text consume.BadAfter = codes "C5 bad after"
refusal_text (consume.FloatCell column) = codes "C6 float cell " ++ column
refusal_text (consume.NestedCell column) = codes "C7 nested cell " ++ column
refusal_text consume.Memory = codes "C8 out of memory"

-- The letter, the number and the words of an error of a line.
abbrev pub words_of : LineFault → List ℕ
words_of BadRecord = codes "B1 bad record"
words_of (Refused error) = refusal_text error
words_of Memory = codes "out of memory"

-- The line of an error, without its newline.
abbrev pub fault_text : FaultAt → List ℕ
fault_text at = codes "dblog: line " ++ decimal at.number ++ codes ": " ++ words_of at.fault
