-- Theorems about the records that a compaction keeps.
use Rattle.std.specs.Prelude.{◌≡◌, ℕ, List, map}
use Rattle.dbl_record.specs.declared.record.Record.{Record}
use Rattle.dbl_record.specs.Consumers.{consumer}
use Rattle.dbl_record.specs.Reading.{as_line}
use Rattle.dbl_compact.specs.Kept.{kept}
use Rattle.dbl_compact.specs.Marks.{marks, marked}

-- a consumer of the kept records has, at every topic and key text, the row of a consumer of all records
abbrev pub KeptRecordsMakeTheSameConsumer : Type 0
KeptRecordsMakeTheSameConsumer = (placeholder : List ℕ) (records : List Record) (topic key : List ℕ)
    → consumer placeholder (map as_line (kept placeholder records)) topic key ≡ consumer placeholder (map as_line records) topic key

-- of kept records all are kept
abbrev pub KeptRecordsAreKept : Type 0
KeptRecordsAreKept = (placeholder : List ℕ) (records : List Record) → kept placeholder (kept placeholder records) ≡ kept placeholder records

-- the records that are marked as kept are the kept records
abbrev pub MarkedRecordsAreKept : Type 0
MarkedRecordsAreKept = (placeholder : List ℕ) (records : List Record)
    → marked (marks placeholder records) records ≡ kept placeholder records
