-- The records of a transaction that is still open, made change by change.
use Rattle.std.specs.Prelude.{◌≡◌, ℕ, ℤ, ◌+◌, List, [], ◌++◌, length, map}
use Rattle.dbl_record.specs.declared.record.Record.{Record}
use Rattle.dbl_model_table.specs.declared.change.Change.{Change}
use Rattle.dbl_model_table.specs.declared.change.Head.{Head}
use Rattle.dbl_model_table.specs.Heads.{commit_so_far}
use Rattle.dbl_model_event.specs.Events.{notices, numbered}
use Rattle.dbl_model_event.specs.EventJson.{print}
use Rattle.dbl_envelope.specs.Writers.{Captured, AreTails}
use Rattle.dbl_envelope.specs.declared.so_far.OpenRecords.{OpenRecords}

-- The records of one more change of a transaction after so many records, the last of them marked as the last of its commit.
abbrev pub records_after : Captured → Head → ℤ → ℕ → Change → List Record
records_after captured head now made change =
    map (print captured.identity (commit_so_far head []) now) (numbered head.lsn.0 made (notices captured.infos change))

-- How many records were made.
abbrev pub made_by : OpenRecords → ℕ
made_by records = records.ordinal

-- The texts that it keeps are those of the tables of this writer.
pub record HasTails (captured : Captured) (records : OpenRecords) : Type 0 where
  pub long : length records.tails.items ≡ length captured.infos
  pub tails : AreTails captured records.commit records.now_ms records.tails.items

-- It makes the records of this writer's tables for the transaction with this Begin, at this time, and has made so many.
pub record HasMadeRecords (captured : Captured) (head : Head) (now : ℤ) (made : ℕ) (records : OpenRecords) : Type 0 where
  pub commit : records.commit ≡ commit_so_far head []
  pub now_is : records.now_ms ≡ now
  pub made_is : made_by records ≡ made
  pub tails : HasTails captured records

-- The records of one more change were appended to the old ones.
pub record AppendsRecords (captured : Captured) (head : Head) (now : ℤ) (made : ℕ) (change : Change) (old new : List Record)
    (records : OpenRecords) : Type 0 where
  pub appended : new ≡ old ++ records_after captured head now made change
  pub makes : HasMadeRecords captured head now (made + length (records_after captured head now made change)) records
