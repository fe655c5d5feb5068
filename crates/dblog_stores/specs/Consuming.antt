-- For private clauses: a consumer of a topic log's groups.
use Rattle.std.specs.Prelude.{◌≡◌, ◌⊎◌, ℕ, Some, None, List, map}
use Rattle.dbl_record.specs.declared.record.Record.{Record}
use Rattle.dbl_record.specs.Acts.{Reading, reading_of}
use Rattle.dbl_record.specs.Cuts.{joined}
use Rattle.dbl_record.specs.Reading.{as_line}
use Rattle.dbl_consume.specs.declared.consumer.Consumer.{Consumer}
use Rattle.dbl_consume.specs.Holdings.{Took, placeholder_of}
use Rattle.dblog_stores.specs.declared.error.CommandError.{CommandError}
use Rattle.dblog_stores.specs.declared.error.CommandError.TheVariants.{BadEntry}
use Rattle.dblog_stores.specs.declared.error.Store.TheVariants.{Topics}
use Rattle.dblog_stores.specs.Answers.{first_refused}
use Rattle.dblog_stores.specs.Ends.{IsExternalCommandError}

-- The readings of the records.
abbrev pub readings_of : List Record → List Reading
readings_of items = map reading_of (map as_line items)

-- The consumer has applied the records of the groups, and refused none.
pub record HasTakenRecords (placeholder : List ℕ) (groups : List (List Record)) (held : Consumer) : Type 0 where
  pub took : Took (readings_of (joined groups)) held
  pub same : placeholder_of held ≡ placeholder
  pub none : first_refused placeholder groups ≡ None

-- A record of the first group that isn't accepted was refused.
pub record IsFirstBadGroup (placeholder : List ℕ) (groups : List (List Record)) (error : CommandError) : Type 0 where
  pub index : ℕ
  pub first : first_refused placeholder groups ≡ Some index
  pub error_is : error ≡ BadEntry Topics index

-- The error is that a record was refused, or that a disk failed or memory ran out.
abbrev pub RefusesAt : List ℕ → List (List Record) → CommandError → Type 0
RefusesAt placeholder groups error = IsExternalCommandError error ⊎ IsFirstBadGroup placeholder groups error
