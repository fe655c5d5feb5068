-- What a report counts.
use Rattle.std.specs.Prelude.{◌≡◌, ℕ, List, ◌++◌, length, filter}
use Rattle.dbl_record.specs.declared.record.Record.{Record}
use Rattle.dbl_record.specs.Acts.{is_progress}
use Rattle.dbl_record.specs.Cuts.{joined}
use Rattle.dbl_faithful.specs.Kinds.{is_row}

-- The number of progress records among the records: one for each closed window.
abbrev pub chunks_in : List Record → ℕ
chunks_in records = length (filter (λ item. is_progress item.topic) records)

-- The number of snapshot rows among the records.
abbrev pub snapshot_row_count : List Record → ℕ
snapshot_row_count records = length (filter is_row records)

-- The topic log gained groups with one progress record for each closed window.
pub record ReportsWindowsOnce (closed : ℕ) (old new : List (List Record)) : Type 0 where
  pub more : List (List Record)
  pub gained : new ≡ old ++ more
  pub each : closed ≡ chunks_in (joined more)
