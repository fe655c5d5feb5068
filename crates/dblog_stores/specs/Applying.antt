-- For private clauses: the steps of `offsets`, `apply` and `compact` after the stores were opened.
use Rattle.std.specs.Prelude.{◌≡◌, ℕ, Option, Some, None, Ok, Err, List, map}
use Rattle.dbl_record.specs.declared.record.Record.{Record}
use Rattle.dbl_record.specs.Consumers.{HeldCells, consumer}
use Rattle.dbl_record.specs.Cuts.{joined}
use Rattle.dbl_record.specs.Line.{line_of}
use Rattle.dbl_record.specs.Reading.{as_line}
use Rattle.dbl_consume.specs.Printing.{HeldRow, AreRowsOf, row_line}
use Rattle.dbl_compact.specs.Kept.{kept}
use Rattle.dbl_offset_content.specs.declared.offset.Offset.{Offset}
use Rattle.dblog_stores.specs.declared.error.CommandError.{CommandError}
use Rattle.dblog_stores.specs.declared.error.CommandError.TheVariants.{NotStarted}
use Rattle.dblog_stores.specs.declared.listing.Listing.{Listing}
use Rattle.dblog_stores.specs.declared.listing.Listing.TheVariants.{Rows, KeptRecords}
use Rattle.dblog_stores.specs.Answers.{first_refused, offset_lines}
use Rattle.dblog_stores.specs.Consuming.{IsFirstBadGroup}
use Rattle.dblog_stores.specs.Ends.{CommandEnd, Ends, EndsOutside}

-- The text of this offset, if there is one, was to be written.
abbrev pub TellsOffset : Option Offset → CommandEnd → Option (List ℕ) → Option (List ℕ) → Type 0
TellsOffset None end before after = (end ≡ Err NotStarted) × (after ≡ before)
TellsOffset (Some offset) end before after = Ends (Ok (offset_lines offset)) end before after

-- The lines of the rows of this state were to be written.
pub record PrintedRows (held : List ℕ → List ℕ → Option HeldCells) (end : CommandEnd) (before after : Option (List ℕ)) : Type 0 where
  pub rows : List HeldRow
  pub are : AreRowsOf held rows
  pub ends : Ends (Ok (map row_line rows)) end before after

-- The lines of a listing of these groups were to be written.
abbrev pub PrintedAs : Listing → List ℕ → List (List Record) → CommandEnd → Option (List ℕ) → Option (List ℕ) → Type 0
PrintedAs Rows placeholder groups end before after = PrintedRows (consumer placeholder (map as_line (joined groups))) end before after
PrintedAs KeptRecords placeholder groups end before after = Ends (Ok (map line_of (kept placeholder (joined groups)))) end before after

-- The log of these groups was listed with this placeholder.
pub data AppliesGroups (listing : Listing) (placeholder : List ℕ) (groups : List (List Record)) (end : CommandEnd)
    (before after : Option (List ℕ)) : Type 0 where
  stopped : EndsOutside end → after ≡ before → AppliesGroups listing placeholder groups end before after
  bad : (error : CommandError) → end ≡ Err error → IsFirstBadGroup placeholder groups error → after ≡ before
      → AppliesGroups listing placeholder groups end before after
  printed : first_refused placeholder groups ≡ None → PrintedAs listing placeholder groups end before after
      → AppliesGroups listing placeholder groups end before after

-- The log of these groups was listed with the placeholder of an offset, if there is one.
abbrev pub AppliesStores : Listing → List (List Record) → Option Offset → CommandEnd → Option (List ℕ) → Option (List ℕ) → Type 0
AppliesStores listing groups None end before after = (end ≡ Err NotStarted) × (after ≡ before)
AppliesStores listing groups (Some offset) end before after = AppliesGroups listing offset.identity.placeholder groups end before after
