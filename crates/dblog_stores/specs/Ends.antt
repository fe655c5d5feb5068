-- The end of a command that only reads the stores: its output, and what it leaves of the disks.
use Rattle.std.specs.Prelude.{◌≡◌, ◌≢◌, ℕ, Option, Some, Result, Ok, Err, List, take}
use Rattle.dbl_base.specs.Lines.{lines_text}
use Rattle.dbl_disk.specs.Disks.{IsOnly}
use Rattle.dbl_disk.specs.Model.{DiskModel}
use Rattle.dbl_lines.specs.Writing.{Wrote, WrotePrefix}
use Rattle.dblog_stores.specs.declared.error.CommandError.{CommandError}
use Rattle.dblog_stores.specs.declared.error.CommandError.TheVariants.{OutputFailed, Memory, Failed, NotStarted, NotAStore, BadEntry}
use Rattle.dblog_stores.specs.declared.error.Store.{Store}
use Rattle.dblog_stores.specs.declared.error.Store.TheVariants.{Offsets}
use Rattle.dblog_stores.specs.Answers.{LinesAnswer}

-- The result of a command: done, or its error.
abbrev pub CommandEnd : Type 0
CommandEnd = Result (Unit {0}) CommandError

-- The output has a first part of the lines.
abbrev pub WroteFirst : List (List ℕ) → Option (List ℕ) → Option (List ℕ) → Type 0
WroteFirst lines before after = (n : ℕ) × Wrote before after (lines_text (take n lines))

-- An error while lines were being written: the output has a prefix of their text, or some first lines if the output didn't fail.
abbrev pub CutsLines : List (List ℕ) → CommandError → Option (List ℕ) → Option (List ℕ) → Type 0
CutsLines lines OutputFailed before after = WrotePrefix before after (lines_text lines)
CutsLines lines Memory before after = WroteFirst lines before after
CutsLines lines (Failed store) before after = WroteFirst lines before after
CutsLines lines error before after = ⊥

-- A run with this answer ended with this result and output.
abbrev pub Ends : LinesAnswer → CommandEnd → Option (List ℕ) → Option (List ℕ) → Type 0
Ends (Ok lines) (Ok done) before after = Wrote before after (lines_text lines)
Ends (Ok lines) (Err error) before after = CutsLines lines error before after
Ends (Err error) (Ok done) before after = ⊥
Ends (Err error) (Err told) before after = (told ≡ error) × (after ≡ before)

-- Memory ran out, or a disk failed.
abbrev pub IsExternalCommandError : CommandError → Type 0
IsExternalCommandError Memory = Unit {0}
IsExternalCommandError (Failed store) = Unit {0}
IsExternalCommandError error = ⊥

-- The command ended because memory ran out or a disk failed.
abbrev pub EndsOutside : CommandEnd → Type 0
EndsOutside (Ok done) = ⊥
EndsOutside (Err error) = IsExternalCommandError error

-- The output of a run of a command with these answers; none if memory ran out or a disk failed before.
pub data Runs (Answers : LinesAnswer → Type 0) (end : CommandEnd) (before after : Option (List ℕ)) : Type 0 where
  answered : (answer : LinesAnswer) → Answers answer → Ends answer end before after → Runs Answers end before after
  cut : EndsOutside end → after ≡ before → Runs Answers end before after

-- The error concerns this store, or memory ran out.
abbrev pub IsErrorOf : Store → CommandError → Type 0
IsErrorOf store Memory = Unit {0}
IsErrorOf store (Failed other) = other ≡ store
IsErrorOf store (NotAStore other at) = other ≡ store
IsErrorOf store (BadEntry other index) = other ≡ store
IsErrorOf store error = ⊥

-- The error is that the contents of a store aren't what the command needs.
abbrev pub IsRefusal : CommandError → Type 0
IsRefusal NotStarted = Unit {0}
IsRefusal (NotAStore store at) = Unit {0}
IsRefusal (BadEntry store index) = Unit {0}
IsRefusal error = ⊥

-- The error isn't that a disk has no journal, since the stores were opened before.
abbrev pub IsAfterJournalOpening : CommandError → Type 0
IsAfterJournalOpening error = (store : Store) (at : ℕ) → error ≢ NotAStore store at

-- A command that opens the topic log first ended after it had opened the offset.
abbrev pub HasOpenedOffset : CommandEnd → Type 0
HasOpenedOffset (Ok done) = Unit {0}
HasOpenedOffset (Err OutputFailed) = Unit {0}
HasOpenedOffset (Err NotStarted) = Unit {0}
HasOpenedOffset (Err (NotAStore store at)) = store ≡ Offsets
HasOpenedOffset (Err (BadEntry store index)) = store ≡ Offsets
HasOpenedOffset (Err error) = ⊥

-- If the disk had known contents, a crash leaves only these: it was synced, and only read since.
abbrev pub IsSynced : {D : Type 0} → DiskModel D → D → D → Type 0
IsSynced model old new = (bytes : List ℕ) → model.seen old ≡ Some bytes → IsOnly bytes (model.may_leave new)
