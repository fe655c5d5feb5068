-- Topic logs as bytes: a journal, each entry of which is an encoded group of records.
use Rattle.std.specs.Prelude.{◌≡◌, ◌≤◌, ℕ, List, [], ◌∷◌, length, map, take, Some, slice_get}
use Rattle.dbl_record.specs.declared.record.Record.{Record}
use Rattle.dbl_record.specs.Cuts.{joined}
use Rattle.dbl_record.specs.Groups.{IsGroup, group_form}
use Rattle.dbl_journal.specs.Form.{IsJournal}
use Rattle.dbl_journal.specs.Stored.{size}

-- the entry encodes a group of 1 to 1,000 records
pub record IsLogEntry (entry : List ℕ) (group : List Record) : Type 0 where
  pub is : IsGroup entry group
  pub some : 1 ≤ length group
  pub few : length group ≤ 1000

-- the entries encode these groups, one by one
abbrev pub AreLogEntries : List (List ℕ) → List (List Record) → Type 0
AreLogEntries [] [] = Unit {0}
AreLogEntries [] (group ∷ groups) = ⊥
AreLogEntries (entry ∷ entries) [] = ⊥
AreLogEntries (entry ∷ entries) (group ∷ groups) = IsLogEntry entry group × AreLogEntries entries groups

-- the bytes are a topic log of these groups
pub record IsLog (bytes : List ℕ) (groups : List (List Record)) : Type 0 where
  pub entries : List (List ℕ)
  pub journal : IsJournal bytes entries
  pub are : AreLogEntries entries groups

-- the number of bytes that a topic log of these groups takes
abbrev pub log_size : List (List Record) → ℕ
log_size groups = size (map group_form groups)

-- the bytes of a topic log contain these records
abbrev pub HoldRecords : List ℕ → List Record → Type 0
HoldRecords bytes records = (groups : List (List Record)) × IsLog bytes groups × (records ≡ joined groups)

-- the bytes are a journal, and this is the number of the first entry that is no group of a topic log
pub record HasBadEntry (bytes : List ℕ) (index : ℕ) : Type 0 where
  pub entries : List (List ℕ)
  pub journal : IsJournal bytes entries
  pub before : List (List Record)
  pub are : AreLogEntries (take index entries) before
  pub entry : List ℕ
  pub there : slice_get entries index ≡ Some entry
  pub bad : (group : List Record) → ¬ IsLogEntry entry group
