-- A journal on a disk.
use Rattle.std.specs.Prelude.{◌≡◌, ℕ, ◌+◌, ◌<◌, ◌≤◌, Bool, IsTrue, Some, List, [], ◌∷◌, length}
pub use Rattle.dbl_disk.specs.Calls.{IsSteady}
use Rattle.dbl_disk.specs.Disks.{IsOnly, disk_limit}
use Rattle.dbl_disk.specs.Model.{DiskModel}
use Rattle.dbl_disk.specs.declared.extent.Extent.{Extent}
use Rattle.dbl_journal.specs.Form.{IsJournal, up_to_gate}

-- the disk, the offset of the unset commit byte, the extents of the entries, and whether the journal is usable
pub record OnDisk (D : Type 0) : Type 0 where
  pub disk : D
  pub gate : ℕ
  pub places : List Extent
  pub live : Bool

-- the number of entries
abbrev pub count_of : {D : Type 0} → OnDisk D → ℕ
count_of journal = length journal.places

-- the number of bytes that a journal of these entries takes, including its unset commit byte
abbrev pub size : List (List ℕ) → ℕ
size entries = length (up_to_gate entries) + 1

-- the extents of these entries, given the offset of the first one's commit byte
abbrev pub places_from : ℕ → List (List ℕ) → List Extent
places_from gate [] = []
places_from gate (entry ∷ entries) = record { at = gate + 5; length = length entry } ∷ places_from (gate + 5 + length entry) entries

-- The journal lists these entries: it is usable, its disk has known contents, which are a journal of the entries, and a crash leaves
-- exactly those.
pub record Lists {D : Type 0} (model : DiskModel D) (journal : OnDisk D) (entries : List (List ℕ)) : Type 0 where
  pub live : IsTrue journal.live
  pub bytes : List ℕ
  pub told : model.seen journal.disk ≡ Some bytes
  pub only : IsOnly bytes (model.may_leave journal.disk)
  pub spelled : IsJournal bytes entries
  pub gate : journal.gate ≡ length (up_to_gate entries)
  pub places : journal.places ≡ places_from 8 entries

-- a crash may leave a journal of these entries
abbrev pub MayLeaveEntries : {D : Type 0} → DiskModel D → D → List (List ℕ) → Type 0
MayLeaveEntries model disk entries = (crashed : List ℕ) × model.may_leave disk crashed × IsJournal crashed entries

-- a crash leaves a journal, whose entries satisfy the predicate
abbrev pub LeavesEntries : {D : Type 0} → DiskModel D → D → (List (List ℕ) → Type 0) → Type 0
LeavesEntries model disk P = (crashed : List ℕ) → model.may_leave disk crashed → (entries : List (List ℕ))
    × IsJournal crashed entries × P entries

-- The invariant of journals: the unset commit byte's offset is small, and in a usable journal within the disk and at least the number of
-- entries.
pub record IsPlaced {D : Type 0} (model : DiskModel D) (disk : D) (gate : ℕ) (places : List Extent) (live : Bool) : Type 0 where
  pub small : gate < disk_limit
  pub few : IsTrue live → length places ≤ gate
  pub there : IsTrue live → (bytes : List ℕ) → model.seen disk ≡ Some bytes → gate < length bytes
