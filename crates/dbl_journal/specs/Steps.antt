-- The steps of scanning a journal and of appending to it.
use Rattle.std.specs.Prelude.{◌≡◌, ◌≢◌, ℕ, ◌+◌, Option, Some, None, List, ◌∷◌, ◌++◌, length, drop}
use Rattle.std.specs.List.{All}
use Rattle.dbl_disk.specs.Disks.{IsOnly}
use Rattle.dbl_disk.specs.Model.{DiskModel}
use Rattle.dbl_disk.specs.declared.extent.Extent.{Extent}
use Rattle.dbl_journal.specs.Form.{IsClosed, IsEntry, body, frame, up_to_gate}
use Rattle.dbl_journal.specs.Stored.{places_from}

-- the commit byte at the offset is unset, or it is set and this is the extent of the entry after it
abbrev pub IsStep : List ℕ → ℕ → Option Extent → Type 0
IsStep bytes gate None = IsClosed (drop gate bytes)
IsStep bytes gate (Some place) = (entry : List ℕ) × IsEntry entry × (drop gate bytes ≡ frame entry ++ drop (gate + 5 + length entry) bytes)
    × (place ≡ record { at = gate + 5; length = length entry })

-- the extents are those of the entries scanned, up to the offset
pub record AreRead (bytes : List ℕ) (gate : ℕ) (places : List Extent) : Type 0 where
  pub entries : List (List ℕ)
  pub spelled : bytes ≡ up_to_gate entries ++ drop gate bytes
  pub each : All IsEntry entries
  pub gate_is : gate ≡ length (up_to_gate entries)
  pub places_are : places ≡ places_from 8 entries

-- the entry and the next commit byte, unset, are written after the unset commit byte
pub record IsStaged (bytes : List ℕ) (entries : List (List ℕ)) (entry : List ℕ) : Type 0 where
  pub gate : ℕ
  pub tail : List ℕ
  pub spelled : bytes ≡ up_to_gate entries ++ gate ∷ (body entry ++ 0 ∷ tail)
  pub closed : gate ≢ 1
  pub each : All IsEntry entries

-- the disk has known contents in which the entry is written but not committed, and a crash leaves exactly those
pub record Stages {D : Type 0} (model : DiskModel D) (disk : D) (entries : List (List ℕ)) (entry : List ℕ) : Type 0 where
  pub bytes : List ℕ
  pub told : model.seen disk ≡ Some bytes
  pub only : IsOnly bytes (model.may_leave disk)
  pub staged : IsStaged bytes entries entry
