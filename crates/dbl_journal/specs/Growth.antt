-- What no call of a journal undoes.
use Rattle.std.specs.Prelude.{◌≡◌, ℕ, ◌+◌, ◌^◌, ◌≤◌, IsTrue, Some, List, length, max}
use Rattle.dbl_disk.specs.Model.{DiskModel}
use Rattle.dbl_journal.specs.Form.{IsJournal, up_to_gate}
use Rattle.dbl_journal.specs.Stored.{Lists, OnDisk}

-- the most bytes after the unset commit byte if only appends wrote there: more than one append writes
abbrev pub growth_room : ℕ
growth_room = 2 ^ 30

-- The bytes are a journal whose unset commit byte is at or past the offset, and their number is at most the given one or 2^30 past that
-- commit byte.
pub record ReachesFrom (gate most : ℕ) (bytes : List ℕ) : Type 0 where
  pub entries : List (List ℕ)
  pub journal : IsJournal bytes entries
  pub on : gate ≤ length (up_to_gate entries)
  pub short : length bytes ≤ max most (length (up_to_gate entries) + growth_room)

-- a usable journal lists some entries, and its disk has known contents, which reach from the offset as above
pub record HasCome {D : Type 0} (model : DiskModel D) (gate most : ℕ) (journal : OnDisk D) : Type 0 where
  pub lists : IsTrue journal.live → (entries : List (List ℕ)) × Lists model journal entries
  pub told : (bytes : List ℕ) × (model.seen journal.disk ≡ Some bytes)
  pub reaches : (bytes : List ℕ) → model.seen journal.disk ≡ Some bytes → ReachesFrom gate most bytes

-- The new journal extends the old one: its contents stay known, its unset commit byte never moves back, and the disk grows to at most 2^30
-- bytes past it.
abbrev pub ExtendsJournal : {D : Type 0} → DiskModel D → OnDisk D → OnDisk D → Type 0
ExtendsJournal model old new = (gate most : ℕ) → HasCome model gate most old → HasCome model gate most new
