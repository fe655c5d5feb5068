-- Marks of records: whether a compaction keeps each.
use Rattle.std.specs.Prelude.{ℕ, zero, suc, ◌/◌, ◌%◌, ◌==◌, ◌++◌, List, [], ◌∷◌, Bool, if◌then◌else◌, reverse}
use Rattle.dbl_record.specs.declared.record.Record.{Record}
use Rattle.dbl_compact.specs.Kept.{is_kept}

-- whether each record is kept
abbrev pub marks : List ℕ → List Record → List Bool
marks placeholder [] = []
marks placeholder (item ∷ later) = is_kept placeholder item later ∷ marks placeholder later

-- the records whose mark is true
abbrev pub marked : List Bool → List Record → List Record
marked [] items = []
marked (mark ∷ marks) [] = []
marked (mark ∷ marks) (item ∷ items) = if mark then item ∷ marked marks items else marked marks items

-- ---- for private clauses: marks as bits

-- so many low bits of a byte, from the lowest on
unfoldable pub bits : ℕ → ℕ → List Bool
bits zero byte = []
bits (suc count) byte = (byte % 2 == 1) ∷ bits count (byte / 2)

-- the eight bits of each byte
abbrev pub all_bits : List ℕ → List Bool
all_bits [] = []
all_bits (byte ∷ bytes) = bits 8 byte ++ all_bits bytes

-- the marks in the low bits of the last byte, then those of the full bytes, from the last on
abbrev pub marks_in : ℕ → ℕ → List ℕ → List Bool
marks_in count last full = bits count last ++ all_bits (reverse full)
