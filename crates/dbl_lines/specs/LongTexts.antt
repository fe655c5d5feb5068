-- A text in blocks, and the lines that are taken from its front.
use Rattle.std.specs.Prelude.{◌≡◌, ℕ, ◌+◌, ◌<◌, ◌==◌, List, [], ◌∷◌, ◌++◌, length, drop, Bool, true, false, Option, Some, None}
use Rattle.std.specs.List.{flat_map, AllByRecursion}
use Rattle.dbl_base.specs.Lines.{lines_of}

-- the text of blocks
abbrev pub text_in : List (List ℕ) → List ℕ
text_in blocks = flat_map (λ block. block) blocks

-- the first line was taken from the text, or none because the text has no byte
abbrev pub TakesLine : Bool → List ℕ → List ℕ → List ℕ → Type 0
TakesLine true line old new = (lines_of old ≡ line ∷ lines_of new) × (length new < length old)
TakesLine false line old new = old ≡ []

-- ---- for private clauses

-- the bytes have no newline
abbrev pub IsUnbroken : List ℕ → Type 0
IsUnbroken bytes = AllByRecursion (λ c. (c == 10) ≡ false) bytes

-- the bytes were appended to the line up to the newline, which is at this index, or all if there is none
abbrev pub TakesPart : Option ℕ → List ℕ → List ℕ → List ℕ → Type 0
TakesPart (Some end) old new bytes =
    (part : List ℕ) × (bytes ≡ part ++ 10 ∷ drop (end + 1) bytes) × (new ≡ old ++ part) × IsUnbroken part × (end < length bytes)
TakesPart None old new bytes = (new ≡ old ++ bytes) × IsUnbroken bytes
