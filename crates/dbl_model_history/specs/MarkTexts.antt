-- The texts that a connector writes as watermarks: Andreakis and Papapanagiotou, "DBLog: A Watermark Based Change-Data-Capture Framework"
-- (2020), where each is unique. The form of the text is this connector's own.
use Rattle.std.specs.Prelude.{◌≡◌, ℕ, ◌<◌, ◌≤◌, ◌^◌, List, ◌++◌, length, codes, decimal}
use Rattle.std.specs.Str.{IsUtf8}

-- The side of a watermark: the low one is written before the rows of a chunk are read, the high one after.
pub data Side : Type 0 where
  Low : Side
  High : Side

-- The end of a watermark's text, by its side.
abbrev pub side_text : Side → List ℕ
side_text Low = codes "-L"
side_text High = codes "-H"

-- The text `<incarnation>-<number>-L` or `-H` of a watermark: the session's incarnation, and the number of the window in the session.
abbrev pub mark_text : ℕ → ℕ → Side → List ℕ
mark_text incarnation number side = decimal incarnation ++ codes "-" ++ decimal number ++ side_text side

-- Watermarks with equal texts have the same incarnation, number and side.
abbrev pub MarksTellNumbers : Type 0
MarksTellNumbers = (a b n m : ℕ) (s t : Side) → a < 2 ^ 64 → b < 2 ^ 64 → n < 2 ^ 64 → m < 2 ^ 64 → mark_text a n s ≡ mark_text b m t
    → (a ≡ b) × (n ≡ m) × (s ≡ t)

-- The text of a watermark is UTF-8 of at most 43 bytes.
abbrev pub MarksAreShort : Type 0
MarksAreShort = (incarnation number : ℕ) (side : Side) → incarnation < 2 ^ 64 → number < 2 ^ 64 → IsUtf8 (mark_text incarnation number side)
    × (length (mark_text incarnation number side) ≤ 43)
