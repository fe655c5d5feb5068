-- Fields of the formats of dblog's own stores. Numbers are unsigned and big-endian.
use Rattle.std.specs.Prelude.{◌≡◌, ◌<◌, ◌^◌, ℕ, List, [], ◌∷◌, ◌++◌, length, Bool, if◌then◌else◌, Option, Some, None}
use Rattle.std.specs.Int.{w32, w64, to_be_bytes}
use Rattle.std.specs.Str.{IsUtf8}

-- a number in four bytes
unfoldable pub number32 : ℕ → List ℕ
number32 n = to_be_bytes w32 n

-- a number in eight bytes
unfoldable pub number64 : ℕ → List ℕ
number64 n = to_be_bytes w64 n

-- a truth value: 1, or 0
abbrev pub truth_form : Bool → List ℕ
truth_form b = (if b then 1 else 0) ∷ []

-- a text preceded by its length in bytes
unfoldable pub text_form : List ℕ → List ℕ
text_form text = number32 (length text) ++ text

-- an optional text: 0, or 1 and the text
unfoldable pub optional_form : Option (List ℕ) → List ℕ
optional_form None = 0 ∷ []
optional_form (Some text) = 1 ∷ text_form text

-- the text is short enough for its length field
abbrev pub IsShort : List ℕ → Type 0
IsShort text = length text < 2 ^ 32

-- the text is absent or short enough for its length field
abbrev pub IsShortOrAbsent : Option (List ℕ) → Type 0
IsShortOrAbsent None = Unit {0}
IsShortOrAbsent (Some text) = IsShort text

-- the text is UTF-8 and short enough for its length field
pub record IsStored (text : List ℕ) : Type 0 where
  pub utf8 : IsUtf8 text
  pub short : IsShort text

-- the text is absent, or UTF-8 and short enough for its length field
abbrev pub IsStoredOrAbsent : Option (List ℕ) → Type 0
IsStoredOrAbsent None = Unit {0}
IsStoredOrAbsent (Some text) = IsStored text

-- the piece was appended
abbrev pub Extends : List ℕ → List ℕ → List ℕ → Type 0
Extends old piece new = new ≡ old ++ piece
