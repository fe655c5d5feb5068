-- The bytes of a journal: the magic, committed entries, and an unset commit byte, after which everything is ignored.
use Rattle.std.specs.Prelude.{◌≡◌, ◌≢◌, ◌⊎◌, ℕ, ◌+◌, ◌^◌, ◌<◌, ◌≤◌, List, [], ◌∷◌, ◌++◌, length, take}
use Rattle.std.specs.List.{All, flat_map}
use Rattle.std.specs.Int.{to_be_bytes, w32}

-- the magic, the text DBLJRNL1
unfoldable pub magic : List ℕ
magic = 68 ∷ 66 ∷ 76 ∷ 74 ∷ 82 ∷ 78 ∷ 76 ∷ 49 ∷ []

-- an encoded entry: its length in four bytes, big-endian, and its bytes
unfoldable pub body : List ℕ → List ℕ
body entry = to_be_bytes w32 (length entry) ++ entry

-- a committed entry: the set commit byte and the encoded entry
abbrev pub frame : List ℕ → List ℕ
frame entry = 1 ∷ body entry

-- the bytes of a journal before its unset commit byte
unfoldable pub up_to_gate : List (List ℕ) → List ℕ
up_to_gate entries = magic ++ flat_map frame entries

-- the maximum length of an entry in bytes
abbrev pub entry_limit : ℕ
entry_limit = 2 ^ 28

-- the bytes are short enough for one entry
abbrev pub IsEntry : List ℕ → Type 0
IsEntry entry = length entry ≤ entry_limit

-- the bytes begin with an unset commit byte: any byte but 1
abbrev pub IsClosed : List ℕ → Type 0
IsClosed [] = ⊥
IsClosed (gate ∷ rest) = gate ≢ 1

-- the bytes are a journal of exactly these entries
pub record IsJournal (bytes : List ℕ) (entries : List (List ℕ)) : Type 0 where
  pub rest : List ℕ
  pub spelled : bytes ≡ up_to_gate entries ++ rest
  pub closed : IsClosed rest
  pub each : All IsEntry entries

-- the bytes begin with no complete entry
abbrev pub HasNoBody : List ℕ → Type 0
HasNoBody bytes = (entry rest : List ℕ) → IsEntry entry → bytes ≢ body entry ++ rest

-- the bytes are empty, or begin with a set commit byte that no complete entry follows
abbrev pub IsBroken : List ℕ → Type 0
IsBroken [] = Unit {0}
IsBroken (gate ∷ rest) = (gate ≡ 1) × HasNoBody rest

-- the offset of the first missing or wrong byte of the magic
pub record HasBadMagic (bytes : List ℕ) (at : ℕ) : Type 0 where
  pub within : at < 8
  pub same : take at bytes ≡ take at magic
  pub differs : take (at + 1) bytes ≢ take (at + 1) magic

-- the offset after some entries of a missing commit byte, or of a set one whose entry is truncated or too long
pub record HasBadGate (bytes : List ℕ) (at : ℕ) : Type 0 where
  pub entries : List (List ℕ)
  pub rest : List ℕ
  pub spelled : bytes ≡ up_to_gate entries ++ rest
  pub each : All IsEntry entries
  pub place : at ≡ length (up_to_gate entries)
  pub broken : IsBroken rest

-- the bytes are no journal, and this is the offset at which they are invalid
abbrev pub IsFaultAt : List ℕ → ℕ → Type 0
IsFaultAt bytes at = HasBadMagic bytes at ⊎ HasBadGate bytes at
