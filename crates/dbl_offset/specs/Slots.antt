-- The bytes of an offset store: a magic, a selector, and two slots, of which the selected one counts.
use Rattle.std.specs.Prelude.{◌≡◌, ◌≢◌, ℕ, ◌+◌, ◌-◌, ◌*◌, ◌/◌, ◌%◌, ◌<◌, ◌≤◌, List, [], ◌∷◌, ◌++◌, length, take, replicate, slice_index}
use Rattle.dbl_offset_content.specs.Entries.{slot_content}
use Rattle.dbl_offset_content.specs.Measures.{offset_limit}

-- ---- the layout

-- The magic, the text DBLOFFS2.
unfoldable pub store_magic : List ℕ
store_magic = 68 ∷ 66 ∷ 76 ∷ 79 ∷ 70 ∷ 70 ∷ 83 ∷ 50 ∷ []

-- The position at which a slot's block with this number begins. The blocks of the two slots alternate, after a head of 16 bytes.
abbrev pub block_start : ℕ → ℕ → ℕ
block_start slot block = 16 + 8192 * block + 4096 * slot

-- Where slot 1's blocks of a content with so many bytes end, at least one. Those of slot 0 end before.
abbrev pub content_end : ℕ → ℕ
content_end count = block_start 1 ((count - 1) / 4096) + (count - 1) % 4096 + 1

-- The bytes of a store that was just made: the magic, selector 0, seven zeros, and the length 0 of slot 0.
abbrev pub empty_store : List ℕ
empty_store = store_magic ++ replicate 12 0

-- ---- what a store's bytes contain

-- Whether the bytes have this byte at the position.
pub record HasByteAt (bytes : List ℕ) (position byte : ℕ) : Type 0 where
  pub there : position < length bytes
  pub is : slice_index bytes position ≡ byte

-- Whether the slot has this content, of which each block has 4,096 bytes and the last one the rest.
abbrev pub HasSlotContent : List ℕ → ℕ → List ℕ → Type 0
HasSlotContent bytes slot content = (block at : ℕ) → at < 4096 → 4096 * block + at < length content
    → HasByteAt bytes (block_start slot block + at) (slice_index content (4096 * block + at))

-- Whether the bytes begin with the magic and a selector, whose lowest bit is this slot.
pub record SelectsSlot (bytes : List ℕ) (slot : ℕ) : Type 0 where
  pub magic : take 8 bytes ≡ store_magic
  pub there : 8 < length bytes
  pub parity : slot ≡ slice_index bytes 8 % 2

-- Whether this slot is selected and its content is that of the entry, which is short enough.
pub record HasSelectedEntry (bytes : List ℕ) (slot : ℕ) (entry : List ℕ) : Type 0 where
  pub selects : SelectsSlot bytes slot
  pub short : length entry ≤ offset_limit
  pub content : HasSlotContent bytes slot (slot_content entry)

-- ---- bytes that are no store

-- Whether this is the position of the first wrong or missing byte of the magic.
pub record HasWrongMagic (bytes : List ℕ) (at : ℕ) : Type 0 where
  pub within : at < 8
  pub same : take at bytes ≡ take at store_magic
  pub differs : take (at + 1) bytes ≢ take (at + 1) store_magic

-- Whether the bytes end after the magic, so that the selector at this position is missing.
pub record HasNoSelector (bytes : List ℕ) (at : ℕ) : Type 0 where
  pub magic : bytes ≡ store_magic
  pub end : at ≡ 8

-- Whether the content of the selected slot, which begins at this position, is truncated or longer than the limit.
pub record HasBadContent (bytes : List ℕ) (at : ℕ) : Type 0 where
  pub slot : ℕ
  pub selects : SelectsSlot bytes slot
  pub none : (entry : List ℕ) → ¬ HasSelectedEntry bytes slot entry
  pub start : at ≡ block_start slot 0

-- ---- for private clauses

-- Whether the position is in none of the slot's blocks.
abbrev pub IsOutsideSlot : ℕ → ℕ → Type 0
IsOutsideSlot slot position = (block at : ℕ) → at < 4096 → position ≢ block_start slot block + at

-- Whether the old bytes outside the slot's blocks are unchanged.
pub record KeepsOutsideSlot (slot : ℕ) (old new : List ℕ) : Type 0 where
  pub no_shorter : length old ≤ length new
  pub kept : (position : ℕ) → position < length old → IsOutsideSlot slot position → slice_index new position ≡ slice_index old position

-- Whether the bytes reach as far as this many bytes of the slot's content.
abbrev pub ReachesInSlot : List ℕ → ℕ → ℕ → Type 0
ReachesInSlot bytes slot total = (block at : ℕ) → at < 4096 → 4096 * block + at < total → block_start slot block + at < length bytes
