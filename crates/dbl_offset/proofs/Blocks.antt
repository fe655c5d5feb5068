-- What the writes of a slot's blocks, and of the selector, leave of a store.
use Rattle.std.proofs.Common.{◌≡◌, ◌∙◌, ◌⊎◌, inl, inr, ℕ, ◌+◌, ◌-◌, ◌*◌, ◌%◌, ◌/◌, ◌<◌, ◌≤◌, ◌^◌, List, [], ◌∷◌, length, take, drop, get_or, refl}
use Rattle.std.proofs.Common.{sym, ap, subst, arith, length-append, length-take, length-drop}
use Rattle.std.proofs.lemmas.List.{get_or-take, get_or-drop, ext_get_or, take_at, drop_at}
use Rattle.std.proofs.lemmas.Nat.{div-add-mod', mod_below, from_be_bytes-to_be_bytes_4}
use Rattle.std.proofs.lemmas.Bool.{cases_lt}
use Rattle.std.specs.Int.{to_be_bytes, from_be_bytes, w32}
use Rattle.dbl_disk.specs.Disks.{Torn, written}
use Rattle.dbl_disk.proofs.Tears.{inside_written, length-written, outside_one, torn_written}
use Rattle.dbl_offset_content.specs.Entries.{slot_content}
use Rattle.dbl_offset.specs.Slots.{HasByteAt, HasSelectedEntry, HasSlotContent, IsOutsideSlot, KeepsOutsideSlot, SelectsSlot, block_start}
use Rattle.dbl_offset.specs.Slots.{store_magic}

-- the first blocks of the slot have this content
abbrev pub HasSlotBlocks : List ℕ → ℕ → List ℕ → ℕ → Type 0
HasSlotBlocks bytes slot content count = (block at : ℕ) → block < count → at < 4096 → 4096 * block + at < length content
    → HasByteAt bytes (block_start slot block + at) (get_or content (4096 * block + at) 0)

-- ---- what is kept

module _ (slot : ℕ) where
  pub keeps_same : (old : List ℕ) → KeepsOutsideSlot slot old old
  keeps_same old = record { no_shorter = omega arith; kept = λ position within outside. refl }

  pub keeps_more : (old mid new : List ℕ) → KeepsOutsideSlot slot old mid → KeepsOutsideSlot slot mid new → KeepsOutsideSlot slot old new
  keeps_more old mid new first second = record {
    no_shorter = omega (arith, first.no_shorter, second.no_shorter);
    kept = λ position within outside. second.kept position (omega (arith, first.no_shorter)) outside ∙ first.kept position within outside;
  }

  aside : (block count position : ℕ) → count ≤ 4096 → IsOutsideSlot slot position
      → (position < block_start slot block) ⊎ (block_start slot block + count ≤ position)
  aside block count position few outside = elim (cases_lt position (block_start slot block)) [
    | inl below ↦ inl below
    | inr above ↦ elim (cases_lt position (block_start slot block + count)) [
      | inl within ↦ absurd (outside block (position - block_start slot block) (omega arith) (omega arith))
      | inr subsequent ↦ inr subsequent
    ]
  ]

  pub keeps_torn : (block count : ℕ) (old new : List ℕ) → count ≤ 4096 → Torn (block_start slot block) count old new → KeepsOutsideSlot slot old new
  keeps_torn block count old new few torn = record {
    no_shorter = torn.no_shorter;
    kept = λ position within outside. torn.kept position within
        (outside_one (record { at = block_start slot block; length = count }) position (aside block count position few outside));
  }

-- ---- a block more

pub block_written : (slot block : ℕ) (old content piece : List ℕ) → HasSlotBlocks old slot content block → 4096 * block + length piece ≤ length content
    → (length piece < 4096 → 4096 * block + length piece ≡ length content)
    → ((j : ℕ) → j < length piece → get_or piece j 0 ≡ get_or content (4096 * block + j) 0)
    → HasSlotBlocks (written old (block_start slot block) piece) slot content (block + 1)
block_written slot block old content piece before within whole same k j early small inner = elim (cases_lt k block) [
  | inl earlier ↦ (
      let was = before k j earlier small inner in
      let aside = outside_one (record { at = block_start slot block; length = length piece }) (block_start slot k + j) (inl (omega arith)) in
      record {
        there = omega (arith, was.there, length-written old (block_start slot block) piece);
        is = (torn_written old (block_start slot block) piece).kept (block_start slot k + j) was.there aside ∙ was.is;
      })
  | inr last ↦ (
      let here : k ≡ block = omega arith in
      let below : j < length piece = elim (cases_lt (length piece) 4096) [
        | inl short ↦ omega (arith, whole short, here)
        | inr long ↦ omega arith
      ] in
      record {
        there = omega (arith, length-written old (block_start slot block) piece, below, here);
        is = ap (λ (n : ℕ). get_or (written old (block_start slot block) piece) n 0) (omega (arith, here))
            ∙ inside_written old (block_start slot block) piece j below ∙ same j below ∙ ap (λ (n : ℕ). get_or content n 0) (omega (arith, here));
      })
]

-- ---- the other slot, and the head

module _ (slot other : ℕ) (two : slot + other ≡ 1) where
  pub content_stays : (old new content : List ℕ) → KeepsOutsideSlot other old new → HasSlotContent old slot content → HasSlotContent new slot content
  content_stays old new content keeps has k j small inner =
      let was = has k j small inner in
      record {
        there = omega (arith, was.there, keeps.no_shorter);
        is = keeps.kept (block_start slot k + j) was.there (λ m i few same. (omega arith)) ∙ was.is;
      }

  head_stays : (old new : List ℕ) → KeepsOutsideSlot other old new → (position : ℕ) → position < 16 → position < length old
      → get_or new position 0 ≡ get_or old position 0
  head_stays old new keeps position small within = keeps.kept position within (λ m i few same. (omega arith))

  pub selects_stays : (old new : List ℕ) (selected : ℕ) → KeepsOutsideSlot other old new → SelectsSlot old selected → SelectsSlot new selected
  selects_stays old new selected keeps was = record {
    magic = ext_get_or 0 (take 8 new) (take 8 old) (omega (arith, length-take 8 new, length-take 8 old, keeps.no_shorter, was.there))
        (λ position below.
        let eight : position < 8 = omega (arith, length-take 8 new) in
        get_or-take 8 new position 0 eight ∙ head_stays old new keeps position (omega arith) (omega (arith, was.there))
        ∙ sym (get_or-take 8 old position 0 eight))
        ∙ was.magic;
    there = omega (arith, keeps.no_shorter, was.there);
    parity = was.parity ∙ ap (λ (n : ℕ). n % 2) (sym (head_stays old new keeps 8 (omega arith) was.there));
  }

  pub entry_stays : (old new entry : List ℕ) → KeepsOutsideSlot other old new → HasSelectedEntry old slot entry → HasSelectedEntry new slot entry
  entry_stays old new entry keeps was = record {
    selects = selects_stays old new slot keeps was.selects;
    short = was.short;
    content = content_stays old new (slot_content entry) keeps was.content;
  }

-- ---- the selector

module _ (bytes crashed : List ℕ) (torn : Torn 8 1 bytes crashed) where
  torn_aside : (position : ℕ) → position < length bytes → (position < 8) ⊎ (9 ≤ position) → get_or crashed position 0 ≡ get_or bytes position 0
  torn_aside position within aside = torn.kept position within (outside_one (record { at = 8; length = 1 }) position aside)

  pub content_kept : (slot : ℕ) (content : List ℕ) → HasSlotContent bytes slot content → HasSlotContent crashed slot content
  content_kept slot content has k j small inner =
      let was = has k j small inner in
      record {
        there = omega (arith, was.there, torn.no_shorter);
        is = torn_aside (block_start slot k + j) was.there (inr (omega arith)) ∙ was.is;
      }

  magic_kept : (selected : ℕ) → SelectsSlot bytes selected → take 8 crashed ≡ store_magic
  magic_kept selected was =
      ext_get_or 0 (take 8 crashed) (take 8 bytes) (omega (arith, length-take 8 crashed, length-take 8 bytes, torn.no_shorter, was.there))
      (λ position below.
      let eight : position < 8 = omega (arith, length-take 8 crashed) in
      get_or-take 8 crashed position 0 eight ∙ torn_aside position (omega (arith, was.there)) (inl eight) ∙ sym (get_or-take 8 bytes position 0 eight))
      ∙ was.magic

  pub selects_torn : (selected slot : ℕ) → SelectsSlot bytes selected → slot ≡ get_or crashed 8 0 % 2 → SelectsSlot crashed slot
  selects_torn selected slot was parity = record { magic = magic_kept selected was; there = omega (arith, was.there, torn.no_shorter); parity = parity }

  -- a torn selector is even or odd
  pub one_selected : (slot other selected : ℕ) (old entry : List ℕ) → slot + other ≡ 1 → SelectsSlot bytes selected → length old ≤ 2 ^ 28
      → length entry ≤ 2 ^ 28 → HasSlotContent bytes slot (slot_content old) → HasSlotContent bytes other (slot_content entry)
      → HasSelectedEntry crashed slot old ⊎ HasSelectedEntry crashed other entry
  one_selected slot other selected old entry two was short_old short_entry has_old has_entry =
      let bit : get_or crashed 8 0 % 2 < 2 = mod_below (get_or crashed 8 0) 2 (omega arith) in
      let which : (slot ≡ get_or crashed 8 0 % 2) ⊎ (other ≡ get_or crashed 8 0 % 2) = elim (cases_lt slot (get_or crashed 8 0 % 2)) [
        | inl below ↦ inr (omega (arith, bit))
        | inr above ↦ elim (cases_lt (get_or crashed 8 0 % 2) slot) [
          | inl under ↦ inr (omega (arith, bit))
          | inr over ↦ inl (omega arith)
        ]
      ] in
      elim which [
        | inl first ↦ inl (record { selects = selects_torn selected slot was first; short = short_old; content = content_kept slot (slot_content old) has_old })
        | inr second ↦ inr (record {
          selects = selects_torn selected other was second;
          short = short_entry;
          content = content_kept other (slot_content entry) has_entry;
        })
      ]

-- the selector is written
pub entry_selected : (slot selected : ℕ) (bytes entry : List ℕ) → slot < 2 → SelectsSlot bytes selected → length entry ≤ 2 ^ 28
    → HasSlotContent bytes slot (slot_content entry) → HasSelectedEntry (written bytes 8 (slot ∷ [])) slot entry
entry_selected slot selected bytes entry small was short has =
    let torn : Torn 8 1 bytes (written bytes 8 (slot ∷ [])) = torn_written bytes 8 (slot ∷ []) in
    let here : get_or (written bytes 8 (slot ∷ [])) 8 0 ≡ slot = inside_written bytes 8 (slot ∷ []) 0 (omega arith) in
    record {
      selects = selects_torn bytes (written bytes 8 (slot ∷ [])) torn selected slot was (omega (arith, here));
      short = short;
      content = content_kept bytes (written bytes 8 (slot ∷ [])) torn slot (slot_content entry) has;
    }

-- ---- one entry

same_byte : (bytes : List ℕ) (slot : ℕ) (a b : List ℕ) → HasSlotContent bytes slot a → HasSlotContent bytes slot b → (p : ℕ) → p < length a → p < length b
    → get_or a p 0 ≡ get_or b p 0
same_byte bytes slot a b has_a has_b p in_a in_b =
    let parts : p / 4096 * 4096 + p % 4096 ≡ p = div-add-mod' p 4096 in
    let small : p % 4096 < 4096 = mod_below p 4096 (omega arith) in
    let first = has_a (p / 4096) (p % 4096) small (omega (arith, parts)) in
    let second = has_b (p / 4096) (p % 4096) small (omega (arith, parts)) in
    ap (λ (n : ℕ). get_or a n 0) (omega (arith, parts)) ∙ sym first.is ∙ second.is ∙ ap (λ (n : ℕ). get_or b n 0) (omega (arith, parts))

pub length-slot_content : (entry : List ℕ) → length (slot_content entry) ≡ length entry + 4
unfolding slot_content
length-slot_content entry = length-append (to_be_bytes w32 (length entry)) entry ∙ omega arith

pub one_content : (bytes : List ℕ) (slot : ℕ) (a b : List ℕ) → length a ≤ 2 ^ 28 → length b ≤ 2 ^ 28 → HasSlotContent bytes slot (slot_content a)
    → HasSlotContent bytes slot (slot_content b) → a ≡ b
unfolding slot_content
one_content bytes slot a b short_a short_b has_a has_b =
    let four : take 4 (slot_content a) ≡ take 4 (slot_content b) =
    ext_get_or 0 (take 4 (slot_content a)) (take 4 (slot_content b))
    (omega (arith, length-take 4 (slot_content a), length-take 4 (slot_content b), length-slot_content a, length-slot_content b))
    (λ p below.
    let small : p < 4 = omega (arith, length-take 4 (slot_content a)) in
    get_or-take 4 (slot_content a) p 0 small
    ∙ same_byte bytes slot (slot_content a) (slot_content b) has_a has_b p (omega (arith, length-slot_content a)) (omega (arith, length-slot_content b))
    ∙ sym (get_or-take 4 (slot_content b) p 0 small)) in
    let lengths : to_be_bytes w32 (length a) ≡ to_be_bytes w32 (length b) =
    sym (take_at (to_be_bytes w32 (length a)) a 4 refl) ∙ four ∙ take_at (to_be_bytes w32 (length b)) b 4 refl in
    let long : length a ≡ length b = sym (from_be_bytes-to_be_bytes_4 (length a) (omega arith)) ∙ ap (from_be_bytes w32) lengths
    ∙ from_be_bytes-to_be_bytes_4 (length b) (omega arith) in
    let whole : slot_content a ≡ slot_content b =
    ext_get_or 0 (slot_content a) (slot_content b) (omega (arith, length-slot_content a, length-slot_content b, long))
    (λ p below. same_byte bytes slot (slot_content a) (slot_content b) has_a has_b p below
    (omega (arith, length-slot_content a, length-slot_content b, long))) in
    sym (drop_at (to_be_bytes w32 (length a)) a 4 refl) ∙ ap (λ (l : List ℕ). drop 4 l) whole ∙ drop_at (to_be_bytes w32 (length b)) b 4 refl

pub one_slot : (bytes : List ℕ) (first second : ℕ) → SelectsSlot bytes first → SelectsSlot bytes second → first ≡ second
one_slot bytes first second a b = a.parity ∙ sym b.parity

pub one_entry : (bytes : List ℕ) (first second : ℕ) (a b : List ℕ) → HasSelectedEntry bytes first a → HasSelectedEntry bytes second b → a ≡ b
one_entry bytes first second a b one two =
    let same : second ≡ first = one_slot bytes second first two.selects one.selects in
    one_content bytes first a b one.short two.short one.content (subst (λ (s : ℕ). HasSlotContent bytes s (slot_content b)) same two.content)

-- ---- the pieces of a content

pub length-piece : (content : List ℕ) (from upto : ℕ) → from ≤ upto → upto ≤ length content → length (take (upto - from) (drop from content)) ≡ upto - from
length-piece content from upto order within = omega (arith, length-take (upto - from) (drop from content), length-drop from content)

pub get_or-piece : (content : List ℕ) (from upto j : ℕ) → j < upto - from → get_or (take (upto - from) (drop from content)) j 0 ≡ get_or content (from + j) 0
get_or-piece content from upto j below = get_or-take (upto - from) (drop from content) j 0 below ∙ get_or-drop from content j 0
