-- How a slot's content is read.
use Rattle.std.proofs.Common.{◌≡◌, ◌∙◌, inl, inr, ℕ, ◌+◌, ◌-◌, ◌*◌, ◌/◌, ◌%◌, ◌<◌, ◌≤◌, ◌^◌, min, List, ◌++◌, length, take, drop, get_or, refl, sym, ap}
use Rattle.std.proofs.Common.{arith, length-append, length-take, length-drop}
use Rattle.std.proofs.lemmas.List.{get_or_append_left, get_or-append_right, get_or-take, get_or-drop, ext_get_or, take-append-drop, take_all, drop_at}
use Rattle.std.proofs.lemmas.Nat.{div-add-mod', mod_below, from_be_bytes-to_be_bytes_4}
use Rattle.std.proofs.lemmas.Bool.{cases_lt}
use Rattle.std.specs.Int.{to_be_bytes, from_be_bytes, w32}
use Rattle.dbl_offset_content.specs.Entries.{slot_content}
use Rattle.dbl_offset.specs.Slots.{HasByteAt, HasSlotContent, ReachesInSlot, block_start}
use Rattle.dbl_offset.proofs.Blocks.{length-slot_content}

-- what a read moved into the buffer
pub moved_at : (bytes buffer : List ℕ) (at got j : ℕ) → take got buffer ≡ take got (drop at bytes) → j < got → get_or buffer j 0 ≡ get_or bytes (at + j) 0
moved_at bytes buffer at got j moved below =
    sym (get_or-take got buffer j 0 below) ∙ ap (λ (l : List ℕ). get_or l j 0) moved ∙ get_or-take got (drop at bytes) j 0 below ∙ get_or-drop at bytes j 0

-- a read of a block, or of its first bytes, reaches as far as the slot does
pub got_enough : (bytes buffer content : List ℕ) (slot block total count got : ℕ) → ReachesInSlot bytes slot total → length content ≡ 4096 * block
    → length content + count ≤ total → count ≤ 4096 → length buffer ≡ 4096
    → got ≡ min (length buffer) (length bytes - block_start slot block) → count ≤ got
got_enough bytes buffer content slot block total count got reaches long within few buffer_long got_is = elim (cases_lt 0 count) [
  | inl some ↦ (
      let last : block_start slot block + (count - 1) < length bytes = reaches block (count - 1) (omega (arith, few, some))
      (omega (arith, long, within, some)) in
      omega (arith, last, got_is, buffer_long, few, some))
  | inr none ↦ omega (arith, none)
]

-- one block more was read
pub block_read : (bytes buffer content : List ℕ) (slot block total count got : ℕ) → ReachesInSlot bytes slot total → HasSlotContent bytes slot content
    → length content ≡ 4096 * block
    → length content + count ≤ total → count ≤ 4096 → length buffer ≡ 4096 → got ≡ min (length buffer) (length bytes - block_start slot block)
    → take got buffer ≡ take got (drop (block_start slot block) bytes)
    → HasSlotContent bytes slot (content ++ take count buffer)
block_read bytes buffer content slot block total count got reaches has long within few buffer_long got_is moved k j small inner =
    let whole : length (content ++ take count buffer) ≡ length content + count = omega
    (arith, length-append content (take count buffer), length-take count buffer, buffer_long, few) in
    elim (cases_lt (4096 * k + j) (length content)) [
      | inl earlier ↦ (
          let was = has k j small earlier in
          record { there = was.there; is = was.is ∙ sym (get_or_append_left content (take count buffer) 0 (4096 * k + j) earlier) })
      | inr later ↦ (
          let here : k ≡ block = omega (arith, later, inner, whole, long, few, small) in
          let there : block_start slot k + j < length bytes = reaches k j small (omega (arith, inner, whole, within)) in
          let below : j < count = omega (arith, here, inner, whole, long) in
          let got_it : j < got = omega (arith, got_is, buffer_long, small, there, here) in
          record {
            there = there;
            is = ap (λ (n : ℕ). get_or bytes n 0) (omega (arith, here))
                ∙ sym (moved_at bytes buffer (block_start slot block) got j moved got_it)
                ∙ sym (get_or-take count buffer j 0 below)
                ∙ ap (λ (n : ℕ). get_or (take count buffer) n 0) (omega (arith, here, long))
                ∙ sym (get_or-append_right content (take count buffer) (length content) (4096 * k + j) 0 refl later);
          })
    ]

-- the disk reaches as far as the last byte of a content
pub all_there : (bytes : List ℕ) (slot total : ℕ) → 1 ≤ total → block_start slot ((total - 1) / 4096) + (total - 1) % 4096 < length bytes
    → ReachesInSlot bytes slot total
all_there bytes slot total some last k j small inner =
    let parts : (total - 1) / 4096 * 4096 + (total - 1) % 4096 ≡ total - 1 = div-add-mod' (total - 1) 4096 in
    let rest : (total - 1) % 4096 < 4096 = mod_below (total - 1) 4096 (omega arith) in
    omega (arith, parts, rest, last, inner, small, some)

pub last_there : (bytes : List ℕ) (slot total : ℕ) (content : List ℕ) → 1 ≤ total → length content ≡ total → HasSlotContent bytes slot content
    → block_start slot ((total - 1) / 4096) + (total - 1) % 4096 < length bytes
last_there bytes slot total content some long has =
    let parts : (total - 1) / 4096 * 4096 + (total - 1) % 4096 ≡ total - 1 = div-add-mod' (total - 1) 4096 in
    let rest : (total - 1) % 4096 < 4096 = mod_below (total - 1) 4096 (omega arith) in
    (has ((total - 1) / 4096) ((total - 1) % 4096) rest (omega (arith, parts, some, long))).there

-- ---- the length

-- the slot's content begins with these four bytes
abbrev pub HasFour : List ℕ → ℕ → List ℕ → Type 0
HasFour bytes slot four = (at : ℕ) → at < 4 → HasByteAt bytes (block_start slot 0 + at) (get_or four at 0)

pub same_length : (bytes : List ℕ) (slot : ℕ) (entry four : List ℕ) → length four ≡ 4 → HasSlotContent bytes slot (slot_content entry)
    → HasFour bytes slot four → four ≡ to_be_bytes w32 (length entry)
unfolding slot_content
same_length bytes slot entry four long has stands =
    ext_get_or 0 four (to_be_bytes w32 (length entry)) long
    (λ j below.
    let small : j < 4 = omega (arith, long) in
    let here = has 0 j (omega arith) (omega (arith, length-slot_content entry)) in
    sym (stands j small).is
    ∙ ap (λ (n : ℕ). get_or bytes n 0) (omega arith)
    ∙ here.is
    ∙ ap (λ (n : ℕ). get_or (to_be_bytes w32 (length entry) ++ entry) n 0) (omega arith)
    ∙ get_or_append_left (to_be_bytes w32 (length entry)) entry 0 j small)

pub same_count : (bytes : List ℕ) (slot : ℕ) (entry : List ℕ) (n : ℕ) → n < 2 ^ 32 → length entry ≤ 2 ^ 28 → HasSlotContent bytes slot (slot_content entry)
    → HasFour bytes slot (to_be_bytes w32 n) → n ≡ length entry
same_count bytes slot entry n fits short has stands =
    sym (from_be_bytes-to_be_bytes_4 n fits) ∙ ap (from_be_bytes w32) (same_length bytes slot entry (to_be_bytes w32 n) refl has stands)
    ∙ from_be_bytes-to_be_bytes_4 (length entry) (omega arith)

-- what was read is a content
pub is_content : (bytes : List ℕ) (slot : ℕ) (content : List ℕ) (n : ℕ) → length content ≡ n + 4 → HasSlotContent bytes slot content
    → HasFour bytes slot (to_be_bytes w32 n) → content ≡ slot_content (drop 4 content)
unfolding slot_content
is_content bytes slot content n long has stands =
    let count : n ≡ length (drop 4 content) = omega (arith, long, length-drop 4 content) in
    let head : take 4 content ≡ to_be_bytes w32 n =
    ext_get_or 0 (take 4 content) (to_be_bytes w32 n) (omega (arith, length-take 4 content, long))
    (λ j below.
    let small : j < 4 = omega (arith, length-take 4 content) in
    let here = has 0 j (omega arith) (omega (arith, long)) in
    get_or-take 4 content j 0 small ∙ ap (λ (n : ℕ). get_or content n 0) (omega arith) ∙ sym here.is ∙ (stands j small).is) in
    sym (take-append-drop 4 content) ∙ ap (λ (l : List ℕ). l ++ drop 4 content) (head ∙ ap (to_be_bytes w32) count)

pub four_read : (bytes buffer : List ℕ) (at got j : ℕ) → got ≡ min 4 (length bytes - at) → take got buffer ≡ take got (drop at bytes) → 4 ≤ got → j < 4
    → HasByteAt bytes (at + j) (get_or buffer j 0)
four_read bytes buffer at got j got_is moved enough small = record {
  there = omega (arith, got_is, enough, small);
  is = sym (moved_at bytes buffer at got j moved (omega (arith, enough, small)));
}

-- the entry after its length
pub entry_of : (content entry : List ℕ) → content ≡ slot_content entry → drop 4 content ≡ entry
unfolding slot_content
entry_of content entry is = ap (λ (l : List ℕ). drop 4 l) is ∙ drop_at (to_be_bytes w32 (length entry)) entry 4 refl

-- the entry, read from there to the content's end
pub entry_read : (content entry : List ℕ) → content ≡ slot_content entry → take (length content - 4) (drop 4 content) ≡ entry
entry_read content entry is = take_all (length content - 4) (drop 4 content) (omega (arith, length-drop 4 content)) ∙ entry_of content entry is
