-- The head of a store: its magic and its selector.
use Rattle.std.proofs.Common.{◌≡◌, ◌≢◌, ◌∙◌, ℕ, ◌+◌, ◌-◌, ◌*◌, ◌%◌, ◌<◌, ◌≤◌, min, List, [], ◌++◌, length, take, drop, get_or, replicate}
use Rattle.std.proofs.Common.{refl, sym, ap, arith, length-append}
use Rattle.std.proofs.lemmas.List.{append-nil, drop_all, get_or-append_right, get_or-replicate, take_all, take_at, take_min, take-take}
use Rattle.dbl_disk.specs.Disks.{written}
use Rattle.dbl_offset_content.specs.Entries.{slot_content}
use Rattle.dbl_offset.specs.Slots.{HasNoSelector, HasSelectedEntry, HasSlotContent, HasWrongMagic, SelectsSlot, block_start, empty_store}
use Rattle.dbl_offset.specs.Slots.{store_magic}
use Rattle.dbl_offset.proofs.Blocks.{length-slot_content}
use Rattle.dbl_offset.proofs.Contents.{moved_at}

pub length-store_magic : length store_magic ≡ 8
unfolding store_magic
length-store_magic = refl

pub length-empty_store : length empty_store ≡ 20
length-empty_store = omega (arith, length-append store_magic (replicate 12 0), length-store_magic)

-- ---- the magic

pub magic_front : (bytes : List ℕ) (n : ℕ) → n ≤ 8 → take 8 bytes ≡ store_magic → take n bytes ≡ take n store_magic
magic_front bytes n short is = sym (take-take n 8 bytes (omega arith)) ∙ ap (λ (l : List ℕ). take n l) is

pub front_of : (bytes head : List ℕ) (got : ℕ) → got ≡ min 9 (length bytes - 0) → take got head ≡ take got (drop 0 bytes) → take got head ≡ take 9 bytes
front_of bytes head got is moved = let whole : length bytes - 0 ≡ length bytes = omega arith in moved
    ∙ ap (λ (n : ℕ). take n bytes) (is ∙ ap (λ (n : ℕ). min 9 n) whole) ∙ take_min 9 bytes

pub wrong_magic : (bytes front : List ℕ) (at : ℕ) → front ≡ take 9 bytes → at < 8 → take at front ≡ take at store_magic
    → take (at + 1) front ≢ take (at + 1) store_magic → HasWrongMagic bytes at
wrong_magic bytes front at is below same differs = record {
  within = below;
  same = sym (take-take at 9 bytes (omega arith)) ∙ ap (λ (l : List ℕ). take at l) (sym is) ∙ same;
  differs = λ equal. differs (ap (λ (l : List ℕ). take (at + 1) l) is ∙ take-take (at + 1) 9 bytes (omega arith) ∙ equal);
}

pub has_magic : (bytes front : List ℕ) → front ≡ take 9 bytes → take 8 front ≡ take 8 store_magic → take 8 bytes ≡ store_magic
has_magic bytes front is same = sym (take-take 8 9 bytes (omega arith)) ∙ ap (λ (l : List ℕ). take 8 l) (sym is) ∙ same
    ∙ take_all 8 store_magic (omega (arith, length-store_magic))

-- ---- the selector

pub no_selector : (bytes : List ℕ) → take 8 bytes ≡ store_magic → length bytes ≤ 8 → HasNoSelector bytes 8
no_selector bytes magic short = record { magic = sym (take_all 8 bytes short) ∙ magic; end = refl }

pub slot_selected : (bytes head : List ℕ) (got : ℕ) → got ≡ min 9 (length bytes - 0) → take got head ≡ take got (drop 0 bytes) → 9 ≤ got
    → take 8 bytes ≡ store_magic → SelectsSlot bytes (get_or head 8 0 % 2)
slot_selected bytes head got is moved enough magic = record {
  magic = magic;
  there = omega (arith, is, enough);
  parity = ap (λ (n : ℕ). n % 2) (moved_at bytes head 0 got 8 moved (omega (arith, enough)));
}

-- ---- a store that was just made

no_entry : slot_content [] ≡ replicate 4 0
unfolding slot_content
no_entry = refl

zero_between : (p : ℕ) → 8 ≤ p → p < 20 → get_or empty_store p 0 ≡ 0
zero_between p above below =
    get_or-append_right store_magic (replicate 12 0) 8 p 0 length-store_magic above ∙ get_or-replicate 12 (p - 8) 0 0 (omega arith)

empty_content : HasSlotContent empty_store 0 (slot_content [])
empty_content k j small inner =
    let long : length (slot_content []) ≡ 4 = length-slot_content [] in
    let first : 4096 * k + j < 4 = omega (arith, inner, long) in
    record {
      there = omega (arith, first, length-empty_store);
      is = zero_between (block_start 0 k + j) (omega arith) (omega (arith, first))
          ∙ sym (ap (λ (l : List ℕ). get_or l (4096 * k + j) 0) no_entry ∙ get_or-replicate 4 (4096 * k + j) 0 0 first);
    }

pub empty_selected : HasSelectedEntry empty_store 0 []
empty_selected = record {
  selects = record {
    magic = take_at store_magic (replicate 12 0) 8 length-store_magic;
    there = omega (arith, length-empty_store);
    parity = ap (λ (n : ℕ). n % 2) (sym (zero_between 8 (omega arith) (omega arith)));
  };
  short = omega arith;
  content = empty_content;
}

pub file_is : (bytes : List ℕ) → written [] 0 bytes ≡ bytes
file_is bytes = ap (λ (l : List ℕ). bytes ++ l) (drop_all (0 + length bytes) [] (omega arith)) ∙ append-nil bytes
