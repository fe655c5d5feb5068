-- Stores: what their bytes are read as, and what a crash leaves of them.
use Rattle.std.proofs.Common.{◌≡◌, ◌≢◌, ◌⊎◌, ◌∙◌, ℕ, zero, suc, ◌+◌, ◌-◌, ◌*◌, ◌/◌, ◌%◌, ◌^◌, ◌<◌, ◌≤◌, Option, Some, None, Result, Ok, Err, List, [], ◌∷◌}
use Rattle.std.proofs.Common.{◌++◌, length, take, drop, get_or, map, refl, sym, ap, subst, arith, inl, inr, length-drop, length-take}
use Rattle.std.specs.Int.{from_be_bytes, to_be_bytes, w32}
use Rattle.std.specs.List.{range_with_len}
use Rattle.std.proofs.lemmas.Bool.{cases_eq, cases_lt}
use Rattle.std.proofs.lemmas.List.{get_or-drop, get_or-take, get_or_past, length-take-le, nil_from_length, take-take, take_all, take_more}
use Rattle.std.proofs.lemmas.List.FromFn.{get_or-map-range_with_len, length-map-range_with_len}
use Rattle.std.proofs.lemmas.Nat.{be_bytes_4, div-add-mod', from_be_bytes-to_be_bytes_4, mod_below}
use Rattle.dbl_disk.specs.Model.{DiskModel}
use Rattle.dbl_record.specs.declared.error.RecordError.{RecordError}
use Rattle.dbl_record.proofs.FieldLaws.{IsBytes, IsBytes-drop, IsBytes-take}
use Rattle.dbl_offset_content.specs.declared.offset.Offset.{Offset}
use Rattle.dbl_offset_content.specs.Entries.{bytes_in_format, slot_content}
use Rattle.dbl_offset_content.specs.Offsets.{EncodesOffset, IsOffsetEntry}
use Rattle.dbl_offset_content.specs.Reading.{whole}
use Rattle.dbl_offset.specs.Slots.{HasNoSelector, HasSelectedEntry, HasSlotContent, HasWrongMagic, ReachesInSlot, SelectsSlot, block_start}
use Rattle.dbl_offset.specs.Slots.{store_magic}
use Rattle.dbl_offset.specs.Stores.{BeginsTorn, HasBadOffset, HoldsOffset, IsSlotEntry, IsNoStoreAt, IsStore, LeavesOffset, StoreOn, StoresOffset, disk_of}
use Rattle.dbl_offset.proofs.Blocks.{length-slot_content, one_entry, one_slot}
use Rattle.dbl_offset.proofs.Contents.{HasFour, all_there, entry_of, is_content, last_there, same_length}
use Rattle.dbl_offset.proofs.Heads.{length-store_magic, magic_front, no_selector}
use Rattle.dbl_offset_content.proofs.OffsetLaws.{no_entry, one_offset, whole_takes}

-- ---- entries

pub entry_some : (entry : List ℕ) (offset : Offset) → EncodesOffset entry offset → 1 ≤ length entry
unfolding bytes_in_format
entry_some entry offset spells = omega (arith, ap length spells.spelled)

entry_none : (entry : List ℕ) (offset : Offset) → EncodesOffset entry offset → entry ≡ [] → ⊥
entry_none entry offset spells none = omega (arith, entry_some entry offset spells, ap length none)

entry_one : (entry : List ℕ) (a b : Option Offset) → IsSlotEntry entry a → IsSlotEntry entry b → a ≡ b
entry_one entry None None of_a of_b = refl
entry_one entry None (Some o) of_a of_b = absurd (entry_none entry o of_b of_a)
entry_one entry (Some o) None of_a of_b = absurd (entry_none entry o of_a of_b)
entry_one entry (Some o) (Some p) of_a of_b = ap Some (one_offset entry o p of_a of_b)

pub one_store : (bytes : List ℕ) (a b : Option Offset) → IsStore bytes a → IsStore bytes b → a ≡ b
one_store bytes a b of_a of_b =
    let same : of_a.entry ≡ of_b.entry = one_entry bytes of_a.slot of_b.slot of_a.entry of_b.entry of_a.selected of_b.selected in
    entry_one of_b.entry a b (subst (λ (e : List ℕ). IsSlotEntry e a) same of_a.is) of_b.is

-- ---- faults

good_entry : (entry : List ℕ) (offset : Option Offset) → IsSlotEntry entry offset → entry ≢ [] → IsOffsetEntry entry
good_entry entry None is some = absurd (some is)
good_entry entry (Some offset) is some = (offset, is)

pub no_bad_offset : (bytes : List ℕ) (offset : Option Offset) (index : ℕ) → IsStore bytes offset → HasBadOffset bytes index → ⊥
no_bad_offset bytes offset index store bad =
    let same : store.entry ≡ bad.entry = one_entry bytes store.slot index store.entry bad.entry store.selected bad.selected in
    bad.bad (good_entry bad.entry offset (subst (λ (e : List ℕ). IsSlotEntry e offset) same store.is) bad.some)

no_missing : (bytes : List ℕ) (slot at : ℕ) → SelectsSlot bytes slot → HasNoSelector bytes at → ⊥
no_missing bytes slot at selects none = omega (arith, ap length none.magic, length-store_magic, selects.there)

no_wrong : (bytes : List ℕ) (at : ℕ) → take 8 bytes ≡ store_magic → HasWrongMagic bytes at → ⊥
no_wrong bytes at magic wrong = wrong.differs (magic_front bytes (at + 1) (omega (arith, wrong.within)) magic)

selected_not : (bytes : List ℕ) (slot : ℕ) (entry : List ℕ) (at : ℕ) → HasSelectedEntry bytes slot entry → IsNoStoreAt bytes at → ⊥
selected_not bytes slot entry at has (inl wrong) = no_wrong bytes at has.selects.magic wrong
selected_not bytes slot entry at has (inr (inl none)) = no_missing bytes slot at has.selects none
selected_not bytes slot entry at has (inr (inr bad)) =
    let same : slot ≡ bad.slot = one_slot bytes slot bad.slot has.selects bad.selects in
    bad.none entry (subst (λ (s : ℕ). HasSelectedEntry bytes s entry) same has)

pub no_fault : (bytes : List ℕ) (offset : Option Offset) (at : ℕ) → IsStore bytes offset → IsNoStoreAt bytes at → ⊥
no_fault bytes offset at store none = selected_not bytes store.slot store.entry at store.selected none

pub not_both : (bytes : List ℕ) (at index : ℕ) → IsNoStoreAt bytes at → HasBadOffset bytes index → ⊥
not_both bytes at index none bad = selected_not bytes index bad.entry at bad.selected none

first_wrong : (bytes : List ℕ) (m n : ℕ) → HasWrongMagic bytes m → HasWrongMagic bytes n → m < n → ⊥
first_wrong bytes m n a b below =
    a.differs (sym (take-take (m + 1) n bytes (omega arith)) ∙ ap (λ (l : List ℕ). take (m + 1) l) b.same ∙ take-take (m + 1) n store_magic (omega arith))

missing_wrong : (bytes : List ℕ) (at end : ℕ) → HasWrongMagic bytes at → HasNoSelector bytes end → ⊥
missing_wrong bytes at end wrong none = wrong.differs (ap (λ (l : List ℕ). take (at + 1) l) none.magic)

pub one_no_store : (bytes : List ℕ) (first second : ℕ) → IsNoStoreAt bytes first → IsNoStoreAt bytes second → first ≡ second
one_no_store bytes m n (inl a) (inl b) = elim (cases_lt m n) [
  | inl below ↦ absurd (first_wrong bytes m n a b below)
  | inr above ↦ elim (cases_lt n m) [
    | inl below ↦ absurd (first_wrong bytes n m b a below)
    | inr same ↦ omega arith
  ]
]
one_no_store bytes m n (inl a) (inr (inl b)) = absurd (missing_wrong bytes m n a b)
one_no_store bytes m n (inl a) (inr (inr b)) = absurd (no_wrong bytes m b.selects.magic a)
one_no_store bytes m n (inr (inl a)) (inl b) = absurd (missing_wrong bytes n m b a)
one_no_store bytes m n (inr (inl a)) (inr (inl b)) = a.end ∙ sym b.end
one_no_store bytes m n (inr (inl a)) (inr (inr b)) = absurd (no_missing bytes b.slot m b.selects a)
one_no_store bytes m n (inr (inr a)) (inl b) = absurd (no_wrong bytes n a.selects.magic b)
one_no_store bytes m n (inr (inr a)) (inr (inl b)) = absurd (no_missing bytes a.slot n a.selects b)
one_no_store bytes m n (inr (inr a)) (inr (inr b)) = a.start ∙ ap (λ (s : ℕ). block_start s 0) (one_slot bytes a.slot b.slot a.selects b.selects) ∙ sym b.start

pub one_bad_offset : (bytes : List ℕ) (m n : ℕ) → HasBadOffset bytes m → HasBadOffset bytes n → m ≡ n
one_bad_offset bytes m n first second = one_slot bytes m n first.selected.selects second.selected.selects

-- ---- each bytes are a store, or have a fault

differs_at : (bytes : List ℕ) (at : ℕ) → at < 8 → ((length bytes ≤ at) ⊎ (get_or bytes at 0 ≢ get_or store_magic at 0))
    → take (at + 1) bytes ≢ take (at + 1) store_magic
differs_at bytes at below (inl short) = λ equal. omega
    (arith, ap length equal, length-take (at + 1) bytes, length-take (at + 1) store_magic, length-store_magic)
differs_at bytes at below (inr other) = λ equal. other
    (sym (get_or-take (at + 1) bytes at 0 (omega arith)) ∙ ap (λ (l : List ℕ). get_or l at 0) equal ∙ get_or-take (at + 1) store_magic at 0 (omega arith))

magic_or_wrong : (k n : ℕ) (bytes : List ℕ) → k + n ≡ 8 → take k bytes ≡ take k store_magic
    → ((at : ℕ) × HasWrongMagic bytes at) ⊎ (take 8 bytes ≡ take 8 store_magic)
magic_or_wrong k zero bytes all same = let is : k ≡ 8 = omega arith in inr (subst (λ m. take m bytes ≡ take m store_magic) is same)
magic_or_wrong k (suc n) bytes all same =
    let below : k < 8 = omega arith in
    elim (cases_lt k (length bytes)) [
      | inr end ↦ inl (k, record { within = below; same = same; differs = differs_at bytes k below (inl end) })
      | inl there ↦ elim (cases_eq (get_or bytes k 0) (get_or store_magic k 0)) [
        | inr other ↦ inl (k, record { within = below; same = same; differs = differs_at bytes k below (inr other) })
        | inl equal ↦ magic_or_wrong (k + 1) n bytes (omega arith)
            (take_more bytes k 0 there ∙ ap (λ bs. bs ++ get_or bytes k 0 ∷ []) same ∙ ap (λ b. take k store_magic ++ b ∷ []) equal ∙ sym
            (take_more store_magic k 0 (omega (arith, length-store_magic))))
      ]
    ]

-- the byte of the slot's content with this number
content_at : List ℕ → ℕ → ℕ → ℕ
content_at bytes slot p = get_or bytes (block_start slot (p / 4096) + p % 4096) 0

-- so many bytes of it
content_in : List ℕ → ℕ → ℕ → List ℕ
content_in bytes slot total = map (content_at bytes slot) (range_with_len 0 total)

block_of : (k j : ℕ) → j < 4096 → ((4096 * k + j) / 4096 ≡ k) × ((4096 * k + j) % 4096 ≡ j)
block_of k j small =
    let parts : (4096 * k + j) / 4096 * 4096 + (4096 * k + j) % 4096 ≡ 4096 * k + j = div-add-mod' (4096 * k + j) 4096 in
    let rest : (4096 * k + j) % 4096 < 4096 = mod_below (4096 * k + j) 4096 (omega arith) in
    let block : (4096 * k + j) / 4096 ≡ k = omega (arith, parts, rest, small) in
    (block, omega (arith, parts, block))

length-content_in : (bytes : List ℕ) (slot total : ℕ) → length (content_in bytes slot total) ≡ total
unfolding content_in
length-content_in bytes slot total = length-map-range_with_len (content_at bytes slot) 0 total

has_content : (bytes : List ℕ) (slot total : ℕ) → ReachesInSlot bytes slot total → HasSlotContent bytes slot (content_in bytes slot total)
unfolding content_in content_at
has_content bytes slot total reaches k j small inner =
    let within : 4096 * k + j < total = omega (arith, inner, length-content_in bytes slot total) in
    let of = block_of k j small in
    record {
      there = reaches k j small within;
      is = ap (λ (p : ℕ). get_or bytes p 0) (omega (arith, of.0, of.1))
          ∙ sym (get_or-map-range_with_len (content_at bytes slot) 0 total (4096 * k + j) (4096 * k + j) 0 within (omega arith));
    }

pub IsBytes-content : (bytes : List ℕ) (slot : ℕ) (content : List ℕ) → IsBytes bytes → HasSlotContent bytes slot content → IsBytes content
IsBytes-content bytes slot content fit has p = elim (cases_lt p (length content)) [
  | inl within ↦ (
      let parts : p / 4096 * 4096 + p % 4096 ≡ p = div-add-mod' p 4096 in
      let small : p % 4096 < 4096 = mod_below p 4096 (omega arith) in
      let here = has (p / 4096) (p % 4096) small (omega (arith, parts)) in
      let same : get_or content (4096 * (p / 4096) + p % 4096) 0 ≡ get_or content p 0 = ap (λ (n : ℕ). get_or content n 0) (omega (arith, parts)) in
      omega (arith, here.is, same, fit (block_start slot (p / 4096) + p % 4096)))
  | inr past ↦ omega (arith, get_or_past content p 0 past)
]

module _ (bytes : List ℕ) (fit : IsBytes bytes) (slot : ℕ) where
  four : List ℕ
  four = take 4 (drop (block_start slot 0) bytes)

  count : ℕ
  count = from_be_bytes w32 four

  module _ (reaches : block_start slot 0 + 4 ≤ length bytes) where
    four_long : length four ≡ 4
    unfolding four
    four_long = length-take-le 4 (drop (block_start slot 0) bytes) (omega (arith, length-drop (block_start slot 0) bytes))

    has_four : HasFour bytes slot four
    unfolding four
    has_four at small = record {
      there = omega (arith, reaches, small);
      is = sym (get_or-take 4 (drop (block_start slot 0) bytes) at 0 small ∙ get_or-drop (block_start slot 0) bytes at 0);
    }

    has_quad : HasFour bytes slot (to_be_bytes w32 count)
    unfolding four count
    has_quad =
        let fits : IsBytes four = IsBytes-take 4 (drop (block_start slot 0) bytes) (IsBytes-drop (block_start slot 0) bytes fit) in
        subst (HasFour bytes slot) (sym (be_bytes_4 four count four_long fits refl)) has_four

    counted : (entry : List ℕ) → length entry ≤ 2 ^ 28 → HasSlotContent bytes slot (slot_content entry) → count ≡ length entry
    unfolding count
    counted entry short has = ap (from_be_bytes w32) (same_length bytes slot entry four four_long has has_four)
        ∙ from_be_bytes-to_be_bytes_4 (length entry) (omega arith)

    long_enough : SelectsSlot bytes slot → count ≤ 2 ^ 28 → block_start slot ((count + 4 - 1) / 4096) + (count + 4 - 1) % 4096 < length bytes
        → (entry : List ℕ) × HasSelectedEntry bytes slot entry
    long_enough selects fine there =
        let places = all_there bytes slot (count + 4) (omega arith) there in
        let content : List ℕ = content_in bytes slot (count + 4) in
        let long = length-content_in bytes slot (count + 4) in
        let has = has_content bytes slot (count + 4) places in
        let is = is_content bytes slot content count long has has_quad in (
          drop 4 content,
          record {
            selects = selects;
            short = omega (arith, long, length-drop 4 content, fine);
            content = subst
                (HasSlotContent bytes slot) is has;
          },
        )

    entry_within : SelectsSlot bytes slot → ((entry : List ℕ) × HasSelectedEntry bytes slot entry) ⊎ ((entry : List ℕ) → ¬ HasSelectedEntry bytes slot entry)
    entry_within selects = elim (cases_lt (2 ^ 28) count) [
      | inl much ↦ inr (λ entry has. omega (arith, much, counted entry has.short has.content, has.short))
      | inr fine ↦ elim (cases_lt (block_start slot ((count + 4 - 1) / 4096) + (count + 4 - 1) % 4096) (length bytes)) [
        | inl there ↦ inl (long_enough selects fine there)
        | inr cut ↦ inr (λ entry has.
            let is = counted entry has.short has.content in
            let there = last_there bytes slot (count + 4) (slot_content entry) (omega arith) (omega (arith, length-slot_content entry, is)) has.content in
            omega (arith, there, cut))
      ]
    ]

  entry_or_none : SelectsSlot bytes slot → ((entry : List ℕ) × HasSelectedEntry bytes slot entry) ⊎ ((entry : List ℕ) → ¬ HasSelectedEntry bytes slot entry)
  entry_or_none selects = elim (cases_lt (length bytes) (block_start slot 0 + 4)) [
    | inl short ↦ inr (λ entry has.
        let last = has.content 0 3 (omega arith) (omega (arith, length-slot_content entry)) in
        omega (arith, last.there, short))
    | inr reaches ↦ entry_within reaches selects
  ]

abbrev StoreOrNot : List ℕ → Type 0
StoreOrNot bytes = ((offset : Option Offset) × IsStore bytes offset) ⊎ (((at : ℕ) × IsNoStoreAt bytes at) ⊎ ((index : ℕ) × HasBadOffset bytes index))

offset_or_bad : (bytes : List ℕ) (slot : ℕ) (entry : List ℕ) → IsBytes entry → HasSelectedEntry bytes slot entry → entry ≢ []
    → (read : Result Offset RecordError) → whole entry ≡ read → StoreOrNot bytes
offset_or_bad bytes slot entry fit has some (Ok offset) is = inl
    (Some offset, record { slot = slot; entry = entry; selected = has; is = whole_takes entry offset fit is })
offset_or_bad bytes slot entry fit has some (Err error) is = inr
    (inr (slot, record { entry = entry; selected = has; some = some; bad = no_entry entry error is }))

entry_judged : (bytes : List ℕ) (slot : ℕ) (entry : List ℕ) → IsBytes entry → HasSelectedEntry bytes slot entry → StoreOrNot bytes
entry_judged bytes slot [] fit has = inl (None, record { slot = slot; entry = []; selected = has; is = refl })
entry_judged bytes slot (b ∷ entry) fit has = offset_or_bad bytes slot (b ∷ entry) fit has (λ e. cc) (whole (b ∷ entry)) refl

slot_judged : (bytes : List ℕ) → IsBytes bytes → (slot : ℕ) → SelectsSlot bytes slot → StoreOrNot bytes
slot_judged bytes fit slot selects = elim (entry_or_none bytes fit slot selects) [
  | inr none ↦ inr (inl (block_start slot 0, inr (inr (record { slot = slot; selects = selects; none = none; start = refl }))))
  | inl found ↦ (
      let content = IsBytes-content bytes slot (slot_content found.0) fit found.1.content in
      let fits : IsBytes found.0 = subst IsBytes (entry_of (slot_content found.0) found.0 refl) (IsBytes-drop 4 (slot_content found.0) content) in
      entry_judged bytes slot found.0 fits found.1)
]

pub store_or_not : (bytes : List ℕ) → IsBytes bytes
    → ((offset : Option Offset) × IsStore bytes offset) ⊎ (((at : ℕ) × IsNoStoreAt bytes at) ⊎ ((index : ℕ) × HasBadOffset bytes index))
store_or_not bytes fit = elim (magic_or_wrong 0 8 bytes refl refl) [
  | inl wrong ↦ inr (inl (wrong.0, inl wrong.1))
  | inr same ↦ (
      let magic : take 8 bytes ≡ store_magic = same ∙ take_all 8 store_magic (omega (arith, length-store_magic)) in
      elim (cases_lt 8 (length bytes)) [
        | inr end ↦ inr (inl (8, inr (inl (no_selector bytes magic end))))
        | inl there ↦ slot_judged bytes fit (get_or bytes 8 0 % 2) (record { magic = magic; there = there; parity = refl })
      ]
      )
]

-- ---- bytes with which a store begins

pub nothing_is_no_store : (offset : Option Offset) → IsStore [] offset → ⊥
nothing_is_no_store offset store = omega (arith, store.selected.selects.there)

few_bytes : (bytes : List ℕ) (slot : ℕ) (entry : List ℕ) → length bytes ≤ 20 → HasSelectedEntry bytes slot entry → entry ≡ []
few_bytes bytes slot entry few has = nil_from_length entry (elim (cases_lt 0 (length entry)) [
  | inr none ↦ omega (arith, none)
  | inl some ↦ (
      let last = has.content 0 4 (omega arith) (omega (arith, some, length-slot_content entry)) in
      absurd (omega (arith, last.there, few)))
])

-- what a store that is being made on an empty disk leaves is a store without an offset, or none
pub torn_stores_are_empty : (bytes : List ℕ) (offset : Option Offset) → BeginsTorn [] bytes → IsStore bytes offset → IsStore bytes None
torn_stores_are_empty bytes offset torn store =
    let few : length bytes ≤ 20 = torn.no_longer in
    record { slot = store.slot; entry = store.entry; selected = store.selected; is = few_bytes bytes store.slot store.entry few store.selected }

pub torn_has_none : (bytes : List ℕ) (offset : Option Offset) → BeginsTorn [] bytes → IsStore bytes offset → offset ≡ None
torn_has_none bytes offset torn store = one_store bytes offset None store (torn_stores_are_empty bytes offset torn store)

-- ---- a store's disk

pub store_of : {D : Type 0} (model : DiskModel D) (store : StoreOn D) (offset : Option Offset) → HoldsOffset model store offset
    → StoresOffset model (disk_of store) offset
store_of model store offset held = record {
  bytes = held.bytes;
  told = held.told;
  only = held.only;
  is = record { slot = store.slot; entry = held.entry; selected = held.selected; is = held.is };
}

-- what is left while an offset is stored
pub leaves : {D : Type 0} (model : DiskModel D) (disk : D) (slot other : ℕ) (entry form : List ℕ) (old : Option Offset) (offset : Offset)
    → IsSlotEntry entry old → EncodesOffset form offset
    → ((crashed : List ℕ) → model.may_leave disk crashed → HasSelectedEntry crashed slot entry ⊎ HasSelectedEntry crashed other form) → LeavesOffset model disk
    (λ left. (left ≡ old) ⊎ (left ≡ Some offset))
leaves model disk slot other entry form old offset is spells left crashed may = elim (left crashed may) [
  | inl same ↦ (old, record { slot = slot; entry = entry; selected = same; is = is }, inl refl)
  | inr more ↦ (Some offset, record { slot = other; entry = form; selected = more; is = spells }, inr refl)
]

-- ---- errors

abbrev failed : {T E : Type 0} → E → Result T E
failed e = Err e

pub err_one : {T E : Type 0} (x y : E) → failed {T = T} x ≡ failed y → x ≡ y
err_one x y h = cc
