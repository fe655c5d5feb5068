-- Offset stores: on bytes, on disks, and after a crash.
use Rattle.std.specs.Prelude.{◌≡◌, ◌≢◌, ◌⊎◌, ℕ, ◌+◌, ◌^◌, ◌≤◌, max, Bool, IsTrue, Option, Some, None, List, [], length}
use Rattle.dbl_disk.specs.Calls.{WritesDisk}
use Rattle.dbl_disk.specs.Disks.{IsOnly, Torn}
use Rattle.dbl_disk.specs.Model.{DiskModel}
use Rattle.dbl_offset_content.specs.declared.offset.Offset.{Offset}
use Rattle.dbl_offset_content.specs.Entries.{offset_bytes_form}
use Rattle.dbl_offset_content.specs.Offsets.{EncodesOffset, IsOffsetEntry}
use Rattle.dbl_offset.specs.Slots.{HasBadContent, HasNoSelector, HasSelectedEntry, HasWrongMagic, content_end}

-- ---- on bytes

-- Whether the entry encodes the offset; without an offset it is empty.
abbrev pub IsSlotEntry : List ℕ → Option Offset → Type 0
IsSlotEntry entry None = entry ≡ []
IsSlotEntry entry (Some offset) = EncodesOffset entry offset

-- Whether the bytes are a store of this offset, or of none: the entry of the selected slot is that of the offset.
pub record IsStore (bytes : List ℕ) (offset : Option Offset) : Type 0 where
  pub slot : ℕ
  pub entry : List ℕ
  pub selected : HasSelectedEntry bytes slot entry
  pub is : IsSlotEntry entry offset

-- Whether the slot with this number is selected and has an entry that encodes no offset.
pub record HasBadOffset (bytes : List ℕ) (index : ℕ) : Type 0 where
  pub entry : List ℕ
  pub selected : HasSelectedEntry bytes index entry
  pub some : entry ≢ []
  pub bad : ¬ IsOffsetEntry entry

-- Whether the bytes are no store, by an error at this position: of the magic, the selector, or the selected slot's content.
abbrev pub IsNoStoreAt : List ℕ → ℕ → Type 0
IsNoStoreAt bytes at = HasWrongMagic bytes at ⊎ (HasNoSelector bytes at ⊎ HasBadContent bytes at)

-- ---- on disks

-- A store on a disk, as contracts see it: the disk, the selected slot, the stored offset, and whether the store can be used.
pub record StoreOn (D : Type 0) : Type 0 where
  pub disk : D
  pub slot : ℕ
  pub offset : Option Offset
  pub live : Bool

-- Whether the store can be used.
abbrev pub IsLive : {D : Type 0} → StoreOn D → Type 0
IsLive store = IsTrue store.live

-- The disk of a store.
abbrev pub disk_of : {D : Type 0} → StoreOn D → D
disk_of store = store.disk

-- The number of bytes of a store that was just made.
abbrev pub least_room : ℕ
least_room = 20

-- The most bytes that a store needs for this offset: as far as the length and the entry reach in slot 1.
abbrev pub room_of : Offset → ℕ
room_of offset = content_end (4 + length (offset_bytes_form offset))

-- The most bytes that a store of any offset needs, rounded up.
abbrev pub greatest_room : ℕ
greatest_room = 2 ^ 30

-- The possible contents of a disk of these bytes after a store was made on it, completely or not.
abbrev pub BeginsTorn : List ℕ → List ℕ → Type 0
BeginsTorn old new = Torn 0 least_room old new

-- The bounds of a store: a number of bytes, and how many failures its disk has counted.
pub record StoreBounds : Type 0 where
  pub most : ℕ
  pub faults : ℕ

-- Whether the disk's contents are known, and no longer than this number of bytes, or than a store of any offset may be; and if the store is
-- live, whether its disk has counted only these failures.
pub record IsKnownWithin {D : Type 0} (model : DiskModel D) (bounds : StoreBounds) (store : StoreOn D) : Type 0 where
  pub bytes : List ℕ
  pub told : model.seen (disk_of store) ≡ Some bytes
  pub short : length bytes ≤ max bounds.most greatest_room
  pub steady : IsLive store → model.faults (disk_of store) ≡ bounds.faults

-- Whether the new store extends the old one, as after every call: the contents of its disk stay known, and within a bound, and while it is
-- live no call of its disk has failed.
abbrev pub ExtendsOffsets : {D : Type 0} → DiskModel D → StoreOn D → StoreOn D → Type 0
ExtendsOffsets model old new = (bounds : StoreBounds) → IsKnownWithin model bounds old → IsKnownWithin model bounds new

-- What storing an offset leaves of a store's disk, by whether the call failed.
abbrev pub PutLeaves : {D : Type 0} → DiskModel D → Type 0 → StoreOn D → StoreOn D → Type 0
PutLeaves model failed old new = WritesDisk model failed (disk_of old) (disk_of new) new.live

-- Whether the disk's contents are known and a store of this offset, and a crash leaves nothing else.
pub record StoresOffset {D : Type 0} (model : DiskModel D) (disk : D) (offset : Option Offset) : Type 0 where
  pub bytes : List ℕ
  pub told : model.seen disk ≡ Some bytes
  pub only : IsOnly bytes (model.may_leave disk)
  pub is : IsStore bytes offset

-- Whether the store has this offset: it can be used, its disk's contents are known and a store of the offset, and a crash leaves nothing
-- else.
pub record HoldsOffset {D : Type 0} (model : DiskModel D) (store : StoreOn D) (offset : Option Offset) : Type 0 where
  pub live : IsLive store
  pub bytes : List ℕ
  pub told : model.seen (disk_of store) ≡ Some bytes
  pub only : IsOnly bytes (model.may_leave (disk_of store))
  pub entry : List ℕ
  pub selected : HasSelectedEntry bytes store.slot entry
  pub is : IsSlotEntry entry offset
  pub offset_is : store.offset ≡ offset

-- Whether the disk's contents are known, and this is the entry of the store's slot.
pub record HasEntry {D : Type 0} (model : DiskModel D) (store : StoreOn D) (entry : List ℕ) : Type 0 where
  pub bytes : List ℕ
  pub told : model.seen (disk_of store) ≡ Some bytes
  pub selected : HasSelectedEntry bytes store.slot entry

-- Whether a crash may leave a store of this offset.
abbrev pub MayLeaveOffset : {D : Type 0} → DiskModel D → D → Option Offset → Type 0
MayLeaveOffset model disk offset = (crashed : List ℕ) × model.may_leave disk crashed × IsStore crashed offset

-- Whether every crash leaves a store, of an offset with the property P.
abbrev pub LeavesOffset : {D : Type 0} → DiskModel D → D → (Option Offset → Type 0) → Type 0
LeavesOffset model disk P = (crashed : List ℕ) → model.may_leave disk crashed → (offset : Option Offset) × IsStore crashed offset × P offset
