-- How the store applies a planned change, and what it leaves if memory runs out.
use Rattle.std.specs.Prelude.{◌≡◌, ◌||◌, ◌++◌, ℕ, true, List, [], ◌∷◌, bytes_eq}
use Rattle.std.specs.List.{AllByRecursion}
use Rattle.std.specs.BTreeSet.{BTreeSet, contains}
use Rattle.dbl_base.specs.Texts.{text_cmp}
use Rattle.dbl_pgmsg.specs.declared.messages.Message.{Message}
use Rattle.dbl_model_table.specs.declared.row.Key.{Key}
use Rattle.dbl_tables_changes.specs.declared.planned.Write.{Write}
use Rattle.dbl_tables_changes.specs.declared.planned.Planned.{Planned}
use Rattle.dbl_tables_rows.specs.declared.rows.Rows.{Rows}
use Rattle.dbl_tables_rows.specs.declared.held.HeldKey.{HeldKey}
use Rattle.dbl_tables_changes.specs.declared.sessions.Session.{Session}
use Rattle.dbl_tables_rows.specs.Listed.{is_listed}
use Rattle.dbl_tables_rows.specs.Views.{Slots}
use Rattle.dbl_tables_rows.specs.Changing.{HasSlot, IsInvisible}
use Rattle.dbl_tables_changes.specs.Written.{WritesAll}

-- Every listed key stays listed.
abbrev pub ListsMore : List HeldKey → List HeldKey → Type 0
ListsMore old new = (place : ℕ) (key : Key) → is_listed place key old ≡ true → is_listed place key new ≡ true

-- Room was made and keys were listed, with no visible effect.
pub record HasMadeRoom (old new : Slots) (old_keys new_keys : List HeldKey) : Type 0 where
  pub slots : IsInvisible old new
  pub keys : ListsMore old_keys new_keys

-- Each write has room, and its key is listed.
pub record AreReady (place : ℕ) (writes : List Write) (slots : Slots) (keys : List HeldKey) : Type 0 where
  pub room : AllByRecursion (λ write. HasSlot slots write.key) writes
  pub listed : AllByRecursion (λ write. is_listed place write.key keys ≡ true) writes

-- ---- a table and a session

-- A table is the same but for its slots and the sessions with locks.
pub record IsSameTable (old new : Rows) : Type 0 where
  pub table : new.table ≡ old.table
  pub places : new.places ≡ old.places
  pub cleared : new.cleared ≡ old.cleared

-- One more name is in the set.
abbrev pub IsAdded : List ℕ → BTreeSet (List ℕ) → BTreeSet (List ℕ) → Type 0
IsAdded added old new = (name : List ℕ) → contains text_cmp new name ≡ (bytes_eq added name || contains text_cmp old name)

-- One more session has a lock in the table.
abbrev pub HoldsToo : List ℕ → Rows → Rows → Type 0
HoldsToo session old new = IsAdded session old.holders new.holders

-- The sessions with locks in the table are the same.
abbrev pub HoldsAsBefore : Rows → Rows → Type 0
HoldsAsBefore old new = (name : List ℕ) → contains text_cmp new.holders name ≡ contains text_cmp old.holders name

-- The session has one more message and a lock in the table, whose slots are the same.
pub record Joins (name : List ℕ) (message : Message) (size : ℕ) (old new : Rows) (before after : Session) : Type 0 where
  pub table : IsSameTable old new
  pub slots : new.slots ≡ old.slots
  pub holders : HoldsToo name old new
  pub messages : after.messages.items ≡ before.messages.items ++ message ∷ []
  pub size_is : after.size ≡ size
  pub keys : after.keys ≡ before.keys

-- Neither the session nor the table has changed.
pub record IsUnjoined (old new : Rows) (before after : Session) : Type 0 where
  pub table : IsSameTable old new
  pub slots : new.slots ≡ old.slots
  pub holders : HoldsAsBefore old new
  pub messages : after.messages.items ≡ before.messages.items
  pub size_is : after.size ≡ before.size
  pub keys : after.keys ≡ before.keys

-- The change was applied: its message is the session's last, and its writes are under locks.
pub record TakesChange (place : ℕ) (name : List ℕ) (planned : Planned) (old new : Rows) (before after : Session) : Type 0 where
  pub table : IsSameTable old new
  pub slots : WritesAll planned.writes.items old.slots new.slots
  pub holders : HoldsToo name old new
  pub messages : after.messages.items ≡ before.messages.items ++ planned.message ∷ []
  pub size_is : after.size ≡ planned.size
  pub keys : ListsMore before.keys.items after.keys.items
  pub listed : AllByRecursion (λ write. is_listed place write.key after.keys.items ≡ true) planned.writes.items

-- A change was not applied, and nothing that a session sees has changed.
pub record IsUntaken (old new : Rows) (before after : Session) : Type 0 where
  pub table : IsSameTable old new
  pub slots : IsInvisible old.slots new.slots
  pub holders : HoldsAsBefore old new
  pub messages : after.messages.items ≡ before.messages.items
  pub size_is : after.size ≡ before.size
  pub keys : ListsMore before.keys.items after.keys.items
