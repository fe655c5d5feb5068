-- Locks that were put on the keys of some writes.
use Rattle.std.specs.Prelude.{◌≡◌, ◌&&◌, not, Bool, true, if◌then◌else◌, Option, Some, List, [], ◌∷◌}
use Rattle.std.specs.List.{list_any}
use Rattle.dbl_model_table.specs.declared.row.Key.{Key}
use Rattle.dbl_model_table.specs.Keys.{same_key}
use Rattle.dbl_tables_rows.specs.declared.slots.Held.{Held}
use Rattle.dbl_tables_rows.specs.Views.{Slots, committed_in, held_in}
use Rattle.dbl_tables_changes.specs.declared.planned.Write.{Write}

-- The lock on a key after the writes were applied; if a key is written twice, the first counts.
abbrev pub lock_written : List Write → Key → Option Held → Option Held
lock_written [] key held = held
lock_written (write ∷ writes) key held = if same_key write.key key then Some write.held else lock_written writes key held

-- Whether no key is written twice.
abbrev pub are_apart : List Write → Bool
are_apart [] = true
are_apart (write ∷ writes) = not (list_any (λ other. same_key write.key other.key) writes) && are_apart writes

-- The writes were applied as locks, and the committed rows are the same.
pub record WritesAll (writes : List Write) (old new : Slots) : Type 0 where
  pub committed : (key : Key) → committed_in new key ≡ committed_in old key
  pub locked : are_apart writes ≡ true → (key : Key) → held_in new key ≡ lock_written writes key (held_in old key)
