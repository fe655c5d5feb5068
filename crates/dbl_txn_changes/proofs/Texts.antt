-- The fault of a text that spells no value.
use Rattle.std.proofs.Common.{◌≡◌, ℕ, List, Option, Some, None, refl}
use Rattle.std.specs.Prelude.{is_some, if◌then◌else◌}
use Rattle.dbl_value_types.specs.declared.column_type.PgType.{PgType}
use Rattle.dbl_value_types.specs.declared.error.ValueError.{ValueError}
use Rattle.dbl_value_types.specs.declared.value.Val.{Val}
use Rattle.dbl_value_types.specs.Values.{value_of}
use Rattle.dbl_value_types.specs.Faults.{fault_of, value_fault}

-- no value, and this fault
pub record IsUnread (ty : PgType) (text : List ℕ) (e : ValueError) : Type 0 where
  pub none : value_of ty text ≡ None
  pub fault : fault_of ty text ≡ e

pub unread : (ty : PgType) (text : List ℕ) (e : ValueError) → value_fault ty text ≡ Some e → IsUnread ty text e
unread ty text e h = step (value_of ty text) refl h
  where
    step : (o : Option Val) → value_of ty text ≡ o → (if is_some o then None else Some (fault_of ty text)) ≡ Some e → IsUnread ty text e
    step (Some v) same told = cc
    step None same told = record { none = same; fault = cc }
