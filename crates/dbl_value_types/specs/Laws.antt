-- Theorems about types, values and their texts.
use Rattle.std.specs.Prelude.{◌≡◌, ◌↔◌, ◌^◌, ℕ, ℤ, List, IsTrue, Some, None}
use Rattle.std.specs.Fmt.{signed_decimal}
use Rattle.std.specs.Cmp.{IsTotalOrder}
use Rattle.std.specs.declared.cmp.Ordering.TheVariants.{Equal}
use Rattle.dbl_value_types.specs.declared.column_type.PgType.{PgType}
use Rattle.dbl_value_types.specs.declared.column_type.PgType.TheVariants as type
use Rattle.dbl_value_types.specs.declared.value.Val.{Val}
use Rattle.dbl_value_types.specs.declared.value.Val.TheVariants as val
use Rattle.dbl_value_types.specs.Values.{oid_of, type_of, is_column_type, value_of, SpellsValue, IsOf, IsCellOf, text_of, json_of}
use Rattle.dbl_value_types.specs.Decimals.{is_within}
use Rattle.dbl_value_types.specs.Faults.{is_date_range}
use Rattle.dbl_value_types.specs.Order.{val_cmp}

-- an OID is that of at most one column type, and each column type has an OID
abbrev pub OidsNameTypes : Type 0
OidsNameTypes = (oid : ℕ) (ty : PgType) → (type_of oid ≡ Some ty) ↔ ((oid_of ty ≡ oid) × IsTrue (is_column_type ty))

-- a text parses as at most one value of a type
abbrev pub TextsSpellOneValue : Type 0
TextsSpellOneValue = (ty : PgType) (text : List ℕ) (v w : Val) → SpellsValue ty text v → SpellsValue ty text w → v ≡ w

-- a text that denotes a date outside the years 1 to 9999 is no value
abbrev pub DateRangesSpellNoValue : Type 0
DateRangesSpellNoValue = (ty : PgType) (text : List ℕ) → IsTrue (is_date_range ty text) → value_of ty text ≡ None

-- a text parses as an integer of the type if and only if it is the decimal text of one within the limit
abbrev pub AreDecimals : PgType → ℕ → Type 0
AreDecimals ty limit = (text : List ℕ) (z : ℤ) → SpellsValue ty text (val.Int z) ↔ ((text ≡ signed_decimal z) × IsTrue (is_within limit z))

-- a text parses as an integer if and only if it is the decimal text of one in its type's range
abbrev pub DecimalsSpellIntegers : Type 0
DecimalsSpellIntegers = AreDecimals type.Int2 (2 ^ 15) × AreDecimals type.Int4 (2 ^ 31) × AreDecimals type.Int8 (2 ^ 63)

-- a value's text parses as the value
abbrev pub TextsReadBack : Type 0
TextsReadBack = (ty : PgType) (v : Val) → IsOf ty v → SpellsValue ty (text_of v) v

-- cells of one column with equal JSON texts are equal
abbrev pub JsonTellsCells : Type 0
JsonTellsCells = (ty : PgType) (v w : Val) → IsCellOf ty v → IsCellOf ty w → json_of v ≡ json_of w → v ≡ w

-- values are totally ordered, and only equal values compare equal
abbrev pub ValuesAreOrdered : Type 0
ValuesAreOrdered = IsTotalOrder val_cmp × ((v w : Val) → (val_cmp v w ≡ Equal) ↔ (v ≡ w))
