-- The order of kinds, which determines the order of two values of different kinds.
use Rattle.std.specs.Prelude.{◌≡◌, ℕ, ℤ, List}
use Rattle.std.specs.Prelude.{Bool as Truth}
use Rattle.std.specs.declared.cmp.Ordering.TheVariants.{Less}
use Rattle.dbl_value_types.specs.declared.value.Val.TheVariants.{Null, Bool, Int, Text, Bytes, Date, Time, Stamp, StampTz}
use Rattle.dbl_value_types.specs.Order.{val_cmp}

-- the kinds ascend: null, truth values, integers, texts, byte strings, dates, times of day, timestamps, instants
pub record KindsAreInOrder : Type 0 where
  pub null_before_truth : (truth : Truth) → val_cmp Null (Bool truth) ≡ Less
  pub truth_before_integer : (truth : Truth) (number : ℤ) → val_cmp (Bool truth) (Int number) ≡ Less
  pub integer_before_text : (number : ℤ) (text : List ℕ) → val_cmp (Int number) (Text text) ≡ Less
  pub text_before_bytes : (text bytes : List ℕ) → val_cmp (Text text) (Bytes bytes) ≡ Less
  pub bytes_before_date : (bytes : List ℕ) (day : ℤ) → val_cmp (Bytes bytes) (Date day) ≡ Less
  pub date_before_time : (day micros : ℤ) → val_cmp (Date day) (Time micros) ≡ Less
  pub time_before_stamp : (micros moment : ℤ) → val_cmp (Time micros) (Stamp moment) ≡ Less
  pub stamp_before_instant : (moment instant : ℤ) → val_cmp (Stamp moment) (StampTz instant) ≡ Less
