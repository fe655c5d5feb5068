-- The order of values.
use Rattle.std.specs.Prelude.{ℕ}
use Rattle.std.specs.Ordering.{nat_cmp, int_cmp, bool_cmp}
use Rattle.std.specs.declared.cmp.Ordering.{Ordering}
use Rattle.std.specs.declared.cmp.Ordering.TheVariants.{Equal}
use Rattle.dbl_base.specs.Texts.{text_cmp}
use Rattle.dbl_value_types.specs.declared.value.Val.{Val}
use Rattle.dbl_value_types.specs.declared.value.Val.TheVariants.{Null, Bool, Int, Text, Bytes, Date, Time, Stamp, StampTz}

-- the rank of a value's kind in the order
abbrev pub rank : Val → ℕ
rank Null = 0
rank (Bool truth) = 1
rank (Int z) = 2
rank (Text text) = 3
rank (Bytes bytes) = 4
rank (Date day) = 5
rank (Time micros) = 6
rank (Stamp moment) = 7
rank (StampTz instant) = 8

-- values are ordered by kind, then false before true, numbers by value, texts and byte strings by their bytes
abbrev pub val_cmp : Val → Val → Ordering
val_cmp Null Null = Equal
val_cmp (Bool a) (Bool b) = bool_cmp a b
val_cmp (Int y) (Int z) = int_cmp y z
val_cmp (Text s) (Text t) = text_cmp s t
val_cmp (Bytes s) (Bytes t) = text_cmp s t
val_cmp (Date y) (Date z) = int_cmp y z
val_cmp (Time y) (Time z) = int_cmp y z
val_cmp (Stamp y) (Stamp z) = int_cmp y z
val_cmp (StampTz y) (StampTz z) = int_cmp y z
val_cmp v w = nat_cmp (rank v) (rank w)
