-- Types by the memory of their values.
use Rattle.std.specs.Prelude.{Bool, true, false}
use Rattle.dbl_value_types.specs.declared.column_type.PgType.{PgType}
use Rattle.dbl_value_types.specs.declared.column_type.PgType.TheVariants as type

-- the values of the type take no memory
abbrev pub is_fixed : PgType → Bool
is_fixed type.Bool = true
is_fixed type.Int2 = true
is_fixed type.Int4 = true
is_fixed type.Int8 = true
is_fixed type.Date = true
is_fixed type.Time = true
is_fixed type.Timestamp = true
is_fixed type.Timestamptz = true
is_fixed ty = false
