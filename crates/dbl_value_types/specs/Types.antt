-- Column types and their OIDs in PostgreSQL's catalogue pg_type.
use Rattle.std.specs.Prelude.{ℕ, ◌==◌, ◌&&◌, ◌||◌, not, Bool, true, if◌then◌else◌, Option, Some, None, unwrap_or, List, [], ◌∷◌}
use Rattle.std.specs.List.{find, list_any}
use Rattle.dbl_value_types.specs.declared.column_type.PgType.{PgType}
use Rattle.dbl_value_types.specs.declared.column_type.PgType.TheVariants as type

-- the OID of a type
abbrev pub oid_of : PgType → ℕ
oid_of type.Bool = 16
oid_of type.Int2 = 21
oid_of type.Int4 = 23
oid_of type.Int8 = 20
oid_of type.Text = 25
oid_of type.Varchar = 1043
oid_of type.Bpchar = 1042
oid_of type.Json = 114
oid_of type.Jsonb = 3802
oid_of type.Numeric = 1700
oid_of type.Uuid = 2950
oid_of type.Bytea = 17
oid_of type.Date = 1082
oid_of type.Time = 1083
oid_of type.Timestamp = 1114
oid_of type.Timestamptz = 1184
oid_of (type.Other oid) = oid

-- the types with a variant of their own
abbrev pub listed : List PgType
listed = type.Bool ∷ type.Int2 ∷ type.Int4 ∷ type.Int8 ∷ type.Text ∷ type.Varchar ∷ type.Bpchar ∷ type.Json ∷ type.Jsonb ∷ type.Numeric
    ∷ type.Uuid ∷ type.Bytea ∷ type.Date ∷ type.Time ∷ type.Timestamp ∷ type.Timestamptz ∷ []

-- the OID is that of float4 or float8, whose values aren't captured
abbrev pub is_float : ℕ → Bool
is_float oid = (oid == 700) || (oid == 701)

-- the type has this OID
abbrev pub has_oid : ℕ → PgType → Bool
has_oid oid ty = oid_of ty == oid

-- the type of an OID: none for a float, else the listed type with this OID, or the type known only by its OID
unfoldable pub type_of : ℕ → Option PgType
type_of oid = if is_float oid then None else Some (unwrap_or (find (has_oid oid) listed) (type.Other oid))

-- the type is a possible column type: one known only by its OID is neither listed nor a float
abbrev pub is_column_type : PgType → Bool
is_column_type (type.Other oid) = not (is_float oid) && not (list_any (has_oid oid) listed)
is_column_type ty = true
