-- What the records of one connector have in common.
use Rattle.std.specs.Prelude.{ℕ, ◌&&◌, nat_lt, nat_le, Bool, List, length, codes}
use Rattle.dbl_model_table.specs.declared.identity.Identity.{Identity}
use Rattle.dbl_model_table.specs.Tables.{is_name}

-- The default value of an unsent cell: that of the Debezium PostgreSQL connector's `unavailable.value.placeholder`.
abbrev pub default_placeholder : List ℕ
default_placeholder = codes "__debezium_unavailable_value"

-- Whether a connector may use the identity: its prefix and database name need no escaping in topics and records, and its placeholder has 1
-- to 255 bytes.
abbrev pub is_good_identity : Identity → Bool
is_good_identity identity = is_name identity.prefix && is_name identity.db && nat_lt 0 (length identity.placeholder)
    && nat_le (length identity.placeholder) 255
