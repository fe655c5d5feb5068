-- The keys that a session has listed.
use Rattle.std.specs.Prelude.{ℕ, ◌&&◌, nat_eq, Bool, List}
use Rattle.std.specs.List.{list_any}
use Rattle.dbl_model_table.specs.declared.row.Key.{Key}
use Rattle.dbl_model_table.specs.Keys.{same_key}
use Rattle.dbl_tables_rows.specs.declared.held.HeldKey.{HeldKey}

-- Whether the key of the table at an index is listed.
abbrev pub is_listed : ℕ → Key → List HeldKey → Bool
is_listed table key keys = list_any (λ held. nat_eq held.table table && same_key held.key key) keys
