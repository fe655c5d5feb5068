-- For private clauses: the committed rows of slots above a bound.
use Rattle.std.specs.Prelude.{ℕ, Bool, true, Option, None, Some, List, take, filter, filter_map}
use Rattle.std.specs.Ordering.{is_lt}
use Rattle.dbl_model_table.specs.declared.row.Key.{Key}
use Rattle.dbl_model_table.specs.declared.table.RawRow.{RawRow}
use Rattle.dbl_model_table.specs.Keys.{key_cmp}
use Rattle.dbl_tables_rows.specs.Views.{Slots}

-- Whether a key is above a bound; every key is above no bound.
abbrev pub comes_after : Option Key → Key → Bool
comes_after None key = true
comes_after (Some bound) key = is_lt (key_cmp bound key)

-- The first committed rows above a bound, in the order of their slots.
abbrev pub rows_after_key : Slots → Option Key → ℕ → List RawRow
rows_after_key slots above limit =
    take limit (filter_map (λ slot. slot.1.committed) (filter (λ slot. comes_after above slot.0) slots.entries))
