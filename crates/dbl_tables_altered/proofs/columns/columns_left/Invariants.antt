use Rattle.std.proofs.Common.{◌≡◌, ◌++◌, map, drop}
use Rattle.std.specs.Prelude.{filter, not}
use Rattle.dbl_model_table.specs.declared.table.RawColumn.{RawColumn}
use Rattle.dbl_model_table.specs.Infos.{raw_column}
use Rattle.dbl_tables_altered.specs.Alterations.{removes}
use Rattle.dbl_tables_altered.proofs.columns.columns_left.Given as goal

-- the columns that are left of those so far, and those to come
abbrev pub invariant-loop-column : goal.invariant-loop-column
invariant-loop-column l =
    l.left.items ++ filter (λ (x : RawColumn). not (removes l.alteration x.name)) (drop l.column-index (map raw_column l.columns))
    ≡ filter (λ (x : RawColumn). not (removes l.alteration x.name)) (map raw_column l.columns)
