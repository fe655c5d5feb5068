use Rattle.std.proofs.Common.{◌≡◌, None, map, take}
use Rattle.std.specs.Prelude.{unwrap_or, slice_get}
use Rattle.dbl_tables_rows.proofs.columns.row_key.Given as goal

-- the cells at the key's places; by name they are the same (place_named)
abbrev pub invariant-loop-place : goal.invariant-loop-place
invariant-loop-place l = l.texts.items ≡ map (λ place. unwrap_or (slice_get l.row.cells place) None) (take l.place-index l.info.key)
