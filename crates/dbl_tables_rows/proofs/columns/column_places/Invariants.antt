use Rattle.std.proofs.Common.{◌≡◌, ℕ, List, take}
use Rattle.std.specs.BTreeMap.{get}
use Rattle.dbl_base.specs.Texts.{text_cmp}
use Rattle.dbl_model_table.specs.Tables.{column_names}
use Rattle.dbl_model_table.specs.Made.{place_of}
use Rattle.dbl_tables_rows.proofs.columns.column_places.Given as goal

abbrev pub invariant-loop-i : goal.invariant-loop-i
invariant-loop-i l = (name : List ℕ) → get text_cmp l.places name ≡ place_of (column_names (take l.i l.info.columns)) name
