use Rattle.std.proofs.Common.{◌≡◌, ℕ, List, true, take}
use Rattle.std.specs.Ordering.{nat_cmp}
use Rattle.std.specs.Cmp.Lexicographic.{slice_cmp}
use Rattle.std.specs.BTreeMap.{get_by}
use Rattle.std.specs.Str.{bytes_eq}
use Rattle.dbl_model_table.specs.Tables.{are_distinct}
use Rattle.dbl_model_table.specs.Made.{place_of}
use Rattle.dbl_tables_rows.specs.Given.{given_names}
use Rattle.dbl_tables_rows.proofs.given.enter_cells.Given as goal

abbrev pub invariant-loop-i : goal.invariant-loop-i
invariant-loop-i l = record {
  places : (q : List ℕ) → get_by (λ k. slice_cmp nat_cmp q k.now) l.places ≡ place_of (given_names (take l.i l.cells)) q;
  distinct : are_distinct bytes_eq (given_names (take l.i l.cells)) ≡ true;
}
