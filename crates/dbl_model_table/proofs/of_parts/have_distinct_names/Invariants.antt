use Rattle.std.proofs.Common.{◌≡◌, ℕ, List, true, take}
use Rattle.std.specs.Ordering.{nat_cmp}
use Rattle.std.specs.Cmp.Lexicographic.{slice_cmp}
use Rattle.std.specs.BTreeSet.{contains_by}
use Rattle.std.specs.List.{list_any}
use Rattle.std.specs.Str.{bytes_eq}
use Rattle.dbl_model_table.specs.Tables.{are_distinct, column_names}
use Rattle.dbl_model_table.proofs.of_parts.have_distinct_names.Given as goal

abbrev pub invariant-loop-column : goal.invariant-loop-column
invariant-loop-column l = record {
  names : (q : List ℕ) → contains_by (λ k. slice_cmp nat_cmp q k.now) l.names ≡ list_any (bytes_eq q) (column_names (take l.column-index l.columns));
  apart : are_distinct bytes_eq (column_names (take l.column-index l.columns)) ≡ true;
}
