use Rattle.std.proofs.Common.{◌≡◌, ℕ, true, take}
use Rattle.std.specs.Prelude.{nat_eq}
use Rattle.std.specs.Ordering.{nat_cmp}
use Rattle.std.specs.BTreeSet.{contains}
use Rattle.std.specs.List.{list_any}
use Rattle.dbl_model_table.specs.Tables.{are_distinct}
use Rattle.dbl_model_table.proofs.of_parts.are_distinct_places.Given as goal

abbrev pub invariant-loop-place : goal.invariant-loop-place
invariant-loop-place l = record {
  places : (q : ℕ) → contains nat_cmp l.places q ≡ list_any (nat_eq q) (take l.place-index l.key);
  apart : are_distinct nat_eq (take l.place-index l.key) ≡ true;
}
