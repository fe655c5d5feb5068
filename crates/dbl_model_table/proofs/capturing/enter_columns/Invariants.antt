use Rattle.std.proofs.Common.{◌≡◌, ℕ, List, [], take, drop}
use Rattle.std.specs.Ordering.{nat_cmp}
use Rattle.std.specs.Cmp.Lexicographic.{slice_cmp}
use Rattle.std.specs.BTreeMap.{get_by}
use Rattle.dbl_model_table.specs.Made.{raw_names, place_of, first_repeated}
use Rattle.dbl_model_table.proofs.capturing.enter_columns.Given as goal

abbrev pub invariant-loop-i : goal.invariant-loop-i
invariant-loop-i l = record {
  places : (q : List ℕ) → get_by (λ k. slice_cmp nat_cmp q k.now) l.places ≡ place_of (raw_names (take l.i l.raw.columns)) q;
  repeated : first_repeated [] (raw_names l.raw.columns) ≡ first_repeated (raw_names (take l.i l.raw.columns)) (raw_names (drop l.i l.raw.columns));
}
