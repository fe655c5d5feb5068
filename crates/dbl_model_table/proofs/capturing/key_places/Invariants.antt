use Rattle.std.proofs.Common.{◌≡◌, ℕ, List, Some, true, map, take}
use Rattle.std.specs.Ordering.{nat_cmp}
use Rattle.std.specs.Cmp.Lexicographic.{slice_cmp}
use Rattle.std.specs.BTreeMap.{get_by}
use Rattle.std.specs.Str.{bytes_eq}
use Rattle.dbl_model_table.specs.Tables.{are_distinct}
use Rattle.dbl_model_table.specs.Made.{raw_names, place_of}
use Rattle.dbl_model_table.proofs.Making.{left_of}
use Rattle.dbl_model_table.proofs.capturing.key_places.Given as goal

abbrev pub invariant-loop-name : goal.invariant-loop-name
invariant-loop-name l = record {
  left : (q : List ℕ) → get_by (λ k. slice_cmp nat_cmp q k.now) l.places ≡ left_of (take l.name-index l.raw.key) (raw_names l.raw.columns) q;
  found : map (place_of (raw_names l.raw.columns)) (take l.name-index l.raw.key) ≡ map Some l.key.items;
  apart : are_distinct bytes_eq (take l.name-index l.raw.key) ≡ true;
}
