use Rattle.std.proofs.Common.{◌≡◌, map, drop}
use Rattle.dbl_model_table.specs.Tables.{same_name, are_distinct}
use Rattle.dbl_offset_content.proofs.decoding.have_distinct_names.Given as goal

abbrev pub invariant-loop-i : goal.invariant-loop-i
invariant-loop-i l = are_distinct same_name (map (λ info. info.name) (drop l.i l.infos)) ≡ are_distinct same_name (map (λ info. info.name) l.infos)
