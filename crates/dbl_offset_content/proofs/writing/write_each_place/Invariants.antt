use Rattle.std.proofs.Common.{◌≡◌, ◌++◌, drop}
use Rattle.std.specs.List.{flat_map}
use Rattle.dbl_record.specs.Fields.{number32}
use Rattle.dbl_offset_content.proofs.writing.write_each_place.Given as goal

abbrev pub invariant-loop-place : goal.invariant-loop-place
invariant-loop-place l = l.out.items ++ flat_map number32 (drop l.place-index l.key) ≡ l.fn.out.items ++ flat_map number32 l.key
