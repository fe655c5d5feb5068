use Rattle.std.proofs.Common.{◌≡◌, take}
use Rattle.dbl_consume_courses.specs.Since.{since}
use Rattle.cases_courses.proofs.courses.records_since.Given as goal

abbrev pub invariant-loop-item : goal.invariant-loop-item
invariant-loop-item l = l.kept.items ≡ since l.start (take l.item-index l.records.items)
