use Rattle.std.proofs.Common.{◌≡◌, ◌+◌, ◌-◌, ◌++◌}
use Rattle.std.specs.String.{string_bytes}
use Rattle.dbl_base.specs.Lines.{lines_text}
use Rattle.dbl_gen.specs.Workload.{groups_from}
use Rattle.dbl_gen.proofs.writing.write_groups.Given as goal

abbrev pub invariant-groups : goal.invariant-groups
invariant-groups l = string_bytes l.text ++ lines_text (groups_from l.rows (l.group + 1) (l.groups - l.group) l.draws.state) ≡ string_bytes l.fn.text ++ lines_text (groups_from l.rows 1 l.groups l.fn.number)
