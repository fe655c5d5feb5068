use Rattle.std.proofs.Common.{drop}
use Rattle.dbl_compact.specs.Passes.{IsPassOver}
use Rattle.dbl_compact.proofs.compacting.read_all.Given as goal

abbrev pub invariant-records : goal.invariant-records
invariant-records l = IsPassOver l.placeholder l.index (drop l.index l.records.items) l.pass
