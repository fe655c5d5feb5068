use Rattle.std.proofs.Common.{take}
use Rattle.dbl_tables_changes.specs.Taking.{HasMadeRoom, AreReady}
use Rattle.dbl_tables_changes.proofs.taking.make_ready.Given as goal

-- nobody sees anything so far, and the writes so far have room and are listed
abbrev pub invariant-loop-write : goal.invariant-loop-write
invariant-loop-write l = record {
  same : HasMadeRoom l.initial.slots l.slots l.initial.keys.items l.keys.items;
  ready : AreReady l.place (take l.write-index l.writes) l.slots l.keys.items;
}
