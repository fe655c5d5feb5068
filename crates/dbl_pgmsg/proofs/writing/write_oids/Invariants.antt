use Rattle.std.proofs.Common.{◌≡◌, ◌++◌, drop}
use Rattle.std.specs.List.{flat_map}
use Rattle.dbl_pgmsg.specs.Room.{Begins}
use Rattle.dbl_pgmsg.specs.Grammar.{int32}
use Rattle.dbl_pgmsg.proofs.writing.write_oids.Given as goal

abbrev pub invariant-loop-oid : goal.invariant-loop-oid
invariant-loop-oid l = record { front : Begins l.fn.out.items l.out.items; equal : l.out.items ++ flat_map int32 (drop l.oid-index l.oids) ≡ l.fn.out.items ++ flat_map int32 l.oids }
