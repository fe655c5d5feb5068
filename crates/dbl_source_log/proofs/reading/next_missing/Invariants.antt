use Rattle.std.proofs.Common.{◌≡◌, ◌-◌, List, length, take}
use Rattle.dbl_pgmsg.specs.declared.messages.Message.{Message}
use Rattle.dbl_source_log.specs.Sent.{oids_of, onto_relations}
use Rattle.dbl_source_log.specs.Readings.{Describes}
use Rattle.dbl_source_log.proofs.reading.next_missing.Given as goal

abbrev pub invariant-loop-oid : goal.invariant-loop-oid
invariant-loop-oid l =
    (base : List Message) → Describes l.described (onto_relations l.tables (take l.from (oids_of l.message)) base)
    → onto_relations l.tables (take l.table (oids_of l.message)) base ≡ onto_relations l.tables (take l.from (oids_of l.message)) base

abbrev pub decreases-loop-oid : goal.decreases-loop-oid
decreases-loop-oid l = length (oids_of l.message) - l.table
