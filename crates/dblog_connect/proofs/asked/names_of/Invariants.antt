use Rattle.std.proofs.Common.{◌≡◌, take}
use Rattle.dblog_connect.specs.Asked.{names_of}
use Rattle.dblog_connect.proofs.asked.names_of.Given as goal

abbrev pub invariant-loop-info : goal.invariant-loop-info
invariant-loop-info l = l.names.items ≡ names_of (take l.info-index l.infos.items)
