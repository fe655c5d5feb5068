use Rattle.std.proofs.Common.{refl}
use Rattle.dbl_compact_ended.proofs.EndedLemmas.{key_ended}
use Rattle.dbl_compact_ended.proofs.ended.end_key.Goals as goal

pub returns : goal.returns
returns c = key_ended c.args.ended.now (record c.args.ended.now { keys = c.insert.new.self }) c.args.key refl c.in_ok-insert.ensures.updates
