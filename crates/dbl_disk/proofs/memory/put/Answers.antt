use Rattle.dbl_disk.proofs.Kept.{extended_written}
use Rattle.dbl_disk.proofs.memory.put.Goals as goal

pub returns-clause-written : goal.returns-clause-written
returns-clause-written c = rw (c.overwrite.ensures, c.in_ok-extend_to.ensures.ok) (extended_written c.args.current.now.items c.args.at c.args.bytes.now)
