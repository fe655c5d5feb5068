use Rattle.std.proofs.Common.{arith}
use Rattle.dbl_record.proofs.GroupLaws.{is_read, is_written, is_refused, is_bad}
use Rattle.dbl_record.proofs.groups.read_group.Goals as goal

pub returns-clause-read : goal.returns-clause-read
returns-clause-read c = is_read (λ x. x.items) c.args.bytes.now c.read_whole.result (λ i. omega (arith, c.type_inv.bytes i)) c.read_whole.ensures

pub returns-clause-written : goal.returns-clause-written
returns-clause-written c = is_written (λ x. x.items) c.args.bytes.now c.read_whole.result c.read_whole.ensures

pub returns-clause-refused : goal.returns-clause-refused
returns-clause-refused c = is_refused (λ x. x.items) c.args.bytes.now c.read_whole.result c.read_whole.ensures

pub returns-clause-bad : goal.returns-clause-bad
returns-clause-bad c = is_bad (λ x. x.items) c.args.bytes.now c.read_whole.result c.read_whole.ensures
