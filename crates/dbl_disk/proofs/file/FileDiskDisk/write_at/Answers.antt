use Rattle.std.proofs.Common.{length}
use Rattle.dbl_disk.proofs.Tears.{torn_same}
use Rattle.dbl_disk.proofs.file.FileDiskDisk.write_at.Goals as goal

pub returns-then-at-ge-DISK_LIMIT-clause-crash : goal.returns-then-at-ge-DISK_LIMIT-clause-crash
returns-then-at-ge-DISK_LIMIT-clause-crash g c crashed left = (crashed, tt, torn_same c.args.at (length c.args.bytes.now) crashed)

pub returns-in_err-open-clause-crash : goal.returns-in_err-open-clause-crash
returns-in_err-open-clause-crash g c crashed left = (crashed, tt, torn_same c.args.at (length c.args.bytes.now) crashed)

pub returns-in-Some-clause-crash : goal.returns-in-Some-clause-crash
returns-in-Some-clause-crash g c crashed left = (crashed, tt, torn_same c.args.at (length c.args.bytes.now) crashed)

pub returns-in-None-clause-crash : goal.returns-in-None-clause-crash
returns-in-None-clause-crash g c crashed left = (crashed, tt, torn_same c.args.at (length c.args.bytes.now) crashed)
