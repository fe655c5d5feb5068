use Rattle.std.proofs.Common.{◌≡◌, ◌≤◌, ◌-◌, length, take}
use Rattle.dbl_journal.specs.Form.{magic}
use Rattle.dbl_journal.proofs.scanning.matching.Given as goal

abbrev pub invariant-bytes : goal.invariant-bytes
invariant-bytes l = record { within : l.count ≤ 8; read : l.count ≤ length l.bytes; same : take l.count l.bytes ≡ take l.count magic }

abbrev pub decreases-bytes : goal.decreases-bytes
decreases-bytes l = 8 - l.count
