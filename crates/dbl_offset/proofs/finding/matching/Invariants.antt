use Rattle.std.proofs.Common.{◌≡◌, ◌≤◌, ◌-◌, length, take}
use Rattle.dbl_offset.specs.Slots.{store_magic}
use Rattle.dbl_offset.proofs.finding.matching.Given as goal

abbrev pub invariant-bytes : goal.invariant-bytes
invariant-bytes l = record { within : l.count ≤ 8; read : l.count ≤ length l.bytes; same : take l.count l.bytes ≡ take l.count store_magic }

abbrev pub decreases-bytes : goal.decreases-bytes
decreases-bytes l = 8 - l.count
