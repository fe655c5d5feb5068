use Rattle.std.proofs.Common.{arith}
use Rattle.dbl_stream2.proofs.decoding.read_carried.Goals as goal

pub shift_fault-requires : goal.shift_fault-requires
shift_fault-requires c = omega (arith, c.in-Err.ensures.offset)
