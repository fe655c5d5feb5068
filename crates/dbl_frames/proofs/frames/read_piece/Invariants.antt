use Rattle.std.proofs.Common.{◌+◌, ◌^◌, ◌<◌, length}
use Rattle.dbl_frames.specs.Steps.{ReadsFrames}
use Rattle.dbl_frames.proofs.frames.read_piece.Given as goal

abbrev pub invariant-steps : goal.invariant-steps
invariant-steps l = record {
  read : ReadsFrames l.fn.partial.at l.fn.partial.bytes.items l.fn.piece l.fn.out.items l.partial.at l.partial.bytes.items l.rest l.out.items;
  room : l.partial.at + length l.partial.bytes.items + length l.rest < 2 ^ 64;
}

abbrev pub decreases-steps : goal.decreases-steps
decreases-steps l = length l.rest
