use Rattle.std.proofs.Common.{arith}
use Rattle.dbl_frames.proofs.StepLemmas.{reads_count, reads_stop, reads_then}
use Rattle.dbl_frames.proofs.frames.read_piece.Goals as goal

pub returns-in-Err-clause-stops : goal.returns-in-Err-clause-stops
returns-in-Err-clause-stops c =
    reads_stop _ c.steps.partial.at _ _ c.steps.partial.bytes.items c.steps.rest.now _ c.steps.out.items _ _
    c.steps.invariant.read c.in-Err.ensures.stops

pub steps-preserved : goal.steps-preserved
steps-preserved c = record {
  read = reads_then _ c.steps.partial.at _ _ _ c.steps.partial.bytes.items c.steps.rest.now _ _ _ c.steps.out.items _
      c.steps.invariant.read c.in-Ok.ensures.read;
  room = omega (arith, c.steps.invariant.room, reads_count _ _ _ _ _ _ _ _ c.in-Ok.ensures.read);
}
