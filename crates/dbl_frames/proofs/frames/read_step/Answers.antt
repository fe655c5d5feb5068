use Rattle.std.proofs.Common.{List, ℕ, length, inl, refl, ap, arith, length-append}
use Rattle.dbl_frames.proofs.StepLemmas.{filled, reads_rest, stops_none, stops_rest}
use Rattle.dbl_frames.proofs.frames.read_step.Goals as goal

pub finish_frame-requires-clause-filled : goal.finish_frame-requires-clause-filled
finish_frame-requires-clause-filled c =
    filled c.args.partial.now.at c.args.partial.now.bytes.items c.in-Ok.ensures.added.0 c.fill_frame.new.bytes.items
    c.requires.unfinished c.in-Ok.ensures.added.1 c.in-Ok.ensures.within

pub finish_frame-requires-clause-room : goal.finish_frame-requires-clause-room
finish_frame-requires-clause-room c =
    omega (
      arith,
      c.requires.room,
      ap (λ (l : List ℕ). length l) c.in-Ok.ensures.moved,
      length-append c.args.partial.now.bytes.items c.args.piece.now,
      length-append c.fill_frame.new.bytes.items c.in-Ok.rest.now,
    )

pub returns-in-Ok-finish_frame-clause-read : goal.returns-in-Ok-finish_frame-clause-read
returns-in-Ok-finish_frame-clause-read c =
    reads_rest _ _ _ _ c.fill_frame.new.bytes.items c.in-Ok.rest.now _ _ _ c.in-Ok.ensures.moved c.in-Ok-finish_frame.ensures.read

pub returns-in-Ok-finish_frame-clause-less : goal.returns-in-Ok-finish_frame-clause-less
returns-in-Ok-finish_frame-clause-less c = c.in-Ok.ensures.less

pub returns-in-Err-finish_frame-clause-stops : goal.returns-in-Err-finish_frame-clause-stops
returns-in-Err-finish_frame-clause-stops c =
    stops_rest _ _ _ c.fill_frame.new.bytes.items c.in-Ok.rest.now _ _ _ c.in-Ok.ensures.moved c.in-Err-finish_frame.ensures.stops

pub returns-in-Err-clause-stops : goal.returns-in-Err-clause-stops
returns-in-Err-clause-stops c = stops_none _ _ _ _ _ _ refl (inl refl)
