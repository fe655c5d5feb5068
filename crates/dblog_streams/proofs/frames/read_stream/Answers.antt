use Rattle.std.proofs.Common.{◌++◌, ℕ, Ok, List, take, ap, arith}
use Rattle.std.proofs.lemmas.List.{length-take}
use Rattle.dbl_base.proofs.Readings.{reading_goes_on, nothing_left}
use Rattle.dblog_streams.proofs.FrameInputLemmas.{size_after, read_all_of}
use Rattle.dblog_streams.proofs.frames.read_stream.Goals as goal

pub returns-in-Ok-eq0-clause-some : goal.returns-in-Ok-eq0-clause-some
returns-in-Ok-eq0-clause-some g c =
    let b : List ℕ = c.pieces.invariant.0 in
    (b ++ take c.in-Ok-eq0.field-0 c.read_piece.new.buffer, c.in-Ok-eq0.ensures.read b c.pieces.invariant.1)

pub returns-in-Ok-eq0-clause-all : goal.returns-in-Ok-eq0-clause-all
returns-in-Ok-eq0-clause-all g c =
    let b : List ℕ = c.pieces.invariant.0 in
    read_all_of _ _ b c.read_piece.new.buffer c.in-Ok-eq0.field-0 c.read_piece.new.stream c.in-Ok-eq0.field-0-test c.pieces.invariant.2
    (λ rest told. c.in-Ok-eq0.ensures.end rest told (ap Ok c.in-Ok-eq0.field-0-test)) (c.in-Ok-eq0.ensures.read b c.pieces.invariant.1)

pub returns-in-Ok-eq0-clause-within : goal.returns-in-Ok-eq0-clause-within
returns-in-Ok-eq0-clause-within g c =
    let b : List ℕ = c.pieces.invariant.0 in
    let piece : List ℕ = take c.in-Ok-eq0.field-0 c.read_piece.new.buffer in
    omega (
      arith,
      c.pieces-test.true,
      c.in-Ok-eq0.field-0-test,
      length-take c.in-Ok-eq0.field-0 c.read_piece.new.buffer,
      size_after b piece c.pieces.stream c.read_piece.new.stream c.pieces.invariant.1 (c.in-Ok-eq0.ensures.read b c.pieces.invariant.1),
    )

pub returns-in-Ok-eq0-clause-end : goal.returns-in-Ok-eq0-clause-end
returns-in-Ok-eq0-clause-end g c =
    nothing_left _ _ _ _ c.in-Ok-eq0.field-0 c.pieces.invariant.2 (λ rest told. c.in-Ok-eq0.ensures.end rest told (ap Ok c.in-Ok-eq0.field-0-test))
    c.in-Ok-eq0.ensures.left

pub pieces-smaller : goal.pieces-smaller
pieces-smaller g c =
    let b : List ℕ = c.pieces.invariant.0 in
    let piece : List ℕ = take c.in-Ok.field-0 c.read_piece.new.buffer in
    omega (
      arith,
      c.pieces-test.true,
      c.in-Ok.field-0-test.1,
      c.in-Ok.ensures.within,
      length-take c.in-Ok.field-0 c.read_piece.new.buffer,
      size_after b piece c.pieces.stream c.read_piece.new.stream c.pieces.invariant.1 (c.in-Ok.ensures.read b c.pieces.invariant.1),
    )

pub pieces-preserved : goal.pieces-preserved
pieces-preserved g c =
    let b : List ℕ = c.pieces.invariant.0 in (
      b ++ take c.in-Ok.field-0 c.read_piece.new.buffer,
      c.in-Ok.ensures.read b c.pieces.invariant.1,
      reading_goes_on _ _ _ b _ c.in-Ok.field-0 c.pieces.invariant.2 c.in-Ok.ensures.left
          (λ rest told. ap (λ (l : List ℕ). b ++ l) (c.in-Ok.ensures.moved rest told)),
      omega (arith, c.pieces.invariant.3, c.in-Ok.ensures.cause.later),
    )
