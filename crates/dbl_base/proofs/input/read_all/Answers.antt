use Rattle.std.proofs.Common.{◌∙◌, Ok, refl, ap, arith}
use Rattle.dbl_base.specs.Streams.{input_limit}
use Rattle.dbl_base.proofs.Readings.{reading_begins, reading_goes_on, reading_ends, nothing_left, reading_passed}
use Rattle.dbl_base.proofs.input.read_all.Goals as goal

pub pieces-init : goal.pieces-init
pieces-init g c = (reading_begins _ _ c.new-bytes.ensures.items, omega arith, λ bytes told. refl)

pub pieces-preserved : goal.pieces-preserved
pieces-preserved g c = (
  reading_goes_on _ _ _ _ _ c.in_ok-count.count c.pieces.invariant.0 c.in_ok-count.ensures.left c.in_ok-count.ensures.moved,
  omega (arith, c.pieces.invariant.1, c.in_ok-count.ensures.cause.later),
  λ bytes told.
      let now = c.pieces.invariant.0.told bytes told in
      c.in_ok-count.ensures.steady now.0 now.1 (λ ok. cc) ∙ c.pieces.invariant.2 bytes told,
)

pub returns-then-count-eq0-clause-all : goal.returns-then-count-eq0-clause-all
returns-then-count-eq0-clause-all g c = λ bytes is.
    c.make.ensures ∙ reading_ends _ _ _ _ c.in_ok-count.count c.pieces.invariant.0 (λ rest told. c.in_ok-count.ensures.end rest told (ap Ok c.if-count-eq0.true)) c.in_ok-count.ensures.moved bytes is

pub returns-then-count-eq0-clause-end : goal.returns-then-count-eq0-clause-end
returns-then-count-eq0-clause-end g c =
    nothing_left _ _ _ _ c.in_ok-count.count c.pieces.invariant.0 (λ rest told. c.in_ok-count.ensures.end rest told (ap Ok c.if-count-eq0.true)) c.in_ok-count.ensures.left

pub returns-clause-too_long : goal.returns-clause-too_long
returns-clause-too_long g c = λ bytes is _. reading_passed _ _ _ input_limit c.pieces.invariant.0 (omega arith) bytes is
