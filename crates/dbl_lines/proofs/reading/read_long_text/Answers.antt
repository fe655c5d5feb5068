use Rattle.std.proofs.Common.{◌≡◌, ◌∙◌, ◌++◌, [], Ok, refl, ap, ap₂, length, arith}
use Rattle.dbl_base.specs.Streams.{input_limit}
use Rattle.dbl_base.proofs.Readings.{reading_begins, reading_goes_on, reading_ends, nothing_left, reading_passed}
use Rattle.dbl_lines.specs.LongTexts.{text_in}
use Rattle.dbl_lines.proofs.reading.read_long_text.Goals as goal

pub reads-init : goal.reads-init
reads-init g c =
    let none : text_in c.new-blocks.result.items ++ c.in_ok-last.last.items ≡ [] = ap₂ (λ blocks last. text_in blocks ++ last) c.new-blocks.ensures.items c.in_ok-last.ensures.items in
    record {
      reading = reading_begins _ _ none;
      long = omega (arith, ap length none);
      later = omega arith;
      steady = λ bytes told. refl;
    }

pub reads-preserved : goal.reads-preserved
reads-preserved g c = record {
  reading = reading_goes_on _ _ _ _ _ c.in_ok-count.count c.reads.invariant.reading c.in_ok-count.ensures.left c.in_ok-count.ensures.moved;
  long = omega (arith, c.reads.invariant.long, c.in_ok-count.ensures.longer);
  later = omega (arith, c.reads.invariant.later, c.in_ok-count.ensures.cause.later);
  steady = λ bytes told.
      let now = c.reads.invariant.reading.told bytes told in
      c.in_ok-count.ensures.steady now.0 now.1 (λ ok. cc) ∙ c.reads.invariant.steady bytes told;
}

pub returns-then-count-eq0-clause-all : goal.returns-then-count-eq0-clause-all
returns-then-count-eq0-clause-all g c = λ bytes is.
    c.in_ok-make.ensures ∙ reading_ends _ _ _ _ c.in_ok-count.count c.reads.invariant.reading (λ rest told. c.in_ok-count.ensures.end rest told (ap Ok c.if-count-eq0.true)) c.in_ok-count.ensures.moved bytes is

pub returns-then-count-eq0-clause-end : goal.returns-then-count-eq0-clause-end
returns-then-count-eq0-clause-end g c =
    nothing_left _ _ _ _ c.in_ok-count.count c.reads.invariant.reading (λ rest told. c.in_ok-count.ensures.end rest told (ap Ok c.if-count-eq0.true)) c.in_ok-count.ensures.left

pub returns-clause-too_long : goal.returns-clause-too_long
returns-clause-too_long g c = λ bytes is _. reading_passed _ _ _ input_limit c.reads.invariant.reading (omega (arith, c.reads.invariant.long)) bytes is
