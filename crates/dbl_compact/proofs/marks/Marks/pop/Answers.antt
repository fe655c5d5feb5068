use Rattle.std.proofs.Common.{◌≡◌, ◌∙◌, length, sym, arith}
use Rattle.dbl_compact.proofs.MarkLemmas.{pop_bit, pop_byte, no_marks, no_bytes}
use Rattle.dbl_compact.proofs.marks.Marks.pop.Goals as goal

pub returns-then-self-gt0 : goal.returns-then-self-gt0
returns-then-self-gt0 c = let old = c.self.inside in sym c.self.view_is ∙ pop_bit old.count old.last old.full.items c.if-self-gt0.true

pub returns-in-Some : goal.returns-in-Some
returns-in-Some c =
    let old = c.self.inside in
    sym c.self.view_is ∙ pop_byte old.count old.last c.in-Some.byte old.full.items c.pop.new.self.items c.if-self-gt0.false c.in-Some.ensures.items

pub returns-in-None : goal.returns-in-None
returns-in-None c =
    let old = c.self.inside in
    let none : length old.full.items ≡ 0 = omega (arith, old.full.ok.0, c.in-None.ensures.cases.0) in
    let left : length c.pop.new.self.items ≡ 0 = omega (arith, c.pop.new.self.ok.0, c.in-None.ensures.cases.1) in (
      sym c.self.view_is ∙ no_marks old.count old.last old.full.items c.if-self-gt0.false (no_bytes old.full.items none),
      no_marks old.count old.last c.pop.new.self.items c.if-self-gt0.false (no_bytes c.pop.new.self.items left),
    )
