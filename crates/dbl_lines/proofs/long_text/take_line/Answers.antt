use Rattle.std.proofs.Common.{◌≡◌, ◌∙◌, ◌+◌, ◌==◌, ◌++◌, [], true, length, drop, Some, None, ◌≤◌, sym, ap, ap₂, subst, arith}
use Rattle.std.specs.Vec.{vec_len}
use Rattle.std.proofs.lemmas.List.{drop-drop, drop_all}
use Rattle.dbl_lines.specs.LongTexts.{text_in, TakesLine, TakesPart}
use Rattle.dbl_lines.proofs.LongTextLemmas.{IsTaking, nothing_taken, line_taken, line_goes_on, line_ends, no_blocks, rest_of}
use Rattle.dbl_lines.proofs.long_text.take_line.Goals as goal

pub parts-init : goal.parts-init
parts-init c =
    let text = drop c.args.taken.now c.args.current.now.items ++ text_in c.args.later.now.items in
    record {
      taking = subst (λ line. IsTaking text line text) (sym c.clear.ensures.items) (nothing_taken text);
      within = c.requires;
    }

-- the line ends in the current block
pub returns-in-Some-clause-takes : goal.returns-in-Some-clause-takes
returns-in-Some-clause-takes c =
    let l = c.parts in
    let part : TakesPart (Some c.in-Some.end) l.line.items c.take_part.new.line.items (drop l.taken l.current.items)
    = subst (TakesPart (Some c.in-Some.end) l.line.items c.take_part.new.line.items) (rest_of c.deref.result.now l.taken ∙ ap (drop l.taken) c.deref.ensures.value)
    (rw c.in-Some.is at c.in_ok-end.ensures) in
    let text = drop c.args.taken.now c.args.current.now.items ++ text_in c.args.later.now.items in
    subst (λ left. TakesLine true c.take_part.new.line.items text (left ++ text_in l.later.items)) (drop-drop (c.in-Some.end + 1) l.taken l.current.items)
    (line_taken _ l.line.items _ (drop l.taken l.current.items) (text_in l.later.items) c.in-Some.end l.invariant.taking part)

-- there is no later block
pub returns-in_default-pop_front-clause-takes : goal.returns-in_default-pop_front-clause-takes
returns-in_default-pop_front-clause-takes c =
    let l = c.parts in
    let part : TakesPart None l.line.items c.take_part.new.line.items (drop l.taken l.current.items)
    = subst (TakesPart None l.line.items c.take_part.new.line.items) (rest_of c.deref.result.now l.taken ∙ ap (drop l.taken) c.deref.ensures.value)
    (rw c.in_default.is at c.in_ok-end.ensures) in
    let before : text_in l.later.items ≡ [] = no_blocks l.later.items (omega (arith, c.in_default-pop_front.ensures.cases.0, l.later.ok)) in
    let after : text_in c.pop_front.new.self.items ≡ [] = no_blocks c.pop_front.new.self.items (omega (arith, c.in_default-pop_front.ensures.cases.1, c.pop_front.new.self.ok)) in
    let all : length l.current.items ≤ c.len.result = omega (arith, c.len.ensures, l.current.ok) in
    let count : vec_len c.take_part.new.line ≡ length c.take_part.new.line.items = omega (arith, c.take_part.new.line.ok) in
    line_ends _ l.line.items _ (drop l.taken l.current.items) (text_in l.later.items) _ _ l.invariant.taking part before (c.is_empty.ensures ∙ ap (λ n. n == 0) count)
    (ap₂ (λ a b. a ++ b) (drop_all c.len.result l.current.items all) after)

pub parts-preserved : goal.parts-preserved
parts-preserved c =
    let l = c.parts in
    let part : TakesPart None l.line.items c.take_part.new.line.items (drop l.taken l.current.items)
    = subst (TakesPart None l.line.items c.take_part.new.line.items) (rest_of c.deref.result.now l.taken ∙ ap (drop l.taken) c.deref.ensures.value)
    (rw c.in_default.is at c.in_ok-end.ensures) in
    record {
      taking = line_goes_on _ l.line.items _ (drop l.taken l.current.items) (text_in l.later.items) _ l.invariant.taking part
          (ap text_in c.in-Some-pop_front.ensures.items ∙ ap (λ block. block ++ text_in c.pop_front.new.self.items) (sym c.into_items.ensures));
      within = omega arith;
    }
