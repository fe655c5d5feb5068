use Rattle.std.proofs.Common.{◌≡◌, ◌∙◌, ◌∷◌, ◌++◌, Some, inr, ap, sym}
use Rattle.dbl_script.specs.Texts.{escape_of, escapes_of}
use Rattle.dbl_script.proofs.Many.{with_front}
use Rattle.dbl_script.proofs.TextLemmas.{escapes_more, escapes_fail, escapes_end}
use Rattle.dbl_script.proofs.words.read_escapes.Goals as goal

pub returns-in_default-escape : goal.returns-in_default-escape
returns-in_default-escape c =
    inr (sym c.parts.invariant ∙ ap (λ parts. with_front c.parts.bytes.items (escapes_of parts)) c.in-Some.ensures ∙ escapes_fail c.parts.bytes.items c.in-Some.part.now c.next_part.new.self (sym c.in_default-escape.ensures))

pub parts-preserved : goal.parts-preserved
parts-preserved c =
    let is : escape_of c.in-Some.part.now ≡ Some (c.in-Some-escape.byte ∷ c.in-Some-escape.rest.now) = sym c.in-Some-escape.ensures in
    escapes_more c.parts.bytes.items c.extend_from_slice.new.self.items c.in-Some.part.now c.next_part.new.self c.in-Some-escape.byte c.in-Some-escape.rest.now is (c.in_ok-extend_from_slice.ensures.items ∙ ap (λ xs. xs ++ c.in-Some-escape.rest.now) c.in_ok-push.ensures.items)
    ∙ ap (λ parts. with_front c.parts.bytes.items (escapes_of parts)) (sym c.in-Some.ensures)
    ∙ c.parts.invariant

pub returns : goal.returns
returns c = sym c.parts.invariant ∙ ap (λ parts. with_front c.parts.bytes.items (escapes_of parts)) c.in_default.ensures.0 ∙ escapes_end c.parts.bytes.items
