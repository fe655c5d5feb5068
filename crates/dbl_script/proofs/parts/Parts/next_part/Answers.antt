use Rattle.std.proofs.Common.{◌≡◌, ◌∙◌, Some, ap, sym, option_copied}
use Rattle.dbl_script.specs.Words.{parts_at, parts_left}
use Rattle.dbl_script.proofs.PartLemmas.{parts_from, parts_of_cut}
use Rattle.dbl_script.proofs.parts.Parts.next_part.Goals as goal

pub returns-in-Some : goal.returns-in-Some
returns-in-Some c =
    let was : c.self.inside.rest ≡ Some c.in_ok-bytes.bytes = c.in_ok-bytes.was in
    let whole : c.args.self.now ≡ parts_at c.self.inside.separator c.in_ok-bytes.bytes.now = sym c.self.view_is ∙ ap (λ rest. parts_left c.self.inside.separator (option_copied rest)) was in
    whole ∙ parts_of_cut c.self.inside.separator c.in_ok-bytes.bytes.now ∙ ap (parts_from c.self.inside.separator c.in_ok-bytes.bytes.now) (sym c.in-Some.ensures.parts)

pub returns-in-None : goal.returns-in-None
returns-in-None c =
    let was : c.self.inside.rest ≡ Some c.in_ok-bytes.bytes = c.in_ok-bytes.was in
    let whole : c.args.self.now ≡ parts_at c.self.inside.separator c.in_ok-bytes.bytes.now = sym c.self.view_is ∙ ap (λ rest. parts_left c.self.inside.separator (option_copied rest)) was in
    whole ∙ parts_of_cut c.self.inside.separator c.in_ok-bytes.bytes.now ∙ ap (parts_from c.self.inside.separator c.in_ok-bytes.bytes.now) (sym c.in-None.ensures.parts)
