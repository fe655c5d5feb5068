use Rattle.std.proofs.Common.{◌∙◌, ◌∷◌, sym, ap}
use Rattle.dbl_cli.specs.Names.{texts}
use Rattle.dbl_cli.proofs.LimitLemmas.{said_is_within}
use Rattle.dbl_cli.proofs.SayLemmas.{not_spelled}
use Rattle.dbl_cli.proofs.spelling.command.Goals as goal

pub returns-clause-usage : goal.returns-clause-usage
returns-clause-usage c =
    let rest = ap texts c.as_slice.ensures.value ∙ c.in_ok-items.ensures in
    let name = c.in-Some-verb_of.ensures ∙ c.as_str.ensures.value in
    not_spelled c.args.words.now.items (texts c.as_slice.result.now) c.in-Some-verb_of.verb c.read_items.result
    (sym c.deref.ensures.value ∙ c.in-Some.ensures.cases.0 ∙ sym (λ i. name i ∷ rest i)) c.read_items.ensures

pub returns-clause-limits : goal.returns-clause-limits
returns-clause-limits c = said_is_within c.in-Some-verb_of.verb (texts c.as_slice.result.now) c.read_items.result c.read_items.ensures
