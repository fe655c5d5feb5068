use Rattle.std.proofs.Common.{◌∙◌, ap}
use Rattle.dbl_cli.specs.Verbs.{named_verbs, first_verb}
use Rattle.dbl_cli.proofs.SpelledLemmas.{verb_matches}
use Rattle.dbl_cli.proofs.verbs.verb_of.Goals as goal

pub returns : goal.returns
returns c = verb_matches c.args.word.now c.first_verb.result (c.first_verb.ensures ∙ ap (λ verbs. first_verb (named_verbs verbs) c.args.word.now) c.as_slice.ensures)
