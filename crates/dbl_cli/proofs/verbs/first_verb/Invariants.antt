use Rattle.std.proofs.Common.{◌≡◌, drop}
use Rattle.dbl_cli.specs.Verbs.{named_verbs, first_verb}
use Rattle.dbl_cli.proofs.verbs.first_verb.Given as goal

abbrev pub invariant-loop-named : goal.invariant-loop-named
invariant-loop-named l = first_verb (named_verbs l.verbs) l.word ≡ first_verb (named_verbs (drop l.named-index l.verbs)) l.word
