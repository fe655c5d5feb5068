use Rattle.std.proofs.Common.{◌≡◌, drop}
use Rattle.clap.specs.Words.{app_of}
use Rattle.dbl_cli.specs.Names.{all_named}
use Rattle.dbl_cli.specs.Parsers.{bare_app, given_rules, with_rules}
use Rattle.dbl_cli.proofs.parser.with_names.Given as goal

abbrev pub invariant-loop-name : goal.invariant-loop-name
invariant-loop-name l = with_rules (app_of l.parser) (given_rules (all_named (drop l.name-index l.names))) ≡ with_rules bare_app (given_rules (all_named l.names))
