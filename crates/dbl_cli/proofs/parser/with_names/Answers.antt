use Rattle.std.proofs.Common.{◌≡◌, ◌∙◌, ◌+◌, List, ◌∷◌, [], drop, ap, sym, append_assoc}
use Rattle.clap.specs.Words.{App, Rule, app_of, with_rule}
use Rattle.clap.specs.Simple.{on_top}
use Rattle.dbl_cli.specs.Names.{all_named}
use Rattle.dbl_cli.specs.Parsers.{given_rules, with_rules}
use Rattle.dbl_cli.proofs.CheckLemmas.{split_at}
use Rattle.dbl_cli.proofs.parser.with_names.Goals as goal

one_more : (a : App) (r : Rule) (rules : List Rule) → with_rules (with_rule a r) rules ≡ with_rules a (r ∷ rules)
one_more a r rules = ap (λ l. on_top (λ s. record s { rules = l }) a) (append_assoc a.top.rules (r ∷ []) rules)

pub loop-name-preserved : goal.loop-name-preserved
loop-name-preserved c =
    let names = c.args.names.now in
    let i = c.loop-name.name-index in
    let before = app_of c.loop-name.parser in
    ap (λ a. with_rules a (given_rules (all_named (drop (i + 1) names)))) (c.in_ok-parser.ensures.shape c.argument.ensures.own ∙ ap (with_rule before) c.argument.ensures.rule)
    ∙ one_more before _ (given_rules (all_named (drop (i + 1) names)))
    ∙ ap (λ l. with_rules before (given_rules (all_named l))) (sym (split_at names i _ c.loop-name-test.true))
    ∙ c.loop-name.invariant
