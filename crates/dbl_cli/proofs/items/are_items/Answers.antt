use Rattle.std.proofs.Common.{◌∙◌, ap, Some}
use Rattle.dbl_cli.specs.Checks.{ends_well}
use Rattle.dbl_cli.specs.Names.{all_named, texts}
use Rattle.dbl_cli.proofs.CheckLemmas.{rest_is}
use Rattle.dbl_cli.proofs.items.are_items.Goals as goal

pub returns-in-Some : goal.returns-in-Some
returns-in-Some c =
    c.ends_well.ensures
    ∙ ap (λ l. ends_well (all_named c.args.names.now) c.args.least c.args.most (Some (texts l))) (rest_is c.args.words.now c.in-Some.start c.in-Some.ensures.within)
    ∙ ap (ends_well (all_named c.args.names.now) c.args.least c.args.most) c.in-Some.ensures.words
