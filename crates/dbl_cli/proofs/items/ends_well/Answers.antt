use Rattle.std.proofs.Common.{◌∙◌, ap, sym, false, arith, leb}
use Rattle.std.proofs.lemmas.Bool.Decides.{nat_tests}
use Rattle.dbl_cli.specs.Checks.{words_after, is_end}
use Rattle.dbl_cli.specs.Names.{all_named}
use Rattle.dbl_cli.proofs.CheckLemmas.{rest_texts, fails_first, third_left}
use Rattle.dbl_cli.proofs.items.ends_well.Goals as goal

pub returns-then-not-is_end : goal.returns-then-not-is_end
returns-then-not-is_end c =
    let ws = c.args.words.now in
    let same = c.is_end.ensures ∙ ap (λ l. is_end (words_after (all_named c.args.names.now) false l)) (rest_texts ws _ _ c.plain_len-places.ensures.within c.plain_len-places.ensures.len) in
    fails_first _ _ _ (sym same ∙ c.if-not-is_end.true)

pub returns-then-least-places : goal.returns-then-least-places
returns-then-least-places c =
    let ws = c.args.words.now in
    let same = c.is_end.ensures ∙ ap (λ l. is_end (words_after (all_named c.args.names.now) false l)) (rest_texts ws _ _ c.plain_len-places.ensures.within c.plain_len-places.ensures.len) in
    third_left _ _ _ _ (sym same ∙ c.if-not-is_end.false)
    (ap (leb c.args.least) (sym c.plain_len-places.ensures.len) ∙ grind (arith, nat_tests))
    (ap (λ n. leb n c.args.most) c.plain_len-places.ensures.len)
