use Rattle.std.proofs.Common.{◌≡◌, List, ℕ, rules, tests, subst, map, take}
use Rattle.std.specs.Prelude.{IfOk, chars, encode_utf8_all}
use Rattle.std.specs.String.{string_bytes}
use Rattle.std.proofs.lemmas.Iterator.{YieldsList-from_chars, YieldsList-from_map, YieldsList-from_take, text_from_collect}
use Rattle.dbl_hooks_masks.proofs.MaskLemmas.{stars_shown}
use Rattle.dbl_hooks_masks.proofs.texts.show_stars.Goals as goal

pub returns : goal.returns
returns c =
    let count : c.map.result.iter.n ≡ c.args.most = rw c.map.ensures.source c.take.ensures.count in
    let shown : IfOk c.collect.result (λ made. string_bytes made ≡ encode_utf8_all (map {B = ℕ} (λ (x : ℕ). 42) (take c.args.most (chars c.args.text.now)))) =
    text_from_collect _ c.collect.ensures.ran
    (YieldsList-from_map _ _ (YieldsList-from_take _ (YieldsList-from_chars c.args.text.now (search rules) cc) count)
    c.map.ensures.closure (λ x r q k. search (rules, tests))) in
    subst (λ (l : List ℕ). IfOk c.collect.result (λ made. string_bytes made ≡ l)) (stars_shown c.args.most c.args.text.now) shown
