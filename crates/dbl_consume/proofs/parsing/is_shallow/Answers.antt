use Rattle.std.proofs.Common.{◌≡◌, ◌∙◌, ◌≤◌, IsTrue, inl, subst, rules}
use Rattle.std.proofs.lemmas.Result.{IfOk-weaker}
use Rattle.dbl_consume.specs.JsonValues.{opened_in}
use Rattle.dbl_consume.proofs.JsonValueLemmas.{shallow_json}
use Rattle.dbl_consume.proofs.parsing.is_shallow.Goals as goal

pub returns-then-are_few_opened : goal.returns-then-are_few_opened
returns-then-are_few_opened c =
    let few : IsTrue c.are_few_opened.result = search rules in
    inl (subst (λ ts. opened_in ts ≤ 127) (c.nodes.ensures.tokens ∙ c.requires) (c.are_few_opened.ensures few))

pub returns : goal.returns
returns c = IfOk-weaker c.is_json.result _ _ (λ is e. shallow_json c.args.text.now is e) c.is_json.ensures
