use Rattle.std.proofs.Common.{◌≡◌, ◌∙◌, ◌++◌, [], ap, ap₂}
use Rattle.json.specs.Print.{print}
use Rattle.json.specs.Tree.{json_tokens}
use Rattle.serde_json.specs.Written.{outline}
use Rattle.serde_json.proofs.Texts.{print-outline}
use Rattle.dbl_value_types.specs.Values.{json_data}
use Rattle.dbl_value.proofs.encoding.json.Goals as goal

pub returns-clause-ok : goal.returns-clause-ok
returns-clause-ok c =
    let before : c.write_json.new.writer.before ≡ [] = c.in_ok-write_json.ensures.before ∙ c.new-writer.ensures.before ∙ c.new.ensures.items in
    let tokens : c.write_json.new.writer.tokens ≡ json_tokens (outline (json_data c.args.val.now)) = c.in_ok-write_json.ensures.ok ∙ ap (λ ts. ts ++ json_tokens (outline (json_data c.args.val.now))) c.new-writer.ensures.tokens in
    c.make.ensures ∙ ap (λ v. v.items) c.in-Ok.ensures.ok ∙ c.into_inner.ensures.items ∙ ap₂ (λ b ts. b ++ print ts) before tokens ∙ print-outline (json_data c.args.val.now)
