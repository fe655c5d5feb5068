use Rattle.std.proofs.Common.{◌∙◌, ◌++◌, ap}
use Rattle.json.specs.Print.{print}
use Rattle.json.specs.Tree.{json_tokens}
use Rattle.serde_json.specs.Written.{outline}
use Rattle.dbl_envelope_json.specs.declared.side.Side.{Side}
use Rattle.dbl_envelope_json.specs.Tokens.{head_tokens}
use Rattle.dbl_envelope_json.specs.Frames.{side_data}
use Rattle.dbl_envelope_json.proofs.value.head_text.Goals as goal

pub returns : goal.returns
returns c =
    let part = λ (side : Side). json_tokens (outline (side_data c.args.placeholder.now c.args.columns.now side)) in
    c.written_text.ensures ∙ ap print (c.in_ok-write_head.ensures.ok ∙ ap (λ ts. ts ++ head_tokens (part c.args.after.now) (part c.args.before.now) c.args.op.now) c.new-writer.ensures.tokens)
