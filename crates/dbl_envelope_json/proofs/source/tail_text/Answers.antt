use Rattle.std.proofs.Common.{◌∙◌, ◌++◌, ap}
use Rattle.json.specs.Print.{print}
use Rattle.dbl_envelope_json.specs.Tokens.{tail_tokens}
use Rattle.dbl_envelope_json.specs.Frames.{tail_text}
use Rattle.dbl_envelope_json.proofs.source.tail_text.Goals as goal

pub returns : goal.returns
unfolding tail_text
returns c =
    let tail = tail_tokens c.args.identity.now c.args.table.now c.args.commit.now c.args.snapshot.now c.args.now_ms.now in
    c.make.ensures ∙ c.written_text.ensures ∙ ap print (c.in_ok-write_tail.ensures.ok ∙ ap (λ ts. ts ++ tail) c.new-writer.ensures.tokens)
