use Rattle.std.proofs.Common.{◌∙◌, ◌++◌, ap}
use Rattle.json.specs.Print.{print}
use Rattle.json.specs.Tree.{json_tokens}
use Rattle.serde_json.specs.Written.{outline}
use Rattle.serde_json.proofs.Texts.{print-outline}
use Rattle.dbl_consume.specs.JsonValues.{data_at}
use Rattle.dbl_consume.proofs.texts.cell_text.Goals as goal

pub returns : goal.returns
returns c =
    c.text_of.ensures ∙ ap print (c.in_ok-write_cell.ensures.ok ∙ ap (λ ts. ts ++ json_tokens (outline (data_at c.args.cell.now))) c.new-writer.ensures.tokens)
    ∙ print-outline (data_at c.args.cell.now)
