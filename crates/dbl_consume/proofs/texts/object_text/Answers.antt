use Rattle.std.proofs.Common.{◌∙◌, ◌++◌, ap}
use Rattle.json.specs.Print.{print}
use Rattle.json.specs.Tree.{json_tokens}
use Rattle.serde_json.specs.Data.{object}
use Rattle.serde_json.specs.Written.{outline}
use Rattle.serde_json.proofs.Texts.{print-outline}
use Rattle.dbl_consume.specs.Cells.{cells_data}
use Rattle.dbl_consume.proofs.texts.object_text.Goals as goal

pub returns : goal.returns
returns c =
    c.text_of.ensures ∙ ap print (c.in_ok-write_cells.ensures.ok ∙ ap (λ ts. ts ++ json_tokens (outline (object (cells_data c.args.cells.now)))) c.new-writer.ensures.tokens)
    ∙ print-outline (object (cells_data c.args.cells.now))
