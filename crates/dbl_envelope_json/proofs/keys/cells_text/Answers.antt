use Rattle.std.proofs.Common.{◌∙◌, ◌++◌, ap}
use Rattle.json.specs.Print.{print}
use Rattle.json.specs.Tree.{json_tokens}
use Rattle.serde_json.specs.Data.{object}
use Rattle.serde_json.specs.Written.{outline}
use Rattle.serde_json.proofs.Texts.{print-outline}
use Rattle.dbl_envelope_json.specs.Layouts.{members_at}
use Rattle.dbl_envelope_json.proofs.keys.cells_text.Goals as goal

pub returns : goal.returns
returns c =
    let d = object (members_at c.args.cells.now c.args.places.now) in
    c.make.ensures ∙ c.written_text.ensures ∙ ap print (c.in_ok-write_cells.ensures.ok ∙ ap (λ ts. ts ++ json_tokens (outline d)) c.new-writer.ensures.tokens) ∙ print-outline d
