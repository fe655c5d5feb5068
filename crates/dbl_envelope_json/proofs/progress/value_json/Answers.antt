use Rattle.std.proofs.Common.{◌∙◌, ◌++◌, ap}
use Rattle.json.specs.Token.{boolean}
use Rattle.json.specs.Print.{print}
use Rattle.json.specs.Tree.{json_tokens}
use Rattle.serde_json.specs.Written.{outline}
use Rattle.dbl_envelope_json.specs.Tokens.{progress_tokens}
use Rattle.dbl_envelope_json.specs.Frames.{through_data}
use Rattle.dbl_envelope_json.proofs.ProgressLemmas.{through_fits, progress_is}
use Rattle.dbl_envelope_json.proofs.progress.value_json.Goals as goal

pub write_value-requires : goal.write_value-requires
write_value-requires c =
    let frame = c.args.frame.now in
    record { places = through_fits frame.identity.now frame.info.now frame.layout.now c.args.through.now c.requires.framed.layout c.requires.long }

pub returns : goal.returns
returns c =
    let frame = c.args.frame.now in
    let tokens = progress_tokens (boolean c.args.done) (json_tokens (outline (through_data frame.layout.now.key_cells c.args.through.now))) c.args.table.now in
    c.make.ensures ∙ c.written_text.ensures ∙ ap print (c.in_ok-write_value.ensures.ok ∙ ap (λ ts. ts ++ tokens) c.new-writer.ensures.tokens)
    ∙ progress_is frame.identity.now frame.info.now frame.layout.now c.args.through.now c.args.done c.args.table.now c.requires.framed.layout c.requires.long c.requires.table
