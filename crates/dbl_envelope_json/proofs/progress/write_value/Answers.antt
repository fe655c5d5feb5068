use Rattle.std.proofs.Common.{◌≡◌, ◌∙◌, ◌++◌, append_assoc}
use Rattle.std.proofs.lemmas.Result.{on_ok_weaker}
use Rattle.json.specs.Tree.{json_tokens}
use Rattle.serde_json.specs.Written.{outline}
use Rattle.dbl_envelope_json.specs.Frames.{through_data}
use Rattle.dbl_envelope_json.proofs.progress.write_value.Goals as goal

pub returns-clause-ok : goal.returns-clause-ok
returns-clause-ok c =
    let last : c.write_last.new.writer.tokens ≡ c.key-2.new.self.tokens ++ json_tokens (outline (through_data c.args.layout.now.key_cells c.args.through.now)) = c.in_ok-write_last.ensures.ok in
    on_ok_weaker c.end_object.result
    (λ e. e ∙ rw (c.in_ok-text_member.ensures.ok, last, c.in_ok-key-2.ensures.ok, c.in_ok-boolean.ensures.ok, c.in_ok-key.ensures.ok, c.in_ok-begin_object.ensures.ok) (simp append_assoc))
    c.end_object.ensures.ok
