use Rattle.std.proofs.Common.{◌≡◌, ◌∙◌, ◌++◌, append_assoc}
use Rattle.std.proofs.lemmas.Result.{on_ok_weaker}
use Rattle.json.specs.Tree.{json_tokens}
use Rattle.serde_json.specs.Written.{outline}
use Rattle.dbl_envelope_json.specs.Frames.{side_data}
use Rattle.dbl_envelope_json.proofs.value.write_head.Goals as goal

pub returns-clause-ok : goal.returns-clause-ok
returns-clause-ok c =
    let after : c.write_side.new.writer.tokens ≡ c.key.new.self.tokens ++ json_tokens (outline (side_data c.args.placeholder.now c.args.columns.now c.args.after.now)) = c.in_ok-write_side.ensures.ok in
    let before : c.write_side-2.new.writer.tokens ≡ c.key-2.new.self.tokens ++ json_tokens (outline (side_data c.args.placeholder.now c.args.columns.now c.args.before.now)) = c.in_ok-write_side-2.ensures.ok in
    on_ok_weaker c.text_member.result
    (λ e. e ∙ rw (before, c.in_ok-key-2.ensures.ok, after, c.in_ok-key.ensures.ok, c.in_ok-begin_object.ensures.ok) (simp append_assoc))
    c.text_member.ensures.ok
