use Rattle.std.proofs.Common.{◌∙◌, append_assoc}
use Rattle.std.proofs.lemmas.Result.{on_ok_weaker}
use Rattle.dbl_envelope_json.proofs.progress.write_key.Goals as goal

pub returns-clause-ok : goal.returns-clause-ok
returns-clause-ok c =
    on_ok_weaker c.end_object.result
    (λ e. e ∙ rw (c.in_ok-text_member.ensures.ok, c.in_ok-begin_object.ensures.ok) (simp append_assoc))
    c.end_object.ensures.ok
