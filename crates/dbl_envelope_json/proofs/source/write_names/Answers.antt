use Rattle.std.proofs.Common.{◌∙◌, append_assoc}
use Rattle.std.proofs.lemmas.Result.{on_ok_weaker}
use Rattle.dbl_envelope_json.proofs.source.write_names.Goals as goal

pub returns-clause-ok : goal.returns-clause-ok
returns-clause-ok c =
    on_ok_weaker c.text_member-4.result
    (λ e. e ∙ rw (c.as_str-3.ensures.value, c.in_ok-text_member-3.ensures.ok, c.as_str-2.ensures.value, c.in_ok-u64_member.ensures.ok, c.in_ok-text_member-2.ensures.ok, c.as_str.ensures.value, c.in_ok-text_member.ensures.ok, c.in_ok-begin_object.ensures.ok) (simp append_assoc))
    c.text_member-4.ensures.ok
