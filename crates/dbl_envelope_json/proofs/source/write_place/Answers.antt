use Rattle.std.proofs.Common.{◌∙◌, append_assoc}
use Rattle.std.proofs.lemmas.Result.{on_ok_weaker}
use Rattle.dbl_envelope_json.proofs.source.write_place.Goals as goal

pub returns-clause-ok : goal.returns-clause-ok
returns-clause-ok c =
    on_ok_weaker c.end_object.result
    (λ e. e ∙ rw (c.in_ok-null_member.ensures.ok, c.in_ok-text_member-3.ensures.ok, c.in_ok-u64_member.ensures.ok, c.in_ok-time_member.ensures.ok, c.in_ok-text_member-2.ensures.ok, c.as_str.ensures.value, c.in_ok-text_member.ensures.ok) (simp append_assoc))
    c.end_object.ensures.ok
