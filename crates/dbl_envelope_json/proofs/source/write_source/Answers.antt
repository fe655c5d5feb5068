use Rattle.std.proofs.Common.{◌∙◌, append_assoc}
use Rattle.std.proofs.lemmas.Result.{on_ok_weaker}
use Rattle.dbl_model_event.specs.EventJson.{source_data}
use Rattle.dbl_envelope_json.proofs.TokenLemmas.{number_text-of_integer}
use Rattle.dbl_envelope_json.proofs.source.write_source.Goals as goal

pub returns-clause-ok : goal.returns-clause-ok
unfolding source_data
returns-clause-ok c =
    on_ok_weaker c.write_place.result
    (λ e. e ∙ rw c.in_ok-write_names.ensures.ok (simp (append_assoc, number_text-of_integer)))
    c.write_place.ensures.ok
