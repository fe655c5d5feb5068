use Rattle.std.proofs.Common.{◌∙◌, option_map, option_and_then, sym, ap}
use Rattle.serde_json.specs.Data.{object}
use Rattle.serde_json.specs.Find.{as_object}
use Rattle.dbl_consume.specs.JsonValues.{data_at}
use Rattle.dbl_consume.proofs.EnvelopeLemmas.{object_some, object_none}
use Rattle.dbl_consume.proofs.acting.object_member.Goals as goal

pub returns-then-is_object : goal.returns-then-is_object
returns-then-is_object c =
    object_some (data_at c.in-Some.found) (sym c.is_object.ensures ∙ c.if-is_object.true) ∙ ap (λ o. option_map object (option_and_then as_object o)) c.in-Some.ensures

pub returns-else-is_object : goal.returns-else-is_object
returns-else-is_object c =
    object_none (data_at c.in-Some.found) (sym c.is_object.ensures ∙ c.if-is_object.false) ∙ ap (λ o. option_map object (option_and_then as_object o)) c.in-Some.ensures
