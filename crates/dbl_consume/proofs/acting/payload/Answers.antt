use Rattle.std.proofs.Common.{◌∙◌, codes, not, sym, ap}
use Rattle.serde_json.specs.Find.{get}
use Rattle.dbl_consume.specs.JsonValues.{data_at}
use Rattle.dbl_consume.proofs.EnvelopeLemmas.{no_schema, not_two, envelope, none_found, some_found}
use Rattle.dbl_consume.proofs.acting.payload.Goals as goal

pub returns-then-is_none : goal.returns-then-is_none
returns-then-is_none c =
    let d = data_at c.args.value.now in
    sym (no_schema d (none_found data_at c.member.result (get (codes "schema") d) c.member.ensures (c.is_none.ensures ∙ ap not c.if-is_none.true)))

pub returns-then-two : goal.returns-then-two
returns-then-two c =
    let d = data_at c.args.value.now in
    let some = some_found data_at c.member.result (get (codes "schema") d) c.member.ensures (c.is_none.ensures ∙ ap not c.if-is_none.false) in
    c.object_member.ensures ∙ sym (envelope d some (sym c.in_ok-two.ensures ∙ c.if-two.true))

pub returns-else-two : goal.returns-else-two
returns-else-two c = sym (not_two (data_at c.args.value.now) (sym c.in_ok-two.ensures ∙ c.if-two.false))
