use Rattle.std.proofs.Common.{◌≡◌, ◌∙◌, ◌++◌, ◌∷◌, [], IsOk, ap, subst, sym}
use Rattle.std.specs.Prelude.{is_ok}
use Rattle.dbl_record.specs.declared.reading.Line.{Line}
use Rattle.dbl_record.specs.Acts.{act, reading_of}
use Rattle.dbl_record.specs.Reading.{as_line}
use Rattle.dbl_consume.specs.Holdings.{Took, placeholder_of}
use Rattle.dblog_stores.proofs.consuming.take_record.Goals as goal

pub returns-in-Ok-clause-took : goal.returns-in-Ok-clause-took
returns-in-Ok-clause-took c = λ taken took.
    let item = c.args.item.now in
    let line : record { topic = item.topic; key = c.text_or-key.result.now; value = c.text_or-value.result.now } ≡ as_line item = λ i. record { topic = item.topic; key = c.text_or-key.ensures i; value = c.text_or-value.ensures i } in
    subst (λ (l : Line). Took (taken ++ reading_of l ∷ []) c.apply.new.self) line (c.in-Ok.ensures.took taken took)

pub returns-in-Ok-clause-accepted : goal.returns-in-Ok-clause-accepted
returns-in-Ok-clause-accepted c =
    let item = c.args.item.now in
    let line : record { topic = item.topic; key = c.text_or-key.result.now; value = c.text_or-value.result.now } ≡ as_line item = λ i. record { topic = item.topic; key = c.text_or-key.ensures i; value = c.text_or-value.ensures i } in
    subst (λ (l : Line). IsOk (act (placeholder_of c.args.held.now) l)) line c.in-Ok.ensures.accepted

pub returns-in-Err-clause-refused : goal.returns-in-Err-clause-refused
returns-in-Err-clause-refused c = λ other.
    let item = c.args.item.now in
    let line : record { topic = item.topic; key = c.text_or-key.result.now; value = c.text_or-value.result.now } ≡ as_line item = λ i. record { topic = item.topic; key = c.text_or-key.ensures i; value = c.text_or-value.ensures i } in
    ap is_ok (ap (act (placeholder_of c.args.held.now)) (sym line) ∙ c.in-Err.ensures.refused other)
