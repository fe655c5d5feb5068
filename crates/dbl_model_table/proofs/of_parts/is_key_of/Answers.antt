use Rattle.std.proofs.Common.{◌≡◌, ◌∙◌, sym, ap}
use Rattle.std.specs.Prelude.{Option, ℕ, is_some, nat_eq}
use Rattle.std.proofs.lemmas.Result.{IfOk-weaker}
use Rattle.dbl_model_table.specs.Tables.{are_distinct, is_key}
use Rattle.dbl_model_table.proofs.of_parts.is_key_of.Goals.{then-is_empty-via-then-is_empty, then-is_empty-via-else-is_empty+then-not-are_within, then-is_empty-via-else-is_empty+else-not-are_within+then-is_some}
use Rattle.dbl_model_table.proofs.PartLemmas.{is_key_none, is_key_far, is_key_unfit, is_key_apart}
use Rattle.dbl_model_table.proofs.of_parts.is_key_of.Goals as goal

pub returns-then-is_empty : goal.returns-then-is_empty
returns-then-is_empty c = elim c.then-is_empty.branch [
  | then-is_empty-via-then-is_empty w ↦ sym (is_key_none c.args.columns.now c.args.key.now (sym c.is_empty.ensures ∙ w.if-is_empty.true))
  | then-is_empty-via-else-is_empty+then-not-are_within w ↦ sym (is_key_far c.args.columns.now c.args.key.now (sym w.are_within.ensures ∙ w.if-not-are_within.true))
  | then-is_empty-via-else-is_empty+else-not-are_within+then-is_some w ↦ sym (is_key_unfit c.args.columns.now c.args.key.now (ap (λ (o : Option ℕ). is_some o) (sym w.first_unfit.ensures) ∙ (sym w.is_some.ensures ∙ w.if-is_some.true)))
]

pub returns : goal.returns
returns c =
    let same = is_key_apart c.args.columns.now c.args.key.now (sym c.is_empty.ensures ∙ c.if-is_empty.false) (sym c.are_within.ensures ∙ c.if-not-are_within.false) (ap (λ (o : Option ℕ). is_some o) (sym c.first_unfit.ensures) ∙ (sym c.is_some.ensures ∙ c.if-is_some.false)) in
    IfOk-weaker c.are_distinct_places.result (λ held. held ≡ are_distinct nat_eq c.args.key.now) (λ held. held ≡ is_key c.args.columns.now c.args.key.now) (λ held is. is ∙ same) c.are_distinct_places.ensures
