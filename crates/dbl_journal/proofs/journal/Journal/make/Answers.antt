use Rattle.std.proofs.Common.{◌++◌, ◌∷◌, [], List, ℕ, ap, arith, length, sym, refl, ◌∙◌}
use Rattle.dbl_journal.specs.Form.{magic}
use Rattle.dbl_journal.proofs.Appends.{up_to_gate-nil, length-magic}
use Rattle.dbl_journal.proofs.journal.Journal.make.Goals as goal

pub start-requires : goal.start-requires
unfolding magic
start-requires g c = ap (λ (l : List ℕ). l ++ 0 ∷ []) (sym up_to_gate-nil)

pub returns-in-Ok-clause-made : goal.returns-in-Ok-clause-made
returns-in-Ok-clause-made g c told =
    let made = c.in-Ok.ensures.stored told in
    record { live = refl; bytes = made.0; told = made.1; only = made.2; spelled = made.3; gate = sym (ap length up_to_gate-nil ∙ length-magic); places = c.new.ensures.items }

pub returns-in-Ok-clause-makes : goal.returns-in-Ok-clause-makes
returns-in-Ok-clause-makes g c = record {
  small = λ bytes empty told. omega (arith, c.in-Ok.ensures.longest bytes empty told, ap length up_to_gate-nil, length-magic);
  later = c.in-Ok.ensures.cause.later;
  cause = λ never. absurd never;
  steady = λ no bytes told. c.in-Ok.ensures.steady bytes told;
}

pub returns-in-Err-clause-makes : goal.returns-in-Err-clause-makes
returns-in-Err-clause-makes g c = record {
  small = λ bytes empty told. omega (arith, c.start.ensures.longest bytes empty told, ap length up_to_gate-nil, length-magic);
  later = c.start.ensures.cause.later;
  cause = λ is. c.in-Err.ensures.cause.cause refl;
  steady = λ no. absurd (no refl);
}
