use Rattle.std.proofs.Common.{◌≡◌, ◌∙◌, ℤ, length, ap, arith, rules}
use Rattle.std.proofs.Math.Facts.{to_z-of_z}
use Rattle.std.proofs.lemmas.Bool.Decides.{nat_tests}
use Rattle.dbl_model_event.specs.EventJson.{envelopes}
use Rattle.dbl_envelope.proofs.CommitLemmas.{all_made}
use Rattle.dbl_envelope.proofs.writer.EventWriter.records.Goals as goal

pub returns-then-is_empty-clause-ok : goal.returns-then-is_empty-clause-ok
returns-then-is_empty-clause-ok c =
    let writer = c.args.self.now in
    let none : length c.in_ok-more.more.items ≡ 0 = first_of (search rules, grind (arith, nat_tests), grind arith) in
    all_made c.left.made.items c.in_ok-more.more.items c.left.left _ none c.in_ok-more.ensures.end c.left.invariant
    ∙ ap (λ (m : ℤ). envelopes writer.identity writer.infos c.args.commit.now m) (to_z-of_z c.ranges.now_ms)
