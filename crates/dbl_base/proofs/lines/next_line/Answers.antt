use Rattle.std.proofs.Common.{arith, refl}
use Rattle.std.proofs.lemmas.Bool.{false_from_ne_true}
use Rattle.dbl_base.proofs.LineLemmas.{line_first, line_last}
use Rattle.dbl_base.proofs.lines.next_line.Goals as goal

pub returns-in-Some-clause-first : goal.returns-in-Some-clause-first
returns-in-Some-clause-first c =
    let found = c.in-Some.ensures in
    line_first c.args.bytes.now c.in-Some.end _ found.0.high found.1 (λ k below. false_from_ne_true _ (found.0.before k (omega arith) below)) refl

pub returns-in-None-clause-first : goal.returns-in-None-clause-first
returns-in-None-clause-first c =
    line_last c.args.bytes.now _ c.requires (λ k below. false_from_ne_true _ (c.in-None.ensures k (omega arith) below)) (omega arith)
