use Rattle.std.proofs.Common.{◌+◌, refl, sym, arith, add-one}
use Rattle.std.proofs.lemmas.Bool.{false_from_ne_true}
use Rattle.std.proofs.lemmas.List.{take_rest}
use Rattle.dbl_script.proofs.PartLemmas.{cut_missing, cut_found}
use Rattle.dbl_script.proofs.parts.cut.Goals as goal

pub returns-in_err-end-clause-parts : goal.returns-in_err-end-clause-parts
returns-in_err-end-clause-parts c = rw (c.from_residual.ensures, cut_missing c.args.separator c.args.bytes.now (λ k lt. false_from_ne_true _ (c.in_err-end.ensures k (omega arith) lt))) refl

pub returns-clause-parts : goal.returns-clause-parts
returns-clause-parts c =
    let first = c.in_ok-end.ensures in
    let is = cut_found c.args.separator c.args.bytes.now c.in_ok-end.end first.0.high first.1 (λ j lt. false_from_ne_true _ (first.0.before j (omega arith) lt)) in
    rw (take_rest c.args.bytes.now (c.in_ok-end.end + 1), add-one) (sym is)
