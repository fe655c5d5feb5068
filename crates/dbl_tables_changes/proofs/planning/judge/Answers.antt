use Rattle.std.proofs.Common.{inl, inr}
use Rattle.std.proofs.lemmas.Result.{err_from_is_err_and}
use Rattle.dbl_tables_changes.proofs.ExitLemmas.{unblocked}
use Rattle.dbl_tables_changes.proofs.planning.judge.Goals as goal

-- too long
pub returns-in_err-size : goal.returns-in_err-size
returns-in_err-size c messages utf8 short is =
    let p = err_from_is_err_and c.from_residual.result c.from_residual.ensures.1 in
    rw (p.1, p.2) (inl (c.in_err-size.ensures messages utf8 short is))

-- somebody is in the way
pub returns-in_err-pass : goal.returns-in_err-pass
returns-in_err-pass c messages utf8 short is =
    let p = err_from_is_err_and c.from_residual-in_err-pass.result c.from_residual-in_err-pass.ensures.1 in
    rw (p.1, p.2) (inr ((c.in_ok-size.ensures messages utf8 short is).0, c.in_err-pass.ensures))

pub returns : goal.returns
returns c messages utf8 short is = (c.in_ok-size.ensures messages utf8 short is, unblocked _ _ c.in_ok-pass.ensures)
