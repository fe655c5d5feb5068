use Rattle.std.proofs.Common.{◌∙◌, ℕ, true, List, cond, refl, ap}
use Rattle.std.proofs.lemmas.Result.{err_from_is_err_and}
use Rattle.std.specs.Ordering.{is_eq}
use Rattle.std.specs.BTreeSet.{contains}
use Rattle.dbl_base.specs.Texts.{text_cmp}
use Rattle.dbl_tables_changes.proofs.JoinLemmas.{holds_too}
use Rattle.dbl_tables_changes.proofs.taking.add_holder.Goals as goal

pub returns-in_err-holder-clause-kept : goal.returns-in_err-holder-clause-kept
returns-in_err-holder-clause-kept c =
    let p = err_from_is_err_and c.from_residual.result c.from_residual.ensures.1 in
    rw p.1 refl

pub returns-in_err-insert-clause-kept : goal.returns-in_err-insert-clause-kept
returns-in_err-insert-clause-kept c =
    let p = err_from_is_err_and c.from_residual-in_err-insert.result c.from_residual-in_err-insert.ensures.1 in
    rw p.1 c.in_err-insert.ensures.err

pub returns-clause-added : goal.returns-clause-added
returns-clause-added c =
    holds_too c.args.name.now c.args.holders.now c.insert.new.self (λ q. c.in_ok-insert.ensures.updates.0 q ∙ ap (λ (n : List ℕ). cond (is_eq (text_cmp n q)) true (contains text_cmp c.args.holders.now q)) c.in_ok-holder.ensures)
