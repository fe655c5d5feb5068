use Rattle.std.proofs.Common.{◌∙◌, inr, refl, sym}
use Rattle.dbl_tables_changes.proofs.ExitLemmas.{both_no_left, both_no_right, both_yes}
use Rattle.dbl_tables_changes.proofs.planning.read_cells.Goals as goal

pub returns-then-not-branch-clause-reads : goal.returns-then-not-branch-clause-reads
returns-then-not-branch-clause-reads c has = inr (refl, both_no_left _ _ (sym (c.in_ok-are_each_readable.ensures has) ∙ c.if-not-branch.true))

pub returns-then-not-branch-2-clause-reads : goal.returns-then-not-branch-2-clause-reads
returns-then-not-branch-2-clause-reads c has = inr (refl, both_no_right _ _ (sym c.in_ok-enter_cells.ensures.distinct ∙ c.if-not-branch-2.true))

pub returns-clause-reads : goal.returns-clause-reads
returns-clause-reads c has = both_yes _ _ (sym (c.in_ok-are_each_readable.ensures has) ∙ c.if-not-branch.false) (sym c.in_ok-enter_cells.ensures.distinct ∙ c.if-not-branch-2.false)

pub returns-clause-places : goal.returns-clause-places
returns-clause-places c = c.in_ok-enter_cells.ensures.places c.if-not-branch-2.false
