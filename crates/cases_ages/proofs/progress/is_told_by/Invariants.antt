use Rattle.dbl_model_history.specs.declared.cursor.Cursor.{Cursor}
use Rattle.dbl_consume_laws.specs.Prints.{ReportsProgress}
use Rattle.cases_ages.proofs.ToldLemmas.{AreNone}
use Rattle.cases_ages.proofs.progress.is_told_by.Given as goal

abbrev pub invariant-loop-cursor : goal.invariant-loop-cursor
invariant-loop-cursor l = AreNone (λ (x : Cursor). ReportsProgress l.log.identity.now l.info l.item x.last x.done) l.log.said.now.items l.cursor-index
