use Rattle.dbl_record.specs.declared.record.Record.{Record}
use Rattle.cases_ages.specs.Trace.{IsToldBy}
use Rattle.cases_ages.proofs.ToldLemmas.{AreNone}
use Rattle.cases_ages.proofs.progress.is_told_in.Given as goal

abbrev pub invariant-loop-item : goal.invariant-loop-item
invariant-loop-item l = AreNone (λ (x : Record). IsToldBy l.log.identity.now l.info x l.key) l.log.records.now.items l.item-index
