-- A watermark after a fair log leaves it fair.
use Rattle.std.specs.Prelude.{[], ◌∷◌, slice_index_or}
use Rattle.dbl_source_log.specs.declared.logged.Logged.TheVariants.{Mark}
use Rattle.dbl_source_log.proofs.FairLemmas.{answered_log_later}
use Rattle.dbl_source_log.proofs.MarkLemmas.{fit_marked, fair_marked}
use Rattle.dbl_source_scripted.specs.Fairness.{no_rows_selected}
use Rattle.dbl_source_scripted.specs.Laws.{MarksKeepFair}

pub marks_fair : MarksKeepFair
marks_fair value s plain few returned fair = record {
  fit = fit_marked s.tables s.log value plain few fair.fit;
  changes = fair_marked s.tables s.log value fair.changes;
  selects = λ n question asked. (
      answered_log_later s.tables s.log (Mark value ∷ []) question.from question.upto question.table question.above question.limit (slice_index_or s.rows n no_rows_selected) (returned n question asked)
      (fair.selects n question asked));
}
