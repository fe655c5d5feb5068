-- What keeps a fair script fair: other clients' commits that leave the log fit and fair, and a select that is answered right. The rows
-- that were answered before stay right.
use Rattle.std.proofs.Common.{◌≡◌, ◌∙◌, ◌+◌, ◌<◌, ◌≤◌, inl, inr, ℕ, List, [], ◌∷◌, ◌++◌, length, map, sym, ap, subst, arith, length-append, get_or}
use Rattle.std.specs.Prelude.{Some, slice_index_or}
use Rattle.std.proofs.lemmas.Bool.{cases_eq}
use Rattle.std.proofs.lemmas.List.{length-map, get_or_at, get_or_append_left}
use Rattle.std.proofs.lemmas.Option.{slice_get_within, slice_get-get_or, get_or_from_slice_get}
use Rattle.dbl_source_model.specs.declared.selected.Selected.{Selected}
use Rattle.dbl_source_model.specs.ModelHistory.Fit.{IsFitHistory}
use Rattle.dbl_source_log.specs.declared.logged.LogTable.{LogTable}
use Rattle.dbl_source_log.specs.declared.logged.Logged.{Logged}
use Rattle.dbl_source_log.specs.declared.logged.Logged.TheVariants.{Changes, Mark}
use Rattle.dbl_source_log.specs.Histories.{history_of}
use Rattle.dbl_source_log.specs.Fair.{IsFairLog}
use Rattle.dbl_source_log.proofs.FairLemmas.{answered_log_later}
use Rattle.dbl_source_scripted.specs.declared.asked.Asked.{Asked}
use Rattle.dbl_source_scripted.specs.Fairness.{IsAnswered, IsFair, no_rows_selected}
use Rattle.dbl_source_scripted.specs.Played.{question_of}
use Rattle.dbl_source_scripted.specs.Laws.{CommitsKeepFair, SelectsKeepFair, SelectsHaveReturned}
use Rattle.dbl_source_scripted.proofs.PlayLemmas.{WereAsked, asked_more}

module _ (tables : List LogTable) (log more : List Logged) where
  answered_grown : (question : Asked) (answer : Selected) → question.upto ≤ length log → IsAnswered tables log question answer → IsAnswered tables (log ++ more) question answer
  answered_grown question answer le a = answered_log_later tables log more question.from question.upto question.table question.above question.limit answer le a

  grown_fair : (asked : List Asked) (rows : List Selected) → WereAsked asked log → IsFitHistory (history_of tables (log ++ more)) → IsFairLog tables (log ++ more) → IsFair tables log asked rows → IsFair tables (log ++ more) asked rows
  grown_fair asked rows returned fit changes fair = record {
    fit = fit;
    changes = changes;
    selects = λ n question found. answered_grown question (slice_index_or rows n no_rows_selected) (returned n question found) (fair.selects n question found);
  }

pub commits_fair : CommitsKeepFair
commits_fair commits s returned fit changes fair = grown_fair s.tables s.log commits s.asked s.rows returned fit changes fair

-- one question more, that was answered right
asked_fair : (tables : List LogTable) (log : List Logged) (asked : List Asked) (question : Asked) (rows : List Selected) → IsAnswered tables log question (slice_index_or rows (length asked) no_rows_selected) → IsFair tables log asked rows
    → IsFair tables log (asked ++ question ∷ []) rows
asked_fair tables log asked question rows right fair = record {
  fit = fair.fit;
  changes = fair.changes;
  selects = λ n other found. (
      let within : n < length asked + 1 = omega (arith, slice_get_within (asked ++ question ∷ []) n other found, length-append asked (question ∷ [])) in
      let read : get_or (asked ++ question ∷ []) n other ≡ other = get_or_from_slice_get (asked ++ question ∷ []) n other other found in
      elim (cases_eq n (length asked)) [
        | inl last ↦ (
            let same : question ≡ other = sym (get_or_at asked question [] other n (sym last)) ∙ read in
            subst (λ (q : Asked). IsAnswered tables log q (slice_index_or rows n no_rows_selected)) same (subst (λ (k : ℕ). IsAnswered tables log question (slice_index_or rows k no_rows_selected)) (sym last) right))
        | inr not_last ↦ (
            let inside : n < length asked = omega (arith, within, not_last) in
            fair.selects n other (slice_get-get_or asked n other inside ∙ ap Some (sym (get_or_append_left asked (question ∷ []) other n inside) ∙ read)))
      ]);
}

pub selects_fair : SelectsKeepFair
selects_fair table above limit from inside s returned fit changes right fair =
    asked_fair s.tables (s.log ++ map Changes inside) s.asked (question_of table above limit from (length s.log + length inside)) s.rows right (grown_fair s.tables s.log (map Changes inside) s.asked s.rows returned fit changes fair)

-- each select has returned
pub have_returned : SelectsHaveReturned
have_returned = record {
  first = λ raws moves rows fails n question found. cc;
  commits = λ commits s returned n question found. omega (arith, returned n question found, length-append s.log commits);
  mark = λ value s returned n question found. omega (arith, returned n question found, length-append s.log (Mark value ∷ []));
  select = λ table above limit from inside s returned. (
      let long : length (s.log ++ map Changes inside) ≡ length s.log + length inside = omega (arith, length-append s.log (map Changes inside), length-map inside Changes) in
      asked_more s.asked (question_of table above limit from (length s.log + length inside)) s.log (s.log ++ map Changes inside) (sym long) (omega (arith, long)) returned);
}
