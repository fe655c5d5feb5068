-- What a call of a played source does to what it represents, by its log before and after, and that a fair script was fair before.
use Rattle.std.proofs.Common.{◌≡◌, ◌∙◌, ◌+◌, ◌<◌, ◌≤◌, inl, inr, ℕ, Some, List, [], ◌∷◌, ◌++◌, length, refl, sym, ap, subst, arith, length-append, get_or}
use Rattle.std.specs.Prelude.{slice_get, slice_index_or}
use Rattle.std.proofs.lemmas.Bool.{cases_eq}
use Rattle.std.proofs.lemmas.List.{append-nil, get_or_at, get_or_append_left}
use Rattle.std.proofs.lemmas.Option.{slice_get_within, slice_get-get_or, get_or_from_slice_get}
use Rattle.dbl_source_model.specs.declared.selected.Selected.{Selected}
use Rattle.dbl_source_model.specs.Selected.{AreAnswered, Selects}
use Rattle.dbl_source_log.specs.declared.logged.LogTable.{LogTable}
use Rattle.dbl_source_log.specs.declared.logged.Logged.{Logged}
use Rattle.dbl_source_log.specs.Histories.{history_of}
use Rattle.dbl_source_log.proofs.LogLemmas.{length-history}
use Rattle.dbl_source_log.proofs.FairLemmas.{fair_log_front, fit_log_front, answered_log_front}
use Rattle.dbl_source_scripted.specs.declared.asked.Asked.{Asked}
use Rattle.dbl_source_scripted.specs.Fairness.{IsAnswered, IsFair, no_rows_selected}

-- ---- fair scripts

-- each select so far returned when there were no more commits than now
abbrev pub WereAsked : List Asked → List Logged → Type 0
WereAsked asked log = (n : ℕ) (question : Asked) → slice_get asked n ≡ Some question → question.upto ≤ length log

pub found_more : {A : Type 0} (xs ys : List A) (n : ℕ) (x : A) → slice_get xs n ≡ Some x → slice_get (xs ++ ys) n ≡ Some x
found_more xs ys n x is =
    let within : n < length xs = slice_get_within xs n x is in
    slice_get-get_or (xs ++ ys) n x (omega (arith, length-append xs ys)) ∙ ap Some (get_or_append_left xs ys x n within ∙ get_or_from_slice_get xs n x x is)

module _ (tables : List LogTable) (log more : List Logged) (asked asked_more : List Asked) (rows : List Selected) where
  -- a script that was fair up to now was fair before
  pub fair_front : WereAsked asked log → IsFair tables (log ++ more) (asked ++ asked_more) rows → IsFair tables log asked rows
  fair_front before fair = record {
    fit = fit_log_front tables log more fair.fit;
    changes = fair_log_front tables log more fair.changes;
    selects = λ n question found. (
        answered_log_front tables log more question.from question.upto question.table question.above question.limit (slice_index_or rows n no_rows_selected) (before n question found)
        (fair.selects n question (found_more asked asked_more n question found)));
  }

-- the same of states whose parts are told by equations
pub fair_before : (tables now_tables : List LogTable) (log more now : List Logged) (asked asked_more now_asked : List Asked) (rows now_rows : List Selected) → now_tables ≡ tables → now ≡ log ++ more → now_asked ≡ asked ++ asked_more → now_rows ≡ rows
    → WereAsked asked log → IsFair now_tables now now_asked now_rows → IsFair tables log asked rows
fair_before tables now_tables log more now asked asked_more now_asked rows now_rows same_tables is asked_is same_rows before fair =
    let a : IsFair tables now now_asked now_rows = subst (λ (ts : List LogTable). IsFair ts now now_asked now_rows) same_tables fair in
    let b : IsFair tables (log ++ more) now_asked now_rows = subst (λ (l : List Logged). IsFair tables l now_asked now_rows) is a in
    let c : IsFair tables (log ++ more) (asked ++ asked_more) now_rows = subst (λ (qs : List Asked). IsFair tables (log ++ more) qs now_rows) asked_is b in
    fair_front tables log more asked asked_more rows before (subst (IsFair tables (log ++ more) (asked ++ asked_more)) same_rows c)

pub fair_same : (tables now_tables : List LogTable) (log more now : List Logged) (asked now_asked : List Asked) (rows now_rows : List Selected) → now_tables ≡ tables → now ≡ log ++ more → now_asked ≡ asked → now_rows ≡ rows
    → WereAsked asked log → IsFair now_tables now now_asked now_rows → IsFair tables log asked rows
fair_same tables now_tables log more now asked now_asked rows now_rows same_tables is asked_is same_rows before fair =
    fair_before tables now_tables log more now asked [] now_asked rows now_rows same_tables is (asked_is ∙ sym (append-nil asked)) same_rows before fair

-- one question more, that was answered now
pub asked_more : (asked : List Asked) (question : Asked) (log now : List Logged) → question.upto ≡ length now → length log ≤ length now → WereAsked asked log → WereAsked (asked ++ question ∷ []) now
asked_more asked question log now upto longer before n other here =
    let within : n < length asked + 1 = omega (arith, slice_get_within (asked ++ question ∷ []) n other here, length-append asked (question ∷ [])) in
    let read : get_or (asked ++ question ∷ []) n other ≡ other = get_or_from_slice_get (asked ++ question ∷ []) n other other here in
    elim (cases_eq n (length asked)) [
      | inl last ↦ (
          let same : question ≡ other = sym (get_or_at asked question [] other n (sym last)) ∙ read in
          omega (arith, ap (λ (a : Asked). a.upto) same, upto))
      | inr not_last ↦ (
          let inside : n < length asked = omega (arith, within, not_last) in
          omega (arith, before n other (slice_get-get_or asked n other inside ∙ ap Some (sym (get_or_append_left asked (question ∷ []) other n inside) ∙ read)), longer))
    ]

-- the last answer is right
pub selects_right : (tables : List LogTable) (log now : List Logged) (asked : List Asked) (question : Asked) (rows : List Selected) → question.from ≡ length log → question.upto ≡ length now → IsFair tables now (asked ++ question ∷ []) rows
    → Selects question.table question.above question.limit (history_of tables log) (history_of tables now) (slice_index_or rows (length asked) no_rows_selected)
selects_right tables log now asked question rows from upto fair =
    let there : slice_get (asked ++ question ∷ []) (length asked) ≡ Some question =
    slice_get-get_or (asked ++ question ∷ []) (length asked) question (omega (arith, length-append asked (question ∷ []))) ∙ ap Some (get_or_at asked question [] question (length asked) refl) in
    let found : Selected = slice_index_or rows (length asked) no_rows_selected in
    let a : IsAnswered tables now question found = fair.selects (length asked) question there in
    let b : AreAnswered (history_of tables now) (length (history_of tables log).commits) question.upto question.table question.above question.limit found =
    subst (λ (n : ℕ). AreAnswered (history_of tables now) n question.upto question.table question.above question.limit found) (from ∙ sym (length-history tables log)) a in
    subst (λ (n : ℕ). AreAnswered (history_of tables now) (length (history_of tables log).commits) n question.table question.above question.limit found) (upto ∙ sym (length-history tables now)) b
