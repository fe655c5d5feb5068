-- A watermark after a log leaves it fair and its history fit: it changes no row, and its LSN and time are in PostgreSQL's ranges.
use Rattle.std.proofs.Common.{◌≡◌, ◌∙◌, ◌+◌, ◌<◌, ◌^◌, ℕ, List, [], ◌∷◌, ◌++◌, length, map, sym, ap, subst, arith}
use Rattle.std.specs.Prelude.{IsSome}
use Rattle.std.specs.List.{AllByRecursion}
use Rattle.std.specs.Str.{IsUtf8}
use Rattle.std.proofs.lemmas.List.{append-nil, map-append}
use Rattle.dbl_model_table.specs.declared.table.TableInfo.{TableInfo}
use Rattle.dbl_model_table.specs.Rows.{no_rows, all_changes}
use Rattle.dbl_source_model.specs.ModelHistory.History.{RawChange, RawCommit, History, IsRising, name_of, raw_changes_of, entry_of}
use Rattle.dbl_source_model.specs.ModelHistory.Ranges.{IsRawCommitInRange}
use Rattle.dbl_source_model.specs.ModelHistory.Typed.{typed, typed_commit}
use Rattle.dbl_source_model.specs.ModelHistory.Fit.{AltersNone, AreFit, AreInfosOf, IsFitHistory}
use Rattle.dbl_source_model.proofs.ModelHistoryRowLemmas.{all_changes-append}
use Rattle.dbl_source_log.specs.declared.logged.LogTable.{LogTable}
use Rattle.dbl_source_log.specs.declared.logged.Logged.{Logged}
use Rattle.dbl_source_log.specs.declared.logged.Logged.TheVariants.{Mark}
use Rattle.dbl_source_log.specs.Relations.{catalogue}
use Rattle.dbl_source_log.specs.TextRows.{no_text_rows}
use Rattle.dbl_source_log.specs.Histories.{raw_commit_at, text_rows_through, history_of}
use Rattle.dbl_source_log.specs.Alterations.{tables_after, tables_through}
use Rattle.dbl_source_log.specs.Fair.{AreFairEntries, IsFairLog}
use Rattle.dbl_source_log.proofs.AlterationLemmas.{unaltered_both}
use Rattle.dbl_source_log.proofs.LogLemmas.{is_rising, history_grown}
use Rattle.dbl_source_log.proofs.FitLogLemmas.{commit_in_range}

all_since : {A : Type 0} (P : A → Type 0) (xs : List A) (x : A) → AllByRecursion P xs → P x → AllByRecursion P (xs ++ x ∷ [])
all_since P [] x all one = (one, tt)
all_since P (y ∷ ys) x all one = (all.0, all_since P ys x all.1 one)

fair_since : (tables : List LogTable) (log : List Logged) (value : List ℕ) → AreFairEntries tables log → AreFairEntries tables (log ++ Mark value ∷ [])
fair_since tables [] value fair = (tt, tt)
fair_since tables (entry ∷ log) value fair = (fair.0, fair_since (tables_after entry tables) log value fair.1)

module _ (tables : List LogTable) (log : List Logged) (value : List ℕ) where
  abbrev mark : RawCommit
  mark = raw_commit_at (tables_through log tables) (text_rows_through tables no_text_rows log) (1 + length log) (Mark value)

  abbrev commits : List RawCommit
  commits = (history_of tables log).commits

  abbrev marked : History
  marked = record { tables = catalogue tables; commits = commits ++ mark ∷ [] }

  abbrev marked_log : List Logged
  marked_log = log ++ Mark value ∷ []

  marked_is : history_of tables marked_log ≡ marked
  marked_is = ap (λ (cs : List RawCommit). let h : History = record { tables = catalogue tables; commits = cs } in h) (history_grown tables log (Mark value ∷ []))

  -- what is captured of one is captured of the other: the catalogue alone counts
  captured_before : (infos : List TableInfo) → AreInfosOf marked infos → AreInfosOf (history_of tables log) infos
  captured_before infos captured = record { distinct = captured.distinct; each = captured.each }

  -- a watermark changes no row
  same_changes : (infos : List TableInfo) → all_changes (typed infos marked) ≡ all_changes (typed infos (history_of tables log))
  same_changes infos =
      ap all_changes (map-append (typed_commit infos) commits (mark ∷ []))
      ∙ all_changes-append (map (typed_commit infos) commits) (typed_commit infos mark ∷ [])
      ∙ append-nil (all_changes (typed infos (history_of tables log)))

  pub fit_marked : IsUtf8 value → length log + 1 < 2 ^ 40 → IsFitHistory (history_of tables log) → IsFitHistory (history_of tables marked_log)
  fit_marked plain few fit =
      let small : 1 + length log < 2 ^ 41 = omega (arith, few) in
      subst IsFitHistory (sym marked_is) (record {
        ranges = record {
          tables = fit.ranges.tables;
          commits = all_since IsRawCommitInRange commits mark fit.ranges.commits (commit_in_range (tables_through log tables) (text_rows_through tables no_text_rows log) (1 + length log) (Mark value) small plain);
        };
        rising = subst IsRising marked_is (is_rising tables marked_log);
        distinct = fit.distinct;
        opening = fit.opening;
        unaltered = all_since (λ (commit : RawCommit). AltersNone commit.body) commits mark fit.unaltered tt;
        known = all_since (λ (commit : RawCommit). AllByRecursion (λ (change : RawChange). IsSome (entry_of (history_of tables log) (name_of change))) (raw_changes_of commit.body)) commits mark fit.known tt;
        fit = λ infos captured. subst (AreFit infos no_rows) (sym (same_changes infos)) (fit.fit infos (captured_before infos captured));
      })

  pub fair_marked : IsFairLog tables log → IsFairLog tables marked_log
  fair_marked fair = record {
    named = fair.named;
    relations = fair.relations;
    entries = fair_since tables log value fair.entries;
    unaltered = unaltered_both log (Mark value ∷ []) fair.unaltered (tt, tt);
  }
