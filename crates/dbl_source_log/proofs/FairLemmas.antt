-- The first commits of a fair log are a fair log, and of a fit history a fit one.
use Rattle.std.proofs.Common.{◌≡◌, ◌+◌, ◌≤◌, ℕ, List, [], ◌∷◌, ◌++◌, length, sym, ap, subst, arith}
use Rattle.std.specs.Prelude.{Option}
use Rattle.std.specs.List.{AllByRecursion}
use Rattle.dbl_pgmsg.specs.declared.messages.Message.{Message}
use Rattle.dbl_model_table.specs.declared.row.Key.{Key}
use Rattle.dbl_model_table.specs.declared.table.TableName.{TableName}
use Rattle.dbl_source_model.specs.ModelHistory.History.{RawCommit, History}
use Rattle.dbl_source_model.specs.ModelHistory.Fit.{IsFitHistory}
use Rattle.dbl_source_model.specs.declared.selected.Selected.{Selected}
use Rattle.dbl_source_model.specs.Selected.{AreAnswered}
use Rattle.dbl_source_model.proofs.FitLemmas.{fit_front, answered_front, answered_later}
use Rattle.dbl_source_log.specs.declared.logged.LogTable.{LogTable}
use Rattle.dbl_source_log.specs.declared.logged.Logged.{Logged}
use Rattle.dbl_source_log.specs.Relations.{catalogue}
use Rattle.dbl_source_log.specs.TextRows.{no_text_rows}
use Rattle.dbl_source_log.specs.Histories.{commits_from, text_rows_through, history_of}
use Rattle.dbl_source_log.specs.declared.logged.Logged.TheVariants.{Changes, Mark, Alter}
use Rattle.dbl_source_log.specs.Alterations.{IsUnaltered, tables_after, tables_through}
use Rattle.dbl_source_log.specs.Fair.{IsChangeOf, HasFewFaults, changes_given, AreFairEntries, IsFairLog}
use Rattle.dbl_source_log.proofs.AlterationLemmas.{unaltered_front}
use Rattle.dbl_source_log.proofs.LogLemmas.{history_grown, length-history}

pub fair_entries_front : (tables : List LogTable) (log more : List Logged) → AreFairEntries tables (log ++ more) → AreFairEntries tables log
fair_entries_front tables [] more fair = tt
fair_entries_front tables (entry ∷ log) more fair = (fair.0, fair_entries_front (tables_after entry tables) log more fair.1)

-- without alterations the commits are fair of the log's own tables
pub fair_entries : (tables : List LogTable) (log : List Logged) → IsUnaltered log → AllByRecursion (λ (entry : Logged). AllByRecursion (λ (message : Message). IsChangeOf tables message × HasFewFaults tables message) (changes_given entry)) log
    → AreFairEntries tables log
fair_entries tables [] none fair = tt
fair_entries tables (Changes ms ∷ log) none fair = (fair.0, fair_entries tables log none.1 fair.1)
fair_entries tables (Mark value ∷ log) none fair = (tt, fair_entries tables log none.1 fair.1)
fair_entries tables (Alter name columns list ∷ log) none fair = absurd none.0

pub fair_changes : (tables : List LogTable) (log : List Logged) → IsUnaltered log → AreFairEntries tables log
    → AllByRecursion (λ (entry : Logged). AllByRecursion (λ (message : Message). IsChangeOf tables message × HasFewFaults tables message) (changes_given entry)) log
fair_changes tables [] none fair = tt
fair_changes tables (Changes ms ∷ log) none fair = (fair.0, fair_changes tables log none.1 fair.1)
fair_changes tables (Mark value ∷ log) none fair = (tt, fair_changes tables log none.1 fair.1)
fair_changes tables (Alter name columns list ∷ log) none fair = absurd none.0

module _ (tables : List LogTable) (log more : List Logged) where
  abbrev later : List RawCommit
  later = commits_from (tables_through log tables) (text_rows_through tables no_text_rows log) (1 + length log) more

  abbrev longer : History
  longer = record { tables = catalogue tables; commits = (history_of tables log).commits ++ later }

  longer_is : history_of tables (log ++ more) ≡ longer
  longer_is = ap (λ (cs : List RawCommit). let h : History = record { tables = catalogue tables; commits = cs } in h) (history_grown tables log more)

  pub fair_log_front : IsFairLog tables (log ++ more) → IsFairLog tables log
  fair_log_front fair = record {
    named = fair.named;
    relations = fair.relations;
    entries = fair_entries_front tables log more fair.entries;
    unaltered = unaltered_front log more fair.unaltered;
  }

  pub fit_log_front : IsFitHistory (history_of tables (log ++ more)) → IsFitHistory (history_of tables log)
  fit_log_front fit = fit_front (catalogue tables) (history_of tables log).commits later (subst IsFitHistory longer_is fit)

  pub answered_log_front : (from upto : ℕ) (name : TableName) (above : Option Key) (limit : ℕ) (answer : Selected) → upto ≤ length log → AreAnswered (history_of tables (log ++ more)) from upto name above limit answer
      → AreAnswered (history_of tables log) from upto name above limit answer
  answered_log_front from upto name above limit answer le a =
      answered_front (catalogue tables) (history_of tables log).commits later from upto name above limit answer (omega (arith, le, length-history tables log))
      (subst (λ (h : History). AreAnswered h from upto name above limit answer) longer_is a)

  pub answered_log_later : (from upto : ℕ) (name : TableName) (above : Option Key) (limit : ℕ) (answer : Selected) → upto ≤ length log → AreAnswered (history_of tables log) from upto name above limit answer
      → AreAnswered (history_of tables (log ++ more)) from upto name above limit answer
  answered_log_later from upto name above limit answer le a =
      subst (λ (h : History). AreAnswered h from upto name above limit answer) (sym longer_is)
      (answered_later (catalogue tables) (history_of tables log).commits later from upto name above limit answer (omega (arith, le, length-history tables log)) a)
