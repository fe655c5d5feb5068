-- The texts of every committed change of a workload encode values, and so do those of the rows after the first commits.
use Rattle.std.proofs.Common.{ℕ, zero, suc, List, [], ◌∷◌, ◌++◌, map, take, refl, sym, subst}
use Rattle.std.specs.Prelude.{Result, Ok, Err}
use Rattle.std.specs.List.{AllByRecursion}
use Rattle.dbl_pgmsg.specs.declared.messages.Message.{Message}
use Rattle.dbl_tables_laws.specs.SourceLog.declared.logged.LogTable.{LogTable}
use Rattle.dbl_tables_laws.specs.SourceLog.declared.logged.Logged.TheVariants.{Changes}
use Rattle.dbl_tables_laws.specs.SourceLog.Histories.{text_rows_through}
use Rattle.dbl_tables_laws.specs.SourceLog.RawChanges.{changes_from, text_rows_from}
use Rattle.dbl_tables_laws.specs.SourceLog.TextRows.{TextRows, no_text_rows}
use Rattle.dbl_tables_laws.proofs.SourceLogFitLogLemmas.{message_rows}
use Rattle.dbl_tables_laws.specs.TablesRows.declared.demo_table.DemoTable.{DemoTable}
use Rattle.dbl_tables_laws.specs.TablesRows.declared.error.StepError.{StepError}
use Rattle.dbl_tables_laws.specs.TablesRows.Acts.{Accepted, log_in, messages_by}
use Rattle.dbl_tables_laws.specs.TablesRows.Acts.Accepted.{Began, Did, Committed, RolledBack}
use Rattle.dbl_tables_laws.specs.TablesRows.Sending.{log_tables}
use Rattle.dbl_tables_laws.specs.TablesRows.Serial.{accepted_onto, acts_after}
use Rattle.dbl_tables_laws.specs.TablesRows.Steps.{Step, judged}
use Rattle.dbl_tables_laws.specs.Laws.{MovesAtMost}
use Rattle.dbl_tables_laws.specs.Reachable.{AreTables, IsReachable}
use Rattle.dbl_tables_laws.proofs.AcceptedLemmas.{stands_on}
use Rattle.dbl_tables_laws.proofs.MovedLemmas.{AreSent, IsSpelled, good_on, sent_none, spelled_none}
use Rattle.dbl_tables_laws.proofs.SpelledLemmas.{AreRowsSpelled, IsSpelledChange, rows_since_spelled}
use Rattle.dbl_tables_laws.proofs.StandingLemmas.{stands_none}
use Rattle.dbl_demo_wal.specs.declared.entry.Entry.{Entry}
use Rattle.dbl_demo_wal.specs.declared.entry.Entry.TheVariants.{Commits, Marks, Confirms}
use Rattle.dbl_demo_wal.specs.Sound.{logged_in, session_commits}

-- the texts of each commit's changes, given the rows before the first
abbrev pub AreSpelledCommits : List LogTable → TextRows → List (List Message) → Type 0
AreSpelledCommits tables rows [] = Unit {0}
AreSpelledCommits tables rows (ms ∷ log) = AllByRecursion (IsSpelledChange tables) (changes_from tables rows ms) × AreSpelledCommits tables (text_rows_from tables rows ms) log

one_more : (tables : List LogTable) (rows : TextRows) (log : List (List Message)) (ms : List Message) → AreSpelledCommits tables rows log
    → AllByRecursion (IsSpelledChange tables) (changes_from tables (text_rows_through tables rows (map Changes log)) ms) → AreSpelledCommits tables rows (log ++ ms ∷ [])
one_more tables rows [] ms are all = (all, tt)
one_more tables rows (first ∷ log) ms are all = (are.0, one_more tables (text_rows_from tables rows first) log ms are.1 all)

-- ---- all steps

module _ (tables : List DemoTable) (can : AreTables tables) where
  abbrev AreSpelledActs : List Accepted → Type 0
  AreSpelledActs past = AreSpelledCommits (log_tables tables) no_text_rows (log_in past)

  acts_on : (past : List Accepted) → IsSpelled tables past → AreSpelledActs past → (r : Result Accepted StepError) → AreSpelledActs (accepted_onto r past)
  acts_on past spelled are (Err e) = are
  acts_on past spelled are (Ok (Began s)) = are
  acts_on past spelled are (Ok (Did s m)) = are
  acts_on past spelled are (Ok (Committed s)) = one_more (log_tables tables) no_text_rows (log_in past) (messages_by s past) are (spelled.changes s)
  acts_on past spelled are (Ok (RolledBack s)) = are

  acts_spelled : (past : List Accepted) (steps : List Step) → IsReachable tables past → IsSpelled tables past → AreSent (MovesAtMost (log_tables tables)) past → AreSpelledActs past → AreSpelledActs (acts_after tables past steps)
  acts_spelled past [] standing spelled sent are = are
  acts_spelled past (c ∷ steps) standing spelled sent are =
      let next = good_on tables past can standing spelled sent c (judged tables past c) refl in
      acts_spelled (accepted_onto (judged tables past c) past) steps (stands_on tables past can standing c (judged tables past c) refl) next.0 next.1 (acts_on past spelled are (judged tables past c))

  pub commits_spelled : (steps : List Step) → AreSpelledCommits (log_tables tables) no_text_rows (log_in (acts_after tables [] steps))
  commits_spelled steps = acts_spelled [] steps (stands_none tables) (spelled_none tables) (sent_none (MovesAtMost (log_tables tables))) tt

-- ---- the rows after the first entries, among which watermarks and confirmed positions change none

pub front_spelled : (tables : List LogTable) (entries : List Entry) (rows : TextRows) (count : ℕ) → AreSpelledCommits tables rows (session_commits entries) → AreRowsSpelled tables rows
    → AreRowsSpelled tables (text_rows_through tables rows (take count (logged_in entries)))
front_spelled tables entries rows zero are spelled = spelled
front_spelled tables [] rows (suc count) are spelled = spelled
front_spelled tables (Commits steps ms ∷ entries) rows (suc count) are spelled =
    front_spelled tables entries (text_rows_from tables rows ms) count are.1
    (subst (AreRowsSpelled tables) (sym (message_rows tables ms rows)) (rows_since_spelled tables (changes_from tables rows ms) rows are.0 spelled))
front_spelled tables (Marks steps value ∷ entries) rows (suc count) are spelled = front_spelled tables entries rows count are spelled
front_spelled tables (Confirms upto ∷ entries) rows (suc count) are spelled = front_spelled tables entries rows (suc count) are spelled
