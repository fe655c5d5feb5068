-- The rows at each place of a log are rows at some place of the whole serial run, in which no watermark stands.
use Rattle.std.proofs.Common.{◌≡◌, ◌∙◌, ℕ, zero, suc, ◌+◌, ◌≤◌, List, [], ◌∷◌, ◌++◌, length, map, take, refl, sym, ap, arith}
use Rattle.std.proofs.lemmas.List.{length-append, length-map}
use Rattle.dbl_pgmsg.specs.declared.messages.Message.{Message}
use Rattle.dbl_model_table.specs.declared.change.Change.{Change}
use Rattle.dbl_model_table.specs.declared.change.Commit.{Commit}
use Rattle.dbl_model_table.specs.declared.row.Key.{Key}
use Rattle.dbl_model_table.specs.declared.table.TableInfo.{TableInfo}
use Rattle.dbl_model_table.specs.Rows.{all_changes, changes_of, no_rows, rows_from}
use Rattle.dbl_model_history.specs.Typed.{typed_commit}
use Rattle.dbl_source_log.specs.declared.logged.LogTable.{LogTable}
use Rattle.dbl_source_log.specs.declared.logged.Logged.{Logged}
use Rattle.dbl_source_log.specs.declared.logged.Logged.TheVariants.{Changes}
use Rattle.dbl_source_log.specs.Histories.{raw_commit_at, commits_from, text_rows_at}
use Rattle.dbl_source_log.specs.TextRows.{TextRows, no_text_rows}
use Rattle.dbl_source_log.proofs.LogLemmas.{length-commits_from}
use Rattle.dblog_run.specs.CaptureModel.Outcomes.{CoverRows}
use Rattle.dbl_demo_wal.specs.declared.entry.Entry.{Entry}
use Rattle.dbl_demo_wal.specs.declared.entry.Entry.TheVariants.{Commits, Confirms, Marks}
use Rattle.dbl_demo_wal.specs.Sound.{session_commits, logged_in}
use Rattle.dbl_demo_wal.specs.Standings.{history_in, tables_of}
use Rattle.dbl_demo_wal.specs.Wals.{IsWal, Wal}
use Rattle.dbl_demo_wal.specs.Workloads.{log_at, steps_of}
use Rattle.dblog_run.specs.Promise.Tables.{whole_history, whole_log}
use Rattle.dblog_laws.proofs.WalSizes.{wal_begins}

abbrev commits_in : List TableInfo → List LogTable → TextRows → ℕ → List Logged → List Commit
commits_in infos tables rows n log = map (typed_commit infos) (commits_from tables rows n log)

-- after so many commits the changes are those after some commits without watermarks
pub record IsSamePlace (infos : List TableInfo) (tables : List LogTable) (rows : TextRows) (m n place : ℕ) (entries : List Entry) (rest : List (List Message)) : Type 0 where
  pub place_is : ℕ
  pub within : place_is ≤ length (session_commits entries)
  pub same : all_changes (take place (commits_in infos tables rows m (logged_in entries))) ≡ all_changes (take place_is (commits_in infos tables rows n (map Changes (session_commits entries ++ rest))))

nothing_yet : (cs ds : List Commit) → all_changes (take 0 cs) ≡ all_changes (take 0 ds)
nothing_yet [] [] = refl
nothing_yet [] (d ∷ ds) = refl
nothing_yet (c ∷ cs) [] = refl
nothing_yet (c ∷ cs) (d ∷ ds) = refl

none_left : (place : ℕ) (ds : List Commit) → all_changes (take place []) ≡ all_changes (take 0 ds)
none_left zero [] = refl
none_left zero (d ∷ ds) = refl
none_left (suc place) [] = refl
none_left (suc place) (d ∷ ds) = refl

same_place : (infos : List TableInfo) (tables : List LogTable) (rows : TextRows) (m n place : ℕ) (entries : List Entry) (rest : List (List Message)) → IsSamePlace infos tables rows m n place entries rest
same_place infos tables rows m n place [] rest =
    record { place_is = 0; within = omega arith; same = none_left place (commits_in infos tables rows n (map Changes rest)) }
same_place infos tables rows m n zero (entry ∷ entries) rest =
    record { place_is = 0; within = omega arith; same = nothing_yet (commits_in infos tables rows m (logged_in (entry ∷ entries))) (commits_in infos tables rows n (map Changes (session_commits (entry ∷ entries) ++ rest))) }
same_place infos tables rows m n (suc place) (Commits steps messages ∷ entries) rest =
    let next = same_place infos tables (text_rows_at tables rows (Changes messages)) (m + 1) (n + 1) place entries rest in
    record {
      place_is = suc next.place_is;
      within = omega (arith, next.within);
      same = ap (λ (cs : List Change). changes_of (typed_commit infos (raw_commit_at tables rows m (Changes messages))) ++ cs) next.same;
    }
same_place infos tables rows m n (suc place) (Marks steps value ∷ entries) rest =
    let next = same_place infos tables rows (m + 1) n place entries rest in
    record { place_is = next.place_is; within = next.within; same = next.same }
same_place infos tables rows m n (suc place) (Confirms upto ∷ entries) rest =
    let next = same_place infos tables rows m n (suc place) entries rest in
    record { place_is = next.place_is; within = next.within; same = next.same }

pub whole_covers : (bytes : List ℕ) (wal : Wal) (infos : List TableInfo) (pairs : List (ℕ × Key)) → IsWal bytes wal → CoverRows infos (whole_history wal) pairs → CoverRows infos (history_in wal) pairs
whole_covers bytes wal infos pairs is cover place table key row within there =
    let whole = wal_begins bytes wal is in
    let at = same_place infos (tables_of wal) no_text_rows 1 1 place wal.entries whole.0 in
    let total = log_at wal.workload (length (steps_of wal.workload)) in
    let same : all_changes (take at.place_is (commits_in infos (tables_of wal) no_text_rows 1 (map Changes total))) ≡ all_changes (take place (commits_in infos (tables_of wal) no_text_rows 1 (logged_in wal.entries))) =
    ap (λ (l : List (List Message)). all_changes (take at.place_is (commits_in infos (tables_of wal) no_text_rows 1 (map Changes l)))) whole.1 ∙ sym at.same in
    let many : length total ≡ length (session_commits wal.entries ++ whole.0) = ap length whole.1 in
    let long : at.place_is ≤ length (whole_history wal).commits =
    omega (arith, at.within, many, length-append (session_commits wal.entries) whole.0, length-map total Changes, length-commits_from (tables_of wal) no_text_rows 1 (whole_log wal)) in
    cover at.place_is table key row long (ap (λ (cs : List Change). rows_from infos no_rows cs table key) same ∙ there)
