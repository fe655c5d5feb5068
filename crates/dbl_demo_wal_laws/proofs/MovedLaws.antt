-- Of the messages that the log of a workload is sent as, the first error is a moved key with an unsent cell.
use Rattle.std.proofs.Common.{◌≡◌, ◌∙◌, ◌+◌, inl, ℕ, zero, suc, Option, Some, None, List, [], ◌∷◌, ◌++◌, length, map, take, drop, reverse, refl, sym, ap, subst, arith, append_assoc}
use Rattle.std.specs.Prelude.{filter_map}
use Rattle.std.specs.List.{AllByRecursion}
use Rattle.std.proofs.Math.Nat.{lt-div-mul-add}
use Rattle.std.proofs.lemmas.List.{append-nil, reverse-append, reverse-reverse}
use Rattle.std.proofs.lemmas.List.Elements.{filter_map-append}
use Rattle.dbl_base.specs.declared.lsn.Lsn.{Lsn}
use Rattle.dbl_pgmsg.specs.declared.messages.Message.{Message}
use Rattle.dbl_model_table.specs.declared.change.Change.{Change}
use Rattle.dbl_model_table.specs.declared.change.Commit.{Commit}
use Rattle.dbl_model_table.specs.declared.table.TableInfo.{TableInfo}
use Rattle.dbl_model_history.specs.Fit.{AreInfosOf}
use Rattle.dbl_model_history.specs.Typed.{typed_change, typed_commit}
use Rattle.dbl_source_log.proofs.InsideLemmas.{Between, Inside, begin_step, change_step, changes_step, commit_step, commits_after-from, mark_step, relations_step}
use Rattle.dbl_source_log.proofs.RelationLemmas.{described_onto}
use Rattle.dbl_tables_laws.specs.Laws.{MovesAtMost}
use Rattle.dbl_tables_laws.specs.SourceLog.declared.logged.LogTable.{LogTable}
use Rattle.dbl_tables_laws.specs.SourceLog.declared.logged.Logged.{Logged}
use Rattle.dbl_tables_laws.specs.SourceLog.declared.logged.Logged.TheVariants.{Changes, Mark, Alter}
use Rattle.dbl_tables_laws.specs.SourceLog.Alterations.{HasNoAlteration, IsUnaltered}
use Rattle.dbl_tables_laws.specs.SourceLog.Fair.{AreNamed, HasFewFaults, IsChangeOf, IsFairEntry, changes_given}
use Rattle.dbl_tables_laws.specs.SourceLog.Histories.{commits_from, history_of, raw_commit_at, text_rows_at, text_rows_through}
use Rattle.dbl_tables_laws.specs.SourceLog.Numbers.{commits_upto}
use Rattle.dbl_tables_laws.specs.SourceLog.RawChanges.{changes_from, raw_changes}
use Rattle.dbl_tables_laws.specs.SourceLog.Relations.{mark_message, watermark_oid}
use Rattle.dbl_tables_laws.specs.SourceLog.Sent.{begin_message, oids_of, onto_relation, onto_relations, told_changes, told_commit, told_from}
use Rattle.dbl_tables_laws.specs.SourceLog.TextRows.{TextRows, no_text_rows, text_rows_with}
use Rattle.dbl_tables_laws.specs.TablesRows.Serial.{initial_steps}
use Rattle.dbl_tables_laws.proofs.MovedLemmas.{changes_move}
use Rattle.dbl_demo_wal.specs.declared.entry.Entry.{Entry}
use Rattle.dbl_demo_wal.specs.declared.entry.Entry.TheVariants.{Commits, Marks, Confirms}
use Rattle.dbl_demo_wal.specs.Sound.{logged_in, session_commits, steps_in}
use Rattle.dbl_demo_wal.specs.Standings.{tables_of}
use Rattle.dbl_demo_wal.specs.Wals.{Wal, IsWal}
use Rattle.dbl_demo_wal.specs.Workloads.{session_steps_at, workload_rows}
use Rattle.dbl_demo_wal.proofs.FitLaws.{wal_is_fair}
use Rattle.dbl_demo_wal.proofs.KeptTables.{fair_each, sent_plain}
use Rattle.dbl_demo_wal.proofs.RangeLaws.{described_tables}
use Rattle.dbl_demo_wal.proofs.SerialLaws.{sound_serial}
use Rattle.dbl_demo_wal_laws.specs.Moved.{HaveMovedAtMost, TransactionsOfWalsMoveAtMost}
use Rattle.dbl_demo_wal_laws.proofs.MovedRelations.{begin_moved, change_moved, commit_moved, mark_moved, relations_moved}

-- ---- messages of a log, one commit after the other

-- an entry's changes have no error but a moved key with an unsent cell
abbrev MovesInEntry : List LogTable → Logged → Type 0
MovesInEntry tables entry = AllByRecursion (MovesAtMost tables) (changes_given entry)

module _ (tables : List LogTable) (infos : List TableInfo) (after : Lsn) (named : AreNamed tables) (captured : AreInfosOf (history_of tables []) infos) where
  changes_moved : (n : ℕ) (done : List Commit) (commit : Commit) (later : List Commit) (ms past : List Message) (rows : TextRows) (so_far : List Change)
      → AllByRecursion (λ message. IsChangeOf tables message × HasFewFaults tables message) ms → AllByRecursion (MovesAtMost tables) ms
      → Inside tables infos after n done commit later so_far (filter_map (typed_change infos) (changes_from tables rows ms)) None past
      → HaveMovedAtMost infos after past → HaveMovedAtMost infos after (told_changes tables ms past)
  changes_moved n done commit later [] past rows so_far fair moves i moved = moved
  changes_moved n done commit later (m ∷ ms) past rows so_far fair moves i moved =
      let first : List Change = filter_map (typed_change infos) (raw_changes tables rows m) in
      let next : TextRows = text_rows_with tables (raw_changes tables rows m) rows in
      let rest : List Change = filter_map (typed_change infos) (changes_from tables next ms) in
      let split : filter_map (typed_change infos) (changes_from tables rows (m ∷ ms)) ≡ first ++ rest =
      filter_map-append (typed_change infos) (raw_changes tables rows m) (changes_from tables next ms) in
      let i_split : Inside tables infos after n done commit later so_far (first ++ rest) None past =
      subst (λ (cs : List Change). Inside tables infos after n done commit later so_far cs None past) split i in
      let j = relations_step tables infos after n done commit later (oids_of m) past so_far (first ++ rest) None i_split in
      let one = change_step tables infos after n done commit later m past rows so_far rest named captured fair.0.0 fair.0.1 i_split in
      let here = relations_moved tables infos after named captured (oids_of m) past fair.0.0.known moved in
      changes_moved n done commit later ms (m ∷ onto_relations tables (oids_of m) past) next (so_far ++ first) fair.1 moves.1 one
      (change_moved tables infos after named captured m (onto_relations tables (oids_of m) past) _ fair.0.0 moves.0
      (described_onto tables (oids_of m) past i.told fair.0.0.known) j.begun j.marked here)

  -- a reader after a whole commit, and its messages
  pub record Moved (n : ℕ) (done later : List Commit) (past : List Message) : Type 0 where
    pub between : Between tables infos after n done later past
    pub moved : HaveMovedAtMost infos after past

  entry_on : (n : ℕ) (rows : TextRows) (done later : List Commit) (entry : Logged) (past : List Message) → HasNoAlteration entry → IsFairEntry tables entry → MovesInEntry tables entry
      → Moved n done (typed_commit infos (raw_commit_at tables rows n entry) ∷ later) past
      → Moved (n + 1) (done ++ typed_commit infos (raw_commit_at tables rows n entry) ∷ []) later (told_commit tables n entry past)
  entry_on n rows done later (Changes ms) past kept fair moves m =
      let commit : Commit = typed_commit infos (raw_commit_at tables rows n (Changes ms)) in
      let begun = begin_step tables infos after n done commit later past refl refl refl m.between in
      let first = begin_moved tables infos after named captured n past m.between.closed m.between.below m.moved in
      let all = changes_step tables infos after n done commit later ms (begin_message n ∷ past) rows [] named captured fair begun in
      record {
        between = commit_step tables infos after n done commit later (told_changes tables ms (begin_message n ∷ past)) (filter_map (typed_change infos) (changes_from tables rows ms)) None refl refl all;
        moved = commit_moved tables infos after named captured n (told_changes tables ms (begin_message n ∷ past)) all.begun
            (changes_moved n done commit later ms (begin_message n ∷ past) rows [] fair moves begun first);
      }
  entry_on n rows done later (Mark value) past kept fair moves m =
      let commit : Commit = typed_commit infos (raw_commit_at tables rows n (Mark value)) in
      let begun = begin_step tables infos after n done commit later past refl refl refl m.between in
      let first = begin_moved tables infos after named captured n past m.between.closed m.between.below m.moved in
      let j = relations_step tables infos after n done commit later (watermark_oid ∷ []) (begin_message n ∷ past) [] [] None begun in
      let marked = mark_step tables infos after n done commit later value (begin_message n ∷ past) refl begun in
      record {
        between = commit_step tables infos after n done commit later (told_changes tables (mark_message value ∷ []) (begin_message n ∷ past)) [] (Some value) refl refl marked;
        moved = commit_moved tables infos after named captured n (mark_message value ∷ onto_relation tables watermark_oid (begin_message n ∷ past)) marked.begun
            (mark_moved tables infos after named captured value (begin_message n ∷ past) _ j.told j.begun j.marked (λ accepted. (j.stated accepted).1) first);
      }
  entry_on n rows done later (Alter name columns list) past kept fair moves m = absurd kept

  -- a log that alters no table
  log_on : (n : ℕ) (rows : TextRows) (done : List Commit) (log : List Logged) (past : List Message) → IsUnaltered log → AllByRecursion (IsFairEntry tables) log → AllByRecursion (MovesInEntry tables) log
      → Moved n done (map (typed_commit infos) (commits_from tables rows n log)) past → HaveMovedAtMost infos after (told_from tables n log past)
  log_on n rows done [] past kept fair moves m = m.moved
  log_on n rows done (Changes ms ∷ log) past kept fair moves m =
      let entry : Logged = Changes ms in
      let first : Commit = typed_commit infos (raw_commit_at tables rows n entry) in
      let rest : List Commit = map (typed_commit infos) (commits_from tables (text_rows_at tables rows entry) (n + 1) log) in
      log_on (n + 1) (text_rows_at tables rows entry) (done ++ first ∷ []) log (told_commit tables n entry past) kept.1 fair.1 moves.1 (entry_on n rows done rest entry past kept.0 fair.0 moves.0 m)
  log_on n rows done (Mark value ∷ log) past kept fair moves m =
      let entry : Logged = Mark value in
      let first : Commit = typed_commit infos (raw_commit_at tables rows n entry) in
      let rest : List Commit = map (typed_commit infos) (commits_from tables rows (n + 1) log) in
      log_on (n + 1) rows (done ++ first ∷ []) log (told_commit tables n entry past) kept.1 fair.1 moves.1 (entry_on n rows done rest entry past kept.0 fair.0 moves.0 m)
  log_on n rows done (Alter name columns list ∷ log) past kept fair moves m = absurd kept.0

  nothing_yet : (rows : TextRows) (log : List Logged) → Moved (commits_upto after + 1) [] (map (typed_commit infos) (commits_from tables rows (commits_upto after + 1) log)) []
  nothing_yet rows log = record {
    between = record { right = tt; told = λ oid. inl refl; closed = refl; below = omega (arith, lt-div-mul-add {a = after.0} {b = 256} (omega arith)); stated = λ accepted. refl };
    moved = tt;
  }

  moved_before : (more past : List Message) → HaveMovedAtMost infos after (more ++ past) → HaveMovedAtMost infos after past
  moved_before [] past moved = moved
  moved_before (m ∷ more) past moved = moved_before more past moved.1

  all_after : (P : Logged → Type 0) (n : ℕ) (log : List Logged) → AllByRecursion P log → AllByRecursion P (drop n log)
  all_after P zero log all = all
  all_after P (suc n) [] all = tt
  all_after P (suc n) (entry ∷ log) all = all_after P n log all.1

  pub front_moved : (log : List Logged) (messages rest : List Message) → IsUnaltered log → AllByRecursion (IsFairEntry tables) log → AllByRecursion (MovesInEntry tables) log
      → reverse (told_from tables (commits_upto after + 1) (drop (commits_upto after) log) []) ≡ reverse messages ++ rest → HaveMovedAtMost infos after messages
  front_moved log messages rest kept fair moves front =
      let first : ℕ = commits_upto after in
      let whole : List Message = told_from tables (first + 1) (drop first log) [] in
      let split : whole ≡ reverse rest ++ messages =
      sym (reverse-reverse whole) ∙ ap reverse front ∙ reverse-append (reverse messages) rest ∙ ap (λ (l : List Message). reverse rest ++ l) (reverse-reverse messages) in
      moved_before (reverse rest) messages
      (subst (HaveMovedAtMost infos after) split
      (log_on (first + 1) (text_rows_through tables no_text_rows (take first log)) [] (drop first log) [] (all_after HasNoAlteration first log kept)
      (all_after (IsFairEntry tables) first log fair) (all_after (MovesInEntry tables) first log moves)
      (nothing_yet (text_rows_through tables no_text_rows (take first log)) (drop first log))))

-- ---- logs of workloads

entries_move : (tables : List LogTable) (entries : List Entry) → AllByRecursion (AllByRecursion (MovesAtMost tables)) (session_commits entries) → AllByRecursion (MovesInEntry tables) (logged_in entries)
entries_move tables [] are = tt
entries_move tables (Commits steps messages ∷ entries) are = (are.0, entries_move tables entries are.1)
entries_move tables (Marks steps value ∷ entries) are = (tt, entries_move tables entries are)
entries_move tables (Confirms upto ∷ entries) are = entries_move tables entries are

module _ (bytes : List ℕ) (wal : Wal) (is : IsWal bytes wal) where
  commits_move : AllByRecursion (AllByRecursion (MovesAtMost (tables_of wal))) (session_commits wal.entries)
  commits_move =
      subst (AllByRecursion (AllByRecursion (MovesAtMost (tables_of wal)))) (sym (sound_serial wal.workload wal.entries is.are.sound.each is.are.sound.begun))
      (changes_move wal.workload.tables (initial_steps (workload_rows wal.workload) ++ session_steps_at wal.workload (steps_in wal.entries)) (described_tables wal.script wal.workload is.are.workload).can).commits

pub transactions_move : TransactionsOfWalsMoveAtMost
transactions_move bytes wal infos after messages rest is captured front =
    let fair = wal_is_fair bytes wal is in
    front_moved (tables_of wal) infos after fair.named (record { distinct = captured.distinct; each = captured.each }) (logged_in wal.entries) messages rest fair.unaltered
    (fair_each (tables_of wal) (logged_in wal.entries) fair.unaltered fair.entries) (entries_move (tables_of wal) wal.entries (commits_move bytes wal is))
    (sym (sent_plain (tables_of wal) after (logged_in wal.entries) fair.unaltered) ∙ front)
