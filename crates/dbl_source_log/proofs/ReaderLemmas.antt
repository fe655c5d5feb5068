-- What is read of a fair log is right, and a reader at its end has read all.
use Rattle.std.proofs.Common.{◌≡◌, ◌∙◌, ◌+◌, ◌≤◌, inl, ℕ, zero, suc, Bool, true, false, Option, Some, None, List, [], ◌∷◌, ◌++◌, length, map, take, drop, refl, sym, ap, subst, arith, append_assoc, length-append, length-drop}
use Rattle.std.specs.Prelude.{if◌then◌else◌, option_map, filter_map}
use Rattle.std.proofs.Math.Nat.{lt-div-mul-add}
use Rattle.std.specs.List.{AllByRecursion}
use Rattle.std.proofs.lemmas.List.{append-nil, take_all}
use Rattle.dbl_base.specs.declared.lsn.Lsn.{Lsn}
use Rattle.dbl_pgmsg.specs.declared.messages.Message.{Message}
use Rattle.dbl_pgmsg.specs.declared.messages.Message.TheVariants as says
use Rattle.dbl_model_table.specs.declared.table.TableInfo.{TableInfo}
use Rattle.dbl_model_table.specs.declared.change.Commit.{Commit}
use Rattle.dbl_source_model.specs.ModelHistory.Typed.{typed_change, typed_commit}
use Rattle.dbl_source_model.specs.ModelHistory.Fit.{AreInfosOf}
use Rattle.dbl_source_model.specs.ModelCommit.Past.{Head, begin_of, open_mark}
use Rattle.dbl_source_model.specs.ModelCommit.Stated.{list_of, open_changes, commit_of, ended_commit, commits_of}
use Rattle.dbl_source_model.specs.Stated.{commits_after, to_state, ReadsRight, IsReadPlainly, IsReadRight}
use Rattle.dbl_source_model.proofs.ShapedLemmas.{read_in_force}
use Rattle.dbl_source_log.specs.declared.logged.LogTable.{LogTable}
use Rattle.dbl_source_log.specs.declared.logged.Logged.{Logged}
use Rattle.dbl_source_log.specs.declared.logged.Logged.TheVariants.{Changes, Mark, Alter}
use Rattle.dbl_source_log.specs.declared.reader_position.ReaderPosition.{ReaderPosition}
use Rattle.dbl_source_log.specs.Numbers.{lsn_of, end_lsn_of, commits_upto}
use Rattle.dbl_source_log.specs.Relations.{relation_at, mark_message}
use Rattle.dbl_source_log.specs.Alterations.{HasNoAlteration, IsUnaltered, tables_after, tables_through}
use Rattle.dbl_source_log.specs.Sent.{is_described, described_in, oids_of, messages_in, onto_relation, onto_relations, told_changes, begin_message, commit_message, told_commit, told_from, tables_at, told_at}
use Rattle.dbl_source_log.specs.TextRows.{TextRows, no_text_rows}
use Rattle.dbl_source_log.specs.RawChanges.{changes_from}
use Rattle.dbl_source_log.specs.Histories.{raw_commit_at, text_rows_at, commits_from, text_rows_through, history_of}
use Rattle.dbl_source_log.specs.Fair.{AreNamed, IsChange, IsChangeOf, HasFewFaults, IsFairEntry, AreFairEntries, IsFairLog}
use Rattle.dbl_source_log.specs.Laws.{FairLogsAreReadRight, ReadersAtTheEndHaveReadAll}
use Rattle.dbl_source_log.proofs.AlterationLemmas.{after_unaltered, take_unaltered, unaltered_drop}
use Rattle.dbl_source_log.proofs.SentLemmas.{none_left, at_front}
use Rattle.dbl_source_log.proofs.OwnColumns.{told_own}
use Rattle.dbl_source_log.proofs.LogLemmas.{keeps_columns, length-commits_from}
use Rattle.dbl_source_log.proofs.RelationLemmas.{no_number, described_at}
use Rattle.dbl_source_log.proofs.ChangeLemmas.{change_facts}
use Rattle.dbl_source_log.proofs.InsideLemmas.{right_front, commits_after-from, begun_of, Between, begin_step, commit_step, changes_step, mark_step}

-- ---- whole logs

entry_step : (tables : List LogTable) (infos : List TableInfo) (after : Lsn) (n : ℕ) (rows : TextRows) (done later : List Commit) (entry : Logged) (past : List Message) → AreNamed tables
    → IsFairEntry tables entry → HasNoAlteration entry → AreInfosOf (history_of tables []) infos
    → Between tables infos after n done (typed_commit infos (raw_commit_at tables rows n entry) ∷ later) past
    → Between tables infos after (n + 1) (done ++ typed_commit infos (raw_commit_at tables rows n entry) ∷ []) later (told_commit tables n entry past)
entry_step tables infos after n rows done later (Changes ms) past named_so fair none captured b =
    let commit : Commit = typed_commit infos (raw_commit_at tables rows n (Changes ms)) in
    let begun = begin_step tables infos after n done commit later past refl refl refl b in
    let all = changes_step tables infos after n done commit later ms (begin_message n ∷ past) rows [] named_so captured fair begun in
    commit_step tables infos after n done commit later (told_changes tables ms (begin_message n ∷ past)) (filter_map (typed_change infos) (changes_from tables rows ms)) None refl refl all
entry_step tables infos after n rows done later (Mark value) past named_so fair none captured b =
    let commit : Commit = typed_commit infos (raw_commit_at tables rows n (Mark value)) in
    let begun = begin_step tables infos after n done commit later past refl refl refl b in
    commit_step tables infos after n done commit later (told_changes tables (mark_message value ∷ []) (begin_message n ∷ past)) [] (Some value) refl refl (mark_step tables infos after n done commit later value (begin_message n ∷ past) refl begun)
entry_step tables infos after n rows done later (Alter name columns list) past named_so fair none captured b = absurd none

pub log_right : (tables : List LogTable) (infos : List TableInfo) (after : Lsn) (n : ℕ) (rows : TextRows) (done : List Commit) (log : List Logged) (past : List Message) → AreNamed tables
    → AreFairEntries tables log → IsUnaltered log → AreInfosOf (history_of tables []) infos
    → Between tables infos after n done (map (typed_commit infos) (commits_from tables rows n log)) past
    → Between tables infos after (n + length log) (done ++ map (typed_commit infos) (commits_from tables rows n log)) [] (told_from tables n log past)
log_right tables infos after n rows done [] past named_so fair none captured b =
    let number : n ≡ n + length {A = Logged} [] = omega arith in
    subst (λ (k : ℕ). Between tables infos after k (done ++ []) [] past) number (subst (λ (cs : List Commit). Between tables infos after n cs [] past) (sym (append-nil done)) b)
log_right tables infos after n rows done (entry ∷ log) past named_so fair none captured b =
    let same : tables_after entry tables ≡ tables = after_unaltered entry tables none.0 in
    let now : TextRows = text_rows_at tables rows entry in
    let first : Commit = typed_commit infos (raw_commit_at tables rows n entry) in
    let rest : List Commit = map (typed_commit infos) (commits_from tables now (n + 1) log) in
    let read : List Message = told_commit tables n entry past in
    let number : (n + 1) + length log ≡ n + length (entry ∷ log) = omega arith in
    let before : Between tables infos after n done (first ∷ rest) past = subst (λ (ts : List LogTable). Between tables infos after n done (first ∷ map (typed_commit infos) (commits_from ts now (n + 1) log)) past) same b in
    let step : Between tables infos after (n + 1) (done ++ first ∷ []) rest read = entry_step tables infos after n rows done rest entry past named_so fair.0 none.0 captured before in
    let all : Between tables infos after ((n + 1) + length log) ((done ++ first ∷ []) ++ rest) [] (told_from tables (n + 1) log read) =
    log_right tables infos after (n + 1) now (done ++ first ∷ []) log read named_so (subst (λ (ts : List LogTable). AreFairEntries ts log) same fair.1) none.1 captured step in
    let whole : Between tables infos after (n + length (entry ∷ log)) (done ++ first ∷ rest) [] (told_from tables (n + 1) log read) =
    subst (λ (k : ℕ). Between tables infos after k (done ++ first ∷ rest) [] (told_from tables (n + 1) log read)) number
    (subst (λ (cs : List Commit). Between tables infos after ((n + 1) + length log) cs [] (told_from tables (n + 1) log read)) (append_assoc done (first ∷ []) rest) all) in
    subst (λ (ts : List LogTable). Between tables infos after (n + length (entry ∷ log)) (done ++ first ∷ map (typed_commit infos) (commits_from ts now (n + 1) log)) [] (told_from ts (n + 1) log read)) (sym same) whole

-- what is captured of a history is captured of its catalogue
captured_of : (tables : List LogTable) (log : List Logged) (infos : List TableInfo) → AreInfosOf (history_of tables log) infos → AreInfosOf (history_of tables []) infos
captured_of tables log infos captured = record { distinct = captured.distinct; each = captured.each }

pub fair_drop : (n : ℕ) (log : List Logged) (tables : List LogTable) → AreFairEntries tables log → AreFairEntries (tables_through (take n log) tables) (drop n log)
fair_drop zero log tables fair = fair
fair_drop (suc n) [] tables fair = tt
fair_drop (suc n) (entry ∷ log) tables fair = fair_drop n log (tables_after entry tables) fair.1

pub read_plain : (tables : List LogTable) (log : List Logged) (place : ReaderPosition) → IsFairLog tables log → IsReadPlainly (history_of tables log) (record { after = place.after; messages = told_at tables log place })
read_plain tables log place fair infos captured =
    right_front infos place.after commits (told_at tables log place) (told_from start (first + 1) subsequent []) (at_front tables log place)
    (subst (λ (ts : List LogTable). ReadsRight infos place.after commits (told_from ts (first + 1) subsequent [])) (sym start_is) whole_right)
  where
    first : ℕ
    first = commits_upto place.after

    subsequent : List Logged
    subsequent = drop first log

    start : List LogTable
    start = tables_through (take first log) tables

    start_is : start ≡ tables
    start_is = take_unaltered first log tables fair.unaltered

    rows : TextRows
    rows = text_rows_through tables no_text_rows (take first log)

    commits : List Commit
    commits = to_state infos place.after (history_of tables log)

    -- the commits after the start are those of what is left of the log
    commits_are : commits ≡ map (typed_commit infos) (commits_from tables rows (first + 1) subsequent)
    commits_are = ap (map (typed_commit infos)) (commits_after-from tables place.after first no_text_rows 1 log (omega arith) ∙ ap (λ (ts : List LogTable). commits_from ts rows (first + 1) subsequent) start_is)

    nothing_yet : Between tables infos place.after (first + 1) [] (map (typed_commit infos) (commits_from tables rows (first + 1) subsequent)) []
    nothing_yet = record { right = tt; told = λ oid. inl refl; closed = refl; below = omega (arith, lt-div-mul-add {a = place.after.0} {b = 256} (omega arith)); stated = λ accepted. refl }

    whole_right : ReadsRight infos place.after commits (told_from tables (first + 1) subsequent [])
    whole_right =
        let all = log_right tables infos place.after (first + 1) rows [] subsequent [] fair.named (subst (λ (ts : List LogTable). AreFairEntries ts subsequent) start_is (fair_drop first log tables fair.entries)) (unaltered_drop first log fair.unaltered) (captured_of tables log infos captured) nothing_yet in
        subst (λ (cs : List Commit). ReadsRight infos place.after cs (told_from tables (first + 1) subsequent [])) (append-nil (map (typed_commit infos) (commits_from tables rows (first + 1) subsequent)) ∙ sym commits_are) all.right

-- each Relation has its table's own columns
pub read_right : (tables : List LogTable) (log : List Logged) (place : ReaderPosition) → IsFairLog tables log → IsReadRight (history_of tables log) (record { after = place.after; messages = told_at tables log place })
read_right tables log place fair =
    read_in_force (history_of tables log) (record { after = place.after; messages = told_at tables log place }) (keeps_columns tables log fair.unaltered)
    (λ infos captured. told_own tables log place infos fair captured) (read_plain tables log place fair)

pub reads_right : FairLogsAreReadRight
reads_right tables log place fair = read_right tables log place fair

-- ---- a reader at the end

-- messages inside a transaction leave it open, and end no commit
pub record IsStillOpen (infos : List TableInfo) (past now : List Message) : Type 0 where
  pub begins : begin_of now ≡ begin_of past
  pub counts : length (commits_of infos now) ≡ length (commits_of infos past)

still_twice : (infos : List TableInfo) (a b c : List Message) → IsStillOpen infos a b → IsStillOpen infos b c → IsStillOpen infos a c
still_twice infos a b c f g = record { begins = g.begins ∙ f.begins; counts = g.counts ∙ f.counts }

module _ (tables : List LogTable) (infos : List TableInfo) (after : Lsn) where
  relation_still : (m : Message) (oid : ℕ) (past : List Message) → described_in m ≡ Some oid → IsStillOpen infos past (m ∷ past)
  relation_still (says.Relation o n a i c) oid past own = record { begins = refl; counts = ap length (append-nil (commits_of infos past)) }
  relation_still (says.Begin l t x) oid past own = absurd (no_number oid own)
  relation_still (says.Commit f l e t) oid past own = absurd (no_number oid own)
  relation_still (says.Origin l n) oid past own = absurd (no_number oid own)
  relation_still (says.TypeName o n m) oid past own = absurd (no_number oid own)
  relation_still (says.Insert o r) oid past own = absurd (no_number oid own)
  relation_still (says.Update o b r) oid past own = absurd (no_number oid own)
  relation_still (says.Delete o b) oid past own = absurd (no_number oid own)
  relation_still (says.Truncate p o) oid past own = absurd (no_number oid own)
  relation_still (says.Logical f l p c) oid past own = absurd (no_number oid own)

  onto_still : (oid : ℕ) (past : List Message) → IsStillOpen infos past (onto_relation tables oid past)
  onto_still oid past = by (is_described tables oid past)
    where
      by_one : (o : Option Message) → relation_at tables oid ≡ o → IsStillOpen infos past (list_of o ++ past)
      by_one None is = record { begins = refl; counts = refl }
      by_one (Some m) is = relation_still m oid past (described_at tables oid m is)

      by : (b : Bool) → IsStillOpen infos past (if b then past else list_of (relation_at tables oid) ++ past)
      by true = record { begins = refl; counts = refl }
      by false = by_one (relation_at tables oid) refl

  all_still : (oids : List ℕ) (past : List Message) → IsStillOpen infos past (onto_relations tables oids past)
  all_still [] past = record { begins = refl; counts = refl }
  all_still (oid ∷ oids) past = still_twice infos past (onto_relation tables oid past) (onto_relations tables oids (onto_relation tables oid past)) (onto_still oid past) (all_still oids (onto_relation tables oid past))

  change_still : (m : Message) (past : List Message) → IsChange m → IsStillOpen infos past (m ∷ onto_relations tables (oids_of m) past)
  change_still m past change =
      let subsequent : List Message = onto_relations tables (oids_of m) past in
      let f = change_facts tables infos after m subsequent change in
      still_twice infos past subsequent (m ∷ subsequent) (all_still (oids_of m) past) (record { begins = f.begins; counts = ap length (f.commits ∙ append-nil (commits_of infos subsequent)) })

  changes_still : (ms past : List Message) → AllByRecursion IsChange ms → IsStillOpen infos past (told_changes tables ms past)
  changes_still [] past all = record { begins = refl; counts = refl }
  changes_still (m ∷ ms) past all =
      let now : List Message = m ∷ onto_relations tables (oids_of m) past in
      still_twice infos past now (told_changes tables ms now) (change_still m past all.0) (changes_still ms now all.1)

  -- a watermark's message is a change too
  are_changes : (entry : Logged) → IsFairEntry tables entry → AllByRecursion IsChange (messages_in entry)
  are_changes (Changes ms) fair = by ms fair
    where
      by : (l : List Message) → AllByRecursion (λ message. IsChangeOf tables message × HasFewFaults tables message) l → AllByRecursion IsChange l
      by [] all = tt
      by (m ∷ l) all = (all.0.0.change, by l all.1)
  are_changes (Mark value) fair = (tt, tt)
  are_changes (Alter name columns list) fair = tt

  ends_one : (n : ℕ) (past : List Message) (begun : Head) → begin_of past ≡ Some begun → length (commits_of infos (commit_message n ∷ past)) ≡ length (commits_of infos past) + 1
  ends_one n past begun is =
      let one : Commit = commit_of (lsn_of n) (end_lsn_of n) (open_mark past) (open_changes infos past) begun in
      let ends : ended_commit infos (commit_message n) past ≡ Some one = ap (λ (o : Option Head). option_map (commit_of (lsn_of n) (end_lsn_of n) (open_mark past) (open_changes infos past)) o) is in
      ap (λ (o : Option Commit). length (commits_of infos past ++ list_of o)) ends ∙ length-append (commits_of infos past) (one ∷ [])

counts_from : (tables : List LogTable) (infos : List TableInfo) (after : Lsn) (n : ℕ) (log : List Logged) (past : List Message) → AreFairEntries tables log
    → length (commits_of infos (told_from tables n log past)) ≡ length (commits_of infos past) + length log
counts_from tables infos after n [] past fair = omega arith
counts_from tables infos after n (entry ∷ log) past fair =
    let open_one : List Message = told_changes tables (messages_in entry) (begin_message n ∷ past) in
    let still = changes_still tables infos after (messages_in entry) (begin_message n ∷ past) (are_changes tables infos after entry fair.0) in
    let begun : length (commits_of infos (begin_message n ∷ past)) ≡ length (commits_of infos past) = ap length (append-nil (commits_of infos past)) in
    omega (arith, counts_from (tables_after entry tables) infos after (n + 1) log (told_commit tables n entry past) fair.1, ends_one tables infos after n open_one (begun_of n) still.begins, still.counts, begun)

pub reads_all : ReadersAtTheEndHaveReadAll
reads_all tables log place infos fair placed ends =
    let first : ℕ = commits_upto place.after in
    let subsequent : List Logged = drop first log in
    let start : List LogTable = tables_through (take first log) tables in
    let long : length subsequent ≤ place.commits = omega (arith, length-drop first log, ends) in
    let told : told_at tables log place ≡ told_from start (first + 1) subsequent [] =
    none_left (tables_at tables log place) place log (told_from start (first + 1) (take place.commits subsequent) []) long ∙ ap (λ (l : List Logged). told_from start (first + 1) l []) (take_all place.commits subsequent long) in
    let stands : length (commits_after place.after (history_of tables log).commits) ≡ length subsequent =
    ap length (commits_after-from tables place.after first no_text_rows 1 log (omega arith)) ∙ length-commits_from start (text_rows_through tables no_text_rows (take first log)) (first + 1) subsequent in
    let counted : length (commits_of infos (told_from start (first + 1) subsequent [])) ≡ length {A = Commit} [] + length subsequent =
    counts_from start infos place.after (first + 1) subsequent [] (fair_drop first log tables fair.entries) in
    omega (arith, stands, counted, ap (λ (l : List Message). length (commits_of infos l)) told)
