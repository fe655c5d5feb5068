-- A resume reads no more messages than were to be sent when it began, and the workload gives after them.
use Rattle.std.proofs.Common.{◌≡◌, ◌∙◌, ◌⊎◌, inl, inr, ℕ, ℤ, ◌+◌, ◌*◌, ◌/◌, ◌≤◌, Option, Some, None, Ok, Err, List, ◌++◌, length, drop, sym, ap, subst, arith}
use Rattle.dbl_lines.specs.declared.status.Status.{Status}
use Rattle.std.specs.Prelude.{IfOk, IfSome}
use Rattle.std.proofs.lemmas.List.{length-append, length-map}
use Rattle.dbl_base.specs.declared.lsn.Lsn.{Lsn}
use Rattle.dbl_pgmsg.specs.declared.messages.Message.{Message}
use Rattle.dbl_model_table.specs.declared.row.Key.{Key}
use Rattle.dbl_model_table.specs.declared.table.TableInfo.{TableInfo}
use Rattle.dbl_model_table.specs.declared.table.TableName.{TableName}
use Rattle.dbl_model_history.specs.Fit.{AreInfosOf, IsFitHistory}
use Rattle.dbl_model_history.specs.History.{History, RawCommit}
use Rattle.dbl_record.specs.declared.record.Record.{Record}
use Rattle.dbl_source_log.specs.Histories.{commits_from}
use Rattle.dbl_source_log.specs.Numbers.{commits_upto}
use Rattle.dbl_source_log.specs.TextRows.{no_text_rows}
use Rattle.dbl_source_model.specs.Growth.{marks_in}
use Rattle.dbl_offset_content.specs.declared.offset.Offset.{Offset}
use Rattle.dbl_offset.proofs.StoreLaws.{one_store}
use Rattle.dblog_run.specs.CaptureModel.Outcomes.{CoverRows}
use Rattle.dbl_demo_wal.specs.Sound.{session_commits, logged_in}
use Rattle.dbl_demo_wal.specs.Standings.{history_in, messages_sent, tables_of}
use Rattle.dbl_demo_wal.specs.Wals.{IsWal, Wal}
use Rattle.dbl_tables_rows.specs.Sending.{log_table, log_tables}
use Rattle.dbl_demo_wal.specs.Workloads.{Workload, log_at, steps_of}
use Rattle.dbl_demo_wal.proofs.FitLaws.{wal_is_fair}
use Rattle.dbl_demo_wal.proofs.WalLaws.{one_wal}
use Rattle.dbl_faithful.specs.Faithful.{IsFaithful}
use Rattle.dbl_faithful.specs.Onward.{ExtendsList}
use Rattle.dbl_faithful.proofs.Faithful.{described_infos}
use Rattle.dblog_run.specs.CaptureLaws.Sessions.{Captures}
use Rattle.dblog_run.specs.Promise.Restarts.{stores_of}
use Rattle.dblog_run.specs.Promise.Bounds.{GrowsByFewMarks}
use Rattle.dblog_run.specs.Promise.Contents.{Contents, HasOwnTables, ReadAs, found_in, history_at}
use Rattle.dblog_run.specs.Promise.Goes.{Advances, AdvancesFrom}
use Rattle.dblog_run.specs.Promise.Headline.{GuaranteesAfterCrash}
use Rattle.dblog_run.specs.Promise.Kept.{AreKept, IsKept}
use Rattle.dblog_run.specs.Promise.Reports.{read_after}
use Rattle.dblog_run.specs.Promise.Tables.{whole_history}
use Rattle.dblog_run.proofs.PromiseKeptLaws.{disks_are_read_once}
use Rattle.dblog_run.specs.Connect.declared.asked.Asked.TheVariants.{Again}
use Rattle.dbl_cli_commands.specs.declared.commands.Command.TheVariants.{Resume}
use Rattle.dbl_cli_commands.specs.declared.commands.ResumeOptions.{ResumeOptions}
use Rattle.dblog_run.specs.Connect.Asked.{asks_of, config_again, workload_tables}
use Rattle.dblog_run.specs.Sessions.{IsCompleteRun, asks_by}
use Rattle.dblog_run.specs.Connect.ConnectEnds.declared.summary.Summary.{Summary}
use Rattle.dblog_run.specs.Connect.Ends.{AddsFew, ConnectEnd, HasBegun, HasRun, IsReported}
use Rattle.dblog_run.specs.Capture.Runs.{AnswersCapture, AnswersKept}
use Rattle.dblog_laws.specs.Budgets.{AreAtRest, GenerousBudgetsSufficeAgain, commit_sizes, most_messages}
use Rattle.dblog_laws.specs.Sessions.{MayLeaveContents}
use Rattle.dblog_laws.proofs.BudgetStatuses.{not_spent, spent_end, workload_stays}
use Rattle.dblog_laws.proofs.BudgetLaws.{counted_all, whole_of}
use Rattle.dblog_laws.proofs.Growing.{GrewFrom, entries_grew, entries_many, grew, rest_after, rest_of, sent_has, sizes_grew}
use Rattle.dblog_laws.proofs.SentSizes.{sent_messages_are_few}
use Rattle.dblog_laws.proofs.WalSizes.{fronts_less, marks_counted, wal_begins}
use Rattle.dblog_laws.proofs.WholeRows.{whole_covers}

-- ---- what was kept

own_so : (history : History) (confirmed : Lsn) (records : List Record) (offset : Option Offset) → IsFitHistory history → IsFaithful history confirmed records offset → IfSome offset (λ o. AreInfosOf history o.infos)
own_so history confirmed records None fit faithful = tt
own_so history confirmed records (Some offset) fit faithful = described_infos history confirmed records offset fit faithful.lags.offset_is

-- ---- what is sent of a wal that grew

-- after a place it is no more than what was sent before, the whole serial run after the rows, and the watermarks that were added
grown_size : (old_bytes new_bytes : List ℕ) (old new : Wal) (after : Lsn) (windows : ℕ) (more : List RawCommit) → IsWal old_bytes old → IsWal new_bytes new → new.workload ≡ old.workload
    → (history_in new).commits ≡ (history_in old).commits ++ more → length (marks_in (history_in new).commits) ≤ length (marks_in (history_in old).commits) + 2 * windows
    → length (messages_sent new after) ≤ length (messages_sent old after) + most_messages 1 old.workload windows
grown_size old_bytes new_bytes old new after windows more old_is new_is same extends marks =
    let w = old.workload in
    let k = commits_upto after in
    let first = length (log_at w 0) in
    let old_log = logged_in old.entries in
    let new_log = logged_in new.entries in
    let total = log_at w (length (steps_of w)) in
    let extended = grew_as in
    let old_whole = wal_begins old_bytes old old_is in
    let new_whole = wal_begins new_bytes new new_is in
    let new_here : total ≡ session_commits new.entries ++ new_whole.0 = ap (λ (x : Workload). log_at x (length (steps_of x))) (sym same) ∙ new_whole.1 in
    let rest = rest_of (session_commits old.entries) (session_commits new.entries) total old_whole.0 new_whole.0 (entries_many old.entries new.entries extended) old_whole.1 new_here in
    let grown = sizes_grew k old_log new_log rest.0 extended (entries_grew old.entries new.entries rest.0 rest.1) in
    let subsequent : commit_sizes rest.0 ≤ commit_sizes (drop first (session_commits old.entries ++ rest.0)) = rest_after first (session_commits old.entries) rest.0 old_is.are.sound.begun in
    let front : commit_sizes (drop first (session_commits new.entries)) ≤ commit_sizes (drop first (session_commits new.entries ++ new_whole.0)) = fronts_less first (session_commits new.entries) new_whole.0 in
    let parts : commit_sizes (drop first (session_commits old.entries ++ rest.0)) ≡ commit_sizes (drop first (session_commits new.entries)) = ap (λ (l : List (List Message)). commit_sizes (drop first l)) (sym rest.1) in
    let all : commit_sizes (drop first total) ≡ commit_sizes (drop first (session_commits new.entries ++ new_whole.0)) = ap (λ (l : List (List Message)). commit_sizes (drop first l)) new_here in
    let few = sent_messages_are_few (tables_of new) after new_log (wal_is_fair new_bytes new new_is) in
    let had = sent_has (tables_of old) after old_log in
    let old_marks = marks_counted (tables_of old) no_text_rows 1 old_log in
    let new_marks = marks_counted (tables_of new) no_text_rows 1 new_log in
    let tables : length (tables_of new) ≡ length w.tables = length-map new.workload.tables log_table ∙ ap (λ (x : Workload). length x.tables) same in
    omega (arith, grown, subsequent, front, parts, all, few, had, old_marks, new_marks, tables, marks)
  where
    grew_as : GrewFrom (logged_in old.entries) (logged_in new.entries)
    grew_as =
        let as_old : commits_from (tables_of old) no_text_rows 1 (logged_in new.entries) ≡ commits_from (tables_of old) no_text_rows 1 (logged_in old.entries) ++ more =
        ap (λ (x : Workload). commits_from (log_tables x.tables) no_text_rows 1 (logged_in new.entries)) (sym same) ∙ extends in
        grew (tables_of old) (tables_of old) no_text_rows no_text_rows 1 (logged_in old.entries) (logged_in new.entries) more as_old

-- ---- the session's end

goes_again : (options : ResumeOptions) (all : List TableName) (offset : Offset) (old new : Contents) → old.offset ≡ Some offset
    → Advances (asks_of (Again options) all old.offset) old new → AdvancesFrom (config_again offset options) old new
goes_again options all offset old new stored goes = subst (λ (o : Option Offset). Advances (asks_of (Again options) all o) old new) stored goes

module _ (options : ResumeOptions) (now : ℤ) (told_wal told_topics told_offsets : Option (List ℕ))
    (wals logs stores new_wals new_logs new_stores : List ℕ → Type 0) (status : Status)
    (kept : AreKept told_wal told_topics told_offsets wals logs stores)
    (headline : (w t f : List ℕ) → new_wals w → new_logs t → new_stores f → GuaranteesAfterCrash (IsCompleteRun (Resume options) status) (asks_by (Resume options)) wals logs stores w t f)
    (w t f : List ℕ) (held : Contents) (read : ReadAs w t f held) (rest : AreAtRest wals logs stores held w t f)
    (left : Contents) (may : MayLeaveContents new_wals new_logs new_stores left) (offset : Offset) (stored : held.offset ≡ Some offset) (pairs : List (ℕ × Key)) (cover : CoverRows offset.infos (whole_history held.wal) pairs) where
  abbrev windows : ℕ
  windows = length offset.infos + length pairs / options.chunk

  held_kept : IsKept held
  held_kept =
      let there = kept.each w t f rest.wal rest.topics rest.offsets in
      subst IsKept (disks_are_read_once w t f there.0 held there.1 read) there.2

  own_tables : HasOwnTables held
  own_tables = own_so (stores_of (found_in held)).history (stores_of (found_in held)).confirmed (stores_of (found_in held)).records held.offset held_kept.fit held_kept.faithful

  -- the history goes on from what the disks told
  extends : ExtendsList (history_at held).commits (history_at left).commits
  extends =
      let promised = headline may.w may.t may.f may.wal may.topics may.offsets in
      let predecessor = promised.left.predecessor in
      let there : promised.left.held ≡ left = disks_are_read_once may.w may.t may.f promised.left.held left promised.left.read may.read in
      let wal : predecessor.old.wal ≡ held.wal = one_wal predecessor.wal predecessor.old.wal held.wal predecessor.read.source (rest.wal_only predecessor.wal predecessor.may_wal) in
      let at : predecessor.old.offset ≡ held.offset = one_store predecessor.offsets predecessor.old.offset held.offset predecessor.read.store (rest.offsets_only predecessor.offsets predecessor.may_offsets) in
      let goes = goes_again options (workload_tables predecessor.old.wal) offset predecessor.old promised.left.held (at ∙ stored) predecessor.advances in
      let to_left : AdvancesFrom (config_again offset options) predecessor.old left = subst
      (AdvancesFrom (config_again offset options) predecessor.old) there goes in
      subst (λ (x : Wal). ExtendsList (history_in x).commits (history_at left).commits) wal to_left.onward.commits

  begun : HasBegun (Again options) w t f
  begun = record {
    held = held;
    read = read;
    config = config_again offset options;
    asks = ap (λ (o : Option Offset). asks_of (Again options) (workload_tables held.wal) o) stored;
  }

  covers : left.wal.workload ≡ held.wal.workload → CoverRows offset.infos (history_at left) pairs
  covers same =
      let whole : CoverRows offset.infos (whole_history left.wal) pairs = subst (λ (x : Workload). CoverRows offset.infos (whole_of x) pairs) (sym same) cover in
      whole_covers may.w left.wal offset.infos pairs may.read.source whole

  few_marks : left.wal.workload ≡ held.wal.workload → AddsFew (Again options) wals new_wals w t f
      → length (marks_in (history_at left).commits) ≤ length (marks_in (history_at held).commits) + 2 * windows
  unfolding begun
  few_marks same adds = by (adds begun own_tables may.w left may.wal may.read.source)
    where
      by : wals may.w ⊎ GrowsByFewMarks (config_again offset options) held left
          → length (marks_in (history_at left).commits) ≤ length (marks_in (history_at held).commits) + 2 * windows
      by (inl before) =
          let wal : left.wal ≡ held.wal = one_wal may.w left.wal held.wal may.read.source (rest.wal_only may.w before) in
          omega (arith, ap (λ (x : Wal). length (marks_in (history_in x).commits)) wal)
      by (inr (inl none)) = omega (arith, ap length none)
      by (inr (inr (infos, captures, few))) =
          let own : infos ≡ offset.infos = subst (λ (o : Option Offset). Captures (config_again offset options) (history_at held) o infos) stored captures in
          let here : CoverRows infos (history_at left) pairs = subst (λ (is : List TableInfo). CoverRows is (history_at left) pairs) (sym own) (covers same) in
          let many : few.windows ≤ length infos + length pairs / options.chunk = few.few pairs here in
          omega (arith, few.marks, many, ap length own)

  few_read : (summary : Summary) → HasRun (Again options) now new_wals new_logs new_stores w t f summary
      → IsReported (Again options) now new_wals new_logs new_stores w t f summary
      → AddsFew (Again options) wals new_wals w t f
      → summary.report.messages ≤ length (messages_sent held.wal offset.lsn) + most_messages 1 held.wal.workload windows
  few_read summary run reported adds =
      let same = workload_stays (Again options) now new_wals new_logs new_stores w t f left held may read summary run in
      let ended = reported.ended in
      let report = reported.report in
      let began : ended.begun.held ≡ held = disks_are_read_once w t f ended.begun.held held ended.begun.read read in
      let is_left : ended.left ≡ left = disks_are_read_once may.w may.t may.f ended.left left (ended.each may.w may.t may.f may.wal may.topics may.offsets) may.read in
      let after = read_after ended.begun.held.offset report.offset in
      let start : after ≡ offset.lsn = ap (λ (o : Option Offset). read_after o report.offset) (ap (λ (c : Contents). c.offset) began ∙ stored) in
      let counted : summary.report.messages ≡ length report.sent_messages = counted_all summary.ending ended.begun.config.messages report.sent_messages summary.report.messages report.messages in
      let front = ap length report.are_sent.front in
      let moved : length (messages_sent ended.left.wal after) ≡ length (messages_sent left.wal offset.lsn) =
      ap (λ (c : Contents). length (messages_sent c.wal after)) is_left ∙ ap (λ (l : Lsn). length (messages_sent left.wal l)) start in
      let few = grown_size w may.w held.wal left.wal offset.lsn windows extends.more read.source may.read.source same extends.is (few_marks same adds) in
      omega (arith, counted, front, length-append report.sent_messages report.are_sent.rest, moved, few)

  reads_few : (end : ConnectEnd) → AnswersCapture (Again options) now wals logs new_wals new_logs new_stores w t f end
      → AnswersKept (Again options) now new_wals new_logs new_stores w t f end
      → IfOk end (λ summary. summary.report.messages ≤ length (messages_sent held.wal offset.lsn) + most_messages 1 held.wal.workload windows)
  reads_few (Ok summary) answers answers_kept = few_read summary answers.told answers_kept.report answers.marks
  reads_few (Err e) answers answers_kept = tt

pub generous_budgets_suffice_again : (wals logs stores new_wals new_logs new_stores : List ℕ → Type 0) → GenerousBudgetsSufficeAgain 1 wals logs stores new_wals new_logs new_stores
generous_budgets_suffice_again wals logs stores new_wals new_logs new_stores options now told_wal told_topics told_offsets status before after runs kept headline w t f wal_is topics_is offsets_is held read rest left may offset stored pairs cover =
    let answers = runs.answers w t f wal_is topics_is offsets_is in
    let answers_kept = runs.kept kept w t f wal_is topics_is offsets_is in
    let few = reads_few options now told_wal told_topics told_offsets wals logs stores new_wals new_logs new_stores status kept headline w t f held read rest left may offset stored pairs cover runs.end answers answers_kept in
    record {
      few = few;
      unspent = λ less three. not_spent options.messages
          (length (messages_sent held.wal offset.lsn) + most_messages 1 held.wal.workload (length offset.infos + length pairs / options.chunk)) runs.end
          (spent_end runs.end status before after runs.says three) few runs.spent less;
    }
