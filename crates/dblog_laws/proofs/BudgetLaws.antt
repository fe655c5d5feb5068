-- A capture over disks on which no session has run reads no more messages than the workload gives, so that a budget beyond them isn't spent.
use Rattle.std.proofs.Common.{◌≡◌, ◌∙◌, ◌⊎◌, inl, inr, ℕ, ℤ, ◌+◌, ◌*◌, ◌/◌, ◌≤◌, Option, Some, None, Ok, Err, List, [], ◌∷◌, ◌++◌, length, map, refl, sym, ap, subst, arith}
use Rattle.std.specs.Prelude.{IfOk, IfSome}
use Rattle.std.specs.List.{AllByRecursion}
use Rattle.std.proofs.Math.Nat.{lt-div-mul-add}
use Rattle.std.proofs.lemmas.List.{length-append, length-map}
use Rattle.dbl_base.specs.declared.lsn.Lsn.{Lsn}
use Rattle.dbl_pgmsg.specs.declared.messages.Message.{Message}
use Rattle.dbl_model_table.specs.declared.config.Config.{Config}
use Rattle.dbl_model_table.specs.declared.row.Key.{Key}
use Rattle.dbl_model_table.specs.declared.table.TableInfo.{TableInfo}
use Rattle.dbl_model_table.specs.declared.table.TableName.{TableName}
use Rattle.dbl_model_history.specs.Fit.{AreInfosOf}
use Rattle.dbl_model_history.specs.History.{History, RawBody, RawCommit}
use Rattle.dbl_model_history.specs.History.RawBody.{Changes, Mark, Alter}
use Rattle.dbl_cli_commands.specs.declared.commands.CaptureOptions.{CaptureOptions}
use Rattle.dbl_source_log.specs.declared.logged.LogTable.{LogTable}
use Rattle.dbl_source_log.specs.declared.logged.Logged.{Logged}
use Rattle.dbl_source_log.specs.declared.logged.Logged.TheVariants.{Changes as Logs}
use Rattle.dbl_source_log.specs.Alterations.{tables_after}
use Rattle.dbl_source_log.specs.Histories.{commits_from, history_of, text_rows_at}
use Rattle.dbl_source_log.specs.Numbers.{commits_upto}
use Rattle.dbl_source_log.specs.TextRows.{TextRows, no_text_rows}
use Rattle.dbl_source_model.specs.Growth.{mark_in_body, marks_in}
use Rattle.dbl_offset_content.specs.declared.offset.Offset.{Offset}
use Rattle.dbl_offset.proofs.StoreLaws.{one_store}
use Rattle.dblog_run.specs.CaptureModel.Outcomes.{CoverRows}
use Rattle.dbl_demo_wal.specs.Sound.{logged_in}
use Rattle.dbl_demo_wal.specs.Standings.{history_in, messages_sent, tables_of}
use Rattle.dbl_demo_wal.specs.Wals.{IsWal, Wal}
use Rattle.dbl_tables_rows.specs.Sending.{log_tables}
use Rattle.dbl_demo_wal.specs.Workloads.{IsWorkload, Workload, log_at, steps_of}
use Rattle.dbl_demo_wal.proofs.WalLaws.{one_wal, one_workload}
use Rattle.dbl_faithful.specs.Faithful.{HasNoMark, IsFaithful}
use Rattle.dbl_faithful.specs.Onward.{IsFirstOffset, OffsetGoesOn}
use Rattle.dblog_run.specs.CaptureWork.declared.report.Ending.{Ending}
use Rattle.dblog_run.specs.CaptureWork.declared.report.Ending.TheVariants.{Budget, Complete}
use Rattle.dblog_run.specs.CaptureLaws.Sessions.{Captures}
use Rattle.dblog_run.specs.Promise.Restarts.{stores_of}
use Rattle.dblog_run.specs.Promise.Bounds.{GrowsByFewMarks}
use Rattle.dblog_run.specs.Promise.Contents.{Contents, HasOwnTables, ReadAs, found_in, history_at}
use Rattle.dblog_run.specs.Promise.Goes.{Advances, AdvancesFrom}
use Rattle.dblog_run.specs.Promise.Headline.{GuaranteesAfterCrash}
use Rattle.dblog_run.specs.Promise.Kept.{AreKept, IsKept}
use Rattle.dblog_run.specs.Promise.Reports.{CountsMessages, read_after}
use Rattle.dblog_run.specs.Promise.Tables.{whole_history}
use Rattle.dblog_run.proofs.PromiseKeptLaws.{disks_are_read_once}
use Rattle.dblog_run.specs.Connect.declared.asked.Asked.TheVariants.{First}
use Rattle.dbl_cli_commands.specs.declared.commands.Command.TheVariants.{Capture}
use Rattle.dblog_run.specs.Connect.Asked.{asks_in, asks_of, config_of, workload_tables}
use Rattle.dblog_run.specs.Sessions.{IsCompleteRun}
use Rattle.dblog_run.specs.Connect.ConnectEnds.declared.summary.Summary.{Summary}
use Rattle.dblog_run.specs.Connect.Ends.{AddsFew, ConnectEnd, HasBegun, HasRun, IsReported}
use Rattle.dblog_run.specs.Capture.Runs.{AnswersCapture, AnswersKept}
use Rattle.dblog_laws.specs.Budgets.{AreUnstarted, CoverWhole, GenerousBudgetsSuffice, most_messages, most_windows}
use Rattle.dblog_laws.specs.Sessions.{MayLeaveContents}
use Rattle.dblog_laws.proofs.BudgetStatuses.{not_spent, spent_end, workload_stays}
use Rattle.dblog_laws.proofs.WalSizes.{committed_few, few_messages_are_sent}
use Rattle.dblog_laws.proofs.WholeRows.{whole_covers}

-- the whole serial run of a workload, as a history
abbrev pub whole_of : Workload → History
whole_of x = history_of (log_tables x.tables) (map Logs (log_at x (length (steps_of x))))

-- ---- nothing was captured yet

no_marks : (commits : List RawCommit) → AllByRecursion (λ commit. HasNoMark commit.body) commits → length (marks_in commits) ≡ 0
no_marks [] all = refl
no_marks (commit ∷ commits) all = by commit.body all.0 (no_marks commits all.1)
  where
    by : (body : RawBody) → HasNoMark body → length (marks_in commits) ≡ 0 → length (mark_in_body body ++ marks_in commits) ≡ 0
    by (Changes changes) none rest = rest
    by (Mark value) none rest = absurd none
    by (Alter name columns rows) none rest = rest

unmarked : (held : Contents) → IsKept held → held.offset ≡ None → length (marks_in (history_at held).commits) ≡ 0
unmarked held kept none =
    let faithful = subst (λ (o : Option Offset). IsFaithful (stores_of (found_in held)).history (stores_of (found_in held)).confirmed (stores_of (found_in held)).records o) none kept.faithful in
    no_marks (history_at held).commits faithful.unmarked

module _ (wals logs stores : List ℕ → Type 0) (w t f : List ℕ) (first : AreUnstarted wals logs stores w t f) where
  unstored : (a b image : List ℕ) (held : Contents) → stores image → ReadAs a b image held → held.offset ≡ None
  unstored a b image held may read = one_store image held.offset None read.store (first.unstored image may)

-- ---- it began to read after the rows

reached : (tables : List LogTable) (rows : TextRows) (n : ℕ) (log : List Logged) (p : ℕ) → 256 * n ≤ p → AllByRecursion (λ (commit : RawCommit). commit.lsn.0 ≤ p) (commits_from tables rows (n + 1) log) → 256 * (n + length log) ≤ p
reached tables rows n [] p base all = omega (arith, base)
reached tables rows n (entry ∷ log) p base all =
    omega (arith, reached (tables_after entry tables) (text_rows_at tables rows entry) (n + 1) log p (omega (arith, all.0)) all.1)

many_upto : (log : List Logged) (after : Lsn) → 256 * (0 + length log) ≤ after.0 → length log ≤ commits_upto after
many_upto log after le = omega (arith, le, lt-div-mul-add {a = after.0} {b = 256} (omega arith))

goes_first : (options : CaptureOptions) (all : List TableName) (old new : Contents) → old.offset ≡ None → Advances (asks_of (First options) all old.offset) old new → AdvancesFrom (config_of options all) old new
goes_first options all old new none goes = subst (λ (o : Option Offset). Advances (asks_of (First options) all o) old new) none goes

after_rows : (bytes : List ℕ) (config : Config) (old new : Contents) (offset : Offset) → IsWal bytes old.wal → old.offset ≡ None → new.offset ≡ Some offset → AdvancesFrom config old new
    → length (log_at old.wal.workload 0) ≤ commits_upto offset.start
after_rows bytes config old new offset wal none stored goes =
    let onward = goes.onward.offset in
    let from_none = subst (λ (o : Option Offset). OffsetGoesOn config (history_at old) (history_at new) o new.offset) none onward in
    let first : IsFirstOffset config (history_at old) (history_at new) offset = subst (λ (o : Option Offset). OffsetGoesOn config (history_at old) (history_at new) None o) stored from_none in
    let far = reached (tables_of old.wal) no_text_rows 0 (logged_in old.wal.entries) offset.start.0 (omega arith) first.not_before in
    omega (arith, wal.are.sound.begun, committed_few old.wal.entries, many_upto (logged_in old.wal.entries) offset.start far)

-- ---- how many messages

pub counted_all : (ending : Ending) (budget : ℕ) (ms : List Message) (messages : ℕ) → CountsMessages ending budget ms messages → messages ≡ length ms
counted_all Complete budget ms messages counts = counts.0
counted_all Budget budget ms messages counts = counts.0

-- ---- how many windows

few_windows : (options : CaptureOptions) (held left : Contents) (pairs : List (ℕ × Key)) → held.offset ≡ None → length (marks_in (history_at held).commits) ≡ 0
    → ((infos : List TableInfo) → Captures (config_of options (workload_tables held.wal)) (history_at held) None infos → CoverRows infos (history_at left) pairs)
    → GrowsByFewMarks (config_of options (workload_tables held.wal)) held left → length (marks_in (history_at left).commits) ≤ 2 * most_windows options held (length pairs)
few_windows options held left pairs none clean cover (inl same) = omega (arith, clean, ap length same)
few_windows options held left pairs none clean cover (inr (infos, captures, few)) =
    let config = config_of options (workload_tables held.wal) in
    let own : Captures config (history_at held) None infos = subst (λ (o : Option Offset). Captures config (history_at held) o infos) none captures in
    let windows : few.windows ≤ length infos + length pairs / options.chunk = few.few pairs (cover infos own) in
    let named = ap length own.0 in
    omega (arith, clean, few.marks, windows, named, length-map infos (λ (info : TableInfo). info.name))

-- ---- the session's end

module _ (options : CaptureOptions) (now : ℤ) (told_wal told_topics told_offsets : Option (List ℕ)) (wals logs stores new_wals new_logs new_stores : List ℕ → Type 0) (complete : Type 0)
    (kept : AreKept told_wal told_topics told_offsets wals logs stores)
    (headline : (w t f : List ℕ) → new_wals w → new_logs t → new_stores f → GuaranteesAfterCrash complete (asks_in (First options)) wals logs stores w t f)
    (w t f : List ℕ) (first : AreUnstarted wals logs stores w t f) (left : Contents) (may : MayLeaveContents new_wals new_logs new_stores left)
    (held : Contents) (read : ReadAs w t f held) (pairs : List (ℕ × Key)) (cover : CoverWhole options held pairs) where
  none : held.offset ≡ None
  none = unstored wals logs stores w t f first w t f held first.offsets read

  held_kept : IsKept held
  held_kept =
      let there = kept.each w t f first.wal first.topics first.offsets in
      subst IsKept (disks_are_read_once w t f there.0 held there.1 read) there.2

  -- and what covers its whole run covers what is left
  covers : left.wal.workload ≡ held.wal.workload → (infos : List TableInfo) → Captures (config_of options (workload_tables held.wal)) (history_at held) None infos → CoverRows infos (history_at left) pairs
  covers same infos captures =
      let whole : CoverRows infos (whole_history left.wal) pairs = subst (λ (x : Workload). CoverRows infos (whole_of x) pairs) (sym same) (cover infos captures) in
      whole_covers may.w left.wal infos pairs may.read.source whole

  begun : HasBegun (First options) w t f
  begun = record {
    held = held;
    read = read;
    config = config_of options (workload_tables held.wal);
    asks = ap (λ (o : Option Offset). asks_of (First options) (workload_tables held.wal) o) none;
  }

  own_tables : HasOwnTables held
  own_tables = subst (λ (o : Option Offset). IfSome o (λ offset. AreInfosOf (history_at held) offset.infos)) (sym none) tt

  few_marks : left.wal.workload ≡ held.wal.workload → AddsFew (First options) wals new_wals w t f → length (marks_in (history_at left).commits) ≤ 2 * most_windows options held (length pairs)
  unfolding begun
  few_marks same adds = by (adds begun own_tables may.w left may.wal may.read.source)
    where
      by : wals may.w ⊎ GrowsByFewMarks (config_of options (workload_tables held.wal)) held left → length (marks_in (history_at left).commits) ≤ 2 * most_windows options held (length pairs)
      by (inl before) =
          let there = kept.each may.w t f before first.topics first.offsets in
          let clean = unmarked there.0 there.2 (unstored wals logs stores w t f first may.w t f there.0 first.offsets there.1) in
          let wal : there.0.wal ≡ left.wal = one_wal may.w there.0.wal left.wal there.1.source may.read.source in
          omega (arith, clean, ap (λ (x : Wal). length (marks_in (history_in x).commits)) wal)
      by (inr more) = few_windows options held left pairs none (unmarked held held_kept none) (covers same) more

  -- it began to read after the rows
  rows_since : (offset : Offset) → left.offset ≡ Some offset → length (log_at left.wal.workload 0) ≤ commits_upto offset.start
  rows_since offset stored =
      let promised = headline may.w may.t may.f may.wal may.topics may.offsets in
      let predecessor = promised.left.predecessor in
      let config = config_of options (workload_tables predecessor.old.wal) in
      let there : promised.left.held ≡ left = disks_are_read_once may.w may.t may.f promised.left.held left promised.left.read may.read in
      let empty : predecessor.old.offset ≡ None = unstored wals logs stores w t f first predecessor.wal predecessor.topics predecessor.offsets predecessor.old predecessor.may_offsets predecessor.read in
      let goes : AdvancesFrom config predecessor.old left = subst (AdvancesFrom config predecessor.old) there (goes_first options (workload_tables predecessor.old.wal) predecessor.old promised.left.held empty predecessor.advances) in
      let script = subst (λ (s : List ℕ). IsWorkload s left.wal.workload) goes.script may.read.source.are.workload in
      let one : predecessor.old.wal.workload ≡ left.wal.workload = one_workload predecessor.old.wal.script predecessor.old.wal.workload left.wal.workload predecessor.read.source.are.workload script in
      subst (λ (x : Workload). length (log_at x 0) ≤ commits_upto offset.start) one (after_rows predecessor.wal config predecessor.old left offset predecessor.read.source empty stored goes)

  pub few_read : (summary : Summary) → HasRun (First options) now new_wals new_logs new_stores w t f summary → IsReported (First options) now new_wals new_logs new_stores w t f summary
      → AddsFew (First options) wals new_wals w t f → summary.report.messages ≤ most_messages 1 held.wal.workload (most_windows options held (length pairs))
  few_read summary run reported adds =
      let same = workload_stays (First options) now new_wals new_logs new_stores w t f left held may read summary run in
      let ended = reported.ended in
      let report = reported.report in
      let offset = report.offset in
      let began : ended.begun.held ≡ held = disks_are_read_once w t f ended.begun.held held ended.begun.read read in
      let is_left : ended.left ≡ left = disks_are_read_once may.w may.t may.f ended.left left (ended.each may.w may.t may.f may.wal may.topics may.offsets) may.read in
      let stored : left.offset ≡ Some offset = sym (ap (λ (c : Contents). c.offset) is_left) ∙ report.stored in
      let after = read_after ended.begun.held.offset offset in
      let start : after ≡ offset.start = ap (λ (o : Option Offset). read_after o offset) (ap (λ (c : Contents). c.offset) began ∙ none) in
      let counted : summary.report.messages ≡ length report.sent_messages = counted_all summary.ending ended.begun.config.messages report.sent_messages summary.report.messages report.messages in
      let front = ap length report.are_sent.front in
      let moved : length (messages_sent ended.left.wal after) ≡ length (messages_sent left.wal offset.start) =
      ap (λ (c : Contents). length (messages_sent c.wal after)) is_left ∙ ap (λ (l : Lsn). length (messages_sent left.wal l)) start in
      let few = few_messages_are_sent may.w left.wal offset.start (most_windows options held (length pairs)) may.read.source (rows_since offset stored) (few_marks same adds) in
      let bound = ap (λ (x : Workload). most_messages 1 x (most_windows options held (length pairs))) same in
      omega (arith, counted, front, length-append report.sent_messages report.are_sent.rest, moved, few, bound)

  reads_few : (end : ConnectEnd) → AnswersCapture (First options) now wals logs new_wals new_logs new_stores w t f end → AnswersKept (First options) now new_wals new_logs new_stores w t f end
      → IfOk end (λ summary. summary.report.messages ≤ most_messages 1 held.wal.workload (most_windows options held (length pairs)))
  reads_few (Ok summary) answers answers_kept = few_read summary answers.told answers_kept.report answers.marks
  reads_few (Err e) answers answers_kept = tt

pub generous_budgets_suffice : (wals logs stores new_wals new_logs new_stores : List ℕ → Type 0) → GenerousBudgetsSuffice 1 wals logs stores new_wals new_logs new_stores
generous_budgets_suffice wals logs stores new_wals new_logs new_stores options now told_wal told_topics told_offsets status before after runs kept headline w t f wal_is topics_is offsets_is first left may held read pairs cover =
    let answers = runs.answers w t f wal_is topics_is offsets_is in
    let answers_kept = runs.kept kept w t f wal_is topics_is offsets_is in
    let few = reads_few options now told_wal told_topics told_offsets wals logs stores new_wals new_logs new_stores (IsCompleteRun (Capture options) status) kept headline w t f first left may held read pairs cover runs.end answers answers_kept in
    record {
      few = few;
      unspent = λ less three. not_spent options.messages (most_messages 1 held.wal.workload (most_windows options held (length pairs))) runs.end (spent_end runs.end status before after runs.says three) few runs.spent less;
    }
