-- What makes a session stop with an error over a conforming source and faithful stores: values equal to the placeholder, records and offsets
-- of the source's history.
use Rattle.std.proofs.Common.{◌≡◌, ◌∙◌, ◌⊎◌, inl, inr, ◌+◌, ◌≤◌, ℕ, ℤ, zero, suc, Option, Some, None, List, [], ◌∷◌, ◌++◌, length, drop, take, refl, sym, ap, ap₂, subst, arith, append_assoc, length-append}
use Rattle.std.specs.Prelude.{IfSome, IsSome, IsSomeAnd, not, slice_get}
use Rattle.std.specs.List.{AllByRecursion, position}
use Rattle.std.proofs.lemmas.List.{append-nil}
use Rattle.dbl_base.specs.declared.lsn.Lsn.{Lsn}
use Rattle.dbl_pgmsg.specs.declared.messages.Message.{Message}
use Rattle.dbl_record.specs.declared.record.Record.{Record}
use Rattle.dbl_record.specs.Cuts.{cut}
use Rattle.dbl_model_table.specs.declared.identity.Identity.{Identity}
use Rattle.dbl_model_table.specs.declared.row.Key.{Key}
use Rattle.dbl_model_table.specs.declared.table.TableInfo.{TableInfo}
use Rattle.dbl_model_table.specs.declared.change.Body.{Body}
use Rattle.dbl_model_table.specs.declared.change.Body.TheVariants.{Changes, Mark}
use Rattle.dbl_model_table.specs.declared.change.Change.{Change}
use Rattle.dbl_model_table.specs.declared.change.Commit.{Commit}
use Rattle.dbl_model_table.specs.declared.change.Head.{Head}
use Rattle.dbl_model_table.specs.Heads.{commit_head, commit_so_far}
use Rattle.dbl_model_table.specs.Rows.{all_changes, changes_of}
use Rattle.dbl_capture_work.specs.ModelCommit.BegunCommits.{BeginsCommit}
use Rattle.dbl_capture_work.specs.ModelCommit.Past.{begin_of}
use Rattle.dbl_capture_work.specs.ModelCommit.Pieces.{changes_so_far, if_open}
use Rattle.dbl_capture_work.specs.ModelCommit.Stated.{commits_of, list_of, open_changes}
use Rattle.dbl_capture_work.specs.ModelHistory.declared.cursor.Cursor.{Cursor}
use Rattle.dbl_capture_work.specs.ModelHistory.KeyBounds.{IsAbove, IsUpTo}
use Rattle.dbl_capture_work.specs.ModelHistory.History.{History, RawCommit}
use Rattle.dbl_capture_work.specs.ModelHistory.History as raw
use Rattle.dbl_capture_work.specs.ModelHistory.MarkTexts.{Side, mark_text}
use Rattle.dbl_capture_work.specs.ModelHistory.MarkTexts.Side.{High, Low}
use Rattle.dbl_capture_work.specs.ModelHistory.Typed.{typed_commit}
use Rattle.dbl_capture_work.specs.ModelEvent.Clashes.{Clash, clash_of, snapshot_clash}
use Rattle.dbl_capture_work.specs.ModelEvent.EventJson.{envelopes}
use Rattle.dbl_capture_work.specs.ModelEvent.Snapshots.{AreInKeyOrder, snapshot}
use Rattle.dbl_capture_work.specs.ConsumeLaws.Windows.{IsRightWindow}
use Rattle.dbl_capture_work.proofs.ConsumeLawsLists.{slice_get-seam}
use Rattle.dbl_capture_work.proofs.FaithfulItems.{mapped}
use Rattle.dbl_capture_work.specs.SourceModel.Growth.{Grows}
use Rattle.dbl_capture_work.specs.SourceModel.Standings.{left_of}
use Rattle.dbl_capture_work.proofs.SourceModelGrowthLemmas.{grows_none}
use Rattle.dbl_capture_work.specs.Offset.declared.offset.Offset.{Offset}
use Rattle.dbl_capture_work.specs.Window.Plans.{Chunk, Plan, high_text}
use Rattle.dbl_capture_work.specs.Window.Changing.{AreLeft, left_from}
use Rattle.dbl_capture_work.specs.Window.Laws.{between}
use Rattle.dbl_capture_work.specs.Window.Promise.{WasGiven, moment_after_first}
use Rattle.dbl_capture_work.proofs.WindowHonestLemmas.{captured_stays}
use Rattle.dbl_capture_work.proofs.WindowLawLemmas.{selected_given}
use Rattle.dbl_capture_work.proofs.WindowLeftLemmas.{left-None}
use Rattle.dbl_capture_work.proofs.WindowOrderLemmas.{each_row, within}
use Rattle.dbl_capture_work.proofs.WindowPromiseLemmas.{kept_promise}
use Rattle.dbl_capture_work.specs.Follow.declared.window.Window.{Window}
use Rattle.dbl_capture_work.specs.Follow.declared.window.Window.TheVariants.{Open}
use Rattle.dbl_capture_work.specs.Follow.Followed.{Following}
use Rattle.dbl_capture_work.specs.Follow.Steps.{clash_by, clash_in, closed_of, closing, watermark_in, mark_of, records_by, records_of}
use Rattle.dbl_capture_work.specs.CaptureModel.Counted.{IsOnTable, IsWaiting, waiting}
use Rattle.dbl_capture_work.specs.CaptureModel.Entries.{SessionStart, StoodInLog}
use Rattle.dbl_capture_work.specs.CaptureModel.Exits.{MayBeLeft}
use Rattle.dbl_capture_work.specs.CaptureModel.Going.{IsFirstOf, IsGoing, KeepsStage, IsPlacedInHistory}
use Rattle.dbl_capture_work.specs.CaptureModel.Marked.{IsOpenAt, IsOwnWindow, IsWindowAt}
use Rattle.dbl_capture_work.specs.CaptureModel.Outcomes.{FollowsSession}
use Rattle.dbl_capture_work.specs.CaptureModel.Stages.{Stage, commits_at, next_offset, read_at}
use Rattle.dbl_capture_work.proofs.CaptureModelBeginning.{first_offsets_follow}
use Rattle.dbl_capture_work.proofs.CaptureModelClosing.{ClosesOpen, closes_open}
use Rattle.dbl_capture_work.proofs.CaptureModelEnding.{stood_of}
use Rattle.dbl_capture_work.proofs.CaptureModelEvents.{cancel}
use Rattle.dbl_capture_work.proofs.CaptureModelSending.{read_more}
use Rattle.dbl_capture_work.proofs.CaptureModelWindowing.{raw_mark}
use Rattle.dbl_capture_work.specs.declared.halt.Halt.{Halt}
use Rattle.dbl_capture_work.specs.declared.report.Report.{Report}
use Rattle.dbl_capture_work.specs.declared.work.SessionState.{SessionState}
use Rattle.dbl_capture_work.specs.Begins.{IsFirstOffsetAtHead, IsTooLong}
use Rattle.dbl_capture_work.specs.Causes.{IsLongRecord}
use Rattle.dbl_capture_work.specs.Takes.{IsClashIn, IsLongSoFar}
use Rattle.dbl_capture_work.specs.Works.{IsOwnChunk, IsOwnWaiting, head_in, next_offset_of}
use Rattle.dbl_capture_laws.specs.Sessions.{Captures, IsCapturing, state_at_stage}
use Rattle.dbl_capture_laws.specs.Stored.{session_identity, named_by}
use Rattle.dbl_capture_work.specs.ModelHistory.KeyedRows.{last_key, row_in}
use Rattle.dbl_capture_work.specs.SourceModel.Selected.{rows_up_to}
use Rattle.dbl_capture_work.proofs.CaptureModelCounts.{was_selected}
use Rattle.dbl_model_table.specs.declared.row.Row.{Row}
use Rattle.dbl_capture_laws.specs.Nevers.{BecomesCommit, IsNewest, IsOwnClash, IsOwnClosed, IsOwnLong}
use Rattle.dbl_capture_laws.specs.Carried.{Beginning}
use Rattle.dbl_capture_laws.proofs.OpenCommits.{clash_stays, ends_none, is_open, long_stays}
use Rattle.dbl_capture_laws.proofs.Within.{open_cursors, open_left}
use Rattle.dbl_capture_laws.proofs.Halting.{incarnation_stored}
use Rattle.dbl_capture_laws.specs.Owned.{ClashesAreOwn, EndsNext, FirstLongOffsetsAreOwn, FirstOffsetsAreLong, IsOverFaithful, LongOffsetsAreOwn, LongRecordsAreOwn, OpenClashesAreOwn, OpenLongRecordsAreOwn, StatesNext, read_with}

-- ---- moments of watermarks

-- a commit without changes leaves the moment
no_moment : (cs : List Commit) (place : ℕ) (c : Commit) → slice_get cs place ≡ Some c → changes_of c ≡ [] → length (all_changes (take (suc place) cs)) ≡ length (all_changes (take place cs))
no_moment [] place c at none = cc
no_moment (x ∷ cs) zero c at none =
    let same : x ≡ c = cc in
    ap (λ (l : List Change). length (l ++ [])) (ap changes_of same ∙ none)
no_moment (x ∷ cs) (suc place) c at none =
    length-append (changes_of x) (all_changes (take (suc place) cs))
    ∙ (ap (λ (n : ℕ). length (changes_of x) + n) (no_moment cs place c at none) ∙ sym (length-append (changes_of x) (all_changes (take place cs))))

suc_one : (n : ℕ) → suc n ≡ n + 1
suc_one n = omega arith

marked_so : (body : Body) (value : List ℕ) → watermark_in body ≡ Some value → body ≡ Mark value
marked_so (Changes changes) value is = cc
marked_so (Mark v) value is = let same : v ≡ value = cc in ap (λ (l : List ℕ). Mark l) same

-- ---- whose session it is

module _ (entry : SessionStart) (stage : Stage) (going : IsGoing entry stage) where
  captures_of : (found : Option Offset) → IsFirstOf entry stage.history stage.first found → Captures entry.config entry.history found stage.first.infos
  captures_of None began = (began.0.tables, captured_stays stage.history entry.history stage.first.infos (sym going.reading.grown.tables) going.reading.infos)
  captures_of (Some old) began = began.0.infos

  capturing : IsCapturing entry stage.first.infos
  capturing = captures_of entry.offset going.reading.began

  named_of : (found : Option Offset) → IsFirstOf entry stage.history stage.first found → stage.first.identity ≡ named_by entry.config found
  named_of None began = began.0.identity
  named_of (Some old) began = began.0.identity

  identity_is : stage.first.identity ≡ session_identity entry
  identity_is = named_of entry.offset going.reading.began

some_case : {X : Type 0} (o : Option X) → (o ≡ None) ⊎ ((x : X) × (o ≡ Some x))
some_case None = inl refl
some_case (Some x) = inr (x, refl)

-- ---- the last key of some rows: the bound, or that of one of them

abbrev IsLastOf : Option Key → List (Key × Row) → Type 0
IsLastOf bound rows = (last_key bound rows ≡ bound) ⊎ ((place : ℕ) × (row : Key × Row) × (slice_get rows place ≡ Some row) × (last_key bound rows ≡ Some row.0))

last_of : (bound : Option Key) (rows : List (Key × Row)) → IsLastOf bound rows
last_of bound [] = inl refl
last_of bound (first ∷ rows) = by (last_of (Some first.0) rows)
  where
    by : IsLastOf (Some first.0) rows → IsLastOf bound (first ∷ rows)
    by (inl same) = inr (0, first, refl, same)
    by (inr (place, row, at, last)) = inr (suc place, row, at, last)

-- ---- the newest commit

module _ (entry : SessionStart) (stage : Stage) (b : Beginning) (ms : List Message) (stored : Option Offset) (work : SessionState) (report : Report) (m : Message) (commit : Commit) (later : Report)
    (o : IsOverFaithful entry stage b ms stored work report) (e : EndsNext stage m commit) (same_chunks : later.chunks ≡ report.chunks) where
  stood : StoodInLog entry
  stood = stood_of entry o.faithful

  abbrev p : IsPlacedInHistory stage
  p = o.going.placed (stood_of entry o.faithful)

  abbrev k : KeepsStage entry stage (o.going.placed (stood_of entry o.faithful)).parts
  k = o.going.kept (stood_of entry o.faithful) o.faithful

  abbrev before : List Commit
  before = (o.going.placed (stood_of entry o.faithful)).parts.old ++ read_at stage

  -- it stands in the history, after those that were read
  parted : (rest : List Commit) × (commits_at stage ≡ before ++ commit ∷ rest)
  parted =
      let some = e.right.1 (e.clean, o.going.reading.accepted) in
      let both : read_at stage ++ p.parts.later ≡ read_at stage ++ commit ∷ some.later =
      sym p.parts.stated ∙ (some.stated ∙ (ap (λ (l : List Commit). l ++ some.later) (read_more stage m commit e.ends) ∙ append_assoc (read_at stage) (commit ∷ []) some.later)) in
      (some.later, p.parts.spelled ∙ ap (λ (l : List Commit). before ++ l) (cancel (read_at stage) p.parts.later (commit ∷ some.later) both))

  at_place : slice_get (commits_at stage) (length before) ≡ Some commit
  at_place = ap (λ (l : List Commit). slice_get l (length before)) parted.1 ∙ slice_get-seam before commit parted.0

  abbrev newest : IsNewest stage.first.infos stage.history (read_with stage m)
  newest = record {
    commit = commit;
    ends = inl (record { message = m; earlier = stage.messages; newest = refl; accepted = (e.clean, o.going.reading.accepted); ends = e.ends });
    place = length before;
    stands = at_place;
  }

  follows_identity : stage.following.identity ≡ session_identity entry
  follows_identity = o.going.reading.follows_identity ∙ identity_is entry stage o.going

  -- ---- the window that it closes

  module _ (chunk : Chunk) (is : closing stage.following.window (mark_of commit) ≡ Some chunk) where
    closes : ClosesOpen stage.following.window (mark_of commit) chunk
    closes = closes_open stage.following.window (mark_of commit) chunk is

    w : IsOpenAt stage.first.infos stage.history (length before) chunk
    w = subst (IsWindowAt stage.first.infos stage.history (length before)) closes.is_open k.window

    own : (chunk.plan.incarnation ≡ stage.first.incarnation) × (chunk.plan.number ≡ stage.number)
    own = subst (IsOwnWindow stage.first.incarnation stage.number) closes.is_open k.own_window

    waits : IsOnTable stage.first.infos entry.config.chunk stage.history stage.following.cursors chunk
    waits = subst (IsWaiting stage.first.infos entry.config.chunk stage.history stage.following.cursors) closes.is_open o.going.reading.counted.waits

    waiting_open : work.follower.window ≡ Open chunk
    waiting_open = ap (λ (f : Following). f.window) o.work_is.follower_is ∙ closes.is_open

    own_chunk : IsOwnChunk work.offset.incarnation work.number work.offset.infos work.follower.cursors work.chunk chunk
    own_chunk = subst (IsOwnWaiting work.offset.incarnation work.number work.offset.infos work.follower.cursors work.chunk) waiting_open o.rests.is.is.own

    ordered : AreInKeyOrder chunk.rows
    ordered = own_chunk.ordered

    body_is : commit.body ≡ Mark (high_text chunk.plan)
    body_is = marked_so commit.body (high_text chunk.plan) closes.mark_is

    text_own : (side : Side) → mark_text chunk.plan.incarnation chunk.plan.number side ≡ mark_text stage.first.incarnation stage.number side
    text_own side = ap₂ (λ (i n : ℕ). mark_text i n side) own.0 own.1

    selected_own : (side : Side) → mark_text w.selected.plan.incarnation w.selected.plan.number side ≡ mark_text stage.first.incarnation stage.number side
    selected_own side = ap (λ (x : Plan). mark_text x.incarnation x.number side) (sym w.plan) ∙ text_own side

    -- the history's commit at this place
    raw_at : (c : RawCommit) × (slice_get stage.history.commits (length before) ≡ Some c) × (commit ≡ typed_commit stage.first.infos c)
    raw_at = mapped (typed_commit stage.first.infos) stage.history.commits (length before) commit at_place

    raw_is : raw_at.0.body ≡ raw.Mark (mark_text stage.first.incarnation stage.number High)
    raw_is = raw_mark stage.first.infos raw_at.0.body (high_text chunk.plan) (sym (ap (λ (c : Commit). c.body) raw_at.2) ∙ body_is) ∙ ap (λ (l : List ℕ). raw.Mark l) (text_own High)

    -- it is the window's high watermark
    same_place : length before ≡ w.high
    same_place =
        k.own_marks.once (length before) w.high stage.number High raw_at.0 w.marked.high_is.commit k.small raw_at.1 w.marked.high_is.stands raw_is
        (w.marked.high_is.is_mark ∙ ap (λ (l : List ℕ). raw.Mark l) (selected_own High))

    given : WasGiven stage.first.infos (commits_at stage) (w.low + 1) w.high chunk
    given =
        selected_given stage.first.infos stage.history (w.low + 1) w.high w.selected chunk w.marked.rows w.plan w.through w.done
        (subst (λ (n : ℕ). AreLeft stage.first.infos w.selected.plan.table w.selected.rows (between stage.first.infos stage.history (w.low + 1) n) chunk.rows) same_place w.left)

    -- its rows are after the bound, up to where it was read: changes leave no others than were selected
    within_own : AllByRecursion (λ (row : Key × Row). IsAbove waits.cursor.last row.0 × IsUpTo chunk.through row.0) chunk.rows
    within_own = each_row (λ key cells. IsAbove waits.cursor.last key × IsUpTo chunk.through key) chunk.rows ordered (λ key cells there. elim (some_case (row_in given.selected key)) [
      | inl none ↦ (
          let same : all_changes (drop (w.low + 1) (take w.high (commits_at stage))) ≡ all_changes (drop (w.low + 1) (take w.high (commits_at stage))) = refl in
          let gone : None ≡ Some cells = sym (left-None stage.first.infos chunk.plan.table key (all_changes (drop (w.low + 1) (take w.high (commits_at stage))))) ∙ (ap₂ (left_from stage.first.infos chunk.plan.table key) (sym none) same ∙ (sym (given.left key) ∙ there)) in
          absurd (cc)
          )
      | inr found ↦ (
          let range = within chunk.plan.info chunk.plan.above given.selected key found.0 given.first.ordered given.first.keys found.1 in
          (subst (λ (b : Option Key). IsAbove b key) waits.above range.above, subst (λ (b : Option Key). IsUpTo b key) (sym given.through_is) range.up_to)
          )
    ])

    -- the watermark has no changes
    after_it : moment_after_first (commits_at stage) w.high ≡ moment_after_first (commits_at stage) (length before + 1)
    after_it =
        ap (moment_after_first (commits_at stage)) (sym same_place)
        ∙ (sym (no_moment (commits_at stage) (length before) commit at_place (ap (λ (x : Body). elim x [ Changes changes ↦ changes | Mark v ↦ [] ]) body_is))
        ∙ ap (moment_after_first (commits_at stage)) (suc_one (length before)))

    right : IsRightWindow stage.first.infos (all_changes (commits_at stage)) (moment_after_first (commits_at stage) (w.low + 1)) (moment_after_first (commits_at stage) (length before + 1)) waits.cursor.last (closed_of chunk)
    right =
        subst (λ (above : Option Key). IsRightWindow stage.first.infos (all_changes (commits_at stage)) (moment_after_first (commits_at stage) (w.low + 1)) (moment_after_first (commits_at stage) (length before + 1)) above (closed_of chunk)) waits.above
        (subst (λ (n : ℕ). IsRightWindow stage.first.infos (all_changes (commits_at stage)) (moment_after_first (commits_at stage) (w.low + 1)) n chunk.plan.above (closed_of chunk)) after_it
        (kept_promise chunk (closed_of chunk) (record { table = refl; rows = refl; through = refl; done = refl }) ordered stage.first.infos (commits_at stage) (w.low + 1) w.high waits.captured given))

    -- ---- by the stored offset

    offset_cursors : o.rests.is.offset.cursors ≡ stage.following.cursors
    offset_cursors = o.rests.same ∙ ap (λ (f : Following). f.cursors) o.work_is.follower_is

    incarnation_own : stage.first.incarnation ≡ o.rests.is.offset.incarnation
    incarnation_own = sym (ap (λ (x : Offset). x.incarnation) o.work_is.offset_is) ∙ incarnation_stored b.config b.now b.held b.first o.rests.is.offset work o.rests.is.of

    number_own : stage.number ≡ later.chunks + 1
    number_own = sym o.work_is.number_is ∙ (o.rests.is.windows ∙ (ap (λ (x : Window). report.chunks + waiting x) waiting_open ∙ ap (λ (n : ℕ). n + 1) (sym same_chunks)))

    -- it was read up to the cursor's key, or to that of its last row
    through_own : (chunk.through ≡ waits.cursor.last) ⊎ ((key : Key) × (chunk.through ≡ Some key) × (at : ℕ) × IsSome (rows_up_to stage.first.infos stage.history at chunk.plan.table key))
    through_own = by (last_of waits.selected.plan.above waits.selected.rows)
      where
        is_last : last_key waits.selected.plan.above waits.selected.rows ≡ chunk.through
        is_last = sym waits.rows.through_is ∙ waits.through

        by : IsLastOf waits.selected.plan.above waits.selected.rows → (chunk.through ≡ waits.cursor.last) ⊎ ((key : Key) × (chunk.through ≡ Some key) × (at : ℕ) × IsSome (rows_up_to stage.first.infos stage.history at chunk.plan.table key))
        by (inl bound) = inl (sym is_last ∙ bound ∙ ap (λ (p : Plan). p.above) waits.plan ∙ waits.above)
        by (inr (place, row, at, last)) =
            let read = was_selected stage.first.infos entry.config.chunk stage.history stage.following.cursors chunk waits place row at in
            inr (row.0, sym is_last ∙ last, read.place, subst IsSome (sym read.was) refl)

    own_text : (side : Side) → mark_text stage.first.incarnation stage.number side ≡ mark_text o.rests.is.offset.incarnation (later.chunks + 1) side
    own_text side = ap₂ (λ (i n : ℕ). mark_text i n side) incarnation_own number_own

    own_closed : IsOwnClosed stage.first.infos entry.config.chunk o.rests.is.offset later stage.history (length before) (closed_of chunk)
    own_closed = record {
      here = record {
        commit = raw_at.0;
        stands = raw_at.1;
        is_mark = raw_is ∙ ap (λ (l : List ℕ). raw.Mark l) (own_text High);
      };
      first = ap (position (λ (c : Cursor). not c.done)) offset_cursors ∙ first_open;
      cursor = waits.cursor;
      cursor_is = ap (λ (l : List Cursor). slice_get l chunk.plan.table) offset_cursors ∙ waits.cursor_is;
      low = w.low;
      opened = record {
        commit = w.marked.low_is.commit;
        stands = w.marked.low_is.stands;
        is_mark = w.marked.low_is.is_mark ∙ ap (λ (l : List ℕ). raw.Mark l) (selected_own Low ∙ own_text Low);
      };
      right = right;
      ordered = ordered;
      few = subst (λ (n : ℕ). length chunk.rows ≤ n) o.work_is.chunk_is own_chunk.few;
      within = within_own;
      through = through_own;
    }
      where
        first_open : position (λ (c : Cursor). not c.done) stage.following.cursors ≡ Some chunk.plan.table
        first_open = ap (λ (f : Following). position (λ (c : Cursor). not c.done) f.cursors) (sym o.work_is.follower_is) ∙ own_chunk.table

  -- ---- values equal to the placeholder

  clash_own : (h : Halt) (closed : Option Chunk) → closing stage.following.window (mark_of commit) ≡ closed → IsClashIn (clash_in stage.following closed commit) h → IsOwnClash entry o.rests.is.offset later stage.history (read_with stage m) h
  clash_own h None is found = record {
    infos = stage.first.infos;
    captured = capturing entry stage o.going;
    newest = newest;
    clash = inl (subst (λ (x : Option Clash). IsClashIn x h) (ap₂ (λ (i : Identity) (l : List TableInfo). clash_of i l commit) follows_identity o.going.reading.follows_infos) found);
  }
  clash_own h (Some chunk) is found =
      let here = subst (λ (x : Option Clash). IsClashIn x h) (ap₂ (λ (i : Identity) (l : List TableInfo). snapshot_clash i l (closed_of chunk)) follows_identity o.going.reading.follows_infos) found in
      record { infos = stage.first.infos; captured = capturing entry stage o.going; newest = newest; clash = inr (closed_of chunk, own_closed chunk is, here) }

  clash_here : (h : Halt) → IsClashIn (clash_by work.follower commit) h → IsOwnClash entry o.rests.is.offset later stage.history (read_with stage m) h
  clash_here h found =
      clash_own h (closing stage.following.window (mark_of commit)) refl (subst (λ (f : Following). IsClashIn (clash_by f commit) h) o.work_is.follower_is found)

  -- ---- records that are too long

  long_own : (h : Halt) (closed : Option Chunk) → closing stage.following.window (mark_of commit) ≡ closed → IsLongRecord (records_of stage.following closed commit entry.now) h → IsOwnLong entry o.rests.is.offset later stage.history (read_with stage m) h
  long_own h None is found = record {
    infos = stage.first.infos;
    captured = capturing entry stage o.going;
    newest = newest;
    long = inl (subst (λ (l : List Record). IsLongRecord l h) (ap₂ (λ (i : Identity) (l : List TableInfo). envelopes i l commit entry.now) follows_identity o.going.reading.follows_infos) found);
  }
  long_own h (Some chunk) is found =
      let here = subst (λ (l : List Record). IsLongRecord l h) (ap₂ (λ (i : Identity) (l : List TableInfo). snapshot i l (closed_of chunk) commit entry.now) follows_identity o.going.reading.follows_infos) found in
      record { infos = stage.first.infos; captured = capturing entry stage o.going; newest = newest; long = inr (closed_of chunk, own_closed chunk is, here) }

  long_here : (h : Halt) → IsLongRecord (records_by work.follower commit work.now_ms) h → IsOwnLong entry o.rests.is.offset later stage.history (read_with stage m) h
  long_here h found =
      long_own h (closing stage.following.window (mark_of commit)) refl
      (subst (λ (f : Following). IsLongRecord (records_by f commit entry.now) h) o.work_is.follower_is (subst (λ (now : ℤ). IsLongRecord (records_by work.follower commit now) h) o.work_is.now_is found))

-- ---- changes of the open transaction

-- what a longer list begins with
some_first : (later : List Commit) (P : Commit → Type 0) → IsSomeAnd (slice_get later 0) P → (commit : Commit) × (rest : List Commit) × (later ≡ commit ∷ rest) × P commit
some_first [] P is = absurd is
some_first (commit ∷ rest) P is = (commit, rest, refl, is)

-- the open transaction with this message begins the commit after these
record BeginsHere (stage : Stage) (m : Message) (head : Head) (before : List Commit) : Type 0 where
  commit : Commit
  rest : List Commit
  parted : commits_at stage ≡ before ++ commit ∷ rest
  begins : BeginsCommit stage.first.infos (m ∷ stage.messages) head commit

module _ (entry : SessionStart) (stage : Stage) (b : Beginning) (ms : List Message) (stored : Option Offset) (work : SessionState) (report : Report) (m : Message) (changes : List Change) (so_far : Commit) (later : Report)
    (o : IsOverFaithful entry stage b ms stored work report) (e : StatesNext stage m changes so_far) where
  abbrev placed : IsPlacedInHistory stage
  placed = o.going.placed (stood_of entry o.faithful)

  abbrev read_before : List Commit
  read_before = (o.going.placed (stood_of entry o.faithful)).parts.old ++ read_at stage

  opened : (head : Head) × (begin_of (m ∷ stage.messages) ≡ Some head)
  opened = is_open stage.first.infos stage.first.lsn m stage.messages changes e.clean e.states e.some

  -- the commit that it begins comes next
  here : BeginsHere stage m opened.0 read_before
  here =
      let some = e.right.1 (e.clean, o.going.reading.accepted) in
      let none : commits_of stage.first.infos (m ∷ stage.messages) ≡ read_at stage =
      ap (λ (x : Option Commit). read_at stage ++ list_of x) (ends_none stage.first.infos m stage.messages changes e.states e.some) ∙ append-nil (read_at stage) in
      let both : read_at stage ++ placed.parts.later ≡ read_at stage ++ some.later =
      sym placed.parts.stated ∙ (some.stated ∙ ap (λ (l : List Commit). l ++ some.later) none) in
      let next : IsSomeAnd (slice_get some.later 0) (BeginsCommit stage.first.infos (m ∷ stage.messages) opened.0) =
      subst (λ (x : Option Head). IfSome x (λ begun. IsSomeAnd (slice_get some.later 0) (BeginsCommit stage.first.infos (m ∷ stage.messages) begun))) opened.1 some.next in
      let first = some_first some.later (BeginsCommit stage.first.infos (m ∷ stage.messages) opened.0) next in
      record {
        commit = first.0;
        rest = first.1;
        parted = placed.parts.spelled ∙ ap (λ (l : List Commit). read_before ++ l) (cancel (read_at stage) placed.parts.later some.later both ∙ first.2);
        begins = first.3;
      }

  -- with its Begin, and its first changes
  so_far_is : so_far ≡ commit_so_far opened.0 (open_changes stage.first.infos (m ∷ stage.messages))
  so_far_is =
      e.commit_is
      ∙ (ap (λ (x : Option Head). commit_so_far (head_in x) (changes_so_far stage.first.infos (m ∷ stage.messages))) opened.1
      ∙ ap (commit_so_far opened.0) (ap (λ (x : Option Head). if_open x (open_changes stage.first.infos (m ∷ stage.messages))) opened.1))

  becomes : BecomesCommit so_far here.commit
  becomes = record {
    head = ap commit_head so_far_is ∙ (λ i. record { lsn = here.begins.lsn i; time = here.begins.time i; xid = here.begins.xid i });
    more = here.begins.rest;
    changes = sym here.begins.stated ∙ ap (λ (c : Commit). changes_of c ++ here.begins.rest) (sym so_far_is);
  }

  newest_part : IsNewest stage.first.infos stage.history (read_with stage m)
  newest_part = record {
    commit = here.commit;
    ends = inr (record {
      so_far = so_far;
      more = record {
        message = m;
        earlier = stage.messages;
        newest = refl;
        accepted = (e.clean, o.going.reading.accepted);
        changes = changes;
        states = e.states;
        some = e.some;
        commit_is = e.commit_is;
      };
      becomes = becomes;
    });
    place = length read_before;
    stands = ap (λ (l : List Commit). slice_get l (length read_before)) here.parted ∙ slice_get-seam read_before here.commit here.rest;
  }

  open_clash_own : (h : Halt) → IsClashIn (clash_of stage.first.identity stage.first.infos so_far) h → IsOwnClash entry o.rests.is.offset later stage.history (read_with stage m) h
  unfolding newest_part
  open_clash_own h found = record {
    infos = stage.first.infos;
    captured = capturing entry stage o.going;
    newest = newest_part;
    clash = inl (clash_stays (session_identity entry) stage.first.infos so_far here.commit becomes.more becomes.changes h
        (subst (λ (i : Identity). IsClashIn (clash_of i stage.first.infos so_far) h) (identity_is entry stage o.going) found));
  }

  open_long_own : (h : Halt) → IsLongSoFar (envelopes stage.first.identity stage.first.infos so_far entry.now) h → IsOwnLong entry o.rests.is.offset later stage.history (read_with stage m) h
  unfolding newest_part
  open_long_own h found = record {
    infos = stage.first.infos;
    captured = capturing entry stage o.going;
    newest = newest_part;
    long = inl (long_stays (session_identity entry) stage.first.infos so_far here.commit becomes.more becomes.changes entry.now becomes.head h
        (subst (λ (i : Identity). IsLongSoFar (envelopes i stage.first.infos so_far entry.now) h) (identity_is entry stage o.going) found));
  }

pub open_clashes_are_own : OpenClashesAreOwn
open_clashes_are_own entry stage b ms stored work report m changes so_far later h o e found =
    (o.rests.is.offset, o.rests.is.stored_is, open_clash_own entry stage b ms stored work report m changes so_far later o e h found)

pub open_long_records_are_own : OpenLongRecordsAreOwn
open_long_records_are_own entry stage b ms stored work report m changes so_far later h o e found =
    (o.rests.is.offset, o.rests.is.stored_is, open_long_own entry stage b ms stored work report m changes so_far later o e h found)

pub clashes_are_own : ClashesAreOwn
clashes_are_own entry stage b ms stored work report m commit later h o e same found = (o.rests.is.offset, o.rests.is.stored_is, clash_here entry stage b ms stored work report m commit later o e same h found)

pub long_records_are_own : LongRecordsAreOwn
long_records_are_own entry stage b ms stored work report m commit later h o e same found = (o.rests.is.offset, o.rests.is.stored_is, long_here entry stage b ms stored work report m commit later o e same h found)

-- ---- offsets

pub long_offsets_are_own : LongOffsetsAreOwn
long_offsets_are_own entry stage work ahead h faithful going work_is long = record {
  offset = next_offset stage;
  identity = identity_is entry stage going;
  captured = capturing entry stage going;
  is = follows.faithful.lags.offset_is;
  long = subst (λ (x : Offset). IsTooLong x h) next_same long;
}
  where
    next_same : next_offset_of work ≡ next_offset stage
    next_same =
        ap₂ (λ (x : Offset) (l : List Cursor). (let o : Offset = record x { cursors = l } in o)) work_is.offset_is
        (open_cursors stage.messages work ahead ∙ ap (λ (f : Following). f.cursors) work_is.follower_is)

    same_le : (n : ℕ) → n ≤ n
    same_le n = omega arith

    rests : MayBeLeft stage (left_of (state_at_stage stage))
    rests = record {
      more = [];
      grown = record { tables = refl; commits = sym (append-nil stage.history.commits) };
      marks = tt;
      fit = going.reading.fit;
      no_fall = same_le stage.confirmed.0;
      confirmed = (going.kept (stood_of entry faithful) faithful).stored_is.confirmed_to;
    }

    follows : FollowsSession entry (left_of (state_at_stage stage)) (stage.groups ++ cut ahead.put) (Some (next_offset stage))
    follows = open_left entry stage work ahead work_is going (left_of (state_at_stage stage)) (next_offset stage) faithful rests (inr refl)

pub first_long_offsets_are_own : FirstLongOffsetsAreOwn
first_long_offsets_are_own entry s t first h faithful history_is confirmed_is fit_entry fit begins long = record {
  offset = first;
  identity = named_at entry.offset begins.began;
  captured = captured_at entry.offset begins.began;
  is = follows.faithful.lags.offset_is;
  long = long;
}
  where
    grown : Grows entry.history t.history
    grown = subst (λ (x : History). Grows x t.history) history_is begins.moved.grows

    named_at : (found : Option Offset) → IsFirstOf entry t.history first found → first.identity ≡ named_by entry.config found
    named_at None began = began.0.identity
    named_at (Some old) began = began.0.identity

    captured_at : (found : Option Offset) → IsFirstOf entry t.history first found → Captures entry.config entry.history found first.infos
    captured_at None began = (began.0.tables, captured_stays t.history entry.history first.infos (sym grown.tables) begins.infos)
    captured_at (Some old) began = began.0.infos

    follows : FollowsSession entry (left_of t) entry.groups (Some first)
    follows = first_offsets_follow entry t.history (left_of t) first faithful fit_entry fit grown (grows_none t.history fit.rising) begins.infos begins.began (begins.moved.confirmed ∙ confirmed_is)

pub first_offsets_are_long : FirstOffsetsAreLong
first_offsets_are_long config s t first h moved is long = record {
  infos = is.infos;
  names = is.names;
  described = captured_stays t.history s.history is.infos (sym moved.grows.tables) is.described;
  offset = first;
  first = subst (λ (x : Lsn). IsFirstOffsetAtHead config is.infos x first) (sym is.first.start) is.first;
  long = long;
}
