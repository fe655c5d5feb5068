-- A session that reads a window: what it keeps after it, and what it may leave on the way.
use Rattle.std.proofs.Common.{◌≡◌, ◌∙◌, inl, inr, ◌+◌, ◌≤◌, ◌<◌, ◌^◌, ℕ, zero, suc, true, false, Option, Some, None, List, [], ◌∷◌, ◌++◌, length, refl, sym, ap, ap₂, subst, arith, IsTrue, Bool}
use Rattle.std.specs.Prelude.{not, slice_get}
use Rattle.std.specs.List.{AllByRecursion, position}
use Rattle.dbl_base.specs.declared.lsn.Lsn.{Lsn}
use Rattle.dbl_pgmsg.specs.declared.messages.Message.{Message}
use Rattle.dbl_record.specs.declared.record.Record.{Record}
use Rattle.dbl_record.specs.Cuts.{cut}
use Rattle.dbl_topic.specs.Model.{SinkModel}
use Rattle.dbl_capture_work.specs.Source.Model.{SourceModel}
use Rattle.dbl_model_table.specs.declared.table.TableInfo.{TableInfo}
use Rattle.dbl_capture_work.specs.Disk.Model.{DiskModel}
use Rattle.dbl_capture_work.specs.ModelHistory.declared.cursor.Cursor.{Cursor}
use Rattle.dbl_capture_work.specs.ModelHistory.Cursors.{AreCursorsOf}
use Rattle.dbl_capture_work.specs.ModelHistory.Fit.{IsFitHistory}
use Rattle.dbl_capture_work.specs.ModelHistory.History.{RawBody, RawCommit}
use Rattle.dbl_capture_work.specs.ModelHistory.History.RawBody.{Changes, Mark, Alter}
use Rattle.dbl_capture_work.specs.ModelHistory.MarkTexts.Side.{Low, High}
use Rattle.dbl_capture_work.specs.ModelEvent.Snapshots.{AreInKeyOrder}
use Rattle.dbl_capture_work.specs.SourceModel.Standings.{Reading, SourceState, CrashState}
use Rattle.dbl_capture_work.specs.Offset.declared.offset.Offset.{Offset}
use Rattle.dbl_capture_work.specs.OffsetStore.Stores.{StoreOn}
use Rattle.dbl_capture_work.proofs.FaithfulItems.{first_some, at_all, all_weaker}
use Rattle.dbl_capture_work.specs.Faithful.Lag.{IsMarkedBy}
use Rattle.dbl_capture_work.specs.Window.Plans.{Plan, Chunk}
use Rattle.dbl_capture_work.proofs.WindowHonestLemmas.{captured_stays}
use Rattle.dbl_capture_work.specs.Follow.declared.window.Window.TheVariants.{Absent, Armed}
use Rattle.dbl_capture_work.specs.Follow.Followed.{Following}
use Rattle.dbl_capture_work.specs.CaptureModel.Entries.{SessionStart, WasFaithful}
use Rattle.dbl_capture_work.specs.CaptureModel.Steps.{WasArmed, armed_at}
use Rattle.dbl_capture_work.specs.CaptureModel.Exits.{MayBeLeft}
use Rattle.dbl_capture_work.proofs.CaptureModelArming.{windows_keep_going}
use Rattle.dbl_capture_work.proofs.CaptureModelCounting.{few_marks_are_written}
use Rattle.dbl_capture_work.specs.declared.work.SessionState.{SessionState}
use Rattle.dbl_capture_laws.specs.Sessions.{state_at_stage, InSession, AddsFewOrNoMarks, LeavesBy}
use Rattle.dbl_capture_work.specs.Windowed.{MayHaveMarks, HasReadWindow, WasWindowed, own_marks}
use Rattle.dbl_capture_work.specs.Works.{IsOpenTable, IsOwnChunk, HasOpen, HasReadyWork, IsWork, plan_at, plan_with, rest_in}
use Rattle.dbl_capture_work.proofs.Ahead.{ready_cursors}
use Rattle.dbl_capture_laws.proofs.Marks.{IsBodyOf, own_bodies, own_few}
use Rattle.dbl_capture_laws.proofs.Within.{armed_open, open_absent, open_cursors}
use Rattle.dbl_capture_laws.proofs.Keeping.{not_less, source_ends, confirmed_low, capturing, some_chunk}

-- ---- a plan

-- what the plan of a table's next window is
pub record PlanIs (work : SessionState) (table : ℕ) (plan : Plan) : Type 0 where
  pub info : TableInfo
  pub info_is : slice_get work.offset.infos table ≡ Some info
  pub cursor : Cursor
  pub cursor_is : slice_get work.follower.cursors table ≡ Some cursor
  pub is : plan ≡ record { info = info; table = table; above = cursor.last; limit = work.chunk; incarnation = work.offset.incarnation; number = work.number + 1; version = 1 }

pub plan_parts : (work : SessionState) (table : ℕ) (plan : Plan) → plan_at work table ≡ Some plan → PlanIs work table plan
plan_parts work table plan is = by (slice_get work.offset.infos table) (slice_get work.follower.cursors table) refl refl is
  where
    by : (i : Option TableInfo) (c : Option Cursor) → slice_get work.offset.infos table ≡ i → slice_get work.follower.cursors table ≡ c → plan_with work table i c ≡ Some plan → PlanIs work table plan
    by None c one two e = cc
    by (Some info) None one two e = cc
    by (Some info) (Some cursor) one two e = record {
      info = info;
      info_is = one;
      cursor = cursor;
      cursor_is = two;
      is = sym (first_some (record { info = info; table = table; above = cursor.last; limit = work.chunk; incarnation = work.offset.incarnation; number = work.number + 1; version = 1 }) plan e);
    }

-- the window is the session's last one
pub own_chunk : (work : SessionState) (table : ℕ) (chunk : Chunk) → PlanIs work table chunk.plan → position (λ cursor. not cursor.done) work.follower.cursors ≡ Some table → length chunk.rows ≤ chunk.plan.limit → AreInKeyOrder chunk.rows
    → IsOwnChunk work.offset.incarnation (work.number + 1) work.offset.infos work.follower.cursors work.chunk chunk
own_chunk work table chunk p first few ordered = record {
  incarnation_is = ap (λ (q : Plan). q.incarnation) p.is;
  number_is = ap (λ (q : Plan). q.number) p.is;
  table = first ∙ ap (λ (q : Plan). Some q.table) (sym p.is);
  info = ap (λ (q : Plan). slice_get work.offset.infos q.table) p.is ∙ (p.info_is ∙ sym (ap (λ (q : Plan). Some q.info) p.is));
  few = subst (λ (n : ℕ). length chunk.rows ≤ n) (ap (λ (q : Plan). q.limit) p.is) few;
  ordered = ordered;
}

-- with it the session is what it was
pub arms_work : {after : Lsn} {ms : List Message} (work : SessionState) (table : ℕ) (chunk : Chunk) → PlanIs work table chunk.plan → position (λ cursor. not cursor.done) work.follower.cursors ≡ Some table → length chunk.rows ≤ chunk.plan.limit → AreInKeyOrder chunk.rows
    → IsWork after ms work → IsWork after ms (record work { follower = record work.follower { window = Armed chunk }; number = work.number + 1 })
arms_work work table chunk p first few ordered is = record {
  asked = is.asked;
  identity = is.identity;
  infos = is.infos;
  cursors = is.cursors;
  stands = is.stands;
  fields = is.fields;
  accepted = is.accepted;
  lsn = is.lsn;
  end_is = is.end_is;
  start = is.start;
  sent = is.sent;
  between = is.between;
  own = own_chunk work table chunk p first few ordered;
  some_rows = is.some_rows;
  few_rows = is.few_rows;
  some = is.some;
}

-- ---- the session before the open transaction

-- it has the same plan
pub plan_before : (ms : List Message) (work : SessionState) (ahead : HasOpen ms work) (table : ℕ) (plan : Plan) → PlanIs work table plan
    → PlanIs (rest_in ahead) table plan
plan_before ms work ahead table plan p = record {
  info = p.info;
  info_is = p.info_is;
  cursor = p.cursor;
  cursor_is = ap (λ (l : List Cursor). slice_get l table) (sym (open_cursors ms work ahead)) ∙ p.cursor_is;
  is = p.is;
}

-- and the same first table
pub first_before : (ms : List Message) (work : SessionState) (ahead : HasOpen ms work) (table : ℕ)
    → position (λ cursor. not cursor.done) work.follower.cursors ≡ Some table → position (λ cursor. not cursor.done) ahead.start.cursors ≡ Some table
first_before ms work ahead table first =
    ap (λ (l : List Cursor). position (λ (c : Cursor). not c.done) l) (sym (open_cursors ms work ahead)) ∙ first

-- ---- watermarks

-- the watermarks of a window of the session's are its own
bodies_marked : (greatest : ℕ) (plan : Plan) (more : List RawCommit) → plan.incarnation ≤ greatest → plan.number < 2 ^ 64 → AllByRecursion (λ commit. IsBodyOf plan commit.body) more → AllByRecursion (λ commit. IsMarkedBy greatest commit.body) more
bodies_marked greatest plan more le small all = all_weaker (λ (c : RawCommit). IsBodyOf plan c.body) (λ (c : RawCommit). IsMarkedBy greatest c.body) more (λ c is. by c.body is) all
  where
    by : (body : RawBody) → IsBodyOf plan body → IsMarkedBy greatest body
    by (Changes changes) is = tt
    by (Alter name columns rows) is = tt
    by (Mark value) (inl low) = record { incarnation = plan.incarnation; number = plan.number; side = Low; is = low; not_above = le; small = small }
    by (Mark value) (inr high) = record { incarnation = plan.incarnation; number = plan.number; side = High; is = high; not_above = le; small = small }

same_le : (a b : ℕ) → a ≡ b → a ≤ b
same_le a b is = omega (arith, is)

-- one cursor isn't done, so not all are
not_all : (cursors : List Cursor) (place : ℕ) (cursor : Cursor) → slice_get cursors place ≡ Some cursor → cursor.done ≡ false → AllByRecursion (λ cursor. cursor.done ≡ true) cursors → ⊥
not_all cursors place cursor at unread all =
    let wrong : false ≡ true = sym unread ∙ at_all (λ (c : Cursor). c.done ≡ true) cursors place cursor all at in
    cc

-- ---- a session

module _ {S K D : Type 0} {tell : Bool} {source_model : SourceModel S} {sink_model : SinkModel K} {model : DiskModel D} {entry : SessionStart} {work : SessionState} {src : S} {sink : K} {store : StoreOn D}
    (s : InSession tell source_model sink_model model entry work src sink store) where
  infos_are : work.offset.infos ≡ s.stage.first.infos
  infos_are = ap (λ (o : Offset). o.infos) s.work_is.offset_is

  incarnation_is : work.offset.incarnation ≡ s.stage.first.incarnation
  incarnation_is = ap (λ (o : Offset). o.incarnation) s.work_is.offset_is

  pub absent_of : work.follower.window ≡ Absent → s.stage.following.window ≡ Absent
  absent_of none = ap (λ (f : Following). f.window) (sym s.work_is.follower_is) ∙ open_absent s.stage.messages work s.ahead none

  module _ (table : ℕ) (plan : Plan) (p : PlanIs work table plan) (unread : IsOpenTable work table) (small : work.number + 1 < 2 ^ 64) where
    pub plan_captured : slice_get s.stage.first.infos plan.table ≡ Some plan.info
    plan_captured =
        ap (λ (q : Plan). slice_get s.stage.first.infos q.table) p.is
        ∙ (ap (λ (l : List TableInfo). slice_get l table) (sym infos_are) ∙ (p.info_is ∙ sym (ap (λ (q : Plan). Some q.info) p.is)))

    cursor_at : slice_get s.stage.following.cursors plan.table ≡ Some p.cursor
    cursor_at =
        ap (λ (q : Plan). slice_get s.stage.following.cursors q.table) p.is
        ∙ (ap (λ (f : Following). slice_get f.cursors table) (sym s.work_is.follower_is)
        ∙ (ap (λ (l : List Cursor). slice_get l table) (sym (open_cursors s.stage.messages work s.ahead)) ∙ p.cursor_is))

    still_unread : p.cursor.done ≡ false
    still_unread = ap (λ (c : Cursor). c.done) (sym (first_some unread.cursor p.cursor (sym unread.cursor_is ∙ p.cursor_is))) ∙ unread.not_done

    own_incarnation : plan.incarnation ≡ s.stage.first.incarnation
    own_incarnation = ap (λ (q : Plan). q.incarnation) p.is ∙ incarnation_is

    own_number : plan.number ≡ s.stage.number + 1
    own_number = ap (λ (q : Plan). q.number) p.is ∙ ap (λ (n : ℕ). n + 1) s.work_is.number_is

    in_range : plan.number < 2 ^ 64
    in_range = subst (λ (n : ℕ). n < 2 ^ 64) (sym (ap (λ (q : Plan). q.number) p.is)) small

    -- ---- what it may leave

    may_be : (left : CrashState) → MayHaveMarks (own_marks plan) (state_at_stage s.stage) left → IsFitHistory left.history → WasFaithful entry → MayBeLeft s.stage left
    may_be left may fit faithful = record {
      more = may.more;
      grown = may.grown;
      marks = bodies_marked s.stage.first.incarnation plan may.more (same_le plan.incarnation s.stage.first.incarnation own_incarnation) in_range (own_bodies plan may.more may.count may.marks);
      fit = fit;
      no_fall = not_less s.stage.confirmed.0 left.confirmed.0 (ap (λ (l : Lsn). l.0) may.confirmed);
      confirmed = subst (λ (l : Lsn). l.0 ≤ s.stage.stored.lsn.0) (sym may.confirmed) (confirmed_low s faithful);
    }

    few_left : work.follower.window ≡ Absent → (left : CrashState) → MayHaveMarks (own_marks plan) (state_at_stage s.stage) left → AddsFewOrNoMarks entry left
    few_left none left may =
        inr (record {
          infos = s.stage.first.infos;
          captured = capturing s;
          few = (few_marks_are_written entry s.stage left.history may.more (some_chunk s) may.grown (own_few plan may.more may.count may.marks)).1 (absent_of none) (not_all s.stage.following.cursors plan.table p.cursor cursor_at still_unread) s.going.reading;
        })

    -- where it ends on the way
    pub arm_left : (src2 : S) → work.follower.window ≡ Absent → ((left : CrashState) → source_model.may_leave src2 left → MayHaveMarks (own_marks plan) (state_at_stage s.stage) left)
        → ((left : CrashState) → source_model.may_leave src2 left → IsFitHistory left.history) → (IsTrue tell → (groups : List (List Record)) → sink_model.may_leave sink groups → groups ≡ s.stage.groups ++ cut s.ahead.put) → (left : CrashState) × source_model.may_leave src2 left → (IsTrue tell → (groups : List (List Record)) × sink_model.may_leave sink groups)
        → LeavesBy tell source_model sink_model model entry src2 sink store
    arm_left src2 none may fit only some_source some_sink =
        source_ends s src2 (λ faithful left is. may_be left (may left is) (fit left is) faithful) only (λ left is. few_left none left (may left is)) some_source some_sink

  -- ---- the window is armed

  module _ (table : ℕ) (chunk : Chunk) (p : PlanIs work table chunk.plan) (few : length chunk.rows ≤ chunk.plan.limit) (ordered : AreInKeyOrder chunk.rows) (unread : IsOpenTable work table) (small : work.number + 1 < 2 ^ 64) (none : work.follower.window ≡ Absent) where
    abbrev pub armed_work : SessionState
    armed_work = record work { follower = record work.follower { window = Armed chunk }; number = work.number + 1 }

    armed_is : IsWork s.stage.first.lsn s.stage.messages (rest_in (armed_open s.stage.messages work chunk s.ahead))
    armed_is = arms_work (rest_in s.ahead) table chunk (plan_before s.stage.messages work s.ahead table chunk.plan p) (first_before s.stage.messages work s.ahead table unread.first) few ordered s.work_is.is

    was_armed : (honest : Type 0) → honest → (t : SourceState) → WasWindowed honest chunk.plan chunk (state_at_stage s.stage) t → WasArmed s.stage entry.config.chunk t.history chunk
    was_armed honest is_honest t w = record {
      marked = w.marked;
      looked = w.looked.looked;
      low_is = w.low_is;
      rows_are = w.looked.rows_are;
      high_is = w.looked.high_is;
      selected = w.looked.selected is_honest s.stage.first.infos
          (record { are = captured_stays s.stage.history w.marked s.stage.first.infos w.low_is.tables s.going.reading.infos; here = plan_captured table chunk.plan p unread small });
      captured = plan_captured table chunk.plan p unread small;
      cursor = p.cursor;
      cursor_is = cursor_at table chunk.plan p unread small;
      not_done = still_unread table chunk.plan p unread small;
      above = ap (λ (q : Plan). q.above) p.is;
      limit_is = ap (λ (q : Plan). q.limit) p.is ∙ s.work_is.chunk_is;
      incarnation_is = own_incarnation table chunk.plan p unread small;
      number_is = own_number table chunk.plan p unread small;
      in_range = in_range table chunk.plan p unread small;
    }

    stands_so : (t : SourceState) → t.confirmed ≡ s.stage.confirmed → t.reading ≡ Some (record { after = s.stage.first.lsn; messages = s.stage.messages }) → t ≡ state_at_stage (armed_at s.stage t.history chunk)
    stands_so t confirmed reading = ap₂ (λ (c : Lsn) (r : Option Reading). record { history = t.history; confirmed = c; reading = r }) confirmed reading

    pub armed_on : (honest : Type 0) → honest → (src2 : S) (t : SourceState) → source_model.stands src2 t → WasWindowed honest chunk.plan chunk (state_at_stage s.stage) t → IsFitHistory t.history → InSession tell source_model sink_model model entry armed_work src2 sink store
    armed_on honest is_honest src2 t is w fit = record {
      stage = armed_at s.stage t.history chunk;
      ahead = armed_open s.stage.messages work chunk s.ahead;
      source_is = subst (source_model.stands src2) (stands_so t w.looked.confirmed w.looked.reading) is;
      sink_is = s.sink_is;
      store_is = s.store_is;
      work_is = record {
        is = armed_is;
        offset_is = s.work_is.offset_is;
        follower_is = ap (λ (f : Following). record f { window = Armed chunk }) s.work_is.follower_is;
        now_is = s.work_is.now_is;
        chunk_is = s.work_is.chunk_is;
        every_is = s.work_is.every_is;
        since_is = s.work_is.since_is;
        number_is = ap (λ (n : ℕ). n + 1) s.work_is.number_is;
      };
      going = windows_keep_going entry s.stage t.history chunk (absent_of none) (some_chunk s) (was_armed honest is_honest t w) fit s.going;
    }

  -- so it is where the window was read
  pub window_on : (table : ℕ) (work2 : SessionState) (src2 : S) → source_model.honest src2 → HasReadWindow source_model table work work2 (state_at_stage s.stage) src2 → IsOpenTable work table → work.number + 1 < 2 ^ 64 → work.follower.window ≡ Absent
      → ((t : SourceState) → source_model.stands src2 t → IsFitHistory t.history) → InSession tell source_model sink_model model entry work2 src2 sink store
  window_on table work2 src2 is_honest w unread small none fit =
      subst (λ (v : SessionState). InSession tell source_model sink_model model entry v src2 sink store) (sym w.armed.is)
      (armed_on table w.armed.chunk (plan_parts work table w.armed.chunk.plan w.armed.plan) w.armed.few w.armed.ordered unread small none (source_model.honest src2) is_honest src2 w.stood.standing w.stood.is w.stood.holds (fit w.stood.standing w.stood.is))

-- ---- there is a plan

info_here : (infos : List TableInfo) (cursors : List Cursor) (table : ℕ) (cursor : Cursor) → AreCursorsOf infos cursors → slice_get cursors table ≡ Some cursor → (info : TableInfo) × (slice_get infos table ≡ Some info)
info_here [] [] table cursor are at = cc
info_here [] (c ∷ cursors) table cursor are at = absurd are
info_here (info ∷ infos) [] table cursor are at = absurd are
info_here (info ∷ infos) (c ∷ cursors) zero cursor are at = (info, refl)
info_here (info ∷ infos) (c ∷ cursors) (suc table) cursor are at = info_here infos cursors table cursor are.1 at

pub plan_here : (work : SessionState) (table : ℕ) → HasReadyWork work → IsOpenTable work table → (plan : Plan) × (plan_at work table ≡ Some plan)
plan_here work table ready unread =
    let here = info_here work.offset.infos work.follower.cursors table unread.cursor (ready_cursors work ready) unread.cursor_is in (
      record { info = here.0; table = table; above = unread.cursor.last; limit = work.chunk; incarnation = work.offset.incarnation; number = work.number + 1; version = 1 },
      ap (λ (o : Option TableInfo). plan_with work table o (slice_get work.follower.cursors table)) here.1 ∙ ap (λ (o : Option Cursor). plan_with work table (Some here.0) o) unread.cursor_is,
    )
