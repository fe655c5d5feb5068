-- A session that stores its offset, and then confirms it: what it may leave on the way.
use Rattle.std.proofs.Common.{◌≡◌, ◌∙◌, ◌⊎◌, inl, inr, ◌≤◌, ℕ, max, Option, Some, List, [], ◌∷◌, ◌++◌, length, refl, sym, ap, ap₂, subst, arith, IsTrue, Bool}
use Rattle.dbl_base.specs.declared.lsn.Lsn.{Lsn}
use Rattle.dbl_record.specs.declared.record.Record.{Record}
use Rattle.dbl_record.specs.Cuts.{cut}
use Rattle.dbl_topic.specs.Model.{SinkModel}
use Rattle.dbl_capture_work.specs.Source.Model.{SourceModel}
use Rattle.dbl_capture_work.specs.Disk.Model.{DiskModel}
use Rattle.dbl_capture_work.specs.ModelHistory.Fit.{IsFitHistory}
use Rattle.dbl_capture_work.specs.ModelHistory.History.{RawBody, RawCommit}
use Rattle.dbl_capture_work.specs.ModelHistory.History.RawBody.{Changes, Mark, Alter}
use Rattle.dbl_capture_work.specs.SourceModel.Calls.{IsConfirmed}
use Rattle.dbl_capture_work.specs.SourceModel.Growth.{HasChanges, AreOthers, Grows, mark_in_body, marks_in}
use Rattle.dbl_capture_work.specs.SourceModel.Leaves.{MayFollow, MayFollowConfirm}
use Rattle.dbl_capture_work.specs.SourceModel.Standings.{Reading, SourceState, CrashState, left_of}
use Rattle.dbl_capture_work.specs.Offset.declared.offset.Offset.{Offset}
use Rattle.dbl_capture_work.specs.OffsetStore.Stores.{StoreOn, HoldsOffset, LeavesOffset, disk_of}
use Rattle.dbl_capture_work.specs.Follow.Followed.{Following}
use Rattle.dbl_capture_work.specs.CaptureModel.Entries.{SessionStart, WasFaithful}
use Rattle.dbl_capture_work.specs.CaptureModel.Stages.{Stage, next_offset}
use Rattle.dbl_capture_work.specs.CaptureModel.Going.{IsGoing}
use Rattle.dbl_capture_work.specs.CaptureModel.Steps.{stored_at}
use Rattle.dbl_capture_work.specs.CaptureModel.Outcomes.{FollowsSession}
use Rattle.dbl_capture_work.proofs.CaptureModelEnding.{stood_of}
use Rattle.dbl_capture_work.proofs.CaptureModelStepping.{confirms_keep_going, stores_keep_going}
use Rattle.dbl_capture_work.specs.declared.work.SessionState.{SessionState}
use Rattle.dbl_capture_laws.specs.Sessions.{state_at_stage, InSession, IsWorkOf, AddsFewOrNoMarks, LeavesBy}
use Rattle.dbl_capture_laws.specs.Turns.{HasReadAllAt, IsSettled, IsSettledWhole}
use Rattle.dbl_capture_work.specs.ModelHistory.declared.cursor.Cursor.{Cursor}
use Rattle.dbl_capture_work.specs.Works.{next_offset_of, rest_in}
use Rattle.dbl_capture_laws.proofs.Within.{open_cursors, open_left, settled_open}
use Rattle.dbl_capture_laws.proofs.Keeping.{held_left, left_weaker, left_others, left_confirm, settled_work, source_ends, store_ends, stored_on, confirmed_low, rests_left, few_at, few_rest, some_chunk}

-- commits of others have no watermark
others_none : (commits : List RawCommit) → AreOthers commits → length (marks_in commits) ≡ 0
others_none [] others = refl
others_none (c ∷ commits) others = by c.body others.0 (others_none commits others.1)
  where
    by : (body : RawBody) → HasChanges body → length (marks_in commits) ≡ 0 → length (mark_in_body body ++ marks_in commits) ≡ 0
    by (Changes changes) has rest = rest
    by (Mark value) has rest = absurd has
    by (Alter name columns rows) has rest = rest

module _ {S K D : Type 0} {tell : Bool} {source_model : SourceModel S} {sink_model : SinkModel K} {model : DiskModel D} {entry : SessionStart} {work : SessionState} {src : S} {sink : K} {store : StoreOn D}
    (s : InSession tell source_model sink_model model entry work src sink store) where
  -- the offset that the session would store is the next one of its stage
  pub next_is : next_offset_of work ≡ next_offset s.stage
  next_is = ap₂ (λ (o : Offset) (l : List Cursor). (let n : Offset = record o { cursors = l } in n)) s.work_is.offset_is
      (open_cursors s.stage.messages work s.ahead ∙ ap (λ (f : Following). f.cursors) s.work_is.follower_is)

  -- few watermarks were added where only others have committed since
  pub few_followed : (left : CrashState) → Grows s.stage.history left.history → AddsFewOrNoMarks entry left
  few_followed left g = few_at s left g.others (some_chunk s) (record { tables = g.tables; commits = g.commits }) (others_none g.others g.are_others)

  -- ---- a call of the source fails

  -- of one that may have let others commit, and nothing else
  pub follow_fails : (src2 : S) → ((left : CrashState) → source_model.may_leave src2 left → MayFollow (state_at_stage s.stage) left) → ((left : CrashState) → source_model.may_leave src2 left → IsFitHistory left.history)
      → (IsTrue tell → (groups : List (List Record)) → sink_model.may_leave sink groups → groups ≡ s.stage.groups ++ cut s.ahead.put) → (left : CrashState) × source_model.may_leave src2 left → (IsTrue tell → (groups : List (List Record)) × sink_model.may_leave sink groups) → LeavesBy tell source_model sink_model model entry src2 sink store
  follow_fails src2 may fit only some_source some_sink =
      source_ends s src2 (λ faithful left is. left_others s.stage left (may left is) (fit left is) (confirmed_low s faithful)) only
      (λ left is. few_followed left (may left is).grows) some_source some_sink

  -- of a confirm, of a position that isn't after the stored offset
  pub confirm_fails : (src2 : S) (upto : Lsn) → upto.0 ≤ s.stage.stored.lsn.0 → ((left : CrashState) → source_model.may_leave src2 left → MayFollowConfirm upto (state_at_stage s.stage) left)
      → ((left : CrashState) → source_model.may_leave src2 left → IsFitHistory left.history) → (IsTrue tell → (groups : List (List Record)) → sink_model.may_leave sink groups → groups ≡ s.stage.groups ++ cut s.ahead.put) → (left : CrashState) × source_model.may_leave src2 left → (IsTrue tell → (groups : List (List Record)) × sink_model.may_leave sink groups)
      → LeavesBy tell source_model sink_model model entry src2 sink store
  confirm_fails src2 upto le may fit only some_source some_sink =
      source_ends s src2 (λ faithful left is. left_confirm s.stage left upto (may left is) (fit left is) (confirmed_low s faithful) le) only
      (λ left is. few_followed left (may left is).grows) some_source some_sink

  -- ---- a store fails

  either_next : (left : Option Offset) → (left ≡ Some s.stage.stored) ⊎ (left ≡ Some (next_offset_of work)) → (left ≡ Some s.stage.stored) ⊎ (left ≡ Some (next_offset s.stage))
  either_next left (inl same) = inl same
  either_next left (inr same) = inr (same ∙ ap (λ (o : Offset). Some o) next_is)

  pub store_fails : (store2 : StoreOn D) (honest : Type 0)
      → (IsTrue tell → LeavesOffset model (disk_of store2) (λ left. (left ≡ Some s.stage.stored) ⊎ (left ≡ Some (next_offset_of work))))
      → ((t : SourceState) (l : CrashState) → source_model.stands src t → source_model.may_leave src l → l ≡ left_of t) → ((t : SourceState) → source_model.stands src t → source_model.may_leave src (left_of t)) → honest → (honest → (l : CrashState) → source_model.may_leave src l → IsFitHistory l.history)
      → (IsTrue tell → (groups : List (List Record)) → sink_model.may_leave sink groups → groups ≡ s.stage.groups ++ cut s.ahead.put) → (IsTrue tell → (groups : List (List Record)) × sink_model.may_leave sink groups) → LeavesBy tell source_model sink_model model entry src sink store2
  store_fails store2 honest leaves only may is_honest fit only_sink some_sink =
      store_ends s store2
      (λ t. left_weaker model (disk_of store2) (λ left. (left ≡ Some s.stage.stored) ⊎ (left ≡ Some (next_offset_of work))) (λ left. (left ≡ Some s.stage.stored) ⊎ (left ≡ Some (next_offset s.stage))) (leaves t) either_next)
      (rests_left s honest only is_honest fit) only_sink
      (λ left is. few_rest s left (only (state_at_stage s.stage) left s.source_is is) (some_chunk s))
      (left_of (state_at_stage s.stage), may (state_at_stage s.stage) s.source_is) some_sink

-- ---- after a store that was answered

-- the position that is confirmed is the stored offset's
pub stored_lsn : (work : SessionState) (stage : Stage) → work.offset ≡ record stage.first { lsn = stage.lsn; end_lsn = stage.end_lsn } → (next_offset_of work).lsn.0 ≡ stage.lsn.0
stored_lsn work stage is = ap (λ (o : Offset). o.lsn.0) is

same_le : (a b : ℕ) → a ≡ b → a ≤ b
same_le a b is = omega (arith, is)

low_on : (a b c : ℕ) → a ≤ b → b ≤ c → a ≤ c
low_on a b c one two = omega (arith, one, two)

up_to : (a b c l : ℕ) → a ≡ max b c → c ≡ l → l ≤ a
up_to a b c l is same = omega (arith, is, same)

module _ {S K D : Type 0} {tell : Bool} {source_model : SourceModel S} {sink_model : SinkModel K} {model : DiskModel D} {entry : SessionStart} {work : SessionState} {src : S} {sink : K} {store : StoreOn D}
    (s : InSession tell source_model sink_model model entry work src sink store) where
  -- it agrees with the stage after the store
  pub settled_work_of : IsWorkOf entry (stored_at s.stage) (rest_in (settled_open s.stage.messages work s.work_is.is.some s.ahead))
  settled_work_of = record {
    is = settled_work s.stage.first.lsn s.stage.messages (rest_in s.ahead) s.work_is.is;
    offset_is = s.work_is.offset_is;
    follower_is = s.work_is.follower_is;
    now_is = s.work_is.now_is;
    chunk_is = s.work_is.chunk_is;
    every_is = s.work_is.every_is;
    since_is = refl;
    number_is = s.work_is.number_is;
  }

  abbrev pub rested_work : SessionState
  rested_work = record work { since = 0 }

  pub held_next : (store2 : StoreOn D) → (IsTrue tell → HoldsOffset model store2 (Some (next_offset_of work))) → IsTrue tell → HoldsOffset model store2 (Some (next_offset s.stage))
  held_next store2 held t = subst (λ (o : Offset). HoldsOffset model store2 (Some o)) (next_is s) (held t)

  pub stored_session : (store2 : StoreOn D) → (IsTrue tell → HoldsOffset model store2 (Some (next_offset_of work))) → InSession tell source_model sink_model model entry rested_work src sink store2
  stored_session store2 held = stored_on s rested_work store2 refl (held_next store2 held)

  -- the confirm after the store fails
  pub settle_fails : (src2 : S) (store2 : StoreOn D) → (IsTrue tell → HoldsOffset model store2 (Some (next_offset_of work)))
      → ((left : CrashState) → source_model.may_leave src2 left → MayFollowConfirm (next_offset_of work).lsn (state_at_stage s.stage) left) → ((left : CrashState) → source_model.may_leave src2 left → IsFitHistory left.history)
      → (IsTrue tell → (groups : List (List Record)) → sink_model.may_leave sink groups → groups ≡ s.stage.groups ++ cut s.ahead.put) → (left : CrashState) × source_model.may_leave src2 left → (IsTrue tell → (groups : List (List Record)) × sink_model.may_leave sink groups)
      → LeavesBy tell source_model sink_model model entry src2 sink store2
  settle_fails src2 store2 held may fit only some_source some_sink = record {
    follows = λ t faithful. left_weaker model (disk_of store2) (λ offset. offset ≡ Some (next_offset s.stage)) (λ offset. (left : CrashState) (groups : List (List Record)) → source_model.may_leave src2 left → sink_model.may_leave sink groups → FollowsSession entry left groups offset)
        (held_left model store2 (Some (next_offset s.stage)) (held_next store2 held t))
        (λ offset same left groups is_left is_groups.
        subst (λ (o : Option Offset). FollowsSession entry left groups o) (sym same) (subst (λ (g : List (List Record)). FollowsSession entry left g (Some (next_offset s.stage))) (sym (only t groups is_groups)) (follows_stored faithful left is_left)));
    few = λ left is. few_followed s left (may left is).grows;
    some_source = some_source;
    some_sink = some_sink;
  }
    where
      follows_stored : (faithful : WasFaithful entry) (left : CrashState) → source_model.may_leave src2 left
          → FollowsSession entry left (s.stage.groups ++ cut s.ahead.put) (Some (next_offset s.stage))
      follows_stored faithful left is =
          let k = s.going.kept (stood_of entry faithful) faithful in
          open_left entry (stored_at s.stage) (record work { since = 0 }) (settled_open s.stage.messages work s.work_is.is.some s.ahead) settled_work_of
          (stores_keep_going entry s.stage s.going) left (next_offset s.stage) faithful
          (left_confirm (stored_at s.stage) left (next_offset_of work).lsn (may left is) (fit left is) (low_on s.stage.confirmed.0 s.stage.stored.lsn.0 s.stage.lsn.0 k.stored_is.confirmed_to k.to) (same_le (next_offset_of work).lsn.0 s.stage.lsn.0 (stored_lsn work s.stage s.work_is.offset_is)))
          (inl refl)

  module _ (src2 : S) (store2 : StoreOn D) (t : SourceState) (held : IsTrue tell → HoldsOffset model store2 (Some (next_offset_of work))) (is : source_model.stands src2 t) (confirmed : IsConfirmed (next_offset_of work).lsn (state_at_stage s.stage) t) (fit : IsFitHistory t.history) where
    pub settled_source : source_model.stands src2 (state_at_stage (record (stored_at s.stage) { history = t.history; confirmed = t.confirmed }))
    settled_source = subst (source_model.stands src2) (ap (λ (r : Option Reading). record { history = t.history; confirmed = t.confirmed; reading = r }) confirmed.reading) is

    pub settled_going : IsGoing entry (record (stored_at s.stage) { history = t.history; confirmed = t.confirmed })
    settled_going =
        confirms_keep_going entry (stored_at s.stage) t.history t.confirmed (next_offset_of work).lsn confirmed.grows fit (same_le (next_offset_of work).lsn.0 s.stage.lsn.0 (stored_lsn work s.stage s.work_is.offset_is)) confirmed.confirmed
        (stores_keep_going entry s.stage s.going)

    pub settled_far : s.stage.lsn.0 ≤ t.confirmed.0
    settled_far = up_to t.confirmed.0 s.stage.confirmed.0 (next_offset_of work).lsn.0 s.stage.lsn.0 confirmed.confirmed (stored_lsn work s.stage s.work_is.offset_is)

    -- it has stored the next offset, and confirmed it
    abbrev pub settled_on : IsSettled tell source_model sink_model model entry (record work { since = 0 }) src2 sink store2
    settled_on = record {
      is = record {
        stage = record (stored_at s.stage) { history = t.history; confirmed = t.confirmed };
        ahead = settled_open s.stage.messages work s.work_is.is.some s.ahead;
        source_is = settled_source;
        sink_is = s.sink_is;
        store_is = held_next store2 held;
        work_is = record {
          is = settled_work s.stage.first.lsn s.stage.messages (rest_in s.ahead) s.work_is.is;
          offset_is = s.work_is.offset_is;
          follower_is = s.work_is.follower_is;
          now_is = s.work_is.now_is;
          chunk_is = s.work_is.chunk_is;
          every_is = s.work_is.every_is;
          since_is = refl;
          number_is = s.work_is.number_is;
        };
        going = settled_going;
      };
      stored_is = refl;
      confirmed = settled_far;
    }

-- so it is where everything was read
pub settled_whole : {S K D : Type 0} {tell : Bool} {source_model : SourceModel S} {sink_model : SinkModel K} {model : DiskModel D} {entry : SessionStart} {work : SessionState} {src : S} {sink : K} {store : StoreOn D}
    (h : HasReadAllAt tell source_model sink_model model entry work src sink store) (src2 : S) (store2 : StoreOn D) (t : SourceState) → (IsTrue tell → HoldsOffset model store2 (Some (next_offset_of work))) → source_model.stands src2 t → IsConfirmed (next_offset_of work).lsn (state_at_stage h.is.stage) t → IsFitHistory t.history
    → IsSettledWhole tell source_model sink_model model entry (record work { since = 0 }) src2 sink store2
settled_whole h src2 store2 t held is confirmed fit = record {
  settled = settled_on h.is src2 store2 t held is confirmed fit;
  closed = h.closed;
  more = h.more;
  all = h.all;
}
