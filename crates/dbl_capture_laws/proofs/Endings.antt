-- A session that ends: it is complete, and what it has stored is its own.
use Rattle.std.proofs.Common.{◌≡◌, ◌∙◌, ◌+◌, ◌≤◌, ℕ, suc, Bool, IsTrue, true, false, cond, Option, Some, None, List, [], ◌∷◌, ◌++◌, length, refl, sym, ap, subst, arith, append-nil}
use Rattle.std.specs.Prelude.{◌==◌, if◌then◌else◌, map, not, nat_lt, IfSome}
use Rattle.std.specs.List.{AllByRecursion, position, prefix_len}
use Rattle.std.proofs.lemmas.Bool.Decides.{nat_tests}
use Rattle.dbl_base.specs.declared.lsn.Lsn.{Lsn}
use Rattle.dbl_record.specs.declared.record.Record.{Record}
use Rattle.dbl_topic.specs.Model.{SinkModel}
use Rattle.dbl_capture_work.specs.Source.Model.{SourceModel}
use Rattle.dbl_model_table.specs.declared.config.Config.{Config}
use Rattle.dbl_model_table.specs.declared.table.TableInfo.{TableInfo}
use Rattle.dbl_capture_work.specs.Disk.Model.{DiskModel}
use Rattle.dbl_capture_work.specs.ModelHistory.declared.cursor.Cursor.{Cursor}
use Rattle.dbl_capture_work.specs.ModelHistory.Fit.{AreInfosOf, IsFitHistory}
use Rattle.dbl_capture_work.specs.ModelHistory.History.{History, RawCommit}
use Rattle.dbl_capture_work.specs.SourceModel.Standings.{SourceState, CrashState, left_of}
use Rattle.dbl_capture_work.specs.Offset.declared.offset.Offset.{Offset}
use Rattle.dbl_capture_work.specs.OffsetStore.Stores.{HoldsOffset, StoreOn, disk_of}
use Rattle.dbl_capture_work.specs.Follow.declared.window.Window.{Window}
use Rattle.dbl_capture_work.specs.Follow.declared.window.Window.TheVariants.{Absent}
use Rattle.dbl_capture_work.specs.Follow.Followed.{Following}
use Rattle.dbl_capture_work.specs.Faithful.Stores.{IsPositionOf}
use Rattle.dbl_capture_work.specs.CaptureModel.Entries.{SessionStart}
use Rattle.dbl_capture_work.specs.CaptureModel.Stages.{IsOfSession, next_offset}
use Rattle.dbl_capture_work.specs.CaptureModel.Outcomes.{IsComplete}
use Rattle.dbl_capture_work.proofs.CaptureModelCompleting.{read_sessions_are_complete}
use Rattle.dbl_capture_work.specs.declared.report.Report.{Report}
use Rattle.dbl_capture_work.specs.declared.work.SessionState.{SessionState}
use Rattle.dbl_capture_work.specs.Begins.{AreInfosAt, IsOffsetFor}
use Rattle.dbl_record.specs.Cuts.{cut}
use Rattle.dbl_capture_laws.proofs.Opened.{put_none}
use Rattle.dbl_capture_laws.proofs.Within.{open_cursors}
use Rattle.dbl_capture_laws.specs.Ends.{AreAllDone, HasNoneNext, HasOwnStored, IsAtPosition, IsCompleteWith, LeavesComplete, table_to_read}
use Rattle.dbl_capture_laws.specs.Found.{HasStored, IsFirstAtHead, IsFirstIn, IsFirstStored, IsStoredBy, position_of}
use Rattle.dbl_capture_laws.specs.Sessions.{state_at_stage, InSession}
use Rattle.dbl_capture_laws.specs.Turns.{IsSettledWhole}
use Rattle.dbl_capture_laws.proofs.Keeping.{held_left, left_weaker, rests_left}

-- ---- no table is left

short : (n m : ℕ) → nat_lt n m ≡ false → m ≤ n
short n m is = grind (arith, nat_tests)

less_one : (n m : ℕ) → suc n ≤ 1 + m → n ≤ m
less_one n m le = omega (arith, le)

no_room : (n : ℕ) → suc n ≤ 0 → ⊥
no_room n le = omega (arith, le)

whole_prefix : (cursors : List Cursor) → length cursors ≤ prefix_len (λ c. not (not c.done)) cursors → AllByRecursion (λ cursor. cursor.done ≡ true) cursors
whole_prefix [] le = tt
whole_prefix (c ∷ cursors) le = by (whole_prefix cursors) c.done refl le
  where
    by : (length cursors ≤ prefix_len (λ c. not (not c.done)) cursors → AllByRecursion (λ cursor. cursor.done ≡ true) cursors) → (b : Bool) → c.done ≡ b
        → suc (length cursors) ≤ cond (not (not b)) (1 + prefix_len (λ c. not (not c.done)) cursors) 0 → AllByRecursion (λ cursor. cursor.done ≡ true) (c ∷ cursors)
    by rest true is room = (is, rest (less_one (length cursors) (prefix_len (λ c. not (not c.done)) cursors) room))
    by rest false is room = absurd (no_room (length cursors) room)

-- where no cursor is found that isn't done, all are
pub none_open : (cursors : List Cursor) → position (λ cursor. not cursor.done) cursors ≡ None → AllByRecursion (λ cursor. cursor.done ≡ true) cursors
none_open cursors none = whole_prefix cursors (by (nat_lt (prefix_len (λ c. not (not c.done)) cursors) (length cursors)) refl none)
  where
    by : (b : Bool) → nat_lt (prefix_len (λ c. not (not c.done)) cursors) (length cursors) ≡ b → cond b (Some (prefix_len (λ c. not (not c.done)) cursors)) None ≡ None → length cursors ≤ prefix_len (λ c. not (not c.done)) cursors
    by true is e = cc
    by false is e = short (prefix_len (λ c. not (not c.done)) cursors) (length cursors) is

-- where no table is left and no window waits, all are done
pub all_done : (work : SessionState) → table_to_read work.follower.window work ≡ None → work.follower.window ≡ Absent → AreAllDone work.follower.cursors
all_done work none absent = none_open work.follower.cursors (ap (λ (w : Window). table_to_read w work) (sym absent) ∙ none)

-- so it is where everything was read, and the offset was stored
pub done_at : (armed work new : SessionState) → HasNoneNext armed → work ≡ armed → work.follower.window ≡ Absent → new ≡ record work { since = 0 } → AreAllDone new.follower.cursors
done_at armed work new none same absent settled =
    subst (λ (w : SessionState). AreAllDone w.follower.cursors) (sym settled) (all_done work (subst HasNoneNext (sym same) none) absent)

-- ---- complete

module _ {S K D : Type 0} {tell : Bool} {source_model : SourceModel S} {sink_model : SinkModel K} {model : DiskModel D} {entry : SessionStart} {work : SessionState} {src : S} {sink : K} {store : StoreOn D}
    (w : IsSettledWhole tell source_model sink_model model entry work src sink store) where
  abbrev s : InSession tell source_model sink_model model entry work src sink store
  s = w.settled.is

  done_so : AreAllDone work.follower.cursors → AllByRecursion (λ cursor. cursor.done ≡ true) s.stage.following.cursors
  done_so done =
      subst (λ (l : List Cursor). AllByRecursion (λ (cursor : Cursor). cursor.done ≡ true) l) (open_cursors s.stage.messages work s.ahead ∙ ap (λ (f : Following). f.cursors) s.work_is.follower_is) done

  pub complete_left : IsTrue tell → (honest : Type 0) → ((t : SourceState) (l : CrashState) → source_model.stands src t → source_model.may_leave src l → l ≡ left_of t)
      → ((groups left : List (List Record)) → sink_model.holds sink groups → sink_model.may_leave sink left → left ≡ groups) → honest → (honest → (l : CrashState) → source_model.may_leave src l → IsFitHistory l.history) → AreAllDone work.follower.cursors
      → LeavesComplete source_model.may_leave sink_model.may_leave model entry src sink store
  complete_left tells honest only only_sink is_honest fit done faithful =
      left_weaker model (disk_of store) (λ offset. offset ≡ Some s.stage.stored) (λ offset. (left : CrashState) (groups : List (List Record)) → source_model.may_leave src left → sink_model.may_leave sink groups → IsCompleteWith entry left groups offset)
      (held_left model store (Some s.stage.stored) (s.store_is tells))
      (λ offset same left groups is_left is_groups.
      subst (λ (o : Option Offset). IsCompleteWith entry left groups o) (sym same)
      (subst (λ (g : List (List Record)). IsComplete entry left g s.stage.stored) (sym (only_sink (s.stage.groups ++ cut s.ahead.put) groups (s.sink_is tells) is_groups ∙ nothing_put))
      (subst (λ (o : Offset). IsComplete entry left s.stage.groups o) (sym w.settled.stored_is) (complete_now left is_left))))
    where
      -- no transaction is open
      nothing_put : s.stage.groups ++ cut s.ahead.put ≡ s.stage.groups
      nothing_put = ap (λ (l : List Record). s.stage.groups ++ cut l) (put_none s.ahead w.closed) ∙ append-nil s.stage.groups

      complete_now : (left : CrashState) → source_model.may_leave src left → IsComplete entry left s.stage.groups (next_offset s.stage)
      complete_now left is =
          read_sessions_are_complete entry s.stage left w.more faithful w.all (done_so done) (rests_left s honest only is_honest fit faithful left is)
          (subst (λ (l : CrashState). s.stage.lsn.0 ≤ l.confirmed.0) (sym (only (state_at_stage s.stage) left s.source_is is)) w.settled.confirmed) s.going

-- ---- what is stored

-- an offset of the session is one that it stored
stored_by : (config : Config) (old : Option Offset) (first stored : Offset) → IsOffsetFor config old first → IsOfSession first stored → IsStoredBy config old stored
stored_by config None first stored for of = (of.identity ∙ for.0, ap (map (λ (info : TableInfo). info.name)) of.infos ∙ for.1, of.incarnation ∙ for.2)
stored_by config (Some found) first stored for of = (
  of.identity ∙ ap (λ (o : Offset). o.identity) for,
  of.infos ∙ ap (λ (o : Offset). o.infos) for,
  of.start ∙ ap (λ (o : Offset). o.start) for,
  of.incarnation ∙ ap (λ (o : Offset). o.incarnation) for,
)

pub has_stored : (config : Config) (old new : Option Offset) (first : Offset) → IsOffsetFor config old first → HasOwnStored first new → HasStored config old new
has_stored config old new first for own = record { offset = own.offset; is = own.is; by = stored_by config old first own.offset for own.of }

-- the first one is
pub own_first : (first : Offset) (new : Option Offset) → new ≡ Some first → HasOwnStored first new
own_first first new is = record { offset = first; is = is; of = record { identity = refl; infos = refl; versions = refl; start = refl; incarnation = refl } }

apart : (a b : ℕ) → b ≡ a + 1 → (a == b) ≡ false
apart a b is = grind (arith, nat_tests)

-- where one was stored, the report has its LSN
pub position_is : (config : Config) (old new : Option Offset) (report : Report) → HasStored config old new → IsAtPosition new report → report.position ≡ position_of old new
position_is config None new report s at = subst (λ (o : Option Offset). report.position ≡ position_of None o) (sym s.is) (subst (λ (o : Option Offset). IsAtPosition o report) s.is at)
position_is config (Some old) new report s at =
    let there : report.position ≡ s.offset.lsn.0 = subst (λ (o : Option Offset). IsAtPosition o report) s.is at in
    subst (λ (o : Option Offset). report.position ≡ position_of (Some old) o) (sym s.is)
    (there ∙ sym (ap (λ (b : Bool). if b then 0 else s.offset.lsn.0) (apart old.incarnation s.offset.incarnation s.by.3)))

-- and 0 where none was
pub position_none : (old new : Option Offset) (report : Report) → new ≡ old → report.position ≡ 0 → report.position ≡ position_of old new
position_none old new report same none = none ∙ sym (ap (position_of old) same ∙ by old)
  where
    itself : (n : ℕ) → (n == n) ≡ true
    itself n = grind (arith, nat_tests)

    by : (o : Option Offset) → position_of o o ≡ 0
    by None = refl
    by (Some offset) = ap (λ (b : Bool). if b then 0 else offset.lsn.0) (itself offset.incarnation)

-- An offset that it stored is none that it found: it raises the incarnation by its first store.
pub stored_anew : (config : Config) (old new : Option Offset) → HasStored config old new → new ≡ old → ⊥
stored_anew config None new s same = let wrong : Some s.offset ≡ None = sym s.is ∙ same in cc
stored_anew config (Some old) new s same =
    let both : Some s.offset ≡ Some old = sym s.is ∙ same in
    let one : s.offset ≡ old = cc in
    no_more old.incarnation s.offset.incarnation s.by.3 (ap (λ (o : Offset). o.incarnation) one)
  where
    no_more : (a b : ℕ) → b ≡ a + 1 → b ≡ a → ⊥
    no_more a b more is = omega (arith, more, is)

-- ---- a first offset

-- where nothing was stored, nothing is said
pub first_none : (config : Config) (history : History) (old new : Option Offset) → new ≡ old → IsFirstStored config history old new
first_none config history None new same = subst (IsFirstStored config history None) (sym same) tt
first_none config history (Some old) new same = tt

-- the session's later ones are of what the first one is
later_at_head : (config : Config) (history : History) (first later : Offset) → IsOfSession first later → IsFirstAtHead config history first → IsFirstAtHead config history later
later_at_head config history first later of f = record {
  later = f.later;
  grown = f.grown;
  infos = subst (AreInfosOf f.later) (sym of.infos) f.infos;
  described = subst (λ (l : List TableInfo). AreInfosAt f.later (length history.commits) l later.versions) (sym of.infos)
      (subst (λ (l : List ℕ). AreInfosAt f.later (length history.commits) first.infos l) (sym of.versions) f.described);
  is = record {
    identity = of.identity ∙ f.is.identity;
    tables = ap (map (λ (info : TableInfo). info.name)) of.infos ∙ f.is.tables;
    start = subst (λ (l : Lsn). IsPositionOf f.later l.0) (sym of.start) f.is.start;
    not_before = subst (λ (l : Lsn). AllByRecursion (λ (commit : RawCommit). commit.lsn.0 ≤ l.0) history.commits) (sym of.start) f.is.not_before;
    incarnation = of.incarnation ∙ f.is.incarnation;
  };
}

pub first_in_stored : (config : Config) (history later : History) (old new : Option Offset) (first : Offset) → old ≡ Some first → IfSome old (IsFirstIn config history later) → HasOwnStored first new → IfSome new (IsFirstIn config history later)
first_in_stored config history later old new first was is own =
    let of = own.of in
    let f : IsFirstIn config history later first = subst (λ (o : Option Offset). IfSome o (IsFirstIn config history later)) was is in
    subst (λ (o : Option Offset). IfSome o (IsFirstIn config history later)) (sym own.is) (record {
      infos = subst (λ (l : List TableInfo). AreInfosAt later (length history.commits) l own.offset.versions) (sym of.infos)
          (subst (λ (l : List ℕ). AreInfosAt later (length history.commits) first.infos l) (sym of.versions) f.infos);
      is = record {
        identity = of.identity ∙ f.is.identity;
        tables = ap (map (λ (info : TableInfo). info.name)) of.infos ∙ f.is.tables;
        start = subst (λ (l : Lsn). IsPositionOf later l.0) (sym of.start) f.is.start;
        not_before = subst (λ (l : Lsn). AllByRecursion (λ (commit : RawCommit). commit.lsn.0 ≤ l.0) history.commits) (sym of.start) f.is.not_before;
        incarnation = of.incarnation ∙ f.is.incarnation;
      };
    })

pub first_stored : (config : Config) (history : History) (old new : Option Offset) (first : Offset) → (old ≡ None → IsFirstAtHead config history first) → HasOwnStored first new → IsFirstStored config history old new
first_stored config history None new first at own = subst (IsFirstStored config history None) (sym own.is) (later_at_head config history first own.offset own.of (at refl))
first_stored config history (Some old) new first at own = tt

pub first_of_stored : (config : Config) (history : History) (old new : Option Offset) (first : Offset) → IsFirstStored config history old new → new ≡ Some first → old ≡ None → IsFirstAtHead config history first
first_of_stored config history None new first at is none = subst (IsFirstStored config history None) is at
first_of_stored config history (Some old) new first at is none = let wrong : Some old ≡ None = none in cc

-- ---- what the store holds

-- a store that wasn't touched holds what it held
pub held_same : {D : Type 0} (model : DiskModel D) (old new : StoreOn D) → new ≡ old → HoldsOffset model old old.offset → HoldsOffset model new new.offset
held_same {D} model old new same held = subst (λ (s : StoreOn D). HoldsOffset model s s.offset) (sym same) held

-- and one that answered what it stored holds that
pub held_stored : {D : Type 0} (model : DiskModel D) (new : StoreOn D) (offset : Offset) → new.offset ≡ Some offset → HoldsOffset model new (Some offset) → HoldsOffset model new new.offset
held_stored model new offset is held = subst (HoldsOffset model new) (sym is) held
