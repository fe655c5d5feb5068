-- A session that begins: what may be left where it ends before it reads, by what it found.
use Rattle.std.proofs.Common.{◌≡◌, ◌∙◌, ◌⊎◌, inl, inr, ℤ, Bool, IsTrue, true, false, Some, List, refl, sym, ap, subst}
use Rattle.dbl_record.specs.declared.record.Record.{Record}
use Rattle.dbl_topic.specs.Model.{SinkModel}
use Rattle.dbl_capture_work.specs.Source.Model.{SourceModel}
use Rattle.dbl_model_table.specs.declared.config.Config.{Config}
use Rattle.dbl_capture_work.specs.Disk.Model.{DiskModel}
use Rattle.dbl_capture_work.specs.ModelHistory.Fit.{IsFitHistory}
use Rattle.dbl_capture_work.specs.ModelHistory.History.{History, IsRising}
use Rattle.dbl_capture_work.specs.SourceModel.Growth.{Grows}
use Rattle.dbl_capture_work.specs.SourceModel.Leaves.{MayFollow}
use Rattle.dbl_capture_work.specs.SourceModel.Standings.{SourceState, CrashState, left_of}
use Rattle.dbl_capture_work.proofs.SourceModelGrowthLemmas.{grows_none}
use Rattle.dbl_capture_work.specs.Offset.declared.offset.Offset.{Offset}
use Rattle.dbl_capture_work.specs.OffsetStore.Stores.{StoreOn, HoldsOffset, LeavesOffset, disk_of}
use Rattle.dbl_capture_work.specs.CaptureModel.Entries.{SessionStart}
use Rattle.dbl_capture_work.specs.Begins.{MayRest}
use Rattle.dbl_capture_laws.specs.Found.{BeganAt, BeginsAt, Found, IsFound, session_start_at}
use Rattle.dbl_capture_laws.specs.Sessions.{LeavesBy, LeavesGoing}
use Rattle.dbl_capture_laws.proofs.Beginnings.{first_left, unread_left}
use Rattle.dbl_capture_laws.proofs.Keeping.{held_left, left_weaker}

-- ---- where nothing happened, or others may have committed

rest_grows : (s : SourceState) (l : CrashState) → IsRising s.history → MayRest s l → Grows s.history l.history
rest_grows s l rise (inl same) = subst (λ (x : CrashState). Grows s.history x.history) (sym same) (grows_none s.history rise)
rest_grows s l rise (inr may) = may.grows

rest_confirmed : (s : SourceState) (l : CrashState) → MayRest s l → l.confirmed ≡ s.confirmed
rest_confirmed s l (inl same) = ap (λ (x : CrashState). x.confirmed) same
rest_confirmed s l (inr may) = may.confirmed

module _ {S K D : Type 0} {tell : Bool} {source_model : SourceModel S} {sink_model : SinkModel K} {model : DiskModel D} {entry : SessionStart} {src : S} {sink : K} {store : StoreOn D}
    (f : IsFound tell source_model sink_model model entry src sink store) where
  module _ (only_sink : (groups left : List (List Record)) → sink_model.holds sink groups → sink_model.may_leave sink left → left ≡ groups)
      (may_hold : (groups : List (List Record)) → sink_model.holds sink groups → sink_model.may_leave sink groups) (fit_entry : IsFitHistory entry.history) (src2 : S) (fit : (left : CrashState) → source_model.may_leave src2 left → IsFitHistory left.history) where
    own_groups : IsTrue tell → (groups : List (List Record)) → sink_model.may_leave sink groups → groups ≡ entry.groups
    own_groups t groups is = only_sink entry.groups groups (f.sink_is t) is

    some_groups : IsTrue tell → (groups : List (List Record)) × sink_model.may_leave sink groups
    some_groups t = (entry.groups, may_hold entry.groups (f.sink_is t))

    -- before the first store
    pub rest_left : IsRising f.standing.history → ((left : CrashState) → source_model.may_leave src2 left → MayRest f.standing left) → (left : CrashState) × source_model.may_leave src2 left → LeavesBy tell source_model sink_model model entry src2 sink store
    rest_left rise may some_source =
        unread_left tell source_model sink_model model entry src2 sink fit_entry fit (λ left is. rest_confirmed f.standing left (may left is) ∙ f.confirmed) own_groups some_source some_groups store f.store_is
        (λ left is. subst (λ (h : History). Grows h left.history) f.history (rest_grows f.standing left rise (may left is)))

    -- in it
    pub store_left : (t : SourceState) (first : Offset) (store2 : StoreOn D) → source_model.stands src2 t → IsRising t.history → ((left : CrashState) → source_model.may_leave src2 left → left ≡ left_of t) → source_model.may_leave src2 (left_of t) → BeginsAt entry first f.standing t
        → (IsTrue tell → LeavesOffset model (disk_of store2) (λ offset. (offset ≡ entry.offset) ⊎ (offset ≡ Some first))) → LeavesBy tell source_model sink_model model entry src2 sink store2
    store_left t first store2 is rise only may b leaves =
        first_left tell source_model sink_model model entry src2 sink fit_entry fit (λ left is_left. ap (λ (l : CrashState). l.confirmed) (only left is_left) ∙ (b.moved.confirmed ∙ f.confirmed)) own_groups (left_of t, may) some_groups
        t.history first b.infos b.began (subst (λ (h : History). Grows h t.history) f.history b.moved.grows)
        (λ left is_left. subst (λ (l : CrashState). Grows t.history l.history) (sym (only left is_left)) (grows_none t.history rise)) store2 leaves

  -- after it
  pub began_at : (src2 : S) (store2 : StoreOn D) (t : SourceState) (first : Offset) → source_model.stands src2 t → BeginsAt entry first f.standing t → (IsTrue tell → HoldsOffset model store2 (Some first)) → BeganAt tell source_model sink_model model entry first src2 sink store2
  began_at src2 store2 t first is b held = record {
    standing = t;
    source_is = is;
    grown = subst (λ (h : History). Grows h t.history) f.history b.moved.grows;
    confirmed = b.moved.confirmed ∙ f.confirmed;
    infos = b.infos;
    began = b.began;
    sink_is = f.sink_is;
    store_is = held;
  }

module _ {S K D : Type 0} {tell : Bool} {source_model : SourceModel S} {sink_model : SinkModel K} {model : DiskModel D} {entry : SessionStart} {first : Offset} {src : S} {sink : K} {store : StoreOn D}
    (b : BeganAt tell source_model sink_model model entry first src sink store) where
  -- where reading is to begin
  pub start_left : ((groups left : List (List Record)) → sink_model.holds sink groups → sink_model.may_leave sink left → left ≡ groups) → ((groups : List (List Record)) → sink_model.holds sink groups → sink_model.may_leave sink groups)
      → IsFitHistory entry.history → (src2 : S) → ((left : CrashState) → source_model.may_leave src2 left → IsFitHistory left.history) → ((left : CrashState) → source_model.may_leave src2 left → MayFollow b.standing left) → (left : CrashState) × source_model.may_leave src2 left → LeavesBy tell source_model sink_model model entry src2 sink store
  start_left only_sink may_hold fit_entry src2 fit may some_source =
      first_left tell source_model sink_model model entry src2 sink fit_entry fit (λ left is. (may left is).confirmed ∙ b.confirmed) (λ t groups is. only_sink entry.groups groups (b.sink_is t) is) some_source (λ t. (entry.groups, may_hold entry.groups (b.sink_is t)))
      b.standing.history first b.infos b.began b.grown (λ left is. (may left is).grows) store
      (λ t. left_weaker model (disk_of store) (λ offset. offset ≡ Some first) (λ offset. (offset ≡ entry.offset) ⊎ (offset ≡ Some first)) (held_left model store (Some first) (b.store_is t)) (λ offset is. inr is))

-- ---- what it found

module _ {S K D : Type 0} {source_model : SourceModel S} {sink_model : SinkModel K} {model : DiskModel D} {entry : SessionStart} {src : S} {sink : K} {store : StoreOn D} where
  -- where the three tell
  pub told_found : Found source_model.stands sink_model.holds model entry src sink store → IsFound true source_model sink_model model entry src sink store
  told_found f = record {
    standing = f.standing;
    source_is = f.source_is;
    history = f.history;
    confirmed = f.confirmed;
    offset_is = sym f.store_is.offset_is;
    sink_is = λ t. f.sink_is;
    store_is = λ t. f.store_is;
  }

-- what they may leave
pub going_left : {S K D : Type 0} {source_model : SourceModel S} {sink_model : SinkModel K} {model : DiskModel D} {entry : SessionStart} {src : S} {sink : K} {store : StoreOn D}
    → LeavesBy true source_model sink_model model entry src sink store → LeavesGoing source_model.may_leave sink_model.may_leave model entry src sink store
going_left l = record { follows = l.follows refl; some_source = l.some_source; some_sink = l.some_sink refl }

-- where the source alone tells
pub source_found : {S K D : Type 0} (source_model : SourceModel S) (sink_model : SinkModel K) (model : DiskModel D) (config : Config) (now : ℤ) (s : SourceState) (src : S) (sink : K) (store : StoreOn D)
    → source_model.stands src s → IsFound false source_model sink_model model (session_start_at config now s store.offset) src sink store
source_found source_model sink_model model config now s src sink store is = record {
  standing = s;
  source_is = is;
  history = refl;
  confirmed = refl;
  offset_is = refl;
  sink_is = λ t. absurd (not_told t);
  store_is = λ t. absurd (not_told t);
}
  where
    not_told : IsTrue false → ⊥
    not_told t = cc
