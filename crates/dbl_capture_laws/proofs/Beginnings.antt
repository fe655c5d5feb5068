-- A session that begins: what it may leave before it reads, and what it keeps from then on.
use Rattle.std.proofs.Common.{◌≡◌, ◌∙◌, ◌⊎◌, inl, inr, ◌+◌, ◌≤◌, ◌<◌, ◌^◌, ℕ, suc, zero, Bool, IsTrue, Option, Some, None, List, [], ◌∷◌, length, map, take, refl, sym, ap, ap₂, subst, arith, le_refl, append-nil}
use Rattle.std.specs.Prelude.{IfSome, slice_get}
use Rattle.std.specs.List.{AllByRecursion, AllZip}
use Rattle.dbl_base.specs.declared.lsn.Lsn.{Lsn}
use Rattle.dbl_record.specs.declared.record.Record.{Record}
use Rattle.dbl_topic.specs.Model.{SinkModel}
use Rattle.dbl_capture_work.specs.Source.Model.{SourceModel}
use Rattle.dbl_model_table.specs.declared.config.Config.{Config}
use Rattle.dbl_model_table.specs.declared.table.TableInfo.{TableInfo}
use Rattle.dbl_model_table.specs.declared.table.TableName.{TableName}
use Rattle.dbl_model_table.specs.Configs.{IsGoodConfig}
use Rattle.dbl_model_table.specs.Tables.{are_distinct, same_name}
use Rattle.dbl_model_table.proofs.Lists.{slice_get-lt}
use Rattle.dbl_capture_work.specs.Disk.Model.{DiskModel}
use Rattle.dbl_capture_work.specs.ModelHistory.declared.cursor.Cursor.{Cursor}
use Rattle.dbl_capture_work.specs.ModelHistory.Cursors.{AreCursorsOf}
use Rattle.dbl_capture_work.specs.ModelHistory.Fit.{AreInfosOf, IsFitHistory}
use Rattle.dbl_capture_work.specs.ModelHistory.History.{AreRising, RawCommit, History, IsRising}
use Rattle.dbl_capture_work.specs.SourceModel.Calls.{IsBegun, Moved, head_after, head_of, IsHead}
use Rattle.dbl_capture_work.specs.SourceModel.Growth.{Grows, KeepsColumns}
use Rattle.dbl_capture_work.specs.SourceModel.Standings.{HasState, Reading, SourceState, CrashState}
use Rattle.dbl_capture_work.proofs.SourceModelGrowthLemmas.{grows_none, grows_on, no_mark_more}
use Rattle.dbl_capture_work.specs.Offset.declared.offset.Offset.{Offset}
use Rattle.dbl_capture_work.specs.OffsetStore.Stores.{StoreOn, HoldsOffset, LeavesOffset, disk_of}
use Rattle.dbl_capture_work.proofs.FaithfulItems.{at_left, at_take, at_all, all_by_place, mapped, map_get, taken_at}
use Rattle.dbl_capture_work.specs.Faithful.Lag.{IsUnread}
use Rattle.dbl_capture_work.specs.Faithful.Kept.{IsTakenOver}
use Rattle.dbl_capture_work.specs.Faithful.Onward.{IsFirstOffset}
use Rattle.dbl_capture_work.specs.Faithful.Stores.{IsCommitAt, IsPositionOf}
use Rattle.dbl_capture_work.proofs.FaithfulLists.{longer, is_longer}
use Rattle.dbl_capture_work.proofs.WindowHonestLemmas.{captured_stays}
use Rattle.dbl_capture_work.specs.CaptureModel.Entries.{SessionStart, HadOwnTables, WasFaithful}
use Rattle.dbl_capture_work.specs.CaptureModel.Going.{IsFirstOf, BeganWith}
use Rattle.dbl_capture_work.specs.CaptureModel.Outcomes.{FollowsSession}
use Rattle.dbl_capture_work.specs.CaptureModel.Steps.{begun_at, following_of}
use Rattle.dbl_capture_work.proofs.CaptureModelBeginning.{unread_sessions_follow, first_offsets_follow}
use Rattle.dbl_capture_work.proofs.CaptureModelGrowing.{first_longer}
use Rattle.dbl_capture_work.proofs.CaptureModelStarting.{sessions_begin}
use Rattle.dbl_capture_work.specs.declared.work.SessionState.{SessionState}
use Rattle.dbl_capture_work.specs.Begins.{AreInfosAt, IsAgain, IsFirstOffsetAtHead, IsOffsetFor}
use Rattle.dbl_capture_work.specs.Works.{IsWork}
use Rattle.dbl_capture_work.proofs.Describing.{described_at, infos_of}
use Rattle.dbl_capture_laws.proofs.Opened.{opens_none, rest_none}
use Rattle.dbl_capture_laws.specs.Found.{BeganAt, BeginsAt, IsFirstAtHead}
use Rattle.dbl_capture_laws.specs.Sessions.{InSession, AddsFewOrNoMarks, LeavesBy}
use Rattle.dbl_capture_work.specs.Works as works
use Rattle.dbl_capture_laws.proofs.Keeping.{held_left, left_weaker}

-- ---- the head

no_less : (a b c : ℕ) → a < b → b ≤ c → a ≤ c
no_less a b c lt le = omega (arith, lt, le)

-- it isn't before what it is after
head_ge : (lsn : Lsn) (cs : List RawCommit) → AreRising lsn.0 (map (λ (c : RawCommit). c.lsn.0) cs) → lsn.0 ≤ (head_after lsn cs).0
head_ge lsn [] rise = le_refl lsn.0
head_ge lsn (c ∷ cs) rise = no_less lsn.0 c.lsn.0 (head_after c.lsn cs).0 rise.0 (head_ge c.lsn cs rise.1)

-- nor before any of them
under_head : (low : ℕ) (lsn : Lsn) (cs : List RawCommit) → AreRising low (map (λ (c : RawCommit). c.lsn.0) cs) → AllByRecursion (λ c. c.lsn.0 ≤ (head_after lsn cs).0) cs
under_head low lsn [] rise = tt
under_head low lsn (c ∷ cs) rise = (head_ge c.lsn cs rise.1, under_head c.lsn.0 c.lsn cs rise.1)

-- it is one of them, where there is one
head_is : (lsn : Lsn) (cs : List RawCommit) → (head_after lsn cs ≡ lsn) ⊎ ((place : ℕ) × (slice_get (map (λ (c : RawCommit). c.lsn.0) cs) place ≡ Some (head_after lsn cs).0))
head_is lsn [] = inl refl
head_is lsn (c ∷ cs) = elim (head_is c.lsn cs) [
  | inl same ↦ inr (zero, ap (λ (l : Lsn). Some l.0) (sym same))
  | inr at ↦ inr (suc at.0, at.1)
]

rising_take : (low n : ℕ) (cs : List RawCommit) → AreRising low (map (λ (c : RawCommit). c.lsn.0) cs) → AreRising low (map (λ (c : RawCommit). c.lsn.0) (take n cs))
rising_take low zero cs rise = tt
rising_take low (suc n) [] rise = tt
rising_take low (suc n) (c ∷ cs) rise = (rise.0, rising_take c.lsn.0 n cs rise.1)

-- a head at some place of a history is a position of it
pub head_position : (history : History) (lsn : Lsn) (place : ℕ) → lsn ≡ head_of (take place history.commits) → IsPositionOf history lsn.0
head_position history lsn place is = subst (λ (l : Lsn). IsPositionOf history l.0) (sym is) (by (head_is (record { 0 = 0 }) (take place history.commits)))
  where
    at_whole : (k : ℕ) (position : ℕ) → slice_get (map (λ (c : RawCommit). c.lsn.0) (take place history.commits)) k ≡ Some position → IsCommitAt history position
    at_whole k position at =
        let found = mapped (λ (c : RawCommit). c.lsn.0) (take place history.commits) k position at in
        (k, map_get (λ (c : RawCommit). c.lsn.0) history.commits k found.0 (taken_at place history.commits k found.0 found.1).1 ∙ ap (λ (n : ℕ). Some n) (sym found.2))

    by : (head_of (take place history.commits) ≡ record { 0 = 0 }) ⊎ ((k : ℕ) × (slice_get (map (λ (c : RawCommit). c.lsn.0) (take place history.commits)) k ≡ Some (head_of (take place history.commits)).0)) → IsPositionOf history (head_of (take place history.commits)).0
    by (inl none) = inl (ap (λ (l : Lsn). l.0) none)
    by (inr at) = inr (at_whole at.0 (head_of (take place history.commits)).0 at.1)

lt_le : (a b c : ℕ) → a < b → b ≤ c → a < c
lt_le a b c lt le = omega (arith, lt, le)

-- and isn't before any commit that stood at the call
pub head_not_before : (old new : History) (lsn : Lsn) (place : ℕ) → Grows old new → IsRising new → length old.commits ≤ place → lsn ≡ head_of (take place new.commits) → AllByRecursion (λ commit. commit.lsn.0 ≤ lsn.0) old.commits
head_not_before old new lsn place g rise le is =
    subst (λ (l : Lsn). AllByRecursion (λ (commit : RawCommit). commit.lsn.0 ≤ l.0) old.commits) (sym is)
    (all_by_place (λ (c : RawCommit). c.lsn.0 ≤ (head_of (take place new.commits)).0) old.commits (λ k c at.
    at_all (λ (x : RawCommit). x.lsn.0 ≤ (head_of (take place new.commits)).0) (take place new.commits) k c
    (under_head 0 (record { 0 = 0 }) (take place new.commits) (rising_take 0 place new.commits rise))
    (at_take place new.commits k c (ap (λ (l : List RawCommit). slice_get l k) g.commits ∙ at_left old.commits g.others k c at) (lt_le k (length old.commits) place (slice_get-lt old.commits k c at) le))))

-- ---- the first offset

no_length : (n : ℕ) → zero ≡ suc n → ⊥
no_length n e = omega (arith, e)

some_length : (n : ℕ) → suc n ≡ zero → ⊥
some_length n e = omega (arith, e)

one_less : (n m : ℕ) → suc n ≡ suc m → n ≡ m
one_less n m e = omega (arith, e)

-- as many cursors as tables, of which nothing was read
pub unread_zip : (infos : List TableInfo) (cursors : List Cursor) → length cursors ≡ length infos → AllByRecursion IsUnread cursors → AllZip (λ info cursor. IsUnread cursor) infos cursors
unread_zip [] [] same all = tt
unread_zip [] (c ∷ cursors) same all = absurd (some_length (length cursors) same)
unread_zip (i ∷ infos) [] same all = absurd (no_length (length infos) same)
unread_zip (i ∷ infos) (c ∷ cursors) same all = (all.0, unread_zip infos cursors (one_less (length cursors) (length infos) same) all.1)

-- what is made at a head is a first offset
pub first_offset : (config : Config) (infos : List TableInfo) (head : Lsn) (first : Offset) (s t : SourceState) → Grows s.history t.history → IsRising t.history → IsFirstOffsetAtHead config infos head first
    → map (λ info. info.name) infos ≡ config.tables → IsHead head s t → IsFirstOffset config s.history t.history first
first_offset config infos head first s t g rise is names at = record {
  identity = is.identity;
  tables = ap (map (λ (info : TableInfo). info.name)) is.infos_are ∙ names;
  start = subst (λ (l : Lsn). IsPositionOf t.history l.0) (sym is.start) (head_position t.history head at.place at.is);
  not_before = subst (λ (l : Lsn). AllByRecursion (λ (commit : RawCommit). commit.lsn.0 ≤ l.0) s.history.commits) (sym is.start)
      (head_not_before s.history t.history head at.place g rise at.not_before at.is);
  incarnation = is.incarnation;
}

pub first_at_head : (config : Config) (infos : List TableInfo) (head : Lsn) (first : Offset) (s t : SourceState) → Moved s t → IsRising t.history → IsFirstOffsetAtHead config infos head first
    → map (λ info. info.name) infos ≡ config.tables → AreInfosOf t.history infos → IsHead head s t → AreInfosAt t.history (length s.history.commits) first.infos first.versions
    → IsFirstAtHead config s.history first
first_at_head config infos head first s t moved rise is names are at described = record {
  later = t.history;
  grown = moved.grows;
  infos = subst (AreInfosOf t.history) (sym is.infos_are) are;
  described = described;
  is = first_offset config infos head first s t moved.grows rise is names at;
}

-- what a first session describes and finds, if no table is altered
pub record FirstFound (config : Config) (offset : Offset) (s t : SourceState) : Type 0 where
  pub moved : Moved s t
  pub infos : List TableInfo
  pub head : Lsn
  pub is : IsFirstOffsetAtHead config infos head offset
  pub names : map (λ info. info.name) infos ≡ config.tables
  pub are : AreInfosOf t.history infos
  pub at : IsHead head s t
  pub described : AreInfosAt t.history (length s.history.commits) offset.infos offset.versions

pub first_found : {S : Type 0} (stands : S → SourceState → Type 0) (src : S) (config : Config) (offset : Offset) (s : SourceState) → ((a b : SourceState) → stands src a → stands src b → a ≡ b) → ((t : SourceState) → stands src t → KeepsColumns t.history) → IsGoodConfig config
    → HasState stands src (λ t. Moved s t × ((infos : List TableInfo) × (head : Lsn) × IsFirstOffsetAtHead config infos head offset × (map (λ info. info.name) infos ≡ config.tables) × IsHead head s t))
    → HasState stands src (λ t. AreInfosAt t.history (length s.history.commits) offset.infos offset.versions) → HasState stands src (FirstFound config offset s)
first_found stands src config offset s one kept good first said =
    let t = first.standing in
    let infos = first.holds.1.0 in
    let names = first.holds.1.3 in
    let since : ℕ = length s.history.commits in
    let described : AreInfosAt t.history since offset.infos offset.versions = subst (λ (x : SourceState). AreInfosAt x.history since offset.infos offset.versions) (one said.standing t said.is first.is) said.holds in
    record {
      standing = t;
      is = first.is;
      holds = record {
        moved = first.holds.0;
        infos = infos;
        head = first.holds.1.1;
        is = first.holds.1.2;
        names = names;
        are = infos_of t.history since infos offset.versions (kept t first.is) (subst (λ (l : List TableName). IsTrue (are_distinct same_name l)) (sym names) good.distinct) (subst (λ (l : List TableInfo). AreInfosAt t.history since l offset.versions) first.holds.1.2.infos_are described);
        at = first.holds.1.4;
        described = described;
      };
    }

-- ---- where it begins

taken_over : (old first : Offset) → first ≡ record old { incarnation = old.incarnation + 1 } → IsTakenOver old first × (first.incarnation ≡ old.incarnation + 1)
taken_over old first is = (
  record {
    identity = ap (λ (o : Offset). o.identity) is;
    infos = ap (λ (o : Offset). o.infos) is;
    versions = ap (λ (o : Offset). o.versions) is;
    start = ap (λ (o : Offset). o.start) is;
    lsn = ap (λ (o : Offset). o.lsn) is;
    cursors = ap (λ (o : Offset). o.cursors) is;
    incarnation = no_lower old.incarnation first.incarnation (ap (λ (o : Offset). o.incarnation) is);
  },
  ap (λ (o : Offset). o.incarnation) is,
)
  where
    no_lower : (a b : ℕ) → b ≡ a + 1 → a ≤ b
    no_lower a b e = omega (arith, e)

-- with the stored offset, of the next incarnation
pub begins_again : (entry : SessionStart) (found : Option Offset) (first : Offset) (s : SourceState) → entry.offset ≡ found → IsAgain found (Some first) → HadOwnTables entry → s.history ≡ entry.history → IsRising s.history → BeginsAt entry first s s
begins_again entry None first s same is had history rise = absurd is
begins_again entry (Some stored) first s same is had history rise = record {
  moved = record { grows = grows_none s.history rise; confirmed = refl; reading = refl };
  infos = subst (λ (h : History). AreInfosOf h first.infos) (sym history) (subst (AreInfosOf entry.history) (sym (ap (λ (o : Offset). o.infos) is)) (subst (λ (o : Option Offset). IfSome o (λ offset. AreInfosOf entry.history offset.infos)) same had));
  began = subst (λ (o : Option Offset). IsFirstOf entry s.history first o) (sym same) (taken_over stored first is);
}

pub none_again : (found : Option Offset) → IsAgain found None → found ≡ None
none_again None is = refl
none_again (Some stored) is = absurd is

pub again_for : (config : Config) (found : Option Offset) (first : Offset) → IsAgain found (Some first) → IsOffsetFor config found first
again_for config None first is = absurd is
again_for config (Some stored) first is = is

-- or with a first one
pub begins_first : (entry : SessionStart) (config : Config) (first : Offset) (s t : SourceState) → entry.config ≡ config → entry.offset ≡ None → s.history ≡ entry.history → IsFitHistory t.history → Moved s t → (infos : List TableInfo) (head : Lsn) → IsFirstOffsetAtHead config infos head first
    → map (λ info. info.name) infos ≡ config.tables → AreInfosOf t.history infos → IsHead head s t → AreInfosAt t.history (length s.history.commits) first.infos first.versions → BeginsAt entry first s t
begins_first entry config first s t asked none history fit moved infos head is names are at described =
    let own : AreInfosOf t.history first.infos = subst (AreInfosOf t.history) (sym is.infos_are) are in
    record {
      moved = moved;
      infos = own;
      began = subst (λ (o : Option Offset). IsFirstOf entry t.history first o) (sym none) (
        subst (λ (h : History). IsFirstOffset entry.config h t.history first) history
            (subst (λ (c : Config). IsFirstOffset c s.history t.history first) (sym asked) (first_offset config infos head first s t moved.grows fit.rising is names at)),
        record {
          at_start = is.lsn ∙ sym is.start;
          unread = unread_zip first.infos first.cursors (is.cursors.many ∙ ap length (sym is.infos_are)) is.cursors.each;
          distinct = own.distinct;
          infos = described_at t.history (length s.history.commits) first.infos first.versions fit.opening described;
        },
      );
    }

-- ---- what may be left

-- where only others have committed, no watermark was added
pub few_unread : (entry : SessionStart) (left : CrashState) → Grows entry.history left.history → AddsFewOrNoMarks entry left
few_unread entry left g = inl (no_mark_more entry.history left.history g)

module _ {S K D : Type 0} (tell : Bool) (source_model : SourceModel S) (sink_model : SinkModel K) (model : DiskModel D) (entry : SessionStart) (src : S) (sink : K)
    (fit_entry : IsFitHistory entry.history) (fit : (left : CrashState) → source_model.may_leave src left → IsFitHistory left.history) (same : (left : CrashState) → source_model.may_leave src left → left.confirmed ≡ entry.confirmed)
    (only_sink : IsTrue tell → (groups : List (List Record)) → sink_model.may_leave sink groups → groups ≡ entry.groups)
    (some_source : (left : CrashState) × source_model.may_leave src left) (some_sink : IsTrue tell → (groups : List (List Record)) × sink_model.may_leave sink groups) where
  -- before the first store
  pub unread_left : (store : StoreOn D) → (IsTrue tell → HoldsOffset model store entry.offset) → ((left : CrashState) → source_model.may_leave src left → Grows entry.history left.history) → LeavesBy tell source_model sink_model model entry src sink store
  unread_left store held grows = record {
    follows = λ tells faithful. left_weaker model (disk_of store) (λ offset. offset ≡ entry.offset) (λ offset. (left : CrashState) (groups : List (List Record)) → source_model.may_leave src left → sink_model.may_leave sink groups → FollowsSession entry left groups offset)
        (held_left model store entry.offset (held tells))
        (λ offset is left groups is_left is_groups.
        subst (λ (o : Option Offset). FollowsSession entry left groups o) (sym is) (subst (λ (g : List (List Record)). FollowsSession entry left g entry.offset) (sym (only_sink tells groups is_groups))
        (unread_sessions_follow entry left faithful fit_entry (fit left is_left) (grows left is_left) (same left is_left))));
    few = λ left is_left. few_unread entry left (grows left is_left);
    some_source = some_source;
    some_sink = some_sink;
  }

  -- after it, or in it
  module _ (history : History) (first : Offset) (infos : AreInfosOf history first.infos) (began : BeganWith entry history first) (before : Grows entry.history history) (since : (left : CrashState) → source_model.may_leave src left → Grows history left.history) where
    either_follows : (faithful : WasFaithful entry) (left : CrashState) → source_model.may_leave src left → (offset : Option Offset) → (offset ≡ entry.offset) ⊎ (offset ≡ Some first) → FollowsSession entry left entry.groups offset
    either_follows faithful left is offset (inl old) =
        subst (λ (o : Option Offset). FollowsSession entry left entry.groups o) (sym old)
        (unread_sessions_follow entry left faithful fit_entry (fit left is) (grows_on entry.history history left.history before (since left is)) (same left is))
    either_follows faithful left is offset (inr new) =
        subst (λ (o : Option Offset). FollowsSession entry left entry.groups o) (sym new)
        (first_offsets_follow entry history left first faithful fit_entry (fit left is) before (since left is) infos began (same left is))

    pub first_left : (store : StoreOn D) → (IsTrue tell → LeavesOffset model (disk_of store) (λ offset. (offset ≡ entry.offset) ⊎ (offset ≡ Some first))) → LeavesBy tell source_model sink_model model entry src sink store
    first_left store leaves = record {
      follows = λ tells faithful. left_weaker model (disk_of store) (λ offset. (offset ≡ entry.offset) ⊎ (offset ≡ Some first)) (λ offset. (left : CrashState) (groups : List (List Record)) → source_model.may_leave src left → sink_model.may_leave sink groups → FollowsSession entry left groups offset) (leaves tells)
          (λ offset is left groups is_left is_groups. subst (λ (g : List (List Record)). FollowsSession entry left g offset) (sym (only_sink tells groups is_groups)) (either_follows faithful left is_left offset is));
      few = λ left is_left. few_unread entry left (grows_on entry.history history left.history before (since left is_left));
      some_source = some_source;
      some_sink = some_sink;
    }

-- ---- it reads

module _ {S K D : Type 0} {tell : Bool} {source_model : SourceModel S} {sink_model : SinkModel K} {model : DiskModel D} {entry : SessionStart} {first : Offset} {src : S} {sink : K} {store : StoreOn D}
    (b : BeganAt tell source_model sink_model model entry first src sink store) where
  -- reading has begun after the first offset's LSN
  pub begun_session : (fit_entry : IsFitHistory entry.history) (src2 : S) (t : SourceState) (work : SessionState) → source_model.stands src2 t → IsBegun first.lsn b.standing t → IsFitHistory t.history → 1 ≤ entry.config.every → first.incarnation < 2 ^ 64
      → works.BeginsWithOffset first entry.now entry.config.chunk entry.config.every work → InSession tell source_model sink_model model entry work src2 sink store
  begun_session fit_entry src2 t work is begun fit some small made =
      let grown : Grows entry.history t.history = grows_on entry.history b.standing.history t.history b.grown begun.grows in
      let longer_is : t.history ≡ longer b.standing.history begun.grows.others = is_longer b.standing.history t.history begun.grows.others (record { tables = begun.grows.tables; commits = begun.grows.commits }) in
      let began : BeganWith entry t.history first = subst (λ (h : History). BeganWith entry h first) (sym longer_is) (first_longer entry b.standing.history begun.grows.others first entry.offset b.began) in
      let infos : AreInfosOf t.history first.infos = captured_stays b.standing.history t.history first.infos begun.grows.tables b.infos in
      record {
        stage = begun_at entry t.history first (following_of first);
        ahead = opens_none [] work refl made.is.between made.no_batch;
        source_is = subst (source_model.stands src2) (ap₂ (λ (c : Lsn) (r : Option Reading). record { history = t.history; confirmed = c; reading = r }) (begun.confirmed ∙ b.confirmed) begun.reading) is;
        sink_is = λ tells. subst (sink_model.holds sink) (sym (append-nil entry.groups)) (b.sink_is tells);
        store_is = b.store_is;
        work_is = record {
          is = subst (IsWork first.lsn []) (sym (rest_none [] work refl made.is.between made.no_batch)) made.is;
          offset_is = made.offset_is;
          follower_is = made.follower;
          now_is = made.now_is;
          chunk_is = made.chunk_is;
          every_is = made.every_is;
          since_is = made.none;
          number_is = made.unread;
        };
        going = sessions_begin entry t.history first some small grown fit_entry fit infos (subst (λ (o : Offset). AreCursorsOf o.infos o.cursors) made.offset_is made.is.asked.cursors) began;
      }
