-- What the calls of a session keep, and what they may leave. The laws of the source, the sink and the store are given by name.
use Rattle.std.proofs.Common.{◌≡◌, ◌∙◌, ◌⊎◌, inl, inr, ◌≤◌, ◌<◌, ℕ, max, Option, Some, Result, Ok, Err, List, [], ◌++◌, length, refl, sym, ap, ap₂, subst, arith, append-nil, IsTrue, Bool, None}
use Rattle.std.specs.Prelude.{IfErr, IfOk, OnErr, OnOk}
use Rattle.dbl_base.specs.declared.lsn.Lsn.{Lsn}
use Rattle.dbl_pgmsg.specs.declared.messages.Message.{Message}
use Rattle.dbl_record.specs.declared.record.Record.{Record}
use Rattle.dbl_record.specs.Cuts.{cut}
use Rattle.dbl_topic.specs.Model.{SinkModel}
use Rattle.dbl_model_table.specs.declared.table.TableName.{TableName}
use Rattle.dbl_capture_work.specs.Source.Model.{SourceModel}
use Rattle.dbl_capture_work.specs.Disk.Model.{DiskModel}
use Rattle.dbl_capture_work.specs.ModelHistory.Fit.{IsFitHistory}
use Rattle.dbl_capture_work.specs.ModelHistory.History.{RawCommit}
use Rattle.dbl_capture_work.specs.SourceModel.Growth.{KeepsColumns, marks_in}
use Rattle.dbl_capture_work.specs.SourceModel.Leaves.{MayFollow, MayFollowConfirm}
use Rattle.dbl_capture_work.specs.SourceModel.Standings.{Reading, SourceState, CrashState, left_of}
use Rattle.dbl_capture_work.specs.SourceModel.Calls.{Moved, IsConfirmed}
use Rattle.dbl_capture_work.specs.Offset.declared.offset.Offset.{Offset}
use Rattle.dbl_capture_work.specs.OffsetStore.Stores.{StoreOn, HoldsOffset, IsStore, LeavesOffset, disk_of}
use Rattle.dbl_capture_work.specs.Faithful.Kept.{HasGrown}
use Rattle.dbl_capture_work.proofs.OffsetStoreLaws.{store_of}
use Rattle.dbl_capture_work.proofs.WindowHonestLemmas.{captured_stays}
use Rattle.dbl_capture_work.specs.CaptureModel.Entries.{SessionStart, WasFaithful}
use Rattle.dbl_capture_work.specs.CaptureModel.Stages.{Stage, next_offset}
use Rattle.dbl_capture_work.specs.CaptureModel.Steps.{stored_at}
use Rattle.dbl_capture_work.specs.CaptureModel.Exits.{MayBeLeft}
use Rattle.dbl_capture_work.specs.CaptureModel.Going.{IsFirstOf}
use Rattle.dbl_capture_work.specs.CaptureModel.Outcomes.{FollowsSession}
use Rattle.dbl_capture_work.proofs.CaptureModelCounting.{few_marks_are_written}
use Rattle.dbl_capture_work.proofs.CaptureModelMarking.{others_marked}
use Rattle.dbl_capture_work.proofs.CaptureModelStepping.{others_keep_going, confirms_keep_going, stores_keep_going}
use Rattle.dbl_capture_work.proofs.CaptureModelEnding.{stood_of}
use Rattle.dbl_capture_laws.proofs.Within.{open_left, settled_open}
use Rattle.dbl_capture_work.specs.declared.work.SessionState.{SessionState}
use Rattle.dbl_capture_work.specs.declared.halt.Halt.{Halt}
use Rattle.dbl_capture_work.specs.Begins.{IsAbsentAfter, IsAbsentHalt}
use Rattle.dbl_capture_work.proofs.Describing.{absent_before}
use Rattle.dbl_capture_work.specs.Works.{HasReadyWork, IsWork, rest_in}
use Rattle.dbl_capture_laws.specs.Sessions.{state_at_stage, InSession, AddsFewOrNoMarks, Captures, IsCapturing, LeavesBy}

-- ---- answers

-- what follows of an answer that isn't an error
pub ok_then : {T E : Type 0} (r : Result T E) (P Q : Type 0) → OnOk r P → (P → Q) → OnOk r Q
ok_then (Ok x) P Q p f = f p
ok_then (Err e) P Q p f = tt

pub answer_then : {T E : Type 0} (r : Result T E) (P Q : T → Type 0) → IfOk r P → ((x : T) → P x → Q x) → IfOk r Q
answer_then (Ok x) P Q p f = f x p
answer_then (Err e) P Q p f = tt

-- two facts of an answer
pub answer_both : {T E : Type 0} (r : Result T E) (P Q : T → Type 0) → IfOk r P → IfOk r Q → IfOk r (λ x. P x × Q x)
answer_both (Ok x) P Q p q = (p, q)
answer_both (Err e) P Q p q = tt

-- what follows of either
pub either_answer : {T E : Type 0} (r : Result T E) (P Q : Type 0) → OnOk r P → OnErr r Q → (P → Q) → Q
either_answer (Ok x) P Q p q f = f p
either_answer (Err e) P Q p q f = q

-- what is true for every answer
pub on_ok : {T E : Type 0} (r : Result T E) (P : Type 0) → P → OnOk r P
on_ok (Ok x) P p = p
on_ok (Err e) P p = tt

pub on_err : {T E : Type 0} (r : Result T E) (P : Type 0) → P → OnErr r P
on_err (Ok x) P p = tt
on_err (Err e) P p = p

-- an error that the catalogue required as the source left it, if no table is altered it required at the call
pub absent_first : {T : Type 0} (stands : SourceState → Type 0) (s : SourceState) (names : List TableName) (r : Result T Halt) → ((t : SourceState) → stands t → KeepsColumns t.history) → IfErr r (IsAbsentAfter stands s names) → IfErr r (IsAbsentHalt names s.history)
absent_first stands s names (Ok x) kept absent = tt
absent_first stands s names (Err h) kept absent = absent_before stands s names h kept absent

-- ---- stores

-- a store that holds an offset leaves it
pub held_left : {D : Type 0} (model : DiskModel D) (store : StoreOn D) (offset : Option Offset) → HoldsOffset model store offset → LeavesOffset model (disk_of store) (λ left. left ≡ offset)
held_left model store offset held crashed may =
    let stores = store_of model store offset held in
    (offset, subst (λ (i : List ℕ). IsStore i offset) (sym (stores.only crashed may)) stores.is, refl)

pub left_weaker : {D : Type 0} (model : DiskModel D) (disk : D) (P Q : Option Offset → Type 0) → LeavesOffset model disk P → ((offset : Option Offset) → P offset → Q offset) → LeavesOffset model disk Q
left_weaker model disk P Q leaves weaker crashed may = let found = leaves crashed may in (found.0, found.1, weaker found.0 found.2)

-- ---- what a call of the source may leave

pub not_less : (a b : ℕ) → b ≡ a → a ≤ b
not_less a b is = omega (arith, is)

-- others may have committed
pub left_others : (stage : Stage) (left : CrashState) → MayFollow (state_at_stage stage) left → IsFitHistory left.history → stage.confirmed.0 ≤ stage.stored.lsn.0 → MayBeLeft stage left
left_others stage left may fit le = record {
  more = may.grows.others;
  grown = record { tables = may.grows.tables; commits = may.grows.commits };
  marks = others_marked stage.first.incarnation may.grows.others may.grows.are_others;
  fit = fit;
  no_fall = not_less stage.confirmed.0 left.confirmed.0 (ap (λ (l : Lsn). l.0) may.confirmed);
  confirmed = subst (λ (n : ℕ). n ≤ stage.stored.lsn.0) (sym (ap (λ (l : Lsn). l.0) may.confirmed)) le;
}

either_le : (a b c d : ℕ) → (a ≡ b) ⊎ (a ≡ max b c) → b ≤ d → c ≤ d → a ≤ d
either_le a b c d (inl is) one two = omega (arith, is, one)
either_le a b c d (inr is) one two = omega (arith, is, one, two)

either_not_less : (a b c : ℕ) → (a ≡ b) ⊎ (a ≡ max b c) → b ≤ a
either_not_less a b c (inl is) = omega (arith, is)
either_not_less a b c (inr is) = omega (arith, is)

either_lsn : (a b : Lsn) (n : ℕ) → (a ≡ b) ⊎ (a.0 ≡ n) → (a.0 ≡ b.0) ⊎ (a.0 ≡ n)
either_lsn a b n (inl is) = inl (ap (λ (l : Lsn). l.0) is)
either_lsn a b n (inr is) = inr is

-- and a position that isn't after the stored offset may be confirmed
pub left_confirm : (stage : Stage) (left : CrashState) (upto : Lsn) → MayFollowConfirm upto (state_at_stage stage) left → IsFitHistory left.history → stage.confirmed.0 ≤ stage.stored.lsn.0 → upto.0 ≤ stage.stored.lsn.0 → MayBeLeft stage left
left_confirm stage left upto may fit le up = record {
  more = may.grows.others;
  grown = record { tables = may.grows.tables; commits = may.grows.commits };
  marks = others_marked stage.first.incarnation may.grows.others may.grows.are_others;
  fit = fit;
  no_fall = either_not_less left.confirmed.0 stage.confirmed.0 upto.0 (either_lsn left.confirmed stage.confirmed (max stage.confirmed.0 upto.0) may.confirmed);
  confirmed = either_le left.confirmed.0 stage.confirmed.0 upto.0 stage.stored.lsn.0 (either_lsn left.confirmed stage.confirmed (max stage.confirmed.0 upto.0) may.confirmed) le up;
}

-- a store changes only how many commits were followed since
pub settled_work : (after : Lsn) (ms : List Message) (work : SessionState) → IsWork after ms work → IsWork after ms (record work { since = 0 })
settled_work after ms work is = record {
  asked = is.asked;
  identity = is.identity;
  infos = is.infos;
  cursors = is.cursors;
  stands = is.stands;
  fields = is.fields;
  accepted = is.accepted;
  lsn = is.lsn;
  end_is = is.end_is;
  start = is.start;
  sent = is.sent;
  between = is.between;
  own = is.own;
  some_rows = is.some_rows;
  few_rows = is.few_rows;
  some = is.some;
}

pub settled_ready : (work new : SessionState) → new ≡ record work { since = 0 } → HasReadyWork work → HasReadyWork new
settled_ready work new same r = subst HasReadyWork (sym same) (record { after = r.after; messages = r.messages; ahead = settled_open r.messages work r.is.some r.ahead; is = settled_work r.after r.messages (rest_in r.ahead) r.is })

-- so that it isn't due again
pub settled_since : (work new : SessionState) → new ≡ record work { since = 0 } → HasReadyWork work → new.since < new.every
settled_since work new same r = subst (λ (w : SessionState). w.since < w.every) (sym same) (some_left work.every r.is.some)
  where
    some_left : (n : ℕ) → 1 ≤ n → 0 < n
    some_left n le = omega (arith, le)

-- ---- a session goes on

module _ {S K D : Type 0} {tell : Bool} {source_model : SourceModel S} {sink_model : SinkModel K} {model : DiskModel D} {entry : SessionStart} {work : SessionState} {src : S} {sink : K} {store : StoreOn D}
    (s : InSession tell source_model sink_model model entry work src sink store) where
  -- others have committed
  abbrev pub moved_on : (src2 : S) (t : SourceState) → source_model.stands src2 t → Moved (state_at_stage s.stage) t → IsFitHistory t.history → InSession tell source_model sink_model model entry work src2 sink store
  moved_on src2 t is moved fit = record {
    stage = record s.stage { history = t.history };
    ahead = s.ahead;
    source_is = subst (source_model.stands src2) (ap₂ (λ (c : Lsn) (r : Option Reading). record { history = t.history; confirmed = c; reading = r }) moved.confirmed moved.reading) is;
    sink_is = s.sink_is;
    store_is = s.store_is;
    work_is = record {
      is = s.work_is.is;
      offset_is = s.work_is.offset_is;
      follower_is = s.work_is.follower_is;
      now_is = s.work_is.now_is;
      chunk_is = s.work_is.chunk_is;
      every_is = s.work_is.every_is;
      since_is = s.work_is.since_is;
      number_is = s.work_is.number_is;
    };
    going = others_keep_going entry s.stage t.history moved.grows fit s.going;
  }

  -- ---- it ends

  -- by its source
  pub source_ends : (src2 : S) → (WasFaithful entry → (left : CrashState) → source_model.may_leave src2 left → MayBeLeft s.stage left) → (IsTrue tell → (groups : List (List Record)) → sink_model.may_leave sink groups → groups ≡ s.stage.groups ++ cut s.ahead.put)
      → ((left : CrashState) → source_model.may_leave src2 left → AddsFewOrNoMarks entry left) → (left : CrashState) × source_model.may_leave src2 left → (IsTrue tell → (groups : List (List Record)) × sink_model.may_leave sink groups) → LeavesBy tell source_model sink_model model entry src2 sink store
  source_ends src2 may only few some_source some_sink = record {
    follows = λ t faithful. left_weaker model (disk_of store) (λ offset. offset ≡ Some s.stage.stored) (λ offset. (left : CrashState) (groups : List (List Record)) → source_model.may_leave src2 left → sink_model.may_leave sink groups → FollowsSession entry left groups offset)
        (held_left model store (Some s.stage.stored) (s.store_is t))
        (λ offset same left groups is_left is_groups.
        subst (λ (o : Option Offset). FollowsSession entry left groups o) (sym same) (subst (λ (g : List (List Record)). FollowsSession entry left g (Some s.stage.stored)) (sym (only t groups is_groups)) (open_left entry s.stage work s.ahead s.work_is s.going left s.stage.stored faithful (may faithful left is_left) (inl refl))));
    few = few;
    some_source = some_source;
    some_sink = some_sink;
  }

  -- by its store
  pub store_ends : (store2 : StoreOn D) → (IsTrue tell → LeavesOffset model (disk_of store2) (λ offset. (offset ≡ Some s.stage.stored) ⊎ (offset ≡ Some (next_offset s.stage))))
      → (WasFaithful entry → (left : CrashState) → source_model.may_leave src left → MayBeLeft s.stage left) → (IsTrue tell → (groups : List (List Record)) → sink_model.may_leave sink groups → groups ≡ s.stage.groups ++ cut s.ahead.put)
      → ((left : CrashState) → source_model.may_leave src left → AddsFewOrNoMarks entry left) → (left : CrashState) × source_model.may_leave src left → (IsTrue tell → (groups : List (List Record)) × sink_model.may_leave sink groups)
      → LeavesBy tell source_model sink_model model entry src sink store2
  store_ends store2 leaves may only few some_source some_sink = record {
    follows = λ t faithful. left_weaker model (disk_of store2) (λ offset. (offset ≡ Some s.stage.stored) ⊎ (offset ≡ Some (next_offset s.stage))) (λ offset. (left : CrashState) (groups : List (List Record)) → source_model.may_leave src left → sink_model.may_leave sink groups → FollowsSession entry left groups offset) (leaves t)
        (λ offset either left groups is_left is_groups.
        subst (λ (g : List (List Record)). FollowsSession entry left g offset) (sym (only t groups is_groups)) (elim either [
          | inl same ↦ subst (λ (o : Option Offset). FollowsSession entry left (s.stage.groups ++ cut s.ahead.put) o) (sym same) (open_left entry s.stage work s.ahead s.work_is s.going left s.stage.stored faithful (may faithful left is_left) (inl refl))
          | inr same ↦ subst (λ (o : Option Offset). FollowsSession entry left (s.stage.groups ++ cut s.ahead.put) o) (sym same) (open_left entry s.stage work s.ahead s.work_is s.going left (next_offset s.stage) faithful (may faithful left is_left) (inr refl))
        ]));
    few = few;
    some_source = some_source;
    some_sink = some_sink;
  }

  -- the offset was stored
  pub stored_on : (work2 : SessionState) (store2 : StoreOn D) → work2 ≡ record work { since = 0 } → (IsTrue tell → HoldsOffset model store2 (Some (next_offset s.stage))) → InSession tell source_model sink_model model entry work2 src sink store2
  stored_on work2 store2 same held =
      subst (λ (w : SessionState). InSession tell source_model sink_model model entry w src sink store2) (sym same)
      (record {
        stage = stored_at s.stage;
        ahead = settled_open s.stage.messages work s.work_is.is.some s.ahead;
        source_is = s.source_is;
        sink_is = s.sink_is;
        store_is = held;
        work_is = record {
          is = settled_work s.stage.first.lsn s.stage.messages (rest_in s.ahead) s.work_is.is;
          offset_is = s.work_is.offset_is;
          follower_is = s.work_is.follower_is;
          now_is = s.work_is.now_is;
          chunk_is = s.work_is.chunk_is;
          every_is = s.work_is.every_is;
          since_is = refl;
          number_is = s.work_is.number_is;
        };
        going = stores_keep_going entry s.stage s.going;
      })

  -- a position was confirmed
  pub confirmed_on : (src2 : S) (t : SourceState) (upto : Lsn) → source_model.stands src2 t → IsConfirmed upto (state_at_stage s.stage) t → IsFitHistory t.history → upto.0 ≤ s.stage.stored.lsn.0 → InSession tell source_model sink_model model entry work src2 sink store
  confirmed_on src2 t upto is confirmed fit le = record {
    stage = record s.stage { history = t.history; confirmed = t.confirmed };
    ahead = s.ahead;
    source_is = subst (source_model.stands src2) (ap (λ (r : Option Reading). record { history = t.history; confirmed = t.confirmed; reading = r }) confirmed.reading) is;
    sink_is = s.sink_is;
    store_is = s.store_is;
    work_is = record {
      is = s.work_is.is;
      offset_is = s.work_is.offset_is;
      follower_is = s.work_is.follower_is;
      now_is = s.work_is.now_is;
      chunk_is = s.work_is.chunk_is;
      every_is = s.work_is.every_is;
      since_is = s.work_is.since_is;
      number_is = s.work_is.number_is;
    };
    going = confirms_keep_going entry s.stage t.history t.confirmed upto confirmed.grows fit le confirmed.confirmed s.going;
  }

  -- ---- what was known of the confirmed position, and of the next offset

  pub confirmed_low : WasFaithful entry → s.stage.confirmed.0 ≤ s.stage.stored.lsn.0
  confirmed_low faithful = (s.going.kept (stood_of entry faithful) faithful).stored_is.confirmed_to

  -- what represents the source is what may be left of it
  pub rests_left : (honest : Type 0) → ((t : SourceState) (l : CrashState) → source_model.stands src t → source_model.may_leave src l → l ≡ left_of t) → honest → (honest → (l : CrashState) → source_model.may_leave src l → IsFitHistory l.history)
      → WasFaithful entry → (left : CrashState) → source_model.may_leave src left → MayBeLeft s.stage left
  rests_left honest only is_honest fit faithful left is =
      let same : left ≡ left_of (state_at_stage s.stage) = only (state_at_stage s.stage) left s.source_is is in
      record {
        more = [];
        grown = record { tables = ap (λ (l : CrashState). l.history.tables) same; commits = ap (λ (l : CrashState). l.history.commits) same ∙ sym (append-nil s.stage.history.commits) };
        marks = tt;
        fit = fit is_honest left is;
        no_fall = not_less s.stage.confirmed.0 left.confirmed.0 (ap (λ (l : CrashState). l.confirmed.0) same);
        confirmed = subst (λ (l : CrashState). l.confirmed.0 ≤ s.stage.stored.lsn.0) (sym same) (confirmed_low faithful);
      }

  -- what it captures
  captures_of : (found : Option Offset) → IsFirstOf entry s.stage.history s.stage.first found → Captures entry.config entry.history found s.stage.first.infos
  captures_of None began = (began.0.tables, captured_stays s.stage.history entry.history s.stage.first.infos (sym s.going.reading.grown.tables) s.going.reading.infos)
  captures_of (Some old) began = began.0.infos

  pub capturing : IsCapturing entry s.stage.first.infos
  capturing = captures_of entry.offset s.going.reading.began

  -- few watermarks were added where none was since
  pub few_at : (left : CrashState) (more : List RawCommit) → 1 ≤ entry.config.chunk → HasGrown s.stage.history left.history more → length (marks_in more) ≡ 0 → AddsFewOrNoMarks entry left
  few_at left more some grown none =
      inr (record { infos = s.stage.first.infos; captured = capturing; few = (few_marks_are_written entry s.stage left.history more some grown (none_le (length (marks_in more)) none)).0 none s.going.reading })
    where
      none_le : (n : ℕ) → n ≡ 0 → n ≤ 2
      none_le n is = omega (arith, is)

  -- and so where nothing happened
  pub few_rest : (left : CrashState) → left ≡ left_of (state_at_stage s.stage) → 1 ≤ entry.config.chunk → AddsFewOrNoMarks entry left
  few_rest left same some = few_at left [] some (record { tables = ap (λ (l : CrashState). l.history.tables) same; commits = ap (λ (l : CrashState). l.history.commits) same ∙ sym (append-nil s.stage.history.commits) }) refl

  -- it ends with nothing more done
  pub rests : (honest : Type 0) → ((t : SourceState) (l : CrashState) → source_model.stands src t → source_model.may_leave src l → l ≡ left_of t) → ((t : SourceState) → source_model.stands src t → source_model.may_leave src (left_of t))
      → ((groups left : List (List Record)) → sink_model.holds sink groups → sink_model.may_leave sink left → left ≡ groups) → ((groups : List (List Record)) → sink_model.holds sink groups → sink_model.may_leave sink groups) → honest → (honest → (l : CrashState) → source_model.may_leave src l → IsFitHistory l.history) → 1 ≤ entry.config.chunk
      → LeavesBy tell source_model sink_model model entry src sink store
  rests honest only may only_sink may_hold is_honest fit some =
      source_ends src (rests_left honest only is_honest fit) (λ t groups is. only_sink (s.stage.groups ++ cut s.ahead.put) groups (s.sink_is t) is)
      (λ left is. few_rest left (only (state_at_stage s.stage) left s.source_is is) some)
      (left_of (state_at_stage s.stage), may (state_at_stage s.stage) s.source_is) (λ t. (s.stage.groups ++ cut s.ahead.put, may_hold (s.stage.groups ++ cut s.ahead.put) (s.sink_is t)))

  -- a window reads a row or more
  pub some_chunk : 1 ≤ entry.config.chunk
  some_chunk = subst (λ (n : ℕ). 1 ≤ n) s.work_is.chunk_is s.work_is.is.some_rows
