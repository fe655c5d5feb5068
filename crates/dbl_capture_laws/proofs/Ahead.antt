-- A session, and the session before its open transaction.
use Rattle.std.proofs.Common.{◌≡◌, ◌∙◌, ◌⊎◌, inl, inr, ◌+◌, ◌<◌, ◌≤◌, ℕ, Option, Some, None, List, [], ◌∷◌, ◌++◌, refl, sym, ap, subst, arith}
use Rattle.std.specs.Prelude.{IfSome, slice_get}
use Rattle.dbl_base.specs.declared.lsn.Lsn.{Lsn}
use Rattle.dbl_pgmsg.specs.declared.messages.Message.{Message}
use Rattle.dbl_pgmsg.specs.declared.messages.Message.TheVariants as says
use Rattle.dbl_record.specs.declared.record.Record.{Record}
use Rattle.dbl_model_table.specs.declared.change.Change.{Change}
use Rattle.dbl_model_table.specs.declared.change.Commit.{Commit}
use Rattle.dbl_model_table.specs.declared.change.Head.{Head}
use Rattle.dbl_model_table.specs.declared.table.TableInfo.{TableInfo}
use Rattle.dbl_capture_work.specs.ModelHistory.declared.cursor.Cursor.{Cursor}
use Rattle.dbl_capture_work.specs.ModelCommit.Past.{begin_of}
use Rattle.dbl_capture_work.specs.ModelCommit.Stated.{ended_commit, open_changes}
use Rattle.dbl_capture_work.specs.ModelCommit.Pieces.{changes_so_far, if_open}
use Rattle.dbl_capture_work.specs.Offset.declared.offset.Offset.{Offset}
use Rattle.dbl_capture_work.specs.Window.Plans.{Chunk}
use Rattle.dbl_capture_work.specs.Follow.declared.window.Window.{Window}
use Rattle.dbl_capture_work.specs.Follow.declared.window.Window.TheVariants.{Absent, Armed, Open}
use Rattle.dbl_capture_work.specs.Follow.Amid.{IsAmid, PassesSoFar}
use Rattle.dbl_capture_work.specs.Follow.Followed.{Following}
use Rattle.dbl_capture_work.specs.declared.groups.Gathered.{Gathered}
use Rattle.dbl_capture_work.specs.declared.work.SessionState.{SessionState}
use Rattle.dbl_capture_work.specs.Groups.{IsBatched, IsGathered, records_in}
use Rattle.dbl_capture_work.specs.Takes.{WasStepped, WasTaken}
use Rattle.dbl_capture_work.specs.Works.{HasOpen, head_in, IsAmidWork, IsArmedWork, IsOpenTable, next_offset_of, plan_with, rest_in, resting}
use Rattle.dbl_capture_work.proofs.FollowAmidLemmas.{armed_within}

-- ---- no transaction is open

-- without a gathered batch a session is the one before
pub at_rest_so : (work : SessionState) → work.batch ≡ None → resting work.follower work ≡ work
at_rest_so work none = ap (λ (o : Option Gathered). let w : SessionState = record work { batch = o } in w) (sym none)

abbrev pub none_open : (ms : List Message) (work : SessionState) → begin_of ms ≡ None → work.follower.part ≡ None → work.batch ≡ None → HasOpen ms work
none_open ms work closed between none = record {
  start = work.follower;
  put = [];
  is = record {
    amid = subst (λ (l : List Change). IsAmid work.follower (head_in (begin_of ms)) l work.now_ms ([] ++ records_in work.batch) work.follower) (sym no_change)
        (subst (λ (l : List Record). IsAmid work.follower (head_in (begin_of ms)) [] work.now_ms l work.follower) (sym (ap records_in none)) nothing);
    gathered = subst (λ (o : Option Gathered). IfSome o IsGathered) (sym none) tt;
    batched = subst (λ (o : Option Gathered). IsBatched [] (records_in o)) (sym none) refl;
    short = tt;
    early = inl refl;
  };
}
  where
    no_change : changes_so_far work.offset.infos ms ≡ []
    no_change = ap (λ (o : Option Head). if_open o (open_changes work.offset.infos ms)) closed

    nothing : IsAmid work.follower (head_in (begin_of ms)) [] work.now_ms [] work.follower
    nothing = record { between = between; same = refl; passes = refl; no_clash = refl; released_are = (between, refl) }

-- a message that ends a commit leaves none open
pub closed_by : (infos : List TableInfo) (m : Message) (ms : List Message) (commit : Commit) → Some commit ≡ ended_commit infos m ms → begin_of (m ∷ ms) ≡ None
closed_by infos (says.Commit flags lsn end_lsn time) ms commit ends = refl
closed_by infos m ms commit ends = cc

-- after a commit nothing is open
abbrev pub open_after : (after : Lsn) (ms : List Message) (bytes : List ℕ) (commit : Commit) (old next new : SessionState) (start : Following)
    → (w : WasTaken after ms bytes old next (Some commit)) → WasStepped commit (resting start next) new → HasOpen (w.message ∷ ms) new
open_after after ms bytes commit old next new start w st =
    none_open (w.message ∷ ms) new (closed_by old.offset.infos w.message ms commit w.commit_is) st.steps.ended (ap (λ (x : SessionState). x.batch) st.same)

pub batch_after : (commit : Commit) (next new : SessionState) (start : Following) → WasStepped commit (resting start next) new → new.batch ≡ None
batch_after commit next new start st = ap (λ (x : SessionState). x.batch) st.same

-- ---- the session before

-- a message that was taken was taken by the session before the open transaction
abbrev pub rest_taken : (after : Lsn) (ms : List Message) (bytes : List ℕ) (old next : SessionState) (commit : Option Commit) (start : Following)
    → WasTaken after ms bytes old next commit → WasTaken after ms bytes (resting start old) (resting start next) commit
rest_taken after ms bytes old next commit start w = record {
  message = w.message;
  spells = w.spells;
  clean = w.clean;
  commit_is = w.commit_is;
  stands = w.stands;
  same = ap (resting start) w.same;
  fits = w.fits;
}

-- the cursors are those before the open transaction
pub rest_cursors : (ms : List Message) (work : SessionState) (ahead : HasOpen ms work) → work.follower.cursors ≡ ahead.start.cursors
rest_cursors ms work ahead = ap (λ (f : Following). f.cursors) ahead.is.amid.same

-- so is the offset that would be stored next
pub rest_next : (ms : List Message) (work : SessionState) (ahead : HasOpen ms work) → next_offset_of work ≡ next_offset_of (rest_in ahead)
rest_next ms work ahead = ap (λ (l : List Cursor). let o : Offset = record work.offset { cursors = l } in o) (rest_cursors ms work ahead)

-- whichever offset is stored by then
pub rest_kept : (ms : List Message) (stored later : Option Offset) (work : SessionState) (ahead : HasOpen ms work)
    → (later ≡ stored) ⊎ (later ≡ Some (next_offset_of work)) → (later ≡ stored) ⊎ (later ≡ Some (next_offset_of (rest_in ahead)))
rest_kept ms stored later work ahead (inl same) = inl same
rest_kept ms stored later work ahead (inr next) = inr (next ∙ ap (λ (o : Offset). Some o) (rest_next ms work ahead))

-- ---- an offset is stored

pub one_more : (n : ℕ) → 1 ≤ n → 0 < n
one_more n le = omega (arith, le)

abbrev pub stored_open : (ms : List Message) (old new : SessionState) → new ≡ record old { since = 0 } → 1 ≤ old.every → HasOpen ms old → HasOpen ms new
stored_open ms old new same some ahead = record {
  start = ahead.start;
  put = ahead.put;
  is = subst (IsAmidWork ms ahead.start ahead.put) (sym same) (record {
    amid = ahead.is.amid;
    gathered = ahead.is.gathered;
    batched = ahead.is.batched;
    short = ahead.is.short;
    early = elim ahead.is.early [
      | inl none ↦ inl none
      | inr early ↦ inr (one_more old.every some, early.1)
    ];
  });
}

-- ---- a window is read

-- without a window there was none before the open transaction
no_window : (infos : List TableInfo) (window : Window) (changes : List Change) → PassesSoFar infos window changes Absent → window ≡ Absent
no_window infos Absent changes passes = refl
no_window infos (Armed chunk) [] passes = cc
no_window infos (Armed chunk) (c ∷ changes) passes = cc
no_window infos (Open chunk) [] passes = cc
no_window infos (Open chunk) (c ∷ changes) passes = let wrong = passes.1 in cc

pub rest_absent : (ms : List Message) (work : SessionState) (ahead : HasOpen ms work) → work.follower.window ≡ Absent → ahead.start.window ≡ Absent
rest_absent ms work ahead absent =
    no_window ahead.start.infos ahead.start.window (changes_so_far work.offset.infos ms)
    (subst (PassesSoFar ahead.start.infos ahead.start.window (changes_so_far work.offset.infos ms)) absent ahead.is.amid.passes)

pub rest_table : (ms : List Message) (work : SessionState) (ahead : HasOpen ms work) (table : ℕ) → IsOpenTable work table → IsOpenTable (rest_in ahead) table
rest_table ms work ahead table unread =
    subst (λ (l : List Cursor). IsOpenTable (record (rest_in ahead) { follower = record ahead.start { cursors = l } }) table) (rest_cursors ms work ahead) (record {
      first = unread.first;
      cursor = unread.cursor;
      cursor_is = unread.cursor_is;
      not_done = unread.not_done;
    })

-- the follower that waits for the window before the open transaction
abbrev pub armed_start : Following → Chunk → Following
armed_start start chunk = record start { window = Armed chunk }

abbrev pub armed_open : (ms : List Message) (table : ℕ) (old new : SessionState) → HasOpen ms old → IsArmedWork table old new → HasOpen ms new
armed_open ms table old new ahead armed = record {
  start = armed_start ahead.start armed.chunk;
  put = ahead.put;
  is = subst (IsAmidWork ms (armed_start ahead.start armed.chunk) ahead.put) (sym armed.is) (record {
    amid = armed_within ahead.start old.follower (head_in (begin_of ms)) (changes_so_far old.offset.infos ms) old.now_ms (ahead.put ++ records_in old.batch)
        armed.chunk ahead.is.amid;
    gathered = ahead.is.gathered;
    batched = ahead.is.batched;
    short = ahead.is.short;
    early = ahead.is.early;
  });
}

pub same_plan : (ms : List Message) (work : SessionState) (ahead : HasOpen ms work) (table : ℕ) (o : Option TableInfo) (p : Option Cursor)
    → plan_with (rest_in ahead) table o p ≡ plan_with work table o p
same_plan ms work ahead table None p = refl
same_plan ms work ahead table (Some info) None = refl
same_plan ms work ahead table (Some info) (Some cursor) = refl

pub rest_armed : (ms : List Message) (table : ℕ) (old new : SessionState) (ahead : HasOpen ms old) (armed : IsArmedWork table old new)
    → IsArmedWork table (rest_in ahead) (rest_in (armed_open ms table old new ahead armed))
rest_armed ms table old new ahead armed = record {
  chunk = armed.chunk;
  plan = same_plan ms old ahead table (slice_get old.offset.infos table) (slice_get ahead.start.cursors table)
      ∙ (ap (λ (l : List Cursor). plan_with old table (slice_get old.offset.infos table) (slice_get l table)) (sym (rest_cursors ms old ahead)) ∙ armed.plan);
  few = armed.few;
  ordered = armed.ordered;
  through = armed.through;
  done = armed.done;
  is = ap (resting (armed_start ahead.start armed.chunk)) armed.is;
}
