-- Messages that are taken, and commits that are followed: what a session knows then, for every trace of its source.
use Rattle.std.proofs.Common.{◌≡◌, ◌∙◌, ◌≤◌, ◌<◌, ◌+◌, ℕ, Bool, true, false, Option, Some, None, List, [], ◌∷◌, ◌++◌, length, refl, sym, ap, subst, arith, append-nil}
use Rattle.std.specs.Prelude.{if◌then◌else◌, bytes_eq}
use Rattle.std.specs.List.{AllByRecursion}
use Rattle.dbl_base.specs.declared.lsn.Lsn.{Lsn}
use Rattle.dbl_pgmsg.specs.declared.messages.Message.{Message}
use Rattle.dbl_pgmsg.specs.Grammar.{FitsFields}
use Rattle.dbl_record.specs.declared.record.Record.{Record}
use Rattle.dbl_model_table.specs.declared.table.TableInfo.{TableInfo}
use Rattle.dbl_model_table.specs.declared.change.Body.{Body}
use Rattle.dbl_model_table.specs.declared.change.Body.TheVariants.{Changes, Mark}
use Rattle.dbl_model_table.specs.declared.change.Change.{Change}
use Rattle.dbl_model_table.specs.declared.change.Commit.{Commit}
use Rattle.dbl_model_table.specs.declared.identity.Identity.{Identity}
use Rattle.dbl_model_table.specs.declared.row.Key.{Key}
use Rattle.dbl_model_table.specs.declared.row.Row.{Row}
use Rattle.dbl_capture_work.specs.ModelHistory.declared.cursor.Cursor.{Cursor}
use Rattle.dbl_capture_work.specs.ModelCommit.declared.piece.Piece.TheVariants.{Nothing}
use Rattle.dbl_capture_work.specs.ModelCommit.Stated.{commits_of, ended_commit, list_of, transaction_fault}
use Rattle.dbl_capture_work.specs.ModelEvent.Clashes.{clash_of}
use Rattle.dbl_capture_work.specs.ModelEvent.EventJson.{envelopes}
use Rattle.dbl_capture_work.specs.Txn.Stands.{StandsInPieces}
use Rattle.dbl_capture_work.specs.Txn.declared.assembler.Assembler.{Assembler}
use Rattle.dbl_capture_work.specs.Offset.declared.offset.Offset.{Offset}
use Rattle.dbl_capture_work.specs.Offset.Offsets.{IsOffset}
use Rattle.dbl_capture_work.proofs.ConsumeLawsNotices.{all_append}
use Rattle.dbl_capture_work.specs.ModelEvent.Snapshots.{AreInKeyOrder}
use Rattle.dbl_capture_work.specs.Window.Changing.{AreLeft}
use Rattle.dbl_capture_work.specs.Window.Plans.{Chunk, low_text, high_text}
use Rattle.dbl_capture_work.specs.Follow.declared.window.Window.{Window}
use Rattle.dbl_capture_work.specs.Follow.declared.window.Window.TheVariants.{Absent, Armed, Open}
use Rattle.dbl_capture_work.specs.Follow.Followed.{Following}
use Rattle.dbl_capture_work.specs.Follow.Steps.{Becomes, Steps, watermark_in, clash_by, clash_in, closing, cursors_after, records_by, records_of}
use Rattle.dbl_capture_work.proofs.CaptureModelCursors.{cursors_step}
use Rattle.dbl_capture_work.specs.declared.work.SessionState.{SessionState}
use Rattle.dbl_capture_work.specs.Takes.{HasSnapshotRecords, HasTakenPiece, WasStepped, WasTaken}
use Rattle.dbl_capture_laws.proofs.Ahead.{at_rest_so, batch_after, open_after}
use Rattle.dbl_capture_laws.proofs.Opened.{nothing_open}
use Rattle.dbl_capture_work.specs.Works.{AreShort, CouldBeSent, EndsAt, HasOpen, HasReadyWork, IsAmidWork, IsOwnWaiting, IsWork, rest_in, resting}
use Rattle.dbl_capture_laws.specs.Turns.{IsNextOf}
use Rattle.dbl_capture_laws.proofs.Rising.{accepted_rise, lsn_stays, lsn_moves}
use Rattle.dbl_capture_laws.proofs.Fewer.{left_fewer}
use Rattle.dbl_capture_work.proofs.FollowSnapshotSteps.{closing-None}

le_lt : (a b c : ℕ) → a ≤ b → b < c → a ≤ c
le_lt a b c le lt = omega (arith, le, lt)

le_both : (a b c : ℕ) → a ≤ b → b ≤ c → a ≤ c
le_both a b c one two = omega (arith, one, two)

-- the last of some commits, where one is added, is that one
ends_at : (commits : List Commit) (commit : Commit) → EndsAt commit.end_lsn (commits ++ commit ∷ [])
ends_at [] commit = refl
ends_at (first ∷ []) commit = refl
ends_at (first ∷ (second ∷ more)) commit = ends_at (second ∷ more) commit

-- ---- the window

-- A commit leaves a window the session's last one: it closes it, or the cursors stay, and the window has no rows more.
module _ (incarnation number most : ℕ) (infos captured : List TableInfo) (cursors cursors2 : List Cursor) (new : Window) where
  abbrev Own : List Cursor → Window → Type 0
  Own cs w = IsOwnWaiting incarnation number infos cs most w

  same_own : (window : Window) → cursors2 ≡ cursors → new ≡ window → Own cursors window → Own cursors2 new
  same_own window cur to own = subst (λ (w : Window). Own cursors2 w) (sym to) (subst (λ (cs : List Cursor). Own cs window) (sym cur) own)

  left_few : (table : ℕ) (rows left : List (Key × Row)) (changes : List Change) → AreLeft captured table rows changes left → AreInKeyOrder left → length rows ≤ most → length left ≤ most
  left_few table rows left changes are order few = le_both (length left) (length rows) most (left_fewer captured table rows left changes are order) few

  pub own_after : (window : Window) (body : Body) → cursors2 ≡ cursors_after cursors (closing window (watermark_in body)) → Becomes captured window body new → Own cursors window → Own cursors2 new
  own_after Absent (Changes changes) cur to own = subst (λ (w : Window). Own cursors2 w) (sym to) tt
  own_after Absent (Mark value) cur to own = subst (λ (w : Window). Own cursors2 w) (sym to) tt
  own_after (Armed chunk) (Changes changes) cur to own = same_own (Armed chunk) cur to own
  own_after (Armed chunk) (Mark value) cur to own = by (bytes_eq value (low_text chunk.plan)) to
    where
      by : (b : Bool) → new ≡ (if b then Open chunk else Armed chunk) → Own cursors2 new
      by true is = same_own (Open chunk) cur is own
      by false is = same_own (Armed chunk) cur is own
  own_after (Open chunk) (Changes changes) cur to own =
      same_own (Open (record chunk { rows = to.0 })) cur to.1
      (record { incarnation_is = own.incarnation_is; number_is = own.number_is; table = own.table; info = own.info; few = left_few chunk.plan.table chunk.rows to.0 changes to.2 to.3 own.few; ordered = to.3 })
  own_after (Open chunk) (Mark value) cur to own = by (bytes_eq value (high_text chunk.plan)) cur to
    where
      by : (b : Bool) → cursors2 ≡ cursors_after cursors (if b then Some chunk else None) → new ≡ (if b then Absent else Open chunk) → Own cursors2 new
      by true cs is = subst (λ (w : Window). Own cursors2 w) (sym is) tt
      by false cs is = same_own (Open chunk) cs is own

-- ---- a message is taken

module _ (after : Lsn) (ms : List Message) (work : SessionState) (is : IsWork after ms work) where
  abbrev Sendable : Commit → Type 0
  Sendable commit = CouldBeSent work.offset.identity work.offset.infos work.now_ms commit commit.body

  module _ (m : Message) (fields : FitsFields m) (a : Assembler) (clean : transaction_fault work.offset.infos after m ms ≡ None) (stands_on : StandsInPieces work.offset.infos after (m ∷ ms) a) where
    -- it ends no commit
    pub taken_is : ended_commit work.offset.infos m ms ≡ None → IsWork after (m ∷ ms) (record work { assembler = a })
    taken_is none = record {
      asked = is.asked;
      identity = is.identity;
      infos = is.infos;
      cursors = is.cursors;
      stands = stands_on;
      fields = (fields, is.fields);
      accepted = (clean, is.accepted);
      end_is = subst (λ (o : Option Commit). EndsAt work.offset.end_lsn (commits_of work.offset.infos ms ++ list_of o)) (sym none)
          (subst (EndsAt work.offset.end_lsn) (sym (append-nil (commits_of work.offset.infos ms))) is.end_is);
      sent = subst (λ (o : Option Commit). AllByRecursion Sendable (commits_of work.offset.infos ms ++ list_of o)) (sym none)
          (subst (AllByRecursion Sendable) (sym (append-nil (commits_of work.offset.infos ms))) is.sent);
      lsn = is.lsn ∙ sym (lsn_stays work.offset.infos after ms m clean none);
      start = is.start;
      between = is.between;
      own = is.own;
      some_rows = is.some_rows;
      few_rows = is.few_rows;
      some = is.some;
    }

    -- it ends one
    module _ (commit : Commit) (ends : ended_commit work.offset.infos m ms ≡ Some commit) (new : Following) (steps : Steps work.follower commit new) (no_clash : clash_by work.follower commit ≡ None)
        (short : AreShort (records_by work.follower commit work.now_ms)) (listed : HasSnapshotRecords commit (record work { assembler = a })) where
      -- a commit of changes closes no window, so that its value equal to the placeholder and its records are its own
      sendable : Sendable commit
      sendable = by commit.body refl
        where
          by : (b : Body) → commit.body ≡ b → CouldBeSent work.offset.identity work.offset.infos work.now_ms commit b
          by (Changes changes) body = (
            subst (λ (i : Identity). clash_of i work.offset.infos commit ≡ None) is.identity
                (subst (λ (l : List TableInfo). clash_of work.follower.identity l commit ≡ None) is.infos
                (subst (λ (o : Option Chunk). clash_in work.follower o commit ≡ None) (closing-None work.follower.window)
                (subst (λ (x : Body). clash_in work.follower (closing work.follower.window (watermark_in x)) commit ≡ None) body no_clash))),
            subst (λ (i : Identity). AreShort (envelopes i work.offset.infos commit work.now_ms)) is.identity
                (subst (λ (l : List TableInfo). AreShort (envelopes work.follower.identity l commit work.now_ms)) is.infos
                (subst (λ (o : Option Chunk). AreShort (records_of work.follower o commit work.now_ms)) (closing-None work.follower.window)
                (subst (λ (x : Body). AreShort (records_of work.follower (closing work.follower.window (watermark_in x)) commit work.now_ms)) body short))),
          )
          by (Mark value) body = tt

      abbrev pub followed_work : SessionState
      followed_work = record work { assembler = a; offset = record work.offset { lsn = commit.lsn; end_lsn = commit.end_lsn }; follower = new; since = work.since + 1 }

      rises : work.offset.start.0 ≤ commit.lsn.0
      rises =
          le_lt work.offset.start.0 work.offset.lsn.0 commit.lsn.0 is.asked.order
          (subst (λ (l : Lsn). l.0 < commit.lsn.0) (sym is.lsn) (accepted_rise work.offset.infos after ms m commit (clean, is.accepted) ends))

      asked_on : IsOffset (record work.offset { lsn = commit.lsn; end_lsn = commit.end_lsn })
      asked_on = record {
        identity = is.asked.identity;
        counted = is.asked.counted;
        incarnation = is.asked.incarnation;
        order = rises;
        some = is.asked.some;
        few = is.asked.few;
        distinct = is.asked.distinct;
        cursors = is.asked.cursors;
        versions = is.asked.versions;
      }

      pub followed_is : IsWork after (m ∷ ms) followed_work
      followed_is = record {
        asked = asked_on;
        identity = steps.identity ∙ is.identity;
        infos = steps.infos ∙ is.infos;
        cursors = cursors_step work.offset.infos work.follower new commit work.now_ms (records_by work.follower commit work.now_ms) is.infos steps listed is.cursors;
        stands = stands_on;
        fields = (fields, is.fields);
        accepted = (clean, is.accepted);
        end_is = subst (λ (o : Option Commit). EndsAt commit.end_lsn (commits_of work.offset.infos ms ++ list_of o)) (sym ends) (ends_at (commits_of work.offset.infos ms) commit);
        sent = subst (λ (o : Option Commit). AllByRecursion Sendable (commits_of work.offset.infos ms ++ list_of o)) (sym ends)
            (all_append Sendable (commits_of work.offset.infos ms) (commit ∷ []) is.sent (sendable, tt));
        lsn = sym (lsn_moves work.offset.infos after ms m commit ends);
        start = is.start;
        between = steps.ended;
        own = own_after work.offset.incarnation work.number work.chunk work.offset.infos work.follower.infos work.follower.cursors new.cursors new.window work.follower.window commit.body steps.cursors steps.window is.own;
        some_rows = is.some_rows;
        few_rows = is.few_rows;
        some = is.some;
      }

-- ---- it is ready for the next one

-- the session before the open transaction
rest_is : (after : Lsn) (ms : List Message) (bytes : List ℕ) (old new : SessionState) (start : Following) → IsWork after ms (resting start old) → (w : WasTaken after ms bytes old new None) → IsWork after (w.message ∷ ms) (resting start new)
rest_is after ms bytes old new start is w =
    subst (λ (x : SessionState). IsWork after (w.message ∷ ms) (resting start x)) (sym w.same)
    (taken_is after ms (resting start old) is w.message w.spells.fits.fields new.assembler w.clean w.stands (sym w.commit_is))

pub taken_ready : (after : Lsn) (ms : List Message) (bytes : List ℕ) (old new : SessionState) (ahead : HasOpen ms old) → IsWork after ms (rest_in ahead) → HasTakenPiece after ms bytes old new Nothing → HasReadyWork new
taken_ready after ms bytes old new ahead is p = record {
  after = after;
  messages = p.taken.message ∷ ms;
  ahead = record { start = ahead.start; put = ahead.put; is = nothing_open after ms bytes old new is.accepted p ahead.start ahead.put ahead.is };
  is = rest_is after ms bytes old new ahead.start is p.taken;
}

-- its changes were followed
pub part_ready : (after : Lsn) (ms : List Message) (bytes : List ℕ) (old next new : SessionState) (ahead : HasOpen ms old) (put : List Record) → IsWork after ms (rest_in ahead) → (w : WasTaken after ms bytes old next None)
    → IsAmidWork (w.message ∷ ms) ahead.start put new → new ≡ record next { follower = new.follower; batch = new.batch } → HasReadyWork new
part_ready after ms bytes old next new ahead put is w amid same = record {
  after = after;
  messages = w.message ∷ ms;
  ahead = record { start = ahead.start; put = put; is = amid };
  is = subst (IsWork after (w.message ∷ ms)) (sym (ap (λ (x : SessionState). resting ahead.start x) same)) (rest_is after ms bytes old next ahead.start is w);
}

-- the commit that it ends was
pub stepped_ready : (after : Lsn) (ms : List Message) (bytes : List ℕ) (commit : Commit) (old next new : SessionState) (start : Following) → IsWork after ms (resting start old) → WasTaken after ms bytes old next (Some commit) → WasStepped commit (resting start next) new
    → AreShort (records_by start commit next.now_ms) → HasReadyWork new
stepped_ready after ms bytes commit old next new start is w st short = record {
  after = after;
  messages = w.message ∷ ms;
  ahead = open_after after ms bytes commit old next new start w st;
  is = subst (IsWork after (w.message ∷ ms)) (sym (at_rest_so new (batch_after commit next new start st)))
      (by (subst (λ (v : SessionState). WasStepped commit (resting start v) new) w.same st) (subst (λ (v : SessionState). AreShort (records_by start commit v.now_ms)) w.same short));
}
  where
    by : WasStepped commit (resting start (record old { assembler = next.assembler })) new → AreShort (records_by start commit old.now_ms) → IsWork after (w.message ∷ ms) new
    by st few =
        subst (IsWork after (w.message ∷ ms)) (sym st.same)
        (followed_is after ms (resting start old) is w.message w.spells.fits.fields next.assembler w.clean w.stands commit (sym w.commit_is) new.follower st.steps st.no_clash few st.listed)

-- ---- what stays the same

placed : (first later : Offset) (lsn end : Lsn) → later ≡ record first { lsn = lsn; end_lsn = end } → later ≡ record first { lsn = later.lsn; end_lsn = later.end_lsn }
placed first later lsn end is = subst (λ (o : Offset). o ≡ record first { lsn = o.lsn; end_lsn = o.end_lsn }) (sym is) refl

pub taken_next : (old new : SessionState) → new ≡ record old { assembler = new.assembler } → IsNextOf old new
taken_next old new same = record {
  offset_is = placed old.offset new.offset old.offset.lsn old.offset.end_lsn (ap (λ (w : SessionState). w.offset) same);
  number_is = ap (λ (w : SessionState). w.number) same;
  every_is = ap (λ (w : SessionState). w.every) same;
  now_is = ap (λ (w : SessionState). w.now_ms) same;
}

pub part_next : (old next new : SessionState) → next ≡ record old { assembler = next.assembler } → new ≡ record next { follower = new.follower; batch = new.batch } → IsNextOf old new
part_next old next new one two = record {
  offset_is = placed old.offset new.offset old.offset.lsn old.offset.end_lsn (ap (λ (w : SessionState). w.offset) two ∙ ap (λ (w : SessionState). w.offset) one);
  number_is = ap (λ (w : SessionState). w.number) two ∙ ap (λ (w : SessionState). w.number) one;
  every_is = ap (λ (w : SessionState). w.every) two ∙ ap (λ (w : SessionState). w.every) one;
  now_is = ap (λ (w : SessionState). w.now_ms) two ∙ ap (λ (w : SessionState). w.now_ms) one;
}

pub part_since : (old next new : SessionState) → next ≡ record old { assembler = next.assembler } → new ≡ record next { follower = new.follower; batch = new.batch } → old.since < old.every → new.since < new.every
part_since old next new one two since = subst (λ (w : SessionState). w.since < w.every) (sym two) (subst (λ (w : SessionState). w.since < w.every) (sym one) since)

pub stepped_next : (commit : Commit) (old next new : SessionState) (start : Following) → next ≡ record old { assembler = next.assembler } → WasStepped commit (resting start next) new → IsNextOf old new
stepped_next commit old next new start same st = by (subst (λ (v : SessionState). WasStepped commit (resting start v) new) same st)
  where
    by : WasStepped commit (resting start (record old { assembler = next.assembler })) new → IsNextOf old new
    by st = record {
      offset_is = placed old.offset new.offset commit.lsn commit.end_lsn (ap (λ (w : SessionState). w.offset) st.same);
      number_is = ap (λ (w : SessionState). w.number) st.same;
      every_is = ap (λ (w : SessionState). w.every) st.same;
      now_is = ap (λ (w : SessionState). w.now_ms) st.same;
    }

pub stepped_since : (commit : Commit) (old next new : SessionState) (start : Following) → next ≡ record old { assembler = next.assembler } → WasStepped commit (resting start next) new → old.since < old.every → new.since ≤ new.every
stepped_since commit old next new start same st since = by (subst (λ (v : SessionState). WasStepped commit (resting start v) new) same st)
  where
    one_more : (a b n m : ℕ) → a ≡ n + 1 → b ≡ m → n < m → a ≤ b
    one_more a b n m one two lt = omega (arith, one, two, lt)

    by : WasStepped commit (resting start (record old { assembler = next.assembler })) new → new.since ≤ new.every
    by st = one_more new.since new.every old.since old.every (ap (λ (w : SessionState). w.since) st.same) (ap (λ (w : SessionState). w.every) st.same) since
