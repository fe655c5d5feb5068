-- A session within a transaction, and the session before it.
use Rattle.std.proofs.Common.{◌≡◌, ◌∙◌, ◌⊎◌, inl, inr, ◌+◌, ◌≤◌, ◌<◌, ℕ, ℤ, false, Option, Some, None, List, [], ◌∷◌, ◌++◌, length, drop, refl, sym, ap, ap₂, subst, append_assoc}
use Rattle.std.specs.Prelude.{IfSome, IsSome, is_some, slice_get}
use Rattle.dbl_base.specs.declared.lsn.Lsn.{Lsn}
use Rattle.dbl_pgmsg.specs.declared.messages.Message.{Message}
use Rattle.dbl_record.specs.declared.record.Record.{Record}
use Rattle.dbl_record.specs.Groups.{group_form}
use Rattle.dbl_topic.specs.Sinks.{group_limit}
use Rattle.dbl_model_table.specs.declared.change.Change.{Change}
use Rattle.dbl_model_table.specs.declared.change.Commit.{Commit}
use Rattle.dbl_model_table.specs.declared.change.Head.{Head}
use Rattle.dbl_model_table.specs.Heads.{body_of, commit_by, commit_so_far}
use Rattle.dbl_model_table.specs.declared.row.Key.{Key}
use Rattle.dbl_model_table.specs.declared.row.Row.{Row}
use Rattle.dbl_model_table.specs.declared.table.TableInfo.{TableInfo}
use Rattle.dbl_capture_work.specs.ModelCommit.declared.piece.Piece.TheVariants.{Nothing}
use Rattle.dbl_capture_work.specs.ModelCommit.Blocks.{AreWithoutFault}
use Rattle.dbl_capture_work.specs.ModelCommit.Past.{begin_of, open_mark}
use Rattle.dbl_capture_work.specs.ModelCommit.Pieces.{changes_so_far, if_open}
use Rattle.dbl_capture_work.specs.ModelCommit.Stated.{commits_of, open_changes}
use Rattle.dbl_capture_work.specs.ModelEvent.Clashes.{clash_of}
use Rattle.dbl_capture_work.specs.ModelEvent.EventJson.{envelopes}
use Rattle.dbl_capture_work.proofs.ModelCommitMarkedLemmas.{marked_bare}
use Rattle.dbl_capture_work.proofs.ModelCommitPieceLemmas.{piece_joins}
use Rattle.dbl_capture_work.specs.ModelHistory.declared.cursor.Cursor.{Cursor}
use Rattle.dbl_capture_work.specs.Source.Model.{SourceModel}
use Rattle.dbl_capture_work.specs.SourceModel.Standings.{SourceState}
use Rattle.dbl_capture_work.specs.SourceModel.Trace.{Trace}
use Rattle.dbl_capture_work.specs.Offset.declared.offset.Offset.{Offset}
use Rattle.dbl_capture_work.specs.Window.Plans.{Chunk}
use Rattle.dbl_capture_work.specs.Follow.declared.window.Window.{Window}
use Rattle.dbl_capture_work.specs.Follow.declared.window.Window.TheVariants.{Absent, Armed, Open}
use Rattle.dbl_capture_work.specs.Follow.Amid.{AreReleased, IsAmid, PassesSoFar}
use Rattle.dbl_capture_work.specs.Follow.Followed.{Following, OpenPart, awaited}
use Rattle.dbl_capture_work.specs.Follow.Steps.{closing, mark_of, records_by, records_of, watermark_in}
use Rattle.dbl_capture_work.proofs.FollowSnapshotSteps.{closing-None}
use Rattle.dbl_capture_work.proofs.FollowAmidLemmas.{amid_begins, amid_same}
use Rattle.dbl_capture_work.specs.CaptureModel.Counted.{waiting}
use Rattle.dbl_capture_work.specs.declared.groups.Gathered.{Gathered}
use Rattle.dbl_capture_work.specs.Causes.{IsChunkHalt}
use Rattle.dbl_capture_work.specs.declared.halt.Halt.{Halt}
use Rattle.dbl_capture_work.specs.declared.report.Report.{Report}
use Rattle.dbl_capture_work.specs.declared.work.SessionState.{SessionState}
use Rattle.dbl_capture_work.specs.Groups.{IsBatched, IsGathered, records_in}
use Rattle.dbl_capture_work.specs.Takes.{HasTakenPiece, WasTaken}
use Rattle.dbl_capture_work.specs.Works.{CouldBeSentSoFar, HasOpen, IsAmidWork, IsOwnWaiting, head_in, open_commit, plan_with, rest_in, resting}
use Rattle.dbl_capture_work.proofs.Delivering.{drop_front}
use Rattle.dbl_capture_work.proofs.CommitSteps.{nothing_released}
use Rattle.dbl_capture_laws.proofs.Ahead.{same_plan}
use Rattle.dbl_capture_laws.proofs.Within.{open_cursors}
use Rattle.dbl_capture_laws.specs.Awaited.{AreAwaited}
use Rattle.dbl_capture_laws.specs.Carried.{Beginning, IsResting}
use Rattle.dbl_capture_laws.specs.Sources.{HasCommitted, HasSettledAll, IsUnderWay}
use Rattle.dbl_capture_laws.specs.Underway.{IsOpenedBy}
use Rattle.dbl_capture_laws.specs.Written.{AreClosed}
use Rattle.dbl_capture_laws.proofs.OpenCommits.{AddsChanges, EndsChanges, EndsOpenCommit, ends_open, goes_on, nothing_so_far, printed_end}

none_both : (xs ys : List Record) → xs ++ ys ≡ [] → xs ≡ []
none_both [] ys is = refl
none_both (x ∷ xs) ys is = cc

-- ---- windows that differ in their rows

-- the new one is the old one, perhaps with fewer rows
abbrev pub IsLike : Window → Window → Type 0
IsLike Absent new = new ≡ Absent
IsLike (Armed chunk) new = new ≡ Armed chunk
IsLike (Open chunk) new = (rows : List (Key × Row)) × (new ≡ Open (record chunk { rows = rows }))

like_passed : (infos : List TableInfo) (old : Window) (changes : List Change) (new : Window) → PassesSoFar infos old changes new → IsLike old new
like_passed infos Absent [] new passes = passes
like_passed infos (Armed chunk) [] new passes = passes
like_passed infos (Open chunk) [] new passes = (chunk.rows, passes)
like_passed infos Absent (c ∷ changes) new passes = passes
like_passed infos (Armed chunk) (c ∷ changes) new passes = passes
like_passed infos (Open chunk) (c ∷ changes) new passes = (passes.0, passes.1)

pub like_awaited : (old new : Window) → IsLike old new → awaited new ≡ awaited old
like_awaited Absent new is = ap awaited is
like_awaited (Armed chunk) new is = ap awaited is
like_awaited (Open chunk) new is = ap awaited is.1

pub like_waiting : (old new : Window) → IsLike old new → waiting new ≡ waiting old
like_waiting Absent new is = ap waiting is
like_waiting (Armed chunk) new is = ap waiting is
like_waiting (Open chunk) new is = ap waiting is.1

pub like_none : (old new : Window) → IsLike old new → old ≡ Absent → new ≡ Absent
like_none old new is none = subst (λ (w : Window). IsLike w new) none is

pub like_opened : (commits : List Commit) (old new : Window) → IsLike old new → IsOpenedBy old commits → IsOpenedBy new commits
like_opened commits Absent new is opened = subst (λ (w : Window). IsOpenedBy w commits) (sym is) tt
like_opened commits (Armed chunk) new is opened = subst (λ (w : Window). IsOpenedBy w commits) (sym is) tt
like_opened commits (Open chunk) new is opened = subst (λ (w : Window). IsOpenedBy w commits) (sym is.1) opened

pub opened_like : (commits : List Commit) (old new : Window) → IsLike old new → IsOpenedBy new commits → IsOpenedBy old commits
opened_like commits Absent new is opened = tt
opened_like commits (Armed chunk) new is opened = tt
opened_like commits (Open chunk) new is opened = subst (λ (w : Window). IsOpenedBy w commits) is.1 opened

pub like_awaits : (later : List (Option (List ℕ))) (old new : Window) → IsLike old new → AreAwaited later old → AreAwaited later new
like_awaits later Absent new is waits = subst (AreAwaited later) (sym is) tt
like_awaits later (Armed chunk) new is waits = subst (AreAwaited later) (sym is) waits
like_awaits later (Open chunk) new is waits = subst (AreAwaited later) (sym is.1) waits

pub awaits_like : (later : List (Option (List ℕ))) (old new : Window) → IsLike old new → AreAwaited later new → AreAwaited later old
awaits_like later Absent new is waits = tt
awaits_like later (Armed chunk) new is waits = subst (AreAwaited later) is waits
awaits_like later (Open chunk) new is waits = subst (AreAwaited later) is.1 waits

-- ---- what both share

module _ {ms : List Message} {work : SessionState} (ahead : HasOpen ms work) where
  pub window_like : IsLike ahead.start.window work.follower.window
  window_like = like_passed ahead.start.infos ahead.start.window (changes_so_far work.offset.infos ms) work.follower.window ahead.is.amid.passes

  pub closed_open : (chunks : ℕ) → AreClosed (rest_in ahead) chunks → AreClosed work chunks
  closed_open chunks is = is ∙ ap (λ (n : ℕ). chunks + n) (sym (like_waiting ahead.start.window work.follower.window window_like))

  pub closed_rest : (chunks : ℕ) → AreClosed work chunks → AreClosed (rest_in ahead) chunks
  closed_rest chunks is = is ∙ ap (λ (n : ℕ). chunks + n) (like_waiting ahead.start.window work.follower.window window_like)

  pub awaited_open : awaited work.follower.window ≡ awaited ahead.start.window
  awaited_open = like_awaited ahead.start.window work.follower.window window_like

  pub chunk_rest : (table : ℕ) (told : Option Trace) (h : Halt) → IsChunkHalt work table told h → IsChunkHalt (rest_in ahead) table told h
  chunk_rest table told h chunk = record {
    info = chunk.info;
    info_is = chunk.info_is;
    plan = chunk.plan;
    plan_is =
        same_plan ms work ahead table (slice_get work.offset.infos table) (slice_get ahead.start.cursors table)
        ∙ (ap (λ (l : List Cursor). plan_with work table (slice_get work.offset.infos table) (slice_get l table)) (sym (open_cursors ms work ahead)) ∙ chunk.plan_is);
    cause = chunk.cause;
  }

  -- between transactions nothing was appended
  pub put_none : begin_of ms ≡ None → ahead.put ≡ []
  put_none closed =
      none_both ahead.put (records_in work.batch)
      (nothing_released ahead.start work.follower (head_in (begin_of ms)) (changes_so_far work.offset.infos ms) work.now_ms (ahead.put ++ records_in work.batch)
      (ap (λ (o : Option Head). if_open o (open_changes work.offset.infos ms)) closed) ahead.is.amid)

  -- it is its follower, but for the window and the part of the transaction
  start_is : ahead.start ≡ record work.follower { window = ahead.start.window; part = None }
  start_is =
      ap (λ (p : Option OpenPart). record ahead.start { part = p }) ahead.is.amid.between
      ∙ sym (ap (λ (f : Following). record f { window = ahead.start.window; part = None }) ahead.is.amid.same)

-- the windows that were read are closed, but for one that may wait
module _ {S : Type 0} {source_model : SourceModel S} {at : Option SourceState} {found : Option Trace} {b : Beginning} {stored : Option Offset} {work : SessionState} {report : Report} {src : S} where
  pub way_closed : IsUnderWay source_model at found b stored work report src → AreClosed work report.chunks
  way_closed u = closed_open u.ahead report.chunks u.is.is.windows

  pub read_closed : HasCommitted source_model at found b stored work report src → AreClosed work report.chunks
  read_closed r = closed_open r.ahead report.chunks r.is.windows

  pub settled_closed : HasSettledAll source_model at found b stored work report src → AreClosed work report.chunks
  settled_closed e = closed_open e.ahead report.chunks e.is.is.windows

-- ---- two sessions before one transaction

module _ {first ms : List Message} {work : SessionState} (a : HasOpen first work) (b : HasOpen ms work) where
  agree : a.start ≡ record b.start { window = a.start.window }
  agree = start_is a ∙ sym (ap (λ (f : Following). record f { window = a.start.window }) (start_is b))

  -- what is so of one of them is so of the other
  pub opens_agree : (begun : Beginning) (messages : List Message) (stored : Option Offset) (report : Report) → IsOwnWaiting work.offset.incarnation work.number work.offset.infos b.start.cursors work.chunk b.start.window
      → IsResting begun messages stored (rest_in a) report → IsResting begun messages stored (rest_in b) report
  opens_agree begun messages stored report own rests = by (subst (λ (f : Following). IsResting begun messages stored (resting f work) report) agree rests)
    where
      by : IsResting begun messages stored (resting (record b.start { window = a.start.window }) work) report → IsResting begun messages stored (rest_in b) report
      by r = record {
        is = record {
          offset = r.is.offset;
          stored_is = r.is.stored_is;
          of = record { for_config = r.is.of.for_config; of = r.is.of.of; placed = r.is.of.placed; time = r.is.of.time; most = r.is.of.most };
          upto = r.is.upto;
          is = record {
            asked = r.is.is.asked;
            identity = r.is.is.identity;
            infos = r.is.is.infos;
            cursors = r.is.is.cursors;
            stands = r.is.is.stands;
            fields = r.is.is.fields;
            accepted = r.is.is.accepted;
            lsn = r.is.is.lsn;
            end_is = r.is.is.end_is;
            start = r.is.is.start;
            sent = r.is.is.sent;
            between = r.is.is.between;
            own = own;
            some_rows = r.is.is.some_rows;
            few_rows = r.is.is.few_rows;
            some = r.is.is.some;
          };
          so_far = record { clear = r.is.so_far.clear; short = r.is.so_far.short };
          end_is = r.is.end_is;
          many = r.is.many;
          followed = r.is.followed;
          opened = opened_like (commits_of work.offset.infos messages) b.start.window work.follower.window (window_like b)
              (like_opened (commits_of work.offset.infos messages) a.start.window work.follower.window (window_like a) r.is.opened);
          windows = r.is.windows
              ∙ ap (λ (n : ℕ). report.chunks + n) (sym (like_waiting a.start.window work.follower.window (window_like a)) ∙ like_waiting b.start.window work.follower.window (window_like b));
          moves = r.is.moves;
        };
        same = r.same;
      }

-- ---- between transactions

module _ (ms : List Message) (work : SessionState) (none : changes_so_far work.offset.infos ms ≡ []) (part : work.follower.part ≡ None) (batch : work.batch ≡ None) where
  -- the session is before no transaction but itself
  abbrev pub opens_none : HasOpen ms work
  opens_none = record {
    start = work.follower;
    put = [];
    is = record {
      amid = amid_same (sym none) (sym (ap records_in batch)) (amid_begins work.follower (head_in (begin_of ms)) work.now_ms part);
      gathered = subst (λ (o : Option Gathered). IfSome o IsGathered) (sym batch) tt;
      batched = subst (λ (o : Option Gathered). IsBatched [] (records_in o)) (sym batch) refl;
      short = tt;
      early = inl refl;
    };
  }

  pub rest_none : resting work.follower work ≡ work
  rest_none = ap (λ (o : Option Gathered). record work { batch = o }) (sym batch)

-- ---- a message is taken

pub taken_open : {after : Lsn} {ms : List Message} {bytes : List ℕ} {o : Option Commit} {old next : SessionState} {start : Following} {put : List Record} → WasTaken after ms bytes old next o → IsAmidWork ms start put old → IsAmidWork ms start put next
taken_open {ms = ms} {start = start} {put = put} w is = subst (λ (x : SessionState). IsAmidWork ms start put x) (sym w.same) (record {
  amid = is.amid;
  gathered = is.gathered;
  batched = is.batched;
  short = is.short;
  early = is.early;
})

-- ---- a message that states nothing, and ends no commit

head_any : {start f : Following} {head : Head} {now : ℤ} {released : List Record} (other : Head) → IsAmid start head [] now released f → IsAmid start other [] now released f
head_any other a = record { between = a.between; same = a.same; passes = a.passes; no_clash = refl; released_are = a.released_are }

module _ (after : Lsn) (ms : List Message) (bytes : List ℕ) (old next : SessionState) (accepted : AreWithoutFault old.offset.infos after ms) (p : HasTakenPiece after ms bytes old next Nothing) where
  abbrev infos : List TableInfo
  infos = old.offset.infos

  same_changes : changes_so_far infos ms ≡ changes_so_far infos (p.taken.message ∷ ms)
  same_changes = (piece_joins infos after p.taken.message ms Nothing p.taken.clean p.is).changes

  abbrev NowOpen : Following → List Record → Head → List Change → Type 0
  NowOpen start put head changes = IsAmid start head changes old.now_ms (put ++ records_in old.batch) old.follower

  pub nothing_open : (start : Following) (put : List Record) → IsAmidWork ms start put old → IsAmidWork (p.taken.message ∷ ms) start put next
  nothing_open start put o = subst (λ (x : SessionState). IsAmidWork (p.taken.message ∷ ms) start put x) (sym p.taken.same) (record {
    amid = by (goes_on infos after p.taken.message ms p.taken.clean accepted);
    gathered = o.gathered;
    batched = o.batched;
    short = o.short;
    early = o.early;
  })
    where
      by : (changes_so_far infos ms ≡ []) ⊎ (AddsChanges infos p.taken.message ms ⊎ EndsChanges infos p.taken.message ms) → NowOpen start put (head_in (begin_of (p.taken.message ∷ ms))) (changes_so_far infos (p.taken.message ∷ ms))
      by (inl none) = amid_same (sym none ∙ same_changes) refl (head_any (head_in (begin_of (p.taken.message ∷ ms))) (amid_same none refl o.amid))
      by (inr (inl adds)) =
          subst (λ (h : Head). NowOpen start put h (changes_so_far infos (p.taken.message ∷ ms))) (ap head_in (sym adds.begun)) (amid_same same_changes refl o.amid)
      by (inr (inr ends)) = let wrong : None ≡ Some ends.commit = sym p.is.1 ∙ ends.ends in cc

-- ---- its records, as those of its commit

-- what was released of the open transaction begins the records of its commit, and is none if that has a watermark
record IsFirstOf (start : Following) (commit : Commit) (now : ℤ) (released : List Record) : Type 0 where
  rest : List Record
  whole : records_by start commit now ≡ released ++ rest
  apart : (released ≡ []) ⊎ (is_some (mark_of commit) ≡ false)

module _ (infos : List TableInfo) (after : Lsn) (ms : List Message) (commit : Commit) (e : EndsOpenCommit infos ms commit) (accepted : AreWithoutFault infos after ms) (start f : Following) (now : ℤ) (released : List Record)
    (amid : IsAmid start (head_in (begin_of ms)) (changes_so_far infos ms) now released f) where
  all_open : changes_so_far infos ms ≡ open_changes infos ms
  all_open = ap (λ (o : Option Head). if_open o (open_changes infos ms)) e.begun

  unmarked_open : (c : Change) (cs : List Change) → changes_so_far infos ms ≡ c ∷ cs → (mark : Option (List ℕ)) → open_mark ms ≡ mark → mark ≡ None
  unmarked_open c cs is None at = refl
  unmarked_open c cs is (Some value) at =
      let none : open_changes infos ms ≡ [] = marked_bare infos after ms accepted (subst IsSome (sym at) refl) in
      let wrong : [] ≡ c ∷ cs = sym none ∙ (sym all_open ∙ is) in
      cc

  begins_commit : IsFirstOf start commit now released
  begins_commit = by (changes_so_far infos ms) refl amid.released_are
    where
      by : (cs : List Change) → changes_so_far infos ms ≡ cs → AreReleased start (head_in (begin_of ms)) cs now released f.part → IsFirstOf start commit now released
      by [] is are = record { rest = records_by start commit now; whole = ap (λ (l : List Record). l ++ records_by start commit now) (sym are.1); apart = inl are.1 }
      by (c ∷ cs) is are =
          let none : e.ended.mark ≡ None = e.mark_is ∙ unmarked_open c cs is (open_mark ms) refl in
          let bare : mark_of commit ≡ None = ap mark_of e.is ∙ ap (λ (mark : Option (List ℕ)). watermark_in (body_of mark (changes_so_far infos ms))) none in
          record {
            rest = are.0 ∷ [];
            whole =
                ap (λ (o : Option (List ℕ)). records_of start (closing start.window o) commit now) bare
                ∙ (ap (λ (o : Option Chunk). records_of start o commit now) (closing-None start.window)
                ∙ (ap (λ (x : Commit). envelopes start.identity start.infos x now) e.is
                ∙ (ap (λ (mark : Option (List ℕ)). envelopes start.identity start.infos (commit_by (record e.ended { mark = mark }) (changes_so_far infos ms)) now) none
                ∙ (printed_end start.identity start.infos e.ended (changes_so_far infos ms) now
                ∙ (ap (λ (h : Head). envelopes start.identity start.infos (commit_so_far h (changes_so_far infos ms)) now) (e.same ∙ ap head_in (sym e.begun))
                ∙ (ap (λ (l : List Change). envelopes start.identity start.infos (commit_so_far (head_in (begin_of ms)) l) now) is ∙ sym are.2))))));
            apart = inr (ap (λ (o : Option (List ℕ)). is_some o) bare);
          }

module _ (after : Lsn) (ms : List Message) (bytes : List ℕ) (old next : SessionState) (start : Following) (put : List Record) (o : IsAmidWork ms start put old) (accepted : AreWithoutFault old.offset.infos after ms) (commit : Commit)
    (w : WasTaken after ms bytes old next (Some commit)) where
  abbrev items : List Record
  items = records_by start commit next.now_ms

  begins : IsFirstOf start commit old.now_ms (put ++ records_in old.batch)
  begins = begins_commit old.offset.infos after ms commit (ends_open old.offset.infos after w.message ms commit w.clean (sym w.commit_is)) accepted start old.follower old.now_ms (put ++ records_in old.batch) o.amid

  items_are : items ≡ put ++ (records_in old.batch ++ begins.rest)
  items_are = ap (λ (x : SessionState). records_by start commit x.now_ms) w.same ∙ (begins.whole ∙ append_assoc put (records_in old.batch) begins.rest)

  -- what was appended begins them
  pub part_whole : items ≡ put ++ drop (length put) items
  part_whole = items_are ∙ ap (λ (l : List Record). put ++ l) (sym (ap (drop (length put)) items_are ∙ drop_front put (records_in old.batch ++ begins.rest)))

  pub part_apart : (put ≡ []) ⊎ (is_some (mark_of commit) ≡ false)
  part_apart = elim begins.apart [
    | inl none ↦ inl (none_both put (records_in old.batch) none)
    | inr bare ↦ inr bare
  ]

-- ---- its records so far

-- a message that states nothing leaves them
module _ (after : Lsn) (ms : List Message) (bytes : List ℕ) (start : Following) (old next : SessionState) (accepted : AreWithoutFault old.offset.infos after ms) (p : HasTakenPiece after ms bytes old next Nothing) where
  same_open : changes_so_far old.offset.infos (p.taken.message ∷ ms) ≡ changes_so_far old.offset.infos ms
  same_open = sym (same_changes after ms bytes old next accepted p)

  abbrev AreShortIn : Commit → Type 0
  AreShortIn commit = (place : ℕ) (item : Record) → slice_get (envelopes old.offset.identity old.offset.infos commit old.now_ms) place ≡ Some item
      → place + 2 < length (envelopes old.offset.identity old.offset.infos commit old.now_ms) → length (group_form (item ∷ [])) ≤ group_limit

  pub nothing_sent : CouldBeSentSoFar (resting start old) ms → CouldBeSentSoFar (resting start next) (p.taken.message ∷ ms)
  nothing_sent so_far = subst (λ (x : SessionState). CouldBeSentSoFar (resting start x) (p.taken.message ∷ ms)) (sym p.taken.same) (by (goes_on old.offset.infos after p.taken.message ms p.taken.clean accepted))
    where
      by : (changes_so_far old.offset.infos ms ≡ []) ⊎ (AddsChanges old.offset.infos p.taken.message ms ⊎ EndsChanges old.offset.infos p.taken.message ms) → CouldBeSentSoFar (record (resting start old) { assembler = next.assembler }) (p.taken.message ∷ ms)
      by (inl none) = nothing_so_far (record (resting start old) { assembler = next.assembler }) (p.taken.message ∷ ms) (same_open ∙ none)
      by (inr (inl adds)) =
          let same : open_commit old.offset.infos ms ≡ open_commit old.offset.infos (p.taken.message ∷ ms) = sym (ap₂ (λ (x : Option Head) (cs : List Change). commit_so_far (head_in x) cs) adds.begun same_open) in
          record {
            clear = subst (λ (x : Commit). clash_of old.offset.identity old.offset.infos x ≡ None) same so_far.clear;
            short = subst AreShortIn same so_far.short;
          }
      by (inr (inr ends)) = let wrong : None ≡ Some ends.commit = sym p.is.1 ∙ ends.ends in cc
