-- A session that reads the next message, and follows the commit that it ends: what it keeps, and what it may leave on the way.
use Rattle.std.proofs.Common.{◌≡◌, ◌∙◌, ◌⊎◌, inl, inr, ◌+◌, ◌≤◌, ◌<◌, ℕ, ℤ, suc, zero, Bool, Option, Some, None, List, [], ◌∷◌, ◌++◌, length, map, take, refl, sym, ap, ap₂, subst, arith, append_assoc, append-nil, IsTrue}
use Rattle.std.specs.Prelude.{MatchOption}
use Rattle.std.proofs.lemmas.List.{length-map}
use Rattle.dbl_base.specs.declared.lsn.Lsn.{Lsn}
use Rattle.dbl_pgmsg.specs.declared.messages.Message.{Message}
use Rattle.dbl_pgmsg.specs.Grammar.{Spells}
use Rattle.dbl_pgmsg.proofs.MessageLaws.{one_message}
use Rattle.dbl_record.specs.declared.record.Record.{Record}
use Rattle.dbl_record.specs.Cuts.{cut}
use Rattle.dbl_topic.specs.Model.{SinkModel}
use Rattle.dbl_capture_work.specs.Source.Model.{SourceModel}
use Rattle.dbl_model_table.specs.declared.table.TableInfo.{TableInfo}
use Rattle.dbl_model_table.specs.declared.change.Commit.{Commit}
use Rattle.dbl_capture_work.specs.Disk.Model.{DiskModel}
use Rattle.dbl_capture_work.specs.ModelHistory.Fit.{AreInfosOf, IsFitHistory}
use Rattle.dbl_capture_work.specs.ModelHistory.History.{RawCommit, History}
use Rattle.dbl_capture_work.specs.ModelHistory.Ranges.{IsMomentInRange}
use Rattle.dbl_capture_work.specs.ModelHistory.Typed.{typed_commit}
use Rattle.dbl_capture_work.specs.ModelCommit.Stated.{ended_commit, transaction_fault}
use Rattle.dbl_capture_work.specs.ModelEvent.SnapshotLists.{IsSnapshot}
use Rattle.dbl_capture_work.specs.Txn.Stands.{StandsInPieces}
use Rattle.dbl_capture_work.specs.Txn.declared.assembler.Assembler.{Assembler}
use Rattle.dbl_capture_work.specs.SourceModel.Calls.{Moved, HasReadOneMore, HasReadAllPlainly}
use Rattle.dbl_capture_work.specs.SourceModel.Leaves.{MayFollow}
use Rattle.dbl_capture_work.specs.SourceModel.Standings.{Reading, SourceState, CrashState, left_of}
use Rattle.dbl_capture_work.specs.SourceModel.Stated.{commits_after, to_state, IsReadPlainly}
use Rattle.dbl_capture_work.proofs.SourceModelReadLemmas.{states_so_far}
use Rattle.dbl_capture_work.specs.Offset.declared.offset.Offset.{Offset}
use Rattle.dbl_capture_work.specs.OffsetStore.Stores.{StoreOn, disk_of}
use Rattle.dbl_capture_work.proofs.FaithfulItems.{first_some}
use Rattle.dbl_capture_work.proofs.FaithfulLists.{longer, is_longer}
use Rattle.dbl_capture_work.proofs.WindowHonestLemmas.{captured_stays}
use Rattle.dbl_capture_work.specs.Follow.Followed.{Following}
use Rattle.dbl_capture_work.specs.Follow.Steps.{Steps, mark_of, clash_by, closed_of, closing, records_by}
use Rattle.dbl_capture_work.specs.CaptureModel.Entries.{SessionStart, WasFaithful}
use Rattle.dbl_capture_work.specs.CaptureModel.Stages.{Stage, read_at}
use Rattle.dbl_capture_work.specs.CaptureModel.Exits.{MayBeLeft}
use Rattle.dbl_capture_work.specs.CaptureModel.Going.{IsGoing}
use Rattle.dbl_capture_work.specs.CaptureModel.Steps.{ReadsOneMore, WasFollowed, followed_at}
use Rattle.dbl_capture_work.specs.CaptureModel.Outcomes.{FollowsSession}
use Rattle.dbl_capture_work.proofs.CaptureModelCommits.{commits_keep_going}
use Rattle.dbl_capture_work.proofs.CaptureModelParting.{read_histories_are_closed}
use Rattle.dbl_capture_work.proofs.CaptureModelGrowing.{state_longer}
use Rattle.dbl_capture_work.proofs.CaptureModelSinks.{sinks_may_end}
use Rattle.dbl_capture_work.proofs.CaptureModelStepping.{others_keep_going, messages_keep_going}
use Rattle.dbl_capture_work.specs.declared.report.Report.{Report}
use Rattle.dbl_capture_work.specs.declared.work.SessionState.{SessionState}
use Rattle.dbl_capture_laws.specs.Sessions.{state_at_stage, InSession, IsWorkOf, LeavesBy}
use Rattle.dbl_capture_work.specs.Takes.{GoesOnOpen, HasSnapshotRecords, IsLeftByStep, LeftOpen, WasStepped, WasTaken}
use Rattle.dbl_capture_laws.specs.Turns.{HasReadAllAt}
use Rattle.dbl_capture_work.specs.Works.{AreShort, HasOpen, IsAmidWork, open_commit, rest_in, resting}
use Rattle.dbl_capture_laws.proofs.Keeping.{held_left, left_weaker, left_others, moved_on, confirmed_low, not_less}
use Rattle.dbl_capture_laws.proofs.OpenCommits.{none_after}
use Rattle.dbl_capture_laws.proofs.Opened.{opens_none}
use Rattle.dbl_capture_laws.proofs.Within.{open_left, part_left}
use Rattle.dbl_capture_laws.proofs.Settles.{few_followed}
use Rattle.dbl_capture_laws.proofs.Taken.{followed_is, followed_work, taken_is}

-- ---- what was read

pub some_read : {B : Type 0} (o : Option B) (P : Type 0) (Q : B → Type 0) (bytes : B) → o ≡ Some bytes → MatchOption o P Q → Q bytes
some_read o P Q bytes is m = subst (λ (x : Option _). MatchOption x P Q) is m

pub none_read : {B : Type 0} (o : Option B) (P : Type 0) (Q : B → Type 0) → o ≡ None → MatchOption o P Q → P
none_read o P Q is m = subst (λ (x : Option _). MatchOption x P Q) is m

-- ---- lists

abbrev tail_of : List Commit → List Commit
tail_of [] = []
tail_of (c ∷ cs) = cs

no_room : (n : ℕ) → suc n ≤ zero → ⊥
no_room n le = omega (arith, le)

one_less : (a b : ℕ) → suc a ≤ suc b → a ≤ b
one_less a b le = omega (arith, le)

-- of two fronts of one list the longer one goes on from the other
prefix_of : (a x b y : List Commit) → a ++ x ≡ b ++ y → length b ≤ length a → (more : List Commit) × (a ≡ b ++ more)
prefix_of a x [] y e le = (a, refl)
prefix_of [] x (d ∷ b) y e le = absurd (no_room (length b) le)
prefix_of (c ∷ a) x (d ∷ b) y e le =
    let rest = prefix_of a x b y (ap tail_of e) (one_less (length b) (length a) le) in
    let same : c ≡ d = cc in
    (rest.0, ap₂ (λ (h : Commit) (t : List Commit). h ∷ t) same rest.1)

-- what a longer history is to state begins with what the shorter one is
grown_state : (infos : List TableInfo) (after : Lsn) (old new : History) (more : List RawCommit) → new ≡ longer old more → to_state infos after new ≡ to_state infos after old ++ map (typed_commit infos) (commits_after after more)
grown_state infos after old new more same = ap (to_state infos after) same ∙ state_longer infos after old more

le_same : (a b c : ℕ) → a ≡ b → b ≤ c → a ≤ c
le_same a b c is le = omega (arith, is, le)

-- ---- a message is taken

module _ {S K D : Type 0} {tell : Bool} {source_model : SourceModel S} {sink_model : SinkModel K} {model : DiskModel D} {entry : SessionStart} {work : SessionState} {src : S} {sink : K} {store : StoreOn D}
    (s : InSession tell source_model sink_model model entry work src sink store) where
  infos_are : work.offset.infos ≡ s.stage.first.infos
  infos_are = ap (λ (o : Offset). o.infos) s.work_is.offset_is

  module _ (m : Message) (t : SourceState) (took : HasReadOneMore m (state_at_stage s.stage) t) where
    reading_is : t.reading ≡ Some (record { after = s.stage.first.lsn; messages = m ∷ s.stage.messages })
    reading_is =
        took.is ∙ ap (λ (r : Reading). Some (record { after = r.after; messages = m ∷ r.messages }))
        (sym (first_some (record { after = s.stage.first.lsn; messages = s.stage.messages }) took.before took.was))

    abbrev pub moved_stage : Stage
    moved_stage = record s.stage { history = t.history }

    pub taken_standing : t ≡ state_at_stage (record s.stage { history = t.history; messages = m ∷ s.stage.messages })
    taken_standing = ap₂ (λ (c : Lsn) (r : Option Reading). record { history = t.history; confirmed = c; reading = r }) took.confirmed reading_is

    module _ (fit : IsFitHistory t.history) (right : (r : Reading) → t.reading ≡ Some r → IsReadPlainly t.history r) (bytes : List ℕ) (spells : Spells bytes m) where
      moved_going : IsGoing entry moved_stage
      moved_going = others_keep_going entry s.stage t.history took.grows fit s.going

      infos_stay : AreInfosOf t.history s.stage.first.infos
      infos_stay = captured_stays s.stage.history t.history s.stage.first.infos took.grows.tables s.going.reading.infos

      reads_on : ReadsOneMore moved_stage m
      reads_on = right (record { after = s.stage.first.lsn; messages = m ∷ s.stage.messages }) reading_is s.stage.first.infos infos_stay

      -- the message that was decoded is the one that the source has given
      pub one_is : (message : Message) → Spells bytes message → message ≡ m
      one_is message other = one_message bytes message m other spells

      clean_own : transaction_fault work.offset.infos s.stage.first.lsn m s.stage.messages ≡ None → transaction_fault s.stage.first.infos s.stage.first.lsn m s.stage.messages ≡ None
      clean_own clean = ap (λ (infos : List TableInfo). transaction_fault infos s.stage.first.lsn m s.stage.messages) (sym infos_are) ∙ clean

      module _ (a : Assembler) (clean : transaction_fault work.offset.infos s.stage.first.lsn m s.stage.messages ≡ None) (stands_on : StandsInPieces work.offset.infos s.stage.first.lsn (m ∷ s.stage.messages) a) where
        abbrev pub taken_work : SessionState
        taken_work = record work { assembler = a }

        -- the session before the open transaction, with the message
        abbrev pub taken_rest : SessionState
        taken_rest = resting s.ahead.start taken_work

        abbrev pub taken_stage : Stage
        taken_stage = record s.stage { history = t.history; messages = m ∷ s.stage.messages }

        -- ---- it ends no commit

        module _ (none : ended_commit work.offset.infos m s.stage.messages ≡ None) where
          pub taken_going : IsGoing entry taken_stage
          taken_going =
              messages_keep_going entry moved_stage m spells.fits.fields (clean_own clean)
              (ap (λ (infos : List TableInfo). ended_commit infos m s.stage.messages) (sym infos_are) ∙ none) reads_on moved_going

          pub taken_work_is : IsWorkOf entry taken_stage taken_rest
          taken_work_is = record {
            is = taken_is s.stage.first.lsn s.stage.messages (rest_in s.ahead) s.work_is.is m spells.fits.fields a clean stands_on none;
            offset_is = s.work_is.offset_is;
            follower_is = s.work_is.follower_is;
            now_is = s.work_is.now_is;
            chunk_is = s.work_is.chunk_is;
            every_is = s.work_is.every_is;
            since_is = s.work_is.since_is;
            number_is = s.work_is.number_is;
          }

          -- it states nothing
          pub message_on : IsAmidWork (m ∷ s.stage.messages) s.ahead.start s.ahead.put taken_work → (src2 : S) → source_model.stands src2 t
              → InSession tell source_model sink_model model entry taken_work src2 sink store
          message_on inside src2 is = record {
            stage = taken_stage;
            ahead = record { start = s.ahead.start; put = s.ahead.put; is = inside };
            source_is = subst (source_model.stands src2) taken_standing is;
            sink_is = s.sink_is;
            store_is = s.store_is;
            work_is = taken_work_is;
            going = taken_going;
          }

          -- it states changes, which the session has followed
          pub changes_on : (new_work : SessionState) (sink2 : K) (report report2 : Report)
              → new_work ≡ record taken_work { follower = new_work.follower; batch = new_work.batch }
              → GoesOnOpen sink_model (m ∷ s.stage.messages) s.ahead.start s.ahead.put new_work sink sink2 report report2 → (src2 : S)
              → source_model.stands src2 t → InSession tell source_model sink_model model entry new_work src2 sink2 store
          changes_on new_work sink2 report report2 same goes src2 is = record {
            stage = taken_stage;
            ahead = record { start = s.ahead.start; put = s.ahead.put ++ goes.more; is = goes.is };
            source_is = subst (source_model.stands src2) taken_standing is;
            sink_is = λ tells. goes.held s.stage.groups (s.sink_is tells);
            store_is = s.store_is;
            work_is = subst (IsWorkOf entry taken_stage) (sym (ap (resting s.ahead.start) same)) taken_work_is;
            going = taken_going;
          }

          -- ---- its sink fails at changes

          module _ (src2 : S) (sink2 : K) (in_range : IsMomentInRange work.now_ms) (since : work.since < work.every)
              (only : (left : CrashState) → source_model.may_leave src2 left → left ≡ left_of t)
              (may : (left : CrashState) → source_model.may_leave src2 left → MayFollow (state_at_stage s.stage) left)
              (fit_left : (left : CrashState) → source_model.may_leave src2 left → IsFitHistory left.history) where
            may_of : (faithful : WasFaithful entry) (left : CrashState) → source_model.may_leave src2 left → MayBeLeft s.stage left
            may_of faithful left is = left_others s.stage left (may left is) (fit_left left is) (confirmed_low s faithful)

            own_left : (left : CrashState) → source_model.may_leave src2 left → left ≡ record { history = t.history; confirmed = s.stage.confirmed }
            own_left left is = only left is ∙ ap (λ (c : Lsn). record { history = t.history; confirmed = c }) took.confirmed

            -- nothing happened since
            own_may : (faithful : WasFaithful entry) (left : CrashState) → source_model.may_leave src2 left → MayBeLeft taken_stage left
            own_may faithful left is = record {
              more = [];
              grown = record {
                tables = ap (λ (l : CrashState). l.history.tables) (own_left left is);
                commits = ap (λ (l : CrashState). l.history.commits) (own_left left is) ∙ sym (append-nil t.history.commits);
              };
              marks = tt;
              fit = fit_left left is;
              no_fall = not_less s.stage.confirmed.0 left.confirmed.0 (ap (λ (l : CrashState). l.confirmed.0) (own_left left is));
              confirmed = subst (λ (l : CrashState). l.confirmed.0 ≤ s.stage.stored.lsn.0) (sym (own_left left is)) (confirmed_low s faithful);
            }

            open_fails : (faithful : WasFaithful entry) (left : CrashState) (groups : List (List Record)) → source_model.may_leave src2 left
                → (groups ≡ s.stage.groups ++ cut s.ahead.put) ⊎ LeftOpen (open_commit work.offset.infos (m ∷ s.stage.messages)) taken_rest s.stage.groups groups
                → FollowsSession entry left groups (Some s.stage.stored)
            open_fails faithful left groups is (inl same) =
                subst (λ (g : List (List Record)). FollowsSession entry left g (Some s.stage.stored)) (sym same)
                (open_left entry s.stage work s.ahead s.work_is s.going left s.stage.stored faithful (may_of faithful left is) (inl refl))
            open_fails faithful left groups is (inr part) =
                subst (λ (g : List (List Record)). FollowsSession entry left g (Some s.stage.stored)) (sym part.is)
                (part_left entry taken_stage taken_rest taken_work_is taken_going in_range since left s.stage.stored faithful (own_may faithful left is) (inl refl)
                part.no_clash part.count part.few)

            pub changes_fail : (IsTrue tell → (groups : List (List Record)) → sink_model.may_leave sink2 groups
                → (groups ≡ s.stage.groups ++ cut s.ahead.put) ⊎ LeftOpen (open_commit work.offset.infos (m ∷ s.stage.messages)) taken_rest s.stage.groups groups)
                → (left : CrashState) × source_model.may_leave src2 left → (IsTrue tell → (groups : List (List Record)) × sink_model.may_leave sink2 groups)
                → LeavesBy tell source_model sink_model model entry src2 sink2 store
            changes_fail delivers some_source some_sink = record {
              follows = λ tells faithful. left_weaker model (disk_of store) (λ offset. offset ≡ Some s.stage.stored) (λ offset. (left : CrashState) (groups : List (List Record)) → source_model.may_leave src2 left → sink_model.may_leave sink2 groups → FollowsSession entry left groups offset)
                  (held_left model store (Some s.stage.stored) (s.store_is tells))
                  (λ offset same left groups is_left is_groups. subst (λ (o : Option Offset). FollowsSession entry left groups o) (sym same) (open_fails faithful left groups is_left (delivers tells groups is_groups)));
              few = λ left is. few_followed s left (may left is).grows;
              some_source = some_source;
              some_sink = some_sink;
            }

        -- ---- it ends one

        module _ (commit : Commit) (ends : ended_commit work.offset.infos m s.stage.messages ≡ Some commit) (in_range : IsMomentInRange work.now_ms) (since : work.since < work.every) where
          in_time : IsMomentInRange entry.now
          in_time = subst IsMomentInRange s.work_is.now_is in_range

          not_due : s.stage.since < entry.config.every
          not_due = subst (λ (n : ℕ). n < entry.config.every) s.work_is.since_is (subst (λ (n : ℕ). work.since < n) s.work_is.every_is since)

          records_same : records_by s.ahead.start commit work.now_ms ≡ records_by s.stage.following commit entry.now
          records_same = ap₂ (λ (f : Following) (now : ℤ). records_by f commit now) s.work_is.follower_is s.work_is.now_is

          was_followed : (new : Following) → Steps s.ahead.start commit new → clash_by s.ahead.start commit ≡ None → HasSnapshotRecords commit taken_rest → WasFollowed moved_stage entry.now m commit new
          was_followed new steps no_clash listed = record {
            fields = spells.fits.fields;
            clean = clean_own clean;
            ends = ap (λ (infos : List TableInfo). ended_commit infos m s.stage.messages) (sym infos_are) ∙ ends;
            right = reads_on;
            steps = subst (λ (f : Following). Steps f commit new) s.work_is.follower_is steps;
            no_clash = ap (λ (f : Following). clash_by f commit) (sym s.work_is.follower_is) ∙ no_clash;
            listed = λ chunk closes. (
                subst (λ (now : ℤ). IsSnapshot s.stage.following.identity s.stage.following.infos (closed_of chunk) commit now (records_by s.stage.following commit now)) s.work_is.now_is
                (subst (λ (f : Following). IsSnapshot f.identity f.infos (closed_of chunk) commit work.now_ms (records_by f commit work.now_ms)) s.work_is.follower_is
                (listed chunk (ap (λ (f : Following). closing f.window (mark_of commit)) s.work_is.follower_is ∙ closes))));
          }

          module _ (new : Following) (steps : Steps s.ahead.start commit new) (no_clash : clash_by s.ahead.start commit ≡ None) (short : AreShort (records_by s.ahead.start commit work.now_ms)) (listed : HasSnapshotRecords commit taken_rest) where
            abbrev pub new_work : SessionState
            new_work = followed_work s.stage.first.lsn s.stage.messages (rest_in s.ahead) s.work_is.is m spells.fits.fields a clean stands_on commit ends new steps no_clash short listed

            -- no transaction is open any more
            abbrev now_open : HasOpen (m ∷ s.stage.messages) new_work
            now_open = opens_none (m ∷ s.stage.messages) new_work (none_after work.offset.infos m s.stage.messages commit ends) steps.ended refl

            pub commit_on : (src2 : S) (sink2 : K) → source_model.stands src2 t → (IsTrue tell → sink_model.holds sink2 (s.stage.groups ++ cut (records_by s.ahead.start commit work.now_ms))) → InSession tell source_model sink_model model entry new_work src2 sink2 store
            commit_on src2 sink2 is held = record {
              stage = followed_at moved_stage entry.now m commit new;
              ahead = now_open;
              source_is = subst (source_model.stands src2) taken_standing is;
              sink_is = λ tells. subst (sink_model.holds sink2) (sym (append-nil (s.stage.groups ++ cut (records_by s.stage.following commit entry.now))))
                  (subst (λ (l : List Record). sink_model.holds sink2 (s.stage.groups ++ cut l)) records_same (held tells));
              store_is = s.store_is;
              work_is = record {
                is = followed_is s.stage.first.lsn s.stage.messages (rest_in s.ahead) s.work_is.is m spells.fits.fields a clean stands_on commit ends new steps no_clash short listed;
                offset_is = ap (λ (o : Offset). record o { lsn = commit.lsn; end_lsn = commit.end_lsn }) s.work_is.offset_is;
                follower_is = refl;
                now_is = s.work_is.now_is;
                chunk_is = s.work_is.chunk_is;
                every_is = s.work_is.every_is;
                since_is = ap (λ (n : ℕ). n + 1) s.work_is.since_is;
                number_is = s.work_is.number_is;
              };
              going = commits_keep_going entry moved_stage m commit new in_time not_due (was_followed new steps no_clash listed) moved_going;
            }

          -- ---- its sink fails

          module _ (src2 : S) (sink2 : K) (only : (left : CrashState) → source_model.may_leave src2 left → left ≡ left_of t)
              (may : (left : CrashState) → source_model.may_leave src2 left → MayFollow (state_at_stage s.stage) left) (fit_left : (left : CrashState) → source_model.may_leave src2 left → IsFitHistory left.history)
              (stepped : IsTrue tell → (groups : List (List Record)) → sink_model.may_leave sink2 groups → IsLeftByStep commit taken_rest s.ahead.put s.stage.groups groups) where
            left_is : (left : CrashState) → source_model.may_leave src2 left → left ≡ record { history = t.history; confirmed = s.stage.confirmed }
            left_is left is = only left is ∙ ap (λ (c : Lsn). record { history = t.history; confirmed = c }) took.confirmed

            follows : (faithful : WasFaithful entry) (left : CrashState) (groups : List (List Record)) → source_model.may_leave src2 left → IsLeftByStep commit taken_rest s.ahead.put s.stage.groups groups → FollowsSession entry left groups (Some s.stage.stored)
            follows faithful left groups is (inl same) =
                subst (λ (g : List (List Record)). FollowsSession entry left g (Some s.stage.stored)) (sym same)
                (open_left entry s.stage work s.ahead s.work_is s.going left s.stage.stored faithful (left_others s.stage left (may left is) (fit_left left is) (confirmed_low s faithful)) (inl refl))
            follows faithful left groups is (inr step) =
                subst (λ (l : CrashState). FollowsSession entry l groups (Some s.stage.stored)) (sym (left_is left is))
                (subst (λ (g : List (List Record)). FollowsSession entry (record { history = t.history; confirmed = s.stage.confirmed }) g (Some s.stage.stored))
                (sym (step.cut_is.1 ∙ ap (λ (l : List Record). s.stage.groups ++ cut (take step.cut_is.0 l)) records_same))
                (sinks_may_end entry moved_stage m commit step.following step.cut_is.0 faithful in_time not_due (was_followed step.following step.steps step.no_clash step.listed) moved_going))

            pub sink_fails : (left : CrashState) × source_model.may_leave src2 left → (IsTrue tell → (groups : List (List Record)) × sink_model.may_leave sink2 groups) → LeavesBy tell source_model sink_model model entry src2 sink2 store
            sink_fails some_source some_sink = record {
              follows = λ tells faithful. left_weaker model (disk_of store) (λ offset. offset ≡ Some s.stage.stored) (λ offset. (left : CrashState) (groups : List (List Record)) → source_model.may_leave src2 left → sink_model.may_leave sink2 groups → FollowsSession entry left groups offset)
                  (held_left model store (Some s.stage.stored) (s.store_is tells))
                  (λ offset same left groups is_left is_groups. subst (λ (o : Option Offset). FollowsSession entry left groups o) (sym same) (follows faithful left groups is_left (stepped tells groups is_groups)));
              few = λ left is. few_followed s left (may left is).grows;
              some_source = some_source;
              some_sink = some_sink;
            }

  -- ---- as the session has it

  -- others may have committed, and a message was given
  module _ (m : Message) (t : SourceState) (took : HasReadOneMore m (state_at_stage s.stage) t) (fit : IsFitHistory t.history) (right : (r : Reading) → t.reading ≡ Some r → IsReadPlainly t.history r) (bytes : List ℕ) (spells : Spells bytes m)
      (work2 : SessionState) (commit : Option Commit) (w : WasTaken s.stage.first.lsn s.stage.messages bytes work work2 commit) where
    own_message : w.message ≡ m
    own_message = one_is m t took fit right bytes spells w.message w.spells

    own_clean : transaction_fault work.offset.infos s.stage.first.lsn m s.stage.messages ≡ None
    own_clean = subst (λ (x : Message). transaction_fault work.offset.infos s.stage.first.lsn x s.stage.messages ≡ None) own_message w.clean

    own_stands : StandsInPieces work.offset.infos s.stage.first.lsn (m ∷ s.stage.messages) work2.assembler
    own_stands = subst (λ (x : Message). StandsInPieces work.offset.infos s.stage.first.lsn (x ∷ s.stage.messages) work2.assembler) own_message w.stands

    own_end : ended_commit work.offset.infos m s.stage.messages ≡ commit
    own_end = subst (λ (x : Message). ended_commit work.offset.infos x s.stage.messages ≡ commit) own_message (sym w.commit_is)

    -- it states nothing
    pub taken_on : commit ≡ None → IsAmidWork (w.message ∷ s.stage.messages) s.ahead.start s.ahead.put work2 → (src2 : S) → source_model.stands src2 t
        → InSession tell source_model sink_model model entry work2 src2 sink store
    taken_on none inside src2 is =
        subst (λ (v : SessionState). InSession tell source_model sink_model model entry v src2 sink store) (sym w.same)
        (message_on m t took fit right bytes spells work2.assembler own_clean own_stands (own_end ∙ none)
        (subst (IsAmidWork (m ∷ s.stage.messages) s.ahead.start s.ahead.put) w.same
        (subst (λ (x : Message). IsAmidWork (x ∷ s.stage.messages) s.ahead.start s.ahead.put work2) own_message inside)) src2 is)

    -- it states changes
    pub changed_on : commit ≡ None → (work3 : SessionState) (sink2 : K) (report report2 : Report)
        → work3 ≡ record work2 { follower = work3.follower; batch = work3.batch }
        → GoesOnOpen sink_model (w.message ∷ s.stage.messages) s.ahead.start s.ahead.put work3 sink sink2 report report2 → (src2 : S)
        → source_model.stands src2 t → InSession tell source_model sink_model model entry work3 src2 sink2 store
    changed_on none work3 sink2 report report2 same goes src2 is =
        changes_on m t took fit right bytes spells work2.assembler own_clean own_stands (own_end ∙ none) work3 sink2 report report2
        (subst (λ (v : SessionState). work3 ≡ record v { follower = work3.follower; batch = work3.batch }) w.same same)
        (subst (λ (x : Message). GoesOnOpen sink_model (x ∷ s.stage.messages) s.ahead.start s.ahead.put work3 sink sink2 report report2) own_message goes) src2 is

    abbrev Left : Message → SessionState → List (List Record) → Type 0
    Left x v groups = (groups ≡ s.stage.groups ++ cut s.ahead.put) ⊎ LeftOpen (open_commit work.offset.infos (x ∷ s.stage.messages)) (resting s.ahead.start v) s.stage.groups groups

    module _ (none : commit ≡ None) (in_range : IsMomentInRange work.now_ms) (since : work.since < work.every) where
      pub change_fails : (src2 : S) (sink2 : K) → ((left : CrashState) → source_model.may_leave src2 left → left ≡ left_of t) → ((left : CrashState) → source_model.may_leave src2 left → MayFollow (state_at_stage s.stage) left)
          → ((left : CrashState) → source_model.may_leave src2 left → IsFitHistory left.history)
          → (IsTrue tell → (groups : List (List Record)) → sink_model.may_leave sink2 groups
          → (groups ≡ s.stage.groups ++ cut s.ahead.put) ⊎ LeftOpen (open_commit work.offset.infos (w.message ∷ s.stage.messages)) (resting s.ahead.start work2) s.stage.groups groups)
          → (left : CrashState) × source_model.may_leave src2 left → (IsTrue tell → (groups : List (List Record)) × sink_model.may_leave sink2 groups) → LeavesBy tell source_model sink_model model entry src2 sink2 store
      change_fails src2 sink2 only may fit_left delivers some_source some_sink =
          changes_fail m t took fit right bytes spells work2.assembler own_clean own_stands (own_end ∙ none) src2 sink2 in_range since only may fit_left
          (λ tells groups is. by tells groups (delivers tells groups is)) some_source some_sink
        where
          by : IsTrue tell → (groups : List (List Record)) → Left w.message work2 groups → Left m (record work { assembler = work2.assembler }) groups
          by tells groups left = subst (λ (v : SessionState). Left m v groups) w.same (subst (λ (x : Message). Left x work2 groups) own_message left)

    module _ (one : Commit) (some : commit ≡ Some one) (in_range : IsMomentInRange work.now_ms) (since : work.since < work.every) where
      pub stepped_on : (work3 : SessionState) → WasStepped one (resting s.ahead.start work2) work3 → AreShort (records_by s.ahead.start one work2.now_ms) → (src2 : S) (sink2 : K) → source_model.stands src2 t
          → (IsTrue tell → sink_model.holds sink2 (s.stage.groups ++ cut (records_by s.ahead.start one work2.now_ms))) → InSession tell source_model sink_model model entry work3 src2 sink2 store
      stepped_on work3 stepped short src2 sink2 is held =
          by (subst (λ (v : SessionState). WasStepped one (resting s.ahead.start v) work3) w.same stepped) (subst (λ (v : SessionState). AreShort (records_by s.ahead.start one v.now_ms)) w.same short)
          (λ t. subst (λ (v : SessionState). sink_model.holds sink2 (s.stage.groups ++ cut (records_by s.ahead.start one v.now_ms))) w.same (held t))
        where
          by : WasStepped one (resting s.ahead.start (record work { assembler = work2.assembler })) work3 → AreShort (records_by s.ahead.start one work.now_ms)
              → (IsTrue tell → sink_model.holds sink2 (s.stage.groups ++ cut (records_by s.ahead.start one work.now_ms)))
              → InSession tell source_model sink_model model entry work3 src2 sink2 store
          by st few held2 =
              subst (λ (v : SessionState). InSession tell source_model sink_model model entry v src2 sink2 store) (sym st.same)
              (commit_on m t took fit right bytes spells work2.assembler own_clean own_stands one (own_end ∙ some) in_range since work3.follower st.steps st.no_clash few st.listed src2 sink2 is held2)

      pub step_fails : (src2 : S) (sink2 : K) → ((left : CrashState) → source_model.may_leave src2 left → left ≡ left_of t) → ((left : CrashState) → source_model.may_leave src2 left → MayFollow (state_at_stage s.stage) left)
          → ((left : CrashState) → source_model.may_leave src2 left → IsFitHistory left.history) → (IsTrue tell → (groups : List (List Record)) → sink_model.may_leave sink2 groups → IsLeftByStep one (resting s.ahead.start work2) s.ahead.put s.stage.groups groups)
          → (left : CrashState) × source_model.may_leave src2 left → (IsTrue tell → (groups : List (List Record)) × sink_model.may_leave sink2 groups) → LeavesBy tell source_model sink_model model entry src2 sink2 store
      step_fails src2 sink2 only may fit_left stepped some_source some_sink =
          sink_fails m t took fit right bytes spells work2.assembler own_clean own_stands one (own_end ∙ some) in_range since src2 sink2 only may fit_left
          (λ t groups is. subst (λ (v : SessionState). IsLeftByStep one (resting s.ahead.start v) s.ahead.put s.stage.groups groups) w.same (stepped t groups is)) some_source some_sink

  -- ---- everything was read

  module _ (t : SourceState) (moved : Moved (state_at_stage s.stage) t) (all : HasReadAllPlainly (state_at_stage s.stage) t) (right : (r : Reading) → t.reading ≡ Some r → IsReadPlainly t.history r) where
    abbrev own_reading : Reading
    own_reading = record { after = s.stage.first.lsn; messages = s.stage.messages }

    infos_moved : AreInfosOf t.history s.stage.first.infos
    infos_moved = captured_stays s.stage.history t.history s.stage.first.infos moved.grows.tables s.going.reading.infos

    -- as many commits were read as the history had at the call
    as_many : length (to_state s.stage.first.infos s.stage.first.lsn s.stage.history) ≤ length (read_at s.stage)
    as_many =
        le_same (length (to_state s.stage.first.infos s.stage.first.lsn s.stage.history)) (length (commits_after s.stage.first.lsn s.stage.history.commits)) (length (read_at s.stage))
        (length-map (commits_after s.stage.first.lsn s.stage.history.commits) (typed_commit s.stage.first.infos))
        (all.each own_reading moved.reading s.stage.first.infos infos_moved s.going.reading.accepted)

    -- what was read goes on from what the history had at the call
    all_read : (more : List Commit) × (read_at s.stage ≡ to_state s.stage.first.infos s.stage.first.lsn s.stage.history ++ more)
    all_read =
        let some = states_so_far s.stage.first.infos s.stage.first.lsn (to_state s.stage.first.infos s.stage.first.lsn t.history) s.stage.messages
        (right own_reading moved.reading s.stage.first.infos infos_moved) s.going.reading.accepted in
        let longer_is : t.history ≡ longer s.stage.history moved.grows.others = is_longer s.stage.history t.history moved.grows.others (record { tables = moved.grows.tables; commits = moved.grows.commits }) in
        let both : read_at s.stage ++ some.later ≡ to_state s.stage.first.infos s.stage.first.lsn s.stage.history ++ map (typed_commit s.stage.first.infos) (commits_after s.stage.first.lsn moved.grows.others) =
        sym some.stated ∙ grown_state s.stage.first.infos s.stage.first.lsn s.stage.history t.history moved.grows.others longer_is in
        prefix_of (read_at s.stage) some.later (to_state s.stage.first.infos s.stage.first.lsn s.stage.history) (map (typed_commit s.stage.first.infos) (commits_after s.stage.first.lsn moved.grows.others)) both as_many

    -- and so from what it had when the session began
    entry_state : to_state s.stage.first.infos s.stage.first.lsn s.stage.history ≡ to_state s.stage.first.infos s.stage.first.lsn entry.history ++ map (typed_commit s.stage.first.infos) (commits_after s.stage.first.lsn s.going.reading.more)
    entry_state = grown_state s.stage.first.infos s.stage.first.lsn entry.history s.stage.history s.going.reading.more (is_longer entry.history s.stage.history s.going.reading.more s.going.reading.grown)

    pub read_whole : (fit : IsFitHistory t.history) (src2 : S) → source_model.stands src2 t → HasReadAllAt tell source_model sink_model model entry work src2 sink store
    read_whole fit src2 is = record {
      is = moved_on s src2 t is moved fit;
      closed = read_histories_are_closed entry s.stage as_many s.going;
      more = map (typed_commit s.stage.first.infos) (commits_after s.stage.first.lsn s.going.reading.more) ++ all_read.0;
      all = all_read.1 ∙ (ap (λ (l : List Commit). l ++ all_read.0) entry_state ∙ append_assoc (to_state s.stage.first.infos s.stage.first.lsn entry.history) (map (typed_commit s.stage.first.infos) (commits_after s.stage.first.lsn s.going.reading.more)) all_read.0);
    }
