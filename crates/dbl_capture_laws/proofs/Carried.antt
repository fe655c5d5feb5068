-- What a session carries from step to step, by the messages that it has taken.
use Rattle.std.proofs.Common.{◌≡◌, ◌∙◌, ◌⊎◌, ◌+◌, ◌<◌, ◌≤◌, ◌^◌, ℕ, suc, true, false, Option, Some, None, List, [], ◌∷◌, ◌++◌, length, refl, sym, ap, subst, arith, append-nil, length-append}
use Rattle.std.specs.Prelude.{is_some, slice_get}
use Rattle.dbl_base.specs.declared.lsn.Lsn.{Lsn}
use Rattle.dbl_pgmsg.specs.declared.messages.Message.{Message}
use Rattle.dbl_model_table.specs.declared.change.Commit.{Commit}
use Rattle.dbl_capture_work.specs.ModelHistory.declared.cursor.Cursor.{Cursor}
use Rattle.dbl_capture_work.specs.ModelCommit.Stated.{commits_of, list_of}
use Rattle.dbl_capture_work.specs.Offset.declared.offset.Offset.{Offset}
use Rattle.dbl_capture_work.specs.Window.Plans.{Chunk}
use Rattle.dbl_capture_work.specs.Follow.declared.window.Window.TheVariants.{Armed}
use Rattle.dbl_capture_work.specs.Follow.Followed.{Following}
use Rattle.dbl_capture_work.specs.Follow.Steps.{closing, cursors_after, mark_of, records_by}
use Rattle.dbl_capture_work.specs.CaptureModel.Counted.{waiting}
use Rattle.dbl_capture_work.specs.declared.report.Report.{Report}
use Rattle.dbl_capture_work.specs.declared.work.SessionState.{SessionState}
use Rattle.dbl_capture_work.specs.Takes.{ReportsStep, WasStepped, WasTaken, closes}
use Rattle.dbl_record.specs.declared.record.Record.{Record}
use Rattle.dbl_capture_work.specs.Works.{AreShort, CouldBeSentSoFar, IsWork, next_offset_of}
use Rattle.dbl_capture_laws.proofs.OpenCommits.{none_after, nothing_so_far}
use Rattle.dbl_capture_laws.proofs.Arms.{PlanIs, arms_work, plan_parts}
use Rattle.dbl_capture_laws.proofs.Keeping.{settled_work}
use Rattle.dbl_capture_laws.proofs.Rising.{accepted_rise}
use Rattle.dbl_capture_laws.proofs.Taken.{followed_is, taken_is}
use Rattle.dbl_capture_laws.specs.Written.{AreClosed}
use Rattle.dbl_capture_laws.specs.Reported.{IsPlacedOf, end_after}
use Rattle.dbl_capture_laws.specs.Halted.{MovesOne}
use Rattle.dbl_capture_laws.specs.Underway.{IsOfFirst, IsOpenedBy}
use Rattle.dbl_capture_laws.specs.Carried.{Beginning, CommitsLeaveItRead, IsReadUpTo, IsResting, MessagesLetItRest, SessionsBeginAtRest, StoresLetItRest, WindowsLetItRest}
use Rattle.dbl_capture_laws.proofs.Written.{read_windows_wait, steps_close_windows}
use Rattle.dbl_capture_laws.proofs.Reported.{ends_on, of_session}
use Rattle.dbl_capture_laws.proofs.Moving.{moves_one, steps_open_windows}

-- ---- it begins

same_le : (n m : ℕ) → n ≡ m → n ≤ m
same_le n m is = omega (arith, is)

none_yet : (n c : ℕ) → n ≡ 0 → c ≡ 0 → n ≡ c + 0
none_yet n c one two = omega (arith, one, two)

pub sessions_begin_at_rest : SessionsBeginAtRest
sessions_begin_at_rest b every work report for begun messages commits chunks = record {
  is = record {
    offset = b.first;
    stored_is = refl;
    of = record {
      for_config = for;
      of = record { identity = refl; infos = refl; versions = refl; start = refl; incarnation = refl };
      placed = subst (λ (o : Offset). IsPlacedOf b.first o) (sym begun.offset_is) refl;
      time = begun.now_is;
      most = begun.chunk_is;
    };
    upto = same_le b.first.lsn.0 work.offset.lsn.0 (ap (λ (o : Offset). o.lsn.0) (sym begun.offset_is));
    is = begun.is;
    so_far = nothing_so_far work [] refl;
    end_is = ap (λ (o : Offset). o.end_lsn) begun.offset_is;
    many = sym messages;
    followed = commits;
    opened = subst (λ (f : Following). IsOpenedBy f.window []) (sym begun.follower) tt;
    windows = subst (λ (f : Following). work.number ≡ report.chunks + waiting f.window) (sym begun.follower) (none_yet work.number report.chunks begun.unread chunks);
    moves = record { others = λ place apart. ap (λ (f : Following). slice_get f.cursors place) begun.follower };
  };
  same = sym (ap (λ (f : Following). f.cursors) begun.follower);
}

-- ---- a window is read

pub windows_let_it_rest : WindowsLetItRest
windows_let_it_rest b ms stored old new table report r absent unread armed = subst (λ (x : SessionState). IsResting b ms stored x report) (sym armed.is) rests
  where
    plan : PlanIs old table armed.chunk.plan
    plan = plan_parts old table armed.chunk.plan armed.plan

    waits : AreClosed (record old { follower = record old.follower { window = Armed armed.chunk }; number = old.number + 1 }) report.chunks
    waits = subst (λ (x : SessionState). AreClosed x report.chunks) armed.is (read_windows_wait old new table report.chunks absent armed r.is.windows)

    works : IsWork b.first.lsn ms (record old { follower = record old.follower { window = Armed armed.chunk }; number = old.number + 1 })
    works = arms_work old table armed.chunk plan unread.first armed.few armed.ordered r.is.is

    rests : IsResting b ms stored (record old { follower = record old.follower { window = Armed armed.chunk }; number = old.number + 1 }) report
    rests = record {
      is = record {
        offset = r.is.offset;
        stored_is = r.is.stored_is;
        of = record { for_config = r.is.of.for_config; of = r.is.of.of; placed = r.is.of.placed; time = r.is.of.time; most = r.is.of.most };
        upto = r.is.upto;
        is = works;
        so_far = record { clear = r.is.so_far.clear; short = r.is.so_far.short };
        end_is = r.is.end_is;
        many = r.is.many;
        followed = r.is.followed;
        opened = tt;
        windows = waits;
        moves = r.is.moves;
      };
      same = r.same;
    }

-- ---- a message is taken

one_longer : (n m : ℕ) → n ≡ m → suc n ≡ m + 1
one_longer n m is = omega (arith, is)

pub messages_let_it_rest : MessagesLetItRest
messages_let_it_rest b ms stored old next before report bytes r w so_far messages commits chunks = subst (λ (x : SessionState). IsResting b (w.message ∷ ms) stored x report) (sym w.same) rests
  where
    sends : CouldBeSentSoFar (record old { assembler = next.assembler }) (w.message ∷ ms)
    sends = subst (λ (x : SessionState). CouldBeSentSoFar x (w.message ∷ ms)) w.same so_far

    -- it states no commit more
    same_commits : commits_of old.offset.infos ms ≡ commits_of old.offset.infos (w.message ∷ ms)
    same_commits =
        sym (append-nil (commits_of old.offset.infos ms))
        ∙ ap (λ (o : Option Commit). commits_of old.offset.infos ms ++ list_of o) w.commit_is

    rests : IsResting b (w.message ∷ ms) stored (record old { assembler = next.assembler }) report
    rests = record {
      is = record {
        offset = r.is.offset;
        stored_is = r.is.stored_is;
        of = record { for_config = r.is.of.for_config; of = r.is.of.of; placed = r.is.of.placed; time = r.is.of.time; most = r.is.of.most };
        upto = r.is.upto;
        is = taken_is b.first.lsn ms old r.is.is w.message w.spells.fits.fields next.assembler w.clean w.stands (sym w.commit_is);
        so_far = record { clear = sends.clear; short = sends.short };
        end_is = r.is.end_is ∙ ap (end_after b.first.end_lsn) same_commits;
        many = one_longer (length ms) before.messages r.is.many ∙ sym messages;
        followed = commits ∙ (r.is.followed ∙ ap (λ (l : List Commit). length l) same_commits);
        opened = subst (λ (l : List Commit). IsOpenedBy old.follower.window l) same_commits r.is.opened;
        windows = subst (λ (n : ℕ). AreClosed (record old { assembler = next.assembler }) n) (sym chunks) r.is.windows;
        moves = r.is.moves;
      };
      same = r.same;
    }

-- ---- a commit is followed

lower : (a b c : ℕ) → a ≤ b → b < c → a ≤ c
lower a b c le lt = omega (arith, le, lt)

some_false : (o : Option Chunk) → is_some o ≡ false → o ≡ None
some_false None is = refl
some_false (Some chunk) is = cc

module _ (b : Beginning) (ms : List Message) (stored : Option Offset) (old next new : SessionState) (before report : Report) (bytes : List ℕ) (commit : Commit)
    (r : IsResting b ms stored old before) (w : WasTaken b.first.lsn ms bytes old next (Some commit)) where
  abbrev taken : SessionState
  taken = record old { assembler = next.assembler }

  abbrev counted : Report
  counted = record before { messages = before.messages + 1 }

  module _ (put rest : List Record) (st : WasStepped commit taken new) (short : AreShort (records_by old.follower commit old.now_ms)) (small : old.number < 2 ^ 64) (parted : records_by old.follower commit old.now_ms ≡ put ++ rest)
      (either : (put ≡ []) ⊎ (is_some (mark_of commit) ≡ false)) (reports : ReportsStep (is_some (mark_of commit)) rest counted report true) where
    abbrev followed : SessionState
    followed = record taken { offset = record old.offset { lsn = commit.lsn; end_lsn = commit.end_lsn }; follower = new.follower; since = old.since + 1 }

    -- it states one commit more
    one_commit : commits_of old.offset.infos ms ++ commit ∷ [] ≡ commits_of old.offset.infos (w.message ∷ ms)
    one_commit = ap (λ (o : Option Commit). commits_of old.offset.infos ms ++ list_of o) w.commit_is

    messages_are : report.messages ≡ before.messages + 1
    messages_are = ap (λ (x : Report). x.messages) reports.is ∙ ap (λ (x : Report). x.messages) (reports.all refl)

    commits_are : report.commits ≡ before.commits + 1
    commits_are = ap (λ (x : Report). x.commits) reports.is ∙ ap (λ (x : Report). x.commits + 1) (reports.all refl)

    closed_are : AreClosed followed report.chunks
    closed_are = subst (λ (x : SessionState). AreClosed x report.chunks) st.same (steps_close_windows commit taken new put rest counted report small st parted either reports r.is.windows)

    rises : old.offset.lsn.0 < commit.lsn.0
    rises = subst (λ (l : Lsn). l.0 < commit.lsn.0) (sym r.is.is.lsn) (accepted_rise old.offset.infos b.first.lsn ms w.message commit (w.clean, r.is.is.accepted) (sym w.commit_is))

    moved : MovesOne r.is.offset.cursors new.follower.cursors
    moved =
        subst (λ (l : List Cursor). MovesOne l new.follower.cursors) (sym r.same)
        (moves_one old.offset.incarnation old.number old.chunk old.offset.infos commit old.follower new.follower r.is.is.own st.steps)

    subsequent : IsReadUpTo b (w.message ∷ ms) stored followed report
    subsequent = record {
      offset = r.is.offset;
      stored_is = r.is.stored_is;
      of = record {
        for_config = r.is.of.for_config;
        of = r.is.of.of;
        placed = ap (λ (o : Offset). record o { lsn = commit.lsn; end_lsn = commit.end_lsn }) r.is.of.placed;
        time = r.is.of.time;
        most = r.is.of.most;
      };
      upto = lower r.is.offset.lsn.0 old.offset.lsn.0 commit.lsn.0 r.is.upto rises;
      is = followed_is b.first.lsn ms old r.is.is w.message w.spells.fits.fields next.assembler w.clean w.stands commit (sym w.commit_is) new.follower st.steps st.no_clash short st.listed;
      so_far = nothing_so_far followed (w.message ∷ ms) (none_after old.offset.infos w.message ms commit (sym w.commit_is));
      end_is = sym (ap (end_after b.first.end_lsn) (sym one_commit) ∙ ends_on b.first.end_lsn (commits_of old.offset.infos ms) (commit ∷ []));
      many = one_longer (length ms) before.messages r.is.many ∙ sym messages_are;
      followed = commits_are
          ∙ (ap (λ (n : ℕ). n + 1) r.is.followed
          ∙ (sym (length-append (commits_of old.offset.infos ms) (commit ∷ [])) ∙ ap (λ (l : List Commit). length l) one_commit));
      opened = subst (λ (l : List Commit). IsOpenedBy new.follower.window l) one_commit (steps_open_windows commit taken new (commits_of old.offset.infos ms) st r.is.opened);
      windows = closed_are;
      moves = moved;
    }

    pub after_it : IsReadUpTo b (w.message ∷ ms) stored new report
    after_it = subst (λ (x : SessionState). IsReadUpTo b (w.message ∷ ms) stored x report) (sym st.same) subsequent

    pub at_rest : closing old.follower.window (mark_of commit) ≡ None → IsResting b (w.message ∷ ms) stored new report
    unfolding subsequent
    at_rest none = subst (λ (x : SessionState). IsResting b (w.message ∷ ms) stored x report) (sym st.same) (record {
      is = subsequent;
      same = r.same ∙ sym (st.steps.cursors ∙ ap (cursors_after old.follower.cursors) none);
    })

pub commits_leave_it_read : CommitsLeaveItRead
commits_leave_it_read b ms stored old next new before report bytes commit put rest r w st short small parted either reports = (
  after_it b ms stored old next new before report bytes commit r w put rest stepped now_short small now_parted either reports,
  λ closed. at_rest b ms stored old next new before report bytes commit r w put rest stepped now_short small now_parted either reports
      (some_false (closing old.follower.window (mark_of commit)) (subst (λ (x : SessionState). closes x commit ≡ false) w.same closed)),
)
  where
    stepped : WasStepped commit (record old { assembler = next.assembler }) new
    stepped = subst (λ (x : SessionState). WasStepped commit x new) w.same st

    now_short : AreShort (records_by old.follower commit old.now_ms)
    now_short = subst (λ (x : SessionState). AreShort (records_by x.follower commit x.now_ms)) w.same short

    now_parted : records_by old.follower commit old.now_ms ≡ put ++ rest
    now_parted = subst (λ (x : SessionState). records_by x.follower commit x.now_ms ≡ put ++ rest) w.same parted

-- ---- an offset is stored

-- the next offset is of the session
pub of_next : (b : Beginning) (offset : Offset) (work : SessionState) → IsOfFirst b.config b.now b.held b.first offset work → IsOfFirst b.config b.now b.held b.first (next_offset_of work) work
of_next b offset work of = record {
  for_config = of.for_config;
  of = of_session b.config b.held b.first work of.for_config of.placed;
  placed = of.placed;
  time = of.time;
  most = of.most;
}

pub stores_let_it_rest : StoresLetItRest
stores_let_it_rest b ms stored old new before report is same counted =
    subst (λ (x : SessionState). IsResting b ms (Some (next_offset_of old)) x report) (sym same)
    (subst (λ (x : Report). IsResting b ms (Some (next_offset_of old)) (record old { since = 0 }) x) (sym counted) rests)
  where
    next : IsOfFirst b.config b.now b.held b.first (next_offset_of old) old
    next = of_next b is.offset old is.of

    rests : IsResting b ms (Some (next_offset_of old)) (record old { since = 0 }) (record before { position = report.position })
    rests = record {
      is = record {
        offset = next_offset_of old;
        stored_is = refl;
        of = record { for_config = next.for_config; of = next.of; placed = next.placed; time = next.time; most = next.most };
        upto = same_le old.offset.lsn.0 old.offset.lsn.0 refl;
        is = settled_work b.first.lsn ms old is.is;
        so_far = record { clear = is.so_far.clear; short = is.so_far.short };
        end_is = is.end_is;
        many = is.many;
        followed = is.followed;
        opened = is.opened;
        windows = is.windows;
        moves = record { others = λ place apart. refl };
      };
      same = refl;
    }
