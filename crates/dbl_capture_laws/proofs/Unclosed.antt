-- Each window whose high watermark was read was closed: what a window waits for wasn't read yet, and no watermark of the next one is written before it.
use Rattle.std.proofs.Common.{◌≡◌, ◌≢◌, ◌∙◌, ◌⊎◌, inl, inr, ◌+◌, ◌≤◌, ◌<◌, ◌^◌, ℕ, Bool, Option, Some, List, [], ◌∷◌, ◌++◌, length, take, refl, sym, ap, ap₂, subst, arith, length-append, append-nil, append_assoc}
use Rattle.std.specs.Prelude.{slice_get, Result, Ok, Err, OnErr, OnOk}
use Rattle.std.specs.List.{AllByRecursion}
use Rattle.std.proofs.Math.Seq.{take-append_seam}
use Rattle.dbl_pgmsg.specs.declared.messages.Message.{Message}
use Rattle.dbl_topic.specs.Model.{SinkModel}
use Rattle.dbl_capture_work.specs.Source.Model.{SourceModel}
use Rattle.dbl_model_table.specs.declared.change.Body.TheVariants.{Mark}
use Rattle.dbl_model_table.specs.declared.change.Commit.{Commit}
use Rattle.dbl_model_table.specs.declared.table.TableInfo.{TableInfo}
use Rattle.dbl_model_table.proofs.Lists.{slice_get-lt}
use Rattle.dbl_capture_work.specs.Disk.Model.{DiskModel}
use Rattle.dbl_capture_work.specs.ModelHistory.History.{RawCommit}
use Rattle.dbl_capture_work.specs.ModelHistory.History as raw
use Rattle.dbl_capture_work.specs.ModelHistory.MarkTexts.{mark_text}
use Rattle.dbl_capture_work.specs.ModelHistory.MarkTexts.Side.{High}
use Rattle.dbl_capture_work.specs.ModelHistory.Typed.{typed_commit}
use Rattle.dbl_capture_work.specs.ModelCommit.Stated.{commits_of, ended_commit, list_of}
use Rattle.dbl_capture_work.specs.SourceModel.Standings.{Reading, SourceState}
use Rattle.dbl_capture_work.specs.SourceModel.Trace.{Trace}
use Rattle.dbl_capture_work.specs.Offset.declared.offset.Offset.{Offset}
use Rattle.dbl_capture_work.specs.OffsetStore.Stores.{StoreOn}
use Rattle.dbl_capture_work.proofs.FaithfulItems.{all_by_place, at_all, at_left, at_right, first_some, mapped, taken_at}
use Rattle.dbl_capture_work.specs.Window.Plans.{Chunk, high_text}
use Rattle.dbl_capture_work.specs.Follow.declared.window.Window.{Window}
use Rattle.dbl_capture_work.specs.Follow.declared.window.Window.TheVariants.{Absent, Armed, Open}
use Rattle.dbl_capture_work.specs.Follow.Followed.{Following}
use Rattle.dbl_capture_work.specs.CaptureModel.Counted.{waiting}
use Rattle.dbl_capture_work.specs.CaptureModel.Entries.{SessionStart, WasFaithful}
use Rattle.dbl_capture_work.specs.CaptureModel.Going.{IsGoing, KeepsStage, IsPlacedInHistory}
use Rattle.dbl_capture_work.specs.CaptureModel.Marked.{IsArmedBefore, IsAwaited, IsMarkAt, IsOpenBefore, IsOwnWindow}
use Rattle.dbl_capture_work.specs.CaptureModel.Stages.{Stage, later_count, commits_at, read_at}
use Rattle.dbl_capture_work.proofs.CaptureModelEnding.{stood_of}
use Rattle.dbl_capture_work.proofs.CaptureModelWindowing.{raw_mark}
use Rattle.dbl_capture_work.specs.declared.report.Report.{Report}
use Rattle.dbl_capture_work.specs.declared.work.SessionState.{SessionState}
use Rattle.dbl_capture_work.specs.Works.{next_offset_of, rest_in}
use Rattle.dbl_capture_laws.specs.Carried.{Beginning}
use Rattle.dbl_capture_laws.specs.Closed.{HasClosedRead, HasNoHigh}
use Rattle.dbl_capture_laws.specs.Sessions.{InSession, state_at_stage}
use Rattle.dbl_capture_laws.specs.Sources.{HasCommitted}
use Rattle.dbl_capture_laws.proofs.Halting.{incarnation_stored, infos_stored}
use Rattle.dbl_capture_laws.proofs.Opened.{closed_open, like_waiting, window_like}
use Rattle.dbl_capture_laws.proofs.Sources.{reading_of}

-- some first ones of a list are as all of it
all_taken : (P : Commit → Type 0) (n : ℕ) (commits : List Commit) → AllByRecursion P commits → AllByRecursion P (take n commits)
all_taken P n commits all = all_by_place P (take n commits) (λ k commit is. at_all P commits k commit all (taken_at n commits k commit is).1)

-- messages that are read after others state commits after theirs
more_read : (infos : List TableInfo) (newest ms : List Message) → (more : List Commit) × (commits_of infos (newest ++ ms) ≡ commits_of infos ms ++ more)
more_read infos [] ms = ([], sym (append-nil (commits_of infos ms)))
more_read infos (m ∷ newest) ms =
    let r = more_read infos newest ms in
    let one = list_of (ended_commit infos m (newest ++ ms)) in
    (r.0 ++ one, ap (λ (l : List Commit). l ++ one) r.1 ∙ append_assoc (commits_of infos ms) r.0 one)

fewer : (a b c : ℕ) → a ≤ b → b < c → a < c
fewer a b c le lt = omega (arith, le, lt)

-- where no commit is counted there is none
pub closed_unread : (stored : Option Offset) (report : Report) (t : SourceState) → report.commits ≡ 0 → HasClosedRead stored report t
closed_unread stored report t none offset reading held reads number subsequent small =
    subst (λ (n : ℕ). HasNoHigh offset.incarnation number (take n (commits_of offset.infos reading.messages))) (sym none) tt

pub closed_either : {T E : Type 0} (r : Result T E) (P : Type 0) → OnOk r P → OnErr r P → P
closed_either (Ok x) P ok err = ok
closed_either (Err e) P ok err = err

no_more : (chunks number last : ℕ) → last ≡ chunks + 0 → chunks < number → number ≤ last → ⊥
no_more chunks number last is subsequent le = omega (arith, is, subsequent, le)

-- of one window more there is one number
one_more : (chunks number last : ℕ) → last ≡ chunks + 1 → chunks < number → number ≤ last → last ≡ number
one_more chunks number last is subsequent le = omega (arith, is, subsequent, le)

not_since : (place high read : ℕ) → place ≡ high → read ≤ high → place < read → ⊥
not_since place high read same le lt = omega (arith, same, le, lt)

further : (a b c : ℕ) → a ≤ b → b < c → a ≤ c
further a b c le lt = omega (arith, le, lt)

under : (a b n m : ℕ) → n < b → m ≡ a + b → a + n < m
under a b n m lt is = omega (arith, lt, is)

module _ (entry : SessionStart) (stage : Stage) (faithful : WasFaithful entry) (going : IsGoing entry stage) (chunks : ℕ) (windows : stage.number ≡ chunks + waiting stage.following.window) (number : ℕ) (subsequent : chunks < number) where
  abbrev placed : IsPlacedInHistory stage
  placed = going.placed (stood_of entry faithful)

  abbrev kept : KeepsStage entry stage (going.placed (stood_of entry faithful)).parts
  kept = going.kept (stood_of entry faithful) faithful

  abbrev old : List Commit
  old = (going.placed (stood_of entry faithful)).parts.old

  abbrev text : List ℕ
  text = mark_text stage.first.incarnation number High

  -- a commit that was read, as its high watermark
  module _ (n : ℕ) (commit : Commit) (is : slice_get (read_at stage) n ≡ Some commit) (high : commit.body ≡ Mark text) (small : number < 2 ^ 64) where
    at_place : slice_get (commits_at stage) (length old + n) ≡ Some commit
    at_place =
        ap (λ (l : List Commit). slice_get l (length old + n)) placed.parts.spelled
        ∙ at_left (old ++ read_at stage) placed.parts.later (length old + n) commit (at_right old (read_at stage) n commit is)

    raw_at : (c : RawCommit) × (slice_get stage.history.commits (length old + n) ≡ Some c) × (commit ≡ typed_commit stage.first.infos c)
    raw_at = mapped (typed_commit stage.first.infos) stage.history.commits (length old + n) commit at_place

    raw_is : raw_at.0.body ≡ raw.Mark text
    raw_is = raw_mark stage.first.infos raw_at.0.body text (sym (ap (λ (c : Commit). c.body) raw_at.2) ∙ high)

    read_lt : length old + n < later_count placed.parts
    read_lt = under (length old) (length (read_at stage)) n (later_count placed.parts) (slice_get-lt (read_at stage) n commit is) (length-append old (read_at stage))

    -- no such watermark is after those that were read
    not_later : (place : ℕ) → IsMarkAt stage.history text place → later_count placed.parts ≤ place → ⊥
    not_later place mark le =
        not_since (length old + n) place (later_count placed.parts)
        (kept.own_marks.once (length old + n) place number High raw_at.0 mark.commit small raw_at.1 mark.stands raw_is mark.is_mark) le read_lt

    not_above : number ≤ stage.number
    not_above = (kept.own_marks.numbered (length old + n) number High raw_at.0 small raw_at.1 raw_is).0

    -- that of a window that waits is this one
    own_text : (chunk : Chunk) → (chunk.plan.incarnation ≡ stage.first.incarnation) × (chunk.plan.number ≡ stage.number) → stage.number ≡ chunks + 1 → high_text chunk.plan ≡ text
    own_text chunk own last = ap₂ (λ (i m : ℕ). mark_text i m High) own.0 (own.1 ∙ one_more chunks number stage.number last subsequent not_above)

    none_at : (w : Window) → stage.following.window ≡ w → ⊥
    none_at Absent is_w =
        no_more chunks number stage.number (windows ∙ ap (λ (x : Window). chunks + waiting x) is_w) subsequent not_above
    none_at (Armed chunk) is_w =
        let awaited : IsArmedBefore stage.history (later_count placed.parts) chunk = subst (IsAwaited stage.history (later_count placed.parts)) is_w placed.awaited in
        let own : (chunk.plan.incarnation ≡ stage.first.incarnation) × (chunk.plan.number ≡ stage.number) = subst (IsOwnWindow stage.first.incarnation stage.number) is_w kept.own_window in
        not_later awaited.high
        (subst (λ (value : List ℕ). IsMarkAt stage.history value awaited.high) (own_text chunk own (windows ∙ ap (λ (x : Window). chunks + waiting x) is_w)) awaited.high_is)
        (further (later_count placed.parts) awaited.low awaited.high awaited.not_yet awaited.order)
    none_at (Open chunk) is_w =
        let awaited : IsOpenBefore stage.history (later_count placed.parts) chunk = subst (IsAwaited stage.history (later_count placed.parts)) is_w placed.awaited in
        let own : (chunk.plan.incarnation ≡ stage.first.incarnation) × (chunk.plan.number ≡ stage.number) = subst (IsOwnWindow stage.first.incarnation stage.number) is_w kept.own_window in
        not_later awaited.high
        (subst (λ (value : List ℕ). IsMarkAt stage.history value awaited.high) (own_text chunk own (windows ∙ ap (λ (x : Window). chunks + waiting x) is_w)) awaited.high_is)
        awaited.not_yet

  pub none_unclosed : number < 2 ^ 64 → HasNoHigh stage.first.incarnation number (read_at stage)
  none_unclosed small =
      all_by_place (λ (commit : Commit). commit.body ≢ Mark text) (read_at stage) (λ n commit is high. none_at n commit is high small stage.following.window refl)

-- ---- where a session stands

module _ {S K D : Type 0} {tell : Bool} {source_model : SourceModel S} {sink_model : SinkModel K} {model : DiskModel D} {entry : SessionStart} {work : SessionState} {src : S} {sink : K} {store : StoreOn D}
    (s : InSession tell source_model sink_model model entry work src sink store) where
  infos_are : (next_offset_of work).infos ≡ s.stage.first.infos
  infos_are = ap (λ (o : Offset). o.infos) s.work_is.offset_is

  incarnation_is : (next_offset_of work).incarnation ≡ s.stage.first.incarnation
  incarnation_is = ap (λ (o : Offset). o.incarnation) s.work_is.offset_is

  waits_are : waiting work.follower.window ≡ waiting s.stage.following.window
  waits_are = like_waiting s.ahead.start.window work.follower.window (window_like s.ahead) ∙ ap (λ (f : Following). waiting f.window) s.work_is.follower_is

  abbrev here : Reading
  here = record { after = s.stage.first.lsn; messages = s.stage.messages }

  -- what it has stored is its next offset
  pub closed_read : WasFaithful entry → (stored : Option Offset) (report : Report) (t : SourceState) → stored ≡ Some (next_offset_of work) → t ≡ state_at_stage s.stage → work.number ≡ report.chunks + waiting work.follower.window → HasClosedRead stored report t
  closed_read faithful stored report t is stood windows offset reading held reads number subsequent small =
      let own : next_offset_of work ≡ offset = first_some (next_offset_of work) offset (sym is ∙ held) in
      let same : here ≡ reading = first_some here reading (sym (ap (λ (x : SourceState). x.reading) stood) ∙ reads) in
      subst (λ (r : Reading). HasNoHigh offset.incarnation number (take report.commits (commits_of offset.infos r.messages))) same
      (subst (λ (o : Offset). HasNoHigh o.incarnation number (take report.commits (commits_of o.infos s.stage.messages))) own
      (subst (λ (i : ℕ). HasNoHigh i number (take report.commits (commits_of (next_offset_of work).infos s.stage.messages))) (sym incarnation_is)
      (subst (λ (l : List TableInfo). HasNoHigh s.stage.first.incarnation number (take report.commits (commits_of l s.stage.messages))) (sym infos_are)
      (all_taken (λ (commit : Commit). commit.body ≢ Mark (mark_text s.stage.first.incarnation number High)) report.commits (read_at s.stage)
      (none_unclosed entry s.stage faithful s.going report.chunks
      (sym s.work_is.number_is ∙ (windows ∙ ap (λ (n : ℕ). report.chunks + n) waits_are)) number subsequent small)))))

  -- where it stopped, the newest messages aren't counted
  counted_are : (newest : List Message) (commits : ℕ) → commits ≡ length (read_at s.stage) → take commits (commits_of s.stage.first.infos (newest ++ s.stage.messages)) ≡ read_at s.stage
  counted_are newest commits counted =
      let more = more_read s.stage.first.infos newest s.stage.messages in
      ap₂ take counted more.1 ∙ take-append_seam (read_at s.stage) more.0

  module _ {first : SourceState} {found : Option Trace} {b : Beginning} {stored : Option Offset} {before : Report} (one : (x y : SourceState) → source_model.stands src x → source_model.stands src y → x ≡ y)
      (faithful : WasFaithful entry) (here : HasCommitted source_model (Some first) found b stored work before src) where
    reading_is : reading_of b.first.lsn here.messages ≡ reading_of s.stage.first.lsn s.stage.messages
    reading_is =
        let was = here.stood first refl in
        first_some (reading_of b.first.lsn here.messages) (reading_of s.stage.first.lsn s.stage.messages)
        (sym was.holds ∙ ap (λ (x : SourceState). x.reading) (one was.standing (state_at_stage s.stage) was.is s.source_is))

    commits_are : before.commits ≡ length (read_at s.stage)
    commits_are =
        here.is.followed
        ∙ (ap (λ (l : List TableInfo). length (commits_of l here.messages)) infos_are
        ∙ ap (λ (r : Reading). length (commits_of s.stage.first.infos r.messages)) reading_is)

    -- what is stored is of the session
    own_of : (offset : Offset) → (stored ≡ Some offset) ⊎ (offset ≡ next_offset_of work) → (offset.incarnation ≡ s.stage.first.incarnation) × (offset.infos ≡ s.stage.first.infos)
    own_of offset (inl held) =
        let same : here.is.offset ≡ offset = first_some here.is.offset offset (sym here.is.stored_is ∙ held) in (
          sym (ap (λ (o : Offset). o.incarnation) same) ∙ (sym (incarnation_stored b.config b.now b.held b.first here.is.offset (rest_in here.ahead) here.is.of) ∙ incarnation_is),
          sym (ap (λ (o : Offset). o.infos) same) ∙ (sym (infos_stored b.config b.now b.held b.first here.is.offset (rest_in here.ahead) here.is.of) ∙ infos_are),
        )
    own_of offset (inr next) = (ap (λ (o : Offset). o.incarnation) next ∙ incarnation_is, ap (λ (o : Offset). o.infos) next ∙ infos_are)

    which : (later : Option Offset) (offset : Offset) → (later ≡ stored) ⊎ (later ≡ Some (next_offset_of work)) → later ≡ Some offset → (stored ≡ Some offset) ⊎ (offset ≡ next_offset_of work)
    which later offset (inl same) held = inl (sym same ∙ held)
    which later offset (inr next) held = inr (sym (first_some (next_offset_of work) offset (sym next ∙ held)))

    pub closed_at_halt : (later : Option Offset) → (later ≡ stored) ⊎ (later ≡ Some (next_offset_of work)) → (report : Report) → report.commits ≡ before.commits → before.chunks ≤ report.chunks → (newest : List Message) (t : SourceState)
        → t.reading ≡ Some (reading_of s.stage.first.lsn (newest ++ s.stage.messages)) → HasClosedRead later report t
    closed_at_halt later is report counted more newest t now offset reading held reads number subsequent small =
        let own = own_of offset (which later offset is held) in
        let same : reading_of s.stage.first.lsn (newest ++ s.stage.messages) ≡ reading = first_some (reading_of s.stage.first.lsn (newest ++ s.stage.messages)) reading (sym now ∙ reads) in
        subst (λ (r : Reading). HasNoHigh offset.incarnation number (take report.commits (commits_of offset.infos r.messages))) same
        (subst (λ (i : ℕ). HasNoHigh i number (take report.commits (commits_of offset.infos (newest ++ s.stage.messages)))) (sym own.0)
        (subst (λ (l : List TableInfo). HasNoHigh s.stage.first.incarnation number (take report.commits (commits_of l (newest ++ s.stage.messages)))) (sym own.1)
        (subst (λ (commits : List Commit). HasNoHigh s.stage.first.incarnation number commits) (sym (counted_are newest report.commits (counted ∙ commits_are)))
        (none_unclosed entry s.stage faithful s.going before.chunks
        (sym s.work_is.number_is ∙ (closed_open here.ahead before.chunks here.is.windows ∙ ap (λ (n : ℕ). before.chunks + n) waits_are)) number (fewer before.chunks report.chunks number more subsequent) small))))
