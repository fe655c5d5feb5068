-- A window that is closed: it is right at its high watermark, and its snapshot keeps the log.
use Rattle.std.proofs.Common.{◌≡◌, ◌∙◌, ◌+◌, ◌≤◌, ◌<◌, ℕ, zero, suc, max, Bool, true, false, Option, Some, None, List, [], ◌∷◌, ◌++◌, length, take, drop, refl, sym, ap, ap₂, subst, arith, append_assoc, le_refl}
use Rattle.std.specs.Prelude.{if◌then◌else◌, codes, decimal, slice_get}
use Rattle.std.specs.List.{AllByRecursion}
use Rattle.std.proofs.lemmas.List.{take-append-drop}
use Rattle.std.proofs.lemmas.Slice.Eq.{bytes_eq-Decides}
use Rattle.dbl_pgmsg.specs.declared.messages.Message.{Message}
use Rattle.dbl_record.specs.Cuts.{joined}
use Rattle.dbl_model_table.specs.declared.identity.Identity.{Identity}
use Rattle.dbl_model_table.specs.declared.row.Key.{Key}
use Rattle.dbl_model_table.specs.declared.table.TableInfo.{TableInfo}
use Rattle.dbl_model_table.specs.declared.change.Body.{Body}
use Rattle.dbl_model_table.specs.declared.change.Body.TheVariants.{Changes, Mark}
use Rattle.dbl_model_table.specs.declared.change.Change.{Change}
use Rattle.dbl_model_table.specs.declared.change.Commit.{Commit}
use Rattle.dbl_model_table.specs.Rows.{changes_of, all_changes}
use Rattle.dbl_faithful.specs.ModelHistory.History.{AreRising, RawCommit}
use Rattle.dbl_faithful.specs.ModelHistory.History as raw
use Rattle.dbl_faithful.specs.ModelHistory.InForce.{opening_infos, versioned}
use Rattle.dbl_faithful.specs.ModelHistory.MarkTexts.{mark_text, side_text}
use Rattle.dbl_faithful.specs.ModelHistory.MarkTexts.Side.{Low, High}
use Rattle.dbl_faithful.specs.ModelHistory.Ranges.{IsMomentInRange}
use Rattle.dbl_faithful.specs.ModelHistory.Typed.{typed_commit}
use Rattle.dbl_faithful.proofs.ModelHistoryMomentLemmas.{lsns}
use Rattle.dbl_faithful.specs.ModelEvent.Clashes.{snapshot_clash}
use Rattle.dbl_faithful.specs.ModelEvent.SnapshotLists.{IsSnapshot}
use Rattle.dbl_faithful.specs.ConsumeLaws.Commits.{moment_after}
use Rattle.dbl_faithful.specs.ConsumeLaws.KnownKeys.{AreToldUpTo}
use Rattle.dbl_faithful.specs.ConsumeLaws.Windows.{IsRightWindow}
use Rattle.dbl_faithful.proofs.ConsumeLawsCommits.{fit_commits}
use Rattle.dbl_faithful.proofs.ConsumeLawsLists.{slice_get-seam}
use Rattle.dbl_faithful.proofs.ConsumeLawsNotices.{all_append}
use Rattle.dbl_consume_courses.specs.Courses.{Course, course}
use Rattle.dbl_consume_courses.specs.Since.{since}
use Rattle.dbl_faithful.specs.RightSnapshots.{IsHighMark}
use Rattle.dbl_faithful.proofs.Items.{mapped, map_get, all_weaker, at_all, take_within}
use Rattle.dbl_capture_model.proofs.Rising.{all_above}
use Rattle.dbl_faithful.specs.Stores.{top_position}
use Rattle.dbl_faithful.specs.Lag.{IsBehind}
use Rattle.dbl_faithful.proofs.Faithful.{cursors_were_told}
use Rattle.dbl_faithful.proofs.Plainly.{versions_in_force}
use Rattle.dbl_follow.specs.Window.Plans.{Plan, Chunk, low_text, high_text}
use Rattle.dbl_follow.specs.Window.Changing.{AreLeft}
use Rattle.dbl_follow.specs.Window.Laws.{between}
use Rattle.dbl_follow.specs.Window.Promise.{WasGiven, moment_after_first}
use Rattle.dbl_follow.proofs.WindowLawLemmas.{selected_given}
use Rattle.dbl_follow.proofs.WindowPromiseLemmas.{kept_promise}
use Rattle.dbl_follow.specs.declared.window.Window.{Window}
use Rattle.dbl_follow.specs.declared.window.Window.TheVariants.{Absent, Armed, Open}
use Rattle.dbl_follow.specs.Followed.{Following}
use Rattle.dbl_follow.specs.Steps.{watermark_in, mark_of, has_text, clash_in, closed_of, closing, records_by}
use Rattle.dbl_capture_model.specs.Entries.{SessionStart, StoodInLog, WasFaithful}
use Rattle.dbl_capture_model.specs.Stages.{Stage, records_of_stage, next_offset, commits_at, read_at, far_at}
use Rattle.dbl_capture_model.specs.Delivered.{IsDelivered}
use Rattle.dbl_capture_model.specs.Marked.{IsOpenAt, IsWindowAt, IsOwnWindow}
use Rattle.dbl_capture_model.specs.Counted.{IsOnTable, IsWaiting}
use Rattle.dbl_capture_model.specs.Going.{IsPlacedInHistory, KeepsStage, IsGoing, begun_after}
use Rattle.dbl_capture_model.specs.Steps.{WasFollowed}
use Rattle.dbl_capture_model.proofs.Delivered.{course_is, told_on, window_on, delivered_faithful}
use Rattle.dbl_capture_model.proofs.Windowing.{raw_mark}

-- ---- which window it is

-- the watermark that closes a window is its high one, and the window is open
pub record ClosesOpen (window : Window) (mark : Option (List ℕ)) (chunk : Chunk) : Type 0 where
  pub is_open : window ≡ Open chunk
  pub mark_is : mark ≡ Some (high_text chunk.plan)

text_was : (text : List ℕ) (mark : Option (List ℕ)) → has_text text mark ≡ true → mark ≡ Some text
text_was text None is = let wrong : false ≡ true = is in cc
text_was text (Some value) is = ap (λ (l : List ℕ). Some l) ((bytes_eq-Decides value text).0 is)

pub closes_open : (window : Window) (mark : Option (List ℕ)) (chunk : Chunk) → closing window mark ≡ Some chunk → ClosesOpen window mark chunk
closes_open Absent mark chunk is = cc
closes_open (Armed c) mark chunk is = cc
closes_open (Open c) mark chunk is = by (has_text (high_text c.plan) mark) refl
  where
    chosen : (b : Bool) → has_text (high_text c.plan) mark ≡ b → (if b then Some c else None) ≡ Some chunk
    chosen b same = ap (λ (x : Bool). if x then Some c else None) (sym same) ∙ is

    by : (b : Bool) → has_text (high_text c.plan) mark ≡ b → ClosesOpen (Open c) mark chunk
    by true same =
        let one : Some c ≡ Some chunk = chosen true same in
        let here : c ≡ chunk = cc in
        record { is_open = ap (λ (x : Chunk). Open x) here; mark_is = text_was (high_text c.plan) mark same ∙ ap (λ (x : Chunk). Some (high_text x.plan)) here }
    by false same = let wrong : None ≡ Some chunk = chosen false same in cc

marked_so : (body : Body) (value : List ℕ) → watermark_in body ≡ Some value → body ≡ Mark value
marked_so (Changes changes) value is = cc
marked_so (Mark v) value is = let same : v ≡ value = cc in ap (λ (l : List ℕ). Mark l) same

-- a watermark has no changes
mark_silent : (commit : Commit) (value : List ℕ) → commit.body ≡ Mark value → changes_of commit ≡ []
mark_silent commit value is = ap (λ (b : Body). elim b as (λ x. List Change) [ Changes cs ↦ cs | Mark v ↦ [] ]) is

-- ---- commits by their places

take_front : {X : Type 0} (xs ys : List X) → take (length xs) (xs ++ ys) ≡ xs
take_front [] ys = refl
take_front (x ∷ xs) ys = ap (λ (l : List _). x ∷ l) (take_front xs ys)

further : (a b c : ℕ) → a ≤ b → b < c → a < c
further a b c le lt = omega (arith, le, lt)

under : (a b : ℕ) → a < b → a ≤ b
under a b lt = omega (arith, lt)

-- what rises after a place is after what is before that
over_place : (low position k : ℕ) (cs : List Commit) (c : Commit) → AreRising low (lsns cs) → slice_get cs k ≡ Some c → position ≤ c.lsn.0 → AllByRecursion (λ x. position < x.lsn.0) (drop (suc k) cs)
over_place low position k [] c rise at le = cc
over_place low position zero (x ∷ cs) c rise at le =
    let same : x ≡ c = cc in
    all_weaker (λ (y : Commit). x.lsn.0 < y.lsn.0) (λ (y : Commit). position < y.lsn.0) cs (λ y lt. further position x.lsn.0 y.lsn.0 (subst (λ (z : Commit). position ≤ z.lsn.0) (sym same) le) lt) (all_above x.lsn.0 cs rise.1)
over_place low position (suc k) (x ∷ cs) c rise at le = over_place x.lsn.0 position k cs c rise.1 at le

-- what is up to a place isn't after what is there
under_place : (low k : ℕ) (cs : List Commit) (c : Commit) → AreRising low (lsns cs) → slice_get cs k ≡ Some c → AllByRecursion (λ x. x.lsn.0 ≤ c.lsn.0) (take (suc k) cs)
under_place low k [] c rise at = cc
under_place low zero (x ∷ cs) c rise at =
    let same : x ≡ c = cc in
    (subst (λ (z : Commit). x.lsn.0 ≤ z.lsn.0) same (le_refl x.lsn.0), tt)
under_place low (suc k) (x ∷ cs) c rise at = (under x.lsn.0 c.lsn.0 (at_all (λ (y : Commit). x.lsn.0 < y.lsn.0) cs k c (all_above x.lsn.0 cs rise.1) at), under_place x.lsn.0 k cs c rise.1 at)

rising_first : (low : ℕ) (xs ys : List Commit) → AreRising low (lsns (xs ++ ys)) → AreRising low (lsns xs)
rising_first low [] ys rise = tt
rising_first low (x ∷ xs) ys rise = (rise.0, rising_first x.lsn.0 xs ys rise.1)

first_at : {X : Type 0} (xs ys : List X) (k : ℕ) (x : X) → k < length xs → slice_get (xs ++ ys) k ≡ Some x → slice_get xs k ≡ Some x
first_at [] ys k x lt at = absurd (omega (arith, lt))
first_at (y ∷ xs) ys zero x lt at = at
first_at (y ∷ xs) ys (suc k) x lt at = first_at xs ys k x (less k (length xs) lt) at
  where
    less : (a b : ℕ) → suc a < suc b → a < b
    less a b l = omega (arith, l)

beside : {X Y : Type 0} (xs : List X) (ys : List Y) (k : ℕ) (x : X) → length ys ≡ length xs → slice_get xs k ≡ Some x → (y : Y) × (slice_get ys k ≡ Some y)
beside [] ys k x long at = cc
beside (x' ∷ xs) [] k x long at = cc
beside (x' ∷ xs) (y ∷ ys) zero x long at = (y, refl)
beside (x' ∷ xs) (y ∷ ys) (suc k) x long at = beside xs ys k x (less (length ys) (length xs) long) at
  where
    less : (a b : ℕ) → suc a ≡ suc b → a ≡ b
    less a b l = omega (arith, l)

-- ---- it is right

both_under : (a b c : ℕ) → a < c → b < c → max a b < c
both_under a b c one two = omega (arith, one, two)

left_max : (a b c : ℕ) → max a b < c → a < c
left_max a b c lt = omega (arith, lt)

right_max : (a b c : ℕ) → max a b < c → b < c
right_max a b c lt = omega (arith, lt)

-- the text of a high watermark ends as such a one does
high_ends : (incarnation number : ℕ) → mark_text incarnation number High ≡ (decimal incarnation ++ (codes "-" ++ decimal number)) ++ side_text High
high_ends incarnation number = ap (λ (l : List ℕ). l ++ side_text High) (append_assoc (decimal incarnation) (codes "-") (decimal number))

suc_one : (n : ℕ) → suc n ≡ n + 1
suc_one n = omega arith

module _ (entry : SessionStart) (stage : Stage) (m : Message) (commit : Commit) (new : Following) (in_range : IsMomentInRange entry.now) (followed : WasFollowed stage entry.now m commit new)
    (faithful : WasFaithful entry) (stood : StoodInLog entry) (going : IsGoing entry stage) (chunk : Chunk) (is : closing stage.following.window (mark_of commit) ≡ Some chunk) (rest : List Commit)
    (spelled : commits_at stage ≡ ((going.placed stood).parts.old ++ read_at stage) ++ commit ∷ rest)
    (up : IsDelivered stage.first.identity stage.first.infos stage.history stage.first.start.0 stage.first.lsn.0 stage.lsn.0 (far_at entry stage) ((going.placed stood).parts.old ++ read_at stage) (commit ∷ rest) 0 (records_of_stage stage))
    (over : AllByRecursion (λ c. stage.lsn.0 < c.lsn.0) (commit ∷ rest)) where
  abbrev p : IsPlacedInHistory stage
  p = going.placed stood

  abbrev k : KeepsStage entry stage (going.placed stood).parts
  k = going.kept stood faithful

  abbrev before : List Commit
  before = (going.placed stood).parts.old ++ read_at stage

  closes : ClosesOpen stage.following.window (mark_of commit) chunk
  closes = closes_open stage.following.window (mark_of commit) chunk is

  w : IsOpenAt stage.first.infos stage.history (length before) chunk
  w = subst (IsWindowAt stage.first.infos stage.history (length before)) closes.is_open k.window

  own : (chunk.plan.incarnation ≡ stage.first.incarnation) × (chunk.plan.number ≡ stage.number)
  own = subst (IsOwnWindow stage.first.incarnation stage.number) closes.is_open k.own_window

  waits : IsOnTable stage.first.infos entry.config.chunk stage.history stage.following.cursors chunk
  waits = subst (IsWaiting stage.first.infos entry.config.chunk stage.history stage.following.cursors) closes.is_open going.reading.counted.waits

  body_is : commit.body ≡ Mark (high_text chunk.plan)
  body_is = marked_so commit.body (high_text chunk.plan) closes.mark_is

  -- the texts of its watermarks are this session's
  text_own : high_text chunk.plan ≡ mark_text stage.first.incarnation stage.number High
  text_own = ap₂ (λ (i n : ℕ). mark_text i n High) own.0 own.1

  low_own : low_text w.selected.plan ≡ mark_text stage.first.incarnation stage.number Low
  low_own = ap (λ (x : Plan). low_text x) (sym w.plan) ∙ ap₂ (λ (i n : ℕ). mark_text i n Low) own.0 own.1

  high_own : high_text w.selected.plan ≡ mark_text stage.first.incarnation stage.number High
  high_own = ap (λ (x : Plan). high_text x) (sym w.plan) ∙ text_own

  -- the history's commit at this place
  raw_at : (c : RawCommit) × (slice_get stage.history.commits (length before) ≡ Some c) × (commit ≡ typed_commit stage.first.infos c)
  raw_at = mapped (typed_commit stage.first.infos) stage.history.commits (length before) commit (ap (λ (l : List Commit). slice_get l (length before)) spelled ∙ slice_get-seam before commit rest)

  raw_is : raw_at.0.body ≡ raw.Mark (mark_text stage.first.incarnation stage.number High)
  raw_is = raw_mark stage.first.infos raw_at.0.body (high_text chunk.plan) (sym (ap (λ (c : Commit). c.body) raw_at.2) ∙ body_is) ∙ ap (λ (l : List ℕ). raw.Mark l) text_own

  -- it is the window's high watermark
  same_place : length before ≡ w.high
  same_place =
      k.own_marks.once (length before) w.high stage.number High raw_at.0 w.marked.high_is.commit k.small raw_at.1 w.marked.high_is.stands raw_is
      (w.marked.high_is.is_mark ∙ ap (λ (l : List ℕ). raw.Mark l) high_own)

  given : WasGiven stage.first.infos (commits_at stage) (w.low + 1) w.high chunk
  given =
      selected_given stage.first.infos stage.history (w.low + 1) w.high w.selected chunk w.marked.rows w.plan w.through w.done
      (subst (λ (n : ℕ). AreLeft stage.first.infos w.selected.plan.table w.selected.rows (between stage.first.infos stage.history (w.low + 1) n) chunk.rows) same_place w.left)

  listed : IsSnapshot stage.following.identity stage.following.infos (closed_of chunk) commit entry.now (records_by stage.following commit entry.now)
  listed = followed.listed chunk is

  before_is : moment_after_first (commits_at stage) w.high ≡ moment_after before
  before_is =
      ap (λ (n : ℕ). moment_after_first (commits_at stage) n) (sym same_place)
      ∙ (ap (λ (l : List Commit). length (all_changes (take (length before) l))) spelled ∙ ap (λ (l : List Commit). length (all_changes l)) (take_front before (commit ∷ rest)))

  right : IsRightWindow stage.first.infos (all_changes (commits_at stage)) (moment_after_first (commits_at stage) (w.low + 1)) (moment_after before) chunk.plan.above (closed_of chunk)
  right =
      subst (λ (n : ℕ). IsRightWindow stage.first.infos (all_changes (commits_at stage)) (moment_after_first (commits_at stage) (w.low + 1)) n chunk.plan.above (closed_of chunk)) before_is
      (kept_promise chunk (closed_of chunk) (record { table = refl; rows = refl; through = refl; done = refl }) listed.ordered stage.first.infos (commits_at stage) (w.low + 1) w.high waits.captured given)

  -- ---- where its low watermark stands

  low_commit : slice_get (commits_at stage) w.low ≡ Some (typed_commit stage.first.infos w.marked.low_is.commit)
  low_commit = map_get (typed_commit stage.first.infos) stage.history.commits w.low w.marked.low_is.commit w.marked.low_is.stands

  low_after : begun_after entry stage.first < w.marked.low_is.commit.lsn.0
  low_after = (k.own_marks.numbered w.low stage.number Low w.marked.low_is.commit k.small w.marked.low_is.stands (w.marked.low_is.is_mark ∙ ap (λ (l : List ℕ). raw.Mark l) low_own)).1

  start_lt : stage.first.start.0 < w.marked.low_is.commit.lsn.0
  start_lt = further stage.first.start.0 stage.first.lsn.0 w.marked.low_is.commit.lsn.0 k.order (right_max (top_position (joined entry.groups)) stage.first.lsn.0 w.marked.low_is.commit.lsn.0 low_after)

  -- ---- its low watermark, among the commits that were followed

  abbrev low_mark : Commit
  low_mark = typed_commit stage.first.infos w.marked.low_is.commit

  rise : AreRising 0 (lsns (commits_at stage))
  rise = (fit_commits stage.history stage.first.infos going.reading.fit going.reading.infos).rise

  rise_before : AreRising 0 (lsns before)
  rise_before = rising_first 0 before (commit ∷ rest) (subst (λ (l : List Commit). AreRising 0 (lsns l)) spelled rise)

  low_at : slice_get before w.low ≡ Some low_mark
  low_at = first_at before (commit ∷ rest) w.low low_mark w.opened (ap (λ (l : List Commit). slice_get l w.low) (sym spelled) ∙ low_commit)

  abbrev lows : List Commit
  lows = take (w.low + 1) before

  abbrev mids : List Commit
  mids = drop (w.low + 1) before

  parted : lows ++ mids ≡ before
  parted = take-append-drop (w.low + 1) before

  upto : AllByRecursion (λ c. c.lsn.0 ≤ low_mark.lsn.0) lows
  upto = subst (λ (n : ℕ). AllByRecursion (λ (c : Commit). c.lsn.0 ≤ low_mark.lsn.0) (take n before)) (suc_one w.low) (under_place 0 w.low before low_mark rise_before low_at)

  low_under : low_mark.lsn.0 < commit.lsn.0
  low_under = further low_mark.lsn.0 stage.lsn.0 commit.lsn.0 (at_all (λ (c : Commit). c.lsn.0 ≤ stage.lsn.0) before w.low low_mark p.parts.under low_at) over.0

  past : AllByRecursion (λ c. low_mark.lsn.0 < c.lsn.0) (mids ++ commit ∷ [])
  past =
      all_append (λ (c : Commit). low_mark.lsn.0 < c.lsn.0) mids (commit ∷ [])
      (subst (λ (n : ℕ). AllByRecursion (λ (c : Commit). low_mark.lsn.0 < c.lsn.0) (drop n before)) (suc_one w.low) (over_place 0 low_mark.lsn.0 w.low before low_mark rise_before low_at (le_refl low_mark.lsn.0))) (low_under, tt)

  within : w.low + 1 ≤ length before
  within = next_le w.low (length before) w.opened
    where
      next_le : (a b : ℕ) → a < b → a + 1 ≤ b
      next_le a b lt = omega (arith, lt)

  lows_are : moment_after_first (commits_at stage) (w.low + 1) ≡ moment_after lows
  lows_are =
      ap (λ (l : List Commit). length (all_changes (take (w.low + 1) l))) spelled
      ∙ ap (λ (l : List Commit). length (all_changes l)) (take_within (w.low + 1) before (commit ∷ rest) within)

  right_parted : IsRightWindow stage.first.infos (all_changes (commits_at stage)) (moment_after lows) (moment_after (lows ++ mids)) chunk.plan.above (closed_of chunk)
  right_parted =
      subst (λ (l : List Commit). IsRightWindow stage.first.infos (all_changes (commits_at stage)) (moment_after lows) (moment_after l) chunk.plan.above (closed_of chunk)) (sym parted)
      (subst (λ (n : ℕ). IsRightWindow stage.first.infos (all_changes (commits_at stage)) n (moment_after before) chunk.plan.above (closed_of chunk)) lows_are right)

  -- ---- what was told

  lags : IsBehind stage.history stage.confirmed (records_of_stage stage) (next_offset stage)
  lags = (delivered_faithful stage.history stage.confirmed (records_of_stage stage) (next_offset stage) stage.first.lsn.0 stage.lsn.0 (far_at entry stage) before (commit ∷ rest) 0 p.parts.order (le_refl stage.lsn.0) k.next_is up).lags

  version_at : (version : ℕ) × (slice_get stage.first.versions chunk.plan.table ≡ Some version)
  version_at = beside stage.first.infos stage.first.versions chunk.plan.table chunk.plan.info k.next_is.many.0 waits.captured

  abbrev courses : ℕ → Course
  courses position = course (opening_infos stage.history stage.first.infos) (versioned stage.first.infos stage.history) stage.first.start.0 chunk.plan.table position

  told : AreToldUpTo stage.first.identity (courses commit.lsn.0).infos (since (courses commit.lsn.0).start (records_of_stage stage)) chunk.plan.table chunk.plan.above
  told =
      told_on stage.first.identity stage.first.infos stage.history going.reading.fit going.reading.infos stage.first.start.0 stage.first.lsn.0 (records_of_stage stage) chunk.plan.table stage.lsn.0 commit.lsn.0 chunk.plan.above
      (subst (λ (bound : Option Key). AreToldUpTo stage.first.identity (courses stage.lsn.0).infos (since (courses stage.lsn.0).start (records_of_stage stage)) chunk.plan.table bound) (sym waits.above)
      (cursors_were_told stage.history stage.confirmed (records_of_stage stage) (next_offset stage) chunk.plan.table chunk.plan.info version_at.0 waits.cursor lags up.up.late waits.captured version_at.1 waits.cursor_is
      (versions_in_force stage.history stage.confirmed (records_of_stage stage) (next_offset stage) going.reading.fit k.next_is chunk.plan.table version_at.0 version_at.1)
      (ap (λ (l : List TableInfo). slice_get l chunk.plan.table) (course_is stage.first.identity stage.first.infos stage.history going.reading.fit going.reading.infos stage.first.start.0 stage.first.lsn.0 chunk.plan.table stage.lsn.0).0 ∙ waits.captured)))

  far : far_at entry stage < commit.lsn.0
  far =
      let raw_after : begun_after entry stage.first < raw_at.0.lsn.0 = (k.own_marks.numbered (length before) stage.number High raw_at.0 k.small raw_at.1 raw_is).1 in
      let top : top_position (joined entry.groups) < commit.lsn.0 =
      subst (λ (c : Commit). top_position (joined entry.groups) < c.lsn.0) (sym raw_at.2) (left_max (top_position (joined entry.groups)) stage.first.lsn.0 raw_at.0.lsn.0 raw_after) in
      both_under (top_position (joined entry.groups)) stage.lsn.0 commit.lsn.0 top over.0

  is_high : IsHighMark commit
  is_high = record {
    front = decimal stage.first.incarnation ++ (codes "-" ++ decimal stage.number);
    is = body_is ∙ ap (λ (l : List ℕ). Mark l) (text_own ∙ high_ends stage.first.incarnation stage.number);
  }

  clear : snapshot_clash stage.first.identity stage.first.infos (closed_of chunk) ≡ None
  clear =
      ap (λ (i : Identity). snapshot_clash i stage.first.infos (closed_of chunk)) (sym going.reading.follows_identity)
      ∙ (ap (λ (infos : List TableInfo). snapshot_clash stage.following.identity infos (closed_of chunk)) (sym going.reading.follows_infos)
      ∙ (ap (λ (o : Option Chunk). clash_in stage.following o commit) (sym is) ∙ followed.no_clash))

  listed_own : IsSnapshot stage.first.identity stage.first.infos (closed_of chunk) commit entry.now (records_by stage.following commit entry.now)
  listed_own =
      subst (λ (i : Identity). IsSnapshot i stage.first.infos (closed_of chunk) commit entry.now (records_by stage.following commit entry.now)) going.reading.follows_identity
      (subst (λ (infos : List TableInfo). IsSnapshot stage.following.identity infos (closed_of chunk) commit entry.now (records_by stage.following commit entry.now)) going.reading.follows_infos listed)

  pub closed_up : (n : ℕ) → IsDelivered stage.first.identity stage.first.infos stage.history stage.first.start.0 stage.first.lsn.0 commit.lsn.0 commit.lsn.0 (before ++ commit ∷ []) rest 0 (records_of_stage stage ++ take n (records_by stage.following commit entry.now))
  closed_up n =
      subst (λ (l : List Commit). IsDelivered stage.first.identity stage.first.infos stage.history stage.first.start.0 stage.first.lsn.0 commit.lsn.0 commit.lsn.0 (l ++ commit ∷ []) rest 0 (records_of_stage stage ++ take n (records_by stage.following commit entry.now))) parted
      (window_on stage.first.identity stage.first.infos stage.history going.reading.fit going.reading.infos stage.first.start.0 stage.first.lsn.0 stage.lsn.0 (far_at entry stage) lows mids commit rest low_mark.lsn.0 chunk.plan.above (closed_of chunk)
      (records_of_stage stage) (records_by stage.following commit entry.now) entry.now n is_high far in_range listed_own clear (mark_silent commit (high_text chunk.plan) body_is) (under stage.first.start.0 low_mark.lsn.0 start_lt) upto past
      (both_lt stage.first.start.0 low_mark.lsn.0 commit.lsn.0 start_lt low_under) right_parted told
      (subst (λ (l : List Commit). IsDelivered stage.first.identity stage.first.infos stage.history stage.first.start.0 stage.first.lsn.0 stage.lsn.0 (far_at entry stage) l (commit ∷ rest) 0 (records_of_stage stage)) (sym parted) up))
    where
      both_lt : (a b c : ℕ) → a < b → b < c → a < c
      both_lt a b c one two = omega (arith, one, two)

pub closing_up : (entry : SessionStart) (stage : Stage) (m : Message) (commit : Commit) (new : Following) (in_range : IsMomentInRange entry.now) (followed : WasFollowed stage entry.now m commit new)
    (faithful : WasFaithful entry) (stood : StoodInLog entry) (going : IsGoing entry stage) (chunk : Chunk) → closing stage.following.window (mark_of commit) ≡ Some chunk → (rest : List Commit)
    → commits_at stage ≡ ((going.placed stood).parts.old ++ read_at stage) ++ commit ∷ rest → AllByRecursion (λ c. stage.lsn.0 < c.lsn.0) (commit ∷ rest)
    → IsDelivered stage.first.identity stage.first.infos stage.history stage.first.start.0 stage.first.lsn.0 stage.lsn.0 (far_at entry stage) ((going.placed stood).parts.old ++ read_at stage) (commit ∷ rest) 0 (records_of_stage stage)
    → (n : ℕ)
    → IsDelivered stage.first.identity stage.first.infos stage.history stage.first.start.0 stage.first.lsn.0 commit.lsn.0 commit.lsn.0 (((going.placed stood).parts.old ++ read_at stage) ++ commit ∷ []) rest 0 (records_of_stage stage ++ take n (records_by stage.following commit entry.now))
closing_up entry stage m commit new in_range followed faithful stood going chunk is rest spelled over up n = closed_up entry stage m commit new in_range followed faithful stood going chunk is rest spelled up over n
