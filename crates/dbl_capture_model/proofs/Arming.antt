-- A window was read: its two watermarks were written, and its rows selected between them.
use Rattle.std.proofs.Common.{◌≡◌, ◌∙◌, ◌⊎◌, inl, inr, ◌+◌, ◌*◌, ◌≤◌, ◌<◌, ◌^◌, ℕ, zero, suc, max, Some, List, [], ◌∷◌, ◌++◌, length, map, take, refl, sym, ap, ap₂, subst, arith, append_assoc, le_refl, length-append}
use Rattle.std.specs.Prelude.{slice_get}
use Rattle.std.specs.List.{AllByRecursion}
use Rattle.std.proofs.lemmas.List.{length-map}
use Rattle.dbl_record.specs.Cuts.{joined}
use Rattle.dbl_model_table.specs.declared.row.Key.{Key}
use Rattle.dbl_model_table.specs.declared.table.TableInfo.{TableInfo}
use Rattle.dbl_model_table.specs.declared.change.Commit.{Commit}
use Rattle.dbl_model_table.specs.Rows.{Rows, no_rows, rows_from, all_changes}
use Rattle.dbl_faithful.specs.ModelHistory.declared.cursor.Cursor.{Cursor}
use Rattle.dbl_faithful.specs.ModelHistory.History.{RawCommit, History}
use Rattle.dbl_faithful.specs.ModelHistory.History.RawBody.{Mark}
use Rattle.dbl_faithful.specs.ModelHistory.Fit.{AreInfosOf, IsFitHistory}
use Rattle.dbl_faithful.specs.ModelHistory.MarkTexts.{Side, mark_text}
use Rattle.dbl_faithful.specs.ModelHistory.MarkTexts.Side.{Low, High}
use Rattle.dbl_faithful.specs.ModelHistory.Typed.{typed_commit, typed}
use Rattle.dbl_faithful.proofs.ModelHistoryMarkLemmas.{marks_tell}
use Rattle.dbl_faithful.proofs.ConsumeLawsNotices.{all_append}
use Rattle.dbl_faithful.proofs.ConsumeLawsLists.{slice_get-seam}
use Rattle.dbl_follow.specs.SourceModel.Growth.{HasChanges, Marks, marks_in}
use Rattle.dbl_follow.specs.SourceModel.Selected.{rows_up_to}
use Rattle.dbl_follow.proofs.SourceModelGrowthLemmas.{no_mark_more, one_mark_more}
use Rattle.dbl_faithful.proofs.Items.{first_some, at_left, at_cases, at_all, take_within}
use Rattle.dbl_faithful.specs.Lag.{IsMarkedBy}
use Rattle.dbl_faithful.specs.Kept.{HasGrown}
use Rattle.dbl_faithful.specs.Stores.{top_position}
use Rattle.dbl_follow.specs.Window.Plans.{Chunk, low_text, high_text}
use Rattle.dbl_follow.specs.Window.Selected.{IsSelected}
use Rattle.dbl_follow.proofs.WindowHonestLemmas.{captured_stays}
use Rattle.dbl_follow.proofs.WindowLawLemmas.{selected_stays}
use Rattle.dbl_follow.specs.declared.window.Window.TheVariants.{Absent, Armed}
use Rattle.dbl_capture_model.specs.Entries.{SessionStart}
use Rattle.dbl_capture_model.specs.Stages.{Stage, next_offset, PartsHistory, later_count}
use Rattle.dbl_capture_model.specs.Marked.{IsMarkAt, AreOwnMarks, IsArmedBefore, IsArmedAt}
use Rattle.dbl_capture_model.specs.Counted.{waiting, WasRead, IsCounted}
use Rattle.dbl_capture_model.specs.Reports.{ReportsWindowsOnce}
use Rattle.dbl_capture_model.specs.Going.{IsReading, IsPlacedInHistory, KeepsStage, IsGoing, begun_after}
use Rattle.dbl_capture_model.specs.Steps.{WasArmed, armed_at, WindowsKeepGoing}
use Rattle.dbl_faithful.proofs.Lists.{longer, is_longer, still_at, still_position, map_append, after_position, after_top}
use Rattle.dbl_capture_model.proofs.Growing.{first_longer, reads_longer, parts_longer, offset_longer, up_longer, near_longer}
use Rattle.dbl_capture_model.proofs.Marking.{no_mark, stood_was, own_marks_stay, others_marked}
use Rattle.dbl_capture_model.proofs.Stepping.{read_le}
use Rattle.dbl_capture_model.proofs.Counts.{come_stays}

-- ---- numbers

le_on : (a b c : ℕ) → a ≤ b → b ≤ c → a ≤ c
le_on a b c one two = omega (arith, one, two)

one_on : (a b : ℕ) → a ≤ b → a ≤ b + 1
one_on a b le = omega (arith, le)

too_many : (n : ℕ) → n + 1 ≤ n → ⊥
too_many n le = omega (arith, le)

no_more : (a b c : ℕ) → a ≡ b → b ≤ c → a ≤ c
no_more a b c same le = omega (arith, same, le)

under_over : (a b c : ℕ) → a ≤ b → b < c → a < c
under_over a b c le lt = omega (arith, le, lt)

one_waits : (number closed w : ℕ) → number ≡ closed + w → w ≡ 0 → number + 1 ≡ closed + 1
one_waits number closed w is none = omega (arith, is, none)

two_more : (a b c d e n : ℕ) → a ≡ b + 1 → b ≡ c → c ≡ d + 1 → d ≡ e + 2 * n → a ≡ e + 2 * (n + 1)
two_more a b c d e n one two three four = omega (arith, one, two, three, four)

greater : (a b c : ℕ) → a < c → b < c → max a b < c
greater a b c one two = omega (arith, one, two)

-- ---- a history to which commits came, whichever

module _ (old new : History) (more : List RawCommit) (is : new.commits ≡ old.commits ++ more) where
  mark_on : (value : List ℕ) (place : ℕ) → IsMarkAt old value place → IsMarkAt new value place
  mark_on value place mark = record {
    commit = mark.commit;
    stands = ap (λ (l : List RawCommit). slice_get l place) is ∙ at_left old.commits more place mark.commit mark.stands;
    is_mark = mark.is_mark;
  }

  pub long_on : length old.commits ≤ length new.commits
  long_on = omega (arith, ap length is, length-append old.commits more)

  pub rows_on : (infos : List TableInfo) (place : ℕ) → place ≤ length old.commits → rows_up_to infos new place ≡ rows_up_to infos old place
  rows_on infos place le =
      ap (λ (l : List RawCommit). rows_from infos no_rows (all_changes (take place (map (typed_commit infos) l)))) is
      ∙ ap (λ (l : List Commit). rows_from infos no_rows (all_changes l))
      (ap (λ (l : List Commit). take place l) (map_append (typed_commit infos) old.commits more)
      ∙ take_within place (typed infos old) (map (typed_commit infos) more) (subst (λ (n : ℕ). place ≤ n) (sym (length-map old.commits (typed_commit infos))) le))

  was_on : (infos : List TableInfo) (cursors : List Cursor) (pair : ℕ × Key) → WasRead infos old cursors pair → WasRead infos new cursors pair
  was_on infos cursors pair was = record {
    place = was.place;
    row = was.row;
    within = le_on was.place (length old.commits) (length new.commits) was.within long_on;
    was = ap (λ (at : Rows). at pair.0 pair.1) (rows_on infos was.place was.within) ∙ was.was;
    cursor = was.cursor;
    cursor_is = was.cursor_is;
    read = was.read;
  }

-- a selection between two places is one between wider ones
wider : (infos : List TableInfo) (history : History) (from upto low high : ℕ) (chunk : Chunk) → low ≤ from → upto ≤ high → IsSelected infos history from upto chunk → IsSelected infos history low high chunk
wider infos history from upto low high chunk less more is = record {
  place = is.place;
  not_before = le_on low from is.place less is.not_before;
  not_after = le_on is.place upto high is.not_after more;
  version = is.version;
  first = is.first;
  through_is = is.through_is;
  done_is = is.done_is;
}

-- ---- one watermark came

-- no watermark of this value stands yet
abbrev IsFresh : History → List ℕ → Type 0
IsFresh history value = (place : ℕ) (commit : RawCommit) → slice_get history.commits place ≡ Some commit → commit.body ≡ Mark value → ⊥

module _ (value : List ℕ) (old new : History) (m : Marks value old new) where
  abbrev came : List RawCommit
  came = m.before ++ m.mark ∷ m.after

  came_is : new.commits ≡ old.commits ++ came
  came_is = m.commits ∙ append_assoc old.commits m.before (m.mark ∷ m.after)

  -- where it stands
  abbrev there : ℕ
  there = length (old.commits ++ m.before)

  mark_there : IsMarkAt new value there
  mark_there = record {
    commit = m.mark;
    stands = ap (λ (l : List RawCommit). slice_get l there) m.commits ∙ slice_get-seam (old.commits ++ m.before) m.mark m.after;
    is_mark = m.is_mark;
  }

  after_it : there + 1 ≤ length new.commits
  after_it = omega (arith, ap length m.commits, length-append (old.commits ++ m.before) (m.mark ∷ m.after))

  before_it : length old.commits ≤ there
  before_it = omega (arith, length-append old.commits m.before)

  -- a watermark stood before, or is this one
  abbrev StoodOrCame : ℕ → RawCommit → Type 0
  StoodOrCame place commit = (slice_get old.commits place ≡ Some commit) ⊎ ((place ≡ there) × (commit ≡ m.mark))

  stood_or_came : (place : ℕ) (commit : RawCommit) (text : List ℕ) → slice_get new.commits place ≡ Some commit → commit.body ≡ Mark text → StoodOrCame place commit
  stood_or_came place commit text at is = elim (at_cases (old.commits ++ m.before) (m.mark ∷ m.after) place commit (sym (ap (λ (l : List RawCommit). slice_get l place) m.commits) ∙ at)) [
    | inl front ↦ in_front (at_cases old.commits m.before place commit front)
    | inr rest ↦ from_it rest.0 rest.1 rest.2
  ]
    where
      in_front : (slice_get old.commits place ≡ Some commit) ⊎ ((j : ℕ) × (slice_get m.before j ≡ Some commit) × (place ≡ length old.commits + j)) → StoodOrCame place commit
      in_front (inl was) = inl was
      in_front (inr other) = absurd (no_mark commit.body text (at_all (λ (c : RawCommit). HasChanges c.body) m.before other.0 commit m.before_are_others other.1) is)

      plus_zero : (a b : ℕ) → a ≡ b + 0 → a ≡ b
      plus_zero a b same = omega (arith, same)

      from_it : (j : ℕ) → slice_get (m.mark ∷ m.after) j ≡ Some commit → place ≡ there + j → StoodOrCame place commit
      from_it zero got same = inr (plus_zero place there same, sym (first_some m.mark commit got))
      from_it (suc j) got same = absurd (no_mark commit.body text (at_all (λ (c : RawCommit). HasChanges c.body) m.after j commit m.after_are_others got) is)

  module _ (incarnation n : ℕ) (side : Side) (text : value ≡ mark_text incarnation n side) (small : n < 2 ^ 64) where
    marked_came : (greatest : ℕ) → incarnation ≤ greatest → AllByRecursion (λ commit. IsMarkedBy greatest commit.body) came
    marked_came greatest le =
        all_append (λ (c : RawCommit). IsMarkedBy greatest c.body) m.before (m.mark ∷ m.after) (others_marked greatest m.before m.before_are_others)
        (subst (IsMarkedBy greatest) (sym m.is_mark) (record { incarnation = incarnation; number = n; side = side; is = text; not_above = le; small = small }), others_marked greatest m.after m.after_are_others)

    -- a watermark of a fresh text is one more of the session's
    module _ (number begun : ℕ) (counted : incarnation < 2 ^ 64) (le : n ≤ number) (fresh : IsFresh old value) (over : begun < m.mark.lsn.0) (own : AreOwnMarks incarnation number begun old) where
      numbered_by : (place k : ℕ) (s : Side) (commit : RawCommit) → k < 2 ^ 64 → commit.body ≡ Mark (mark_text incarnation k s) → StoodOrCame place commit → (k ≤ number) × (begun < commit.lsn.0)
      numbered_by place k s commit lt is (inl was) = own.numbered place k s commit lt was is
      numbered_by place k s commit lt is (inr here) =
          let both : Mark (mark_text incarnation k s) ≡ Mark value = sym is ∙ (ap (λ (c : RawCommit). c.body) here.1 ∙ m.is_mark) in
          let one : mark_text incarnation k s ≡ value = cc in
          (no_more k n number (marks_tell incarnation incarnation k n s side counted counted lt small (one ∙ text)).1 le, subst (λ (c : RawCommit). begun < c.lsn.0) (sym here.1) over)

      once_by : (place other k : ℕ) (s : Side) (one two : RawCommit) → k < 2 ^ 64 → one.body ≡ Mark (mark_text incarnation k s) → two.body ≡ Mark (mark_text incarnation k s) → StoodOrCame place one → StoodOrCame other two → place ≡ other
      once_by place other k s one two lt is_one is_two (inl was_one) (inl was_two) = own.once place other k s one two lt was_one was_two is_one is_two
      once_by place other k s one two lt is_one is_two (inl was_one) (inr here_two) = absurd (fresh place one was_one (is_one ∙ (sym is_two ∙ (ap (λ (c : RawCommit). c.body) here_two.1 ∙ m.is_mark))))
      once_by place other k s one two lt is_one is_two (inr here_one) (inl was_two) = absurd (fresh other two was_two (is_two ∙ (sym is_one ∙ (ap (λ (c : RawCommit). c.body) here_one.1 ∙ m.is_mark))))
      once_by place other k s one two lt is_one is_two (inr here_one) (inr here_two) = here_one.0 ∙ sym here_two.0

      own_marks_on : AreOwnMarks incarnation number begun new
      own_marks_on = record {
        numbered = λ place k s commit lt at is. numbered_by place k s commit lt is (stood_or_came place commit (mark_text incarnation k s) at is);
        once = λ place other k s one two lt at_one at_two is_one is_two. (
            once_by place other k s one two lt is_one is_two (stood_or_came place one (mark_text incarnation k s) at_one is_one) (stood_or_came other two (mark_text incarnation k s) at_two is_two));
      }

-- one window more may be numbered
numbered_on : (incarnation number begun : ℕ) (history : History) → AreOwnMarks incarnation number begun history → AreOwnMarks incarnation (number + 1) begun history
numbered_on incarnation number begun history own = record {
  numbered = λ place k s commit lt at is. (let is_numbered = own.numbered place k s commit lt at is in (one_on k number is_numbered.0, is_numbered.1));
  once = own.once;
}

-- the next number's texts stand nowhere yet
next_is_fresh : (incarnation number begun : ℕ) (side : Side) (history : History) (value : List ℕ) → value ≡ mark_text incarnation (number + 1) side → number + 1 < 2 ^ 64 → AreOwnMarks incarnation number begun history → IsFresh history value
next_is_fresh incarnation number begun side history value text small own place commit at is =
    too_many number (own.numbered place (number + 1) side commit small at (is ∙ ap (λ (l : List ℕ). Mark l) text)).0

-- ---- the whole

-- what a session keeps where commits came and a window was armed
module _ (entry : SessionStart) (stage : Stage) (more : List RawCommit) (chunk : Chunk) (fit : IsFitHistory (longer stage.history more)) (marks : AllByRecursion (λ commit. IsMarkedBy stage.first.incarnation commit.body) more) (going : IsGoing entry stage) where
  abbrev later : Stage
  later = armed_at stage (longer stage.history more) chunk

  infos_on : AreInfosOf (longer stage.history more) stage.first.infos
  infos_on = captured_stays stage.history (longer stage.history more) stage.first.infos refl going.reading.infos

  abbrev parts_armed : IsPlacedInHistory stage → PartsHistory later
  parts_armed placed = record {
    old = placed.parts.old;
    later = (parts_longer entry stage more fit placed.position placed.parts).later;
    spelled = (parts_longer entry stage more fit placed.position placed.parts).spelled;
    stated = (parts_longer entry stage more fit placed.position placed.parts).stated;
    last = placed.parts.last;
    under = placed.parts.under;
    over = (parts_longer entry stage more fit placed.position placed.parts).over;
    order = placed.parts.order;
  }

  -- the new commits are after where the session began
  over_begun : (placed : IsPlacedInHistory stage) → KeepsStage entry stage placed.parts → AllByRecursion (λ commit. begun_after entry stage.first < commit.lsn.0) more
  over_begun placed kept = both more (after_top stage.history more fit.rising (joined entry.groups) kept.stand) (after_position stage.history more fit.rising stage.lsn.0 placed.position)
    where
      both : (cs : List RawCommit) → AllByRecursion (λ commit. top_position (joined entry.groups) < commit.lsn.0) cs → AllByRecursion (λ commit. stage.lsn.0 < commit.lsn.0) cs → AllByRecursion (λ commit. begun_after entry stage.first < commit.lsn.0) cs
      both [] one two = tt
      both (c ∷ cs) one two = (greater (top_position (joined entry.groups)) stage.first.lsn.0 c.lsn.0 one.0 (under_over stage.first.lsn.0 stage.lsn.0 c.lsn.0 placed.parts.order two.0), both cs one.1 two.1)

  module _ (closed : ℕ) (counted : IsCounted stage.first.infos entry.config.chunk (stage.number + 1) closed entry.history (longer stage.history more) (Armed chunk) stage.first.cursors stage.following.cursors)
      (told : ReportsWindowsOnce closed entry.groups stage.groups) (small : stage.number + 1 < 2 ^ 64) (numbers : (chunk.plan.incarnation ≡ stage.first.incarnation) × (chunk.plan.number ≡ stage.number + 1))
      (awaited : (read : ℕ) → read ≤ length stage.history.commits → IsArmedBefore (longer stage.history more) read chunk)
      (window : (read : ℕ) → read ≤ length stage.history.commits → IsArmedAt stage.first.infos (longer stage.history more) read chunk)
      (own : (begun : ℕ) → AllByRecursion (λ commit. begun < commit.lsn.0) more → AreOwnMarks stage.first.incarnation stage.number begun stage.history → AreOwnMarks stage.first.incarnation (stage.number + 1) begun (longer stage.history more)) where
    armed_longer : IsGoing entry later
    armed_longer = record {
      reading = record {
        began = first_longer entry stage.history more stage.first entry.offset going.reading.began;
        first_small = going.reading.first_small;
        of_session = going.reading.of_session;
        stored_later = going.reading.stored_later;
        no_fall = going.reading.no_fall;
        more = going.reading.more ++ more;
        grown = record { tables = going.reading.grown.tables; commits = ap (λ (l : List RawCommit). l ++ more) going.reading.grown.commits ∙ append_assoc entry.history.commits going.reading.more more };
        fit = fit;
        infos = infos_on;
        fields = going.reading.fields;
        accepted = going.reading.accepted;
        right = reads_longer entry stage more fit going.reading.right;
        follows_identity = going.reading.follows_identity;
        follows_infos = going.reading.follows_infos;
        cursors = going.reading.cursors;
        closed = closed;
        counted = counted;
        told = told;
      };
      placed = λ stood. record {
        position = still_position stage.history more stage.lsn.0 (going.placed stood).position;
        parts = parts_armed (going.placed stood);
        awaited = awaited (later_count (going.placed stood).parts) (read_le stage (going.placed stood).parts);
      };
      kept = λ stood faithful. (
          let p = going.placed stood in
          let k = going.kept stood faithful in
          let near_on = near_longer entry stage more fit p.parts marks p.position k.near in
          record {
            order = k.order;
            small = small;
            own_marks = own (begun_after entry stage.first) (over_begun p k) k.own_marks;
            own_window = numbers;
            window = window (later_count p.parts) (read_le stage p.parts);
            from = k.from;
            to = k.to;
            stored_is = offset_longer entry stage more fit p.parts marks p.position stage.stored going.reading.of_session.incarnation k.stored_is;
            next_is = offset_longer entry stage more fit p.parts marks p.position (next_offset stage) refl k.next_is;
            up = up_longer entry stage more fit p.parts marks p.position going.reading.fit going.reading.infos infos_on k.stand k.up;
            adds = k.adds;
            within = k.within;
            grouped = k.grouped;
            near = record {
              before = near_on.before;
              since = near_on.since;
              later = near_on.later;
              spelled = near_on.spelled;
              settled = near_on.settled;
              followed = near_on.followed;
              many = near_on.many;
              over = near_on.over;
              few = near_on.few;
              top = near_on.top;
            };
            stand = λ place item at. still_at stage.history more item.position (k.stand place item at);
          });
    }

-- what the three calls make of the history
module _ (entry : SessionStart) (stage : Stage) (history : History) (chunk : Chunk) (absent : stage.following.window ≡ Absent) (armed : WasArmed stage entry.config.chunk history chunk) (reading : IsReading entry stage) where
  abbrev low_came : List RawCommit
  low_came = came (low_text chunk.plan) stage.history armed.marked armed.low_is

  abbrev high_came : List RawCommit
  high_came = came (high_text chunk.plan) armed.looked history armed.high_is

  abbrev all_came : List RawCommit
  all_came = low_came ++ (armed.rows_are.others ++ high_came)

  abbrev low_at : ℕ
  low_at = there (low_text chunk.plan) stage.history armed.marked armed.low_is

  abbrev high_at : ℕ
  high_at = there (high_text chunk.plan) armed.looked history armed.high_is

  to_marked : armed.marked.commits ≡ stage.history.commits ++ low_came
  to_marked = came_is (low_text chunk.plan) stage.history armed.marked armed.low_is

  from_looked : history.commits ≡ armed.looked.commits ++ high_came
  from_looked = came_is (high_text chunk.plan) armed.looked history armed.high_is

  from_marked : history.commits ≡ armed.marked.commits ++ (armed.rows_are.others ++ high_came)
  from_marked = from_looked ∙ (ap (λ (l : List RawCommit). l ++ high_came) armed.rows_are.commits ∙ append_assoc armed.marked.commits armed.rows_are.others high_came)

  whole : history.commits ≡ stage.history.commits ++ all_came
  whole = from_marked ∙ (ap (λ (l : List RawCommit). l ++ (armed.rows_are.others ++ high_came)) to_marked ∙ append_assoc stage.history.commits low_came (armed.rows_are.others ++ high_came))

  grown : HasGrown stage.history history all_came
  grown = record { tables = armed.high_is.tables ∙ (armed.rows_are.tables ∙ armed.low_is.tables); commits = whole }

  -- ---- the texts

  low_is : low_text chunk.plan ≡ mark_text stage.first.incarnation (stage.number + 1) Low
  low_is = ap₂ (λ (i n : ℕ). mark_text i n Low) armed.incarnation_is armed.number_is

  high_is : high_text chunk.plan ≡ mark_text stage.first.incarnation (stage.number + 1) High
  high_is = ap₂ (λ (i n : ℕ). mark_text i n High) armed.incarnation_is armed.number_is

  small : stage.number + 1 < 2 ^ 64
  small = subst (λ (n : ℕ). n < 2 ^ 64) armed.number_is armed.in_range

  marked : AllByRecursion (λ commit. IsMarkedBy stage.first.incarnation commit.body) all_came
  marked =
      all_append (λ (c : RawCommit). IsMarkedBy stage.first.incarnation c.body) low_came (armed.rows_are.others ++ high_came)
      (marked_came (low_text chunk.plan) stage.history armed.marked armed.low_is stage.first.incarnation (stage.number + 1) Low low_is small stage.first.incarnation (le_refl stage.first.incarnation))
      (all_append (λ (c : RawCommit). IsMarkedBy stage.first.incarnation c.body) armed.rows_are.others high_came (others_marked stage.first.incarnation armed.rows_are.others armed.rows_are.are_others)
      (marked_came (high_text chunk.plan) armed.looked history armed.high_is stage.first.incarnation (stage.number + 1) High high_is small stage.first.incarnation (le_refl stage.first.incarnation)))

  -- ---- places

  low_mark : IsMarkAt history (low_text chunk.plan) low_at
  low_mark = mark_on armed.marked history (armed.rows_are.others ++ high_came) from_marked (low_text chunk.plan) low_at (mark_there (low_text chunk.plan) stage.history armed.marked armed.low_is)

  high_mark : IsMarkAt history (high_text chunk.plan) high_at
  high_mark = mark_there (high_text chunk.plan) armed.looked history armed.high_is

  low_after : low_at + 1 ≤ length armed.marked.commits
  low_after = after_it (low_text chunk.plan) stage.history armed.marked armed.low_is

  high_before : length armed.looked.commits ≤ high_at
  high_before = before_it (high_text chunk.plan) armed.looked history armed.high_is

  low_high : low_at < high_at
  low_high = by low_at (length armed.marked.commits) (length armed.looked.commits) high_at low_after (long_on armed.marked armed.looked armed.rows_are.others armed.rows_are.commits) high_before
    where
      by : (a b c d : ℕ) → a + 1 ≤ b → b ≤ c → c ≤ d → a < d
      by a b c d one two three = omega (arith, one, two, three)

  not_read : (read : ℕ) → read ≤ length stage.history.commits → read ≤ low_at
  not_read read le = le_on read (length stage.history.commits) low_at le (before_it (low_text chunk.plan) stage.history armed.marked armed.low_is)

  rows_stay : IsSelected stage.first.infos history (length armed.marked.commits) (length armed.looked.commits) chunk
  rows_stay = selected_stays stage.first.infos armed.looked history (length armed.marked.commits) (length armed.looked.commits) (high_text chunk.plan) chunk (le_refl (length armed.looked.commits)) (inr armed.high_is) armed.selected

  awaits : (read : ℕ) → read ≤ length stage.history.commits → IsArmedBefore history read chunk
  awaits read le = record { low = low_at; high = high_at; low_is = low_mark; high_is = high_mark; not_yet = not_read read le; order = low_high }

  windowed : (read : ℕ) → read ≤ length stage.history.commits → IsArmedAt stage.first.infos history read chunk
  windowed read le = record {
    low = low_at;
    high = high_at;
    marked = record {
      low_is = low_mark;
      high_is = high_mark;
      rows = wider stage.first.infos history (length armed.marked.commits) (length armed.looked.commits) (low_at + 1) high_at chunk low_after high_before rows_stay;
    };
    not_yet = not_read read le;
  }

  -- ---- how many

  one_more : (value : List ℕ) (old new : History) → Marks value old new → length (marks_in new.commits) ≡ length (marks_in old.commits) + 1
  one_more value old new m = ap length (one_mark_more value old new m) ∙ length-append (marks_in old.commits) (value ∷ [])

  counts : IsCounted stage.first.infos entry.config.chunk (stage.number + 1) reading.closed entry.history history (Armed chunk) stage.first.cursors stage.following.cursors
  counts = record {
    marks = two_more (length (marks_in history.commits)) (length (marks_in armed.looked.commits)) (length (marks_in armed.marked.commits)) (length (marks_in stage.history.commits)) (length (marks_in entry.history.commits)) stage.number
        (one_more (high_text chunk.plan) armed.looked history armed.high_is)
        (ap length (no_mark_more armed.marked armed.looked armed.rows_are))
        (one_more (low_text chunk.plan) stage.history armed.marked armed.low_is)
        reading.counted.marks;
    windows = one_waits stage.number reading.closed (waiting stage.following.window) reading.counted.windows (ap waiting absent);
    waits = record {
      captured = armed.captured;
      limit_is = armed.limit_is;
      cursor = armed.cursor;
      cursor_is = armed.cursor_is;
      not_done = armed.not_done;
      above = armed.above;
      selected = chunk;
      plan = refl;
      through = refl;
      done = refl;
      from = length armed.marked.commits;
      upto = length armed.looked.commits;
      within = long_on armed.looked history high_came from_looked;
      rows = rows_stay;
    };
    come = come_stays stage.first.infos entry.config.chunk reading.closed stage.history history stage.first.cursors stage.following.cursors
        (was_on stage.history history all_came whole stage.first.infos stage.following.cursors) reading.counted.come;
  }

  -- ---- its watermarks

  -- of the two texts neither stood before it was written
  high_fresh : (begun : ℕ) → AreOwnMarks stage.first.incarnation stage.number begun stage.history → IsFresh armed.looked (high_text chunk.plan)
  high_fresh begun own place commit at is =
      by (stood_or_came (low_text chunk.plan) stage.history armed.marked armed.low_is place commit (high_text chunk.plan) (stood_was armed.marked armed.looked armed.rows_are (high_text chunk.plan) place commit at is) is)
    where
      by : StoodOrCame (low_text chunk.plan) stage.history armed.marked armed.low_is place commit → ⊥
      by (inl was) = next_is_fresh stage.first.incarnation stage.number begun High stage.history (high_text chunk.plan) high_is small own place commit was is
      by (inr here) =
          let both : Mark (high_text chunk.plan) ≡ Mark (low_text chunk.plan) = sym is ∙ (ap (λ (c : RawCommit). c.body) here.1 ∙ armed.low_is.is_mark) in
          let one : high_text chunk.plan ≡ low_text chunk.plan = cc in
          let sides : High ≡ Low = (marks_tell stage.first.incarnation stage.first.incarnation (stage.number + 1) (stage.number + 1) High Low reading.first_small reading.first_small small small (sym high_is ∙ (one ∙ low_is))).2 in
          cc

  owns : (begun : ℕ) → AllByRecursion (λ commit. begun < commit.lsn.0) all_came → AreOwnMarks stage.first.incarnation stage.number begun stage.history → AreOwnMarks stage.first.incarnation (stage.number + 1) begun history
  owns begun over own =
      own_marks_on (high_text chunk.plan) armed.looked history armed.high_is stage.first.incarnation (stage.number + 1) High high_is small (stage.number + 1) begun reading.first_small (le_refl (stage.number + 1)) (high_fresh begun own) over_high
      (own_marks_stay armed.marked armed.looked armed.rows_are stage.first.incarnation (stage.number + 1) begun
      (own_marks_on (low_text chunk.plan) stage.history armed.marked armed.low_is stage.first.incarnation (stage.number + 1) Low low_is small (stage.number + 1) begun reading.first_small (le_refl (stage.number + 1))
      (next_is_fresh stage.first.incarnation stage.number begun Low stage.history (low_text chunk.plan) low_is small own) over_low
      (numbered_on stage.first.incarnation stage.number begun stage.history own)))
    where
      at_mark : (front : List RawCommit) (mark : RawCommit) (rest : List RawCommit) → AllByRecursion (λ commit. begun < commit.lsn.0) (front ++ mark ∷ rest) → begun < mark.lsn.0
      at_mark [] mark rest all = all.0
      at_mark (c ∷ front) mark rest all = at_mark front mark rest all.1

      over_low : begun < armed.low_is.mark.lsn.0
      over_low =
          at_mark armed.low_is.before armed.low_is.mark (armed.low_is.after ++ (armed.rows_are.others ++ high_came))
          (subst (AllByRecursion (λ (commit : RawCommit). begun < commit.lsn.0)) (append_assoc armed.low_is.before (armed.low_is.mark ∷ armed.low_is.after) (armed.rows_are.others ++ high_came)) over)

      over_high : begun < armed.high_is.mark.lsn.0
      over_high =
          at_mark (low_came ++ (armed.rows_are.others ++ armed.high_is.before)) armed.high_is.mark armed.high_is.after
          (subst (AllByRecursion (λ (commit : RawCommit). begun < commit.lsn.0))
          (ap (λ (l : List RawCommit). low_came ++ l) (sym (append_assoc armed.rows_are.others armed.high_is.before (armed.high_is.mark ∷ armed.high_is.after)))
          ∙ sym (append_assoc low_came (armed.rows_are.others ++ armed.high_is.before) (armed.high_is.mark ∷ armed.high_is.after))) over)

pub windows_keep_going : WindowsKeepGoing
windows_keep_going entry stage history chunk absent some armed fit going =
    let same : history ≡ longer stage.history (all_came entry stage history chunk absent armed going.reading) = is_longer stage.history history (all_came entry stage history chunk absent armed going.reading) (grown entry stage history chunk absent armed going.reading) in
    subst (λ (h : History). IsGoing entry (armed_at stage h chunk)) (sym same)
    (armed_longer entry stage (all_came entry stage history chunk absent armed going.reading) chunk (subst IsFitHistory same fit) (marked entry stage history chunk absent armed going.reading) going going.reading.closed
    (subst (λ (h : History). IsCounted stage.first.infos entry.config.chunk (stage.number + 1) going.reading.closed entry.history h (Armed chunk) stage.first.cursors stage.following.cursors) same (counts entry stage history chunk absent armed going.reading))
    going.reading.told
    (small entry stage history chunk absent armed going.reading)
    (armed.incarnation_is, armed.number_is)
    (λ read le. subst (λ (h : History). IsArmedBefore h read chunk) same (awaits entry stage history chunk absent armed going.reading read le))
    (λ read le. subst (λ (h : History). IsArmedAt stage.first.infos h read chunk) same (windowed entry stage history chunk absent armed going.reading read le))
    (λ begun over own. subst (AreOwnMarks stage.first.incarnation (stage.number + 1) begun) same (owns entry stage history chunk absent armed going.reading begun over own)))
