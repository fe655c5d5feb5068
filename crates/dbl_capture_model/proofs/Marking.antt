-- Marks and windows of a history that went on by commits of others.
use Rattle.std.proofs.Common.{◌≡◌, ◌∙◌, inl, inr, ◌+◌, ◌≤◌, ◌<◌, ℕ, zero, suc, Some, List, [], ◌∷◌, length, map, take, drop, sym, ap, subst, arith, length-append}
use Rattle.std.specs.Prelude.{slice_get}
use Rattle.std.specs.List.{AllByRecursion}
use Rattle.std.proofs.lemmas.List.{length-map}
use Rattle.dbl_model_table.specs.declared.row.Key.{Key}
use Rattle.dbl_model_table.specs.declared.table.TableInfo.{TableInfo}
use Rattle.dbl_model_table.specs.declared.change.Change.{Change}
use Rattle.dbl_model_table.specs.declared.change.Commit.{Commit}
use Rattle.dbl_model_table.specs.Rows.{Rows, all_changes}
use Rattle.dbl_faithful.specs.ModelHistory.declared.cursor.Cursor.{Cursor}
use Rattle.dbl_faithful.specs.ModelHistory.History.{RawBody, RawCommit, History}
use Rattle.dbl_faithful.specs.ModelHistory.History.RawBody.{Changes, Mark, Alter}
use Rattle.dbl_faithful.specs.ModelHistory.MarkTexts.{mark_text}
use Rattle.dbl_faithful.specs.ModelHistory.Typed.{typed_commit, typed}
use Rattle.dbl_follow.specs.SourceModel.Growth.{HasChanges, AreOthers, Grows}
use Rattle.dbl_follow.proofs.SourceModelGrowthLemmas.{no_mark_more, same_rows, typed-grown}
use Rattle.dbl_faithful.proofs.Items.{at_left, at_cases, at_all, all_weaker, take_within}
use Rattle.dbl_faithful.specs.Lag.{IsMarkedBy}
use Rattle.dbl_follow.specs.Window.Plans.{Chunk, low_text, high_text}
use Rattle.dbl_follow.specs.Window.Changing.{AreLeft}
use Rattle.dbl_follow.specs.Window.Laws.{between}
use Rattle.dbl_follow.proofs.WindowLawLemmas.{selected_stays}
use Rattle.dbl_follow.specs.declared.window.Window.{Window}
use Rattle.dbl_follow.specs.declared.window.Window.TheVariants.{Absent, Armed, Open}
use Rattle.dbl_capture_model.specs.Marked.{IsMarkAt, AreOwnMarks, IsAwaited, IsSelectedBetweenMarks, IsWindowAt}
use Rattle.dbl_capture_model.specs.Counted.{WasRead, IsOnTable, IsWaiting, IsCounted}
use Rattle.dbl_capture_model.proofs.Counts.{come_stays}

-- a watermark stands at one of the commits that there are
place_lt : {X : Type 0} (xs : List X) (k : ℕ) (x : X) → slice_get xs k ≡ Some x → k < length xs
place_lt [] k x at = cc
place_lt (y ∷ xs) zero x at = omega arith
place_lt (y ∷ xs) (suc k) x at = let lt : k < length xs = place_lt xs k x at in omega (arith, lt)

pub mark_lt : (history : History) (value : List ℕ) (place : ℕ) → IsMarkAt history value place → place < length history.commits
mark_lt history value place mark = place_lt history.commits place mark.commit mark.stands

-- commits of others are no watermarks of the session's, nor of anybody's
pub others_marked : (greatest : ℕ) (commits : List RawCommit) → AreOthers commits → AllByRecursion (λ commit. IsMarkedBy greatest commit.body) commits
others_marked greatest commits others = all_weaker (λ (c : RawCommit). HasChanges c.body) (λ (c : RawCommit). IsMarkedBy greatest c.body) commits (λ c has. by c.body has) others
  where
    by : (body : RawBody) → HasChanges body → IsMarkedBy greatest body
    by (Changes changes) has = tt
    by (Mark value) has = absurd has
    by (Alter name columns rows) has = tt

pub no_mark : (body : RawBody) (value : List ℕ) → HasChanges body → body ≡ Mark value → ⊥
no_mark (Changes changes) value has is = cc
no_mark (Mark v) value has is = absurd has
no_mark (Alter name columns rows) value has is = cc

module _ (old new : History) (g : Grows old new) where
  pub mark_stays : (value : List ℕ) (place : ℕ) → IsMarkAt old value place → IsMarkAt new value place
  mark_stays value place mark = record {
    commit = mark.commit;
    stands = ap (λ (l : List RawCommit). slice_get l place) g.commits ∙ at_left old.commits g.others place mark.commit mark.stands;
    is_mark = mark.is_mark;
  }

  -- no commit that came is a watermark
  pub stood_was : (value : List ℕ) (place : ℕ) (commit : RawCommit) → slice_get new.commits place ≡ Some commit → commit.body ≡ Mark value → slice_get old.commits place ≡ Some commit
  stood_was value place commit at is = elim (at_cases old.commits g.others place commit (sym (ap (λ (l : List RawCommit). slice_get l place) g.commits) ∙ at)) [
    | inl there ↦ there
    | inr came ↦ absurd (no_mark commit.body value (at_all (λ (c : RawCommit). HasChanges c.body) g.others came.0 commit g.are_others came.1) is)
  ]

  pub own_marks_stay : (incarnation number begun : ℕ) → AreOwnMarks incarnation number begun old → AreOwnMarks incarnation number begun new
  own_marks_stay incarnation number begun own = record {
    numbered = λ place n side commit small at is. own.numbered place n side commit small (stood_was (mark_text incarnation n side) place commit at is) is;
    once = λ place other n side one two small at_one at_two is_one is_two. (
        own.once place other n side one two small (stood_was (mark_text incarnation n side) place one at_one is_one) (stood_was (mark_text incarnation n side) other two at_two is_two) is_one is_two);
  }

  longer_by : length old.commits ≤ length new.commits
  longer_by = omega (arith, ap length g.commits, length-append old.commits g.others)

  under : (a b c : ℕ) → a ≤ b → b ≤ c → a ≤ c
  under a b c one two = omega (arith, one, two)

  below : (a b : ℕ) → a < b → a ≤ b
  below a b lt = omega (arith, lt)

  -- ---- a window between its watermarks

  pub awaited_stays : (read : ℕ) (window : Window) → IsAwaited old read window → IsAwaited new read window
  awaited_stays read Absent is = tt
  awaited_stays read (Armed chunk) is = record {
    low = is.low;
    high = is.high;
    low_is = mark_stays (low_text chunk.plan) is.low is.low_is;
    high_is = mark_stays (high_text chunk.plan) is.high is.high_is;
    not_yet = is.not_yet;
    order = is.order;
  }
  awaited_stays read (Open chunk) is = record { high = is.high; high_is = mark_stays (high_text chunk.plan) is.high is.high_is; not_yet = is.not_yet }

  module _ (infos : List TableInfo) where
    -- the changes between two places that stood
    between_stays : (low high : ℕ) → high ≤ length old.commits → between infos new low high ≡ between infos old low high
    between_stays low high le =
        ap (λ (l : List Commit). all_changes (drop low (take high l))) (typed-grown infos old new g)
        ∙ ap (λ (l : List Commit). all_changes (drop low l)) (take_within high (typed infos old) (map (typed_commit infos) g.others) (subst (λ (n : ℕ). high ≤ n) (sym (length-map old.commits (typed_commit infos))) le))

    marked_stays : (selected : Chunk) (low high : ℕ) → IsSelectedBetweenMarks infos old selected low high → IsSelectedBetweenMarks infos new selected low high
    marked_stays selected low high is = record {
      low_is = mark_stays (low_text selected.plan) low is.low_is;
      high_is = mark_stays (high_text selected.plan) high is.high_is;
      rows = selected_stays infos old new (low + 1) high [] selected (below high (length old.commits) (mark_lt old (high_text selected.plan) high is.high_is)) (inl g) is.rows;
    }

    pub window_stays : (read : ℕ) (window : Window) → read ≤ length old.commits → IsWindowAt infos old read window → IsWindowAt infos new read window
    window_stays read Absent le is = tt
    window_stays read (Armed chunk) le is = record { low = is.low; high = is.high; marked = marked_stays chunk is.low is.high is.marked; not_yet = is.not_yet }
    window_stays read (Open chunk) le is = record {
      low = is.low;
      high = is.high;
      selected = is.selected;
      marked = marked_stays is.selected is.low is.high is.marked;
      plan = is.plan;
      through = is.through;
      done = is.done;
      opened = is.opened;
      not_yet = is.not_yet;
      left = subst (λ (cs : List Change). AreLeft infos is.selected.plan.table is.selected.rows cs chunk.rows) (sym (between_stays (is.low + 1) read le)) is.left;
    }

    -- ---- how many windows

    on_table_stays : (limit : ℕ) (cursors : List Cursor) (chunk : Chunk) → IsOnTable infos limit old cursors chunk → IsOnTable infos limit new cursors chunk
    on_table_stays limit cursors chunk is = record {
      captured = is.captured;
      limit_is = is.limit_is;
      cursor = is.cursor;
      cursor_is = is.cursor_is;
      not_done = is.not_done;
      above = is.above;
      selected = is.selected;
      plan = is.plan;
      through = is.through;
      done = is.done;
      from = is.from;
      upto = is.upto;
      within = under is.upto (length old.commits) (length new.commits) is.within longer_by;
      rows = selected_stays infos old new is.from is.upto [] is.selected is.within (inl g) is.rows;
    }

    waiting_stays : (limit : ℕ) (cursors : List Cursor) (window : Window) → IsWaiting infos limit old cursors window → IsWaiting infos limit new cursors window
    waiting_stays limit cursors Absent is = tt
    waiting_stays limit cursors (Armed chunk) is = on_table_stays limit cursors chunk is
    waiting_stays limit cursors (Open chunk) is = on_table_stays limit cursors chunk is

    was_read_stays : (cursors : List Cursor) (pair : ℕ × Key) → WasRead infos old cursors pair → WasRead infos new cursors pair
    was_read_stays cursors pair was = record {
      place = was.place;
      row = was.row;
      within = under was.place (length old.commits) (length new.commits) was.within longer_by;
      was = ap (λ (at : Rows). at pair.0 pair.1) (same_rows infos old new was.place g was.within) ∙ was.was;
      cursor = was.cursor;
      cursor_is = was.cursor_is;
      read = was.read;
    }

    pub counted_stays : (chunk number closed : ℕ) (entry : History) (window : Window) (begun cursors : List Cursor) → IsCounted infos chunk number closed entry old window begun cursors → IsCounted infos chunk number closed entry new window begun cursors
    counted_stays chunk number closed entry window begun cursors is = record {
      marks = ap length (no_mark_more old new g) ∙ is.marks;
      windows = is.windows;
      waits = waiting_stays chunk cursors window is.waits;
      come = come_stays infos chunk closed old new begun cursors (was_read_stays cursors) is.come;
    }
