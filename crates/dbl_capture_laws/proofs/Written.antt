-- How many windows a report counts, and how many watermarks a session has written beside them.
use Rattle.std.proofs.Common.{◌≡◌, ◌∙◌, ◌⊎◌, inl, inr, ◌+◌, ◌-◌, ◌*◌, ◌≤◌, ◌<◌, ◌^◌, ℕ, ℤ, zero, suc, min, Bool, true, false, cond, ◌&&◌, Option, Some, None, List, [], ◌∷◌, ◌++◌, length, filter, map, refl, sym, ap, subst, arith, length-append, append_assoc}
use Rattle.std.specs.Prelude.{if◌then◌else◌, not, nat_lt, is_some, slice_get, bytes_eq, flat_map, option_map, unwrap_or}
use Rattle.std.specs.List.{AllByRecursion, AllZip, list_all, position, prefix_len}
use Rattle.std.proofs.lemmas.Bool.Decides.{nat_tests}
use Rattle.std.proofs.lemmas.List.Elements.{filter-append}
use Rattle.dbl_record.specs.declared.record.Record.{Record}
use Rattle.dbl_model_table.specs.declared.change.Body.{Body}
use Rattle.dbl_model_table.specs.declared.change.Body.TheVariants.{Changes, Mark}
use Rattle.dbl_model_table.specs.declared.change.Change.{Change}
use Rattle.dbl_model_table.specs.declared.change.Commit.{Commit}
use Rattle.dbl_model_table.specs.declared.identity.Identity.{Identity}
use Rattle.dbl_model_table.specs.declared.row.Key.{Key}
use Rattle.dbl_model_table.specs.declared.row.Row.{Row}
use Rattle.dbl_model_table.specs.declared.table.TableInfo.{TableInfo}
use Rattle.dbl_model_table.specs.Rows.{changes_of}
use Rattle.dbl_capture_work.specs.ModelHistory.declared.cursor.Cursor.{Cursor}
use Rattle.dbl_capture_work.specs.ModelHistory.History.{RawCommit, History}
use Rattle.dbl_capture_work.specs.SourceModel.Growth.{mark_in_body, marks_in}
use Rattle.dbl_capture_work.specs.ModelEvent.Events.{notices, numbered}
use Rattle.dbl_capture_work.specs.ModelEvent.EventJson.{envelopes, print}
use Rattle.dbl_capture_work.specs.ModelEvent.Snapshots.{chunk_records, progress_record, read_records}
use Rattle.dbl_capture_work.specs.ModelEvent.SnapshotLists.{IsSnapshot}
use Rattle.dbl_capture_work.specs.Offset.declared.offset.Offset.{Offset}
use Rattle.dbl_capture_work.specs.Faithful.Lag.{IsUnread}
use Rattle.dbl_capture_work.specs.Faithful.Kept.{HasGrown}
use Rattle.dbl_capture_work.specs.Window.Plans.{Chunk, low_text, high_text}
use Rattle.dbl_capture_work.specs.Follow.declared.window.Window.{Window}
use Rattle.dbl_capture_work.specs.Follow.declared.window.Window.TheVariants.{Absent, Armed, Open}
use Rattle.dbl_capture_work.specs.Follow.Followed.{Following}
use Rattle.dbl_capture_work.specs.Follow.Steps.{Becomes, closed_of, closing, watermark_in, mark_of, records_by, records_of, seen_by}
use Rattle.dbl_capture_work.specs.CaptureModel.Counted.{HaveComeOn, IsWaiting, waiting}
use Rattle.dbl_capture_work.specs.CaptureModel.Entries.{SessionStart}
use Rattle.dbl_capture_work.specs.CaptureModel.Stages.{Stage}
use Rattle.dbl_capture_work.specs.CaptureModel.Going.{IsFirstOf, IsReading}
use Rattle.dbl_capture_work.specs.declared.report.Report.{Report}
use Rattle.dbl_capture_work.specs.declared.work.SessionState.{SessionState}
use Rattle.dbl_capture_work.specs.Groups.{chunks_of, counted, lasts}
use Rattle.dbl_capture_work.specs.Takes.{ReportsStep, WasStepped}
use Rattle.dbl_capture_work.specs.declared.report.Ending.TheVariants.{Budget}
use Rattle.dbl_capture_laws.specs.Written.{AddsExactly, AreClosed, FewMarksAreLeft, HaveBrought, MarksAreExact, ReadWindowsWait, StepsCloseWindows, WereBegun, marks_more}

-- ---- a window that is read

one_more : (n c : ℕ) → n ≡ c + 0 → n + 1 ≡ c + 1
one_more n c e = omega (arith, e)

pub read_windows_wait : ReadWindowsWait
read_windows_wait old new table chunks absent armed closed =
    subst (λ (w : SessionState). w.number ≡ chunks + waiting w.follower.window) (sym armed.is)
    (one_more old.number chunks (subst (λ (w : Window). old.number ≡ chunks + waiting w) absent closed))

-- ---- a commit that is followed

-- a window's rows aren't the last of their commit, and the progress after them is
rows_not_last : (identity : Identity) (info : TableInfo) (commit : Commit) (now : ℤ) (ordinal : ℕ) (rows : List (Key × Row)) → lasts (read_records identity info commit now ordinal rows) ≡ 0
rows_not_last identity info commit now ordinal [] = refl
rows_not_last identity info commit now ordinal (entry ∷ rows) = rows_not_last identity info commit now (ordinal + 1) rows

lasts_snoc : (items : List Record) (item : Record) → item.last ≡ true → lasts (items ++ item ∷ []) ≡ lasts items + 1
lasts_snoc items item is =
    ap length (filter-append (λ (x : Record). x.last) items (item ∷ []))
    ∙ (length-append (filter (λ (x : Record). x.last) items) (filter (λ (x : Record). x.last) (item ∷ []))
    ∙ ap (λ (b : Bool). lasts items + length (cond b (item ∷ []) [])) is)

one_last : (identity : Identity) (info : TableInfo) (rows : List (Key × Row)) (through : Option Key) (done : Bool) (commit : Commit) (now : ℤ) → lasts (chunk_records identity info rows through done commit now) ≡ 1
one_last identity info rows through done commit now =
    lasts_snoc (read_records identity info commit now 0 rows) (progress_record identity info commit (length rows) through done) refl
    ∙ ap (λ (n : ℕ). n + 1) (rows_not_last identity info commit now 0 rows)

-- a watermark has no changes, so that it has no records but those of the window that it closes
no_changes : (commit : Commit) (value : List ℕ) → commit.body ≡ Mark value → changes_of commit ≡ []
no_changes commit value body = ap (λ (b : Body). elim b [ Changes changes ↦ changes | Mark value ↦ [] ]) body

none_last : (f : Following) (commit : Commit) (now : ℤ) (value : List ℕ) → commit.body ≡ Mark value → lasts (envelopes f.identity f.infos commit now) ≡ 0
none_last f commit now value body =
    ap (λ (l : List Change). lasts (map (print f.identity commit now) (numbered commit.lsn.0 0 (flat_map (notices f.infos) l)))) (no_changes commit value body)

-- how many windows a commit closes: one or none
abbrev ends_of : Option Chunk → ℕ
ends_of None = 0
ends_of (Some chunk) = 1

-- and so many progress records it has
module _ (f : Following) (commit : Commit) (now : ℤ)
    (listed : (chunk : Chunk) → closing f.window (mark_of commit) ≡ Some chunk → IsSnapshot f.identity f.infos (closed_of chunk) commit now (records_by f commit now)) where
  closes_one : (value : List ℕ) → commit.body ≡ Mark value → (o : Option Chunk) → closing f.window (mark_of commit) ≡ o → lasts (records_of f o commit now) ≡ ends_of o
  closes_one value body None is = none_last f commit now value body
  closes_one value body (Some chunk) is =
      let list = listed chunk is in
      ap (λ (o : Option TableInfo). lasts (unwrap_or (option_map (λ i. chunk_records f.identity i chunk.rows chunk.through chunk.done commit now) o) [])) list.captured
      ∙ one_last f.identity list.info chunk.rows chunk.through chunk.done commit now

  pub chunks_closed : (value : List ℕ) → commit.body ≡ Mark value → (o : Option Chunk) → closing f.window (mark_of commit) ≡ o → chunks_of (is_some (mark_of commit)) (records_by f commit now) ≡ ends_of o
  chunks_closed value body o is =
      ap (λ (b : Body). chunks_of (is_some (watermark_in b)) (records_by f commit now)) body
      ∙ (ap (λ (p : Option Chunk). lasts (records_of f p commit now)) is ∙ closes_one value body o is)

counts_none : (n c w a most : ℕ) → n ≡ c + w → n ≤ most → a ≡ min (c + 0) most → n ≡ a + w
counts_none n c w a most one two three = omega (arith, one, two, three)

counts_one : (n c a most : ℕ) → n ≡ c + 1 → n ≤ most → a ≡ min (c + 1) most → n ≡ a + 0
counts_one n c a most one two three = omega (arith, one, two, three)

below : (n : ℕ) → n < 2 ^ 64 → n ≤ 2 ^ 64 - 1
below n lt = omega (arith, lt)

-- the records before the rest count no window
rest_same : (snapshot : Bool) (records put rest : List Record) → records ≡ put ++ rest → (put ≡ []) ⊎ (snapshot ≡ false) → chunks_of snapshot rest ≡ chunks_of snapshot records
rest_same snapshot records put rest parted (inl none) = ap (chunks_of snapshot) (sym (parted ∙ ap (λ (l : List Record). l ++ rest) none))
rest_same snapshot records put rest parted (inr changes) = ap (λ (b : Bool). chunks_of b rest) changes ∙ sym (ap (λ (b : Bool). chunks_of b records) changes)

module _ (commit : Commit) (old new : SessionState) (put rest : List Record) (before after : Report) (small : old.number < 2 ^ 64) (stepped : WasStepped commit old new)
    (parted : records_by old.follower commit old.now_ms ≡ put ++ rest) (either : (put ≡ []) ⊎ (is_some (mark_of commit) ≡ false))
    (reports : ReportsStep (is_some (mark_of commit)) rest before after true) (was : AreClosed old before.chunks) where
  abbrev more : ℕ
  more = chunks_of (is_some (mark_of commit)) (records_by old.follower commit old.now_ms)

  counted_is : after.chunks ≡ counted before.chunks more
  counted_is =
      ap (λ (r : Report). r.chunks) reports.is
      ∙ (ap (λ (r : Report). r.chunks) (reports.all refl)
      ∙ ap (counted before.chunks) (rest_same (is_some (mark_of commit)) (records_by old.follower commit old.now_ms) put rest parted either))

  -- the windows that were read stay as many, and what the commit makes of one that waits is told by its body
  by_window : (window : Window) → new.follower.window ≡ window → old.number ≡ after.chunks + waiting window → AreClosed new after.chunks
  by_window window is closed =
      ap (λ (w : SessionState). w.number) stepped.same
      ∙ (closed ∙ ap (λ (w : Window). after.chunks + waiting w) (sym is))

  -- none is closed, and as many wait
  stays : (window : Window) → new.follower.window ≡ window → more ≡ 0 → waiting window ≡ waiting old.follower.window → AreClosed new after.chunks
  stays window is none same =
      by_window window is
      (counts_none old.number before.chunks (waiting window) after.chunks (2 ^ 64 - 1) (was ∙ ap (λ (n : ℕ). before.chunks + n) (sym same)) (below old.number small) (counted_is ∙ ap (counted before.chunks) none))

  changes_stay : (changes : List Change) → commit.body ≡ Changes changes → (window : Window) → old.follower.window ≡ window → Becomes old.follower.infos window (Changes changes) new.follower.window → AreClosed new after.chunks
  changes_stay changes body Absent is becomes = stays Absent becomes (ap (λ (b : Body). chunks_of (is_some (watermark_in b)) (records_by old.follower commit old.now_ms)) body) (ap waiting (sym is))
  changes_stay changes body (Armed chunk) is becomes = stays (Armed chunk) becomes (ap (λ (b : Body). chunks_of (is_some (watermark_in b)) (records_by old.follower commit old.now_ms)) body) (ap waiting (sym is))
  changes_stay changes body (Open chunk) is becomes = stays (Open (record chunk { rows = becomes.0 })) becomes.1 (ap (λ (b : Body). chunks_of (is_some (watermark_in b)) (records_by old.follower commit old.now_ms)) body) (ap waiting (sym is))

  module _ (value : List ℕ) (body : commit.body ≡ Mark value) where
    closing_at : (window : Window) → old.follower.window ≡ window → closing old.follower.window (mark_of commit) ≡ closing window (Some value)
    closing_at window is = ap (λ (w : Window). closing w (mark_of commit)) is ∙ ap (λ (b : Body). closing window (watermark_in b)) body

    none_closed : (window : Window) → old.follower.window ≡ window → closing window (Some value) ≡ None → more ≡ 0
    none_closed window is none = chunks_closed old.follower commit old.now_ms stepped.listed value body None (closing_at window is ∙ none)

    armed_stays : (chunk : Chunk) → old.follower.window ≡ Armed chunk → (b : Bool) → bytes_eq value (low_text chunk.plan) ≡ b → new.follower.window ≡ (if b then Open chunk else Armed chunk) → AreClosed new after.chunks
    armed_stays chunk is true here now = stays (Open chunk) now (none_closed (Armed chunk) is refl) (ap waiting (sym is))
    armed_stays chunk is false here now = stays (Armed chunk) now (none_closed (Armed chunk) is refl) (ap waiting (sym is))

    open_goes : (chunk : Chunk) → old.follower.window ≡ Open chunk → (b : Bool) → bytes_eq value (high_text chunk.plan) ≡ b → new.follower.window ≡ (if b then Absent else Open chunk) → AreClosed new after.chunks
    open_goes chunk is true here now =
        by_window Absent now
        (counts_one old.number before.chunks after.chunks (2 ^ 64 - 1) (was ∙ ap (λ (w : Window). before.chunks + waiting w) is) (below old.number small)
        (counted_is ∙ ap (counted before.chunks) (chunks_closed old.follower commit old.now_ms stepped.listed value body (Some chunk) (closing_at (Open chunk) is ∙ ap (λ (b : Bool). if b then Some chunk else None) here))))
    open_goes chunk is false here now =
        stays (Open chunk) now (none_closed (Open chunk) is (ap (λ (b : Bool). if b then Some chunk else None) here)) (ap waiting (sym is))

    mark_goes : (window : Window) → old.follower.window ≡ window → new.follower.window ≡ seen_by window value → AreClosed new after.chunks
    mark_goes Absent is now = stays Absent now (none_closed Absent is refl) (ap waiting (sym is))
    mark_goes (Armed chunk) is now = armed_stays chunk is (bytes_eq value (low_text chunk.plan)) refl now
    mark_goes (Open chunk) is now = open_goes chunk is (bytes_eq value (high_text chunk.plan)) refl now

  by_body : (b : Body) → commit.body ≡ b → Becomes old.follower.infos old.follower.window b new.follower.window → AreClosed new after.chunks
  by_body (Changes changes) body becomes = changes_stay changes body old.follower.window refl becomes
  by_body (Mark value) body becomes = mark_goes value body old.follower.window refl becomes

  pub closes_now : AreClosed new after.chunks
  closes_now = by_body commit.body refl stepped.steps.window

pub steps_close_windows : StepsCloseWindows
steps_close_windows commit old new put rest before after small stepped parted either reports was = closes_now commit old new put rest before after small stepped parted either reports was

-- ---- what is left

pub marks_append : (xs ys : List RawCommit) → marks_in (xs ++ ys) ≡ marks_in xs ++ marks_in ys
marks_append [] ys = refl
marks_append (x ∷ xs) ys = ap (λ (l : List (List ℕ)). mark_in_body x.body ++ l) (marks_append xs ys) ∙ sym (append_assoc (mark_in_body x.body) (marks_in xs) (marks_in ys))

-- the watermarks of a history that went on
pub grown_marks : (old new : History) (more : List RawCommit) → HasGrown old new more → length (marks_in new.commits) ≡ length (marks_in old.commits) + length (marks_in more)
grown_marks old new more g = ap (λ (l : List RawCommit). length (marks_in l)) g.commits ∙ (ap length (marks_append old.commits more) ∙ length-append (marks_in old.commits) (marks_in more))

few : (a s e n c w k : ℕ) → a ≡ s + k → s ≡ e + 2 * n → n ≡ c + w → k + 2 * w ≤ 2 → a ≤ e + 2 * (c + 1)
few a s e n c w k one two three four = omega (arith, one, two, three, four)

pub few_marks_are_left : FewMarksAreLeft
few_marks_are_left entry stage history more chunks windows grown room reading =
    few (length (marks_in history.commits)) (length (marks_in stage.history.commits)) (length (marks_in entry.history.commits)) stage.number chunks (waiting stage.following.window) (length (marks_in more))
    (grown_marks stage.history history more grown) reading.counted.marks windows room

-- ---- where it ends normally

short : (n m : ℕ) → nat_lt n m ≡ false → m ≤ n
short n m is = grind (arith, nat_tests)

less_one : (n m : ℕ) → suc n ≤ 1 + m → n ≤ m
less_one n m le = omega (arith, le)

no_room : (n : ℕ) → suc n ≤ 0 → ⊥
no_room n le = omega (arith, le)

whole_prefix : (cursors : List Cursor) → length cursors ≤ prefix_len (λ c. not (not c.done)) cursors → list_all (λ cursor. cursor.done) cursors ≡ true
whole_prefix [] le = refl
whole_prefix (c ∷ cursors) le = by (whole_prefix cursors) c.done refl le
  where
    by : (length cursors ≤ prefix_len (λ c. not (not c.done)) cursors → list_all (λ cursor. cursor.done) cursors ≡ true) → (b : Bool) → c.done ≡ b
        → suc (length cursors) ≤ cond (not (not b)) (1 + prefix_len (λ c. not (not c.done)) cursors) 0 → list_all (λ cursor. cursor.done) (c ∷ cursors) ≡ true
    by rest true is room = ap (λ (b : Bool). b && list_all (λ cursor. cursor.done) cursors) is ∙ rest (less_one (length cursors) (prefix_len (λ c. not (not c.done)) cursors) room)
    by rest false is room = absurd (no_room (length cursors) room)

-- where no cursor is found that isn't done, all are
pub none_open : (cursors : List Cursor) → position (λ cursor. not cursor.done) cursors ≡ None → list_all (λ cursor. cursor.done) cursors ≡ true
none_open cursors none = whole_prefix cursors (by (nat_lt (prefix_len (λ c. not (not c.done)) cursors) (length cursors)) refl none)
  where
    by : (b : Bool) → nat_lt (prefix_len (λ c. not (not c.done)) cursors) (length cursors) ≡ b → cond b (Some (prefix_len (λ c. not (not c.done)) cursors)) None ≡ None → length cursors ≤ prefix_len (λ c. not (not c.done)) cursors
    by true is e = cc
    by false is e = short (prefix_len (λ c. not (not c.done)) cursors) (length cursors) is

one_not : (cursors : List Cursor) (k : ℕ) (cursor : Cursor) → slice_get cursors k ≡ Some cursor → cursor.done ≡ false → list_all (λ cursor. cursor.done) cursors ≡ false
one_not [] k cursor at is = cc
one_not (c ∷ cursors) zero cursor at is =
    let same : c ≡ cursor = cc in
    ap (λ (b : Bool). b && list_all (λ cursor. cursor.done) cursors) (ap (λ (x : Cursor). x.done) same ∙ is)
one_not (c ∷ cursors) (suc k) cursor at is = by c.done (one_not cursors k cursor at is)
  where
    by : (b : Bool) → list_all (λ cursor. cursor.done) cursors ≡ false → (b && list_all (λ cursor. cursor.done) cursors) ≡ false
    by true rest = rest
    by false rest = refl

-- two watermarks where a window waits, and none where none does, as no table is left
open_marks : (infos : List TableInfo) (limit : ℕ) (history : History) (cursors : List Cursor) (window : Window) → IsWaiting infos limit history cursors window → (window ≡ Absent → position (λ cursor. not cursor.done) cursors ≡ None)
    → (if list_all (λ cursor. cursor.done) cursors then 0 else 2) ≡ 2 * waiting window
open_marks infos limit history cursors Absent waits none = ap (λ (b : Bool). if b then 0 else 2) (none_open cursors (none refl))
open_marks infos limit history cursors (Armed chunk) waits none = ap (λ (b : Bool). if b then 0 else 2) (one_not cursors chunk.plan.table waits.cursor waits.cursor_is waits.not_done)
open_marks infos limit history cursors (Open chunk) waits none = ap (λ (b : Bool). if b then 0 else 2) (one_not cursors chunk.plan.table waits.cursor waits.cursor_is waits.not_done)

in_all : (a e n c w m : ℕ) → a ≡ e + 2 * n → n ≡ c + w → m ≡ 2 * w → a ≡ e + 2 * c + m
in_all a e n c w m one two three = omega (arith, one, two, three)

as_many : (n c d w : ℕ) → n ≡ c + w → n ≡ d + w → c ≡ d
as_many n c d w one two = omega (arith, one, two)

all_unread : (infos : List TableInfo) (cursors : List Cursor) → AllZip (λ info cursor. IsUnread cursor) infos cursors → AllByRecursion IsUnread cursors
all_unread infos [] unread = tt
all_unread [] (c ∷ cursors) unread = absurd unread
all_unread (i ∷ infos) (c ∷ cursors) unread = (unread.0, all_unread infos cursors unread.1)

were_begun : (entry : SessionStart) (history : History) (first : Offset) (found : Option Offset) → IsFirstOf entry history first found → WereBegun found first.cursors
were_begun entry history first None began = all_unread first.infos first.cursors began.1.unread
were_begun entry history first (Some found) began = began.0.cursors

-- the closed windows account for an offset with the follower's cursors
pub brought_by : (entry : SessionStart) (stage : Stage) (offset : Offset) (chunks : ℕ) → stage.number ≡ chunks + waiting stage.following.window
    → offset.infos ≡ stage.first.infos → offset.cursors ≡ stage.following.cursors → IsReading entry stage
    → HaveBrought entry.config.chunk chunks stage.history entry.offset (Some offset)
brought_by entry stage offset chunks windows infos cursors reading = record {
  begun = stage.first.cursors;
  begun_with = were_begun entry stage.history stage.first entry.offset reading.began;
  offset = offset;
  is = refl;
  advanced = subst (λ (l : List TableInfo). HaveComeOn l entry.config.chunk chunks stage.history stage.first.cursors offset.cursors) (sym infos)
      (subst (HaveComeOn stage.first.infos entry.config.chunk chunks stage.history stage.first.cursors) (sym cursors)
      (subst (λ (n : ℕ). HaveComeOn stage.first.infos entry.config.chunk n stage.history stage.first.cursors stage.following.cursors)
      (as_many stage.number reading.closed chunks (waiting stage.following.window) reading.counted.windows windows) reading.counted.come));
}

pub marks_are_exact : MarksAreExact
marks_are_exact entry stage offset chunks windows infos cursors none reading = ((exactly budget, brought), λ absent. (exactly_none absent, brought))
  where
    brought : HaveBrought entry.config.chunk chunks stage.history entry.offset (Some offset)
    brought = brought_by entry stage offset chunks windows infos cursors reading

    budget : marks_more Budget (Some offset) ≡ 2 * waiting stage.following.window
    budget =
        ap (λ (l : List Cursor). if list_all (λ (cursor : Cursor). cursor.done) l then 0 else 2) cursors
        ∙ open_marks stage.first.infos entry.config.chunk stage.history stage.following.cursors stage.following.window reading.counted.waits none

    exactly : {more : ℕ} → more ≡ 2 * waiting stage.following.window → AddsExactly chunks more entry.history stage.history
    exactly {more} is =
        in_all (length (marks_in stage.history.commits)) (length (marks_in entry.history.commits)) stage.number chunks (waiting stage.following.window) more reading.counted.marks windows is

    exactly_none : stage.following.window ≡ Absent → AddsExactly chunks 0 entry.history stage.history
    exactly_none absent = exactly (ap (λ (w : Window). 2 * waiting w) (sym absent))
