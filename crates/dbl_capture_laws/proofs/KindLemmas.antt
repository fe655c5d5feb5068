-- The kinds of the records of a commit, and how many of each there are.
use Rattle.std.proofs.Common.{◌≡◌, ◌∙◌, ◌+◌, ◌-◌, ℕ, ℤ, zero, suc, Bool, true, false, cond, Option, Some, None, List, [], ◌∷◌, ◌++◌, length, map, filter, take, refl, sym, ap, subst, arith}
use Rattle.std.specs.Prelude.{flat_map, is_some, not, option_map, unwrap_or}
use Rattle.std.specs.List.{AllByRecursion}
use Rattle.dbl_record.specs.declared.record.Record.{Record}
use Rattle.dbl_record.specs.Acts.{is_progress}
use Rattle.dbl_model_table.specs.declared.change.Body.{Body}
use Rattle.dbl_model_table.specs.declared.change.Body.TheVariants.{Changes, Mark}
use Rattle.dbl_model_table.specs.declared.change.Change.{Change}
use Rattle.dbl_model_table.specs.declared.change.Commit.{Commit}
use Rattle.dbl_model_table.specs.declared.identity.Identity.{Identity}
use Rattle.dbl_model_table.specs.declared.row.Key.{Key}
use Rattle.dbl_model_table.specs.declared.row.Row.{Row}
use Rattle.dbl_model_table.specs.declared.table.TableInfo.{TableInfo}
use Rattle.dbl_model_table.specs.Rows.{changes_of}
use Rattle.dbl_capture_work.specs.ModelHistory.Ranges.{IsCommitInRange, IsMomentInRange}
use Rattle.dbl_capture_work.specs.ModelEvent.Events.{Event, events_of, notices, numbered}
use Rattle.dbl_capture_work.specs.ModelEvent.EventJson.{envelopes, print}
use Rattle.dbl_capture_work.specs.ModelEvent.SnapshotLists.{IsSnapshot}
use Rattle.dbl_capture_work.specs.ModelEvent.Snapshots.{chunk_records, progress_record, read_records}
use Rattle.dbl_capture_work.specs.ConsumeLaws.Snapshots.{IsReadInRange}
use Rattle.dbl_capture_work.proofs.ConsumeLawsTopics.{not_progress, is_progress_topic}
use Rattle.dbl_capture_work.specs.Faithful.Kinds.{is_change_record, is_row}
use Rattle.dbl_capture_work.proofs.FaithfulRecordKinds.{events_are_changes, progress_is_neither, read_rows_are_rows, rows_are_no_changes}
use Rattle.dbl_capture_work.proofs.FaithfulRightSnapshots.{rows_in_range}
use Rattle.dbl_capture_work.specs.Window.Plans.{Chunk}
use Rattle.dbl_capture_work.specs.Follow.Followed.{Following}
use Rattle.dbl_capture_work.specs.Follow.Steps.{closed_of, closing, watermark_in, mark_of, records_by, records_of}
use Rattle.dbl_capture_work.proofs.FollowSnapshotSteps.{closing-None}
use Rattle.dbl_capture_work.specs.CaptureModel.Reports.{chunks_in, snapshot_row_count}
use Rattle.dbl_capture_work.specs.Groups.{chunks_of, lasts, counted_snapshot_rows}

-- ---- kinds

-- a snapshot's last record tells its progress, and its others are rows; a commit's own records are neither
abbrev pub IsOfKind : Bool → Record → Type 0
IsOfKind true item = (is_progress item.topic ≡ item.last) × (is_row item ≡ not item.last)
IsOfKind false item = (is_progress item.topic ≡ false) × (is_row item ≡ false)

-- ---- counts

same_filter : (f g : Record → Bool) (items : List Record) → AllByRecursion (λ (item : Record). f item ≡ g item) items → filter f items ≡ filter g items
same_filter f g [] same = refl
same_filter f g (item ∷ items) same =
    ap (λ (b : Bool). cond b (item ∷ filter f items) (filter f items)) same.0
    ∙ ap (λ (l : List Record). cond (g item) (item ∷ l) l) (same_filter f g items same.1)

all_of : (P Q : Record → Type 0) (items : List Record) → ((item : Record) → P item → Q item) → AllByRecursion P items → AllByRecursion Q items
all_of P Q [] f all = tt
all_of P Q (item ∷ items) f all = (f item all.0, all_of P Q items f all.1)

none_of : (f : Record → Bool) (items : List Record) → AllByRecursion (λ (item : Record). f item ≡ false) items → length (filter f items) ≡ 0
none_of f [] none = refl
none_of f (item ∷ items) none = ap (λ (b : Bool). length (cond b (item ∷ filter f items) (filter f items))) none.0 ∙ none_of f items none.1

others : (a b n m : ℕ) → a + b ≡ n → m ≡ b → a ≡ n - m
others a b n m one two = omega (arith, one, two)

-- those that aren't the last, and those that are
both_kinds : (items : List Record) → length (filter (λ (item : Record). not item.last) items) + lasts items ≡ length items
both_kinds [] = refl
both_kinds (item ∷ items) = by item.last (both_kinds items)
  where
    one_left : (a b n : ℕ) → a + b ≡ n → suc a + b ≡ suc n
    one_left a b n is = omega (arith, is)

    one_right : (a b n : ℕ) → a + b ≡ n → a + suc b ≡ suc n
    one_right a b n is = omega (arith, is)

    by : (b : Bool) → length (filter (λ (x : Record). not x.last) items) + lasts items ≡ length items
        → length (cond (not b) (item ∷ filter (λ (x : Record). not x.last) items) (filter (λ (x : Record). not x.last) items)) + length (cond b (item ∷ filter (λ (x : Record). x.last) items) (filter (λ (x : Record). x.last) items)) ≡ suc (length items)
    by true rest = one_right (length (filter (λ (x : Record). not x.last) items)) (lasts items) (length items) rest
    by false rest = one_left (length (filter (λ (x : Record). not x.last) items)) (lasts items) (length items) rest

pub chunks_so : (snapshot : Bool) (items : List Record) → AllByRecursion (IsOfKind snapshot) items → chunks_in items ≡ chunks_of snapshot items
chunks_so true items kinds =
    ap length (same_filter (λ (item : Record). is_progress item.topic) (λ (item : Record). item.last) items (all_of (IsOfKind true) (λ (item : Record). is_progress item.topic ≡ item.last) items (λ item k. k.0) kinds))
chunks_so false items kinds = none_of (λ (item : Record). is_progress item.topic) items (all_of (IsOfKind false) (λ (item : Record). is_progress item.topic ≡ false) items (λ item k. k.0) kinds)

pub rows_so : (snapshot : Bool) (items : List Record) → AllByRecursion (IsOfKind snapshot) items → snapshot_row_count items ≡ counted_snapshot_rows snapshot items
rows_so true items kinds =
    others (snapshot_row_count items) (lasts items) (length items) (lasts items)
    (ap (λ (l : List Record). length l + lasts items) (same_filter is_row (λ (item : Record). not item.last) items (all_of (IsOfKind true) (λ (item : Record). is_row item ≡ not item.last) items (λ item k. k.1) kinds))
    ∙ both_kinds items) refl
rows_so false items kinds = none_of is_row items (all_of (IsOfKind false) (λ (item : Record). is_row item ≡ false) items (λ item k. k.1) kinds)

all_take : (P : Record → Type 0) (n : ℕ) (items : List Record) → AllByRecursion P items → AllByRecursion P (take n items)
all_take P zero items all = tt
all_take P (suc n) [] all = tt
all_take P (suc n) (item ∷ items) all = (all.0, all_take P n items all.1)

pub kinds_taken : (snapshot : Bool) (n : ℕ) (items : List Record) → AllByRecursion (IsOfKind snapshot) items → AllByRecursion (IsOfKind snapshot) (take n items)
kinds_taken snapshot n items kinds = all_take (IsOfKind snapshot) n items kinds

-- ---- the records of a commit

no_row : (item : Record) → is_change_record item ≡ true → is_row item ≡ false
no_row item change = by (is_row item) refl
  where
    by : (b : Bool) → is_row item ≡ b → b ≡ false
    by true row = let wrong : true ≡ false = sym change ∙ rows_are_no_changes item row in cc
    by false row = refl

module _ (identity : Identity) (commit : Commit) (now : ℤ) where
  event_kinds : (es : List Event) → AllByRecursion (λ e. is_change_record (print identity commit now e) ≡ true) es → AllByRecursion (IsOfKind false) (map (print identity commit now) es)
  event_kinds [] changes = tt
  event_kinds (e ∷ es) changes = ((not_progress identity e.notice.info, no_row (print identity commit now e) changes.0), event_kinds es changes.1)

  row_kinds : (info : TableInfo) (ordinal : ℕ) (rows : List (Key × Row)) → AllByRecursion (λ entry. IsReadInRange entry commit now) rows → AllByRecursion (IsOfKind true) (read_records identity info commit now ordinal rows)
  row_kinds info ordinal [] ranges = tt
  row_kinds info ordinal (entry ∷ rows) ranges = (
    (not_progress identity info, (read_rows_are_rows identity info commit now ordinal entry ranges.0).0),
    row_kinds info (ordinal + 1) rows ranges.1,
  )

  all_snoc : (items : List Record) (item : Record) → AllByRecursion (IsOfKind true) items → IsOfKind true item → AllByRecursion (IsOfKind true) (items ++ item ∷ [])
  all_snoc [] item all one = (one, tt)
  all_snoc (first ∷ items) item all one = (all.0, all_snoc items item all.1 one)

  chunk_kinds : (info : TableInfo) (rows : List (Key × Row)) (through : Option Key) (done : Bool) → AllByRecursion (λ entry. IsReadInRange entry commit now) rows → AllByRecursion (IsOfKind true) (chunk_records identity info rows through done commit now)
  chunk_kinds info rows through done ranges =
      all_snoc (read_records identity info commit now 0 rows) (progress_record identity info commit (length rows) through done) (row_kinds info 0 rows ranges)
      (is_progress_topic identity, (progress_is_neither identity info commit (length rows) through done).0)

-- of a commit's own records, or of the snapshot of the window that it closes
pub kinds_by : (f : Following) (commit : Commit) (now : ℤ) → IsCommitInRange commit → IsMomentInRange now
    → ((chunk : Chunk) → closing f.window (mark_of commit) ≡ Some chunk → IsSnapshot f.identity f.infos (closed_of chunk) commit now (records_by f commit now))
    → AllByRecursion (IsOfKind (is_some (mark_of commit))) (records_by f commit now)
kinds_by f commit now range moment listed = by commit.body refl (closing f.window (mark_of commit)) refl
  where
    own : AllByRecursion (IsOfKind false) (envelopes f.identity f.infos commit now)
    own = event_kinds f.identity commit now (events_of f.infos commit) (events_are_changes f.identity f.infos commit now range moment)

    no_changes : (value : List ℕ) → commit.body ≡ Mark value → changes_of commit ≡ []
    no_changes value body = ap (λ (b : Body). elim b [ Changes changes ↦ changes | Mark value ↦ [] ]) body

    none : (value : List ℕ) → commit.body ≡ Mark value → AllByRecursion (IsOfKind true) (envelopes f.identity f.infos commit now)
    none value body =
        subst (λ (l : List Change). AllByRecursion (IsOfKind true) (map (print f.identity commit now) (numbered commit.lsn.0 0 (flat_map (notices f.infos) l)))) (sym (no_changes value body)) tt

    closed : (chunk : Chunk) → closing f.window (mark_of commit) ≡ Some chunk → AllByRecursion (IsOfKind true) (records_of f (Some chunk) commit now)
    closed chunk is =
        let list = listed chunk is in
        subst (λ (o : Option TableInfo). AllByRecursion (IsOfKind true) (unwrap_or (option_map (λ i. chunk_records f.identity i chunk.rows chunk.through chunk.done commit now) o) [])) (sym list.captured)
        (chunk_kinds f.identity commit now list.info chunk.rows chunk.through chunk.done (rows_in_range list.info commit now chunk.rows range moment list.fits.rows list.keys))

    by : (b : Body) → commit.body ≡ b → (o : Option Chunk) → closing f.window (mark_of commit) ≡ o → AllByRecursion (IsOfKind (is_some (watermark_in b))) (records_of f o commit now)
    by (Changes changes) body None is = own
    by (Changes changes) body (Some chunk) is =
        let nothing : closing f.window (mark_of commit) ≡ None = ap (λ (b : Body). closing f.window (watermark_in b)) body ∙ closing-None f.window in
        let wrong : None ≡ Some chunk = sym nothing ∙ is in
        cc
    by (Mark value) body None is = none value body
    by (Mark value) body (Some chunk) is = closed chunk is
