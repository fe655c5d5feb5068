-- What a consumer of an exact log with right snapshots can rely on.
use Rattle.std.proofs.Common.{◌≡◌, ◌∙◌, inl, inr, ◌<◌, ◌≤◌, ℕ, Bool, true, false, List, [], ◌∷◌, ◌++◌, Option, Some, None, Contains, length, take, map, refl, sym, ap, subst, arith, le_refl}
use Rattle.std.specs.Prelude.{◌==◌, slice_get, option_map, unwrap_or}
use Rattle.std.specs.List.{AllByRecursion}
use Rattle.std.proofs.lemmas.Bool.{cases_order}
use Rattle.std.proofs.lemmas.Option.{get_or_from_slice_get}
use Rattle.dbl_record.specs.declared.record.Record.{Record}
use Rattle.dbl_record.specs.Consumers.{HeldCells}
use Rattle.dbl_record.specs.Places.{Place, place_of, IsBefore}
use Rattle.dbl_model_table.specs.declared.identity.Identity.{Identity}
use Rattle.dbl_value_types.specs.declared.value.Val.{Val}
use Rattle.dbl_model_table.specs.declared.row.Key.{Key}
use Rattle.dbl_model_table.specs.declared.row.Row.{Row}
use Rattle.dbl_model_table.specs.declared.table.Column.{Column}
use Rattle.dbl_model_table.specs.declared.table.TableInfo.{TableInfo}
use Rattle.dbl_model_table.specs.declared.change.Commit.{Commit}
use Rattle.dbl_model_table.specs.Rows.{no_rows, rows}
use Rattle.dbl_model_table.proofs.Lists.{slice_get-lt}
use Rattle.dbl_consume_laws.specs.ModelHistory.Image.{Names, row_json_texts, image_row, IsImage}
use Rattle.dbl_model_table.specs.Infos.{columns_of}
use Rattle.dbl_consume_laws.specs.ModelEvent.Snapshots.{read_record, chunk_records}
use Rattle.dbl_consume_laws.specs.Laws.{HoldsJsonTexts}
use Rattle.dbl_consume_laws.specs.ModelHistory.History.{AreRising}
use Rattle.dbl_consume_laws.proofs.ModelHistoryMomentLemmas.{lsns}
use Rattle.dbl_consume_laws.specs.Commits.{moment_after}
use Rattle.dbl_consume_laws.specs.KnownKeys.{IsTold}
use Rattle.dbl_consume_laws.specs.Ages.{held_row}
use Rattle.dbl_consume_laws.proofs.Lists.{slice_get-seam}
use Rattle.dbl_consume_courses.specs.Versions.{Versioned, plain_commit, AreVersionsFrom, versions_to, version_rows}
use Rattle.dbl_consume_courses.specs.Courses.{Course, course, first_course, infos_after}
use Rattle.dbl_consume_courses.specs.Since.{since}
use Rattle.dbl_consume_courses.specs.AlteredTables.{IsAgedFrom}
use Rattle.dbl_consume_courses.specs.FitVersions.{AreFitVersions}
use Rattle.dbl_consume_courses.specs.Growth.{course_of}
use Rattle.dbl_consume_courses.specs.VersionStores.{HasWindowAt}
use Rattle.dbl_consume_courses.proofs.AgreementLemmas.{tables_agree}
use Rattle.dbl_consume_courses.proofs.CourseLemmas.{infos_from, shows_rows}
use Rattle.dbl_consume_courses.proofs.GrowthLemmas.{follow_left}
use Rattle.dbl_consume_courses.proofs.NameLemmas.{names_after}
use Rattle.dbl_consume_courses.proofs.VersionLemmas.{all_to}
use Rattle.dbl_faithful.specs.Agreements.{HasKeyedRows}
use Rattle.dbl_faithful.specs.Kinds.{is_row}
use Rattle.dbl_faithful.specs.ToldEvents.{ToldEvent, events_since}
use Rattle.dbl_faithful.specs.ExactLogs.{IsExact}
use Rattle.dbl_faithful.specs.RightSnapshots.{IsRightSnapshot}
use Rattle.dbl_faithful.specs.Controls.{CellsMissEmptyRows}
use Rattle.dbl_faithful.specs.CaughtUpLaws.{IsSourceRow, IsPutAhead, SnapshotRowsOverwriteNothing, CompleteLogsAreImages}
use Rattle.dbl_faithful.proofs.CaughtUp.{shown_to, caught_up_logs_are_right}
use Rattle.dbl_faithful.proofs.Exact.{put_among, first_print}
use Rattle.dbl_faithful.proofs.Items.{first_some, at_take, taken_at, at_all, all_weaker}
use Rattle.dbl_faithful.proofs.KeyedRows.{of_table}
use Rattle.dbl_faithful.proofs.RecordKinds.{rows_are_no_changes, progress_is_neither}
use Rattle.dbl_faithful.proofs.News.{fresh_before}
use Rattle.dbl_faithful.proofs.RightSnapshots.{at_test, filter_has, listing, listing_cases}
use Rattle.dbl_faithful.proofs.Trace.{after_rise, after_changes, print_place}

-- ---- cells and rows

pub cells_miss_empty_rows : CellsMissEmptyRows
cells_miss_empty_rows = (λ column. refl, λ holds. holds)

-- ---- rows that a snapshot read

two_ways : {X : Type 0} (b : Bool) → b ≡ true → b ≡ false → X
two_ways b is isnt = cc

module _ (identity : Identity) (versions : List Versioned) (start : ℕ) (records : List Record) (place : ℕ) (item : Record) (at : slice_get records place ≡ Some item) (row : is_row item ≡ true) where
  -- it is one of its window's rows
  source_row : AreRising 0 (lsns (map plain_commit versions)) → HasWindowAt identity versions records item.position → IsSourceRow identity versions item
  source_row rise window =
      let info : TableInfo = window.listed.info in
      let mark : Commit = plain_commit window.mark in
      let chunk_is : window.snapshot ≡ listing identity info mark window.now window.closed.through window.closed.done 0 (length window.closed.rows) window.closed.rows =
      window.listed.records_are
      ∙ ap (λ (o : Option TableInfo). unwrap_or (option_map (λ i. chunk_records identity i window.closed.rows window.closed.through window.closed.done mark window.now) o) []) window.listed.captured in
      let among = filter_has (λ (r : Record). r.position == item.position) records place item at (at_test item.position item.position refl) in
      let taken = taken_at window.count window.snapshot among.0 item (ap (λ (l : List Record). slice_get l among.0) (sym window.shown) ∙ among.1) in
      let there : slice_get (listing identity info mark window.now window.closed.through window.closed.done 0 (length window.closed.rows) window.closed.rows) among.0 ≡ Some item =
      ap (λ (l : List Record). slice_get l among.0) (sym chunk_is) ∙ taken.1 in
      let shown : versions_to item.position versions ≡ window.before ++ window.mark ∷ [] =
      ap (λ (p : ℕ). versions_to p versions) (sym window.position_is) ∙ shown_to versions window.before window.mark window.later rise window.spelled in
      elim (listing_cases identity info mark window.now window.closed.through window.closed.done 0 (length window.closed.rows) window.closed.rows among.0 item there) [
        | inl found ↦ record {
          table = window.closed.table;
          mark = window.mark;
          number = length window.before;
          stands = ap (λ (l : List Versioned). slice_get l (length window.before)) window.spelled ∙ slice_get-seam window.before window.mark window.later;
          info = info;
          captured = window.listed.captured;
          entry = found.1;
          is_high = record { front = window.front; is = window.is_high };
          now = window.now;
          printed = subst (λ (o : ℕ). item ≡ read_record identity info mark window.now o found.1) (sym (ap (λ (r : Record). r.ordinal) found.4)) found.4;
          right = subst (λ (l : List Versioned). version_rows l window.closed.table found.1.0 ≡ Some found.1.1.cells) (sym shown)
              (at_all (λ (entry : Key × Row). version_rows (window.before ++ window.mark ∷ []) window.closed.table entry.0 ≡ Some entry.1.cells) window.closed.rows found.0 found.1 window.right found.3);
        }
        | inr progress ↦ two_ways (is_row item) row (ap is_row progress ∙ (progress_is_neither identity info mark (length window.closed.rows) window.closed.through window.closed.done).0)
      ]

  -- an event before its position has its record before it
  put_ahead : (infos : List TableInfo) → AreFitVersions infos versions → (count : ℕ) → IsExact identity (events_since start versions) records count → IsRightSnapshot identity versions (events_since start versions) records place item.position
      → (number : ℕ) (t : ToldEvent) → slice_get (events_since start versions) number ≡ Some t → t.event.position < item.position → IsPutAhead identity records place t
  put_ahead infos fit count exact right number t at_told lt =
      let rise = after_rise start 0 versions fit.rise in
      let kinds = after_changes identity start no_rows versions fit.fit in
      let under : number < count = put_among identity (events_since start versions) rise kinds records count number t exact at_told (right.put number t at_told lt) in
      let first = first_print identity (events_since start versions) rise kinds records count number t exact at_told under in
      let here : first.0.position ≡ t.event.position = ap (λ (p : Place). p.0) (print_place identity t first.0 first.1) in
      elim (cases_order first.2.place place) [
        | inl same ↦ absurd (not_here first.0 first.2.place first.2.stands same here)
        | inr rest ↦ elim rest [
          | inl before ↦ record { earlier = first.2.place; first = first.0; before = before; stands = first.2.stands; is = first.1 }
          | inr subsequent ↦ absurd (not_before first.0 t.event.position here
              (at_all (λ (earlier : Record). IsBefore (place_of earlier) (place_of first.0)) (take first.2.place records) place item
              (fresh_before records first.2.place first.0 first.2.stands first.2.fresh) (at_take first.2.place records place item at subsequent)))
        ]
      ]
    where
      under_itself : (a b : ℕ) → a ≡ b → a < b → ⊥
      under_itself a b e lt = omega (arith, e, lt)

      not_here : (r : Record) (k : ℕ) → slice_get records k ≡ Some r → k ≡ place → r.position ≡ t.event.position → ⊥
      not_here r k stands same position =
          let one : r ≡ item = first_some r item (sym stands ∙ (ap (slice_get records) same ∙ at)) in
          under_itself t.event.position item.position (sym position ∙ ap (λ (x : Record). x.position) one) lt

      crossed : (p q i : ℕ) → p ≡ q → q < i → i < p → ⊥
      crossed p q i e lt gt = omega (arith, e, lt, gt)

      not_equal : (p q i : ℕ) → p ≡ q → q < i → i ≡ p → ⊥
      not_equal p q i e lt same = omega (arith, e, lt, same)

      not_before : (r : Record) (p : ℕ) → r.position ≡ t.event.position → IsBefore (place_of item) (place_of r) → ⊥
      not_before r p position (inl gt) = crossed r.position t.event.position item.position position lt gt
      not_before r p position (inr same) = not_equal r.position t.event.position item.position position lt same.0

pub snapshot_rows_overwrite_nothing : SnapshotRowsOverwriteNothing
snapshot_rows_overwrite_nothing identity infos versions start records place item fit log right at row =
    let own = right.each place item at (rows_are_no_changes item row) in (
      own.fresh,
      source_row identity versions start records place item at row fit.rise own.window,
      put_ahead identity versions start records place item at row infos fit log.0 log.1 own,
    )

-- ---- a log whose snapshots are done

pub contains_at : {X : Type 0} (xs : List X) (k : ℕ) (x : X) → slice_get xs k ≡ Some x → Contains xs x
contains_at xs k x at = (k, slice_get-lt xs k x at, get_or_from_slice_get xs k x x at)

-- where nothing is held there is no row, and where a row is held there is one
no_row : (columns : List Column) (row : Option (List Val)) → HoldsJsonTexts None (option_map (row_json_texts columns) row) → row ≡ None
no_row columns None holds = refl
no_row columns (Some values) holds = elim holds [ ]

some_row : (columns : List Column) (cells : HeldCells) (row : Option (List Val)) → HoldsJsonTexts (Some cells) (option_map (row_json_texts columns) row) → (values : List Val) × (row ≡ Some values)
some_row columns cells None holds = elim holds [ ]
some_row columns cells (Some values) holds = (values, refl)

-- a log that is aged from a position, has no record after it, and covers every key of each table since the table's last alteration
pub record IsWholeAt (identity : Identity) (infos : List TableInfo) (versions before later : List Versioned) (start high : ℕ) (records : List Record) : Type 0 where
  pub fit : AreFitVersions infos versions
  pub spelled : versions ≡ before ++ later
  pub upto : AllByRecursion (λ v. v.lsn.0 ≤ high) before
  pub past : AllByRecursion (λ v. high < v.lsn.0) later
  pub aged : (table : ℕ) → IsAgedFrom identity infos versions start records high table
  pub keyed : HasKeyedRows identity infos records
  pub low : AllByRecursion (λ item. item.position ≤ high) records
  pub told : (table : ℕ) (info : TableInfo) (key : Key) → slice_get (infos_after infos before) table ≡ Some info
      → IsTold identity (infos_after infos before) (since (course infos versions start table high).start records) table key

module _ (identity : Identity) (infos : List TableInfo) (versions before later : List Versioned) (start high : ℕ) (records : List Record) (topic text : List ℕ) (is_whole : IsWholeAt identity infos versions before later start high records) where
  abbrev now : List TableInfo
  now = infos_after infos before

  shown : versions_to high versions ≡ before
  shown = ap (versions_to high) is_whole.spelled ∙ all_to high before later is_whole.upto is_whole.past

  follow : AreVersionsFrom infos before
  follow = follow_left infos before later (subst (AreVersionsFrom infos) is_whole.spelled is_whole.fit.follow)

  infos_are : (table : ℕ) → (course infos versions start table high).infos ≡ now
  infos_are table = infos_from table (first_course infos start) (versions_to high versions) ∙ ap (infos_after infos) shown

  rows_are : (table : ℕ) (key : Key)
      → rows (course infos versions start table high).infos (course infos versions start table high).commits (moment_after (course infos versions start table high).commits) table key ≡ version_rows before table key
  rows_are table key =
      ap (λ (l : List Versioned). rows (course_of infos start table l).infos (course_of infos start table l).commits (moment_after (course_of infos start table l).commits) table key) shown
      ∙ shows_rows infos before start table key follow

  holds_at : (table : ℕ) (key : Key) → Names identity now topic text table key → HoldsJsonTexts (held_row identity records topic text) (image_row now (version_rows before) table key)
  holds_at table key names =
      let c : Course = course infos versions start table high in
      let own_names : Names identity c.infos topic text table key = subst (λ (l : List TableInfo). Names identity l topic text table key) (sym (infos_are table)) names in
      let told : IsTold identity c.infos (since c.start records) table key =
      subst (λ (l : List TableInfo). IsTold identity l (since c.start records) table key) (sym (infos_are table)) (is_whole.told table names.info key names.captured) in
      let agrees : HoldsJsonTexts (held_row identity records topic text) (image_row c.infos (rows c.infos c.commits (moment_after c.commits)) table key) =
      tables_agree identity infos versions start high table records topic text key is_whole.fit (is_whole.aged table) is_whole.low (of_table identity infos records table is_whole.fit.distinct is_whole.keyed) own_names (inl told) in
      subst (λ (row : Option (List Val)). HoldsJsonTexts (held_row identity records topic text) (option_map (row_json_texts (columns_of now table)) row)) (rows_are table key)
      (subst (λ (l : List TableInfo). HoldsJsonTexts (held_row identity records topic text) (image_row l (rows c.infos c.commits (moment_after c.commits)) table key)) (infos_are table) agrees)

  -- a row that is held is at a key, by its name then
  named_now : (cells : HeldCells) → held_row identity records topic text ≡ Some cells → (table : ℕ) × (key : Key) × Names identity now topic text table key
  named_now cells is =
      let row = is_whole.keyed.each topic text cells is in
      (row.0, row.1.key, names_after identity infos before topic text row.0 row.1.key follow row.1.names)

  holds_none : ((table : ℕ) (key : Key) → Names identity now topic text table key → version_rows before table key ≡ None) → HoldsJsonTexts (held_row identity records topic text) None
  holds_none gone = by (held_row identity records topic text) refl
    where
      by : (held : Option HeldCells) → held_row identity records topic text ≡ held → HoldsJsonTexts held None
      by None is = tt
      by (Some cells) is =
          let row = named_now cells is in
          let none : image_row now (version_rows before) row.0 row.1 ≡ None = ap (option_map (row_json_texts (columns_of now row.0))) (gone row.0 row.1 row.2) in
          subst (λ (h : Option HeldCells). HoldsJsonTexts h None) is (subst (HoldsJsonTexts (held_row identity records topic text)) none (holds_at row.0 row.1 row.2))

  pub holds_image : (image : Option (List ℕ → Option (List ℕ))) → IsImage identity now (version_rows before) topic text image → HoldsJsonTexts (held_row identity records topic text) image
  holds_image None is = holds_none is
  holds_image (Some texts) is = subst (HoldsJsonTexts (held_row identity records topic text)) is.row (holds_at is.table is.key is.names)

  -- what it holds tells what there is
  pub image_there : (held : Option HeldCells) → held_row identity records topic text ≡ held → (image : Option (List ℕ → Option (List ℕ))) × IsImage identity now (version_rows before) topic text image
  image_there None is = (None, λ table key names. no_row (columns_of now table) (version_rows before table key) (subst (λ (h : Option HeldCells). HoldsJsonTexts h (image_row now (version_rows before) table key)) is (holds_at table key names)))
  image_there (Some cells) is =
      let row = named_now cells is in
      let here = some_row (columns_of now row.0) cells (version_rows before row.0 row.1) (subst (λ (h : Option HeldCells). HoldsJsonTexts h (image_row now (version_rows before) row.0 row.1)) is (holds_at row.0 row.1 row.2)) in
      (Some (row_json_texts (columns_of now row.0) here.0), record { table = row.0; key = row.1; names = row.2; row = ap (option_map (row_json_texts (columns_of now row.0))) here.1 })

-- ---- a session that did everything

no_later : (p far high : ℕ) → p ≤ far → far ≤ high → p ≤ high
no_later p far high one two = omega (arith, one, two)

pub complete_logs_are_images : CompleteLogsAreImages
complete_logs_are_images identity infos versions before later start low high far sent records topic text image up le all is =
    let right = caught_up_logs_are_right identity infos versions before later start low high far sent records up in
    let shown : versions_to high versions ≡ before = ap (versions_to high) up.spelled ∙ all_to high before later up.upto up.past in
    holds_image identity infos versions before later start high records topic text
    (record {
      fit = up.fit;
      spelled = up.spelled;
      upto = up.upto;
      past = up.past;
      aged = λ table. right.0.aged table high up.ends up.lower (le_refl high);
      keyed = right.0.keyed;
      low = all_weaker (λ (item : Record). item.position ≤ far) (λ (item : Record). item.position ≤ high) records (λ item under. no_later item.position far high under le) up.placed;
      told = λ table info key captured. (
          let done = all table info captured in
          record { info = info; captured = captured; item = done.item; stands = contains_at (since (course infos versions start table high).start records) done.place done.item done.stands; through = done.through; done = true; tells = done.reports; covers = inl refl });
    }) image is
