-- The rows of a window were in the source; earlier points.
use Rattle.std.proofs.Common.{true, false, ◌≡◌, ◌∙◌, ◌⊎◌, inl, inr, ℕ, ℤ, zero, suc, ◌+◌, ◌-◌, ◌≤◌, ◌<◌, max, Bool, Option, Some, None, List, [], ◌∷◌, ◌++◌, fold, length, map, take, refl, sym, ap, subst, arith, append-nil, append_assoc}
use Rattle.std.proofs.lemmas.List.{map-append}
use Rattle.std.proofs.lemmas.List.Sums.{fold-append}
use Rattle.std.proofs.lemmas.Bool.Decides.{nat_tests}
use Rattle.std.specs.Prelude.{if◌then◌else◌, IsSome, option_map, unwrap_or, ◌==◌, nat_lt}
use Rattle.std.specs.List.{AllByRecursion}
use Rattle.std.specs.Str.{bytes_eq}
use Rattle.dbl_value_types.specs.declared.value.Val.{Val}
use Rattle.dbl_record.specs.declared.record.Record.{Record}
use Rattle.dbl_record.specs.Acts.{act_of, reading_of, cells_of}
use Rattle.dbl_record.specs.Consumers.{HeldCells, row_of, row_after_result, row_after as reading_after}
use Rattle.dbl_record.specs.Places.{Place, place_of}
use Rattle.dbl_record.specs.Reading.{as_line}
use Rattle.dbl_model_table.specs.declared.identity.Identity.{Identity}
use Rattle.dbl_model_table.specs.declared.row.Key.{Key}
use Rattle.dbl_model_table.specs.declared.row.Row.{Row}
use Rattle.dbl_model_table.specs.declared.table.TableInfo.{TableInfo}
use Rattle.dbl_model_table.specs.declared.change.Commit.{Commit}
use Rattle.dbl_model_table.specs.Tables.{column_names}
use Rattle.dbl_model_table.specs.Infos.{column_types, topic_of}
use Rattle.dbl_model_table.specs.Keys.{key_of}
use Rattle.dbl_model_table.specs.Rows.{Rows, no_rows, rows_from, changes_of}
use Rattle.dbl_model_table.proofs.Lists.{bool_case, text_itself, same_text}
use Rattle.dbl_model_history.specs.Fit.{IsKeyOf}
use Rattle.dbl_model_history.specs.FitsInfos.{AreCellsOf}
use Rattle.dbl_model_history.specs.Image.{members_of, key_text}
use Rattle.dbl_model_history.specs.Ranges.{IsCommitInRange, IsMomentInRange}
use Rattle.dbl_model_history.proofs.ImageLemmas.{key_one}
use Rattle.dbl_model_event.specs.declared.closed.Closed.{Closed}
use Rattle.dbl_model_event.specs.Snapshots.{progress_topic, read_record, read_records, progress_record, chunk_records}
use Rattle.dbl_model_event.specs.SnapshotLists.{IsSnapshot}
use Rattle.dbl_consume_laws.specs.Ages.{held_row, IsAgedCell}
use Rattle.dbl_consume_laws.specs.Moments.{changes_through}
use Rattle.dbl_consume_laws.proofs.Moments.{changes_through-most}
use Rattle.dbl_consume_laws.proofs.Acts.{act_read}
use Rattle.dbl_consume_laws.proofs.AgeingCells.{aged_wider}
use Rattle.dbl_consume_laws.proofs.Prints.{through_in_range}
use Rattle.dbl_consume_laws.proofs.Snapshot.{cells_in_range}
use Rattle.dbl_consume_laws.proofs.Wholes.{AllFit, all_fit_in_range}
use Rattle.dbl_consume_courses.specs.Versions.{Versioned, plain_commit, rows_through, rows_upto}
use Rattle.dbl_consume_courses.specs.AlteredTables.{version_moment, version_span_end, WasThereThrough}
use Rattle.dbl_consume_courses.specs.FitVersions.{AreFitFrom, AreFitVersions}
use Rattle.dbl_consume_courses.specs.RowsThere.{changes_in, HasRowsThere, PartsOfSnapshotsKeepRowsThere, RowsThereGoBack, RowsThereStayAsHistoriesGrow}
use Rattle.dbl_consume_courses.proofs.Alone.{not_of_table, flip_apart}
use Rattle.dbl_consume_courses.proofs.Presence.{held_mark, row_mark}
use Rattle.dbl_consume_courses.proofs.SameLemmas.{fit_at}
use Rattle.dbl_consume_courses.proofs.ThereLemmas.{changes_more, upto_none, named, unnamed, marked}

-- ---- earlier points

max_step : (to end x w : ℕ) → w ≤ max (max to x) end → x ≤ end → w ≤ max to end
max_step to end x w le in_end = omega (arith, le, in_end)

pub ends : (versions : List Versioned) (records : List Record) (from : ℕ) → from ≤ version_span_end versions records from
ends versions [] from = omega arith
ends versions (item ∷ records) from =
    first (max from (version_moment versions (place_of item))) from (version_moment versions (place_of item)) (version_span_end versions records (max from (version_moment versions (place_of item)))) refl (ends versions records (max from (version_moment versions (place_of item))))
  where
    first : (m a b w : ℕ) → m ≡ max a b → m ≤ w → a ≤ w
    first m a b w is le = omega (arith, is, le)

no_farther : (versions : List Versioned) (records : List Record) (from to : ℕ) → from ≤ to → version_span_end versions records to ≤ max to (version_span_end versions records from)
no_farther versions [] from to le = omega arith
no_farther versions (item ∷ records) from to le =
    let x : ℕ = version_moment versions (place_of item) in
    let both : max from x ≤ max to x = omega (arith, le) in
    let rest : version_span_end versions records (max to x) ≤ max (max to x) (version_span_end versions records (max from x)) = no_farther versions records (max from x) (max to x) both in
    let reached : max from x ≤ version_span_end versions records (max from x) = ends versions records (max from x) in
    max_step to (version_span_end versions records (max from x)) x (version_span_end versions records (max to x)) rest (omega (arith, reached))

-- a row that was there from a point on which the records reach was so from an earlier one on
pub was_earlier : (versions : List Versioned) (records : List Record) (from to table : ℕ) (key : Key) → from ≤ to → to ≤ version_span_end versions records from
    → WasThereThrough versions to (version_span_end versions records to) table key → WasThereThrough versions from (version_span_end versions records from) table key
was_earlier versions records from to table key le reached w =
    let end : version_span_end versions records to ≤ max to (version_span_end versions records from) = no_farther versions records from to le in
    record { moment = w.moment; not_before = omega (arith, w.not_before, le); not_after = omega (arith, w.not_after, end, reached); present = w.present }

pub go_back : RowsThereGoBack
go_back identity infos versions records from to table le reached there = record {
  each = λ topic text key names some. was_earlier versions records from to table key le reached (there.each topic text key names some);
}

-- ---- one record more

held_one : (identity : Identity) (topic text : List ℕ) (records : List Record) (item : Record)
    → held_row identity (records ++ item ∷ []) topic text ≡ reading_after identity.placeholder topic text (held_row identity records topic text) (reading_of (as_line item))
held_one identity topic text records item =
    ap (λ (l : List _). fold (reading_after identity.placeholder topic text) None (map reading_of l)) (map-append as_line records (item ∷ []))
    ∙ (ap (fold (reading_after identity.placeholder topic text) None) (map-append reading_of (map as_line records) (as_line item ∷ []))
    ∙ fold-append (reading_after identity.placeholder topic text) None (map reading_of (map as_line records)) (reading_of (as_line item) ∷ []))

wider_end : (versions : List Versioned) (records : List Record) (item : Record) (from : ℕ) → version_span_end versions records from ≤ version_span_end versions (records ++ item ∷ []) from
wider_end versions records item from =
    let parted : version_span_end versions (records ++ item ∷ []) from ≡ max (version_span_end versions records from) (version_moment versions (place_of item)) =
    fold-append (λ (far : ℕ) (x : Record). max far (version_moment versions (place_of x))) from records (item ∷ []) in
    omega (arith, parted)

any_there : (life : ℕ → Option (List ℕ)) (base end : ℕ) (held : Option HeldCells) → base ≤ end → life base ≡ Some [] → IsAgedCell ⊥ life base end (held_mark held)
any_there life base end None le is = λ no. absurd no
any_there life base end (Some cells) le is = record { moment = base; not_before = omega arith; not_after = le; is = is }

-- ---- the records of a window

module _ (identity : Identity) (versions : List Versioned) (base t : ℕ) (commit : Commit) (range : IsCommitInRange commit) (now : ℤ) (in_time : IsMomentInRange now) (info : TableInfo) (key : Key) (is_key : IsKeyOf info key) where
  abbrev topic : List ℕ
  topic = topic_of identity info

  abbrev text : List ℕ
  text = key_text info key

  abbrev life : ℕ → Option (List ℕ)
  life m = row_mark (rows_upto no_rows versions m t key)

  abbrev AgedHere : List Record → Type 0
  AgedHere records = IsAgedCell ⊥ life base (version_span_end versions records base) (held_mark (held_row identity records topic text))

  -- a record leaves the row, or the source has one
  abbrev Fine : Record → Type 0
  Fine item = ((held : Option HeldCells) → reading_after identity.placeholder topic text held (reading_of (as_line item)) ≡ held) ⊎ (life base ≡ Some [])

  one_more : (records : List Record) (item : Record) → Fine item → AgedHere records → AgedHere (records ++ item ∷ [])
  one_more records item (inl leaves) aged =
      let same : held_row identity (records ++ item ∷ []) topic text ≡ held_row identity records topic text = held_one identity topic text records item ∙ leaves (held_row identity records topic text) in
      let end : ℕ = version_span_end versions (records ++ item ∷ []) base in
      subst (λ (h : Option HeldCells). IsAgedCell ⊥ life base end (held_mark h)) (sym same)
      (aged_wider ⊥ ⊥ life base base (version_span_end versions records base) end (held_mark (held_row identity records topic text)) (λ no. inl no) (omega arith) (wider_end versions records item base) aged)
  one_more records item (inr there) aged =
      any_there life base (version_span_end versions (records ++ item ∷ []) base) (held_row identity (records ++ item ∷ []) topic text) (ends versions (records ++ item ∷ []) base) there

  abbrev pub IsGood : Key × Row → Type 0
  IsGood entry = IsKeyOf info entry.0 × AllFit entry.0.cells × AllFit entry.1.cells × IsSome (rows_upto no_rows versions base t entry.0)

  row_fine : (ordinal : ℕ) (entry : Key × Row) → IsGood entry → Fine (read_record identity info commit now ordinal entry)
  row_fine ordinal entry good = elim (bool_case (bytes_eq (key_text info entry.0) (key_text info key))) [
    | inl same ↦ (
        let one : entry.0 ≡ key = key_one info entry.0 key good.0 is_key (same_text (key_text info entry.0) (key_text info key) same) in
        inr (subst (λ (k : Key). row_mark (rows_upto no_rows versions base t k) ≡ Some []) one (marked (rows_upto no_rows versions base t entry.0) good.3)))
    | inr other ↦ inl (λ held.
        ap (λ (b : Bool). if b then row_after_result (act_of identity.placeholder (reading_of (as_line (read_record identity info commit now ordinal entry)))) text held else held) (text_itself topic)
        ∙ (ap (λ r. row_after_result r text held) (act_read identity commit now range in_time info entry.0 entry.1 good.1 good.2)
        ∙ ap (λ (b : Bool). if b then Some (row_of held (cells_of identity.placeholder (members_of (column_names info.columns) entry.1.cells))) else held) other))
  ]

  report_fine : (last : ℕ) (through : Option Key) (done : Bool) → Fine (progress_record identity info commit last through done)
  report_fine last through done = inl (λ held.
      ap (λ (b : Bool). if b then row_after_result (act_of identity.placeholder (reading_of (as_line (progress_record identity info commit last through done)))) text held else held)
      (flip_apart identity info topic (progress_topic identity) (not_of_table identity info)))

  pub chunk_there : (through : Option Key) (done : Bool) (last : ℕ) (rows : List (Key × Row)) → AllByRecursion IsGood rows → (ordinal n : ℕ) (records : List Record) → AgedHere records
      → AgedHere (records ++ take n (read_records identity info commit now ordinal rows ++ progress_record identity info commit last through done ∷ []))
  chunk_there through done last rows good ordinal zero records aged = subst AgedHere (sym (append-nil records)) aged
  chunk_there through done last [] good ordinal (suc zero) records aged = one_more records (progress_record identity info commit last through done) (report_fine last through done) aged
  chunk_there through done last [] good ordinal (suc (suc n)) records aged = one_more records (progress_record identity info commit last through done) (report_fine last through done) aged
  chunk_there through done last (entry ∷ rows) good ordinal (suc n) records aged =
      let item : Record = read_record identity info commit now ordinal entry in
      subst AgedHere (append_assoc records (item ∷ []) (take n (read_records identity info commit now (ordinal + 1) rows ++ progress_record identity info commit last through done ∷ [])))
      (chunk_there through done last rows good.1 (ordinal + 1) n (records ++ item ∷ []) (one_more records item (row_fine ordinal entry good.0) aged))

good_rows : (versions : List Versioned) (base t : ℕ) (identity : Identity) (commit : Commit) (range : IsCommitInRange commit) (now : ℤ) (in_time : IsMomentInRange now) (info : TableInfo) (key : Key) (is_key : IsKeyOf info key) (rows : List (Key × Row))
    → AllByRecursion (λ e. AreCellsOf (column_types info) e.1.cells × (key_of info e.1.cells ≡ e.0)) rows → AllByRecursion (λ e. IsKeyOf info e.0) rows
    → AllByRecursion (λ e. IsSome (rows_upto no_rows versions base t e.0)) rows → AllByRecursion (IsGood identity versions base t commit range now in_time info key is_key) rows
good_rows versions base t identity commit range now in_time info key is_key [] fits keys there = tt
good_rows versions base t identity commit range now in_time info key is_key (entry ∷ rows) fits keys there = (
  (keys.0, all_fit_in_range entry.0.cells (through_in_range info (Some entry.0) keys.0), all_fit_in_range entry.1.cells (cells_in_range (column_types info) entry.1.cells fits.0.0), there.0),
  good_rows versions base t identity commit range now in_time info key is_key rows fits.1 keys.1 there.1,
)

window_there : (identity : Identity) (infos : List TableInfo) (earlier : List Versioned) (mark : Versioned) (later : List Versioned) (closed : Closed) (records listed : List Record) (now : ℤ) (n : ℕ) → AreFitVersions infos (earlier ++ mark ∷ later) → IsMomentInRange now
    → IsSnapshot identity mark.infos closed (plain_commit mark) now listed → AllByRecursion (λ entry. IsSome (rows_upto no_rows (earlier ++ mark ∷ later) (changes_in earlier) closed.table entry.0)) closed.rows
    → HasRowsThere identity infos (earlier ++ mark ∷ later) records (changes_in earlier) closed.table → HasRowsThere identity infos (earlier ++ mark ∷ later) (records ++ take n listed) (changes_in earlier) closed.table
window_there identity infos earlier mark later closed records listed now n valid in_time is rows there =
    let versions : List Versioned = earlier ++ mark ∷ later in
    let range : IsCommitInRange (plain_commit mark) = (fit_at no_rows earlier mark later valid.fit).in_range in
    let listed_is : listed ≡ chunk_records identity is.info closed.rows closed.through closed.done (plain_commit mark) now =
    is.records_are ∙ ap (λ (o : Option TableInfo). unwrap_or (option_map (λ i. chunk_records identity i closed.rows closed.through closed.done (plain_commit mark) now) o) []) is.captured in
    named identity infos earlier mark later valid now in_time closed.table (changes_in earlier) (records ++ take n listed) (λ info captured key is_key. (
    let one : Some info ≡ Some is.info = sym captured ∙ is.captured in
    let info_is : info ≡ is.info = cc in
    let own_key : IsKeyOf is.info key = subst (λ (i : TableInfo). IsKeyOf i key) info_is is_key in
    let good = good_rows versions (changes_in earlier) closed.table identity (plain_commit mark) range now in_time is.info key own_key closed.rows is.fits.rows is.keys rows in
    subst (λ (i : TableInfo). IsAgedCell ⊥ (λ m. row_mark (rows_upto no_rows versions m closed.table key)) (changes_in earlier) (version_span_end versions (records ++ take n listed) (changes_in earlier)) (held_mark (held_row identity (records ++ take n listed) (topic_of identity i) (key_text i key)))) (sym info_is)
    (subst (λ (l : List Record). IsAgedCell ⊥ (λ m. row_mark (rows_upto no_rows versions m closed.table key)) (changes_in earlier) (version_span_end versions (records ++ take n l) (changes_in earlier)) (held_mark (held_row identity (records ++ take n l) (topic_of identity is.info) (key_text is.info key)))) (sym listed_is)
    (chunk_there identity versions (changes_in earlier) closed.table (plain_commit mark) range now in_time is.info key own_key closed.through closed.done (length closed.rows) closed.rows good 0 n records
    (unnamed identity infos earlier mark later valid now in_time closed.table (changes_in earlier) records there is.info is.captured key own_key)))))

pub snapshots_keep_there : PartsOfSnapshotsKeepRowsThere
snapshots_keep_there identity infos versions earlier mark later closed records listed now n valid spelled in_time is rows there =
    subst (λ (l : List Versioned). HasRowsThere identity infos l (records ++ take n listed) (changes_in earlier) closed.table) (sym spelled)
    (window_there identity infos earlier mark later closed records listed now n (subst (AreFitVersions infos) spelled valid) in_time is
    (subst (λ (l : List Versioned). AllByRecursion (λ entry. IsSome (rows_upto no_rows l (changes_in earlier) closed.table entry.0)) closed.rows) spelled rows)
    (subst (λ (l : List Versioned). HasRowsThere identity infos l records (changes_in earlier) closed.table) spelled there))

-- ---- a longer history

not_lt : (a b : ℕ) → b ≤ a → nat_lt a b ≡ false
not_lt a b le = grind (arith, nat_tests)

not_eq : (a b : ℕ) → b < a → (a == b) ≡ false
not_eq a b lt = grind (arith, nat_tests)

pub place_longer : (versions later : List Versioned) (place : Place) → AllByRecursion (λ v. place.0 < v.lsn.0) later → version_moment (versions ++ later) place ≡ version_moment versions place
place_longer [] [] place late = refl
place_longer [] (v ∷ later) place late =
    ap (λ (b : Bool). if b then length (changes_of (plain_commit v)) + version_moment later place else (if v.lsn.0 == place.0 then changes_through v.infos (changes_of (plain_commit v)) place.1 else 0)) (not_lt v.lsn.0 place.0 (lt_le place.0 v.lsn.0 late.0))
    ∙ ap (λ (b : Bool). if b then changes_through v.infos (changes_of (plain_commit v)) place.1 else 0) (not_eq v.lsn.0 place.0 late.0)
  where
    lt_le : (a b : ℕ) → a < b → a ≤ b
    lt_le a b lt = omega (arith, lt)
place_longer (x ∷ versions) later place late =
    ap (λ (m : ℕ). if nat_lt x.lsn.0 place.0 then length (changes_of (plain_commit x)) + m else (if x.lsn.0 == place.0 then changes_through x.infos (changes_of (plain_commit x)) place.1 else 0)) (place_longer versions later place late)

span_longer : (versions later : List Versioned) (records : List Record) (from : ℕ) → AllByRecursion (λ item. AllByRecursion (λ v. item.position < v.lsn.0) later) records → version_span_end (versions ++ later) records from ≡ version_span_end versions records from
span_longer versions later [] from late = refl
span_longer versions later (item ∷ records) from late =
    span_longer versions later records (max from (version_moment (versions ++ later) (place_of item))) late.1
    ∙ ap (λ (m : ℕ). version_span_end versions records (max from m)) (place_longer versions later (place_of item) late.0)

pick_most : (x y : Bool) (a b w : ℕ) → a ≤ w → b ≤ w → (if x then a else (if y then b else 0)) ≤ w
pick_most true y a b w one two = one
pick_most false true a b w one two = two
pick_most false false a b w one two = omega arith

pub place_most : (versions : List Versioned) (place : Place) → version_moment versions place ≤ changes_in versions
place_most [] place = omega arith
place_most (x ∷ versions) place =
    let size : changes_in (x ∷ versions) ≡ length (changes_of (plain_commit x)) + changes_in versions = changes_more x versions in
    let rest : version_moment versions place ≤ changes_in versions = place_most versions place in
    let through : changes_through x.infos (changes_of (plain_commit x)) place.1 ≤ length (changes_of (plain_commit x)) = changes_through-most x.infos (changes_of (plain_commit x)) place.1 in
    pick_most (nat_lt x.lsn.0 place.0) (x.lsn.0 == place.0) (length (changes_of (plain_commit x)) + version_moment versions place) (changes_through x.infos (changes_of (plain_commit x)) place.1) (changes_in (x ∷ versions))
    (omega (arith, size, rest)) (omega (arith, size, through))

pub span_most : (versions : List Versioned) (records : List Record) (from : ℕ) → from ≤ changes_in versions → version_span_end versions records from ≤ changes_in versions
span_most versions [] from le = le
span_most versions (item ∷ records) from le = span_most versions records (max from (version_moment versions (place_of item))) (least from (version_moment versions (place_of item)) (changes_in versions) le (place_most versions (place_of item)))
  where
    least : (a b n : ℕ) → a ≤ n → b ≤ n → max a b ≤ n
    least a b n one two = omega (arith, one, two)

rows_longer : (rows : Rows) (versions later : List Versioned) (m table : ℕ) (key : Key) → m ≤ changes_in versions → AreFitFrom rows (versions ++ later) → row_mark (rows_upto rows (versions ++ later) m table key) ≡ row_mark (rows_upto rows versions m table key)
rows_longer rows [] later m table key le fit =
    let none : m ≡ 0 = zero_of m le in
    ap (λ (n : ℕ). row_mark (rows_upto rows later n table key)) none ∙ upto_none rows later table key fit
  where
    zero_of : (n : ℕ) → n ≤ 0 → n ≡ 0
    zero_of n le = omega (arith, le)
rows_longer rows (x ∷ versions) later m table key le fit =
    let size : changes_in (x ∷ versions) ≡ length (changes_of (plain_commit x)) + changes_in versions = changes_more x versions in
    let rest : m - length (changes_of (plain_commit x)) ≤ changes_in versions = omega (arith, le, size) in
    by (nat_lt m (length (changes_of (plain_commit x)))) (rows_longer (rows_through rows x) versions later (m - length (changes_of (plain_commit x))) table key rest fit.1)
  where
    by : (b : Bool) → row_mark (rows_upto (rows_through rows x) (versions ++ later) (m - length (changes_of (plain_commit x))) table key) ≡ row_mark (rows_upto (rows_through rows x) versions (m - length (changes_of (plain_commit x))) table key)
        → row_mark ((if b then rows_from x.infos rows (take m (changes_of (plain_commit x))) else rows_upto (rows_through rows x) (versions ++ later) (m - length (changes_of (plain_commit x)))) table key)
        ≡ row_mark ((if b then rows_from x.infos rows (take m (changes_of (plain_commit x))) else rows_upto (rows_through rows x) versions (m - length (changes_of (plain_commit x)))) table key)
    by true before = refl
    by false before = before

pub some_by_mark : (a b : Option (List Val)) → row_mark a ≡ row_mark b → IsSome b → IsSome a
some_by_mark None None same some = some
some_by_mark None (Some y) same some = cc
some_by_mark (Some x) b same some = refl

-- a row that was there is so in a longer history
pub was_longer : (infos : List TableInfo) (versions later : List Versioned) (records : List Record) (from table : ℕ) (key : Key) → AreFitVersions infos (versions ++ later)
    → AllByRecursion (λ item. AllByRecursion (λ v. item.position < v.lsn.0) later) records → from ≤ changes_in versions
    → WasThereThrough versions from (version_span_end versions records from) table key → WasThereThrough (versions ++ later) from (version_span_end (versions ++ later) records from) table key
was_longer infos versions later records from table key valid above low w =
    let end : version_span_end (versions ++ later) records from ≡ version_span_end versions records from = span_longer versions later records from above in
    let most : version_span_end versions records from ≤ changes_in versions = span_most versions records from low in
    let same : row_mark (rows_upto no_rows (versions ++ later) w.moment table key) ≡ row_mark (rows_upto no_rows versions w.moment table key) =
    rows_longer no_rows versions later w.moment table key (omega (arith, w.not_after, most)) valid.fit in
    record { moment = w.moment; not_before = w.not_before; not_after = subst (λ (e : ℕ). w.moment ≤ e) (sym end) w.not_after; present = some_by_mark (rows_upto no_rows (versions ++ later) w.moment table key) (rows_upto no_rows versions w.moment table key) same w.present }

pub there_stays : RowsThereStayAsHistoriesGrow
there_stays identity infos versions later records from table valid above low there = record {
  each = λ topic text key names some. was_longer infos versions later records from table key valid above low (there.each topic text key names some);
}
