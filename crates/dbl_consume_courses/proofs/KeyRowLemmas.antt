-- Each row of a consumer of a whole log is at a key of its table, with a cell in each key column.
use Rattle.std.proofs.Common.{◌≡◌, ◌∙◌, ◌⊎◌, inl, inr, ℕ, ℤ, zero, suc, ◌+◌, ◌<◌, Bool, true, false, Option, Some, None, List, [], ◌∷◌, ◌++◌, fold, length, map, flat_map, take, refl, sym, ap, subst, arith, append_assoc}
use Rattle.std.proofs.lemmas.Bool.{cases_eq}
use Rattle.std.proofs.lemmas.Bool.Decides.{Decides-ltb}
use Rattle.std.proofs.lemmas.List.{map-append, length-map}
use Rattle.std.proofs.lemmas.List.Sums.{fold-append}
use Rattle.std.specs.Prelude.{if◌then◌else◌, nat_lt, is_some, IsSome, Result, Ok, Err, option_map, option_and_then, slice_get}
use Rattle.std.specs.List.{AllByRecursion, list_all}
use Rattle.std.specs.Str.{bytes_eq}
use Rattle.serde_json.specs.Data.{object}
use Rattle.serde_json.specs.Written.{compact_text}
use Rattle.dbl_value_types.specs.declared.column_type.PgType.{PgType}
use Rattle.dbl_value_types.specs.declared.value.Val.{Val}
use Rattle.dbl_record.specs.declared.acts.Act.{Act}
use Rattle.dbl_record.specs.declared.acts.Act.TheVariants.{Nothing, Set, Remove, Wipe}
use Rattle.dbl_record.specs.declared.acts.ConsumeError.{ConsumeError}
use Rattle.dbl_record.specs.declared.acts.HeldCell.{HeldCell}
use Rattle.dbl_record.specs.declared.acts.HeldCell.TheVariants.{Known, Unknown}
use Rattle.dbl_record.specs.declared.record.Record.{Record}
use Rattle.dbl_record.specs.Acts.{Reading, reading_of, act_of}
use Rattle.dbl_record.specs.Consumers.{HeldCells, held_at, held_now, row_of, row_after_act, row_after_result, row_after as reading_after}
use Rattle.dbl_record.specs.Reading.{as_line}
use Rattle.dbl_model_table.specs.declared.identity.Identity.{Identity}
use Rattle.dbl_model_table.specs.declared.row.Key.{Key}
use Rattle.dbl_model_table.specs.declared.table.RawRow.{RawRow}
use Rattle.dbl_model_table.specs.declared.table.TableInfo.{TableInfo}
use Rattle.dbl_model_table.specs.declared.change.Change.{Change}
use Rattle.dbl_model_table.specs.declared.change.Commit.{Commit}
use Rattle.dbl_model_table.specs.Tables.{column_names}
use Rattle.dbl_model_table.specs.Infos.{name_at, key_names, key_types, column_of, columns_of, topic_of, width}
use Rattle.dbl_model_table.specs.Rows.{Rows, no_rows, rows, changes_of}
use Rattle.dbl_model_table.proofs.Lists.{and_left, and_right, is_some-position_from}
use Rattle.dbl_model_table.proofs.InfoLemmas.{sound_key, places_within, has_name, topic_one}
use Rattle.dbl_model_history.specs.History.{AreRising}
use Rattle.dbl_model_history.specs.Fit.{AreOf}
use Rattle.dbl_model_history.specs.Image.{Names, image_at, members_of, row_json_texts}
use Rattle.dbl_model_history.specs.Laws.{AreDistinctTables}
use Rattle.dbl_model_history.specs.Ranges.{IsMomentInRange}
use Rattle.dbl_model_history.specs.WholeChanges.{IsTouched}
use Rattle.dbl_model_history.proofs.ImageLemmas.{table_one}
use Rattle.dbl_model_history.proofs.MomentLemmas.{lsns}
use Rattle.dbl_model_history.proofs.RowKeys.{keyed_at}
use Rattle.dbl_model_event.specs.Events.{Event, events_of, notices, numbered}
use Rattle.dbl_model_event.specs.EventJson.{print, envelopes}
use Rattle.dbl_consume_laws.specs.Cells.{set_at}
use Rattle.dbl_consume_laws.specs.ChangeLaws.{IsRecordOf}
use Rattle.dbl_consume_laws.specs.Commits.{AreFitCommits}
use Rattle.dbl_consume_laws.specs.Ages.{held_row, held_cell, source_cell, IsNamedRow, HasNamedRows}
use Rattle.dbl_consume_laws.proofs.AgeingNames.{no_records_are_named, events_keep_names, snapshots_keep_names}
use Rattle.dbl_consume_laws.proofs.Cells.{row_cell}
use Rattle.dbl_consume_laws.proofs.Effects.{text_in, image-text}
use Rattle.dbl_consume_laws.proofs.Lists.{all_take}
use Rattle.dbl_consume_laws.proofs.Rows.{wide_cell}
use Rattle.dbl_consume_courses.specs.Versions.{Alteration, Versioned, plain_commit, IsAlike, FollowsInfos, AreVersionsFrom}
use Rattle.dbl_consume_courses.specs.Courses.{Course, ticked_commit, alteration_of, first_course, infos_after}
use Rattle.dbl_consume_courses.specs.AlteredTables.{course_changes, IsKnownIn, IsTableAged}
use Rattle.dbl_consume_courses.specs.FitVersions.{AreFitVersions}
use Rattle.dbl_consume_courses.specs.Growth.{course_of, own_span_end, IsVersionAmong}
use Rattle.dbl_consume_courses.specs.CourseAges.{AgreesWithin, own_from}
use Rattle.dbl_consume_courses.specs.KeyRows.{IsRowOfKey, HasRowsOfKeys, NoRecordsHaveRowsOfKeys, PartsOfCommitsKeepRowsOfKeys, PartsOfSnapshotsKeepRowsOfKeys, AlteredTablesHaveRows}
use Rattle.dbl_consume_courses.proofs.Alone.{all_weaker, rows_like, like_take}
use Rattle.dbl_consume_courses.proofs.AlteredLemmas.{altered}
use Rattle.dbl_consume_courses.proofs.CourseLemmas.{infos_from}
use Rattle.dbl_consume_courses.proofs.FitLemmas.{rising_end, are_fit}
use Rattle.dbl_consume_courses.proofs.GrowthLemmas.{lsns_append, fit_versions_left, next, records_alike}
use Rattle.dbl_consume_courses.proofs.NameLemmas.{names_before}
use Rattle.dbl_consume_courses.proofs.SameLemmas.{infos_distinct, fit_at}
use Rattle.dbl_consume_courses.proofs.TableRepeats.{silent_of, follows_at}
use Rattle.dbl_consume_courses.proofs.TickLemmas.{topic_by}

-- ---- what some records leave of a row doesn't go by what it was, or is what it was

-- whether two rows have cells in the same columns, or there is none
abbrev SameShape : Option HeldCells → Option HeldCells → Type 0
SameShape None None = Unit {0}
SameShape None (Some b) = ⊥
SameShape (Some a) None = ⊥
SameShape (Some a) (Some b) = (column : List ℕ) → is_some (held_at (Some a) column) ≡ is_some (held_at (Some b) column)

shape_sym : (a b : Option HeldCells) → SameShape a b → SameShape b a
shape_sym None None same = tt
shape_sym None (Some b) same = elim same [ ]
shape_sym (Some a) None same = elim same [ ]
shape_sym (Some a) (Some b) same = λ column. sym (same column)

shape_trans : (a b c : Option HeldCells) → SameShape a b → SameShape b c → SameShape a c
shape_trans None None c one two = two
shape_trans None (Some b) c one two = elim one [ ]
shape_trans (Some a) None c one two = elim one [ ]
shape_trans (Some a) (Some b) None one two = elim two [ ]
shape_trans (Some a) (Some b) (Some c) one two = λ column. one column ∙ two column

abbrev KeepsOrSets : (Option HeldCells → Option HeldCells) → Type 0
KeepsOrSets f = ((held : Option HeldCells) → f held ≡ held) ⊎ ((held : Option HeldCells) → SameShape (f held) (f None))

some_both : {X Y : Type 0} (f g : X → Y) (o : Option X) → is_some (option_map f o) ≡ is_some (option_map g o)
some_both f g None = refl
some_both f g (Some x) = refl

act_does : (done : Act) (text : List ℕ) → KeepsOrSets (λ held. row_after_act done text held)
act_does Nothing text = inl (λ held. refl)
act_does (Set at cells) text = by (bytes_eq at text)
  where
    by : (b : Bool) → KeepsOrSets (λ held. if b then Some (row_of held cells) else held)
    by true = inr (λ held column. ap (λ (o : Option HeldCell). is_some o) (row_cell held cells column) ∙ (some_both (held_now held column) (held_now None column) (set_at cells column) ∙ sym (ap (λ (o : Option HeldCell). is_some o) (row_cell None cells column))))
    by false = inl (λ held. refl)
act_does (Remove at) text = by (bytes_eq at text)
  where
    by : (b : Bool) → KeepsOrSets (λ held. if b then None else held)
    by true = inr (λ held. tt)
    by false = inl (λ held. refl)
act_does Wipe text = inr (λ held. tt)

result_does : (result : Result Act ConsumeError) (text : List ℕ) → KeepsOrSets (λ held. row_after_result result text held)
result_does (Ok done) text = act_does done text
result_does (Err error) text = inl (λ held. refl)

reading_does : (placeholder topic text : List ℕ) (r : Reading) → KeepsOrSets (λ held. reading_after placeholder topic text held r)
reading_does placeholder topic text r = by (bytes_eq r.topic topic)
  where
    by : (b : Bool) → KeepsOrSets (λ held. if b then row_after_result (act_of placeholder r) text held else held)
    by true = result_does (act_of placeholder r) text
    by false = inl (λ held. refl)

readings_do : (placeholder topic text : List ℕ) (rs : List Reading) → KeepsOrSets (λ held. fold (reading_after placeholder topic text) held rs)
readings_do placeholder topic text [] = inl (λ held. refl)
readings_do placeholder topic text (r ∷ rs) = by (reading_does placeholder topic text r) (readings_do placeholder topic text rs)
  where
    by : KeepsOrSets (λ held. reading_after placeholder topic text held r) → KeepsOrSets (λ held. fold (reading_after placeholder topic text) held rs) → KeepsOrSets (λ held. fold (reading_after placeholder topic text) (reading_after placeholder topic text held r) rs)
    by (inl first) (inl rest) = inl (λ held. rest (reading_after placeholder topic text held r) ∙ first held)
    by (inl first) (inr rest) = inr (λ held.
        subst (λ (h : Option HeldCells). SameShape (fold (reading_after placeholder topic text) h rs) (fold (reading_after placeholder topic text) (reading_after placeholder topic text None r) rs)) (sym (first held))
        (subst (λ (h : Option HeldCells). SameShape (fold (reading_after placeholder topic text) held rs) (fold (reading_after placeholder topic text) h rs)) (sym (first None)) (rest held)))
    by (inr first) (inl rest) = inr (λ held.
        subst (λ (h : Option HeldCells). SameShape h (fold (reading_after placeholder topic text) (reading_after placeholder topic text None r) rs)) (sym (rest (reading_after placeholder topic text held r)))
        (subst (λ (h : Option HeldCells). SameShape (reading_after placeholder topic text held r) h) (sym (rest (reading_after placeholder topic text None r))) (first held)))
    by (inr first) (inr rest) = inr (λ held.
        shape_trans (fold (reading_after placeholder topic text) (reading_after placeholder topic text held r) rs) (fold (reading_after placeholder topic text) None rs) (fold (reading_after placeholder topic text) (reading_after placeholder topic text None r) rs)
        (rest (reading_after placeholder topic text held r))
        (shape_sym (fold (reading_after placeholder topic text) (reading_after placeholder topic text None r) rs) (fold (reading_after placeholder topic text) None rs) (rest (reading_after placeholder topic text None r))))

pub held_parts : (identity : Identity) (topic text : List ℕ) (records more : List Record)
    → held_row identity (records ++ more) topic text ≡ fold (reading_after identity.placeholder topic text) (held_row identity records topic text) (map reading_of (map as_line more))
held_parts identity topic text records more =
    ap (λ (l : List _). fold (reading_after identity.placeholder topic text) None (map reading_of l)) (map-append as_line records more)
    ∙ (ap (fold (reading_after identity.placeholder topic text) None) (map-append reading_of (map as_line records) (map as_line more))
    ∙ fold-append (reading_after identity.placeholder topic text) None (map reading_of (map as_line records)) (map reading_of (map as_line more)))

-- ---- rows of keys of both parts are so of the whole

shaped_row : (identity : Identity) (infos : List TableInfo) (table : ℕ) (topic text : List ℕ) (a b : HeldCells) → SameShape (Some a) (Some b) → IsRowOfKey identity infos table topic text b → IsRowOfKey identity infos table topic text a
shaped_row identity infos table topic text a b same row = record {
  key = row.key;
  names = row.names;
  columns = all_weaker (λ (column : List ℕ). IsSome (held_at (Some b) column)) (λ (column : List ℕ). IsSome (held_at (Some a) column)) (λ column some. same column ∙ some) (key_names row.names.info) row.columns;
}

both_parts : (identity : Identity) (infos : List TableInfo) (table : ℕ) (records more : List Record) → HasRowsOfKeys identity infos records table → HasRowsOfKeys identity infos more table → HasRowsOfKeys identity infos (records ++ more) table
both_parts identity infos table records more first rest = record {
  each = λ info captured text cells is. by info captured text cells (readings_do identity.placeholder (topic_of identity info) text (map reading_of (map as_line more)))
      (held_row identity more (topic_of identity info) text) refl (sym (held_parts identity (topic_of identity info) text records more) ∙ is);
}
  where
    by : (info : TableInfo) → slice_get infos table ≡ Some info → (text : List ℕ) (cells : HeldCells) → KeepsOrSets (λ held. fold (reading_after identity.placeholder (topic_of identity info) text) held (map reading_of (map as_line more)))
        → (o : Option HeldCells) → held_row identity more (topic_of identity info) text ≡ o
        → fold (reading_after identity.placeholder (topic_of identity info) text) (held_row identity records (topic_of identity info) text) (map reading_of (map as_line more)) ≡ Some cells
        → IsRowOfKey identity infos table (topic_of identity info) text cells
    by info captured text cells (inl stays) o own is = first.each info captured text cells (sym (stays (held_row identity records (topic_of identity info) text)) ∙ is)
    by info captured text cells (inr sets) None own is =
        let shape : SameShape (Some cells) None = subst (λ (h : Option HeldCells). SameShape h None) is (subst (SameShape (fold (reading_after identity.placeholder (topic_of identity info) text) (held_row identity records (topic_of identity info) text) (map reading_of (map as_line more)))) own (sets (held_row identity records (topic_of identity info) text))) in
        absurd shape
    by info captured text cells (inr sets) (Some made) own is =
        let shape : SameShape (Some cells) (Some made) = subst (λ (h : Option HeldCells). SameShape h (Some made)) is (subst (SameShape (fold (reading_after identity.placeholder (topic_of identity info) text) (held_row identity records (topic_of identity info) text) (map reading_of (map as_line more)))) own (sets (held_row identity records (topic_of identity info) text))) in
        shaped_row identity infos table (topic_of identity info) text cells made shape (rest.each info captured text made own)

-- ---- the table in other columns

alike_one : (table : ℕ) (old : List TableInfo) (v : Versioned) (o : Option Alteration) (a : TableInfo) → FollowsInfos old v o → slice_get old table ≡ Some a → (b : TableInfo) × (slice_get v.infos table ≡ Some b) × IsAlike a b
alike_one table old v None a follows at = (a, ap (λ (l : List TableInfo). slice_get l table) follows ∙ at, record { name = refl; keys = refl; types = refl })
alike_one table old v (Some alteration) a alters at = elim (cases_eq table alteration.table) [
  | inl same ↦ (
      let own : Some a ≡ Some alters.before = sym at ∙ (ap (slice_get old) same ∙ alters.was) in
      let a_is : a ≡ alters.before = cc in
      (alters.info, ap (slice_get v.infos) same ∙ alters.is, subst (λ (x : TableInfo). IsAlike x alters.info) (sym a_is) alters.alike))
  | inr apart ↦ (a, alters.others table apart ∙ at, record { name = refl; keys = refl; types = refl })
]

alike_all : (table : ℕ) (old : List TableInfo) (vs : List Versioned) (a : TableInfo) → AreVersionsFrom old vs → slice_get old table ≡ Some a → (b : TableInfo) × (slice_get (infos_after old vs) table ≡ Some b) × IsAlike a b
alike_all table old [] a follow at = (a, at, record { name = refl; keys = refl; types = refl })
alike_all table old (v ∷ vs) a follow at =
    let one = alike_one table old v v.altered a follow.0 at in
    let rest = alike_all table v.infos vs one.0 follow.1 one.1 in
    (rest.0, rest.1, record { name = one.2.name ∙ rest.2.name; keys = one.2.keys ∙ rest.2.keys; types = one.2.types ∙ rest.2.types })

-- a key column is a column
key_columns_are : (info : TableInfo) → AllByRecursion (λ column. IsSome (column_of info.columns column)) (key_names info)
key_columns_are info = by info.key (places_within info)
  where
    by : (places : List ℕ) → list_all (λ place. nat_lt place (length info.columns)) places ≡ true → AllByRecursion (λ column. IsSome (column_of info.columns column)) (map (name_at info.columns) places)
    by [] within = tt
    by (place ∷ places) within =
        let lt : place < length info.columns = (Decides-ltb place (length info.columns)).0 (and_left (nat_lt place (length info.columns)) (list_all (λ p. nat_lt p (length info.columns)) places) within) in
        (is_some-position_from (bytes_eq (name_at info.columns place)) 0 (column_names info.columns) ∙ has_name info.columns place lt, by places (and_right (nat_lt place (length info.columns)) (list_all (λ p. nat_lt p (length info.columns)) places) within))

-- a row that is named in the columns in force at a commit is of a key of the table
of_named : (identity : Identity) (infos now : List TableInfo) (table : ℕ) (a b : TableInfo) (text : List ℕ) (cells : HeldCells) → AreDistinctTables now → slice_get infos table ≡ Some a → slice_get now table ≡ Some b → IsAlike a b
    → IsNamedRow identity now (topic_of identity a) text cells → IsRowOfKey identity infos table (topic_of identity a) text cells
of_named identity infos now table a b text cells apart captured is alike row =
    let topics : topic_of identity row.names.info ≡ topic_of identity b = row.names.topic_is ∙ topic_by identity a b alike.name in
    let same : row.table ≡ table = table_one now row.table table row.names.info b apart row.names.captured is (topic_one identity row.names.info b topics) in
    let own : Some row.names.info ≡ Some b = sym row.names.captured ∙ (ap (slice_get now) same ∙ is) in
    let info_is : row.names.info ≡ b = cc in
    let keys : key_names row.names.info ≡ key_names a = ap key_names info_is ∙ sym alike.keys in
    let types : key_types row.names.info ≡ key_types a = ap key_types info_is ∙ sym alike.types in
    record {
      key = row.key;
      names = record {
        info = a;
        captured = captured;
        is_key = subst (λ (l : List PgType). AreOf l row.key.cells) types row.names.is_key;
        topic_is = refl;
        text_is = ap (λ (l : List (List ℕ)). compact_text (object (members_of l row.key.cells))) (sym keys) ∙ row.names.text_is;
      };
      columns = subst (AllByRecursion (λ column. IsSome (held_at (Some cells) column))) keys
          (all_weaker (λ (column : List ℕ). IsSome (column_of row.names.info.columns column)) (λ (column : List ℕ). IsSome (held_at (Some cells) column)) row.columns (key_names row.names.info) (key_columns_are row.names.info));
    }

pub no_rows_of_keys : NoRecordsHaveRowsOfKeys
no_rows_of_keys identity infos table = record { each = λ info captured text cells is. cc }

-- ---- the records of a commit

slice_here : (done : List Event) (e : Event) (rest : List Event) → slice_get (done ++ e ∷ rest) (length done) ≡ Some e
slice_here [] e rest = refl
slice_here (d ∷ done) e rest = slice_here done e rest

records_of : (identity : Identity) (infos : List TableInfo) (commit : Commit) (now : ℤ) → IsMomentInRange now → (done rest : List Event) → events_of infos commit ≡ done ++ rest → AllByRecursion (IsRecordOf identity infos commit) (map (print identity commit now) rest)
records_of identity infos commit now in_time done [] is = tt
records_of identity infos commit now in_time done (e ∷ rest) is = (
  record { number = length done; event = e; stands = ap (λ (l : List Event). slice_get l (length done)) is ∙ slice_here done e rest; now = now; in_range = in_time; printed = refl },
  records_of identity infos commit now in_time (done ++ e ∷ []) rest (is ∙ sym (append_assoc done (e ∷ []) rest)),
)

module _ (identity : Identity) (infos : List TableInfo) (earlier : List Versioned) (v : Versioned) (later : List Versioned) (valid : AreFitVersions infos (earlier ++ v ∷ later)) (now : ℤ) (in_time : IsMomentInRange now) (table n : ℕ) where
  abbrev front : List Versioned
  front = earlier ++ v ∷ []

  front_valid : AreFitVersions infos front
  front_valid = fit_versions_left infos front later (subst (AreFitVersions infos) (sym (append_assoc earlier (v ∷ []) later)) valid)

  abbrev C : Course
  C = course_of infos 0 table front

  infos_are : C.infos ≡ infos_after infos front
  infos_are = infos_from table (first_course infos 0) front

  above : 0 < v.lsn.0
  above = (rising_end 0 (lsns (map plain_commit earlier)) (lsns (map plain_commit (v ∷ []))) (subst (AreRising 0) (lsns_append earlier (v ∷ [])) front_valid.rise)).0

  commit_rows : (o : Option (List RawRow)) → alteration_of table v.altered ≡ o → HasRowsOfKeys identity infos (take n (envelopes identity v.infos (plain_commit v) now)) table
  commit_rows (Some rows) is =
      let before = follows_at infos earlier v later valid.follow in
      let silent : changes_of (plain_commit v) ≡ [] = silent_of before.0 v v.altered table rows before.1 is in
      let none : take n (envelopes identity v.infos (plain_commit v) now) ≡ [] = ap (λ (l : List Change). take n (map (print identity (plain_commit v) now) (numbered v.lsn.0 0 (flat_map (notices v.infos) l)))) silent ∙ none_taken n in
      subst (λ (l : List Record). HasRowsOfKeys identity infos l table) (sym none) (no_rows_of_keys identity infos table)
    where
      none_taken : (k : ℕ) → take {A = Record} k [] ≡ []
      none_taken zero = refl
      none_taken (suc k) = refl
  commit_rows None is = record {
    each = λ info captured text cells held. (
        let found = alike_all table infos front info front_valid.follow captured in
        let own : slice_get C.infos table ≡ Some found.0 = ap (λ (l : List TableInfo). slice_get l table) infos_are ∙ found.1 in
        let among : IsVersionAmong infos front 0 table earlier v [] = record { fit = front_valid; spelled = refl; unaltered = (is, tt); after = above } in
        let tick : Commit = ticked_commit table v in
        let facts : AreFitCommits C.infos C.commits = are_fit infos front 0 table front_valid in
        let all : List Record = envelopes identity v.infos (plain_commit v) now in
        let ticked_all : List Record = envelopes identity C.infos tick now in
        let named : HasNamedRows identity C.infos (take n ticked_all) =
        events_keep_names identity C.infos C.commits (course_of infos 0 table earlier).commits tick [] [] (take n ticked_all) (next identity infos front 0 table earlier v [] among found.0 own)
        (all_take (IsRecordOf identity C.infos tick) n ticked_all (records_of identity C.infos tick now in_time [] (events_of C.infos tick) refl)) (no_records_are_named identity C.infos) in
        let topics : topic_of identity info ≡ topic_of identity found.0 = topic_by identity info found.0 found.2.name in
        let same : held_row identity (take n ticked_all) (topic_of identity info) text ≡ held_row identity (take n all) (topic_of identity info) text =
        subst (λ (t : List ℕ). held_row identity (take n ticked_all) t text ≡ held_row identity (take n all) t text) (sym topics)
        (rows_like identity found.0 text (take n ticked_all) (take n all) (like_take identity found.0 n ticked_all all (records_alike identity infos front 0 table earlier v [] among found.0 own now))) in
        of_named identity infos C.infos table info found.0 text cells facts.distinct captured own found.2 (named.each (topic_of identity info) text cells (same ∙ held)));
  }

pub parts_keep_rows_of_keys : PartsOfCommitsKeepRowsOfKeys
parts_keep_rows_of_keys identity infos versions earlier v later table records now n valid spelled in_time rows_of =
    both_parts identity infos table records (take n (envelopes identity v.infos (plain_commit v) now)) rows_of
    (commit_rows identity infos earlier v later (subst (AreFitVersions infos) spelled valid) now in_time table n (alteration_of table v.altered) refl)

pub snapshots_keep_rows_of_keys : PartsOfSnapshotsKeepRowsOfKeys
snapshots_keep_rows_of_keys identity infos versions earlier mark later table closed records listed now n valid spelled in_time is rows_of =
    let whole : AreFitVersions infos (earlier ++ mark ∷ later) = subst (AreFitVersions infos) spelled valid in
    let fit = fit_at no_rows earlier mark later whole.fit in
    let named : HasNamedRows identity mark.infos (take n listed) = snapshots_keep_names identity mark.infos closed (plain_commit mark) now [] listed n fit.in_range in_time is (no_records_are_named identity mark.infos) in
    let front : List Versioned = earlier ++ mark ∷ [] in
    let front_valid : AreFitVersions infos front = fit_versions_left infos front later (subst (AreFitVersions infos) (sym (append_assoc earlier (mark ∷ []) later)) whole) in
    let last : infos_after infos front ≡ mark.infos = fold-append (λ (old : List TableInfo) (v : Versioned). v.infos) infos earlier (mark ∷ []) in
    both_parts identity infos table records (take n listed) rows_of (record {
      each = λ info captured text cells held. (
          let found = alike_all table infos front info front_valid.follow captured in
          of_named identity infos mark.infos table info found.0 text cells (infos_distinct infos earlier mark later whole) captured (ap (λ (l : List TableInfo). slice_get l table) (sym last) ∙ found.1) found.2
          (named.each (topic_of identity info) text cells held));
    })

-- ---- rows of a consumer and of the source

first_of : {P : List ℕ → Type 0} (names : List (List ℕ)) → 0 < length names → AllByRecursion P names → (column : List ℕ) × P column
first_of [] some all = absurd (omega (arith, some))
first_of (name ∷ names) some all = (name, all.0)

has_key : (info : TableInfo) → 0 < length (key_names info)
has_key info =
    let sound = sound_key info in
    let some : nat_lt 0 (length info.key) ≡ true = and_left _ _ (and_left _ _ (and_left _ _ sound)) in
    subst (λ (n : ℕ). 0 < n) (sym (length-map info.key (name_at info.columns))) ((Decides-ltb 0 (length info.key)).0 some)

row_there : {X Y Z : Type 0} (f : X → Y) (g : Y → Option Z) (row : Option X) → IsSome (option_and_then g (option_map f row)) → IsSome row
row_there f g None some = cc
row_there f g (Some x) some = refl

cell_there : (life : ℕ → Option (List ℕ)) (from to : ℕ) (held : Option HeldCell) → AgreesWithin life from to held → IsSome held → IsSome (life to)
cell_there life from to None agrees some = cc
cell_there life from to (Some (Known text)) agrees some = agrees.0
cell_there life from to (Some Unknown) agrees some = absurd agrees

held_there : (life : ℕ → Option (List ℕ)) (from to : ℕ) (row : Option HeldCells) (column text : List ℕ) → AgreesWithin life from to (held_at row column) → life to ≡ Some text → IsSome row
held_there life from to None column text agrees is = cc
held_there life from to (Some cells) column text agrees is = refl

cell_is : (infos : List TableInfo) (at : Rows) (table : ℕ) (info : TableInfo) (key : Key) (column : List ℕ) (row : Option (List Val)) (text : List ℕ) → slice_get infos table ≡ Some info → at table key ≡ row → text_in info row column ≡ Some text
    → image_at infos at table key column ≡ Some text
cell_is infos at table info key column row text captured is there = image-text infos at table info key column captured ∙ (ap (λ (o : Option (List Val)). text_in info o column) is ∙ there)

module _ (identity : Identity) (infos : List TableInfo) (versions shown : List Versioned) (start table position : ℕ) (records : List Record) (valid : AreFitVersions infos shown)
    (aged : IsTableAged identity (course_of infos start table shown) versions records position table) (rows_of : HasRowsOfKeys identity infos records table)
    (topic text : List ℕ) (key : Key) (names : Names identity (course_of infos start table shown).infos topic text table key) where
  abbrev D : Course
  D = course_of infos start table shown

  abbrev from : ℕ
  from = own_from D position

  abbrev to : ℕ
  to = own_span_end D records from

  abbrev life : List ℕ → ℕ → Option (List ℕ)
  life column = source_cell D.infos (course_changes D) table key column

  module _ (known : IsKnownIn identity D records to table key) (none : IsTouched D.infos (course_changes D) from to table key → ⊥) where
    agree : (column : List ℕ) → AgreesWithin (life column) from to (held_cell identity records topic text column)
    agree column = altered identity D versions records position table aged topic text key column names known none

    to_source : (held : Option HeldCells) → held_row identity records topic text ≡ held → IsSome held → IsSome (rows D.infos D.commits to table key)
    to_source None is some = cc
    to_source (Some cells) is some =
        let early : Names identity infos topic text table key =
        names_before identity infos shown topic text table key valid.follow (subst (λ (l : List TableInfo). Names identity l topic text table key) (infos_from table (first_course infos start) shown) names) in
        let row : IsRowOfKey identity infos table (topic_of identity early.info) text cells =
        rows_of.each early.info early.captured text cells (subst (λ (t : List ℕ). held_row identity records t text ≡ Some cells) (sym early.topic_is) is) in
        let one = first_of {P = λ column. IsSome (held_at (Some cells) column)} (key_names row.names.info) (has_key row.names.info) row.columns in
        let held_is : IsSome (held_cell identity records topic text one.0) = subst (λ (h : Option HeldCells). IsSome (held_at h one.0)) (sym is) one.1 in
        row_there (row_json_texts (columns_of D.infos table)) (λ texts. texts one.0) (rows D.infos D.commits to table key)
        (cell_there (life one.0) from to (held_cell identity records topic text one.0) (agree one.0) held_is)

    to_held : (row : Option (List Val)) → rows D.infos D.commits to table key ≡ row → IsSome row → IsSome (held_row identity records topic text)
    to_held None is some = cc
    to_held (Some cells) is some =
        let facts : AreFitCommits D.infos D.commits = are_fit infos shown start table valid in
        let own = (keyed_at D.infos (course_changes D) to facts.fit).each table key cells is in
        let same : Some own.info ≡ Some names.info = sym own.captured ∙ names.captured in
        let info_is : own.info ≡ names.info = cc in
        let one = first_of {P = λ column. IsSome (column_of names.info.columns column)} (key_names names.info) (has_key names.info) (key_columns_are names.info) in
        let there = wide_cell names.info cells one.0 (own.wide ∙ ap width info_is) one.1 in
        let cell : life one.0 to ≡ Some there.0 = cell_is D.infos (rows D.infos D.commits to) table names.info key one.0 (Some cells) there.0 names.captured is there.1 in
        held_there (life one.0) from to (held_row identity records topic text) one.0 there.0 (agree one.0) cell

pub have_rows : AlteredTablesHaveRows
have_rows identity infos versions shown start table position records valid aged rows_of topic text key names known none = (
  to_source identity infos versions shown start table position records valid aged rows_of topic text key names known none (held_row identity records topic text) refl,
  to_held identity infos versions shown start table position records valid aged rows_of topic text key names known none
      (rows (course_of infos start table shown).infos (course_of infos start table shown).commits
      (own_span_end (course_of infos start table shown) records (own_from (course_of infos start table shown) position)) table key) refl,
)
