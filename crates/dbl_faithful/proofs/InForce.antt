-- What is in force at a position of a history whose tables may be altered: the captured tables there, and their rows.
use Rattle.std.proofs.Common.{◌≡◌, ◌∙◌, ◌+◌, ◌≤◌, ◌<◌, ℕ, Bool, true, false, if◌then◌else◌, Option, Some, None, List, [], ◌∷◌, ◌++◌, fold, length, map, take, nat_le, refl, sym, ap, ap₂, subst, arith, le_refl}
use Rattle.std.proofs.lemmas.Bool.Decides.{nat_tests}
use Rattle.std.proofs.lemmas.List.{take_all}
use Rattle.std.specs.Prelude.{option_map, slice_get}
use Rattle.std.specs.List.{AllByRecursion}
use Rattle.dbl_value_types.specs.declared.value.Val.{Val}
use Rattle.dbl_record.specs.declared.record.Record.{Record}
use Rattle.dbl_record.specs.Places.{IsFresh}
use Rattle.dbl_model_table.specs.declared.identity.Identity.{Identity}
use Rattle.dbl_model_table.specs.declared.row.Key.{Key}
use Rattle.dbl_model_table.specs.declared.table.TableInfo.{TableInfo}
use Rattle.dbl_model_table.specs.declared.change.Change.{Change}
use Rattle.dbl_model_table.specs.declared.change.Commit.{Commit}
use Rattle.dbl_model_table.specs.Infos.{columns_of}
use Rattle.dbl_model_table.specs.Rows.{Rows, no_rows, rows_from, rows_at, rows, changes_of, all_changes, moment_at}
use Rattle.dbl_consume_laws.specs.ModelHistory.Fit.{AreInfosOf, IsFitHistory}
use Rattle.dbl_consume_laws.specs.ModelHistory.History.{History}
use Rattle.dbl_consume_laws.specs.ModelHistory.Image.{Names, image_row, row_json_texts}
use Rattle.dbl_consume_laws.specs.ModelHistory.InForce.{opening_infos, versioned}
use Rattle.dbl_consume_laws.specs.ModelHistory.Typed.{typed}
use Rattle.dbl_consume_laws.proofs.ModelHistoryRowLemmas.{all_changes-append, rows_at-longer, rows_from-append}
use Rattle.dbl_consume_laws.specs.Ages.{held_row}
use Rattle.dbl_consume_laws.specs.Commits.{moment_after}
use Rattle.dbl_consume_laws.specs.Laws.{HoldsJsonTexts}
use Rattle.dbl_consume_courses.specs.Versions.{Alteration, Versioned, plain_commit, altered_rows, rows_through, version_rows, versions_to}
use Rattle.dbl_consume_courses.specs.Courses.{course, infos_after}
use Rattle.dbl_consume_courses.specs.AlteredTables.{IsKnownIn, AgreesInCourse}
use Rattle.dbl_consume_courses.specs.FitVersions.{AreFitVersions}
use Rattle.dbl_consume_courses.proofs.BetweenLemmas.{IsCut, cut}
use Rattle.dbl_consume_courses.proofs.CourseLemmas.{has_infos, shows_rows}
use Rattle.dbl_consume_courses.proofs.GrowthLemmas.{fit_versions_left}
use Rattle.dbl_consume_courses.proofs.Positions.{moment_upto}
use Rattle.dbl_faithful.proofs.Lists.{map_append}
use Rattle.dbl_faithful.proofs.Plainly.{opening_is, commits_are, each_keeps, are_valid, to_plain}
use Rattle.dbl_faithful.proofs.Trace.{all_filter}

-- ---- a table's course at a position

module _ (infos : List TableInfo) (versions : List Versioned) (position : ℕ) (fit : AreFitVersions infos versions) where
  -- the commits up to there are the first ones
  parted : IsCut position versions
  parted = cut position 0 versions fit.rise

  shown_fit : AreFitVersions infos (versions_to position versions)
  shown_fit = fit_versions_left infos (versions_to position versions) parted.rest (subst (AreFitVersions infos) parted.is fit)

  -- it has the tables in force
  pub course_infos : (start table : ℕ) → (course infos versions start table position).infos ≡ infos_after infos (versions_to position versions)
  course_infos start table = has_infos infos (versions_to position versions) start table

  -- and its table's rows
  course_rows : (start table : ℕ) (key : Key)
      → rows (course infos versions start table position).infos (course infos versions start table position).commits (moment_after (course infos versions start table position).commits) table key
      ≡ version_rows (versions_to position versions) table key
  course_rows start table key = shows_rows infos (versions_to position versions) start table key shown_fit.follow

  pub course_image : (start table : ℕ) (key : Key)
      → image_row (course infos versions start table position).infos (rows (course infos versions start table position).infos (course infos versions start table position).commits (moment_after (course infos versions start table position).commits)) table key
      ≡ image_row (infos_after infos (versions_to position versions)) (version_rows (versions_to position versions)) table key
  course_image start table key = ap₂ (λ (l : List TableInfo) (o : Option (List Val)). option_map (row_json_texts (columns_of l table)) o) (course_infos start table) (course_rows start table key)

-- At each first delivery a consumer has the rows in force at its position.
pub agrees_in_force : (identity : Identity) (infos : List TableInfo) (versions : List Versioned) (start : ℕ) (records : List Record) → AreFitVersions infos versions → AgreesInCourse identity infos versions start records
    → (i : ℕ) (item : Record) → slice_get records i ≡ Some item → IsFresh records i → item.last ≡ true
    → (topic text : List ℕ) (table : ℕ) (key : Key) → Names identity (infos_after infos (versions_to item.position versions)) topic text table key
    → IsKnownIn identity (course infos versions start table item.position) (take (i + 1) records) (moment_after (course infos versions start table item.position).commits) table key
    → HoldsJsonTexts (held_row identity (take (i + 1) records) topic text) (image_row (infos_after infos (versions_to item.position versions)) (version_rows (versions_to item.position versions)) table key)
agrees_in_force identity infos versions start records fit agrees i item at fresh last topic text table key names known =
    subst (HoldsJsonTexts (held_row identity (take (i + 1) records) topic text)) (course_image infos versions item.position fit start table key)
    (agrees.each i item at fresh last topic text table key
    (subst (λ (l : List TableInfo). Names identity l topic text table key) (sym (course_infos infos versions item.position fit start table)) names) known)

-- ---- if no table is altered

all_shown : (position : ℕ) (versions : List Versioned) → AllByRecursion (λ v. v.lsn.0 ≤ position) (versions_to position versions)
all_shown position [] = tt
all_shown position (v ∷ versions) = by (nat_le v.lsn.0 position) refl (all_shown position versions)
  where
    is_le : (a b : ℕ) → nat_le a b ≡ true → a ≤ b
    is_le a b is = grind (arith, nat_tests)

    by : (b : Bool) → nat_le v.lsn.0 position ≡ b → AllByRecursion (λ w. w.lsn.0 ≤ position) (versions_to position versions) → AllByRecursion (λ w. w.lsn.0 ≤ position) (if b then v ∷ versions_to position versions else versions_to position versions)
    by true is rest = (is_le v.lsn.0 position is, rest)
    by false is rest = rest

same_after : (infos : List TableInfo) (versions : List Versioned) → AllByRecursion (λ v. (v.infos ≡ infos) × (v.altered ≡ None)) versions → infos_after infos versions ≡ infos
same_after infos [] each = refl
same_after infos (v ∷ versions) each = ap (λ (l : List TableInfo). infos_after l versions) each.0.0 ∙ same_after infos versions each.1

through_plain : (infos : List TableInfo) (at : Rows) (versions : List Versioned) → AllByRecursion (λ v. (v.infos ≡ infos) × (v.altered ≡ None)) versions → fold rows_through at versions ≡ rows_from infos at (all_changes (map plain_commit versions))
through_plain infos at [] each = refl
through_plain infos at (v ∷ versions) each =
    let one : rows_through at v ≡ rows_from infos at (changes_of (plain_commit v)) =
    ap (λ (o : Option Alteration). altered_rows v.infos o (rows_from v.infos at (changes_of (plain_commit v)))) each.0.1 ∙ ap (λ (l : List TableInfo). rows_from l at (changes_of (plain_commit v))) each.0.0 in
    ap (λ (r : Rows). fold rows_through r versions) one
    ∙ (through_plain infos (rows_from infos at (changes_of (plain_commit v))) versions each.1 ∙ sym (rows_from-append infos at (changes_of (plain_commit v)) (all_changes (map plain_commit versions))))

module _ (history : History) (infos : List TableInfo) (position : ℕ) (fit : IsFitHistory history) (captured : AreInfosOf history infos) where
  each_shown : AllByRecursion (λ v. (v.infos ≡ infos) × (v.altered ≡ None)) (versions_to position (versioned infos history))
  each_shown = all_filter (λ (v : Versioned). (v.infos ≡ infos) × (v.altered ≡ None)) (λ (v : Versioned). nat_le v.lsn.0 position) (versioned infos history) (each_keeps history infos fit captured)

  -- the tables in force are the captured ones
  pub infos_plain : infos_after (opening_infos history infos) (versions_to position (versioned infos history)) ≡ infos
  infos_plain =
      ap (λ (l : List TableInfo). infos_after l (versions_to position (versioned infos history))) (opening_is history infos fit captured)
      ∙ same_after infos (versions_to position (versioned infos history)) each_shown

  -- and the rows are those of the typed commits
  pub rows_plain : version_rows (versions_to position (versioned infos history)) ≡ rows infos (typed infos history) (moment_at (typed infos history) position)
  rows_plain =
      let versions : List Versioned = versioned infos history in
      let shown : List Versioned = versions_to position versions in
      let c : IsCut position versions = cut position 0 versions (are_valid history infos fit captured).rise in
      let front : List Commit = map plain_commit shown in
      let more : List Commit = map plain_commit c.rest in
      let parts : typed infos history ≡ front ++ more = sym (commits_are history infos fit captured) ∙ (ap (map plain_commit) c.is ∙ map_append plain_commit shown c.rest) in
      let moment : moment_at (front ++ more) position ≡ length (all_changes front) = moment_upto position front more (to_plain (λ l. l ≤ position) shown (all_shown position versions)) (to_plain (λ l. position < l) c.rest c.past) in
      let own : version_rows shown ≡ rows_from infos no_rows (all_changes front) = through_plain infos no_rows shown each_shown in
      let whole : rows_at infos (all_changes (front ++ more)) (length (all_changes front)) ≡ rows_from infos no_rows (all_changes front) =
      ap (λ (l : List Change). rows_at infos l (length (all_changes front))) (all_changes-append front more)
      ∙ (rows_at-longer infos (all_changes front) (all_changes more) (length (all_changes front)) (le_refl (length (all_changes front)))
      ∙ ap (rows_from infos no_rows) (take_all (length (all_changes front)) (all_changes front) (le_refl (length (all_changes front))))) in
      own ∙ sym (ap (λ (l : List Commit). rows infos l (moment_at l position)) parts ∙ (ap (λ (m : ℕ). rows_at infos (all_changes (front ++ more)) m) moment ∙ whole))
