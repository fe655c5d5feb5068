-- A consumer has the source's rows where the span is one point.
use Rattle.std.proofs.Common.{◌≡◌, ◌∙◌, ℕ, ◌≤◌, max, Bool, true, false, Option, Some, None, List, [], ◌∷◌, refl, sym, ap, subst, arith, append-nil}
use Rattle.std.proofs.lemmas.Bool.Decides.{nat_tests}
use Rattle.std.specs.Prelude.{◌↔◌, nat_le, if◌then◌else◌, IsSome, option_map, option_and_then}
use Rattle.std.specs.List.{AllByRecursion}
use Rattle.dbl_value_types.specs.declared.value.Val.{Val}
use Rattle.dbl_record.specs.declared.acts.HeldCell.{HeldCell}
use Rattle.dbl_record.specs.declared.acts.HeldCell.TheVariants.{Known, Unknown}
use Rattle.dbl_record.specs.declared.record.Record.{Record}
use Rattle.dbl_record.specs.Consumers.{HeldCells, held_at}
use Rattle.dbl_model_table.specs.declared.identity.Identity.{Identity}
use Rattle.dbl_model_table.specs.declared.row.Key.{Key}
use Rattle.dbl_model_table.specs.declared.table.TableInfo.{TableInfo}
use Rattle.dbl_model_table.specs.declared.change.Commit.{Commit}
use Rattle.dbl_model_table.specs.Infos.{columns_of}
use Rattle.dbl_model_table.specs.Rows.{rows, moment_at}
use Rattle.dbl_model_history.specs.Image.{Names, row_json_texts}
use Rattle.dbl_model_history.specs.WholeChanges.{IsTouched}
use Rattle.dbl_consume_laws.specs.Commits.{moment_after}
use Rattle.dbl_consume_laws.specs.Laws.{HoldsJsonTexts}
use Rattle.dbl_consume_laws.specs.Moments.{last_moment}
use Rattle.dbl_consume_laws.specs.Ages.{held_row, held_cell, source_cell, HadValueWithin}
use Rattle.dbl_consume_laws.proofs.Moments.{last_moment-most}
use Rattle.dbl_consume_courses.specs.Versions.{Versioned, versions_to}
use Rattle.dbl_consume_courses.specs.Courses.{Course, course}
use Rattle.dbl_consume_courses.specs.Since.{since}
use Rattle.dbl_consume_courses.specs.AlteredTables.{course_changes, course_start, IsKnownIn, last_position, IsTableAged, IsAgedFrom}
use Rattle.dbl_consume_courses.specs.FitVersions.{AreFitVersions}
use Rattle.dbl_consume_courses.specs.Growth.{own_span_end}
use Rattle.dbl_consume_courses.specs.CourseAges.{AgreesWithin, own_from}
use Rattle.dbl_consume_courses.specs.KeyRows.{HasRowsOfKeys}
use Rattle.dbl_consume_courses.specs.Agreement.{AlteredTablesAgree}
use Rattle.dbl_consume_courses.proofs.Alone.{all_weaker}
use Rattle.dbl_consume_courses.proofs.AlteredLemmas.{altered}
use Rattle.dbl_consume_courses.proofs.BetweenLemmas.{cut}
use Rattle.dbl_consume_courses.proofs.GrowthLemmas.{fit_versions_left}
use Rattle.dbl_consume_courses.proofs.InfoMoves.{moment_at-most}
use Rattle.dbl_consume_courses.proofs.KeyRowLemmas.{have_rows}
use Rattle.dbl_consume_courses.proofs.Positions.{le_trans, left_most, moment_upto, course_upto}

last_same : (position : ℕ) (records : List Record) → AllByRecursion (λ item. item.position ≤ position) records → last_position position records ≡ position
last_same position [] upto = refl
last_same position (item ∷ records) upto = ap (λ (m : ℕ). last_position m records) (max_is position item.position upto.0) ∙ last_same position records upto.1
  where
    max_is : (a b : ℕ) → b ≤ a → max a b ≡ a
    max_is a b le = omega (arith, le)

upto_to : (position : ℕ) (vs : List Versioned) → AllByRecursion (λ v. v.lsn.0 ≤ position) (versions_to position vs)
upto_to position [] = tt
upto_to position (v ∷ vs) = by (nat_le v.lsn.0 position) refl (upto_to position vs)
  where
    is_le : (a b : ℕ) → nat_le a b ≡ true → a ≤ b
    is_le a b is = grind (arith, nat_tests)

    by : (b : Bool) → nat_le v.lsn.0 position ≡ b → AllByRecursion (λ w. w.lsn.0 ≤ position) (versions_to position vs) → AllByRecursion (λ w. w.lsn.0 ≤ position) (if b then v ∷ versions_to position vs else versions_to position vs)
    by true is rest = (is_le v.lsn.0 position is, rest)
    by false is rest = rest

-- a cell that agrees within one point is the source's
one_cell : (life : ℕ → Option (List ℕ)) (m : ℕ) (held : Option HeldCell) → AgreesWithin life m m held → held ≡ option_map Known (life m)
one_cell life m None agrees = sym (ap (option_map Known) agrees)
one_cell life m (Some (Known text)) agrees =
    let w : HadValueWithin life m m (Some text) = agrees.1 in
    let at : w.moment ≡ m = omega (arith, w.not_before, w.not_after) in
    sym (ap (option_map Known) (sym (ap life at) ∙ w.is))
one_cell life m (Some Unknown) agrees = absurd agrees

some_none : {X : Type 0} (o : Option X) → o ≡ None → IsSome o → ⊥
some_none None none some = cc
some_none (Some x) none some = cc

module _ (identity : Identity) (infos : List TableInfo) (versions : List Versioned) (start position table : ℕ) (records : List Record) (topic text : List ℕ) (key : Key) (valid : AreFitVersions infos versions)
    (aged : IsAgedFrom identity infos versions start records position table) (upto : AllByRecursion (λ item. item.position ≤ position) records) (rows_of : HasRowsOfKeys identity infos records table)
    (names : Names identity (course infos versions start table position).infos topic text table key)
    (known : IsKnownIn identity (course infos versions start table position) records (moment_after (course infos versions start table position).commits) table key) where
  abbrev shown : List Versioned
  shown = versions_to position versions

  abbrev D : Course
  D = course infos versions start table position

  abbrev from : ℕ
  from = own_from D position

  abbrev point : ℕ
  point = moment_after D.commits

  abbrev life : List ℕ → ℕ → Option (List ℕ)
  life column = source_cell D.infos (course_changes D) table key column

  shown_fit : AreFitVersions infos shown
  shown_fit = let parts = cut position 0 versions valid.rise in fit_versions_left infos shown parts.rest (subst (AreFitVersions infos) parts.is valid)

  here : IsTableAged identity D versions records position table
  here = subst (λ (q : ℕ). IsTableAged identity (course infos versions start table q) versions records position table) (last_same position records upto) aged

  from_is : from ≡ point
  from_is =
      let q : ℕ = max position D.start in
      let all : AllByRecursion (λ c. c.lsn.0 ≤ q) D.commits =
      course_upto infos shown start table q shown_fit (all_weaker (λ (v : Versioned). v.lsn.0 ≤ position) (λ (v : Versioned). v.lsn.0 ≤ q) (λ v le. le_trans v.lsn.0 position q le (left_most position D.start)) shown (upto_to position versions)) in
      ap (λ (l : List Commit). moment_at l q) (sym (append-nil D.commits)) ∙ moment_upto q D.commits [] all tt

  end_is : own_span_end D records from ≡ from
  end_is =
      let most : last_moment D.infos D.commits (course_start D) (since D.start records) ≤ point = last_moment-most D.infos D.commits (course_start D) (since D.start records) (moment_at-most D.commits D.start) in
      one_end from point (last_moment D.infos D.commits (course_start D) (since D.start records)) from_is most
    where
      one_end : (f p l : ℕ) → f ≡ p → l ≤ p → max f l ≡ f
      one_end f p l is le = omega (arith, is, le)

  known_end : IsKnownIn identity D records (own_span_end D records from) table key
  known_end = subst (λ (m : ℕ). IsKnownIn identity D records m table key) (sym (end_is ∙ from_is)) known

  none : IsTouched D.infos (course_changes D) from (own_span_end D records from) table key → ⊥
  none touched = let end : own_span_end D records from ≡ from = end_is in absurd (omega (arith, touched.not_before, touched.before, end))

  cell : (column : List ℕ) → held_cell identity records topic text column ≡ option_map Known (life column point)
  cell column =
      let agrees : AgreesWithin (life column) from (own_span_end D records from) (held_cell identity records topic text column) = altered identity D versions records position table here topic text key column names known_end none in
      let at : AgreesWithin (life column) point point (held_cell identity records topic text column) =
      subst (λ (m : ℕ). AgreesWithin (life column) m point (held_cell identity records topic text column)) from_is
      (subst (λ (m : ℕ). AgreesWithin (life column) from m (held_cell identity records topic text column)) (end_is ∙ from_is) agrees) in
      one_cell (life column) point (held_cell identity records topic text column) at

  both : IsSome (held_row identity records topic text) ↔ IsSome (rows D.infos D.commits (own_span_end D records from) table key)
  both = have_rows identity infos versions shown start table position records shown_fit here rows_of topic text key names known_end none

  by : (held : Option HeldCells) → held_row identity records topic text ≡ held → (row : Option (List Val)) → rows D.infos D.commits point table key ≡ row → HoldsJsonTexts held (option_map (row_json_texts (columns_of D.infos table)) row)
  by None is None at = tt
  by None is (Some cells) at =
      let some : IsSome (rows D.infos D.commits (own_span_end D records from) table key) = subst (λ (m : ℕ). IsSome (rows D.infos D.commits m table key)) (sym (end_is ∙ from_is)) (subst (λ (o : Option (List Val)). IsSome o) (sym at) refl) in
      absurd (some_none (held_row identity records topic text) is (both.1 some))
  by (Some held) is None at =
      let some : IsSome (rows D.infos D.commits (own_span_end D records from) table key) = both.0 (subst (λ (o : Option HeldCells). IsSome o) (sym is) refl) in
      absurd (some_none (rows D.infos D.commits point table key) at (subst (λ (m : ℕ). IsSome (rows D.infos D.commits m table key)) (end_is ∙ from_is) some))
  by (Some held) is (Some cells) at = λ column.
      sym (ap (λ (h : Option HeldCells). held_at h column) is)
      ∙ (cell column ∙ ap (λ (o : Option (List Val)). option_map Known (option_and_then (λ texts. texts column) (option_map (row_json_texts (columns_of D.infos table)) o))) at)

  agree : HoldsJsonTexts (held_row identity records topic text) (option_map (row_json_texts (columns_of D.infos table)) (rows D.infos D.commits point table key))
  agree = by (held_row identity records topic text) refl (rows D.infos D.commits point table key) refl

pub tables_agree : AlteredTablesAgree
tables_agree identity infos versions start position table records topic text key valid aged upto rows_of names known =
    agree identity infos versions start position table records topic text key valid aged upto rows_of names known
