-- A cell of a key without a whole change in a span.
use Rattle.std.proofs.Common.{◌≡◌, ◌∙◌, ◌⊎◌, inl, inr, ℕ, zero, suc, ◌+◌, ◌-◌, ◌≤◌, ◌<◌, true, false, Option, Some, None, List, [], ◌∷◌, take, refl, sym, ap, subst, arith}
use Rattle.std.proofs.lemmas.Bool.{cases_lt}
use Rattle.std.specs.Prelude.{is_some, option_map, option_and_then, slice_get}
use Rattle.dbl_value_types.specs.declared.value.Val.{Val}
use Rattle.dbl_value_types.specs.Values.{json_of}
use Rattle.dbl_record.specs.declared.acts.HeldCell.{HeldCell}
use Rattle.dbl_record.specs.declared.acts.HeldCell.TheVariants.{Known, Unknown}
use Rattle.dbl_record.specs.declared.record.Record.{Record}
use Rattle.dbl_model_table.specs.declared.identity.Identity.{Identity}
use Rattle.dbl_model_table.specs.declared.row.Key.{Key}
use Rattle.dbl_model_table.specs.declared.table.TableInfo.{TableInfo}
use Rattle.dbl_model_table.specs.declared.change.Cell.{Cell}
use Rattle.dbl_model_table.specs.declared.change.Cell.TheVariants.{Given, Unchanged}
use Rattle.dbl_model_table.specs.declared.change.Change.{Change}
use Rattle.dbl_model_table.specs.Rows.{Effect, effect_of, IsWholeEffect, IsWholeFor, overlay, row_after, Rows, no_rows, rows_after, rows_from, rows_at}
use Rattle.dbl_model_table.specs.Rows.Effect.{Stays, Whole, Part, Ends}
use Rattle.dbl_model_history.specs.Image.{image_at}
use Rattle.dbl_model_history.specs.WholeChanges.{IsTouched}
use Rattle.dbl_consume_laws.specs.Ages.{held_cell, source_cell, HadValueWithin, IsAgedCell}
use Rattle.dbl_consume_laws.proofs.Effects.{text_in, image-text}
use Rattle.dbl_consume_courses.specs.Courses.{Course}
use Rattle.dbl_consume_courses.specs.Since.{since}
use Rattle.dbl_consume_courses.specs.AlteredTables.{course_changes, IsKnownIn}
use Rattle.dbl_consume_courses.specs.Growth.{own_span_end}
use Rattle.dbl_consume_courses.specs.CourseAges.{AgreesWithin, own_from, AlteredTablesAge}

-- ---- a change that isn't whole leaves which cells there are

overlaid : (cells : List Cell) (row : List Val) (i : ℕ) → is_some (option_map json_of (slice_get (overlay cells row) i)) ≡ is_some (option_map json_of (slice_get row i))
overlaid [] row i = refl
overlaid (cell ∷ cells) [] i = refl
overlaid (Given v ∷ cells) (x ∷ row) zero = refl
overlaid (Given v ∷ cells) (x ∷ row) (suc i) = overlaid cells row i
overlaid (Unchanged ∷ cells) (x ∷ row) zero = refl
overlaid (Unchanged ∷ cells) (x ∷ row) (suc i) = overlaid cells row i

overlaid_at : (cells : List Cell) (row : List Val) (place : Option ℕ) → is_some (option_map json_of (option_and_then (slice_get (overlay cells row)) place)) ≡ is_some (option_map json_of (option_and_then (slice_get row) place))
overlaid_at cells row None = refl
overlaid_at cells row (Some i) = overlaid cells row i

there_after : (info : TableInfo) (e : Effect) (row : Option (List Val)) (column : List ℕ) → (IsWholeEffect e → ⊥) → is_some (text_in info (row_after e row) column) ≡ is_some (text_in info row column)
there_after info Stays row column part = refl
there_after info (Whole new) row column part = absurd (part tt)
there_after info (Part cells) None column part = refl
there_after info (Part cells) (Some row) column part = overlaid_at cells row _
there_after info Ends row column part = absurd (part tt)

-- ---- from one point to the next

split_at : (cs : List Change) (m : ℕ) → (take (suc m) cs ≡ take m cs) ⊎ ((c : Change) × (slice_get cs m ≡ Some c) × ((infos : List TableInfo) (at : Rows) → rows_from infos at (take (suc m) cs) ≡ rows_after infos c (rows_from infos at (take m cs))))
split_at [] zero = inl refl
split_at [] (suc m) = inl refl
split_at (c ∷ cs) zero = inr (c, refl, λ infos at. refl)
split_at (c ∷ cs) (suc m) = elim (split_at cs m) [
  | inl same ↦ inl (ap (λ (l : List Change). c ∷ l) same)
  | inr next ↦ inr (next.0, next.1, λ infos at. next.2 infos (rows_after infos c at))
]

module _ (infos : List TableInfo) (cs : List Change) (table : ℕ) (key : Key) (info : TableInfo) (captured : slice_get infos table ≡ Some info) (column : List ℕ) where
  abbrev life : ℕ → Option (List ℕ)
  life = source_cell infos cs table key column

  at_row : (m : ℕ) → life m ≡ text_in info (rows_at infos cs m table key) column
  at_row m = image-text infos (rows_at infos cs m) table info key column captured

  one_step : (m : ℕ) → ((c : Change) → slice_get cs m ≡ Some c → IsWholeFor infos c table key → ⊥) → is_some (life (suc m)) ≡ is_some (life m)
  one_step m none = elim (split_at cs m) [
    | inl same ↦ ap (λ (l : List Change). is_some (image_at infos (rows_from infos no_rows l) table key column)) same
    | inr next ↦ ap (λ (o : Option (List ℕ)). is_some o) (at_row (suc m))
        ∙ (ap (λ (r : Rows). is_some (text_in info (r table key) column)) (next.2 infos no_rows)
        ∙ (there_after info (effect_of infos next.0 table key) (rows_at infos cs m table key) column (none next.0 next.1)
        ∙ ap (λ (o : Option (List ℕ)). is_some o) (sym (at_row m))))
  ]

  -- from a point up to a later one
  steps : (m d : ℕ) → ((i : ℕ) (c : Change) → m ≤ i → i < m + d → slice_get cs i ≡ Some c → IsWholeFor infos c table key → ⊥) → is_some (life (m + d)) ≡ is_some (life m)
  steps m zero none = let e : m + 0 ≡ m = omega arith in ap (λ (x : ℕ). is_some (life x)) e
  steps m (suc d) none =
      let e : m + suc d ≡ suc (m + d) = omega arith in
      ap (λ (x : ℕ). is_some (life x)) e
      ∙ (one_step (m + d) (λ c at whole. none (m + d) c (omega arith) (omega arith) at whole)
      ∙ steps m d (λ i c low high at whole. none i c low (lt_more i m d high) at whole))
    where
      lt_more : (i m d : ℕ) → i < m + d → i < m + suc d
      lt_more i m d lt = omega (arith, lt)

  within_same : (from m to : ℕ) → from ≤ m → m ≤ to → (IsTouched infos cs from to table key → ⊥) → is_some (life to) ≡ is_some (life m)
  within_same from m to low high none =
      let d : ℕ = to - m in
      let e : m + d ≡ to = omega (arith, high) in
      ap (λ (x : ℕ). is_some (life x)) (sym e)
      ∙ steps m d (λ i c le lt at whole. none (record { place = i; change = c; not_before = le_both from m i low le; before = lt_to i m d to lt e; is = at; whole = whole }))
    where
      le_both : (a b c : ℕ) → a ≤ b → b ≤ c → a ≤ c
      le_both a b c one two = omega (arith, one, two)

      lt_to : (i m d to : ℕ) → i < m + d → m + d ≡ to → i < to
      lt_to i m d to lt is = omega (arith, lt, is)

  some_is : (x : Option (List ℕ)) (text : List ℕ) → x ≡ Some text → is_some x ≡ true
  some_is x text is = ap (λ (o : Option (List ℕ)). is_some o) is

  none_is : (x : Option (List ℕ)) → is_some x ≡ false → x ≡ None
  none_is None e = refl
  none_is (Some text) e = cc

  -- a cell that is aged at a known key
  pub agrees : (from to : ℕ) (K : Type 0) → K → (IsTouched infos cs from to table key → ⊥) → (held : Option HeldCell) → IsAgedCell K life from to held → AgreesWithin life from to held
  agrees from to K known none None aged =
      let w : HadValueWithin life from to None = aged known in
      none_is (life to) (within_same from w.moment to w.not_before w.not_after none ∙ ap (λ (o : Option (List ℕ)). is_some o) w.is)
  agrees from to K known none (Some (Known text)) aged =
      (within_same from aged.moment to aged.not_before aged.not_after none ∙ some_is (life aged.moment) text aged.is, aged)
  agrees from to K known none (Some Unknown) aged =
      let yes : HadValueWithin life from to (Some aged.0.0) = aged.0.1 in
      let no : HadValueWithin life from to None = aged.1 known in
      let one : is_some (life to) ≡ true = within_same from yes.moment to yes.not_before yes.not_after none ∙ some_is (life yes.moment) aged.0.0 yes.is in
      let two : is_some (life to) ≡ false = within_same from no.moment to no.not_before no.not_after none ∙ ap (λ (o : Option (List ℕ)). is_some o) no.is in
      let contra : true ≡ false = sym one ∙ two in
      cc

-- what is known at the end of a span without a whole change is known where it begins
known_first : (identity : Identity) (c : Course) (records : List Record) (from to table : ℕ) (key : Key) → (IsTouched c.infos (course_changes c) from to table key → ⊥) → IsKnownIn identity c records to table key → IsKnownIn identity c records from table key
known_first identity c records from to table key none (inl told) = inl told
known_first identity c records from to table key none (inr touched) = elim (cases_lt touched.place from) [
  | inl lt ↦ inr (record { place = touched.place; change = touched.change; not_before = touched.not_before; before = lt; is = touched.is; whole = touched.whole })
  | inr le ↦ absurd (none (record { place = touched.place; change = touched.change; not_before = le; before = touched.before; is = touched.is; whole = touched.whole }))
]

pub altered : AlteredTablesAge
altered identity c versions records position table aged topic text key column names known none =
    let from : ℕ = own_from c position in
    let to : ℕ = own_span_end c records from in
    let same = aged.same.each topic text key column names (known_first identity c records from to table key none known) in
    let own = aged.own.each topic text key column names in
    subst (λ (h : Option HeldCell). AgreesWithin (source_cell c.infos (course_changes c) table key column) from to h) (sym same)
    (agrees c.infos (course_changes c) table key names.info names.captured column from to (IsKnownIn identity c records to table key) known none (held_cell identity (since c.start records) topic text column) own)
