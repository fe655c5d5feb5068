-- Lemmas of rows in histories whose tables may be altered.
use Rattle.std.proofs.Common.{◌≡◌, ◌≢◌, ◌∙◌, ⊎_elim, ℕ, ◌+◌, ◌-◌, ◌≤◌, ◌<◌, Bool, true, false, Option, Some, None, List, [], ◌∷◌, ◌++◌, length, take, drop, get_or, refl, sym, ap, subst, arith}
use Rattle.std.specs.Prelude.{IsSome, is_some, unwrap_or, slice_get, nat_lt, ◌==◌, if◌then◌else◌}
use Rattle.std.specs.Bool.{Decides}
use Rattle.std.proofs.lemmas.Bool.{cases_lt}
use Rattle.std.proofs.lemmas.List.{drop_more, drop_all, take_more, take_all, length-take-le}
use Rattle.dbl_value_types.specs.declared.column_type.PgType.{PgType}
use Rattle.dbl_value_types.specs.declared.column_type.PgType.TheVariants as type
use Rattle.dbl_value_types.specs.declared.value.Val.{Val}
use Rattle.dbl_model_table.specs.declared.row.Key.{Key}
use Rattle.dbl_model_table.specs.declared.row.Row.{Row}
use Rattle.dbl_model_table.specs.declared.change.Change.{Change}
use Rattle.dbl_model_table.specs.declared.table.TableInfo.{TableInfo}
use Rattle.dbl_model_table.specs.Rows.{Rows, no_rows, rows_from, changes_of}
use Rattle.dbl_model_history.specs.InForce.{Alteration, Versioned, plain_commit}
use Rattle.dbl_model_history.specs.Typed.{typed_cell, typed_cells}
use Rattle.dbl_model_history.specs.PlainRows.{plain_row_cells, row_from}
use Rattle.dbl_model_history.specs.VersionRows.{inserts, altered_rows, rows_through, rows_upto}
use Rattle.dbl_model_history.proofs.PlainLemmas.{rows_from-row_from}
use Rattle.dbl_consume_courses.specs.AlteredTables.{WasThereThrough}
use Rattle.cases_courses.specs.declared.versions.Version.{Version}
use Rattle.cases_courses.specs.AlteredHistories.{versioned_of, all_versioned, altered_row}
use Rattle.cases_ages.proofs.PlainAgeLemmas.{instead}
use Rattle.cases_ages.proofs.MomentLemmas.{is_lower, not_lower, is_equal, not_equal}

-- ---- cells

typed_push : (types : List PgType) (texts : List (Option (List ℕ))) (x : Option (List ℕ)) → typed_cells types (texts ++ x ∷ []) ≡ typed_cells types texts ++ typed_cell (unwrap_or (slice_get types (length texts)) type.Text) x ∷ []
typed_push [] [] x = refl
typed_push (ty ∷ types) [] x = refl
typed_push [] (y ∷ texts) x = ap (λ (vs : List Val). typed_cell type.Text y ∷ vs) (typed_push [] texts x)
typed_push (ty ∷ types) (y ∷ texts) x = ap (λ (vs : List Val). typed_cell ty y ∷ vs) (typed_push types texts x)

pub typed_more : (types : List PgType) (texts : List (Option (List ℕ))) (done : List Val) (i : ℕ) (x : Option (List ℕ)) (ty : PgType) (v : Val) → i < length texts → x ≡ get_or texts i x
    → ty ≡ unwrap_or (slice_get types i) type.Text → v ≡ typed_cell ty x → done ≡ typed_cells types (take i texts) → done ++ v ∷ [] ≡ typed_cells types (take (i + 1) texts)
typed_more types texts done i x ty v lt is ty_is v_is so_far =
    let long : length (take i texts) ≡ i = length-take-le i texts (omega (arith, lt)) in
    let value : v ≡ typed_cell (unwrap_or (slice_get types (length (take i texts))) type.Text) x =
    v_is ∙ (ap (λ (t : PgType). typed_cell t x) ty_is ∙ ap (λ (n : ℕ). typed_cell (unwrap_or (slice_get types n) type.Text) x) (sym long)) in
    ap (λ (l : List Val). l ++ v ∷ []) so_far
    ∙ (ap (λ (w : Val). typed_cells types (take i texts) ++ w ∷ []) value
    ∙ (sym (typed_push types (take i texts) x)
    ∙ ap (typed_cells types) (ap (λ (w : Option (List ℕ)). take i texts ++ w ∷ []) is ∙ sym (take_more texts i x lt))))

-- ---- one table and key

-- the row at a table and key after an alteration
altered_is : (infos : List TableInfo) (altered : Option Alteration) (rows : Rows) (table : ℕ) (key : Key) → altered_rows infos altered rows table key ≡ altered_row infos altered table key (rows table key)
altered_is infos None rows table key = refl
altered_is infos (Some alteration) rows table key =
    ap (λ (row : Option (List Val)). if alteration.table == table then row else rows table key) (rows_from-row_from infos no_rows (inserts infos table alteration.rows) table key)

-- the row at a table and key after the first changes of commits
abbrev pub row_upto : ℕ → Key → Option (List Val) → List Versioned → ℕ → Option (List Val)
row_upto table key row [] moment = row
row_upto table key row (v ∷ versions) moment =
    if nat_lt moment (length (changes_of (plain_commit v))) then row_from v.infos table key row (take moment (changes_of (plain_commit v)))
    else row_upto table key (altered_row v.infos v.altered table key (row_from v.infos table key row (changes_of (plain_commit v)))) versions (moment - length (changes_of (plain_commit v)))

through_is : (rows : Rows) (v : Versioned) (table : ℕ) (key : Key) → rows_through rows v table key ≡ altered_row v.infos v.altered table key (row_from v.infos table key (rows table key) (changes_of (plain_commit v)))
through_is rows v table key =
    altered_is v.infos v.altered (rows_from v.infos rows (changes_of (plain_commit v))) table key
    ∙ ap (altered_row v.infos v.altered table key) (rows_from-row_from v.infos rows (changes_of (plain_commit v)) table key)

module _ (rows : Rows) (v : Versioned) (versions : List Versioned) (moment table : ℕ) (key : Key) where
  abbrev changes_here : List Change
  changes_here = changes_of (plain_commit v)

  abbrev left_here : ℕ
  left_here = moment - length changes_here

  -- both, by whether the point lies within the next commit
  abbrev all_by : Bool → Option (List Val)
  all_by b = (if b then rows_from v.infos rows (take moment changes_here) else rows_upto (rows_through rows v) versions left_here) table key

  abbrev one_by : Bool → Option (List Val)
  one_by b = if b then row_from v.infos table key (rows table key) (take moment changes_here)
      else row_upto table key (altered_row v.infos v.altered table key (row_from v.infos table key (rows table key) changes_here)) versions left_here

  by_cases : rows_upto (rows_through rows v) versions left_here table key ≡ row_upto table key (rows_through rows v table key) versions left_here → (b : Bool) → all_by b ≡ one_by b
  by_cases rest true = rows_from-row_from v.infos rows (take moment changes_here) table key
  by_cases rest false = rest ∙ ap (λ (row : Option (List Val)). row_upto table key row versions left_here) (through_is rows v table key)

pub upto_is : (rows : Rows) (versions : List Versioned) (moment table : ℕ) (key : Key) → rows_upto rows versions moment table key ≡ row_upto table key (rows table key) versions moment
upto_is rows [] moment table key = refl
upto_is rows (v ∷ versions) moment table key =
    by_cases rows v versions moment table key (upto_is (rows_through rows v) versions (moment - length (changes_of (plain_commit v))) table key)
    (nat_lt moment (length (changes_of (plain_commit v))))

-- ---- commit after commit

-- after the first i commits the row is this, and so many changes are left
abbrev pub IsUpto : List Version → ℕ → ℕ → Key → ℕ → Option (List Val) → ℕ → Type 0
IsUpto versions moment table key i row left = rows_upto no_rows (all_versioned versions) moment table key ≡ row_upto table key row (all_versioned (drop i versions)) left

pub upto_none : (versions : List Version) (moment table : ℕ) (key : Key) → IsUpto versions moment table key 0 None moment
upto_none versions moment table key = upto_is no_rows (all_versioned versions) moment table key

module _ (versions : List Version) (moment table : ℕ) (key : Key) (i : ℕ) (row : Option (List Val)) (left : ℕ) where
  abbrev later : List Versioned
  later = all_versioned (drop (i + 1) versions)

  abbrev changes : Version → List Change
  changes v = changes_of v.commit

  -- by whether the point lies within the next commit
  abbrev goes : Version → Bool → Option (List Val)
  goes v b = if b then row_from v.infos.items table key row (take left (changes v)) else row_upto table key (altered_row v.infos.items (versioned_of v).altered table key (row_from v.infos.items table key row (changes v))) later (left - length (changes v))

  here : (v : Version) (b : Bool) → i < length versions → v ≡ get_or versions i v → nat_lt left (length (changes v)) ≡ b → row_upto table key row (all_versioned (drop i versions)) left ≡ goes v b
  here v b lt is test =
      ap (λ (l : List Version). row_upto table key row (all_versioned l) left) (drop_more versions i v lt ∙ ap (λ (x : Version). x ∷ drop (i + 1) versions) (sym is))
      ∙ ap (goes v) test

  pub upto_here : (v : Version) (new : Option (List Val)) (count : ℕ) → i < length versions → v ≡ get_or versions i v → count ≡ length (changes v) → left < count
      → new ≡ row_from v.infos.items table key row (take left (changes v)) → IsUpto versions moment table key i row left → new ≡ rows_upto no_rows (all_versioned versions) moment table key
  upto_here v new count lt is count_is within new_is so_far =
      new_is ∙ sym (so_far ∙ here v true lt is (is_lower left (length (changes v)) (subst (λ (n : ℕ). left < n) count_is within)))

  pub upto_more : (v : Version) (mid new : Option (List Val)) (count next : ℕ) → i < length versions → v ≡ get_or versions i v → count ≡ length (changes v) → count ≤ left
      → mid ≡ row_from v.infos.items table key row (take left (changes v)) → next ≡ left - length (changes v) → new ≡ altered_row v.infos.items (versioned_of v).altered table key mid
      → IsUpto versions moment table key i row left → IsUpto versions moment table key (i + 1) new next
  upto_more v mid new count next lt is count_is past mid_is next_is new_is so_far =
      let le : length (changes v) ≤ left = subst (λ (n : ℕ). n ≤ left) count_is past in
      let all : mid ≡ row_from v.infos.items table key row (changes v) = mid_is ∙ ap (row_from v.infos.items table key row) (take_all left (changes v) le) in
      so_far ∙ (here v false lt is (not_lower left (length (changes v)) le)
      ∙ (ap (λ (r : Option (List Val)). row_upto table key r later (left - length (changes v))) (sym (new_is ∙ ap (altered_row v.infos.items (versioned_of v).altered table key) all))
      ∙ ap (row_upto table key new later) (sym next_is)))

  pub upto_all : length versions ≤ i → IsUpto versions moment table key i row left → row ≡ rows_upto no_rows (all_versioned versions) moment table key
  upto_all past so_far = sym (so_far ∙ ap (λ (l : List Version). row_upto table key row (all_versioned l) left) (drop_all i versions past))

-- an alteration of this table, and of another one
pub altered_here : (infos : List TableInfo) (alteration : Alteration) (table : ℕ) (key : Key) (new row : Option (List Val)) → alteration.table ≡ table
    → new ≡ row_from infos table key None (inserts infos table alteration.rows) → new ≡ altered_row infos (Some alteration) table key row
altered_here infos alteration table key new row same is =
    is ∙ sym (ap (λ (b : Bool). if b then row_from infos table key None (inserts infos table alteration.rows) else row) (is_equal alteration.table table same))

pub altered_elsewhere : (infos : List TableInfo) (alteration : Alteration) (table : ℕ) (key : Key) (row : Option (List Val)) → alteration.table ≢ table → row ≡ altered_row infos (Some alteration) table key row
altered_elsewhere infos alteration table key row apart =
    sym (ap (λ (b : Bool). if b then row_from infos table key None (inserts infos table alteration.rows) else row) (not_equal alteration.table table apart))

-- ---- rows that were there

some_is : (o : Option Row) → is_some (plain_row_cells o) ≡ is_some o
some_is None = refl
some_is (Some row) = refl

pub has_decides : (o : Option Row) (cells : Option (List Val)) (b : Bool) → b ≡ is_some o → plain_row_cells o ≡ cells → Decides b (IsSome cells)
has_decides o cells b b_is is =
    let same : b ≡ is_some cells = b_is ∙ (sym (some_is o) ∙ ap is_some is) in
    (λ t. sym same ∙ t, λ s. same ∙ s)

-- no row at the points from one on and before another
abbrev pub IsAbsentThrough : List Versioned → ℕ → Key → ℕ → ℕ → Type 0
IsAbsentThrough versions table key from to = (moment : ℕ) → from ≤ moment → moment < to → IsSome (rows_upto no_rows versions moment table key) → ⊥

module _ (versions : List Versioned) (table : ℕ) (key : Key) (from : ℕ) where
  pub absent_first : IsAbsentThrough versions table key from from
  absent_first moment low high some = omega (arith, low, high)

  pub absent_more : (to : ℕ) → (IsSome (rows_upto no_rows versions to table key) → ⊥) → IsAbsentThrough versions table key from to → IsAbsentThrough versions table key from (to + 1)
  absent_more to none so_far moment low high some = ⊎_elim
      (λ (before : moment < to). so_far moment low before some)
      (λ (past : to ≤ moment). (
      let at : moment ≡ to = omega (arith, past, high) in
      none (subst (λ (n : ℕ). IsSome (rows_upto no_rows versions n table key)) at some)))
      (cases_lt moment to)

  pub was_here : (moment to : ℕ) → from ≤ moment → moment ≤ to → IsSome (rows_upto no_rows versions moment table key) → WasThereThrough versions from to table key
  was_here moment to low high some = record { moment = moment; not_before = low; not_after = high; present = some }

  pub was_last : (at to : ℕ) (b : Bool) → from ≤ to → to ≤ at → IsAbsentThrough versions table key from at → Decides b (IsSome (rows_upto no_rows versions to table key)) → Decides b (WasThereThrough versions from to table key)
  was_last at to b le past none = instead (IsSome (rows_upto no_rows versions to table key)) (WasThereThrough versions from to table key) b
      (λ some. was_here to to le (omega arith) some)
      (λ (w : WasThereThrough versions from to table key). ⊎_elim
      (λ (before : w.moment < to). absurd (none w.moment w.not_before (omega (arith, before, past)) w.present))
      (λ (after : to ≤ w.moment). (
      let at_end : w.moment ≡ to = omega (arith, after, w.not_after) in
      subst (λ (n : ℕ). IsSome (rows_upto no_rows versions n table key)) at_end w.present))
      (cases_lt w.moment to))
