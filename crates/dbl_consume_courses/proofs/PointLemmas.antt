-- The points of a course and those of a history in which other tables may be altered.
use Rattle.std.proofs.Common.{◌≡◌, ◌∙◌, ◌⊎◌, inl, inr, ℕ, zero, suc, ◌+◌, ◌-◌, ◌≤◌, ◌<◌, Bool, true, false, Option, Some, None, List, [], ◌∷◌, ◌++◌, length, map, take, refl, sym, ap, subst, arith, append-nil}
use Rattle.std.proofs.lemmas.Bool.{cases_lt}
use Rattle.std.proofs.lemmas.Bool.Decides.{nat_tests}
use Rattle.std.proofs.lemmas.List.{take_all, take-append-le}
use Rattle.std.specs.Prelude.{◌==◌, nat_lt, nat_le, if◌then◌else◌, slice_get}
use Rattle.std.specs.List.{AllByRecursion}
use Rattle.dbl_value_types.specs.declared.value.Val.{Val}
use Rattle.dbl_record.specs.Places.{Place}
use Rattle.dbl_model_table.specs.declared.row.Key.{Key}
use Rattle.dbl_model_table.specs.declared.table.RawRow.{RawRow}
use Rattle.dbl_model_table.specs.declared.table.TableInfo.{TableInfo}
use Rattle.dbl_model_table.specs.declared.change.Body.{Body}
use Rattle.dbl_model_table.specs.declared.change.Body.TheVariants.{Changes, Mark}
use Rattle.dbl_model_table.specs.declared.change.Change.{Change}
use Rattle.dbl_model_table.specs.declared.change.Commit.{Commit}
use Rattle.dbl_model_table.specs.Rows.{Rows, no_rows, rows_from, rows, changes_of, all_changes, moment_at}
use Rattle.dbl_model_history.specs.Fit.{AreFit}
use Rattle.dbl_model_history.specs.PlainRows.{row_from}
use Rattle.dbl_model_history.proofs.PlainLemmas.{rows_from-row_from}
use Rattle.dbl_consume_laws.specs.Moments.{changes_through, place_moment}
use Rattle.dbl_consume_laws.proofs.Moments.{changes_through-most}
use Rattle.dbl_consume_courses.specs.Versions.{Alteration, Versioned, plain_commit, inserts, altered_rows, rows_through, rows_upto}
use Rattle.dbl_consume_courses.specs.Courses.{ticked, ticked_body, ticked_commit, alteration_of, AreUnaltered}
use Rattle.dbl_consume_courses.specs.AlteredTables.{version_moment, position_moment}
use Rattle.dbl_consume_courses.specs.FitVersions.{AreFitFrom}
use Rattle.dbl_consume_courses.proofs.CourseLemmas.{row_from-append, row_same}
use Rattle.dbl_consume_courses.proofs.Kin.{AreKin}
use Rattle.dbl_consume_courses.proofs.FitLemmas.{AreTicks, ticks_are}
use Rattle.dbl_consume_courses.proofs.InfoMoves.{through}
use Rattle.dbl_consume_courses.proofs.Clock.{step, ticks, clock, have_ticks, clock_none, clock_mono, clock_right, take_past, rows_clock, through_clock}
use Rattle.dbl_consume_courses.proofs.Positions.{le_of, lt_le, upto_is}

-- ---- numbers

pub not_lt : (a b : ℕ) → b ≤ a → nat_lt a b ≡ false
not_lt a b le = grind (arith, nat_tests)

pub is_lt : (a b : ℕ) → a < b → nat_lt a b ≡ true
is_lt a b lt = grind (arith, nat_tests)

not_le : (a b : ℕ) → b < a → nat_le a b ≡ false
not_le a b lt = grind (arith, nat_tests)

plus_minus : (a b : ℕ) → a + b - a ≡ b
plus_minus a b = omega arith

minus_self : (a : ℕ) → a - a ≡ 0
minus_self a = omega arith

-- ---- the last alteration of a table

pub record IsLastAlteration (table : ℕ) (versions : List Versioned) : Type 0 where
  pub before : List Versioned
  pub v : Versioned
  pub rows : List RawRow
  pub later : List Versioned
  pub is : versions ≡ before ++ v ∷ later
  pub altered : alteration_of table v.altered ≡ Some rows
  pub unaltered : AreUnaltered table later

pub last_alteration : (table : ℕ) (versions : List Versioned) → AreUnaltered table versions ⊎ IsLastAlteration table versions
last_alteration table [] = inl tt
last_alteration table (v ∷ versions) = by (last_alteration table versions) (alteration_of table v.altered) refl
  where
    by : AreUnaltered table versions ⊎ IsLastAlteration table versions → (o : Option (List RawRow)) → alteration_of table v.altered ≡ o → AreUnaltered table (v ∷ versions) ⊎ IsLastAlteration table (v ∷ versions)
    by (inr last) o is =
        inr (record { before = v ∷ last.before; v = last.v; rows = last.rows; later = last.later; is = ap (λ (l : List Versioned). v ∷ l) last.is; altered = last.altered; unaltered = last.unaltered })
    by (inl none) None is = inl (is, none)
    by (inl none) (Some rows) is = inr (record { before = []; v = v; rows = rows; later = versions; is = refl; altered = is; unaltered = none })

-- ---- the rows of a table that a commit doesn't alter

through_row : (table : ℕ) (v : Versioned) (at : Rows) (key : Key) → alteration_of table v.altered ≡ None → rows_through at v table key ≡ rows_from v.infos at (changes_of (plain_commit v)) table key
through_row table v at key none = by v.altered none
  where
    after : Rows
    after = rows_from v.infos at (changes_of (plain_commit v))

    by : (o : Option Alteration) → alteration_of table o ≡ None → altered_rows v.infos o after table key ≡ after table key
    by None is = refl
    by (Some alteration) is = other (alteration.table == table) refl
      where
        other : (b : Bool) → (alteration.table == table) ≡ b → altered_rows v.infos (Some alteration) after table key ≡ after table key
        other true same = let no : Some alteration.rows ≡ None = sym (ap (λ (b : Bool). if b then Some alteration.rows else None) same) ∙ is in cc
        other false apart = ap (λ (b : Bool). if b then rows_from v.infos no_rows (inserts v.infos table alteration.rows) table key else after table key) apart

upto_zero : (table : ℕ) (at : Rows) (versions : List Versioned) (key : Key) → AreUnaltered table versions → rows_upto at versions 0 table key ≡ at table key
upto_zero table at [] key none = refl
upto_zero table at (v ∷ versions) key none = by (upto_zero table (rows_through at v) versions key none.1) (changes_of (plain_commit v)) refl
  where
    by : rows_upto (rows_through at v) versions 0 table key ≡ rows_through at v table key → (cs : List Change) → changes_of (plain_commit v) ≡ cs → rows_upto at (v ∷ versions) 0 table key ≡ at table key
    by before [] is =
        ap (λ (cs : List Change). (if nat_lt 0 (length cs) then rows_from v.infos at (take 0 cs) else rows_upto (rows_through at v) versions (0 - length cs)) table key) is
        ∙ (before ∙ (through_row table v at key none.0 ∙ ap (λ (cs : List Change). rows_from v.infos at cs table key) is))
    by before (c ∷ cs) is =
        ap (λ (l : List Change). (if nat_lt 0 (length l) then rows_from v.infos at (take 0 l) else rows_upto (rows_through at v) versions (0 - length l)) table key) is
        ∙ ap (λ (b : Bool). (if b then rows_from v.infos at (take 0 (c ∷ cs)) else rows_upto (rows_through at v) versions (0 - length (c ∷ cs))) table key) (is_lt 0 (length (c ∷ cs)) (omega arith))

-- ---- the clock of a course since its table's last alteration

module _ (table : ℕ) where
  abbrev own : Versioned → List Change
  own v = changes_of (plain_commit v)

  abbrev tick : Versioned → List Change
  tick v = changes_of (ticked_commit table v)

  abbrev ticked_all : List Versioned → List Commit
  ticked_all vs = map (ticked_commit table) vs

  tick_is : (v : Versioned) → tick v ≡ ticks v.infos table (own v)
  tick_is v = by v.body
    where
      by : (body : Body) → (elim (ticked_body v.infos table body) [ Changes changes ↦ changes | Mark value ↦ [] ]) ≡ ticks v.infos table (elim body [ Changes changes ↦ changes | Mark value ↦ [] ])
      by (Changes changes) = refl
      by (Mark value) = refl

  -- the number of changes of the history at a point of the course
  abbrev pub point : List Versioned → ℕ → ℕ
  point [] k = 0
  point (v ∷ vs) k = if nat_le k (length (tick v)) then clock v.infos table (own v) k else length (own v) + point vs (k - length (tick v))

  step_most : (k n a m : ℕ) → a ≤ m → step k n a ≤ suc m
  step_most k n a m le = grind (arith, nat_tests)

  clock_most : (infos : List TableInfo) (cs : List Change) (k : ℕ) → clock infos table cs k ≤ length cs
  clock_most infos [] k = omega arith
  clock_most infos (c ∷ cs) k =
      let n : ℕ = length (ticked infos table c) in
      step_most k n (clock infos table cs (k - n)) (length cs) (clock_most infos cs (k - n))

  -- at the end of a commit
  clock_all : (at : Rows) (v : Versioned) → AreFit v.infos at (own v) → clock v.infos table (own v) (length (tick v)) ≡ length (own v)
  clock_all at v fit =
      let size : length (tick v) ≡ length (ticks v.infos table (own v)) + 0 = ap length (tick_is v) ∙ plus_none (length (ticks v.infos table (own v))) in
      ap (clock v.infos table (own v)) size
      ∙ (ap (λ (l : List Change). clock v.infos table l (length (ticks v.infos table (own v)) + 0)) (sym (append-nil (own v)))
      ∙ (clock_right v.infos table (own v) [] 0 (have_ticks v.infos table at (own v) fit) ∙ sym (plus_none (length (own v)))))
    where
      plus_none : (n : ℕ) → n ≡ n + 0
      plus_none n = omega arith

  point_none : (vs : List Versioned) → point vs 0 ≡ 0
  point_none [] = refl
  point_none (v ∷ vs) =
      ap (λ (b : Bool). if b then clock v.infos table (own v) 0 else length (own v) + point vs (0 - length (tick v))) (upto_is 0 (length (tick v)) (omega arith)) ∙ clock_none v.infos table (own v)

  point_in : (v : Versioned) (vs : List Versioned) (k : ℕ) → k ≤ length (tick v) → point (v ∷ vs) k ≡ clock v.infos table (own v) k
  point_in v vs k le = ap (λ (b : Bool). if b then clock v.infos table (own v) k else length (own v) + point vs (k - length (tick v))) (upto_is k (length (tick v)) le)

  point_past : (v : Versioned) (vs : List Versioned) (k : ℕ) → length (tick v) < k → point (v ∷ vs) k ≡ length (own v) + point vs (k - length (tick v))
  point_past v vs k lt = ap (λ (b : Bool). if b then clock v.infos table (own v) k else length (own v) + point vs (k - length (tick v))) (not_le k (length (tick v)) lt)

  -- all of a commit, and some more
  point_more : (at : Rows) (v : Versioned) (vs : List Versioned) (k : ℕ) → AreFit v.infos at (own v) → point (v ∷ vs) (length (tick v) + k) ≡ length (own v) + point vs k
  point_more at v vs zero fit =
      let none : length (tick v) + 0 ≡ length (tick v) = omega arith in
      ap (point (v ∷ vs)) none
      ∙ (point_in v vs (length (tick v)) (omega arith) ∙ (clock_all at v fit ∙ (plus_none (length (own v)) ∙ ap (λ (m : ℕ). length (own v) + m) (sym (point_none vs)))))
    where
      plus_none : (n : ℕ) → n ≡ n + 0
      plus_none n = omega arith
  point_more at v vs (suc k) fit =
      point_past v vs (length (tick v) + suc k) (omega arith) ∙ ap (λ (m : ℕ). length (own v) + point vs m) (plus_minus (length (tick v)) (suc k))

  pub point_mono : (vs : List Versioned) (k l : ℕ) → k ≤ l → point vs k ≤ point vs l
  point_mono [] k l le = omega arith
  point_mono (v ∷ vs) k l le = elim (cases_lt (length (tick v)) k) [
    | inl over ↦ (
        let n : ℕ = length (tick v) in
        let rest : point vs (k - n) ≤ point vs (l - n) = point_mono vs (k - n) (l - n) (omega (arith, le)) in
        let one : point (v ∷ vs) k ≡ length (own v) + point vs (k - n) = point_past v vs k over in
        let two : point (v ∷ vs) l ≡ length (own v) + point vs (l - n) = point_past v vs l (lt_le n k l over le) in
        omega (arith, rest, one, two))
    | inr under ↦ elim (cases_lt (length (tick v)) l) [
      | inl over ↦ (
          let n : ℕ = length (tick v) in
          let one : point (v ∷ vs) k ≡ clock v.infos table (own v) k = point_in v vs k under in
          let two : point (v ∷ vs) l ≡ length (own v) + point vs (l - n) = point_past v vs l over in
          let most : clock v.infos table (own v) k ≤ length (own v) = clock_most v.infos (own v) k in
          omega (arith, one, two, most))
      | inr below ↦ (
          let one : point (v ∷ vs) k ≡ clock v.infos table (own v) k = point_in v vs k under in
          let two : point (v ∷ vs) l ≡ clock v.infos table (own v) l = point_in v vs l below in
          let more : clock v.infos table (own v) k ≤ clock v.infos table (own v) l = clock_mono v.infos table (own v) k l le in
          omega (arith, one, two, more))
    ]
  ]

  -- ---- rows

  module _ (infos : List TableInfo) where
    abbrev pub HaveInfo : List Versioned → Type 0
    HaveInfo vs = AllByRecursion (λ v. AreKin v.infos infos × (slice_get v.infos table ≡ slice_get infos table)) vs

    -- a commit's ticks give the row that its changes do
    tick_row : (at : Rows) (v : Versioned) (key : Key) (k : ℕ) → AreFit v.infos at (own v) → slice_get v.infos table ≡ slice_get infos table
        → row_from infos table key (at table key) (take k (tick v)) ≡ rows_from v.infos at (take (clock v.infos table (own v) k) (own v)) table key
    tick_row at v key k fit same =
        row_same infos v.infos table key (at table key) (take k (tick v)) (sym same)
        ∙ (ap (λ (l : List Change). row_from v.infos table key (at table key) (take k l)) (tick_is v)
        ∙ (rows_clock v.infos table key (own v) k (at table key) (have_ticks v.infos table at (own v) fit)
        ∙ sym (rows_from-row_from v.infos at (take (clock v.infos table (own v) k) (own v)) table key)))

    whole_row : (at : Rows) (v : Versioned) (key : Key) → AreFit v.infos at (own v) → slice_get v.infos table ≡ slice_get infos table → alteration_of table v.altered ≡ None
        → row_from infos table key (at table key) (tick v) ≡ rows_through at v table key
    whole_row at v key fit same none =
        ap (row_from infos table key (at table key)) (sym (take_all (length (tick v)) (tick v) (omega arith)))
        ∙ (tick_row at v key (length (tick v)) fit same
        ∙ (ap (λ (n : ℕ). rows_from v.infos at (take n (own v)) table key) (clock_all at v fit)
        ∙ (ap (λ (l : List Change). rows_from v.infos at l table key) (take_all (length (own v)) (own v) (omega arith))
        ∙ sym (through_row table v at key none))))

    pub point_rows : (at : Rows) (vs : List Versioned) (k : ℕ) (key : Key) → AreUnaltered table vs → HaveInfo vs → AreFitFrom at vs
        → rows_upto at vs (point vs k) table key ≡ row_from infos table key (at table key) (take k (all_changes (ticked_all vs)))
    point_rows at [] zero key none have fit = refl
    point_rows at [] (suc k) key none have fit = refl
    point_rows at (v ∷ vs) k key none have fit = elim (cases_lt (length (tick v)) k) [
      | inl over ↦ (
          let n : ℕ = length (tick v) in
          let m : ℕ = length (own v) in
          let rest : ℕ = k - n in
          ap (λ (x : ℕ). rows_upto at (v ∷ vs) x table key) (point_past v vs k over)
          ∙ (ap (λ (b : Bool). (if b then rows_from v.infos at (take (m + point vs rest) (own v)) else rows_upto (rows_through at v) vs (m + point vs rest - m)) table key) (not_lt (m + point vs rest) m (omega arith))
          ∙ (ap (λ (x : ℕ). rows_upto (rows_through at v) vs x table key) (plus_minus m (point vs rest))
          ∙ (point_rows (rows_through at v) vs rest key none.1 have.1 fit.1
          ∙ sym (ap (row_from infos table key (at table key)) (take_past infos table (tick v) (all_changes (ticked_all vs)) k (le_of n k over))
          ∙ (row_from-append infos table key (at table key) (tick v) (take rest (all_changes (ticked_all vs)))
          ∙ ap (λ (r : Option (List Val)). row_from infos table key r (take rest (all_changes (ticked_all vs)))) (whole_row at v key fit.0.changes have.0.1 none.0)))))))
      | inr under ↦ (
          let p : ℕ = clock v.infos table (own v) k in
          let here : row_from infos table key (at table key) (take k (all_changes (ticked_all (v ∷ vs)))) ≡ rows_from v.infos at (take p (own v)) table key =
          ap (row_from infos table key (at table key)) (take-append-le k (tick v) (all_changes (ticked_all vs)) under) ∙ tick_row at v key k fit.0.changes have.0.1 in
          ap (λ (x : ℕ). rows_upto at (v ∷ vs) x table key) (point_in v vs k under) ∙ (inside p (clock_most v.infos (own v) k) ∙ sym here))
    ]
      where
        inside : (p : ℕ) → p ≤ length (own v) → rows_upto at (v ∷ vs) p table key ≡ rows_from v.infos at (take p (own v)) table key
        inside p le = elim (cases_lt p (length (own v))) [
          | inl lt ↦ ap (λ (b : Bool). (if b then rows_from v.infos at (take p (own v)) else rows_upto (rows_through at v) vs (p - length (own v))) table key) (is_lt p (length (own v)) lt)
          | inr ge ↦ (
              let p_is : p ≡ length (own v) = omega (arith, le, ge) in
              let gone : p - length (own v) ≡ 0 = omega (arith, le) in
              ap (λ (b : Bool). (if b then rows_from v.infos at (take p (own v)) else rows_upto (rows_through at v) vs (p - length (own v))) table key) (not_lt p (length (own v)) ge)
              ∙ (ap (λ (x : ℕ). rows_upto (rows_through at v) vs x table key) gone
              ∙ (upto_zero table (rows_through at v) vs key none.1
              ∙ (through_row table v at key none.0
              ∙ sym (ap (λ (x : ℕ). rows_from v.infos at (take x (own v)) table key) p_is ∙ ap (λ (l : List Change). rows_from v.infos at l table key) (take_all (length (own v)) (own v) (omega arith)))))))
        ]

    -- ---- positions and places

    pub point_at : (at : Rows) (vs : List Versioned) (position : ℕ) → AreFitFrom at vs → point vs (moment_at (ticked_all vs) position) ≡ position_moment vs position
    point_at at [] position fit = refl
    point_at at (v ∷ vs) position fit = by (nat_le v.lsn.0 position) refl (point_at (rows_through at v) vs position fit.1)
      where
        by : (b : Bool) → nat_le v.lsn.0 position ≡ b → point vs (moment_at (ticked_all vs) position) ≡ position_moment vs position → point (v ∷ vs) (moment_at (ticked_all (v ∷ vs)) position) ≡ position_moment (v ∷ vs) position
        by true is rest =
            ap (λ (b : Bool). point (v ∷ vs) (if b then length (tick v) + moment_at (ticked_all vs) position else 0)) is
            ∙ (point_more at v vs (moment_at (ticked_all vs) position) fit.0.changes
            ∙ (ap (λ (m : ℕ). length (own v) + m) rest
            ∙ sym (ap (λ (b : Bool). if b then length (own v) + position_moment vs position else 0) is)))
        by false is rest =
            ap (λ (b : Bool). point (v ∷ vs) (if b then length (tick v) + moment_at (ticked_all vs) position else 0)) is
            ∙ (point_none (v ∷ vs) ∙ sym (ap (λ (b : Bool). if b then length (own v) + position_moment vs position else 0) is))

    through_tick : (at : Rows) (v : Versioned) (o : ℕ) → AreFit v.infos at (own v) → AreKin v.infos infos → slice_get v.infos table ≡ slice_get infos table
        → clock v.infos table (own v) (changes_through infos (tick v) o) ≡ changes_through v.infos (own v) o
    through_tick at v o fit kin same =
        let are : AreTicks table (tick v) = subst (AreTicks table) (sym (tick_is v)) (ticks_are v.infos table (own v)) in
        ap (clock v.infos table (own v)) (sym (through v.infos infos table kin same (tick v) o are))
        ∙ (ap (λ (l : List Change). clock v.infos table (own v) (changes_through v.infos l o)) (tick_is v)
        ∙ through_clock v.infos table (own v) o (have_ticks v.infos table at (own v) fit))

    pub point_place : (at : Rows) (vs : List Versioned) (place : Place) → HaveInfo vs → AreFitFrom at vs → point vs (place_moment infos (ticked_all vs) place) ≡ version_moment vs place
    point_place at [] place have fit = refl
    point_place at (v ∷ vs) place have fit = by (nat_lt v.lsn.0 place.0) refl (v.lsn.0 == place.0) refl (point_place (rows_through at v) vs place have.1 fit.1)
      where
        by : (x : Bool) → nat_lt v.lsn.0 place.0 ≡ x → (y : Bool) → (v.lsn.0 == place.0) ≡ y → point vs (place_moment infos (ticked_all vs) place) ≡ version_moment vs place → point (v ∷ vs) (place_moment infos (ticked_all (v ∷ vs)) place) ≡ version_moment (v ∷ vs) place
        by true is y same rest =
            ap (λ (b : Bool). point (v ∷ vs) (if b then length (tick v) + place_moment infos (ticked_all vs) place else (if v.lsn.0 == place.0 then changes_through infos (tick v) place.1 else 0))) is
            ∙ (point_more at v vs (place_moment infos (ticked_all vs) place) fit.0.changes
            ∙ (ap (λ (m : ℕ). length (own v) + m) rest
            ∙ sym (ap (λ (b : Bool). if b then length (own v) + version_moment vs place else (if v.lsn.0 == place.0 then changes_through v.infos (own v) place.1 else 0)) is)))
        by false is true same rest =
            ap (λ (b : Bool). point (v ∷ vs) (if b then length (tick v) + place_moment infos (ticked_all vs) place else (if v.lsn.0 == place.0 then changes_through infos (tick v) place.1 else 0))) is
            ∙ (ap (λ (b : Bool). point (v ∷ vs) (if b then changes_through infos (tick v) place.1 else 0)) same
            ∙ (point_in v vs (changes_through infos (tick v) place.1) (changes_through-most infos (tick v) place.1)
            ∙ (through_tick at v place.1 fit.0.changes have.0.0 have.0.1
            ∙ sym (ap (λ (b : Bool). if b then length (own v) + version_moment vs place else (if v.lsn.0 == place.0 then changes_through v.infos (own v) place.1 else 0)) is
            ∙ ap (λ (b : Bool). if b then changes_through v.infos (own v) place.1 else 0) same))))
        by false is false same rest =
            ap (λ (b : Bool). point (v ∷ vs) (if b then length (tick v) + place_moment infos (ticked_all vs) place else (if v.lsn.0 == place.0 then changes_through infos (tick v) place.1 else 0))) is
            ∙ (ap (λ (b : Bool). point (v ∷ vs) (if b then changes_through infos (tick v) place.1 else 0)) same
            ∙ (point_none (v ∷ vs)
            ∙ sym (ap (λ (b : Bool). if b then length (own v) + version_moment vs place else (if v.lsn.0 == place.0 then changes_through v.infos (own v) place.1 else 0)) is
            ∙ ap (λ (b : Bool). if b then changes_through v.infos (own v) place.1 else 0) same)))
