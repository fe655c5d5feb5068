-- Of a fit history the first commits are a fit one, with the same rows after each of them.
use Rattle.std.proofs.Common.{◌≡◌, ◌∙◌, ◌≤◌, ℕ, zero, suc, List, [], ◌∷◌, ◌++◌, length, map, take, fold, refl, sym, ap, subst, arith}
use Rattle.std.specs.Prelude.{Option, option_map, unwrap_or, IsSome, IsSomeAnd}
use Rattle.std.specs.List.{AllByRecursion}
use Rattle.std.proofs.lemmas.List.{map-append, take-append-le}
use Rattle.std.proofs.lemmas.Option.{IfSome_then}
use Rattle.dbl_model_commit.specs.ModelTable.declared.table.TableName.{TableName}
use Rattle.dbl_model_commit.specs.ModelTable.declared.table.RawTable.{RawTable}
use Rattle.dbl_model_commit.specs.ModelTable.declared.table.RawRow.{RawRow}
use Rattle.dbl_model_commit.specs.ModelTable.declared.table.TableInfo.{TableInfo}
use Rattle.dbl_model_commit.specs.ModelTable.declared.row.Key.{Key}
use Rattle.dbl_model_commit.specs.ModelTable.Infos.{IsInfoOf, number_of}
use Rattle.dbl_model_commit.specs.ModelTable.Rows.{Rows, no_rows, all_changes}
use Rattle.dbl_model_commit.specs.ModelHistory.History.{RawCommit, RawChange, History, AreRising, name_of, raw_changes_of, entry_of}
use Rattle.dbl_model_commit.specs.ModelHistory.Ranges.{IsRawCommitInRange}
use Rattle.dbl_model_commit.specs.ModelHistory.Typed.{typed, typed_commit}
use Rattle.dbl_model_commit.specs.ModelHistory.Fit.{AltersNone, AreFit, AreInfosOf, IsFitHistory}
use Rattle.dbl_model_commit.specs.ModelHistory.InForce.{entry_after, entry_at, version_at, Versioned, infos_by, versioned_commit, versioned_from, opening_infos}
use Rattle.dbl_model_commit.specs.ModelHistory.VersionRows.{version_rows, rows_in_force, infos_in_force, WasInfo}
use Rattle.dbl_model_commit.proofs.ModelHistoryRowLemmas.{all_changes-append, AreFit-before}
use Rattle.dbl_source_model.specs.declared.selected.Selected.{Selected}
use Rattle.dbl_source_model.specs.Selected.{AreFirstOf, AreRowsAt, AreAnswered}

pub all_front : {A : Type 0} (P : A → Type 0) (xs ys : List A) → AllByRecursion P (xs ++ ys) → AllByRecursion P xs
all_front P [] ys all = tt
all_front P (x ∷ xs) ys all = (all.0, all_front P xs ys all.1)

rising_front : (low : ℕ) (xs ys : List RawCommit) → AreRising low (map (λ (c : RawCommit). c.lsn.0) (xs ++ ys)) → AreRising low (map (λ (c : RawCommit). c.lsn.0) xs)
rising_front low [] ys rising = tt
rising_front low (x ∷ xs) ys rising = (rising.0, rising_front x.lsn.0 xs ys rising.1)

-- the versions of the first commits are those of the commits with more
taken_front : (infos : List TableInfo) (xs ys : List RawCommit) (place : ℕ) → place ≤ length xs → take place (versioned_from infos (xs ++ ys)) ≡ take place (versioned_from infos xs)
taken_front infos xs ys zero le = refl
taken_front infos [] ys (suc place) le = absurd (omega (arith, le))
taken_front infos (x ∷ xs) ys (suc place) le =
    ap (λ (l : List Versioned). versioned_commit (infos_by x.body infos) x ∷ l) (taken_front (infos_by x.body infos) xs ys place (omega (arith, le)))

module _ (tables : List RawTable) (xs ys : List RawCommit) where
  abbrev old : History
  old = record { tables = tables; commits = xs }

  abbrev new : History
  new = record { tables = tables; commits = xs ++ ys }

  -- what is captured of one is captured of the other: the catalogue alone counts
  captured_too : (infos : List TableInfo) → AreInfosOf old infos → AreInfosOf new infos
  captured_too infos captured = record { distinct = captured.distinct; each = captured.each }

  parts : (infos : List TableInfo) → all_changes (typed infos new) ≡ all_changes (typed infos old) ++ all_changes (map (typed_commit infos) ys)
  parts infos = ap all_changes (map-append (typed_commit infos) xs ys) ∙ all_changes-append (typed infos old) (map (typed_commit infos) ys)

  pub fit_front : IsFitHistory new → IsFitHistory old
  fit_front fit = record {
    ranges = record { tables = fit.ranges.tables; commits = all_front IsRawCommitInRange xs ys fit.ranges.commits };
    opening = fit.opening;
    rising = rising_front 0 xs ys fit.rising;
    distinct = fit.distinct;
    unaltered = all_front (λ (commit : RawCommit). AltersNone commit.body) xs ys fit.unaltered;
    known = all_front (λ (commit : RawCommit). AllByRecursion (λ (change : RawChange). IsSome (entry_of old (name_of change))) (raw_changes_of commit.body)) xs ys fit.known;
    fit = λ infos captured. AreFit-before infos no_rows (all_changes (typed infos old)) (all_changes (map (typed_commit infos) ys)) (subst (AreFit infos no_rows) (parts infos) (fit.fit infos (captured_too infos captured)));
  }

  -- ---- what was in force stays so

  pub entry_front : (place : ℕ) (name : TableName) → place ≤ length xs → entry_at new place name ≡ entry_at old place name
  entry_front place name le =
      ap (λ (cs : List RawCommit). option_map (λ table. fold (λ entry commit. entry_after commit.body entry) table cs) (entry_of old name)) (take-append-le place xs ys le)

  infos_later : (infos : List TableInfo) (upto : ℕ) → upto ≤ length xs → AllByRecursion (WasInfo old upto) infos → AllByRecursion (WasInfo new upto) infos
  infos_later [] upto le each = tt
  infos_later (info ∷ infos) upto le each =
      let within : each.0.place ≤ length xs = omega (arith, each.0.not_after, le) in (
        record {
          place = each.0.place;
          not_after = each.0.not_after;
          is = subst (λ (o : Option RawTable). IsSomeAnd o (λ raw. IsInfoOf raw info)) (sym (entry_front each.0.place info.name within)) each.0.is;
        },
        infos_later infos upto le each.1,
      )

  infos_front : (infos : List TableInfo) (upto : ℕ) → upto ≤ length xs → AllByRecursion (WasInfo new upto) infos → AllByRecursion (WasInfo old upto) infos
  infos_front [] upto le each = tt
  infos_front (info ∷ infos) upto le each =
      let within : each.0.place ≤ length xs = omega (arith, each.0.not_after, le) in (
        record {
          place = each.0.place;
          not_after = each.0.not_after;
          is = subst (λ (o : Option RawTable). IsSomeAnd o (λ raw. IsInfoOf raw info)) (entry_front each.0.place info.name within) each.0.is;
        },
        infos_front infos upto le each.1,
      )

  rows_stay : (infos : List TableInfo) (place : ℕ) → place ≤ length xs → rows_in_force infos new place ≡ rows_in_force infos old place
  rows_stay infos place le = ap version_rows (taken_front (opening_infos old infos) xs ys place le)

  columns_stay : (infos : List TableInfo) (place : ℕ) → place ≤ length xs → infos_in_force infos new place ≡ infos_in_force infos old place
  columns_stay infos place le = ap (λ (cs : List RawCommit). fold (λ tables commit. infos_by commit.body tables) (opening_infos old infos) cs) (take-append-le place xs ys le)

  rows_at_front : (place : ℕ) (name : TableName) (above : Option Key) (limit : ℕ) (rows : List RawRow) → place ≤ length xs → AreRowsAt new place name above limit rows → AreRowsAt old place name above limit rows
  rows_at_front place name above limit rows le are infos were =
      IfSome_then (number_of infos name) (are infos (record { distinct = were.distinct; each = infos_later infos place le were.each }))
      (λ table first. (
        first.0,
        subst (λ (at : Rows). AreFirstOf (infos_in_force infos old place) table first.0 at above limit rows) (rows_stay infos place le)
            (subst (λ (now : List TableInfo). AreFirstOf now table first.0 (rows_in_force infos new place) above limit rows) (columns_stay infos place le) first.1),
      ))

  rows_at_later : (place : ℕ) (name : TableName) (above : Option Key) (limit : ℕ) (rows : List RawRow) → place ≤ length xs → AreRowsAt old place name above limit rows → AreRowsAt new place name above limit rows
  rows_at_later place name above limit rows le are infos were =
      IfSome_then (number_of infos name) (are infos (record { distinct = were.distinct; each = infos_front infos place le were.each }))
      (λ table first. (
        first.0,
        subst (λ (at : Rows). AreFirstOf (infos_in_force infos new place) table first.0 at above limit rows) (sym (rows_stay infos place le))
            (subst (λ (now : List TableInfo). AreFirstOf now table first.0 (rows_in_force infos old place) above limit rows) (sym (columns_stay infos place le)) first.1),
      ))

  version_front : (place : ℕ) (name : TableName) → place ≤ length xs → version_at new place name ≡ version_at old place name
  version_front place name le = ap (λ (entry : Option RawTable). unwrap_or (option_map (λ (table : RawTable). table.version) entry) 1) (entry_front place name le)

  -- an answer from before a history grew was right then
  pub answered_front : (from upto : ℕ) (name : TableName) (above : Option Key) (limit : ℕ) (answer : Selected) → upto ≤ length xs → AreAnswered new from upto name above limit answer → AreAnswered old from upto name above limit answer
  answered_front from upto name above limit answer le a =
      let within : a.place ≤ length xs = omega (arith, a.not_after, le) in
      record {
        absent = a.absent;
        place = a.place;
        not_before = a.not_before;
        not_after = a.not_after;
        version = a.version ∙ version_front a.place name within;
        are = rows_at_front a.place name above limit answer.rows within a.are;
      }

  -- and it stays right
  pub answered_later : (from upto : ℕ) (name : TableName) (above : Option Key) (limit : ℕ) (answer : Selected) → upto ≤ length xs → AreAnswered old from upto name above limit answer → AreAnswered new from upto name above limit answer
  answered_later from upto name above limit answer le a =
      let within : a.place ≤ length xs = omega (arith, a.not_after, le) in
      record {
        absent = a.absent;
        place = a.place;
        not_before = a.not_before;
        not_after = a.not_after;
        version = a.version ∙ sym (version_front a.place name within);
        are = rows_at_later a.place name above limit answer.rows within a.are;
      }
