-- In a history that alters no table, each stays as the catalogue has it, and the rows in the columns in force are the typed ones.
use Rattle.std.proofs.Common.{◌≡◌, ◌∙◌, ℕ, zero, suc, Bool, true, false, cond, List, [], ◌∷◌, ◌++◌, Option, Some, None, map, take, fold, refl, sym, ap, ap₂, subst, arith}
use Rattle.std.specs.Prelude.{IfSome, IsSomeAnd, option_map, unwrap_or, find}
use Rattle.std.specs.List.{AllByRecursion}
use Rattle.std.proofs.lemmas.Option.{IfSome_then}
use Rattle.dbl_model_commit.specs.ModelTable.declared.row.Key.{Key}
use Rattle.dbl_model_commit.specs.ModelTable.declared.table.RawRow.{RawRow}
use Rattle.dbl_model_commit.specs.ModelTable.declared.table.RawTable.{RawTable}
use Rattle.dbl_model_commit.specs.ModelTable.declared.table.TableInfo.{TableInfo}
use Rattle.dbl_model_commit.specs.ModelTable.declared.table.TableName.{TableName}
use Rattle.dbl_model_commit.specs.ModelTable.declared.change.Commit.{Commit}
use Rattle.dbl_model_commit.specs.ModelTable.Infos.{IsInfoOf, number_of}
use Rattle.dbl_model_commit.specs.ModelTable.Rows.{Rows, no_rows, rows_from, changes_of, all_changes}
use Rattle.dbl_model_commit.specs.ModelTable.Tables.{same_name}
use Rattle.dbl_model_commit.specs.ModelHistory.History.{RawBody, RawCommit, History, entry_of}
use Rattle.dbl_model_commit.specs.ModelHistory.History as raw
use Rattle.dbl_model_commit.specs.ModelHistory.Typed.{typed}
use Rattle.dbl_model_commit.specs.ModelHistory.Fit.{AltersNone, AreInfosOf}
use Rattle.dbl_model_commit.specs.ModelHistory.InForce.{Versioned, Alteration, plain_commit, versioned, entry_at, version_at, infos_by, opening_infos, reshaped}
use Rattle.dbl_model_commit.specs.ModelHistory.VersionRows.{altered_rows, rows_through, rows_in_force, infos_in_force, WasInfo, WereInfosOf}
use Rattle.dbl_model_history.proofs.InForceLemmas.{unaltered_entries, plain_versions, reshaped_itself}
use Rattle.dbl_model_history.proofs.RowKeys.{some_and}
use Rattle.dbl_model_history.proofs.RowLemmas.{rows_from-append}
use Rattle.dbl_source_model.specs.Growth.{KeepsColumns}
use Rattle.dbl_source_model.specs.Standings.{SourceState}
use Rattle.dbl_source_model.specs.Answered.{IsDescribed}
use Rattle.dbl_source_model.specs.Selected.{rows_up_to, AreFirstOf, AreRowsAt}
use Rattle.dbl_source_model.specs.Laws.{ValidHistoriesKeepTables}

-- ---- the catalogue

-- the version of an entry, 1 if there is none
abbrev version_of : Option RawTable → ℕ
version_of entry = unwrap_or (option_map (λ (table : RawTable). table.version) entry) 1

first_version : (tables : List RawTable) (name : TableName) → AllByRecursion (λ raw. raw.version ≡ 1) tables → version_of (find (λ raw. same_name raw.name name) tables) ≡ 1
first_version [] name opening = refl
first_version (raw ∷ tables) name opening = by (same_name raw.name name) (first_version tables name opening.1)
  where
    by : (b : Bool) → version_of (find (λ r. same_name r.name name) tables) ≡ 1 → version_of (cond b (Some raw) (find (λ r. same_name r.name name) tables)) ≡ 1
    by true rest = opening.0
    by false rest = rest

pub entry_kept : (history : History) (place : ℕ) (name : TableName) → KeepsColumns history → entry_at history place name ≡ entry_of history name
entry_kept history place name kept = unaltered_entries history place name kept

-- what was described is the first entry
pub entry_described : (name : TableName) (entry : Option RawTable) (s t : SourceState) → KeepsColumns t.history → IsDescribed name entry s t → entry ≡ entry_of s.history name
entry_described name entry s t kept said =
    said.1.is
    ∙ entry_kept t.history said.1.place name kept
    ∙ ap (λ (tables : List RawTable). find (λ raw. same_name raw.name name) tables) said.0.grows.tables

pub version_kept : (history : History) (place : ℕ) (name : TableName) → KeepsColumns history → AllByRecursion (λ raw. raw.version ≡ 1) history.tables → version_at history place name ≡ 1
version_kept history place name kept opening = ap version_of (unaltered_entries history place name kept) ∙ first_version history.tables name opening

-- ---- what is captured

described_up : (history : History) (upto : ℕ) (infos : List TableInfo) → KeepsColumns history → AllByRecursion (WasInfo history upto) infos
    → AllByRecursion (λ info. IsSomeAnd (entry_of history info.name) (λ raw. IsInfoOf raw info)) infos
described_up history upto [] kept each = tt
described_up history upto (info ∷ infos) kept each =
    (subst (λ (o : Option RawTable). IsSomeAnd o (λ raw. IsInfoOf raw info)) (unaltered_entries history each.0.place info.name kept) each.0.is, described_up history upto infos kept each.1)

described_first : (history : History) (upto : ℕ) (infos : List TableInfo) → KeepsColumns history → AllByRecursion (λ info. IsSomeAnd (entry_of history info.name) (λ raw. IsInfoOf raw info)) infos
    → AllByRecursion (WasInfo history upto) infos
described_first history upto [] kept each = tt
described_first history upto (info ∷ infos) kept each = (
  record {
    place = upto;
    not_after = omega arith;
    is = subst (λ (o : Option RawTable). IsSomeAnd o (λ raw. IsInfoOf raw info)) (sym (unaltered_entries history upto info.name kept)) each.0;
  },
  described_first history upto infos kept each.1,
)

pub captured_were : (history : History) (upto : ℕ) (infos : List TableInfo) → KeepsColumns history → AreInfosOf history infos → WereInfosOf history upto infos
captured_were history upto infos kept captured = record { distinct = captured.distinct; each = described_first history upto infos kept captured.each }

pub were_captured : (history : History) (upto : ℕ) (infos : List TableInfo) → KeepsColumns history → WereInfosOf history upto infos → AreInfosOf history infos
were_captured history upto infos kept were = record { distinct = were.distinct; each = described_up history upto infos kept were.each }

-- ---- columns

opened : (history : History) (infos : List TableInfo) → AllByRecursion (λ info. IsSomeAnd (entry_of history info.name) (λ table. IsInfoOf table info)) infos → opening_infos history infos ≡ infos
opened history [] each = refl
opened history (info ∷ infos) each =
    let found = some_and (entry_of history info.name) (λ table. IsInfoOf table info) each.0 in
    let here : unwrap_or (option_map (λ table. reshaped table.columns info) (entry_of history info.name)) info ≡ info =
    ap (λ (o : Option RawTable). unwrap_or (option_map (λ table. reshaped table.columns info) o) info) found.1 ∙ reshaped_itself found.0 info found.2 in
    ap₂ (λ (x : TableInfo) (l : List TableInfo). x ∷ l) here (opened history infos each.1)

infos_stay : (body : RawBody) (infos : List TableInfo) → AltersNone body → infos_by body infos ≡ infos
infos_stay (raw.Changes changes) infos none = refl
infos_stay (raw.Mark value) infos none = refl
infos_stay (raw.Alter name columns rows) infos none = absurd none

infos_folded : (commits : List RawCommit) (place : ℕ) (infos : List TableInfo) → AllByRecursion (λ commit. AltersNone commit.body) commits → fold (λ tables commit. infos_by commit.body tables) infos (take place commits) ≡ infos
infos_folded commits zero infos none = refl
infos_folded [] (suc place) infos none = refl
infos_folded (c ∷ commits) (suc place) infos none =
    ap (λ (l : List TableInfo). fold (λ tables commit. infos_by commit.body tables) l (take place commits)) (infos_stay c.body infos none.0)
    ∙ infos_folded commits place infos none.1

pub columns_kept : (infos : List TableInfo) (history : History) (place : ℕ) → KeepsColumns history → AreInfosOf history infos → infos_in_force infos history place ≡ infos
columns_kept infos history place kept captured =
    ap (λ (l : List TableInfo). fold (λ tables commit. infos_by commit.body tables) l (take place history.commits)) (opened history infos captured.each)
    ∙ infos_folded history.commits place infos kept

-- ---- rows

unaltered_rows : (infos : List TableInfo) (o : Option Alteration) (rows : Rows) → o ≡ None → altered_rows infos o rows ≡ rows
unaltered_rows infos None rows none = refl
unaltered_rows infos (Some alteration) rows none = cc

commit_through : (infos : List TableInfo) (v : Versioned) (rows : Rows) → v.infos ≡ infos → v.altered ≡ None → rows_through rows v ≡ rows_from infos rows (changes_of (plain_commit v))
commit_through infos v rows is none =
    unaltered_rows v.infos v.altered (rows_from v.infos rows (changes_of (plain_commit v))) none
    ∙ ap (λ (l : List TableInfo). rows_from l rows (changes_of (plain_commit v))) is

rows_folded : (infos : List TableInfo) (versions : List Versioned) (place : ℕ) (rows : Rows) → AllByRecursion (λ v. (v.infos ≡ infos) × (v.altered ≡ None)) versions
    → fold rows_through rows (take place versions) ≡ rows_from infos rows (all_changes (take place (map plain_commit versions)))
rows_folded infos versions zero rows each = refl
rows_folded infos [] (suc place) rows each = refl
rows_folded infos (v ∷ versions) (suc place) rows each =
    ap (λ (r : Rows). fold rows_through r (take place versions)) (commit_through infos v rows each.0.0 each.0.1)
    ∙ rows_folded infos versions place (rows_from infos rows (changes_of (plain_commit v))) each.1
    ∙ sym (rows_from-append infos rows (changes_of (plain_commit v)) (all_changes (take place (map plain_commit versions))))

pub rows_kept : (infos : List TableInfo) (history : History) (place : ℕ) → KeepsColumns history → AreInfosOf history infos → rows_in_force infos history place ≡ rows_up_to infos history place
rows_kept infos history place kept captured =
    let plain = plain_versions infos history captured kept in
    rows_folded infos (versioned infos history) place no_rows plain.1
    ∙ ap (λ (h : List Commit). rows_from infos no_rows (all_changes (take place h))) plain.0

pub valid_keeps : ValidHistoriesKeepTables
valid_keeps history place fit = record {
  entry = λ name. unaltered_entries history place name fit.unaltered;
  version = λ name. version_kept history place name fit.unaltered fit.opening;
  described = λ infos. (were_captured history place infos fit.unaltered, captured_were history place infos fit.unaltered);
  columns = λ infos captured. columns_kept infos history place fit.unaltered captured;
  rows = λ infos captured. rows_kept infos history place fit.unaltered captured;
}

-- ---- rows of an answer

-- Whether rows are the first ones of a captured table, typed by the catalogue's columns.
abbrev pub AreTypedRowsAt : History → ℕ → TableName → Option Key → ℕ → List RawRow → List TableInfo → Type 0
AreTypedRowsAt history place name above limit rows infos =
    IfSome (number_of infos name) (λ table. (info : TableInfo) × AreFirstOf infos table info (rows_up_to infos history place) above limit rows)

pub typed_rows : (history : History) (place : ℕ) (name : TableName) (above : Option Key) (limit : ℕ) (rows : List RawRow) (infos : List TableInfo) → KeepsColumns history → AreInfosOf history infos
    → AreRowsAt history place name above limit rows → AreTypedRowsAt history place name above limit rows infos
typed_rows history place name above limit rows infos kept captured are =
    IfSome_then (number_of infos name) (are infos (captured_were history place infos kept captured))
    (λ table first. (
      first.0,
      subst (λ (at : Rows). AreFirstOf infos table first.0 at above limit rows) (rows_kept infos history place kept captured)
          (subst (λ (now : List TableInfo). AreFirstOf now table first.0 (rows_in_force infos history place) above limit rows) (columns_kept infos history place kept captured) first.1),
    ))

pub rows_of_typed : (history : History) (place : ℕ) (name : TableName) (above : Option Key) (limit : ℕ) (rows : List RawRow) → KeepsColumns history
    → ((infos : List TableInfo) → AreInfosOf history infos → AreTypedRowsAt history place name above limit rows infos) → AreRowsAt history place name above limit rows
rows_of_typed history place name above limit rows kept typed infos were =
    let captured = were_captured history place infos kept were in
    IfSome_then (number_of infos name) (typed infos captured)
    (λ table first. (
      first.0,
      subst (λ (now : List TableInfo). AreFirstOf now table first.0 (rows_in_force infos history place) above limit rows) (sym (columns_kept infos history place kept captured))
          (subst (λ (at : Rows). AreFirstOf infos table first.0 at above limit rows) (sym (rows_kept infos history place kept captured)) first.1),
    ))
