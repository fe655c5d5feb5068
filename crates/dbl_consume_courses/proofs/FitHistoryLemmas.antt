-- Commits of valid histories.
use Rattle.std.proofs.Common.{◌≡◌, ◌∙◌, ◌<◌, ◌^◌, ℕ, List, [], ◌∷◌, ◌++◌, Option, None, map, refl, sym, ap, ap₂, subst}
use Rattle.std.specs.Prelude.{IfSome, IsSomeAnd, option_map, unwrap_or}
use Rattle.std.specs.List.{AllByRecursion}
use Rattle.dbl_model_table.specs.declared.table.RawTable.{RawTable}
use Rattle.dbl_model_table.specs.declared.table.TableInfo.{TableInfo}
use Rattle.dbl_model_table.specs.declared.table.TableName.{TableName}
use Rattle.dbl_model_table.specs.declared.change.Body.TheVariants.{Changes}
use Rattle.dbl_model_table.specs.declared.change.Change.{Change}
use Rattle.dbl_model_table.specs.declared.change.Commit.{Commit}
use Rattle.dbl_model_table.specs.Infos.{IsInfoOf}
use Rattle.dbl_model_table.specs.Rows.{Rows, no_rows, rows_after, rows_from, changes_of, all_changes}
use Rattle.dbl_model_table.specs.Tables.{same_name, are_distinct}
use Rattle.dbl_model_history.specs.History.{RawBody, RawCommit, History, AreRising, entry_of}
use Rattle.dbl_model_history.specs.History as raw
use Rattle.dbl_model_history.specs.Ranges.{most_events, IsBodyInRange, IsCommitInRange}
use Rattle.dbl_model_history.specs.Typed.{typed_commit}
use Rattle.dbl_model_history.specs.Fit.{AltersNone, AreFit}
use Rattle.dbl_model_history.specs.InForce.{reshaped, Alteration, Versioned, plain_commit, infos_by, alteration_in, versioned_commit, versioned_from, FollowsInfos, AreVersionsFrom, opening_infos}
use Rattle.dbl_model_history.specs.KeptKeys.{HasKeyOf}
use Rattle.dbl_model_history.specs.VersionRows.{inserts, altered_rows}
use Rattle.dbl_model_history.specs.FitVersions.{IsFitAlteration, AreFitFrom}
use Rattle.dbl_model_history.proofs.InForceLemmas.{reshaped_itself}
use Rattle.dbl_model_history.proofs.KeptKeysLemmas.{alike_now, versions_follow}
use Rattle.dbl_model_history.proofs.RangeLemmas.{versions_in_range}
use Rattle.dbl_model_history.proofs.RowKeys.{some_and}
use Rattle.dbl_model_history.proofs.RowLemmas.{AreFit-before}
use Rattle.dbl_consume_courses.specs.FitHistories.{FitHistoriesHaveFitVersions, PlainHistoriesHaveFitVersions}

-- ---- LSNs and names

same_lsns : (infos : List TableInfo) (commits : List RawCommit) → map (λ (c : Commit). c.lsn.0) (map plain_commit (versioned_from infos commits)) ≡ map (λ (c : RawCommit). c.lsn.0) commits
same_lsns infos [] = refl
same_lsns infos (c ∷ commits) = ap (λ (l : List ℕ). c.lsn.0 ∷ l) (same_lsns (infos_by c.body infos) commits)

same_names : (history : History) (infos : List TableInfo) → AllByRecursion (λ info. IsSomeAnd (entry_of history info.name) (λ table. HasKeyOf table info)) infos
    → map (λ (info : TableInfo). info.name) (opening_infos history infos) ≡ map (λ (info : TableInfo). info.name) infos
same_names history [] each = refl
same_names history (info ∷ infos) each =
    let found = some_and (entry_of history info.name) (λ table. HasKeyOf table info) each.0 in
    let here : unwrap_or (option_map (λ table. reshaped table.columns info) (entry_of history info.name)) info ≡ reshaped found.0.columns info =
    ap (λ (o : Option RawTable). unwrap_or (option_map (λ table. reshaped table.columns info) o) info) found.1 in
    let named : info.name ≡ (reshaped found.0.columns info).name = (alike_now found.0 info found.2 found.0.columns refl).name in
    ap (λ (i : TableInfo). i.name ∷ map (λ (x : TableInfo). x.name) (opening_infos history infos)) here
    ∙ (ap (λ (n : TableName). n ∷ map (λ (x : TableInfo). x.name) (opening_infos history infos)) (sym named) ∙ ap (λ (l : List TableName). info.name ∷ l) (same_names history infos each.1))

pub fit_versions : FitHistoriesHaveFitVersions
fit_versions history infos valid have = record {
  follow = versions_follow history infos have valid.keys;
  distinct = ap (are_distinct same_name) (same_names history infos have.each) ∙ have.distinct;
  rise = subst (AreRising 0) (sym (same_lsns (opening_infos history infos) history.commits)) valid.rising;
  fit = valid.fit infos have;
}

-- ---- without alterations

infos_stay : (body : RawBody) (infos : List TableInfo) → AltersNone body → infos_by body infos ≡ infos
infos_stay (raw.Changes changes) infos none = refl
infos_stay (raw.Mark value) infos none = refl
infos_stay (raw.Alter name columns rows) infos none = absurd none

none_altered : (body : RawBody) (infos : List TableInfo) → AltersNone body → alteration_in infos body ≡ None
none_altered (raw.Changes changes) infos none = refl
none_altered (raw.Mark value) infos none = refl
none_altered (raw.Alter name columns rows) infos none = absurd none

opened : (history : History) (infos : List TableInfo) → AllByRecursion (λ info. IsSomeAnd (entry_of history info.name) (λ table. IsInfoOf table info)) infos → opening_infos history infos ≡ infos
opened history [] each = refl
opened history (info ∷ infos) each =
    let found = some_and (entry_of history info.name) (λ table. IsInfoOf table info) each.0 in
    let here : unwrap_or (option_map (λ table. reshaped table.columns info) (entry_of history info.name)) info ≡ info =
    ap (λ (o : Option RawTable). unwrap_or (option_map (λ table. reshaped table.columns info) o) info) found.1 ∙ reshaped_itself found.0 info found.2 in
    ap₂ (λ (x : TableInfo) (l : List TableInfo). x ∷ l) here (opened history infos each.1)

follow_plain : (infos : List TableInfo) (commits : List RawCommit) → AllByRecursion (λ commit. AltersNone commit.body) commits → AreVersionsFrom infos (versioned_from infos commits)
follow_plain infos [] none = tt
follow_plain infos (c ∷ commits) none =
    subst (λ (l : List TableInfo). AreVersionsFrom infos (versioned_commit l c ∷ versioned_from l commits)) (sym (infos_stay c.body infos none.0))
    (subst (FollowsInfos infos (versioned_commit infos c)) (sym (none_altered c.body infos none.0)) refl, follow_plain infos commits none.1)

fit_after : (infos : List TableInfo) (at : Rows) (cs ds : List Change) → AreFit infos at (cs ++ ds) → AreFit infos (rows_from infos at cs) ds
fit_after infos at [] ds fit = fit
fit_after infos at (c ∷ cs) ds fit = fit_after infos (rows_after infos c at) cs ds fit.1

-- what the range of a history says of a commit
abbrev IsInRange : Versioned → Type 0
IsInRange v = IsCommitInRange (plain_commit v) × (most_events (changes_of (plain_commit v)) < 2 ^ 62)
    × IfSome v.altered (λ alteration. IsBodyInRange (Changes (inserts v.infos alteration.table alteration.rows)))

fit_plain : (infos : List TableInfo) (at : Rows) (commits : List RawCommit) → AllByRecursion (λ commit. AltersNone commit.body) commits → AreFit infos at (all_changes (map (typed_commit infos) commits))
    → AllByRecursion IsInRange (versioned_from infos commits) → AreFitFrom at (versioned_from infos commits)
fit_plain infos at [] none fit range = tt
fit_plain infos at (c ∷ commits) none fit range =
    let same : infos_by c.body infos ≡ infos = infos_stay c.body infos none.0 in
    let in_range : AllByRecursion IsInRange (versioned_commit infos c ∷ versioned_from infos commits) =
    subst (λ (l : List TableInfo). AllByRecursion IsInRange (versioned_commit l c ∷ versioned_from l commits)) same range in
    let none_here : alteration_in infos c.body ≡ None = none_altered c.body infos none.0 in
    let own : List Change = changes_of (typed_commit infos c) in
    let later : List Change = all_changes (map (typed_commit infos) commits) in
    subst (λ (l : List TableInfo). AreFitFrom at (versioned_commit l c ∷ versioned_from l commits)) (sym same) (
      record {
        changes = AreFit-before infos at own later fit;
        altered = subst (λ (o : Option Alteration). IfSome o (IsFitAlteration infos at)) (sym none_here) tt;
        in_range = in_range.0.0;
        few = in_range.0.1;
      },
      subst (λ (o : Option Alteration). AreFitFrom (altered_rows infos o (rows_from infos at own)) (versioned_from infos commits)) (sym none_here)
          (fit_plain infos (rows_from infos at own) commits none.1 (fit_after infos at own later fit) in_range.1),
    )

pub plain_fit_versions : PlainHistoriesHaveFitVersions
plain_fit_versions history infos valid captured =
    let same : opening_infos history infos ≡ infos = opened history infos captured.each in
    record {
      follow = subst (λ (l : List TableInfo). AreVersionsFrom infos (versioned_from l history.commits)) (sym same) (follow_plain infos history.commits valid.unaltered);
      distinct = captured.distinct;
      rise = subst (AreRising 0) (sym (same_lsns (opening_infos history infos) history.commits)) valid.rising;
      fit = subst (λ (l : List TableInfo). AreFitFrom no_rows (versioned_from l history.commits)) (sym same)
          (fit_plain infos no_rows history.commits valid.unaltered (valid.fit infos captured)
          (subst (λ (l : List TableInfo). AllByRecursion IsInRange (versioned_from l history.commits)) same (versions_in_range infos history valid.ranges)));
    }
