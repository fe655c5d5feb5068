-- The commits of a fit history, as they are captured.
use Rattle.std.proofs.Common.{◌≡◌, ℕ, List, [], ◌∷◌, map, refl, sym, ap, subst}
use Rattle.dbl_model_table.specs.declared.table.TableInfo.{TableInfo}
use Rattle.dbl_model_history.specs.History.{RawCommit, AreRising}
use Rattle.dbl_model_history.specs.Typed.{typed_commit}
use Rattle.dbl_model_history.proofs.MomentLemmas.{lsns}
use Rattle.dbl_model_history.proofs.RangeLemmas.{typed_in_range}
use Rattle.dbl_consume_laws.specs.Commits.{FitHistoriesHaveFitCommits}

-- typing leaves the LSNs
lsns-typed : (infos : List TableInfo) (commits : List RawCommit) → lsns (map (typed_commit infos) commits) ≡ map (λ (commit : RawCommit). commit.lsn.0) commits
lsns-typed infos [] = refl
lsns-typed infos (commit ∷ commits) = ap (λ (l : List ℕ). commit.lsn.0 ∷ l) (lsns-typed infos commits)

pub fit_commits : FitHistoriesHaveFitCommits
fit_commits history infos fit captured = record {
  distinct = captured.distinct;
  rise = subst (AreRising 0) (sym (lsns-typed infos history.commits)) fit.rising;
  in_range = typed_in_range infos history fit.ranges;
  fit = fit.fit infos captured;
}
