-- Whatever is asked for, what stands goes on standing: two laws.
use Rattle.std.proofs.Common.{◌≡◌, List, [], ◌∷◌, refl, subst}
use Rattle.std.specs.Prelude.{not, Result, Ok, Err}
use Rattle.dbl_tables_rows.specs.declared.demo_table.DemoTable.{DemoTable}
use Rattle.dbl_tables_rows.specs.declared.error.StepError.{StepError}
use Rattle.dbl_tables_rows.specs.declared.error.StepError.TheVariants as errors
use Rattle.dbl_tables_rows.specs.Acts.{Accepted, is_open}
use Rattle.dbl_tables_rows.specs.Acts.Accepted.{Began, Committed, RolledBack}
use Rattle.dbl_tables_laws.specs.Laws.{LocksAreApart, OpenChangesAreFit}
use Rattle.dbl_tables_laws.specs.Reachable.{AreTables, IsReachable}
use Rattle.dbl_tables_rows.specs.Serial.{accepted_onto, acts_after}
use Rattle.dbl_tables_rows.specs.Steps.{Step, judged}
use Rattle.dbl_tables_rows.specs.Steps.Step.{Begin, Commit, Rollback, Insert, Update, Delete, Truncate}
use Rattle.dbl_tables_laws.proofs.JudgedLemmas.{passed}
use Rattle.dbl_tables_laws.proofs.StandingLemmas.{stands_none, stands_begins, stands_rolls_back, stands_commits, stands_inserts, stands_updates, stands_deletes, stands_truncates}

module _ (tables : List DemoTable) (past : List Accepted) (can : AreTables tables) (standing : IsReachable tables past) where
  -- for every request
  pub stands_on : (c : Step) (r : Result Accepted StepError) → judged tables past c ≡ r → IsReachable tables (accepted_onto r past)
  stands_on c (Err e) is = standing
  stands_on (Begin s) (Ok act) is =
      let told = passed (is_open s past) errors.AlreadyOpen (Ok (Began s)) act is in
      let did : Began s ≡ act = (let same = told.1 in cc) in
      subst (λ (a : Accepted). IsReachable tables (a ∷ past)) did (stands_begins tables past standing s)
  stands_on (Commit s) (Ok act) is =
      let told = passed (not (is_open s past)) errors.NotOpen (Ok (Committed s)) act is in
      let did : Committed s ≡ act = (let same = told.1 in cc) in
      subst (λ (a : Accepted). IsReachable tables (a ∷ past)) did (stands_commits tables past standing s can)
  stands_on (Rollback s) (Ok act) is =
      let told = passed (not (is_open s past)) errors.NotOpen (Ok (RolledBack s)) act is in
      let did : RolledBack s ≡ act = (let same = told.1 in cc) in
      subst (λ (a : Accepted). IsReachable tables (a ∷ past)) did (stands_rolls_back tables past standing s)
  stands_on (Insert s name cells) (Ok act) is = stands_inserts tables past can standing s name cells act is
  stands_on (Update s name key set) (Ok act) is = stands_updates tables past can standing s name key set act is
  stands_on (Delete s name key) (Ok act) is = stands_deletes tables past can standing s name key act is
  stands_on (Truncate s names) (Ok act) is = stands_truncates tables past can standing s names act is

-- ---- all steps

module _ (tables : List DemoTable) (can : AreTables tables) where
  stands_after : (past : List Accepted) (steps : List Step) → IsReachable tables past → IsReachable tables (acts_after tables past steps)
  stands_after past [] standing = standing
  stands_after past (c ∷ steps) standing = stands_after (accepted_onto (judged tables past c) past) steps (stands_on tables past can standing c (judged tables past c) refl)

  -- after all steps from the first on
  pub stands_since : (steps : List Step) → IsReachable tables (acts_after tables [] steps)
  stands_since steps = stands_after [] steps (stands_none tables)

pub locks_apart : LocksAreApart
locks_apart tables steps can = (stands_since tables can steps).orderly

pub changes_fit : OpenChangesAreFit
changes_fit tables steps can = (stands_since tables can steps).fit
