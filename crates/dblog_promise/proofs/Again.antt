-- How many commits a session reads again.
use Rattle.std.proofs.Common.{◌≡◌, ◌∙◌, ◌≤◌, ℕ, suc, Bool, true, false, cond, Option, Some, None, List, [], ◌∷◌, ◌++◌, length, map, filter, refl, sym, ap, subst, arith}
use Rattle.std.specs.Prelude.{◌&&◌, nat_lt, nat_le}
use Rattle.dbl_base.specs.declared.lsn.Lsn.{Lsn}
use Rattle.dbl_record.specs.declared.record.Record.{Record}
use Rattle.dbl_record.specs.Cuts.{joined}
use Rattle.dbl_model_table.specs.declared.change.Commit.{Commit}
use Rattle.dbl_model_history.specs.History.{RawCommit, IsRising}
use Rattle.dbl_model_history.specs.Fit.{IsFitHistory}
use Rattle.dbl_model_history.specs.Typed.{typed_commit}
use Rattle.dbl_source.specs.SourceModel.Stated.{commits_after}
use Rattle.dbl_capture_laws.specs.Offset.declared.offset.Offset.{Offset}
use Rattle.dbl_capture_laws.specs.Faithful.Stores.{top_position, lag}
use Rattle.dbl_capture_laws.specs.Faithful.Faithful.{IsFaithful}
use Rattle.dbl_capture_laws.proofs.FaithfulFaithful.{faithful_records_stand}
use Rattle.dbl_capture_laws.proofs.FaithfulLists.{is_longer, after_top}
use Rattle.dbl_capture_laws.proofs.FaithfulStorePositions.{empty_logs_have_no_lag}
use Rattle.dbl_capture_laws.specs.CaptureModel.Entries.{SessionStart, WasFaithful}
use Rattle.dbl_capture_laws.specs.CaptureModel.Stages.{Stage, PartsHistory, read_at}
use Rattle.dbl_capture_laws.specs.CaptureModel.Going.{IsFirstOf, IsGoing}
use Rattle.dbl_capture_laws.proofs.CaptureModelEnding.{stood_of, lag_far}
use Rattle.dblog_promise.specs.RestartLaws.{FewCommitsAreReadAgain}
use Rattle.dblog_promise.proofs.Going.{goes}
use Rattle.dblog_promise.proofs.Farther.{le_on, under_none}

-- ---- lists

same_le : (a b : ℕ) → a ≡ b → a ≤ b
same_le a b is = omega (arith, is)

le_same : (a b c : ℕ) → a ≤ b → b ≡ c → a ≤ c
le_same a b c le is = omega (arith, le, is)

one_more : (a b : ℕ) → a ≤ b → a ≤ suc b
one_more a b le = omega (arith, le)

both_more : (a b : ℕ) → a ≤ b → suc a ≤ suc b
both_more a b le = omega (arith, le)

least : (n : ℕ) → 0 ≤ n
least n = omega arith

module _ {X : Type 0} (p : X → Bool) where
  -- no fewer pass of a longer list
  passing : (xs ys : List X) → length (filter p xs) ≤ length (filter p (xs ++ ys))
  passing [] ys = least (length (filter p ys))
  passing (x ∷ xs) ys = by (passing xs ys) (p x)
    where
      by : length (filter p xs) ≤ length (filter p (xs ++ ys)) → (b : Bool) → length (cond b (x ∷ filter p xs) (filter p xs)) ≤ length (cond b (x ∷ filter p (xs ++ ys)) (filter p (xs ++ ys)))
      by rest true = both_more (length (filter p xs)) (length (filter p (xs ++ ys))) rest
      by rest false = rest

  -- of what passes one test, as many pass this one as pass both
  both : (r : X → Bool) (xs : List X) → length (filter p (filter r xs)) ≡ length (filter (λ y. r y && p y) xs)
  both r [] = refl
  both r (x ∷ xs) = by (both r xs) (r x)
    where
      inner : length (filter p (filter r xs)) ≡ length (filter (λ y. r y && p y) xs) → (c : Bool)
          → length (cond c (x ∷ filter p (filter r xs)) (filter p (filter r xs))) ≡ length (cond c (x ∷ filter (λ y. r y && p y) xs) (filter (λ y. r y && p y) xs))
      inner rest true = ap suc rest
      inner rest false = rest

      by : length (filter p (filter r xs)) ≡ length (filter (λ y. r y && p y) xs) → (b : Bool)
          → length (filter p (cond b (x ∷ filter r xs) (filter r xs))) ≡ length (cond (b && p x) (x ∷ filter (λ y. r y && p y) xs) (filter (λ y. r y && p y) xs))
      by rest true = inner rest (p x)
      by rest false = rest

  of_map : {Y : Type 0} (f : Y → X) (ys : List Y) → length (filter p (map f ys)) ≡ length (filter (λ y. p (f y)) ys)
  of_map f [] = refl
  of_map f (y ∷ ys) = by (of_map f ys) (p (f y))
    where
      by : length (filter p (map f ys)) ≡ length (filter (λ y. p (f y)) ys) → (b : Bool)
          → length (cond b (f y ∷ filter p (map f ys)) (filter p (map f ys))) ≡ length (cond b (y ∷ filter (λ y. p (f y)) ys) (filter (λ y. p (f y)) ys))
      by rest true = ap suc rest
      by rest false = rest

-- ---- what was read

module _ (entry : SessionStart) (stage : Stage) (fit : IsFitHistory entry.history) (faithful : WasFaithful entry) (going : IsGoing entry stage) where
  abbrev top : ℕ
  top = top_position (joined entry.groups)

  abbrev parts : PartsHistory stage
  parts = (going.placed (stood_of entry faithful)).parts

  -- not more of what was read stands up to the top than between where it began and the top
  read_between : length (filter (λ (c : Commit). nat_le c.lsn.0 top) (read_at stage)) ≤ lag stage.history (joined entry.groups) (Some stage.first)
  read_between =
      le_same (length (filter (λ (c : Commit). nat_le c.lsn.0 top) (read_at stage))) (length (filter (λ (c : Commit). nat_le c.lsn.0 top) (read_at stage ++ parts.later))) (lag stage.history (joined entry.groups) (Some stage.first))
      (passing (λ (c : Commit). nat_le c.lsn.0 top) (read_at stage) parts.later)
      (ap (λ (l : List Commit). length (filter (λ (c : Commit). nat_le c.lsn.0 top) l)) (sym parts.stated)
      ∙ (of_map (λ (c : Commit). nat_le c.lsn.0 top) (typed_commit stage.first.infos) (commits_after stage.first.lsn stage.history.commits)
      ∙ both (λ (c : RawCommit). nat_le c.lsn.0 top) (λ (c : RawCommit). nat_lt stage.first.lsn.0 c.lsn.0) stage.history.commits))

  -- and these stood there when it began
  lag_was : (old : Option Offset) → IsFaithful entry.history entry.confirmed (joined entry.groups) old → IsFirstOf entry stage.history stage.first old
      → lag stage.history (joined entry.groups) (Some stage.first) ≤ lag entry.history (joined entry.groups) old
  lag_was None is began =
      same_le (lag stage.history (joined entry.groups) (Some stage.first)) 0
      (ap (λ (l : List Record). lag stage.history l (Some stage.first)) is.empty ∙ empty_logs_have_no_lag stage.history (Some stage.first))
  lag_was (Some old) is began =
      under_none (lag stage.history (joined entry.groups) (Some stage.first)) (lag entry.history (joined entry.groups) (Some old))
      (lag_far entry.history stage.history going.reading.more (joined entry.groups) (joined entry.groups) old stage.first 0 fit.rising going.reading.grown.commits
      (after_top entry.history going.reading.more (subst IsRising (is_longer entry.history stage.history going.reading.more going.reading.grown) going.reading.fit.rising) (joined entry.groups)
      (λ place item at. faithful_records_stand entry.history entry.confirmed (joined entry.groups) old place item is at))
      refl (same_le old.lsn.0 stage.first.lsn.0 (sym (ap (λ (l : Lsn). l.0) began.0.lsn))))

  few : length (filter (λ (c : Commit). nat_le c.lsn.0 top) (read_at stage)) ≤ lag entry.history (joined entry.groups) entry.offset
  few =
      le_on (length (filter (λ (c : Commit). nat_le c.lsn.0 top) (read_at stage))) (lag stage.history (joined entry.groups) (Some stage.first)) (lag entry.history (joined entry.groups) entry.offset)
      read_between (lag_was entry.offset faithful going.reading.began)

pub few_commits_are_read_again : FewCommitsAreReadAgain
few_commits_are_read_again entry stage asked fit faithful run = few entry stage fit faithful (goes entry asked fit faithful stage run)
