-- The growth of a source's history. A call never takes back a commit, and other sessions never write a watermark.
use Rattle.std.specs.Prelude.{◌≡◌, ℕ, List, [], ◌∷◌, ◌++◌}
use Rattle.std.specs.List.{AllByRecursion}
use Rattle.dbl_model_commit.specs.ModelHistory.History.{RawBody, RawCommit, History, IsRising}
use Rattle.dbl_model_commit.specs.ModelHistory.History.RawBody.{Changes, Mark, Alter}
use Rattle.dbl_model_commit.specs.ModelHistory.Fit.{AltersNone}

-- Whether a commit has changes or alters a table, and is no watermark's.
abbrev pub HasChanges : RawBody → Type 0
HasChanges (Changes changes) = Unit {0}
HasChanges (Mark value) = ⊥
HasChanges (Alter name columns rows) = Unit {0}

-- Whether commits are those of other sessions: none is a watermark's.
abbrev pub AreOthers : List RawCommit → Type 0
AreOthers commits = AllByRecursion (λ commit. HasChanges commit.body) commits

-- Whether no commit of a history alters a table.
abbrev pub KeepsColumns : History → Type 0
KeepsColumns history = AllByRecursion (λ commit. AltersNone commit.body) history.commits

-- Whether at most other sessions' commits were added, with rising LSNs and the same catalogue before all commits, so that a position
-- names the same point of the history as before.
pub record Grows (old new : History) : Type 0 where
  pub tables : new.tables ≡ old.tables
  pub others : List RawCommit
  pub commits : new.commits ≡ old.commits ++ others
  pub are_others : AreOthers others
  pub rising : IsRising new

-- Whether one watermark of this value was written, exactly once, among other sessions' commits.
pub record Marks (value : List ℕ) (old new : History) : Type 0 where
  pub tables : new.tables ≡ old.tables
  pub before : List RawCommit
  pub mark : RawCommit
  pub after : List RawCommit
  pub commits : new.commits ≡ (old.commits ++ before) ++ mark ∷ after
  pub is_mark : mark.body ≡ Mark value
  pub before_are_others : AreOthers before
  pub after_are_others : AreOthers after
  pub rising : IsRising new

-- The values of the watermarks that a commit writes: one or none.
abbrev pub mark_in_body : RawBody → List (List ℕ)
mark_in_body (Changes changes) = []
mark_in_body (Mark value) = value ∷ []
mark_in_body (Alter name columns rows) = []

-- The values of all watermarks, in order.
abbrev pub marks_in : List RawCommit → List (List ℕ)
marks_in [] = []
marks_in (commit ∷ commits) = mark_in_body commit.body ++ marks_in commits
