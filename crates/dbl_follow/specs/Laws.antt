-- Theorems over the definitions of followers.
use Rattle.std.specs.Prelude.{◌≡◌, ◌≢◌, ℕ, ℤ, Some, List, []}
use Rattle.dbl_model_table.specs.declared.change.Commit.{Commit}
use Rattle.dbl_follow.specs.Followed.{Following, awaited}
use Rattle.dbl_follow.specs.Steps.{Steps, mark_of, records_by}

-- The state of a follower after a commit is unique.
abbrev pub StepsAreOne : Type 0
StepsAreOne = (old : Following) (commit : Commit) (a b : Following) → Steps old commit a → Steps old commit b → a ≡ b

-- A watermark that the window doesn't wait for, as one that an earlier session wrote, opens and closes nothing, and has no record.
abbrev pub OtherMarksDoNothing : Type 0
OtherMarksDoNothing = (old new : Following) (commit : Commit) (value : List ℕ) (now : ℤ)
    → mark_of commit ≡ Some value → awaited old.window ≢ Some value → Steps old commit new
    → (new ≡ old) × (records_by old commit now ≡ [])
