-- The watermarks of a window that may be left are its own ones, and at most two.
use Rattle.std.proofs.Common.{◌≡◌, ◌⊎◌, inl, inr, ◌≤◌, ℕ, zero, suc, List, [], ◌∷◌, ◌++◌, length, take, refl, sym, subst, arith}
use Rattle.std.specs.List.{AllByRecursion}
use Rattle.dbl_capture_work.specs.ModelHistory.History.{RawBody, RawCommit}
use Rattle.dbl_capture_work.specs.ModelHistory.History.RawBody.{Changes, Mark, Alter}
use Rattle.dbl_capture_work.specs.SourceModel.Growth.{mark_in_body, marks_in}
use Rattle.dbl_capture_work.specs.Window.Plans.{Plan, high_text, low_text}
use Rattle.dbl_capture_work.specs.Windowed.{own_marks}

-- the watermark of another is none, and of the window's own there are two
abbrev pub IsBodyOf : Plan → RawBody → Type 0
IsBodyOf plan (Changes changes) = Unit {0}
IsBodyOf plan (Mark value) = (value ≡ low_text plan) ⊎ (value ≡ high_text plan)
IsBodyOf plan (Alter name columns rows) = Unit {0}

abbrev IsOwnMark : Plan → List ℕ → Type 0
IsOwnMark plan value = (value ≡ low_text plan) ⊎ (value ≡ high_text plan)

some_own : (plan : Plan) (count : ℕ) → (length (take count (own_marks plan)) ≤ 2) × AllByRecursion (IsOwnMark plan) (take count (own_marks plan))
some_own plan zero = (omega arith, tt)
some_own plan (suc zero) = (omega arith, (inl refl, tt))
some_own plan (suc (suc zero)) = (omega arith, (inl refl, (inr refl, tt)))
some_own plan (suc (suc (suc n))) = (omega arith, (inl refl, (inr refl, tt)))

first_own : (plan : Plan) (body : RawBody) (values : List (List ℕ)) → AllByRecursion (IsOwnMark plan) (mark_in_body body ++ values) → IsBodyOf plan body × AllByRecursion (IsOwnMark plan) values
first_own plan (Changes changes) values own = (tt, own)
first_own plan (Mark value) values own = own
first_own plan (Alter name columns rows) values own = (tt, own)

bodies_of : (plan : Plan) (more : List RawCommit) → AllByRecursion (IsOwnMark plan) (marks_in more) → AllByRecursion (λ (c : RawCommit). IsBodyOf plan c.body) more
bodies_of plan [] own = tt
bodies_of plan (c ∷ more) own = let parts = first_own plan c.body (marks_in more) own in (parts.0, bodies_of plan more parts.1)

pub own_few : (plan : Plan) (more : List RawCommit) (count : ℕ) → marks_in more ≡ take count (own_marks plan) → length (marks_in more) ≤ 2
own_few plan more count is = subst (λ (l : List (List ℕ)). length l ≤ 2) (sym is) (some_own plan count).0

pub own_bodies : (plan : Plan) (more : List RawCommit) (count : ℕ) → marks_in more ≡ take count (own_marks plan) → AllByRecursion (λ (c : RawCommit). IsBodyOf plan c.body) more
own_bodies plan more count is = bodies_of plan more (subst (AllByRecursion (IsOwnMark plan)) (sym is) (some_own plan count).1)
