-- Cursors that only come on.
use Rattle.std.proofs.Common.{ℕ, List, [], ◌∷◌}
use Rattle.std.specs.Prelude.{zip}
use Rattle.std.specs.List.{AllZip}
use Rattle.dbl_faithful.specs.ModelHistory.declared.cursor.Cursor.{Cursor}
use Rattle.dbl_faithful.specs.Onward.{IsLaterCursor, IsLaterProgress}

pub cursors_stay : (cursors : List Cursor) → AllZip IsLaterCursor cursors cursors
cursors_stay [] = tt
cursors_stay (c ∷ cursors) = (record { last = λ key up. up; done = λ is. is }, cursors_stay cursors)

pub cursors_go_on : (a b c : List Cursor) → AllZip IsLaterCursor a b → AllZip IsLaterCursor b c → AllZip IsLaterCursor a c
cursors_go_on [] [] c one two = two
cursors_go_on [] (y ∷ b) c one two = absurd one
cursors_go_on (x ∷ a) [] c one two = absurd one
cursors_go_on (x ∷ a) (y ∷ b) [] one two = absurd two
cursors_go_on (x ∷ a) (y ∷ b) (z ∷ c) one two =
    (record { last = λ key up. two.0.last key (one.0.last key up); done = λ is. two.0.done (one.0.done is) }, cursors_go_on a b c one.1 two.1)

-- in the same versions
pub progress_on : (versions : List ℕ) (a b : List Cursor) → AllZip IsLaterCursor a b → AllZip IsLaterProgress (zip versions a) (zip versions b)
progress_on [] a b later = tt
progress_on (v ∷ versions) [] [] later = tt
progress_on (v ∷ versions) [] (y ∷ b) later = absurd later
progress_on (v ∷ versions) (x ∷ a) [] later = absurd later
progress_on (v ∷ versions) (x ∷ a) (y ∷ b) later = (λ same. later.0, progress_on versions a b later.1)
