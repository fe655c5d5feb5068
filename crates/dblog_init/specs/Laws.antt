-- Theorems about the answers of `init`.
use Rattle.std.specs.Prelude.{◌≡◌}
use Rattle.dblog_init.specs.Answers.{InitInput, InitEnd, Answers}

-- The contents of the disks and the input have one answer at most.
abbrev pub InitAnswersAreOne : Type 0
InitAnswersAreOne = (given : InitInput) (first second : InitEnd) → Answers given first → Answers given second → first ≡ second

-- The contents of the disks and the input always have an answer.
abbrev pub InitAnswersStand : Type 0
InitAnswersStand = (given : InitInput) → (end : InitEnd) × Answers given end
