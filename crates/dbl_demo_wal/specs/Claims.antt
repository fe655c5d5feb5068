-- What the first bytes of an entry say.
use Rattle.std.specs.Prelude.{◌≡◌, ℕ, ◌<◌, ◌^◌, Option, None, Some, List, ◌∷◌, ◌++◌}
use Rattle.std.specs.Str.{byte}
use Rattle.dbl_record.specs.Fields.{number64}
use Rattle.dbl_demo_wal.specs.declared.entry.Entry.{Entry}
use Rattle.dbl_demo_wal.specs.declared.entry.Entry.TheVariants.{Commits, Marks, Confirms}

-- The bytes begin as the entry of a commit with which so many steps were done.
pub record BeginsAsCommit (bytes : List ℕ) (steps : ℕ) : Type 0 where
  pub steps_fit : steps < 2 ^ 64
  pub rest : List ℕ
  pub are : bytes ≡ byte "C" ∷ (number64 steps ++ rest)

-- The steps of an entry that is a commit; none for another entry.
abbrev pub steps_of_commit : Entry → Option ℕ
steps_of_commit (Commits steps messages) = Some steps
steps_of_commit (Marks steps value) = None
steps_of_commit (Confirms upto) = None
