-- The contents of the stores that `init` makes.
use Rattle.std.specs.Prelude.{ℕ, None, List, []}
use Rattle.dbl_topic.specs.Logs.{IsLog}
use Rattle.dbl_offset.specs.Stores.{IsStore}

-- The bytes are a topic log without a record.
abbrev pub IsEmptyLog : List ℕ → Type 0
IsEmptyLog bytes = IsLog bytes []

-- The bytes are a store without an offset.
abbrev pub IsEmptyStore : List ℕ → Type 0
IsEmptyStore bytes = IsStore bytes None
