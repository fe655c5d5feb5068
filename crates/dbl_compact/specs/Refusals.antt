-- The first record that a consumer refuses.
use Rattle.std.specs.Prelude.{ℕ, ◌+◌, List, [], ◌∷◌, Option, Some, None, Result, Ok, Err}
use Rattle.dbl_record.specs.declared.record.Record.{Record}
use Rattle.dbl_record.specs.declared.acts.ConsumeError.{ConsumeError}
use Rattle.dbl_consume.specs.declared.kinds.Kind.{Kind}
use Rattle.dbl_compact.specs.declared.error.CompactError.{CompactError}
use Rattle.dbl_compact.specs.declared.error.CompactError.TheVariants.{Refused}
use Rattle.dbl_compact.specs.Kept.{kind_at}

-- the refusal of a record with this index, or the one of the later records
abbrev pub refusal_or : ℕ → Result Kind ConsumeError → Option CompactError → Option CompactError
refusal_or index (Ok kind) later = later
refusal_or index (Err error) later = Some (Refused index error)

-- the refusal of the first refused record of these, of which the first has this index
abbrev pub refusal_from : ℕ → List ℕ → List Record → Option CompactError
refusal_from index placeholder [] = None
refusal_from index placeholder (item ∷ items) = refusal_or index (kind_at placeholder item) (refusal_from (index + 1) placeholder items)

-- the refusal of the first record that a consumer refuses, with its index from 0, if there is one
abbrev pub refusal : List ℕ → List Record → Option CompactError
refusal = refusal_from 0
