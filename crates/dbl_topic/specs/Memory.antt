-- In-memory sinks.
use Rattle.std.specs.Prelude.{ℕ, Bool, List, [], ◌∷◌, take, drop}
use Rattle.dbl_base.specs.Memory.{Plan}
use Rattle.dbl_record.specs.declared.record.Record.{Record}

-- the groups appended, the plan of faults, and whether the sink is usable
pub record Gathered : Type 0 where
  pub groups : List (List Record)
  pub plan : Plan
  pub live : Bool

-- the records split into groups of these sizes
abbrev pub grouped : List ℕ → List Record → List (List Record)
grouped [] records = []
grouped (size ∷ sizes) records = take size records ∷ grouped sizes (drop size records)
