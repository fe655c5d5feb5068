-- For private clauses: a pass over records from the last to the first.
use Rattle.std.specs.Prelude.{◌≡◌, ℕ, List, reverse}
use Rattle.dbl_record.specs.declared.record.Record.{Record}
use Rattle.dbl_compact.specs.declared.compacting.Pass.{Pass}
use Rattle.dbl_compact.specs.Kept.{kept}
use Rattle.dbl_compact.specs.Refusals.{refusal_from}
use Rattle.dbl_compact.specs.Compactors.{HasRead, placeholder_of}

-- the pass has read these records, of which the first has this index
pub record IsPassOver (placeholder : List ℕ) (index : ℕ) (records : List Record) (pass : Pass) : Type 0 where
  pub same : placeholder_of pass.compactor ≡ placeholder
  pub read : HasRead records pass.compactor
  pub keeps : reverse pass.kept.items ≡ kept placeholder records
  pub refuses : pass.refused ≡ refusal_from index placeholder records
