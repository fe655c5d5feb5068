-- The ghost members of the trait `Source` as one value.
use Rattle.dbl_source.specs.declared.source.Source.{Ghosts}

-- all that the ghost members say of a source: its state, its answers, whether they conform, what a crash may leave, and the faults
abbrev pub SourceModel : Type 0 → Type 1
SourceModel S = Ghosts S
