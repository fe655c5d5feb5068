-- The ghost members of the trait `Sink` as one value.
use Rattle.dbl_topic.specs.declared.sink.Sink.{Ghosts}

-- all that the ghost members say of a sink: its known groups, the groups that a crash may leave, whether it is usable, and the faults
abbrev pub SinkModel : Type 0 → Type 1
SinkModel K = Ghosts K
