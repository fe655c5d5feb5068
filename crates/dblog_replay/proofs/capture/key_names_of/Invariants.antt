use Rattle.std.proofs.Common.{◌≡◌, drop}
use Rattle.dblog_replay.specs.Captures.{key_names_of}
use Rattle.dblog_replay.proofs.capture.key_names_of.Given as goal

abbrev pub invariant-loop-key : goal.invariant-loop-key
invariant-loop-key l = key_names_of (drop l.key-index l.keys.items) (record { schema = l.schema; name = l.name }) l.columns.items ≡ key_names_of l.keys.items (record { schema = l.schema; name = l.name }) l.columns.items
