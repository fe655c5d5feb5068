use Rattle.std.proofs.Common.{◌≡◌, map, take, filter}
use Rattle.dblog_replay.specs.Captures.{is_key_flagged}
use Rattle.dblog_replay.proofs.capture.flagged_names.Given as goal

abbrev pub invariant-loop-column : goal.invariant-loop-column
invariant-loop-column l = l.names.items ≡ map (λ column. column.name) (filter is_key_flagged (take l.column-index l.columns.items))
