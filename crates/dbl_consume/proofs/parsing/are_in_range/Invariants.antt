use Rattle.std.proofs.Common.{◌≡◌, map, drop}
use Rattle.json.specs.Tape.{node_token}
use Rattle.dbl_consume.specs.JsonValues.{tokens_are_in_range}
use Rattle.dbl_consume.proofs.parsing.are_in_range.Given as goal

abbrev pub invariant-loop-node : goal.invariant-loop-node
invariant-loop-node l = tokens_are_in_range (map node_token (drop l.node-index l.nodes)) ≡ tokens_are_in_range (map node_token l.nodes)
