use Rattle.std.proofs.Common.{◌≡◌, ◌+◌, map, drop}
use Rattle.json.specs.Tape.{node_token}
use Rattle.dbl_consume.specs.JsonValues.{opened_in}
use Rattle.dbl_consume.proofs.parsing.are_few_opened.Given as goal

abbrev pub invariant-loop-node : goal.invariant-loop-node
invariant-loop-node l = l.left + opened_in (map node_token l.nodes) ≡ 127 + opened_in (map node_token (drop l.node-index l.nodes))
