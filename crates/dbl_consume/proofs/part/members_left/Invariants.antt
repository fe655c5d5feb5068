use Rattle.std.proofs.Common.{◌≡◌, length}
use Rattle.json.specs.Json as json
use Rattle.json.specs.Find.{InMembers}
use Rattle.dbl_consume.specs.JsonValues.{data_members}
use Rattle.dbl_consume.specs.Parts.{HasMembers}
use Rattle.dbl_consume.proofs.CellLemmas.{cells_before}
use Rattle.dbl_consume.proofs.part.members_left.Given as goal

abbrev pub invariant-members : goal.invariant-members
invariant-members l = record {
  left : HasMembers l.members;
  copied : (ms : json.Members) → InMembers l.initial.members ms → (rest : json.Members) × InMembers l.members rest × (cells_before l.cells.items (data_members rest) ≡ data_members ms);
}

abbrev pub decreases-members : goal.decreases-members
decreases-members l = length l.members
