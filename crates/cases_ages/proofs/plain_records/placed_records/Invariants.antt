use Rattle.std.proofs.Common.{◌≡◌, ◌+◌, ◌++◌, length}
use Rattle.cases_ages.specs.PlainEvents.{placed_records}
use Rattle.cases_ages.proofs.plain_records.placed_records.Given as goal

abbrev pub invariant-loop-texts : goal.invariant-loop-texts
invariant-loop-texts l = record {
  so_far : l.records.items ++ placed_records l.position (length l.records.items) l.texts-iterator.rest.items ≡ placed_records l.position 0 l.fn.told.items;
  count : length l.records.items + length l.texts-iterator.rest.items ≡ l.count;
}
