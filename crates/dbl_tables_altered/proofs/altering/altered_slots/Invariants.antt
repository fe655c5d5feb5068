use Rattle.std.proofs.Common.{ℕ, List, length}
use Rattle.std.specs.List.Sorted.{IsStrictlySortedBy}
use Rattle.std.specs.Map.{keys_of}
use Rattle.dbl_model_table.specs.declared.row.Key.{Key}
use Rattle.dbl_model_table.specs.Infos.{catalogue_of}
use Rattle.dbl_model_table.specs.Keys.{key_cmp}
use Rattle.dbl_tables_altered.specs.Altered.{HasRoom}
use Rattle.dbl_tables_altered.proofs.SlotLemmas.{slot_in, IsSoFar}
use Rattle.dbl_tables_altered.proofs.altering.altered_slots.Given as goal

-- the keys that are passed have their altered rows
abbrev pub invariant-loop-key : goal.invariant-loop-key
invariant-loop-key l = record {
  sorted : IsStrictlySortedBy key_cmp (keys_of l.key-iterator);
  so_far : HasRoom l.alteration (length l.info.columns) → (q : Key) → IsSoFar l.alteration l.oid (catalogue_of l.info).columns l.slots.entries (slot_in l.key-iterator q) q l.altered;
}
