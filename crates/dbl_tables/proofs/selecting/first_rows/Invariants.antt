use Rattle.std.proofs.Common.{◌≡◌, ◌≤◌, ◌++◌, length, take}
use Rattle.dbl_tables.proofs.SelectLemmas.{rows_of}
use Rattle.dbl_tables.proofs.selecting.first_rows.Given as goal

-- what was pushed, and what is to come
abbrev pub invariant-loop-key : goal.invariant-loop-key
invariant-loop-key l = record {
  so_far : take l.limit (l.rows.items ++ rows_of l._key-iterator) ≡ take l.limit (rows_of l.fn.slots);
  few : length l.rows.items ≤ l.limit;
}
