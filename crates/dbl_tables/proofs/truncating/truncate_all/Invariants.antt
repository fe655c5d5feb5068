use Rattle.std.proofs.Common.{◌≡◌, ◌-◌, ℕ, List, length, replicate, take}
use Rattle.dbl_tables.specs.Truncates.{TruncatesAll}
use Rattle.dbl_tables.proofs.truncating.truncate_all.Given as goal

abbrev pub invariant-loop-place : goal.invariant-loop-place
invariant-loop-place l =
    (session : List ℕ) → l.fn.names.items ≡ replicate (length l.places) session → (l.names.items ≡ replicate (length l.places - l.place-index) session) × TruncatesAll session (take l.place-index l.places) l.initial.tables.items l.tables.items
