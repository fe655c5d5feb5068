use Rattle.dbl_demo_wal.proofs.encoding.commit_room.Given as goal

-- the sum is bounded at its end alone
abbrev pub invariant-loop-message : goal.invariant-loop-message
invariant-loop-message l = Unit {0}
