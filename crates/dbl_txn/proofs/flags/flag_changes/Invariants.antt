use Rattle.std.proofs.Common.{◌≡◌, ◌||◌, ℕ, drop}
use Rattle.dbl_model_commit.specs.Shapes.{changes_table}
use Rattle.dbl_txn.specs.Stands.{flag_at}
use Rattle.dbl_txn.proofs.flags.flag_changes.Given as goal

abbrev pub invariant-loop-change : goal.invariant-loop-change
invariant-loop-change l = (other : ℕ) → (flag_at l.flags.items other || changes_table other (drop l.change-index l.changes.items))
    ≡ (flag_at l.fn.flags.items other || changes_table other l.changes.items)
