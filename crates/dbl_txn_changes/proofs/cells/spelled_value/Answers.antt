use Rattle.std.proofs.Common.{inl, inr, refl}
use Rattle.dbl_model_commit.specs.Tuples.{spelled_value}
use Rattle.dbl_txn_changes.proofs.Texts.{unread}
use Rattle.dbl_txn_changes.proofs.cells.spelled_value.Goals as goal

pub returns-in-Err : goal.returns-in-Err
unfolding spelled_value
returns-in-Err c = elim c.refuse_text.ensures [
  | inl memory ↦ rw memory (inl refl)
  | inr told ↦ elim c.in-Err.ensures.fault [
    | inl memory ↦ absurd (told.0 memory)
    | inr fault ↦ (let read = unread c.args.column.now.ty c.args.text c.in-Err.error fault in rw (told.1, read.none, read.fault) (inr refl))
  ]
]
