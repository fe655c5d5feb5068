use Rattle.std.proofs.Common.{◌∙◌, List, [], ◌∷◌, ◌++◌, ap}
use Rattle.dbl_tables_changes.specs.declared.planned.Write.{Write}
use Rattle.dbl_tables_changes.proofs.planning.one_write.Goals as goal

pub returns : goal.returns
returns c = (
  c.in_ok-write.write,
  c.in_ok-push.ensures.items ∙ ap (λ (l : List Write). l ++ c.in_ok-write.write ∷ []) c.new-writes.ensures.items,
  record { key_is = c.in_ok-write.ensures.key; by = c.in_ok-write.ensures.by; row_is = c.in_ok-write.ensures.row },
)
