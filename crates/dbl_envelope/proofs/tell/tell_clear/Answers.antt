use Rattle.std.proofs.Common.{◌∙◌, ◌++◌, ◌∷◌, [], ap}
use Rattle.dbl_record.specs.declared.record.Record.{Record}
use Rattle.dbl_envelope.proofs.tell.tell_clear.Goals as goal

pub returns : goal.returns
returns c = c.in_ok-push.ensures.items ∙ ap (λ (r : Record). c.args.out.now.items ++ r ∷ []) c.in_ok-truncated_record.ensures
