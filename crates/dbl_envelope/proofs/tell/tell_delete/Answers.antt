use Rattle.std.proofs.Common.{◌∙◌, ◌++◌, ◌∷◌, [], ap₂, ap, append_assoc}
use Rattle.dbl_record.specs.declared.record.Record.{Record}
use Rattle.dbl_envelope.proofs.tell.tell_delete.Goals as goal

pub returns : goal.returns
returns c =
    let old = c.args.out.now.items in
    c.in_ok-push-2.ensures.items
    ∙ ap₂ (λ rs (r : Record). rs ++ r ∷ []) (c.in_ok-push.ensures.items ∙ ap (λ (r : Record). old ++ r ∷ []) c.in_ok-deleted_record.ensures) c.in_ok-tombstone.ensures
    ∙ append_assoc old _ _
