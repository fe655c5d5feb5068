use Rattle.std.proofs.Common.{◌∙◌, ◌++◌, ◌∷◌, [], List, ap}
use Rattle.dbl_record.specs.declared.record.Record.{Record}
use Rattle.dbl_envelope.proofs.TellLemmas.{moved}
use Rattle.dbl_envelope.proofs.tell.tell_move.Goals as goal

pub returns : goal.returns
returns c =
    moved c.args.frame.now c.args.stamp.now c.args.key.now c.args.old.now c.args.cells.now c.args.out.now.items c.push-3.new.self.items
    c.in_ok-moved_from.field-0 c.in_ok-tombstone.field-0 c.in_ok-moved_to.field-0
    c.in_ok-moved_from.ensures c.in_ok-tombstone.ensures c.in_ok-moved_to.ensures
    (c.in_ok-push-3.ensures.items ∙ ap (λ (l : List Record). l ++ c.in_ok-moved_to.field-0 ∷ []) (c.in_ok-push-2.ensures.items ∙ ap (λ (l : List Record). l ++ c.in_ok-tombstone.field-0 ∷ []) c.in_ok-push.ensures.items))
