use Rattle.std.proofs.Common.{◌≡◌, ◌∙◌, Bool, true, false, not, refl, sym}
use Rattle.dbl_envelope.proofs.ClashLemmas.{moves_given}
use Rattle.dbl_envelope.proofs.tell.tell_update.Goals as goal

not_moved : (same : Bool) → not same ≡ true → same ≡ false
not_moved true h = sym h
not_moved false h = refl

pub tell_move-requires-clause-given : goal.tell_move-requires-clause-given
tell_move-requires-clause-given c =
    moves_given c.args.frame.now.info.now c.args.key.now c.args.old.now c.args.cells.now c.requires.suits (not_moved _ (sym c.is_moved.ensures ∙ c.if-is_moved.true))
