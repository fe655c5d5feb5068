use Rattle.dbl_hooks_masks.specs.Messages.{masking}
use Rattle.dbl_hooks_masks.proofs.PlaceLemmas.{knows_masked}
use Rattle.dbl_hooks_masks.proofs.mapper.Mapper.message.Goals as goal

pub returns-clause-knows : goal.returns-clause-knows
returns-clause-knows g c ms knows =
    knows_masked (masking c.args.self.now.table c.args.self.now.column (g.M.Masker.mask c.args.self.now.masker)) ms c.args.message c.in_ok-shown.shown
    c.args.self.now.table c.args.self.now.column c.learn_place.new.places (c.in_ok-shown.ensures ms knows)
    (c.in_ok-learn_place.ensures.knows ms knows)
