use Rattle.dblog_replay.specs.Masked.{all_masked}
use Rattle.dblog_replay.proofs.masking.MaskingReplayer.inside.Goals as goal

pub returns : goal.returns
returns c = λ options ms follows. c.inside.ensures options (all_masked options.mask ms) follows.follows
