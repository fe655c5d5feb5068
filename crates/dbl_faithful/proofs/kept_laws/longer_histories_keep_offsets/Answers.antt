use Rattle.dbl_faithful.proofs.Longer.{longer_histories_keep_offsets}
use Rattle.dbl_faithful.proofs.kept_laws.longer_histories_keep_offsets.Goals as goal

pub returns : goal.returns
returns c = longer_histories_keep_offsets
