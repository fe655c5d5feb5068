use Rattle.dbl_faithful.proofs.Offsets.{more_records_keep_offsets}
use Rattle.dbl_faithful.proofs.kept_laws.more_records_keep_offsets.Goals as goal

pub returns : goal.returns
returns c = more_records_keep_offsets
