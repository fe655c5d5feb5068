use Rattle.dbl_source_model.proofs.ReadLemmas.{are_blocks}
use Rattle.dbl_source_model.proofs.laws.read_messages_are_blocks.Goals as goal

pub returns : goal.returns
returns c = are_blocks
