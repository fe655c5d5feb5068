use Rattle.dbl_value.proofs.HexForms.{uuid_texts_are_groups}
use Rattle.dbl_value.proofs.laws.uuid_texts_are_groups.Goals as goal

pub returns : goal.returns
returns c = uuid_texts_are_groups
