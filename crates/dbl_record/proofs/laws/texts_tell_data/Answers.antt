use Rattle.dbl_record.proofs.Back.{texts_tell_data}
use Rattle.dbl_record.proofs.laws.texts_tell_data.Goals as goal

pub returns : goal.returns
returns c = texts_tell_data
