use Rattle.dbl_value.proofs.DateForms.{date_texts_are_days}
use Rattle.dbl_value.proofs.laws.date_texts_are_days.Goals as goal

pub returns : goal.returns
returns c = date_texts_are_days
