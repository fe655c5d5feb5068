use Rattle.dbl_value.proofs.DateForms.{days_are_dates}
use Rattle.dbl_value.proofs.laws.days_are_dates.Goals as goal

pub returns : goal.returns
returns c = days_are_dates
