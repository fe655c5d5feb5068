use Rattle.dbl_value.proofs.RangeForms.{date_ranges_spell_no_value}
use Rattle.dbl_value.proofs.laws.date_ranges_spell_no_value.Goals as goal

pub returns : goal.returns
returns c = date_ranges_spell_no_value
