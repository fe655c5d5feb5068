use Rattle.dbl_record.proofs.Sizes.{short_has_form}
use Rattle.dbl_record.proofs.laws.short_groups_have_a_form.Goals as goal

pub returns : goal.returns
returns c = short_has_form
