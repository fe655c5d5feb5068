use Rattle.dbl_hooks_masks.proofs.FitLemmas.{fields_fit, message_fits}
use Rattle.dbl_hooks_masks.proofs.laws.masked_messages_fit.Goals as goal

pub returns-clause-fields : goal.returns-clause-fields
returns-clause-fields c = fields_fit

pub returns-clause-whole : goal.returns-clause-whole
returns-clause-whole c = message_fits
