use Rattle.dbl_consume_laws.proofs.Letters.{events_have_letters}
use Rattle.dbl_consume_laws.proofs.record_laws.events_have_letters.Goals as goal

pub returns : goal.returns
returns c = events_have_letters
