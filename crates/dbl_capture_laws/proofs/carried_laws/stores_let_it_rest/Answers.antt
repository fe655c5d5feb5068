use Rattle.dbl_capture_laws.proofs.Carried.{stores_let_it_rest}
use Rattle.dbl_capture_laws.proofs.carried_laws.stores_let_it_rest.Goals as goal

pub returns : goal.returns
returns c = stores_let_it_rest
