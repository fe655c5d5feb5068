use Rattle.dbl_txn.proofs.FlagLemmas.{one_set}
use Rattle.dbl_txn.proofs.flags.set_flag.Goals as goal

pub returns : goal.returns
returns c = λ other. one_set c.args.flags.now.items c.extend.new.flags.items c.args.table other c.in_ok-extend.ensures
