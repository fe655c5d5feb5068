use Rattle.std.proofs.Common.{None, refl}
use Rattle.dbl_consume.proofs.TableLemmas.{rows_changed}
use Rattle.dbl_consume.proofs.tables.wipe.Goals as goal

pub returns : goal.returns
returns c = rows_changed c.args.tables.now c.remove.new.self c.args.topic.now None (λ k row. None) c.remove.ensures.updates (λ k. refl)
