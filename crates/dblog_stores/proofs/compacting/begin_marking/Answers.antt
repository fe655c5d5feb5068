use Rattle.std.proofs.Common.{refl}
use Rattle.dblog_stores.proofs.compacting.begin_marking.Goals as goal

pub returns-in-Ok-clause-begun : goal.returns-in-Ok-clause-begun
returns-in-Ok-clause-begun c = λ number. record { same = c.in-Ok.ensures.placeholder; read = c.in-Ok.ensures.read; marks_are = c.new.ensures; refuses = refl }
