use Rattle.dbl_journal.proofs.journal.Journal.append.Goals as goal

pub returns-clause-left : goal.returns-clause-left
returns-clause-left g c entries lists = rw c.in_ok-bytes.ensures.entry at (c.append_built.ensures.left entries lists)

pub returns-clause-too_long : goal.returns-clause-too_long
returns-clause-too_long g c len = rw c.in_ok-bytes.ensures.entry at (c.append_built.ensures.too_long len)

pub returns-clause-puts : goal.returns-clause-puts
returns-clause-puts g c = c.append_built.ensures.puts
