use Rattle.std.proofs.Common.{◌∙◌}
use Rattle.dbl_source_log.proofs.DescribedLemmas.{described_more, described_same, described_kept}
use Rattle.dbl_source_log.proofs.reading.remember.Goals as goal

pub returns-in_ok-insert-in-Some-clause-ok : goal.returns-in_ok-insert-in-Some-clause-ok
returns-in_ok-insert-in-Some-clause-ok c message past is all =
    described_more message past c.args.described.now c.insert.new.self c.in-Some.field-0 (is ∙ c.in-Some.is) c.in_ok-insert-in-Some.ensures.updates.0 all

pub returns-in_err-insert-in-Some-clause-err : goal.returns-in_err-insert-in-Some-clause-err
returns-in_err-insert-in-Some-clause-err c = described_kept c.from_residual.result c.args.described.now c.insert.new.self c.in_err-insert-in-Some.ensures.err

pub returns-in-None-clause-ok : goal.returns-in-None-clause-ok
returns-in-None-clause-ok c message past is all = described_same message past c.args.described.now (is ∙ c.in-None.is) all
