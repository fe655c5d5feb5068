use Rattle.std.proofs.Common.{ap}
use Rattle.std.specs.Prelude.{Err}
use Rattle.dbl_journal.specs.declared.error.JournalError.{JournalError}
use Rattle.dbl_journal.proofs.journal.Journal.open.Goals as goal

pub returns-in-Ok-clause-keeps : goal.returns-in-Ok-clause-keeps
returns-in-Ok-clause-keeps g c = record {
  same = c.in-Ok.ensures.seen;
  crash = c.in-Ok.ensures.crash;
  later = c.in-Ok.ensures.cause.later;
  cause = λ never. absurd never;
  steady = λ no bytes told. c.in-Ok.ensures.steady bytes told (λ is. let t = is in cc);
}

pub returns-in-Err-clause-keeps : goal.returns-in-Err-clause-keeps
returns-in-Err-clause-keeps g c = record {
  same = c.in-Err.ensures.seen;
  crash = c.in-Err.ensures.crash;
  later = c.in-Err.ensures.cause.later;
  cause = λ is. c.in-Err.ensures.cause.cause (ap (λ (e : JournalError). Err e) is);
  steady = λ no bytes told. c.in-Err.ensures.steady bytes told (λ is. no (let t = is in cc));
}
