use Rattle.std.proofs.Common.{◌≡◌, ap, subst, sym}
use Rattle.std.specs.Prelude.{Err}
use Rattle.dbl_journal.specs.Calls.{Keeps}
use Rattle.dbl_journal.specs.declared.error.JournalError.TheVariants as journal
use Rattle.dbl_topic.specs.declared.error.TopicError.{TopicError}
use Rattle.dbl_topic.specs.declared.error.TopicError.TheVariants.{Journal}
use Rattle.dbl_topic.proofs.log.check_log.Goals as goal

pub returns-in-Ok-clause-good : goal.returns-in-Ok-clause-good
returns-in-Ok-clause-good g c entries lists =
    let good = c.in-Ok.ensures.good entries lists in
    (good.0, good.1, record { entries = entries; lists = c.in-Ok.ensures.lists entries lists; are = good.1 })

pub returns-in-Ok-clause-keeps : goal.returns-in-Ok-clause-keeps
returns-in-Ok-clause-keeps g c = record {
  same = c.in-Ok.ensures.seen;
  crash = c.in-Ok.ensures.crash;
  later = c.in-Ok.ensures.cause.later;
  cause = λ never. absurd never;
  steady = λ no. c.in-Ok.ensures.steady (λ is. let t = is in cc);
}

pub returns-in-Err-clause-keeps : goal.returns-in-Err-clause-keeps
returns-in-Err-clause-keeps g c =
    subst (λ (d : g.row.D.Denot). Keeps g.D.Disk (c.in-Err.error ≡ Journal journal.Failed) c.args.journal.disk d) (sym c.into_disk.ensures)
    (record {
      same = c.in-Err.ensures.seen;
      crash = c.in-Err.ensures.crash;
      later = c.in-Err.ensures.cause.later;
      cause = λ is. c.in-Err.ensures.cause.cause (ap (λ (e : TopicError). Err e) is);
      steady = λ no. c.in-Err.ensures.steady (λ is. no (let t = is in cc));
    })
