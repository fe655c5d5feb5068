use Rattle.std.proofs.Common.{◌∙◌, ap}
use Rattle.dbl_topic.specs.Faults.{topic_fault}
use Rattle.dbl_topic.proofs.log.TopicLog.make.Goals as goal

pub returns-in-Ok-clause-makes : goal.returns-in-Ok-clause-makes
returns-in-Ok-clause-makes g c = c.in-Ok.ensures.makes

pub returns-in-Err-clause-makes : goal.returns-in-Err-clause-makes
returns-in-Err-clause-makes g c =
    let made = c.in-Err.ensures.makes in
    record {
      small = made.small;
      later = made.later;
      cause = λ is. made.cause c.in-Err.ensures.refused;
      steady = λ no. made.steady (λ is. no (c.from.ensures ∙ ap topic_fault is));
    }
