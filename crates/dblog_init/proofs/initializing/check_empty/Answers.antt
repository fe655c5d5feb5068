use Rattle.std.proofs.Common.{refl, rules}
use Rattle.dblog_init.proofs.MadeLemmas.{nil_of, some_of}
use Rattle.dblog_init.proofs.initializing.check_empty.Goals as goal

pub returns-in-Ok-eq0-clause-asks : goal.returns-in-Ok-eq0-clause-asks
returns-in-Ok-eq0-clause-asks g c = record {
  empty = λ bytes told. (let nil = nil_of bytes _ (c.in-Ok-eq0.ensures.told bytes told) c.in-Ok-eq0.field-0-test in search rules);
  holds = λ bytes told is. absurd (let t = is in cc);
  asked = record {
    keeps = record {
      same = c.len.ensures.seen;
      crash = λ crashed may. (c.len.ensures.crash crashed).0 may;
      later = c.len.ensures.cause.later;
      cause = λ is. absurd (let t = is in cc);
      steady = λ no bytes told. c.in-Ok-eq0.ensures.steady bytes told;
    };
    unsynced = λ crashed may. (c.len.ensures.crash crashed).1 may;
  };
}

pub returns-in-Ok-clause-asks : goal.returns-in-Ok-clause-asks
returns-in-Ok-clause-asks g c = record {
  empty = λ bytes told. tt;
  holds = λ bytes told is. some_of bytes _ (c.in-Ok.ensures.told bytes told) c.in-Ok.field-0-test.1;
  asked = record {
    keeps = record {
      same = c.len.ensures.seen;
      crash = λ crashed may. (c.len.ensures.crash crashed).0 may;
      later = c.len.ensures.cause.later;
      cause = λ is. absurd (let t = is in cc);
      steady = λ no bytes told. c.in-Ok.ensures.steady bytes told;
    };
    unsynced = λ crashed may. (c.len.ensures.crash crashed).1 may;
  };
}

pub returns-in-Err-clause-asks : goal.returns-in-Err-clause-asks
returns-in-Err-clause-asks g c = record {
  empty = λ bytes told. tt;
  holds = λ bytes told is. absurd (let t = is in cc);
  asked = record {
    keeps = record {
      same = c.len.ensures.seen;
      crash = λ crashed may. (c.len.ensures.crash crashed).0 may;
      later = c.len.ensures.cause.later;
      cause = λ is. c.in-Err.ensures.cause.cause refl;
      steady = λ no. absurd (no refl);
    };
    unsynced = λ crashed may. (c.len.ensures.crash crashed).1 may;
  };
}
