use Rattle.std.proofs.Common.{sym, rules, ap, refl}
use Rattle.dbl_capture_laws.proofs.Keeping.{ok_then}
use Rattle.dbl_capture_laws.proofs.Turning.{armed_next, none_waits, open_table, rested_next}
use Rattle.dbl_source.specs.SourceModel.Standings.{SourceState}
use Rattle.dbl_capture_laws.proofs.Advancing.{longer_left}
use Rattle.dbl_capture_laws.proofs.Telling.{not_both}
use Rattle.dbl_capture.proofs.turns.open_next_window.Goals as goal

pub arm-requires : goal.arm-requires
arm-requires g c = record {
  live = c.requires.live;
  ready = c.requires.ready;
  absent = none_waits c.args.work.now c.args.work.now.follower.window c.in-Some.table (sym c.in-Some.ensures);
  is_open = open_table c.args.work.now c.in-Some.table (sym c.in-Some.ensures);
  number = c.requires.number;
}

pub returns-in-Some-clause-state : goal.returns-in-Some-clause-state
returns-in-Some-clause-state g c = record {
  waits = ok_then c.arm.result _ _ c.arm.ensures.state.same (λ armed. armed_next c.args.work.now c.arm.new.work c.in-Some.table c.requires.ready (sym c.in-Some.ensures) armed);
  reading = c.arm.ensures.state.reading;
  quiet = λ quiet. c.arm.ensures.state.quiet;
}

pub returns-in-None-clause-state : goal.returns-in-None-clause-state
returns-in-None-clause-state g c = record {
  waits = rested_next c.args.work.now c.requires.ready (sym c.in-None.ensures);
  reading = refl;
  quiet = λ quiet. quiet;
}

pub returns-in-Some-clause-session : goal.returns-in-Some-clause-session
returns-in-Some-clause-session g c = record {
  next = c.arm.ensures.session.next;
  left = c.arm.ensures.session.left;
  own = c.arm.ensures.session.own;
  most = c.arm.ensures.session.most;
}

-- ---- counts, and what no call undoes

pub returns-in-None-clause-source : goal.returns-in-None-clause-source
returns-in-None-clause-source g c = record {
  live = c.requires.live;
  honest = λ honest. honest;
  comes = g.met.S.Source.comes_self _;
  cause = search rules;
}

pub returns-in-Some-clause-stops : goal.returns-in-Some-clause-stops
returns-in-Some-clause-stops g c = record {
  others = c.arm.ensures.stops.others;
  never = c.arm.ensures.stops.never;
  reads = c.arm.ensures.stops.reads;
  free = c.arm.ensures.stops.free;
}

pub returns-in-None-clause-stops : goal.returns-in-None-clause-stops
returns-in-None-clause-stops g c = record {
  others = (λ is. absurd (not_both _ _ _ is refl), λ is. absurd (not_both _ _ _ is refl));
  never = λ value at is. absurd (not_both _ _ _ is refl);
  reads = tt;
  free = tt;
}

pub returns-in-Some-clause-report : goal.returns-in-Some-clause-report
returns-in-Some-clause-report g c = record {
  under_way = c.arm.ensures.report.under_way;
  halted = c.arm.ensures.report.halted;
  awaits = c.arm.ensures.report.awaits;
  still = c.arm.ensures.report.still;
  grows = c.arm.ensures.report.grows;
  confirmed = c.arm.ensures.report.confirmed;
}

pub returns-in-None-clause-report : goal.returns-in-None-clause-report
returns-in-None-clause-report g c = record {
  under_way = λ at found b report u. u;
  halted = λ at found b report x. tt;
  awaits = λ a. a;
  still = λ s t before after. ap (λ (x : SourceState). x.reading) (g.met.S.Source.one c.args.src.now t s after before);
  grows = λ s left is may. longer_left s left (g.met.S.Source.only c.args.src.now s left is may);
  confirmed = λ s t was now. ap (λ (x : SourceState). x.confirmed) (g.met.S.Source.one c.args.src.now t s now was);
}

pub returns-in-Some-clause-puts : goal.returns-in-Some-clause-puts
returns-in-Some-clause-puts g c = record {
  putting = c.arm.ensures.puts.putting;
  put = c.arm.ensures.puts.put;
}

pub returns-in-None-clause-puts : goal.returns-in-None-clause-puts
returns-in-None-clause-puts g c = record {
  putting = λ groups at found b report u. u;
  put = λ groups at found b report x. tt;
}
