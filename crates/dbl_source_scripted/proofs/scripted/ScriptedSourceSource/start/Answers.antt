use Rattle.std.proofs.Common.{ap}
use Rattle.std.proofs.lemmas.Result.{IfOk-weaker}
use Rattle.dbl_source_scripted.specs.Played.{Played}
use Rattle.dbl_source_scripted.proofs.AlterLemmas.{before_others}
use Rattle.dbl_source_scripted.proofs.ExitLemmas.{still, unfaulted}
use Rattle.dbl_source_scripted.proofs.StartLemmas.{start_exact}
use Rattle.dbl_source_scripted.proofs.EndLemmas.{start_held, start_unended, start_played}
use Rattle.dbl_source_scripted.proofs.scripted.ScriptedSourceSource.start.Goals as goal

pub returns : goal.returns
returns c =
    let plays = c.play_start.ensures in
    let played = start_played c.args.after c.args.self.now c.play_start.new.self c.play_start.result plays in
    let held = start_held c.args.after c.args.self.now c.play_start.new.self c.play_start.result plays in
    record {
      started = held.leads;
      exact = start_exact c.args.after c.args.self.now c.play_start.new.self c.play_start.result (IfOk-weaker c.play_start.result _ _ (λ answer both. both.0) played);
      left = held.left;
      some = held.some;
      told = held.told;
      taken = held.taken;
      untaken = held.untaken;
      reading = held.reading;
      unread = held.unread;
      unended = start_unended c.args.after c.args.self.now c.play_start.new.self c.play_start.result plays;
      still = still _ _ _ _ c.args.self.now c.play_start.new.self c.play_start.result (before_others c.args.self.now) plays;
      live = held.live;
      dead = held.dead;
      honest = held.honest;
      comes = tt;
      cause = record { later = plays.later; cause = held.failed };
      steady = λ s stands. unfaulted _ _ _ _ c.args.self.now c.play_start.new.self c.play_start.result plays (λ x says. ap (λ (p : Played). p.plan.faults) says.is);
      planned = plays.planned;
      memory = plays.memory;
      played = played;
    }
