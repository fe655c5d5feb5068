use Rattle.std.proofs.Common.{ap}
use Rattle.dbl_source_scripted.specs.Played.{Played}
use Rattle.dbl_source_scripted.proofs.ExitLemmas.{both, unfaulted}
use Rattle.dbl_source_scripted.proofs.EndLemmas.{head_held, head_played, head_still}
use Rattle.dbl_source_scripted.proofs.scripted.ScriptedSourceSource.head.Goals as goal

pub returns : goal.returns
returns c =
    let plays = c.play_head.ensures in
    let held = head_held c.args.self.now c.play_head.new.self c.play_head.result plays in
    record {
      headed = held.leads;
      left = held.left;
      some = held.some;
      told = held.told;
      taken = both c.play_head.result held.taken held.untaken;
      reading = both c.play_head.result held.reading held.unread;
      ended = head_still c.args.self.now c.play_head.new.self c.play_head.result plays;
      live = held.live;
      dead = held.dead;
      honest = held.honest;
      comes = tt;
      cause = record { later = plays.later; cause = held.failed };
      steady = λ s stands. unfaulted _ _ _ _ c.args.self.now c.play_head.new.self c.play_head.result plays (λ x says. ap (λ (p : Played). p.plan.faults) says.is);
      planned = plays.planned;
      memory = plays.memory;
      played = head_played c.args.self.now c.play_head.new.self c.play_head.result plays;
    }
