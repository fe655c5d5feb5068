use Rattle.std.proofs.Common.{ap}
use Rattle.dbl_source_scripted.specs.Played.{Played}
use Rattle.dbl_source_scripted.proofs.ExitLemmas.{both, unfaulted}
use Rattle.dbl_source_scripted.proofs.EndLemmas.{confirm_held, confirm_still}
use Rattle.dbl_source_scripted.proofs.scripted.ScriptedSourceSource.confirm.Goals as goal

pub returns : goal.returns
returns c =
    let plays = c.play_confirm.ensures in
    let held = confirm_held c.args.upto c.args.self.now c.play_confirm.new.self c.play_confirm.result plays in
    record {
      confirmed = held.leads;
      left = held.left;
      some = held.some;
      unconfirmed = held.without;
      told = held.told;
      taken = both c.play_confirm.result held.taken held.untaken;
      reading = both c.play_confirm.result held.reading held.unread;
      ended = confirm_still c.args.upto c.args.self.now c.play_confirm.new.self c.play_confirm.result plays;
      live = held.live;
      dead = held.dead;
      honest = held.honest;
      comes = tt;
      cause = record { later = plays.later; cause = held.failed };
      steady = λ s stands. unfaulted _ _ _ _ c.args.self.now c.play_confirm.new.self c.play_confirm.result plays (λ x says. ap (λ (p : Played). p.plan.faults) says);
      planned = plays.planned;
      memory = plays.memory;
      played = plays.played;
    }
