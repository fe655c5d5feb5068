use Rattle.std.proofs.Common.{ap}
use Rattle.dbl_source_scripted.specs.Played.{Played}
use Rattle.dbl_source_scripted.proofs.ExitLemmas.{both, unfaulted}
use Rattle.dbl_source_scripted.proofs.EndLemmas.{mark_held, mark_still}
use Rattle.dbl_source_scripted.proofs.scripted.ScriptedSourceSource.mark.Goals as goal

pub returns : goal.returns
returns c =
    let plays = c.play_mark.ensures in
    let held = mark_held c.args.value.now c.args.self.now c.play_mark.new.self c.play_mark.result plays in
    record {
      marked = held.leads;
      left = held.left;
      some = held.some;
      unmarked = held.without;
      told = held.told;
      taken = both c.play_mark.result held.taken held.untaken;
      reading = both c.play_mark.result held.reading held.unread;
      ended = mark_still c.args.value.now c.args.self.now c.play_mark.new.self c.play_mark.result plays;
      live = held.live;
      dead = held.dead;
      honest = held.honest;
      comes = tt;
      cause = record { later = plays.later; cause = held.failed };
      steady = λ s stands. unfaulted _ _ _ _ c.args.self.now c.play_mark.new.self c.play_mark.result plays (λ x says. ap (λ (p : Played). p.plan.faults) says);
      planned = plays.planned;
      memory = plays.memory;
      played = plays.played;
    }
