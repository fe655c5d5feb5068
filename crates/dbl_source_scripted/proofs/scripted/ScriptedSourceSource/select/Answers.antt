use Rattle.std.proofs.Common.{ap}
use Rattle.std.specs.Prelude.{option_copied}
use Rattle.dbl_source_scripted.specs.Played.{Played}
use Rattle.dbl_source_scripted.proofs.ExitLemmas.{both, unfaulted}
use Rattle.dbl_source_scripted.proofs.EndLemmas.{select_held, select_played, select_still}
use Rattle.dbl_source_scripted.proofs.scripted.ScriptedSourceSource.select.Goals as goal

pub returns : goal.returns
returns c =
    let plays = c.play_select.ensures.plays in
    let held = select_held c.args.table.now (option_copied c.args.above) c.args.limit c.args.self.now c.play_select.new.self c.play_select.result plays in
    record {
      selected = held.leads;
      left = held.left;
      some = held.some;
      told = held.told;
      taken = both c.play_select.result held.taken held.untaken;
      reading = both c.play_select.result held.reading held.unread;
      ended = select_still c.args.table.now (option_copied c.args.above) c.args.limit c.args.self.now c.play_select.new.self c.play_select.result plays;
      live = held.live;
      dead = held.dead;
      honest = held.honest;
      comes = tt;
      cause = record { later = plays.later; cause = held.failed };
      steady = λ s stands. unfaulted _ _ _ _ c.args.self.now c.play_select.new.self c.play_select.result plays (λ x says. ap (λ (p : Played). p.plan.faults) says.is);
      planned = plays.planned;
      memory = plays.memory;
      listed = c.play_select.ensures.listed;
      played = select_played c.args.table.now (option_copied c.args.above) c.args.limit c.args.self.now c.play_select.new.self c.play_select.result plays;
    }
