use Rattle.std.proofs.Common.{ap}
use Rattle.dbl_source_scripted.specs.Played.{Played}
use Rattle.dbl_source_scripted.proofs.ExitLemmas.{both, unfaulted}
use Rattle.dbl_source_scripted.proofs.EndLemmas.{describe_held, describe_named, describe_played, describe_still}
use Rattle.dbl_source_scripted.proofs.scripted.ScriptedSourceSource.describe.Goals as goal

pub returns : goal.returns
returns c =
    let plays = c.play_describe.ensures in
    let held = describe_held c.args.name.now c.args.self.now c.play_describe.new.self c.play_describe.result plays in
    record {
      described = held.leads;
      named = describe_named c.args.name.now c.args.self.now c.play_describe.new.self c.play_describe.result plays;
      left = held.left;
      some = held.some;
      told = held.told;
      taken = both c.play_describe.result held.taken held.untaken;
      reading = both c.play_describe.result held.reading held.unread;
      ended = describe_still c.args.name.now c.args.self.now c.play_describe.new.self c.play_describe.result plays;
      live = held.live;
      dead = held.dead;
      honest = held.honest;
      comes = tt;
      cause = record { later = plays.later; cause = held.failed };
      steady = λ s stands. unfaulted _ _ _ _ c.args.self.now c.play_describe.new.self c.play_describe.result plays (λ x says. ap (λ (p : Played). p.plan.faults) says.is);
      planned = plays.planned;
      memory = plays.memory;
      played = describe_played c.args.name.now c.args.self.now c.play_describe.new.self c.play_describe.result plays;
    }
