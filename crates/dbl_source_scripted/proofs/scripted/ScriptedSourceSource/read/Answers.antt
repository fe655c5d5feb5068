use Rattle.dbl_source_scripted.proofs.AlterLemmas.{before_others}
use Rattle.dbl_source_scripted.proofs.ExitLemmas.{both, read_unfaulted, still, unfaulted}
use Rattle.dbl_source_scripted.proofs.EndLemmas.{read_held, read_none, read_played, read_ended}
use Rattle.dbl_source_scripted.proofs.scripted.ScriptedSourceSource.read.Goals as goal

pub returns : goal.returns
returns c =
    let plays = c.play_read.ensures in
    let held = read_held c.args.self.now c.play_read.new.self c.play_read.result plays in
    record {
      took = held.leads;
      left = held.left;
      some = held.some;
      told = held.told;
      taken = held.taken;
      untaken = held.untaken;
      reading = both c.play_read.result held.reading held.unread;
      ended = read_none c.args.self.now c.play_read.new.self c.play_read.result plays;
      still = still _ _ _ _ c.args.self.now c.play_read.new.self c.play_read.result (before_others c.args.self.now) plays;
      live = held.live;
      dead = held.dead;
      honest = held.honest;
      comes = tt;
      cause = record { later = plays.later; cause = held.failed };
      steady = λ s stands. unfaulted _ _ _ _ c.args.self.now c.play_read.new.self c.play_read.result plays (λ x says. read_unfaulted c.args.self.now c.play_read.new.self x says);
      planned = plays.planned;
      memory = plays.memory;
      played = read_played c.args.self.now c.play_read.new.self c.play_read.result c.requires.reading plays;
      ends = read_ended c.args.self.now c.play_read.new.self c.play_read.result plays;
    }
