use Rattle.std.proofs.Common.{None, []}
use Rattle.dbl_source_model.specs.Trace.{IsTakenBy, Read}
use Rattle.dbl_demo_laws.proofs.PromiseLemmas.{on_err, tells_of}
use Rattle.dbl_demo_laws.proofs.ReadLemmas.{read_comes, read_ended, read_left, read_released, read_some, read_taken, read_took}
use Rattle.dbl_demo_laws.proofs.KnownLemmas.{steady_from}
use Rattle.dbl_demo.proofs.calls.DemoSourceSource.read.Goals as goal

pub returns : goal.returns
returns g c =
    let adds = c.answer_read.ensures in
    record {
      took = read_took g.D.Disk c.args.self.now c.answer_read.new.self c.answer_read.result adds c.requires.reading;
      left = read_left g.D.Disk c.args.self.now c.answer_read.new.self c.answer_read.result adds c.requires.reading;
      some = read_some g.D.Disk c.args.self.now c.answer_read.new.self c.answer_read.result adds c.requires.reading g.met.D.Disk.seen_may_be_left;
      told = tells_of c.answer_read.result Read;
      taken = read_taken c.answer_read.result;
      untaken = on_err (IsTakenBy [] None None) c.answer_read.result tt;
      reading = adds.reading;
      ended = adds.ended;
      still = adds.still;
      live = adds.live;
      dead = adds.dead;
      honest = λ u. u;
      comes = read_comes g.D.Disk c.args.self.now c.answer_read.new.self c.answer_read.result adds c.requires.reading c.requires.live;
      cause = record { later = adds.later; cause = adds.failed };
      steady = λ s stands. steady_from g.D.Disk c.args.self.now c.answer_read.new.self c.answer_read.result s stands adds.known;
      released = read_released g.D.Disk c.args.self.now c.answer_read.new.self c.answer_read.result adds c.requires.reading;
      first = adds.first;
      all = adds.all;
      end = read_ended g.D.Disk c.args.self.now c.answer_read.new.self c.answer_read.result adds c.requires.reading;
    }
