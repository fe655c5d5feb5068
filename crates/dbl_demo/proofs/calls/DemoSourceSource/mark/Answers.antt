use Rattle.dbl_source_model.specs.Calls.{IsMarked}
use Rattle.dbl_source_model.specs.Trace.{Done}
use Rattle.dbl_demo_laws.specs.Answers.{AnswersNothing}
use Rattle.dbl_demo_laws.proofs.LeadLemmas.{lead_mark, left_mark}
use Rattle.dbl_demo_laws.proofs.PromiseLemmas.{comes_held, leads_held, left_held, kept_reader, same_reader, some_held, told_of}
use Rattle.dbl_demo_laws.proofs.KnownLemmas.{steady_from}
use Rattle.dbl_demo.proofs.calls.DemoSourceSource.mark.Goals as goal

pub returns : goal.returns
returns g c =
    let adds = c.answer_mark.ensures.added in
    let kept = kept_reader c.args.self.now c.answer_mark.new.self (λ x. AnswersNothing c.args.self.now c.answer_mark.new.self x) c.answer_mark.result adds.reader adds.answers (λ x says. says.reader) in
    record {
      marked = leads_held g.D.Disk c.args.self.now c.answer_mark.new.self _ _ (λ x. AnswersNothing c.args.self.now c.answer_mark.new.self x) (λ x. IsMarked c.args.value.now) c.answer_mark.result adds.released adds.answers (λ x says wal of_old done s stands. lead_mark g.D.Disk c.args.self.now c.answer_mark.new.self wal of_old _ c.args.value.now s stands done says.reader.place);
      left = left_mark g.D.Disk c.args.self.now c.answer_mark.new.self _ c.args.value.now adds.first;
      some = some_held g.D.Disk c.args.self.now c.answer_mark.new.self g.met.D.Disk.seen_may_be_left adds.come _ _ adds.first;
      unmarked = λ is. left_held g.D.Disk c.args.self.now c.answer_mark.new.self _ (c.answer_mark.ensures.starved is);
      told = told_of c.answer_mark.result Done;
      taken = tt;
      reading = same_reader c.args.self.now c.answer_mark.new.self kept;
      ended = kept.ended;
      live = adds.live;
      dead = adds.dead;
      honest = λ u. u;
      comes = comes_held g.D.Disk c.args.self.now c.answer_mark.new.self _ _ c.answer_mark.result c.requires.live adds.come adds.first adds.released adds.dead adds.known;
      cause = record { later = adds.later; cause = adds.failed };
      steady = λ s stands. steady_from g.D.Disk c.args.self.now c.answer_mark.new.self c.answer_mark.result s stands adds.known;
      group = adds.group;
      released = adds.released;
      first = adds.first;
    }
