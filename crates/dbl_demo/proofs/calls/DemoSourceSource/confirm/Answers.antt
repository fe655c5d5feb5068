use Rattle.dbl_source_model.specs.Calls.{IsConfirmed}
use Rattle.dbl_source_model.specs.Trace.{Done}
use Rattle.dbl_demo_laws.specs.Answers.{AnswersNothing}
use Rattle.dbl_demo_laws.proofs.LeadLemmas.{lead_confirm, left_confirm}
use Rattle.dbl_demo_laws.proofs.PromiseLemmas.{comes_held, leads_held, left_held, kept_reader, same_reader, some_held, told_of}
use Rattle.dbl_demo_laws.proofs.KnownLemmas.{steady_from}
use Rattle.dbl_demo.proofs.calls.DemoSourceSource.confirm.Goals as goal

pub returns : goal.returns
returns g c =
    let adds = c.answer_confirm.ensures.added in
    let kept = kept_reader c.args.self.now c.answer_confirm.new.self (λ x. AnswersNothing c.args.self.now c.answer_confirm.new.self x) c.answer_confirm.result adds.reader adds.answers (λ x says. says.reader) in
    record {
      confirmed = leads_held g.D.Disk c.args.self.now c.answer_confirm.new.self _ _ (λ x. AnswersNothing c.args.self.now c.answer_confirm.new.self x) (λ x. IsConfirmed c.args.upto) c.answer_confirm.result adds.released adds.answers (λ x says wal of_old done s stands. lead_confirm g.D.Disk c.args.self.now c.answer_confirm.new.self wal of_old _ c.args.upto s stands done says.reader.place);
      left = left_confirm g.D.Disk c.args.self.now c.answer_confirm.new.self _ c.args.upto adds.first;
      some = some_held g.D.Disk c.args.self.now c.answer_confirm.new.self g.met.D.Disk.seen_may_be_left adds.come _ _ adds.first;
      unconfirmed = λ is. left_held g.D.Disk c.args.self.now c.answer_confirm.new.self _ (c.answer_confirm.ensures.starved is);
      told = told_of c.answer_confirm.result Done;
      taken = tt;
      reading = same_reader c.args.self.now c.answer_confirm.new.self kept;
      ended = kept.ended;
      live = adds.live;
      dead = adds.dead;
      honest = λ u. u;
      comes = comes_held g.D.Disk c.args.self.now c.answer_confirm.new.self _ _ c.answer_confirm.result c.requires adds.come adds.first adds.released adds.dead adds.known;
      cause = record { later = adds.later; cause = adds.failed };
      steady = λ s stands. steady_from g.D.Disk c.args.self.now c.answer_confirm.new.self c.answer_confirm.result s stands adds.known;
      group = adds.group;
      released = adds.released;
      first = adds.first;
    }
