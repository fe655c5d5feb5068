use Rattle.std.proofs.lemmas.Result.{IfOk-weaker}
use Rattle.dbl_source_model.specs.Answered.{IsHeaded}
use Rattle.dbl_source_model.specs.Trace.{Head}
use Rattle.dbl_demo_laws.specs.Answers.{AnswersHead}
use Rattle.dbl_demo_laws.proofs.LeadLemmas.{lead_head}
use Rattle.dbl_demo_laws.proofs.PromiseLemmas.{comes_held, leads_held, left_held, kept_reader, same_reader, some_held, tells_of}
use Rattle.dbl_demo_laws.proofs.KnownLemmas.{steady_from}
use Rattle.dbl_demo.proofs.calls.DemoSourceSource.head.Goals as goal

pub returns : goal.returns
returns g c =
    let adds = c.answer_head.ensures in
    let kept = kept_reader c.args.self.now c.answer_head.new.self (λ x. AnswersHead c.args.self.now c.answer_head.new.self x) c.answer_head.result adds.reader adds.answers (λ x says. says.reader) in
    record {
      headed = leads_held g.D.Disk c.args.self.now c.answer_head.new.self _ _ (λ x. AnswersHead c.args.self.now c.answer_head.new.self x) IsHeaded c.answer_head.result adds.released adds.answers (λ x says wal of_old done s stands. lead_head g.D.Disk c.args.self.now c.answer_head.new.self wal of_old _ s stands done x says);
      left = left_held g.D.Disk c.args.self.now c.answer_head.new.self _ adds.first;
      some = some_held g.D.Disk c.args.self.now c.answer_head.new.self g.met.D.Disk.seen_may_be_left adds.come _ _ adds.first;
      last = IfOk-weaker c.answer_head.result _ _ (λ x says. says.is) adds.answers;
      told = tells_of c.answer_head.result Head;
      taken = tt;
      reading = same_reader c.args.self.now c.answer_head.new.self kept;
      ended = kept.ended;
      live = adds.live;
      dead = adds.dead;
      honest = λ u. u;
      comes = comes_held g.D.Disk c.args.self.now c.answer_head.new.self _ _ c.answer_head.result c.requires adds.come adds.first adds.released adds.dead adds.known;
      cause = record { later = adds.later; cause = adds.failed };
      steady = λ s stands. steady_from g.D.Disk c.args.self.now c.answer_head.new.self c.answer_head.result s stands adds.known;
      group = adds.group;
      released = adds.released;
      first = adds.first;
    }
