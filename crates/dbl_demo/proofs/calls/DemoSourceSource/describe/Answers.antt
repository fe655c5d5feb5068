use Rattle.std.proofs.Common.{[]}
use Rattle.dbl_source_log.specs.Histories.{history_of}
use Rattle.dbl_source_model.specs.Answered.{IsDescribed}
use Rattle.dbl_source_model.specs.Trace.{Described}
use Rattle.dbl_demo_laws.specs.Answers.{AnswersEntry}
use Rattle.dbl_demo_laws.proofs.LeadLemmas.{lead_entry}
use Rattle.dbl_demo_laws.proofs.PromiseLemmas.{comes_held, entry_named, leads_held, left_held, kept_reader, same_reader, some_held, tells_of}
use Rattle.dbl_demo_laws.proofs.KnownLemmas.{steady_from}
use Rattle.dbl_demo.proofs.calls.DemoSourceSource.describe.Goals as goal

pub returns : goal.returns
returns g c =
    let adds = c.answer_describe.ensures in
    let kept = kept_reader c.args.self.now c.answer_describe.new.self (λ x. AnswersEntry c.args.name.now c.args.self.now c.answer_describe.new.self x) c.answer_describe.result adds.reader adds.answers (λ x says. says.reader) in
    record {
      described = leads_held g.D.Disk c.args.self.now c.answer_describe.new.self _ _ (λ x. AnswersEntry c.args.name.now c.args.self.now c.answer_describe.new.self x) (IsDescribed c.args.name.now) c.answer_describe.result adds.released adds.answers (λ x says wal of_old done s stands. lead_entry g.D.Disk c.args.self.now c.answer_describe.new.self wal of_old _ s stands done c.args.name.now x says);
      named = entry_named c.args.name.now (history_of c.args.self.now.tables []) (λ x. AnswersEntry c.args.name.now c.args.self.now c.answer_describe.new.self x) c.answer_describe.result (λ x says. says.is) adds.answers;
      left = left_held g.D.Disk c.args.self.now c.answer_describe.new.self _ adds.first;
      some = some_held g.D.Disk c.args.self.now c.answer_describe.new.self g.met.D.Disk.seen_may_be_left adds.come _ _ adds.first;
      told = tells_of c.answer_describe.result Described;
      taken = tt;
      reading = same_reader c.args.self.now c.answer_describe.new.self kept;
      ended = kept.ended;
      live = adds.live;
      dead = adds.dead;
      honest = λ u. u;
      comes = comes_held g.D.Disk c.args.self.now c.answer_describe.new.self _ _ c.answer_describe.result c.requires adds.come adds.first adds.released adds.dead adds.known;
      cause = record { later = adds.later; cause = adds.failed };
      steady = λ s stands. steady_from g.D.Disk c.args.self.now c.answer_describe.new.self c.answer_describe.result s stands adds.known;
      group = adds.group;
      released = adds.released;
      first = adds.first;
    }
