use Rattle.std.proofs.Common.{None, [], ap, ◌∙◌}
use Rattle.std.specs.Prelude.{is_some}
use Rattle.std.proofs.lemmas.Result.{IfOk-weaker}
use Rattle.dbl_source_model.specs.Calls.{Starts}
use Rattle.dbl_source_model.specs.Trace.{Began, IsTakenAnew, IsTakenBy}
use Rattle.dbl_demo_laws.specs.Answers.{AnswersStart}
use Rattle.dbl_demo_laws.proofs.LeadLemmas.{lead_start, start_is_exact, started_reads}
use Rattle.dbl_demo_laws.proofs.PromiseLemmas.{comes_held, err_ended, err_reader, leads_held, left_held, ok_ended, on_err, on_ok, some_held, tells_of}
use Rattle.dbl_demo_laws.proofs.KnownLemmas.{steady_from}
use Rattle.dbl_demo.proofs.calls.DemoSourceSource.start.Goals as goal

pub returns : goal.returns
returns g c =
    let adds = c.answer_start.ensures in
    record {
      started = leads_held g.D.Disk c.args.self.now c.answer_start.new.self _ _ (λ x. AnswersStart c.args.after c.args.self.now c.answer_start.new.self x) (Starts c.args.after) c.answer_start.result adds.released adds.answers (λ x says wal of_old done s stands. lead_start g.D.Disk c.args.self.now c.answer_start.new.self wal of_old _ s stands done c.args.after x says);
      exact = λ s stands.
          IfOk-weaker c.answer_start.result _ _ (λ x says. start_is_exact g.D.Disk c.args.self.now c.answer_start.new.self stands.0 stands.1 c.args.after x says.is s stands) adds.answers;
      gone = IfOk-weaker c.answer_start.result _ _ (λ x says. says.is) adds.answers;
      left = left_held g.D.Disk c.args.self.now c.answer_start.new.self _ adds.first;
      some = some_held g.D.Disk c.args.self.now c.answer_start.new.self g.met.D.Disk.seen_may_be_left adds.come _ _ adds.first;
      told = tells_of c.answer_start.result Began;
      taken = on_ok (IsTakenAnew None None) c.answer_start.result tt;
      untaken = on_err (IsTakenBy [] None None) c.answer_start.result tt;
      reading = IfOk-weaker c.answer_start.result _ _ (λ x says. ap (λ o. is_some o) says.place ∙ started_reads c.args.after x) adds.answers;
      unread = err_reader c.args.self.now c.answer_start.new.self c.answer_start.result adds.reader;
      unended = ok_ended c.answer_start.new.self (λ x. AnswersStart c.args.after c.args.self.now c.answer_start.new.self x) c.answer_start.result adds.answers (λ x says. says.ended);
      still = err_ended c.args.self.now c.answer_start.new.self c.answer_start.result adds.reader;
      live = adds.live;
      dead = adds.dead;
      honest = λ u. u;
      comes = comes_held g.D.Disk c.args.self.now c.answer_start.new.self _ _ c.answer_start.result c.requires adds.come adds.first adds.released adds.dead adds.known;
      cause = record { later = adds.later; cause = adds.failed };
      steady = λ s stands. steady_from g.D.Disk c.args.self.now c.answer_start.new.self c.answer_start.result s stands adds.known;
      group = adds.group;
      released = adds.released;
      first = adds.first;
    }
