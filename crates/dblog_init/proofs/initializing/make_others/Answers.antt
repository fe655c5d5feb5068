use Rattle.std.proofs.Common.{◌≡◌, ◌≢◌, ◌∙◌, inl, inr, sym, subst}
use Rattle.std.proofs.lemmas.Result.{IfErr-weaker}
use Rattle.dblog_init.specs.declared.error.InitError.{InitError}
use Rattle.dblog_init.specs.declared.error.InitError.TheVariants.{Failed}
use Rattle.dblog_init.specs.declared.error.Store.TheVariants.{Topics, Offsets}
use Rattle.dblog_init.specs.Answers.{InitEnd}
use Rattle.dblog_init.specs.Fresh.{IsEmptyLog, IsEmptyStore}
use Rattle.dblog_init.specs.Turns.{MakesOne}
use Rattle.dblog_init.proofs.TurnLemmas.{err_at, makes_none, makes_through, ok_at}
use Rattle.dblog_init.proofs.initializing.make_others.Goals as goal

pub returns-in-Err : goal.returns-in-Err
returns-in-Err g c =
    let end = c.make_topics-topics.result.1 in
    let e = c.in-Err.error in
    let failed : e ≡ Failed Topics = err_at end e (λ x. x ≡ Failed Topics) c.in-Err.is c.make_topics-topics.ensures.kinds in
    let other : e ≢ Failed Offsets = λ is. (let t = sym failed ∙ is in cc) in
    record {
      topics = subst (λ (x : InitEnd). MakesOne g.T.Disk Topics IsEmptyLog x c.args.topics c.make_topics-topics.result.0) c.in-Err.is c.make_topics-topics.ensures.makes;
      offsets = makes_none g.F.Disk Offsets IsEmptyStore e other c.args.offsets;
      kinds = inl failed;
      torn = λ empty is. absurd (other (let t = is in cc));
    }

pub returns-in-Ok : goal.returns-in-Ok
returns-in-Ok g c =
    let first = c.make_topics-topics.result.1 in
    let end = c.make_offsets-offsets.result.1 in
    record {
      topics = makes_through g.T.Disk Topics IsEmptyLog Offsets (λ is. cc) (λ no. no) first end c.in-Ok.is c.make_offsets-offsets.ensures.kinds c.args.topics _ c.make_topics-topics.ensures.makes;
      offsets = c.make_offsets-offsets.ensures.makes;
      kinds = IfErr-weaker end _ _ (λ e h. inr h) c.make_offsets-offsets.ensures.kinds;
      torn = λ empty is. (
        ok_at first _ c.in-Ok.is (c.make_topics-topics.ensures.makes.made empty),
        err_at end (Failed Offsets) _ is c.make_offsets-offsets.ensures.torn,
      );
    }
