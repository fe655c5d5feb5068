use Rattle.std.proofs.Common.{◌≡◌, ◌∙◌, ◌≤◌, Bool, true, false, Err, length, ap, sym, subst, arith}
use Rattle.std.specs.Prelude.{is_some, not, Ok}
use Rattle.std.proofs.lemmas.Result.{err_from_is_err_and}
use Rattle.dbl_demo_laws.specs.Answers.{AddsRead}
use Rattle.dbl_demo_laws.proofs.ReaderLemmas.{read_answers_there, read_fails, read_fails_there}
use Rattle.dbl_demo_laws.specs.Demo.{Demo}
use Rattle.dbl_demo.proofs.source.DemoSource.answer_read.Goals as goal

-- nothing is what isn't something
none_is : (none some : Bool) → some ≡ not none → none ≡ not some
none_is true some is = sym (ap not is)
none_is false some is = sym (ap not is)

-- a source that read, and answers
abbrev read_so : {D : Type 0} → Demo D → Bool → Demo D
read_so demo ended = record demo { ended = ended; live = true }

pub run_to_unread_commit-requires-clause-live : goal.run_to_unread_commit-requires-clause-live
run_to_unread_commit-requires-clause-live g c = c.self.invariant.usable (ap (λ (s : Demo _). s.live) c.self.view_is ∙ c.requires)

-- the source can't be used while the call runs
pub invariant_of-self : goal.invariant_of-self
invariant_of-self g c = record {
  has_run = c.self.invariant.has_run;
  usable = λ live. cc;
  few = c.self.invariant.few;
  there = c.self.invariant.there;
  near = c.self.invariant.near;
}

pub next_bytes-requires : goal.next_bytes-requires
next_bytes-requires g c = c.in_ok-run_to_unread_commit.ensures.live

pub returns-in_err-run_to_unread_commit : goal.returns-in_err-run_to_unread_commit
returns-in_err-run_to_unread_commit g c =
    let p = err_from_is_err_and c.from_residual.result c.from_residual.ensures.1 in
    let ran = c.run_to_unread_commit.ensures in
    read_fails g.D.Disk c.self.view_is c.run_to_unread_commit.new.self c.from_residual.result p.0 p.1 ran.crash (ap (λ (d : Demo _). d.live) ran.same) ran.comes ran.cause.later (λ is. ran.cause.cause (c.in_err-run_to_unread_commit.was ∙ ap Err (sym p.2 ∙ is)))
    (ap (λ (d : Demo _). is_some d.place) ran.same) (ap (λ (d : Demo _). d.ended) ran.same)

pub returns-in_err-read : goal.returns-in_err-read
returns-in_err-read g c =
    let p = err_from_is_err_and c.from_residual-in_err-read.result c.from_residual-in_err-read.ensures.1 in
    let ran = c.run_to_unread_commit.ensures in
    let next = c.next_bytes.ensures in
    read_fails_there g.D.Disk c.self.view_is c.run_to_unread_commit.new.self c.next_bytes.new.self ran.same ran.crash ran.comes ran.cause.later next.same next.crash next.comes next.cause.later next.reading c.from_residual-in_err-read.result p.0 p.1
    (λ is. next.cause.cause (c.in_err-read.was ∙ ap Err (sym p.2 ∙ is)))

-- no more steps are done than there are, as always
pub returns : goal.returns
returns g c =
    let ran = c.run_to_unread_commit.ensures in
    let next = c.next_bytes.ensures in
    let same = c.self-2.view_is ∙ next.same in
    let upto : c.run_to_unread_commit.new.self.done ≤ length c.run_to_unread_commit.new.self.steps = omega (arith, c.self-2.invariant.has_run.there, ap (λ (d : Demo _). d.done) same, ap (λ (d : Demo _). length d.steps) same) in
    subst (λ (d : Demo _). AddsRead g.D.Disk c.args.self.now (read_so d c.is_none-self-inside.result) (Ok c.in_ok-read.read)) (sym c.self-2.view_is)
    (read_answers_there g.D.Disk c.self.view_is c.run_to_unread_commit.new.self c.next_bytes.new.self ran.same ran.crash ran.comes ran.cause.later next.same next.crash next.comes next.cause.later next.reading c.in_ok-read.read c.is_none-self-inside.result (none_is c.is_none-self-inside.result _ c.is_none-self-inside.ensures)
    c.in_ok-run_to_unread_commit.ensures.ran c.in_ok-read.ensures.read c.in_ok-run_to_unread_commit.ensures.end c.in_ok-read.ensures.none upto
    c.in_ok-run_to_unread_commit.ensures.steady c.in_ok-read.ensures.steady)
