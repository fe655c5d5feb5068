use Rattle.std.proofs.Common.{◌∙◌, ◌+◌, ap}
use Rattle.std.proofs.lemmas.Result.{err_from_is_err_and}
use Rattle.std.specs.Prelude.{Err}
use Rattle.dbl_journal.proofs.Growth.{comes_at}
use Rattle.dbl_demo_laws.specs.Demo.{Demo}
use Rattle.dbl_demo.proofs.OneLemmas.{one_alone, one_ends, one_ends_well, one_fails, one_left, one_logged, one_same, one_silent}
use Rattle.dbl_demo_laws.proofs.KnownLemmas.{known_from, known_self}
use Rattle.dbl_demo.proofs.source.DemoSource.run_one.Goals as goal

-- memory ran out
pub returns-in_err-committed-clause-crash : goal.returns-in_err-committed-clause-crash
returns-in_err-committed-clause-crash g c = λ wal running. one_alone g.D.Disk c.self.view_is c.requires.left wal running

-- its commit was being appended
pub returns-in_err-log_commit-clause-crash : goal.returns-in_err-log_commit-clause-crash
returns-in_err-log_commit-clause-crash g c = λ wal running. one_left g.D.Disk c.self.view_is c.requires.left c.as_slice.result.now c.as_slice.ensures.value c.run_next.new.store c.in_ok-committed.committed c.in_ok-committed.ensures.ran wal running c.in-Some.messages c.in-Some.is c.log_commit.ensures.entry c.log_commit.ensures.small c.log_commit.new.self c.log_commit.ensures.left

pub returns-in_err-log_commit-clause-comes : goal.returns-in_err-log_commit-clause-comes
returns-in_err-log_commit-clause-comes g c =
    comes_at g.D.Disk c.self.inside.journal c.args.self.now.journal c.log_commit.new.self.journal (ap (λ (s : Demo _). s.journal) c.self.view_is) c.log_commit.ensures.comes

pub returns-in_err-log_commit-clause-same : goal.returns-in_err-log_commit-clause-same
returns-in_err-log_commit-clause-same g c = one_same g.D.Disk c.self.view_is c.log_commit.new.self c.log_commit.ensures.same

pub returns-in_err-log_commit-clause-cause : goal.returns-in_err-log_commit-clause-cause
returns-in_err-log_commit-clause-cause g c =
    let p = err_from_is_err_and c.from_residual-in_err-log_commit.result c.from_residual-in_err-log_commit.ensures.1 in
    one_fails g.D.Disk c.self.view_is c.log_commit.result _ c.in_err-log_commit.field-0.0 _ c.in_err-log_commit.was (p.1 ∙ ap Err p.2) c.log_commit.ensures.cause

-- it was appended
pub returns-in_ok-log_commit-clause-ran : goal.returns-in_ok-log_commit-clause-ran
returns-in_ok-log_commit-clause-ran g c = λ wal running. one_logged g.D.Disk c.self.view_is c.requires.left c.as_slice.result.now c.as_slice.ensures.value c.run_next.new.store c.in_ok-committed.committed c.in_ok-committed.ensures.ran wal running c.in-Some.messages c.in-Some.is c.log_commit.ensures.entry c.log_commit.ensures.small c.log_commit.new.self c.in_ok-log_commit.ensures.logged c.log_commit.ensures.same c.log_commit.ensures.stays

pub returns-in_ok-log_commit-clause-crash : goal.returns-in_ok-log_commit-clause-crash
returns-in_ok-log_commit-clause-crash g c = λ wal running. one_left g.D.Disk c.self.view_is c.requires.left c.as_slice.result.now c.as_slice.ensures.value c.run_next.new.store c.in_ok-committed.committed c.in_ok-committed.ensures.ran wal running c.in-Some.messages c.in-Some.is c.log_commit.ensures.entry c.log_commit.ensures.small c.log_commit.new.self c.log_commit.ensures.left

pub returns-in_ok-log_commit-clause-comes : goal.returns-in_ok-log_commit-clause-comes
returns-in_ok-log_commit-clause-comes g c =
    comes_at g.D.Disk c.self.inside.journal c.args.self.now.journal c.log_commit.new.self.journal (ap (λ (s : Demo _). s.journal) c.self.view_is) c.log_commit.ensures.comes

pub returns-in_ok-log_commit-clause-ends : goal.returns-in_ok-log_commit-clause-ends
returns-in_ok-log_commit-clause-ends g c = λ step there. one_ends g.D.Disk c.self.view_is c.requires.left c.is_tick-ends.result c.index.result.now step c.index.ensures c.is_tick-ends.ensures there

pub returns-in_ok-log_commit-clause-one : goal.returns-in_ok-log_commit-clause-one
returns-in_ok-log_commit-clause-one g c = c.log_commit.ensures.stays.0 ∙ ap (λ (s : Demo _). s.done + 1) c.self.view_is

pub returns-in_ok-log_commit-clause-same : goal.returns-in_ok-log_commit-clause-same
returns-in_ok-log_commit-clause-same g c = one_same g.D.Disk c.self.view_is c.log_commit.new.self c.log_commit.ensures.same

pub returns-in_ok-log_commit-clause-cause : goal.returns-in_ok-log_commit-clause-cause
returns-in_ok-log_commit-clause-cause g c = one_ends_well g.D.Disk c.self.view_is c.is_tick-ends.result _ _ c.log_commit.ensures.cause

-- it committed nothing
pub returns-in_default-clause-ran : goal.returns-in_default-clause-ran
returns-in_default-clause-ran g c = λ wal running. one_silent g.D.Disk c.self.view_is c.requires.left c.as_slice.result.now c.as_slice.ensures.value c.run_next.new.store c.in_ok-committed.committed c.in_ok-committed.ensures.ran wal running c.in_default.is

pub returns-in_default-clause-crash : goal.returns-in_default-clause-crash
returns-in_default-clause-crash g c = λ wal running. one_alone g.D.Disk c.self.view_is c.requires.left wal running

pub returns-in_default-clause-ends : goal.returns-in_default-clause-ends
returns-in_default-clause-ends g c = λ step there. one_ends g.D.Disk c.self.view_is c.requires.left c.is_tick-ends.result c.index.result.now step c.index.ensures c.is_tick-ends.ensures there

pub returns-in_ok-log_commit-clause-steady : goal.returns-in_ok-log_commit-clause-steady
returns-in_ok-log_commit-clause-steady g c = known_from g.D.Disk c.self.view_is c.log_commit.new.self.journal.disk c.in_ok-log_commit.ensures.steady

pub returns-in_default-clause-steady : goal.returns-in_default-clause-steady
returns-in_default-clause-steady g c = known_from g.D.Disk c.self.view_is c.self.inside.journal.disk (known_self g.D.Disk c.self.inside.journal.disk)
