use Rattle.dbl_demo_wal.proofs.SizeLemmas.{few_in}
use Rattle.dbl_demo_wal.specs.declared.entry.Entry.TheVariants.{Commits}
use Rattle.dbl_demo_wal.specs.Entries.{entry_form}
use Rattle.std.proofs.Common.{◌∙◌, ℕ, List, drop, ap}
use Rattle.dbl_demo_workload.proofs.TakeLemmas.{said_by}
use Rattle.dbl_demo_workload.proofs.checking.is_commit.Goals as goal

pub commit_entry-requires-clause-few : goal.commit_entry-requires-clause-few
commit_entry-requires-clause-few c = few_in c.args.messages.now c.requires.short

pub returns-clause-same : goal.returns-clause-same
returns-clause-same c =
    said_by c.eq.result c.deref.result.now c.args.entry.now (entry_form (Commits c.args.steps c.args.messages.now)) c.eq.ensures
    (ap (λ (l : List ℕ). drop 4 l) c.deref.ensures.value ∙ c.in_ok-expected.ensures.entry.spelled)
