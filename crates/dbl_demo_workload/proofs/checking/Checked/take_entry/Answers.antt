use Rattle.std.proofs.Common.{◌≡◌, subst}
use Rattle.std.specs.Prelude.{Err}
use Rattle.dbl_demo_wal.specs.declared.error.EntryError.TheVariants as errors
use Rattle.dbl_demo_wal.specs.Entries.{EncodesEntry}
use Rattle.dbl_demo_workload.proofs.TakeLemmas.{at_commit, no_commit, no_entry, parts_confirmed}
use Rattle.dbl_demo_workload.proofs.checking.Checked.take_entry.Goals as goal

pub returns-in-Some-clause-checks : goal.returns-in-Some-clause-checks
returns-in-Some-clause-checks c = at_commit c.args.number c.in-Some.steps c.args.entry.now c.args.self.now c.take_commit.new.self c.take_commit.result c.in-Some.ensures.told c.take_commit.ensures.checks

pub returns-in-Ok-Marks-clause-checks : goal.returns-in-Ok-Marks-clause-checks
returns-in-Ok-Marks-clause-checks c = λ w entries number_is is.
    c.take_mark.ensures.takes c.in-Ok-Marks.field-0-1 c.args.entry.now w entries number_is (subst (EncodesEntry c.args.entry.now) c.in-Ok-Marks.field-0-is c.in-Ok-Marks.ensures.read) is

pub returns-in-Ok-Confirms-clause-checks : goal.returns-in-Ok-Confirms-clause-checks
returns-in-Ok-Confirms-clause-checks c = λ w entries number_is is.
    c.take_confirm.ensures.takes c.args.entry.now w entries (subst (EncodesEntry c.args.entry.now) c.in-Ok-Confirms.field-0-is c.in-Ok-Confirms.ensures.read) is

pub returns-in-Ok-Confirms-clause-parts : goal.returns-in-Ok-Confirms-clause-parts
returns-in-Ok-Confirms-clause-parts c = parts_confirmed c.args.number c.args.self.now c.take_confirm.new.self c.take_confirm.result c.requires c.take_confirm.ensures.same

pub returns-in-Ok-Commits-clause-checks : goal.returns-in-Ok-Commits-clause-checks
returns-in-Ok-Commits-clause-checks c = no_commit c.args.number _ _ c.args.entry.now c.args.self.now c.in_default.ensures.told (subst (EncodesEntry c.args.entry.now) c.in-Ok-Commits.field-0-is c.in-Ok-Commits.ensures.read)

pub returns-in-Err-Bad-clause-checks : goal.returns-in-Err-Bad-clause-checks
returns-in-Err-Bad-clause-checks c =
    let is : c.decode.result ≡ Err errors.Bad = cc in
    no_entry c.args.number c.args.entry.now c.args.self.now (c.decode.ensures.refused is)
