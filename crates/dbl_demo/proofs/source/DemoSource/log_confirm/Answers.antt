use Rattle.std.proofs.Common.{ap, sym, subst}
use Rattle.dbl_journal.specs.Stored.{Lists, OnDisk}
use Rattle.dbl_journal.proofs.Growth.{comes_at}
use Rattle.dbl_demo_laws.specs.Demo.{Demo}
use Rattle.dbl_demo_laws.proofs.KnownLemmas.{known_from}
use Rattle.dbl_demo.proofs.source.DemoSource.log_confirm.Goals as goal

pub returns-in_err-append-clause-left : goal.returns-in_err-append-clause-left
returns-in_err-append-clause-left g c = λ forms lists.
    c.append.ensures.left forms (subst (λ (j : OnDisk _). Lists g.D.Disk j forms) (sym (ap (λ (d : Demo _). d.journal) c.self.view_is)) lists)

pub returns-in_err-append-clause-comes : goal.returns-in_err-append-clause-comes
returns-in_err-append-clause-comes g c =
    comes_at g.D.Disk c.self.inside.journal c.args.self.now.journal c.append.new.journal (ap (λ (d : Demo _). d.journal) c.self.view_is) c.append.ensures.comes

pub returns-clause-left : goal.returns-clause-left
returns-clause-left g c = λ forms lists.
    c.append.ensures.left forms (subst (λ (j : OnDisk _). Lists g.D.Disk j forms) (sym (ap (λ (d : Demo _). d.journal) c.self.view_is)) lists)

pub returns-clause-comes : goal.returns-clause-comes
returns-clause-comes g c =
    comes_at g.D.Disk c.self.inside.journal c.args.self.now.journal c.append.new.journal (ap (λ (d : Demo _). d.journal) c.self.view_is) c.append.ensures.comes

pub returns-clause-steady : goal.returns-clause-steady
returns-clause-steady g c = known_from g.D.Disk c.self.view_is c.append.new.journal.disk (c.in_ok-append.ensures.steady (λ failed. (let wrong = failed in cc)))
