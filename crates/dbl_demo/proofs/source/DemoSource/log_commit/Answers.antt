use Rattle.std.proofs.Common.{◌∙◌, ◌<◌, ◌^◌, List, length, drop, refl, ap, sym, subst, arith}
use Rattle.std.proofs.lemmas.Result.{err_from_is_err_and}
use Rattle.std.specs.Prelude.{Err}
use Rattle.dbl_pgmsg.specs.declared.messages.Message.{Message}
use Rattle.dbl_journal.specs.Stored.{Lists, OnDisk}
use Rattle.dbl_journal.proofs.Growth.{comes_at}
use Rattle.dbl_demo_wal.specs.declared.entry.Entry.TheVariants.{Commits}
use Rattle.dbl_demo_wal.proofs.SizeLemmas.{few_in}
use Rattle.dbl_demo_laws.specs.Demo.{Demo}
use Rattle.dbl_demo.proofs.AppendLemmas.{entry_left, fits_done, spells_at}
use Rattle.dbl_demo.proofs.OneLemmas.{one_ends_well, one_fails, one_same}
use Rattle.dbl_demo_laws.proofs.KnownLemmas.{known_from}
use Rattle.dbl_demo.proofs.source.DemoSource.log_commit.Goals as goal

pub commit_entry-requires-clause-few : goal.commit_entry-requires-clause-few
commit_entry-requires-clause-few g c = omega (arith, few_in c.args.messages c.requires.fits.short, ap (λ (l : List Message). length l) (c.as_slice.ensures.value ∙ c.items.ensures))

pub returns-in_err-entry-clause-entry : goal.returns-in_err-entry-clause-entry
returns-in_err-entry-clause-entry g c =
    let small : c.args.self.now.done < 2 ^ 64 = omega (arith, ap (λ (s : Demo _). s.done) c.self.view_is) in
    fits_done c.args.self.now.done c.args.messages small c.requires.fits

pub returns-in_err-append-clause-entry : goal.returns-in_err-append-clause-entry
returns-in_err-append-clause-entry g c =
    let small : c.args.self.now.done < 2 ^ 64 = omega (arith, ap (λ (s : Demo _). s.done) c.self.view_is) in
    fits_done c.args.self.now.done c.args.messages small c.requires.fits

pub returns-in_err-append-clause-left : goal.returns-in_err-append-clause-left
returns-in_err-append-clause-left g c = λ forms lists.
    let journal = ap (λ (s : Demo _). s.journal) c.self.view_is in
    let done = ap (λ (s : Demo _). s.done) c.self.view_is in
    let spells = spells_at (drop 4 c.in_ok-entry.entry.items) c.self.inside.done c.args.self.now.done c.as_slice.result.now c.args.messages done (c.as_slice.ensures.value ∙ c.items.ensures) c.in_ok-entry.ensures.entry in
    let here = subst (λ (j : OnDisk _). Lists g.D.Disk j forms) (sym journal) lists in
    entry_left g.D.Disk c.append.new.journal forms (drop 4 c.in_ok-entry.entry.items) (Commits c.args.self.now.done c.args.messages) spells (c.append.ensures.left forms here)

pub returns-in_err-append-clause-comes : goal.returns-in_err-append-clause-comes
returns-in_err-append-clause-comes g c =
    comes_at g.D.Disk c.self.inside.journal c.args.self.now.journal c.append.new.journal (ap (λ (s : Demo _). s.journal) c.self.view_is) c.append.ensures.comes

pub returns-in_err-push-clause-entry : goal.returns-in_err-push-clause-entry
returns-in_err-push-clause-entry g c =
    let small : c.args.self.now.done < 2 ^ 64 = omega (arith, ap (λ (s : Demo _). s.done) c.self.view_is) in
    fits_done c.args.self.now.done c.args.messages small c.requires.fits

pub returns-in_err-push-clause-left : goal.returns-in_err-push-clause-left
returns-in_err-push-clause-left g c = λ forms lists.
    let journal = ap (λ (s : Demo _). s.journal) c.self.view_is in
    let done = ap (λ (s : Demo _). s.done) c.self.view_is in
    let spells = spells_at (drop 4 c.in_ok-entry.entry.items) c.self.inside.done c.args.self.now.done c.as_slice.result.now c.args.messages done (c.as_slice.ensures.value ∙ c.items.ensures) c.in_ok-entry.ensures.entry in
    let here = subst (λ (j : OnDisk _). Lists g.D.Disk j forms) (sym journal) lists in
    entry_left g.D.Disk c.append.new.journal forms (drop 4 c.in_ok-entry.entry.items) (Commits c.args.self.now.done c.args.messages) spells (c.append.ensures.left forms here)

pub returns-in_err-push-clause-comes : goal.returns-in_err-push-clause-comes
returns-in_err-push-clause-comes g c =
    comes_at g.D.Disk c.self.inside.journal c.args.self.now.journal c.append.new.journal (ap (λ (s : Demo _). s.journal) c.self.view_is) c.append.ensures.comes

pub returns-clause-entry : goal.returns-clause-entry
returns-clause-entry g c =
    let small : c.args.self.now.done < 2 ^ 64 = omega (arith, ap (λ (s : Demo _). s.done) c.self.view_is) in
    fits_done c.args.self.now.done c.args.messages small c.requires.fits

pub returns-clause-left : goal.returns-clause-left
returns-clause-left g c = λ forms lists.
    let journal = ap (λ (s : Demo _). s.journal) c.self.view_is in
    let done = ap (λ (s : Demo _). s.done) c.self.view_is in
    let spells = spells_at (drop 4 c.in_ok-entry.entry.items) c.self.inside.done c.args.self.now.done c.as_slice.result.now c.args.messages done (c.as_slice.ensures.value ∙ c.items.ensures) c.in_ok-entry.ensures.entry in
    let here = subst (λ (j : OnDisk _). Lists g.D.Disk j forms) (sym journal) lists in
    entry_left g.D.Disk c.append.new.journal forms (drop 4 c.in_ok-entry.entry.items) (Commits c.args.self.now.done c.args.messages) spells (c.append.ensures.left forms here)

pub returns-clause-comes : goal.returns-clause-comes
returns-clause-comes g c =
    comes_at g.D.Disk c.self.inside.journal c.args.self.now.journal c.append.new.journal (ap (λ (s : Demo _). s.journal) c.self.view_is) c.append.ensures.comes

pub returns-clause-same : goal.returns-clause-same
returns-clause-same g c = one_same g.D.Disk c.self.view_is _ refl

pub returns-clause-cause : goal.returns-clause-cause
returns-clause-cause g c = one_ends_well g.D.Disk c.self.view_is _ _ _ c.append.ensures.cause

pub returns-in_err-append-clause-cause : goal.returns-in_err-append-clause-cause
returns-in_err-append-clause-cause g c =
    let p = err_from_is_err_and c.from_residual-in_err-append.result c.from_residual-in_err-append.ensures.1 in
    one_fails g.D.Disk c.self.view_is c.append.result _ c.in_err-append.field-0.0 _ c.in_err-append.was (p.1 ∙ ap Err p.2) c.append.ensures.cause

pub returns-clause-steady : goal.returns-clause-steady
returns-clause-steady g c = known_from g.D.Disk c.self.view_is c.append.new.journal.disk (c.in_ok-append.ensures.steady (λ failed. (let wrong = failed in cc)))
