use Rattle.std.proofs.Common.{◌∙◌, ℕ, Some, List, refl, ap, sym, subst}
use Rattle.dbl_journal.proofs.Growth.{comes_at}
use Rattle.dbl_journal.specs.Stored.{Lists, OnDisk}
use Rattle.dbl_demo_wal.specs.declared.entry.Entry.{Entry}
use Rattle.dbl_demo_wal.specs.Entries.{EncodesEntry}
use Rattle.dbl_demo_wal.specs.Wals.{forms_of}
use Rattle.dbl_demo_laws.specs.Demo.{Demo, IsRunning}
use Rattle.dbl_demo.proofs.HeldLemmas.{holding, read_is, read_some}
use Rattle.dbl_demo_laws.proofs.KnownLemmas.{known_from, known_self}
use Rattle.dbl_demo.proofs.source.DemoSource.cache_commit.Goals as goal

pub returns-in_err-bytes-clause-comes : goal.returns-in_err-bytes-clause-comes
returns-in_err-bytes-clause-comes g c =
    comes_at g.D.Disk c.self.inside.journal c.args.self.now.journal c.entry.new.journal (ap (λ (d : Demo _). d.journal) c.self.view_is) c.entry.ensures.comes

pub returns-in_err-logged-clause-comes : goal.returns-in_err-logged-clause-comes
returns-in_err-logged-clause-comes g c =
    comes_at g.D.Disk c.self.inside.journal c.args.self.now.journal c.entry.new.journal (ap (λ (d : Demo _). d.journal) c.self.view_is) c.entry.ensures.comes

pub returns-in_default-clause-comes : goal.returns-in_default-clause-comes
returns-in_default-clause-comes g c =
    comes_at g.D.Disk c.self.inside.journal c.args.self.now.journal c.entry.new.journal (ap (λ (d : Demo _). d.journal) c.self.view_is) c.entry.ensures.comes

pub returns-clause-comes : goal.returns-clause-comes
returns-clause-comes g c =
    comes_at g.D.Disk c.self.inside.journal c.args.self.now.journal c.entry.new.journal (ap (λ (d : Demo _). d.journal) c.self.view_is) c.entry.ensures.comes

-- the entry with that number spells a commit
pub returns-in_default-clause-held : goal.returns-in_default-clause-held
returns-in_default-clause-held g c = λ wal place running at numbered.
    let lists = subst (λ (j : OnDisk _). Lists g.D.Disk j (forms_of wal)) (sym (ap (λ (d : Demo _). d.journal) c.self.view_is)) running.lists in
    let tells = λ (entry : Entry) (spells : EncodesEntry c.in_ok-bytes.bytes entry). c.in_ok-logged.ensures.commit entry (subst (λ (bytes : List ℕ). EncodesEntry bytes entry) (sym (c.as_slice.ensures.value ∙ c.items.ensures)) spells) in
    absurd (read_some g.D.Disk c.args.self.now wal place running at c.args.number numbered c.in_ok-bytes.bytes (c.in_ok-bytes.ensures.found (forms_of wal) lists) c.in_ok-logged.field-0 tells c.in_default.is)

-- and that is what is held
pub returns-clause-held : goal.returns-clause-held
returns-clause-held g c = λ wal place running at numbered.
    let lists = subst (λ (j : OnDisk _). Lists g.D.Disk j (forms_of wal)) (sym (ap (λ (d : Demo _). d.journal) c.self.view_is)) running.lists in
    let tells = λ (entry : Entry) (spells : EncodesEntry c.in_ok-bytes.bytes entry). c.in_ok-logged.ensures.commit entry (subst (λ (bytes : List ℕ). EncodesEntry bytes entry) (sym (c.as_slice.ensures.value ∙ c.items.ensures)) spells) in
    let held = sym c.in-Some.is ∙ read_is g.D.Disk c.args.self.now wal place running at c.args.number numbered c.in_ok-bytes.bytes (c.in_ok-bytes.ensures.found (forms_of wal) lists) c.in_ok-logged.field-0 tells in (
      refl,
      holding g.D.Disk _ wal place (subst (IsRunning g.D.Disk wal) (sym c.self.view_is) running) (ap (λ (d : Demo _). d.place) c.self.view_is ∙ at) c.entry.new.journal (c.entry.ensures.lists (forms_of wal) lists) (Some c.in-Some.logged) held,
      held,
    )

pub returns-then-is_some-clause-steady : goal.returns-then-is_some-clause-steady
returns-then-is_some-clause-steady g c = known_self g.D.Disk c.args.self.now.journal.disk

pub returns-in_default-clause-steady : goal.returns-in_default-clause-steady
returns-in_default-clause-steady g c = known_from g.D.Disk c.self.view_is c.entry.new.journal.disk (c.in_ok-bytes.ensures.steady (λ failed. (let wrong = failed in cc)))

pub returns-clause-steady : goal.returns-clause-steady
returns-clause-steady g c = known_from g.D.Disk c.self.view_is c.entry.new.journal.disk (c.in_ok-bytes.ensures.steady (λ failed. (let wrong = failed in cc)))
