use Rattle.std.proofs.Common.{◌≡◌, ◌∙◌, ◌+◌, ℕ, Option, None, Some, List, length, ap, sym, subst, arith}
use Rattle.std.specs.Prelude.{slice_get, is_some, IfOk}
use Rattle.dbl_base.specs.declared.seq.Seq.{Seq}
use Rattle.dbl_source_log.specs.declared.reader_position.ReaderPosition.{ReaderPosition}
use Rattle.dbl_source_log.specs.Sent.{index_of}
use Rattle.dbl_journal.specs.Growth.{HasCome}
use Rattle.dbl_journal.specs.Stored.{OnDisk}
use Rattle.dbl_demo_wal.specs.Sound.{logged_in}
use Rattle.dbl_demo_laws.specs.Demo.{Demo}
use Rattle.dbl_demo_laws.specs.Reading.{ReadsNext}
use Rattle.dbl_demo.proofs.HeldLemmas.{number_none, number_some, read_nothing}
use Rattle.dbl_demo_laws.specs.Running.{StaysKnown}
use Rattle.dbl_demo_laws.proofs.KnownLemmas.{known_self}
use Rattle.dbl_demo_laws.proofs.PromiseLemmas.{on_ok}
use Rattle.dbl_demo.proofs.source.DemoSource.next_bytes.Goals as goal

number_at : (xs ys : List ℕ) (i j number : ℕ) → xs ≡ ys → i ≡ j → slice_get xs i ≡ Some number → slice_get ys j ≡ Some number
number_at xs ys i j number same at is = cc

-- no commit stands there
pub returns-in_default-copied-clause-read : goal.returns-in_default-copied-clause-read
returns-in_default-copied-clause-read g c = λ wal place running at.
    let same : c.in-Some.place ≡ place = (let both : ◌≡◌ {A = Option ReaderPosition} (Some c.in-Some.place) (Some place) = sym c.in-Some.is ∙ ap (λ (d : Demo _). d.place) c.self.view_is ∙ at in cc) in
    let commits : length c.deref.result.now ≡ length c.args.self.now.commits = ap (λ (l : List ℕ). length l) c.deref.ensures.value ∙ ap (λ (d : Demo _). length d.commits) c.self.view_is in
    let past = number_none c.deref.result.now _ c.get.result c.get.ensures.lookup (sym c.copied.ensures ∙ c.in_default-copied.is) in
    read_nothing g.D.Disk c.args.self.now wal place running at (omega (arith, past, commits, c.commits_upto.ensures.value, ap index_of same))

-- what is no commit isn't read of a wal
pub returns-in-Some-2-clause-read : goal.returns-in-Some-2-clause-read
returns-in-Some-2-clause-read g c = λ wal place running at.
    let same : c.in-Some.place ≡ place = (let both : ◌≡◌ {A = Option ReaderPosition} (Some c.in-Some.place) (Some place) = sym c.in-Some.is ∙ ap (λ (d : Demo _). d.place) c.self.view_is ∙ at in cc) in
    let index : c.commits_upto.result + c.in-Some.place.commits ≡ index_of place = omega (arith, c.commits_upto.ensures.value, ap index_of same) in
    let number = number_at c.deref.result.now c.args.self.now.commits (c.commits_upto.result + c.in-Some.place.commits) (index_of place) c.in-Some-copied.number (c.deref.ensures.value ∙ ap (λ (d : Demo _). d.commits) c.self.view_is) index
    (number_some c.deref.result.now (c.commits_upto.result + c.in-Some.place.commits) c.in-Some-copied.number c.get.result c.get.ensures.lookup (sym c.copied.ensures ∙ c.in-Some-copied.is)) in
    let held = c.in_ok-other.ensures.held wal place running at number in
    absurd (let wrong : ◌≡◌ {A = Option (Seq ℕ)} (Some c.in-Some-2.other) None = sym c.in-Some-2.is ∙ held.0 in cc)

pub returns-clause-read : goal.returns-clause-read
returns-clause-read g c = λ wal place running at.
    let same : c.in-Some.place ≡ place = (let both : ◌≡◌ {A = Option ReaderPosition} (Some c.in-Some.place) (Some place) = sym c.in-Some.is ∙ ap (λ (d : Demo _). d.place) c.self.view_is ∙ at in cc) in
    let index : c.commits_upto.result + c.in-Some.place.commits ≡ index_of place = omega (arith, c.commits_upto.ensures.value, ap index_of same) in
    let number = number_at c.deref.result.now c.args.self.now.commits (c.commits_upto.result + c.in-Some.place.commits) (index_of place) c.in-Some-copied.number (c.deref.ensures.value ∙ ap (λ (d : Demo _). d.commits) c.self.view_is) index
    (number_some c.deref.result.now (c.commits_upto.result + c.in-Some.place.commits) c.in-Some-copied.number c.get.result c.get.ensures.lookup (sym c.copied.ensures ∙ c.in-Some-copied.is)) in
    let held = c.in_ok-other.ensures.held wal place running at number in
    let there = ap (λ (d : Demo _). d.place) c.cache_commit.ensures.same ∙ at ∙ ap (λ (p : ReaderPosition). Some p) (sym same) in
    subst (λ (p : ReaderPosition). IfOk c.step_on.result (ReadsNext g.D.Disk wal p c.step_on.new.self)) same
    (c.step_on.ensures.read wal held.1 there (held.2 ∙ ap (slice_get (logged_in wal.entries)) (sym index)) (c.in_ok-other.ensures.some c.in_default-2.is))

pub returns-clause-reading : goal.returns-clause-reading
returns-clause-reading g c =
    let reads = ap (λ (p : Option ReaderPosition). is_some p) (sym (ap (λ (d : Demo _). d.place) c.self.view_is) ∙ c.in-Some.is) in
    c.step_on.ensures.reading (ap (λ (d : Demo _). is_some d.place) c.cache_commit.ensures.same ∙ reads) ∙ sym reads

pub returns-clause-comes : goal.returns-clause-comes
returns-clause-comes g c = λ gate most come.
    subst (λ (j : OnDisk _). HasCome g.D.Disk gate most j) (sym (ap (λ (d : Demo _). d.journal) c.step_on.ensures.same)) (c.cache_commit.ensures.comes gate most come)

pub returns-in_default-clause-steady : goal.returns-in_default-clause-steady
returns-in_default-clause-steady g c = known_self g.D.Disk c.args.self.now.journal.disk

pub returns-in_default-copied-clause-steady : goal.returns-in_default-copied-clause-steady
returns-in_default-copied-clause-steady g c = known_self g.D.Disk c.args.self.now.journal.disk

pub returns-in-Some-2-clause-steady : goal.returns-in-Some-2-clause-steady
returns-in-Some-2-clause-steady g c = c.in_ok-other.ensures.steady

pub returns-clause-steady : goal.returns-clause-steady
returns-clause-steady g c =
    let journal = sym (ap (λ (d : Demo _). d.journal) c.step_on.ensures.same) in
    on_ok _ c.step_on.result (subst (λ (j : OnDisk _). StaysKnown g.D.Disk c.args.self.now.journal.disk j.disk) journal c.in_ok-other.ensures.steady)
