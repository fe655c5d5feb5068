use Rattle.std.proofs.Common.{◌≡◌, ◌∙◌, ◌+◌, ◌≤◌, ℕ, [], List, length, take, sym, ap, subst, arith, length-take-le}
use Rattle.std.specs.Prelude.{Result, Err}
use Rattle.dbl_source_log.specs.declared.error.SourceError.{SourceError}
use Rattle.dbl_source_log.specs.declared.logged.Logged.{Logged}
use Rattle.dbl_source_log.specs.declared.reading.Step.{Step}
use Rattle.dbl_source_log.specs.Alterations.{tables_through, HaveVersions}
use Rattle.dbl_source_log.specs.Numbers.{commit_limit}
use Rattle.dbl_source_log.specs.Sent.{index_of, tables_at}
use Rattle.dbl_source_log.specs.Readings.{Steps}
use Rattle.dbl_source_scripted.specs.AlteredRows.{filled}
use Rattle.dbl_source_scripted.specs.Played.{Played}
use Rattle.dbl_source_scripted.specs.Steps.{ReadsNextMessage, FailsToRead, IsUnmoved}
use Rattle.dbl_source_scripted.specs.Fields.{played_of}
use Rattle.dbl_source_scripted.proofs.AlterLemmas.{length-filled}
use Rattle.dbl_source_scripted.proofs.FilledLemmas.{fewer_versions}
use Rattle.dbl_source_scripted.proofs.StepLemmas.{steps_here, fails_to_read, unmoved_here}
use Rattle.dbl_source_scripted.proofs.scripted.ScriptedSource.next_bytes.Goals as goal
use Rattle.dbl_source_scripted.proofs.scripted.ScriptedSource.next_bytes.Goals.{After-next_step-next}

-- the log ends before the reader's place
pub returns-in_default-get-clause-read : goal.returns-in_default-get-clause-read
returns-in_default-get-clause-read c =
    let i = c.self.inside in
    let index = c.commits_upto.result + c.in-Some.place.commits in
    let past : length c.deref.result.now ≤ index = c.in_default-get.ensures.lookup.3 in
    let ends : length (filled i.tables.items [] i.log.items) ≤ index_of c.in-Some.place =
    omega (arith, past, ap length c.deref.ensures.value, length-filled i.tables.items [] i.log.items, c.commits_upto.ensures.value) in
    subst (λ (p : Played). IsUnmoved p p) c.self.view_is (unmoved_here (played_of i) c.in-Some.place c.in-Some.is ends)

pub tables_through-requires : goal.tables_through-requires
tables_through-requires c =
    let i = c.self.inside in
    let index = c.commits_upto.result + c.in-Some.place.commits in
    let slice = c.deref-2.result.now in
    let within : index ≤ length slice = omega (arith, c.in-Some-get.ensures.lookup.3.0, ap length c.deref.ensures.value, ap length c.deref-2.ensures.value) in
    subst (HaveVersions (length (take index slice))) (sym c.deref-3.ensures.value)
    (fewer_versions (length (take index slice)) commit_limit i.tables.items
    (omega (arith, length-take-le index slice within, within, ap length c.deref-2.ensures.value, length-filled i.tables.items [] i.log.items, c.self.invariant.0.few)) c.self.invariant.0.versions)

pub next_step-next-requires-clause-number : goal.next_step-next-requires-clause-number
next_step-next-requires-clause-number c =
    let i = c.self.inside in
    omega (arith, c.in-Some-get.ensures.lookup.3.0, ap length c.deref.ensures.value, length-filled i.tables.items [] i.log.items, c.self.invariant.0.few)

-- what is promised of the step, of the source's own tables and log
steps : (c : After-next_step-next) → Steps c.self.inside.tables.items (filled c.self.inside.tables.items [] c.self.inside.log.items) c.in-Some.place c.next_step-next.result
steps c =
    let i = c.self.inside in
    let place = c.in-Some.place in
    let index = c.commits_upto.result + place.commits in
    let at : index ≡ index_of place = omega (arith, c.commits_upto.ensures.value) in
    let now : c.deref-4.result.now ≡ tables_at i.tables.items i.log.items place =
    c.deref-4.ensures.value
    ∙ c.in_ok-tables.ensures
    ∙ ap (λ (l : List Logged). tables_through (take index l) c.deref-3.result.now) c.deref-2.ensures.value
    ∙ ap (tables_through (take index i.log.items)) c.deref-3.ensures.value
    ∙ ap (λ (n : ℕ). tables_through (take n i.log.items) i.tables.items) at in
    steps_here i.tables.items c.deref-4.result.now i.log.items c.deref.result.now place i.described c.in-Some-get.entry.now index (index + 1) c.next_step-next.result
    now c.deref.ensures.value at (omega (arith, at)) c.in-Some-get.ensures.lookup.3.0 c.in-Some-get.ensures.lookup.3.1
    (c.self.invariant.0.placed place c.in-Some.is) (c.self.invariant.0.recalled place c.in-Some.is) c.next_step-next.ensures

pub advance-requires : goal.advance-requires
advance-requires c =
    let i = c.self.inside in
    let place = c.in-Some.place in
    let on : ReadsNextMessage (played_of i) c.in-Ok.next = record {
      place = place;
      was = c.in-Some.is;
      next = subst (λ (r : Result Step SourceError). Steps i.tables.items (filled i.tables.items [] i.log.items) place r) c.in-Ok.is (steps (goal.at.advance-requires c).After-next_step-next);
    } in
    subst (λ (p : Played). ReadsNextMessage p c.in-Ok.next) c.self.view_is on

pub returns-in-Err-clause-err : goal.returns-in-Err-clause-err
returns-in-Err-clause-err c =
    let i = c.self.inside in
    let place = c.in-Some.place in
    let log = filled i.tables.items [] i.log.items in
    let fault : Steps i.tables.items log place (Err c.in-Err.error) =
    subst (λ (r : Result Step SourceError). Steps i.tables.items log place r) c.in-Err.is (steps (goal.at.returns-in-Err-clause-err c).After-next_step-next) in
    subst (FailsToRead c.args.self.now c.note_unread.new.self) (sym c.note_unread.ensures.same)
    (fails_to_read c.args.self.now c.note_unread.new.self place c.in-Err.error (sym (ap (λ (p : Played). p.place) c.self.view_is) ∙ c.in-Some.is)
    (subst (λ (p : Played). Steps p.tables p.log place (Err c.in-Err.error)) c.self.view_is fault) c.note_unread.ensures.failed c.note_unread.ensures.memory)
