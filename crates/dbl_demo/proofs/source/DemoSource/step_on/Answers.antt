use Rattle.std.proofs.Common.{◌≡◌, ◌∙◌, ◌⊎◌, ◌+◌, ℕ, Bool, true, false, None, Some, List, inl, inr, refl, ap, sym, subst, arith}
use Rattle.std.specs.Prelude.{◌==◌, not, slice_get}
use Rattle.std.proofs.lemmas.Bool.{eqb-true}
use Rattle.dbl_pgmsg.specs.declared.messages.RelationColumn.{RelationColumn}
use Rattle.dbl_source_log.specs.Sent.{index_of, told_at}
use Rattle.dbl_demo_wal.specs.Sound.{logged_in}
use Rattle.dbl_demo_wal.proofs.KeptTables.{tables_here}
use Rattle.dbl_demo_laws.specs.Demo.{AreRecalled, Demo, IsRunning}
use Rattle.dbl_demo_laws.proofs.NextLemmas.{read_after}
use Rattle.dbl_demo.proofs.HeldLemmas.{place_near}
use Rattle.dbl_demo.proofs.source.DemoSource.step_on.Goals as goal

-- a place of a log has no more commits before it
pub returns-then-next-gt-MOST_COMMITS-clause-read : goal.returns-then-next-gt-MOST_COMMITS-clause-read
returns-then-next-gt-MOST_COMMITS-clause-read g c = λ wal running at held some.
    let number : c.args.index + 1 ≡ index_of c.args.place + 1 = omega (arith, c.requires.index) in
    let there : slice_get (logged_in wal.entries) (index_of c.args.place) ≡ Some c.in-Some.held = ap (slice_get (logged_in wal.entries)) (sym c.requires.index) ∙ sym held ∙ sym (ap (λ (d : Demo _). d.held) c.self.view_is) ∙ c.in-Some.is in
    let recalled = running.reader.recalled c.args.place at in
    let then = c.deref.ensures.value ∙ ap (λ (d : Demo _). d.tables) c.self.view_is ∙ sym (tables_here c.args.self.now.tables wal.entries c.args.place) in
    let here = subst (λ (described : List (ℕ × List RelationColumn)). AreRecalled described (told_at c.args.self.now.tables (logged_in wal.entries) c.args.place)) (sym (ap (λ (d : Demo _). d.described) c.self.view_is)) recalled in
    let next = c.in-Ok.ensures c.args.self.now.tables (logged_in wal.entries) then number there (running.reader.placed c.args.place at) here in
    absurd (omega (arith, place_near g.D.Disk c.args.self.now wal c.args.place running at c.in-Ok.next.place next.placed, c.if-next-gt-MOST_COMMITS.true))

same_commits : (a b : ℕ) → not (a == b) ≡ false → a ≡ b
same_commits a b is = eqb-true a b (by (a == b) is)
  where
    by : (t : Bool) → not t ≡ false → t ≡ true
    by true is = refl
    by false is = absurd (let wrong : true ≡ false = is in cc)

-- the reader is after the message, and was described its table if it describes one
pub returns-clause-read : goal.returns-clause-read
returns-clause-read g c = λ wal running at held some.
    let number : c.args.index + 1 ≡ index_of c.args.place + 1 = omega (arith, c.requires.index) in
    let there : slice_get (logged_in wal.entries) (index_of c.args.place) ≡ Some c.in-Some.held = ap (slice_get (logged_in wal.entries)) (sym c.requires.index) ∙ sym held ∙ sym (ap (λ (d : Demo _). d.held) c.self.view_is) ∙ c.in-Some.is in
    let runs = subst (IsRunning g.D.Disk wal) (sym c.self.view_is) running in
    let placed = ap (λ (d : Demo _). d.place) c.self.view_is ∙ at in
    let recalled = runs.reader.recalled c.args.place placed in
    let then = c.deref.ensures.value ∙ sym (tables_here c.self.inside.tables.items wal.entries c.args.place) in
    let next = c.in-Ok.ensures c.self.inside.tables.items (logged_in wal.entries) then number there (runs.reader.placed c.args.place placed) recalled in
    let more = c.in_ok-remember.ensures.ok next.message (told_at c.self.inside.tables.items (logged_in wal.entries) c.args.place) (sym next.described) recalled in
    let whole : (c.keep_held.new.held ≡ None) ⊎ ((c.keep_held.new.held ≡ c.self.inside.held) × (c.in-Ok.next.place.commits ≡ c.args.place.commits)) = elim c.keep_held.ensures [
      | inl none ↦ inl none
      | inr kept ↦ inr (kept.0, same_commits c.in-Ok.next.place.commits c.args.place.commits kept.1)
    ] in
    read_after g.D.Disk _ wal c.args.place runs placed c.in-Ok.next next c.remember.new.described.entries c.keep_held.new.held (subst (AreRecalled c.remember.new.described.entries) (sym next.told) more) whole
