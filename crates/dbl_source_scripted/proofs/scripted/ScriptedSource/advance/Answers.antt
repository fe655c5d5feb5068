use Rattle.std.proofs.Common.{Some, [], refl, sym, subst}
use Rattle.dbl_source_log.specs.Sent.{told_at}
use Rattle.dbl_source_scripted.specs.AlteredRows.{filled}
use Rattle.dbl_source_scripted.specs.Played.{Played}
use Rattle.dbl_source_scripted.specs.Steps.{ReadsNextMessage, IsReadBy}
use Rattle.dbl_source_scripted.specs.Fields.{played_of}
use Rattle.dbl_source_scripted.proofs.StepLemmas.{next_played, redescribed}
use Rattle.dbl_source_scripted.proofs.scripted.ScriptedSource.advance.Goals as goal

pub invariant_of-self : goal.invariant_of-self
invariant_of-self c =
    let i = c.self.inside in
    (redescribed i.tables.items (filled i.tables.items [] i.log.items) i.asked.items i.place i.described c.remember.new.described c.in_err-remember.ensures.err c.self.invariant.0, c.self.invariant.1)

pub invariant_of-self-2 : goal.invariant_of-self-2
invariant_of-self-2 c =
    let i = c.self.inside in
    let on : ReadsNextMessage (played_of i) c.args.next = subst (λ (p : Played). ReadsNextMessage p c.args.next) (sym c.self.view_is) c.requires in (
      next_played i.tables.items (filled i.tables.items [] i.log.items) i.asked.items on.place i.place i.described c.remember.new.described c.args.next on.next
          (c.in_ok-remember.ensures.ok on.next.message (told_at i.tables.items (filled i.tables.items [] i.log.items) on.place) (sym on.next.described) (c.self.invariant.0.recalled on.place on.was)) c.self.invariant.0,
      c.self.invariant.1,
    )

pub returns-clause-ok : goal.returns-clause-ok
returns-clause-ok c =
    let i = c.self.inside in
    let on : ReadsNextMessage (played_of i) c.args.next = subst (λ (p : Played). ReadsNextMessage p c.args.next) (sym c.self.view_is) c.requires in
    let now : Played = record (played_of i) { place = Some c.args.next.place } in
    let read : IsReadBy (played_of i) now c.args.next.bytes = record {
      place = on.place;
      was = on.was;
      next = c.args.next.place;
      is = refl;
      same = on.next.same;
      message = on.next.message;
      spelled = on.next.spelled;
      told = on.next.told;
    } in
    subst (λ (old : Played). IsReadBy old now c.args.next.bytes) c.self.view_is read
