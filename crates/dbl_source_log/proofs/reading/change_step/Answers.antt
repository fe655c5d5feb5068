use Rattle.std.proofs.Common.{◌≡◌, Option, take, subst}
use Rattle.std.specs.Prelude.{MatchOption}
use Rattle.dbl_source_log.specs.Sent.{oids_of, onto_relations}
use Rattle.dbl_source_log.proofs.PlaceLemmas.{base}
use Rattle.dbl_source_log.specs.declared.reading.Missing.{Missing}
use Rattle.dbl_source_log.specs.Readings.{IsMissing}
use Rattle.dbl_source_log.proofs.ReadingLemmas.{describes_here, missing_steps, change_steps}
use Rattle.dbl_source_log.proofs.reading.change_step.Goals as goal

pub returns-in-Some : goal.returns-in-Some
returns-in-Some c opening log entry same begun there change placed all =
    let here = base opening log c.args.place entry in
    let found = c.in_ok-relation.ensures.next here (describes_here opening log c.args.place entry c.args.message.now there begun change c.args.tables.now same c.args.described.now all) in
    missing_steps opening log c.args.place entry c.args.message.now there begun change c.args.tables.now same c.in-Some.field-0 c.step_to.result placed
    (subst (λ (o : Option Missing). MatchOption o (onto_relations c.args.tables.now (oids_of c.args.message.now) here ≡ onto_relations c.args.tables.now (take c.args.place.table (oids_of c.args.message.now)) here)
    (IsMissing c.args.tables.now (oids_of c.args.message.now) c.args.place.table here)) c.in-Some.is found)
    c.step_to.ensures.leads c.step_to.ensures.fault

pub returns-in-None : goal.returns-in-None
returns-in-None c opening log entry same begun there change placed all =
    let here = base opening log c.args.place entry in
    let found = c.in_ok-relation.ensures.next here (describes_here opening log c.args.place entry c.args.message.now there begun change c.args.tables.now same c.args.described.now all) in
    change_steps opening log c.args.place entry c.args.message.now there begun change c.args.tables.now same c.step_to-in-None.result placed
    (subst (λ (o : Option Missing). MatchOption o (onto_relations c.args.tables.now (oids_of c.args.message.now) here ≡ onto_relations c.args.tables.now (take c.args.place.table (oids_of c.args.message.now)) here)
    (IsMissing c.args.tables.now (oids_of c.args.message.now) c.args.place.table here)) c.in-None.is found)
    c.step_to-in-None.ensures.leads c.step_to-in-None.ensures.fault
