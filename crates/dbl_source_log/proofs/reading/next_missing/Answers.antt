use Rattle.std.proofs.Common.{◌∙◌, ◌∷◌, ℕ, List, take, sym, ap, subst, arith}
use Rattle.dbl_pgmsg.specs.declared.messages.Message.{Message}
use Rattle.dbl_source_log.specs.Sent.{oids_of, onto_relations}
use Rattle.dbl_source_log.specs.Readings.{Describes}
use Rattle.dbl_source_log.proofs.ReadingLemmas.{passed_over, none_to_tell, one_missing, oid_within, all_looked_at}
use Rattle.dbl_source_log.proofs.reading.next_missing.Goals as goal

pub loop-oid-preserved-then-is_described : goal.loop-oid-preserved-then-is_described
loop-oid-preserved-then-is_described c base all =
    let same = c.loop-oid.invariant base all in
    let past = onto_relations c.args.tables.now (take c.loop-oid.table (oids_of c.args.message.now)) base in
    passed_over c.args.tables.now (oids_of c.args.message.now) c.loop-oid.table c.in-Some.oid base (sym c.in-Some.ensures.oid)
    (sym (c.is_described.ensures past (subst (Describes c.args.described.now) (sym same) all)) ∙ c.if-is_described.true)
    ∙ same

pub returns-in-Some-2-clause-next : goal.returns-in-Some-2-clause-next
returns-in-Some-2-clause-next c base all =
    let same = c.loop-oid.invariant base all in
    let told = sym c.in_ok-relation.ensures ∙ c.in-Some-2.is in
    let past = onto_relations c.args.tables.now (take c.loop-oid.table (oids_of c.args.message.now)) base in
    record {
      told =
          one_missing c.args.tables.now (oids_of c.args.message.now) c.loop-oid.table c.in-Some.oid base (sym c.in-Some.ensures.oid) c.in-Some-2.relation
          (sym (c.is_described.ensures past (subst (Describes c.args.described.now) (sym same) all)) ∙ c.if-is_described.false) told
          ∙ ap (λ (l : List Message). c.in-Some-2.relation ∷ l) same;
    }

pub loop-oid-smaller : goal.loop-oid-smaller
loop-oid-smaller c = omega (arith, oid_within (oids_of c.args.message.now) c.loop-oid.table c.in-Some.oid c.in-Some.ensures.oid)

pub loop-oid-preserved : goal.loop-oid-preserved
loop-oid-preserved c base all =
    none_to_tell c.args.tables.now (oids_of c.args.message.now) c.loop-oid.table c.in-Some.oid base (sym c.in-Some.ensures.oid) (sym c.in_ok-relation.ensures ∙ c.in_default-2.is) ∙ c.loop-oid.invariant base all

pub returns-clause-next : goal.returns-clause-next
returns-clause-next c base all =
    ap (λ (l : List ℕ). onto_relations c.args.tables.now l base) (sym (all_looked_at (oids_of c.args.message.now) c.loop-oid.table (sym c.oid_at.ensures.oid ∙ c.in_default.is)))
    ∙ c.loop-oid.invariant base all
