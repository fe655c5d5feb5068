use Rattle.std.proofs.Common.{◌∙◌, sym, ap, subst}
use Rattle.dbl_pgmsg.specs.declared.messages.Message.{Message}
use Rattle.dbl_pgmsg.specs.declared.messages.Message.TheVariants as says
use Rattle.dbl_txn_shapes.specs.Shaping.{Readies}
use Rattle.dbl_txn_shapes.proofs.reader.ShapingAssembler.prepare.Goals as goal

pub returns-in-Relation : goal.returns-in-Relation
returns-in-Relation c = λ infos after ms held s. (
    let r = c.in-Relation in
    subst (λ (m : Message). Readies infos after m ms held c.shape.new.self c.shape.result)
    (ap (says.Relation r.oid r.namespace r.name r.identity) c.items.ensures ∙ sym r.is)
    (c.shape.ensures infos after ms held r.identity s))
