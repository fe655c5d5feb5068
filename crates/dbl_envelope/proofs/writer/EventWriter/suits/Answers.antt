use Rattle.std.proofs.Common.{◌∙◌, List, All, refl, subst, arith, rules}
use Rattle.std.proofs.lemmas.List.{take_all}
use Rattle.std.proofs.lemmas.List.Elements.{All-more}
use Rattle.dbl_model_table.specs.declared.change.Change.{Change}
use Rattle.dbl_envelope.specs.Suits.{Suits}
use Rattle.dbl_envelope.proofs.writer.EventWriter.suits.Goals as goal

pub loop-change-preserved : goal.loop-change-preserved
loop-change-preserved c =
    let infos = c.args.self.now.infos in
    let x = c.change-item.result in
    let fits : Suits infos x = c.suits_change.ensures.0 (search rules) in
    All-more (Suits infos) c.changes-change-items.result.now c.loop-change.change-index x (omega arith) c.loop-change.invariant (subst (Suits infos) c.change-item.is fits)

pub returns : goal.returns
returns c =
    let xs = c.changes-change-items.result.now in
    let all = take_all c.loop-change.change-index xs (omega arith) in
    (λ _. subst (λ (cs : List Change). All (Suits c.args.self.now.infos) cs) (all ∙ c.changes-change-items.ensures) c.loop-change.invariant, λ _. refl)
