use Rattle.std.proofs.Common.{◌≡◌, ◌∙◌, ◌+◌, ◌<◌, ◌∷◌, drop, length, Option, sym, ap, subst, arith}
use Rattle.std.specs.List.{slice_index_or}
use Rattle.std.proofs.lemmas.List.{drop_more}
use Rattle.dbl_model_table.specs.Rows.{changes_of}
use Rattle.dbl_model_event.specs.Clashes.{Clash}
use Rattle.dbl_envelope.specs.Suits.{Suits}
use Rattle.dbl_envelope.specs.Clashing.{IsClash}
use Rattle.dbl_envelope.proofs.ClashLemmas.{check_more, check_stop}
use Rattle.dbl_envelope.proofs.clash.check.Goals as goal

pub check_change-requires : goal.check_change-requires
check_change-requires c =
    let cs = changes_of c.args.commit.now in
    let i = c.loop-change.change-index in
    let x = c.change-item.result in
    let tie : c.changes-change-items.result.now ≡ cs = c.changes-change-items.ensures in
    let within : i < length cs = omega (arith, ap length tie) in
    let x_is : x ≡ slice_index_or cs i x = c.change-item.is ∙ ap (λ l. slice_index_or l i x) tie in
    record { suits = subst (Suits c.args.writer.now.infos) (sym x_is) (c.requires.suits i x within) }

pub loop-change-preserved : goal.loop-change-preserved
loop-change-preserved c =
    let writer = c.args.writer.now in
    let cs = changes_of c.args.commit.now in
    let i = c.loop-change.change-index in
    let x = c.change-item.result in
    let tie : c.changes-change-items.result.now ≡ cs = c.changes-change-items.ensures in
    let within : i < length cs = omega (arith, ap length tie) in
    let x_is : x ≡ slice_index_or cs i x = c.change-item.is ∙ ap (λ l. slice_index_or l i x) tie in
    let here : drop i cs ≡ x ∷ drop (i + 1) cs = drop_more cs i x within ∙ ap (λ y. y ∷ drop (i + 1) cs) (sym x_is) in
    check_more writer.identity.placeholder writer.infos cs i x here c.in-Ok.ensures.ok ∙ c.loop-change.invariant

pub returns-in-Err-clause-err : goal.returns-in-Err-clause-err
returns-in-Err-clause-err c =
    let writer = c.args.writer.now in
    let cs = changes_of c.args.commit.now in
    let i = c.loop-change.change-index in
    let x = c.change-item.result in
    let tie : c.changes-change-items.result.now ≡ cs = c.changes-change-items.ensures in
    let within : i < length cs = omega (arith, ap length tie) in
    let x_is : x ≡ slice_index_or cs i x = c.change-item.is ∙ ap (λ l. slice_index_or l i x) tie in
    let here : drop i cs ≡ x ∷ drop (i + 1) cs = drop_more cs i x within ∙ ap (λ y. y ∷ drop (i + 1) cs) (sym x_is) in
    subst (λ (o : Option Clash). IsClash o c.in-Err.error) c.loop-change.invariant (check_stop writer.identity.placeholder writer.infos cs i x c.in-Err.error here c.in-Err.ensures.err)
