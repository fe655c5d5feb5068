use Rattle.std.proofs.Common.{◌≡◌, ◌∙◌, Option, sym, ap, subst}
use Rattle.std.proofs.lemmas.Result.{on_ok_weaker, IfErr-weaker}
use Rattle.dbl_model_table.specs.declared.identity.Identity.{Identity}
use Rattle.dbl_model_event.specs.Clashes.{Clash, clash_at}
use Rattle.dbl_envelope.specs.Clashing.{IsClash, change_clash, notices_clash}
use Rattle.dbl_envelope.proofs.ClashLemmas.{change_found}
use Rattle.dbl_envelope.proofs.clash.check_change.Goals as goal

pub returns-clause-ok : goal.returns-clause-ok
returns-clause-ok c =
    let writer = c.args.writer.now in
    let info = c.info_of-info.result.now in
    let found : notices_clash writer.identity.placeholder writer.infos c.args.change.now ≡ clash_at info c.in_ok-found.found =
    change_found writer.identity.placeholder writer.infos c.args.change.now info c.info_of-info.ensures.info c.info_of-info.ensures.suits ∙ ap (clash_at info) (sym (c.in_ok-found.ensures ∙ ap (λ (i : Identity). change_clash i.placeholder info c.args.change.now) c.identity.ensures)) in
    on_ok_weaker c.refuse.result (λ e. found ∙ ap (clash_at info) e) c.refuse.ensures.ok

pub returns-clause-err : goal.returns-clause-err
returns-clause-err c =
    let writer = c.args.writer.now in
    let info = c.info_of-info.result.now in
    let found : notices_clash writer.identity.placeholder writer.infos c.args.change.now ≡ clash_at info c.in_ok-found.found =
    change_found writer.identity.placeholder writer.infos c.args.change.now info c.info_of-info.ensures.info c.info_of-info.ensures.suits ∙ ap (clash_at info) (sym (c.in_ok-found.ensures ∙ ap (λ (i : Identity). change_clash i.placeholder info c.args.change.now) c.identity.ensures)) in
    IfErr-weaker c.refuse.result _ _ (λ e h. subst (λ (o : Option Clash). IsClash o e) (sym found) h) c.refuse.ensures.err
