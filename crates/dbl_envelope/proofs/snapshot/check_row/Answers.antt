use Rattle.std.proofs.Common.{◌∙◌, Option, List, ℕ, sym, subst}
use Rattle.std.proofs.lemmas.Result.{on_ok_weaker, IfErr-weaker}
use Rattle.dbl_model_event.specs.Clashes.{clash_at}
use Rattle.dbl_envelope.specs.Clashing.{IsClash}
use Rattle.dbl_envelope.proofs.snapshot.check_row.Goals as goal

pub returns-clause-ok : goal.returns-clause-ok
returns-clause-ok c = on_ok_weaker c.refuse.result (λ e. sym c.in_ok-found.ensures ∙ e) c.refuse.ensures.ok

pub returns-clause-err : goal.returns-clause-err
returns-clause-err c =
    IfErr-weaker c.refuse.result _ _ (λ e h. subst (λ (o : Option (List ℕ)). IsClash (clash_at c.args.info.now o) e) c.in_ok-found.ensures h) c.refuse.ensures.err
