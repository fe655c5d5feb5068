use Rattle.std.proofs.Common.{◌≡◌, ◌∙◌, ◌++◌, List, ◌∷◌, [], ap, sym}
use Rattle.std.proofs.lemmas.Result.{err_from_is_err_and}
use Rattle.std.specs.Prelude.{Ok}
use Rattle.dbl_model_table.specs.declared.change.Change.{Change}
use Rattle.dbl_txn_changes.proofs.Captured.{captured, one_change, no_change}
use Rattle.dbl_txn_changes.proofs.stated.change_in.Goals as goal

pub returns-in_err-stated : goal.returns-in_err-stated
returns-in_err-stated c =
    let infos = c.args.infos.now.items in
    let info = c.in-Some.info.now in
    let found = captured infos c.deref.result.now c.args.table info c.deref.ensures.value c.in-Some.ensures.lookup.0 c.in-Some.ensures.lookup.1 in
    let p = err_from_is_err_and c.from_residual.result c.from_residual.ensures.1 in
    rw (p.1, p.2) (no_change c.args.table _ info c.args.relation.now c.args.change c.in_err-stated.field-0.0 found c.in_err-stated.ensures)

pub returns : goal.returns
returns c =
    let infos = c.args.infos.now.items in
    let info = c.in-Some.info.now in
    let found = captured infos c.deref.result.now c.args.table info c.deref.ensures.value c.in-Some.ensures.lookup.0 c.in-Some.ensures.lookup.1 in
    let made : c.make-2.result ≡ c.in_ok-stated.stated ∷ [] =
    c.make-2.ensures ∙ (c.in_ok-push.ensures.items ∙ ap (λ (l : List Change). l ++ c.in_ok-stated.stated ∷ []) c.new-changes.ensures.items) in
    one_change c.args.table _ info c.args.relation.now c.args.change c.in_ok-stated.stated found c.in_ok-stated.ensures ∙ ap (λ (l : List Change). Ok l) (sym made)
