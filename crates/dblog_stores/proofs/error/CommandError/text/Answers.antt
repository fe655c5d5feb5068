use Rattle.std.proofs.Common.{◌≡◌, ◌∙◌, ℕ, List, [], ◌∷◌, ◌++◌, ap, sym, append_assoc, codes, decimal}
use Rattle.std.proofs.lemmas.Result.{IfOk-weaker}
use Rattle.dblog_stores.specs.Errors.{error_line, store_name}
use Rattle.dblog_stores.proofs.error.CommandError.text.Goals as goal

regroup : (a b c d e : List ℕ) → a ++ (b ++ (c ++ (d ++ e))) ≡ (((a ++ b) ++ c) ++ d) ++ e
regroup a b c d e = sym (simp append_assoc)

pub returns-in-BadEntry : goal.returns-in-BadEntry
returns-in-BadEntry c =
    let here = c.in-BadEntry in
    IfOk-weaker c.format-in-BadEntry.result _ _
    (λ s h. h ∙ regroup (codes "dblog: bad entry ") (decimal here.index) (codes " in ") (store_name here.store) (10 ∷ []) ∙ ap (λ e. error_line e ++ 10 ∷ []) (sym here.is))
    c.format-in-BadEntry.ensures.ok
