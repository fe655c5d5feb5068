use Rattle.std.proofs.Common.{◌∙◌, ◌++◌, ◌∷◌, [], ℕ, Option, List, sym, ap}
use Rattle.dbl_tables_altered.specs.Alterations.{removes}
use Rattle.dbl_tables_altered.proofs.LeftLemmas.{none_pushed, one_pushed}
use Rattle.dbl_tables_altered.proofs.cells.push_left.Goals as goal

pub returns-then-removes : goal.returns-then-removes
returns-then-removes c =
    none_pushed (removes c.args.alteration.now c.args.name.now) c.args.text.now c.args.left.now.items (sym c.removes.ensures ∙ c.if-removes.true)

pub returns : goal.returns
returns c =
    c.in_ok-push.ensures.items
    ∙ (ap (λ (v : Option (List ℕ)). c.args.left.now.items ++ v ∷ []) c.in_ok-copy_text.ensures
    ∙ one_pushed (removes c.args.alteration.now c.args.name.now) c.args.text.now c.args.left.now.items (sym c.removes.ensures ∙ c.if-removes.false))
