use Rattle.std.proofs.Common.{◌∙◌, ◌∷◌, List, Bool, ap}
use Rattle.dbl_compact.proofs.MarkLemmas.{push_byte}
use Rattle.dbl_compact.proofs.marks.Marks.push.Goals as goal

pub returns-then-self-eq8-clause-pushed : goal.returns-then-self-eq8-clause-pushed
returns-then-self-eq8-clause-pushed c =
    let old = c.self.inside in
    push_byte old.count old.last c.with_mark-self-inside.result c.args.mark old.full.items c.push.new.self.items c.if-self-eq8.true c.in_ok-push.ensures.items
    c.with_mark-self-inside.ensures.marks ∙ ap (λ (marks : List Bool). c.args.mark ∷ marks) c.self.view_is
