use Rattle.std.proofs.Common.{◌∙◌, ◌++◌, ◌∷◌, [], ap, codes, decimal}
use Rattle.std.proofs.lemmas.Result.{IfOk-weaker}
use Rattle.dblog_replay.proofs.ApplyLemmas.{regroup}
use Rattle.dblog_replay.proofs.apply.FaultAt.text.Goals as goal

pub returns : goal.returns
returns c =
    IfOk-weaker c.format.result _ _
    (λ s h. h ∙ ap (λ words. codes "dblog: line " ++ (decimal c.args.self.now.number ++ (codes ": " ++ (words ++ 10 ∷ [])))) c.in_ok-words.ensures
    ∙ ap (λ rest. codes "dblog: line " ++ rest) (regroup (decimal c.args.self.now.number) (codes ": ") _ (10 ∷ [])))
    c.format.ensures.ok
