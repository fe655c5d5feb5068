use Rattle.std.proofs.Common.{◌∙◌, ◌++◌, ◌∷◌, [], ap, sym, append_assoc, codes, decimal}
use Rattle.std.proofs.lemmas.Result.{IfOk-weaker}
use Rattle.dbl_lines.specs.Faults.{fault_line}
use Rattle.dbl_lines.proofs.run_error.RunError.text.Goals as goal

pub returns-in-BadLine : goal.returns-in-BadLine
returns-in-BadLine c =
    IfOk-weaker c.format.result _ _
    (λ s h. h ∙ ap (λ rest. codes "dblog: line " ++ rest) (sym (append_assoc (decimal c.in-BadLine.number) (codes ": bad line") (10 ∷ []))) ∙ ap (λ halt. fault_line halt ++ 10 ∷ []) (sym c.in-BadLine.is))
    c.format.ensures.ok
