use Rattle.std.proofs.Common.{◌≡◌, ◌∙◌, ℕ, Option, List, [], sym, subst, arith}
use Rattle.std.proofs.lemmas.Grind.{common_steps}
use Rattle.dbl_lines.specs.Gathering.{IsPut}
use Rattle.dbl_lines.specs.Writing.{Prints}
use Rattle.dbl_lines.proofs.WritingLemmas.{wrote_none}
use Rattle.dbl_lines.proofs.PutLemmas.{all_written, finishes}
use Rattle.dbl_lines.proofs.writer.LineWriter.finish.Goals as goal

pub returns-then-is_empty-clause-prints : goal.returns-then-is_empty-clause-prints
returns-then-is_empty-clause-prints g c = λ start lines h.
    let none : c.self.inside.gathered.items ≡ [] = grind (arith, common_steps) in
    all_written start _ _ c.args.self lines (wrote_none _ c.args.self (sym c.self.view_is ∙ none)) h

pub returns-clause-prints : goal.returns-clause-prints
returns-clause-prints g c =
    subst (λ text. (start : Option (List ℕ)) (lines : List (List ℕ)) → IsPut start (g.O.Output.written c.args.output.now) text lines → Prints lines c.flush.result start (g.O.Output.written c.flush.new.output)) c.self.view_is
    (λ start lines h. finishes start _ _ c.self.inside.gathered.items lines c.flush.result h c.flush.ensures.wrote c.flush.ensures.prefix)
