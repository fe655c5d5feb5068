use Rattle.std.proofs.Common.{◌∙◌, [], ◌∷◌, codes}
use Rattle.std.specs.Fmt.{decimal}
use Rattle.std.specs.String.{string_bytes}
use Rattle.std.proofs.lemmas.Result.{IfOk-weaker}
use Rattle.dbl_gen.specs.Workload.{row_line}
use Rattle.dbl_gen.proofs.TextLemmas.{joined_two}
use Rattle.dbl_gen.proofs.writing.write_row.Goals as goal

pub returns : goal.returns
unfolding row_line
returns c = IfOk-weaker c.writeln.result _ _ (λ _ h. h ∙ joined_two (string_bytes c.args.text.now) (codes "row public.accounts id=") (decimal c.args.key) (codes " owner=u") (decimal c.args.key) (codes " balance=100 note=nnnnnnnnnnnnnnnnnnnnnnnnnnnnnnnnnnnnnnnnnnnnnnnnnnnnnnnnnnnnnnnn") (10 ∷ [])) c.writeln.ensures.bytes
