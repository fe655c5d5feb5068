use Rattle.std.proofs.Common.{◌∙◌, [], ◌∷◌, codes, sym}
use Rattle.std.specs.Fmt.{decimal}
use Rattle.std.specs.String.{string_bytes}
use Rattle.std.proofs.lemmas.Result.{IfOk-weaker}
use Rattle.dbl_gen.proofs.TextLemmas.{joined_one}
use Rattle.dbl_gen.proofs.writing.write_delete.Goals as goal

pub returns : goal.returns
returns c = IfOk-weaker c.writeln.result _ _ (λ _ h. rw (sym c.session_of-session.ensures) (h ∙ joined_one (string_bytes c.args.text.now) (codes "s") (decimal c.session_of-session.result) (codes " delete public.accounts id=") (decimal c.args.key) (10 ∷ []))) c.writeln.ensures.bytes
