use Rattle.std.proofs.Common.{◌∙◌, [], ◌∷◌, codes, sym}
use Rattle.std.specs.Fmt.{decimal}
use Rattle.std.specs.String.{string_bytes}
use Rattle.std.proofs.lemmas.Result.{IfOk-weaker}
use Rattle.dbl_gen.proofs.TextLemmas.{joined_four}
use Rattle.dbl_gen.proofs.writing.write_insert.Goals as goal

pub returns : goal.returns
returns c = IfOk-weaker c.writeln.result _ _ (λ _ h. rw (sym c.session_of-session.ensures) (h ∙ joined_four (string_bytes c.args.text.now) (codes "s") (decimal c.session_of-session.result) (codes " insert public.accounts id=") (decimal c.args.key) (codes " owner=u") (decimal c.args.key) (codes " balance=0 note=new") (10 ∷ []))) c.writeln.ensures.bytes
