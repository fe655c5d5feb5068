use Rattle.std.proofs.Common.{◌∙◌, [], ◌∷◌, codes, sym}
use Rattle.std.specs.Fmt.{decimal}
use Rattle.std.specs.String.{string_bytes}
use Rattle.std.proofs.lemmas.Result.{IfOk-weaker}
use Rattle.dbl_gen.proofs.TextLemmas.{joined_three}
use Rattle.dbl_gen.proofs.writing.write_note.Goals as goal

pub returns : goal.returns
returns c = IfOk-weaker c.writeln.result _ _ (λ _ h. rw (sym c.session_of-session.ensures) (h ∙ joined_three (string_bytes c.args.text.now) (codes "s") (decimal c.session_of-session.result) (codes " update public.accounts id=") (decimal c.args.key) (codes " set note=g") (decimal c.args.group) (10 ∷ []))) c.writeln.ensures.bytes
