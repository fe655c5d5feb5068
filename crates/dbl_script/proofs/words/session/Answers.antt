use Rattle.std.proofs.Common.{◌<◌, ℕ, List, Option, length, subst, sym, arith}
use Rattle.std.proofs.lemmas.Bool.Decides.{nat_tests}
use Rattle.dbl_script.specs.Reads.{Reads}
use Rattle.dbl_script.proofs.TextLemmas.{session_text}
use Rattle.dbl_script.proofs.words.session.Goals as goal

pub returns : goal.returns
returns c =
    let some : 0 < length c.args.word.now = grind (arith, nat_tests, c.if-is_empty.ensures) in
    let wanted : Option (List ℕ) → Type 0 = λ want. Reads want c.utf8-2.result in
    subst wanted (session_text c.args.word.now some c.if-word-gt16.false (sym c.if-not-are_session_bytes.ensures)) c.utf8-2.ensures
