use Rattle.std.proofs.Common.{◌≡◌, ◌++◌, take, arith, rules}
use Rattle.std.proofs.lemmas.Bool.{false_from_ne_true}
use Rattle.dbl_lines.proofs.LongTextLemmas.{split_newline, unbroken_before, unbroken}
use Rattle.dbl_lines.proofs.long_text.take_part.Goals as goal

pub returns-in_ok-extend_from_slice-in-Some : goal.returns-in_ok-extend_from_slice-in-Some
returns-in_ok-extend_from_slice-in-Some c =
    let bytes = c.args.bytes.now in
    let found = c.in-Some.ensures in
    let grown : c.extend_from_slice.new.self.items ≡ c.args.line.now.items ++ take c.in-Some.end bytes = search rules in (
      take c.in-Some.end bytes,
      split_newline bytes c.in-Some.end found.0.high found.1,
      grown,
      unbroken_before bytes c.in-Some.end (omega arith) (λ k below. false_from_ne_true _ (found.0.before k (omega arith) below)),
      found.0.high,
    )

pub returns-in_ok-extend_from_slice-in-None : goal.returns-in_ok-extend_from_slice-in-None
returns-in_ok-extend_from_slice-in-None c =
    let grown : c.extend_from_slice-in-None.new.self.items ≡ c.args.line.now.items ++ c.args.bytes.now = search rules in
    (grown, unbroken c.args.bytes.now (λ k below. false_from_ne_true _ (c.in-None.ensures k (omega arith) below)))
