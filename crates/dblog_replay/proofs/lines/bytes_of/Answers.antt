use Rattle.std.proofs.Common.{◌∙◌, ap, sym, arith}
use Rattle.std.proofs.lemmas.Bool.{false_from_ne_true}
use Rattle.std.proofs.lemmas.Result.{IfOk-weaker}
use Rattle.std.specs.Result.{result_ok}
use Rattle.hex.specs.Hex.{decode_of}
use Rattle.dblog_replay.specs.Lines.{bytes_in}
use Rattle.dblog_replay.proofs.LineLemmas.{no_spaces}
use Rattle.dblog_replay.proofs.lines.bytes_of.Goals as goal

pub returns-in-None : goal.returns-in-None
unfolding bytes_in
returns-in-None c =
    IfOk-weaker c.decode_digits.result _ _
    (λ found h. h ∙ ap (λ digits. result_ok (decode_of digits)) (sym (no_spaces c.args.line.now (λ k below. false_from_ne_true _ (c.in-None.ensures k (omega arith) below)))))
    c.decode_digits.ensures

pub returns-in_ok-digits-in-Some : goal.returns-in_ok-digits-in-Some
unfolding bytes_in
returns-in_ok-digits-in-Some c =
    IfOk-weaker c.decode_digits-in-Some.result _ _
    (λ found h. h ∙ ap (λ digits. result_ok (decode_of digits)) (c.as_slice.ensures.value ∙ c.in_ok-digits-in-Some.ensures))
    c.decode_digits-in-Some.ensures
