use Rattle.std.proofs.Common.{◌≡◌, ◌∙◌, true, false, drop, sym, ap, take_all, length-drop, arith}
use Rattle.fast_float.specs.Text.{scan}
use Rattle.serde_json.specs.Read.{number_of, number_from}
use Rattle.dbl_consume.proofs.JsonValueLemmas.{negative_text, positive_text}
use Rattle.dbl_consume.proofs.numbers.number_of.Goals as goal

pub returns-then-has_minus : goal.returns-then-has_minus
returns-then-has_minus c =
    let s = c.as_bytes-bytes.result.now in
    let digits : c.scan.result ≡ scan (drop 1 s) = c.scan.ensures.parts ∙ ap scan (take_all _ (drop 1 s) (omega (arith, length-drop 1 s))) in
    c.negative_number.ensures ∙ ap (number_from true) digits ∙ sym (negative_text s (sym c.has_minus.ensures.value ∙ c.if-has_minus.true)) ∙ ap number_of c.as_bytes-bytes.ensures.value

pub returns-else-has_minus : goal.returns-else-has_minus
returns-else-has_minus c =
    let s = c.as_bytes-bytes.result.now in
    c.positive_number.ensures ∙ ap (number_from false) c.scan-else-has_minus.ensures.parts ∙ sym (positive_text s (sym c.has_minus.ensures.value ∙ c.if-has_minus.false)) ∙ ap number_of c.as_bytes-bytes.ensures.value
