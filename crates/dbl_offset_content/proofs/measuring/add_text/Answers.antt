use Rattle.std.proofs.Common.{◌≡◌, ℕ, List, length, ap, arith}
use Rattle.dbl_record.proofs.Sizes.{text_size}
use Rattle.dbl_offset_content.proofs.measuring.add_text.Goals as goal

pub returns : goal.returns
returns c =
    let same : length c.as_str-content.result.now ≡ length c.args.content.now = ap (λ (t : List ℕ). length t) c.as_str-content.ensures.value in
    record {
      long = omega (arith, same, text_size c.args.content.now, c.saturating_add.ensures, c.saturating_add-2.ensures);
      fits = λ le. record { utf8 = c.as_str-content.ensures.utf8; short = omega (arith, same, c.saturating_add.ensures, c.saturating_add-2.ensures, le) };
    }
