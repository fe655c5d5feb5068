use Rattle.std.proofs.Common.{arith}
use Rattle.dbl_record.specs.Fields.{number32}
use Rattle.dbl_offset_content.proofs.Sizes.{counted_size, places_size, all_places}
use Rattle.dbl_offset_content.proofs.measuring.add_places.Goals as goal

pub returns : goal.returns
returns c =
    let size = counted_size number32 c.args.key.now in
    let places = places_size c.args.key.now in
    record {
      long = omega (arith, size, places, c.saturating_mul-bytes.ensures, c.saturating_add.ensures, c.saturating_add-2.ensures);
      fits = λ le. (omega (arith, c.saturating_mul-bytes.ensures, c.saturating_add.ensures, c.saturating_add-2.ensures, le), all_places c.args.key.now (λ i. omega (arith, c.type_inv.key i)));
    }
