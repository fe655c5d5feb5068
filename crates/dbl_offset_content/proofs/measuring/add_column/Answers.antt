use Rattle.std.proofs.Common.{arith}
use Rattle.dbl_offset_content.proofs.Sizes.{column_size}
use Rattle.dbl_offset_content.proofs.measuring.add_column.Goals as goal

pub returns : goal.returns
returns c = record {
  long = omega (arith, column_size c.args.item.now, c.add_text-name.ensures.long, c.add_oid.ensures.long);
  fits = λ le. (let oid = c.add_oid.ensures.fits le in
      record { name = c.add_text-name.ensures.fits (omega (arith, c.add_text-name.ensures.long, c.add_oid.ensures.long, le)); oid = omega (arith, c.oid.ensures, oid) });
}
