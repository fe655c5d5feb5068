use Rattle.std.proofs.Common.{arith}
use Rattle.dbl_offset_content.proofs.OffsetLaws.{same_long, versions_long}
use Rattle.dbl_offset_content.proofs.writing.bytes.Goals as goal

pub write_offset-requires : goal.write_offset-requires
write_offset-requires c = record {
  long = same_long c.args.offset.now.infos c.args.offset.now.cursors c.requires.offset.cursors;
  versions = versions_long c.args.offset.now c.requires.offset;
  few = omega (arith, c.requires.offset.few);
  fit = c.requires.fit;
}
