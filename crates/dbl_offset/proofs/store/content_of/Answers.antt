use Rattle.std.proofs.Common.{length, inl, refl, ap, arith}
use Rattle.dbl_offset_content.specs.Entries.{offset_bytes_form}
use Rattle.dbl_offset_content.proofs.OffsetLaws.{same_long, versions_long}
use Rattle.dbl_offset.proofs.Blocks.{length-slot_content}
use Rattle.dbl_offset.proofs.store.content_of.Goals as goal

pub measure-count-requires-clause-cursors : goal.measure-count-requires-clause-cursors
measure-count-requires-clause-cursors c = same_long c.args.offset.now.infos c.args.offset.now.cursors c.requires.cursors

pub measure-count-requires-clause-versions : goal.measure-count-requires-clause-versions
measure-count-requires-clause-versions c = versions_long c.args.offset.now c.requires

pub encode-requires-clause-long : goal.encode-requires-clause-long
encode-requires-clause-long c = same_long c.args.offset.now.infos c.args.offset.now.cursors c.requires.cursors

pub encode-requires-clause-versions : goal.encode-requires-clause-versions
encode-requires-clause-versions c = versions_long c.args.offset.now c.requires

pub returns-clause-content : goal.returns-clause-content
returns-clause-content c = (
  c.in_ok-encode.ensures,
  record {
    asked = c.requires;
    fits = c.measure-count.ensures.fits (omega (arith, c.if-count-gt-OFFSET_LIMIT.false));
    format = 2;
    has_format = inl refl;
    spelled = refl;
  },
)

pub returns-clause-short : goal.returns-clause-short
returns-clause-short c =
    omega (arith, ap length c.in_ok-encode.ensures, length-slot_content (offset_bytes_form c.args.offset.now), c.measure-count.ensures.long, c.if-count-gt-OFFSET_LIMIT.false)
