use Rattle.dbl_offset_content.proofs.Sizes.{version_measured}
use Rattle.dbl_offset_content.proofs.measuring.add_version.Goals as goal

pub returns : goal.returns
returns c = version_measured c.args.before c.saturating_add.result c.args.version c.ranges.version.fits c.saturating_add.ensures
