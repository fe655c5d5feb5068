use Rattle.cases_courses.proofs.AlteredLemmas.{upto_none}
use Rattle.cases_courses.proofs.versions.row_upto.Goals as goal

pub loop-version-init : goal.loop-version-init
loop-version-init c = upto_none c.args.versions.now.items c.args.moment c.args.table c.args.key.now
