use Rattle.dbl_compact.proofs.MarkLemmas.{marked_are_kept}
use Rattle.dbl_compact.proofs.laws.marked_records_are_kept.Goals as goal

pub returns : goal.returns
returns c = marked_are_kept
