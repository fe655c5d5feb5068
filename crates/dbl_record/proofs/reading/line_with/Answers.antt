use Rattle.std.proofs.Common.{◌≤◌, subst, sym, codes}
use Rattle.serde_json.specs.Data.{depth}
use Rattle.serde_json.specs.View.{view}
use Rattle.dbl_record.proofs.ReadingLemmas.{part_depth}
use Rattle.dbl_record.proofs.reading.line_with.Goals as goal

pub text_of-requires : goal.text_of-requires
text_of-requires c = subst (λ d. depth d ≤ 127) (sym c.part_of.ensures) (part_depth (codes "key") (view c.args.whole.now) 127 c.requires)

pub text_of-requires-2 : goal.text_of-requires-2
text_of-requires-2 c = subst (λ d. depth d ≤ 127) (sym c.part_of-2.ensures) (part_depth (codes "value") (view c.args.whole.now) 127 c.requires)
