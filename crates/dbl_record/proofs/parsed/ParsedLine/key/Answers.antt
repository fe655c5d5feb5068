use Rattle.serde_json.specs.View.{view}
use Rattle.dbl_record.proofs.ReadingLemmas.{null_is}
use Rattle.dbl_record.proofs.parsed.ParsedLine.key.Goals as goal

pub part_of-requires : goal.part_of-requires
part_of-requires c = null_is (view c.args.self.now.absent) c.args.self.now.no_value
