use Rattle.std.proofs.Common.{◌∙◌, List, Some, sym, ap}
use Rattle.dbl_pgmsg.specs.declared.messages.RelationColumn.{RelationColumn}
use Rattle.dbl_source_log.proofs.DescribedLemmas.{described_as, described_not}
use Rattle.dbl_source_log.proofs.reading.is_described.Goals as goal

pub returns-in-Some : goal.returns-in-Some
returns-in-Some c past all =
    described_as c.args.tables.now c.args.oid past c.args.described.now c.items.result.now.items c.has_columns.result all (ap (λ (l : List RelationColumn). Some l) c.items.ensures ∙ c.in-Some.ensures.value) c.has_columns.ensures

pub returns-in-None : goal.returns-in-None
returns-in-None c past all = described_not c.args.tables.now c.args.oid past c.args.described.now all c.in-None.ensures.value
