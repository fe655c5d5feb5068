use Rattle.std.proofs.Common.{◌∙◌, sym}
use Rattle.dbl_source.proofs.EntryLemmas.{none_marked, entry_placed}
use Rattle.dbl_source_scripted.proofs.catalogue.place_of.Goals as goal

pub returns-then-is_watermark : goal.returns-then-is_watermark
returns-then-is_watermark c = sym (none_marked c.args.tables.now c.args.name.now (sym c.is_watermark.ensures ∙ c.if-is_watermark.true))

pub returns : goal.returns
returns c = entry_placed c.args.tables.now c.args.name.now c.place_named.result (sym c.is_watermark.ensures ∙ c.if-is_watermark.false) c.place_named.ensures
