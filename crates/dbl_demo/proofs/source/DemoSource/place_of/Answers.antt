use Rattle.std.proofs.Common.{◌≡◌, ◌∙◌, List, ap, sym, subst}
use Rattle.std.specs.List.{position_from}
use Rattle.dbl_model_table.specs.Tables.{same_name}
use Rattle.dbl_source_log.specs.declared.logged.LogTable.{LogTable}
use Rattle.dbl_source.proofs.EntryLemmas.{entry_placed, none_marked}
use Rattle.dbl_demo_laws.specs.Demo.{Demo}
use Rattle.dbl_demo.proofs.source.DemoSource.place_of.Goals as goal

pub returns-then-is_watermark-clause-entry : goal.returns-then-is_watermark-clause-entry
returns-then-is_watermark-clause-entry g c = sym (none_marked c.args.self.now.tables c.args.name.now (sym c.is_watermark.ensures ∙ c.if-is_watermark.true))

pub returns-clause-entry : goal.returns-clause-entry
returns-clause-entry g c =
    let are : c.as_slice.result.now ≡ c.args.self.now.tables = c.as_slice.ensures.value ∙ ap (λ (s : Demo _). s.tables) c.self.view_is in
    let placed = subst (λ (tables : List LogTable). c.place_named.result ≡ position_from (λ table. same_name table.raw.name c.args.name.now) 0 tables) are c.place_named.ensures.place in
    entry_placed c.args.self.now.tables c.args.name.now c.place_named.result (sym c.is_watermark.ensures ∙ c.if-is_watermark.false) placed
