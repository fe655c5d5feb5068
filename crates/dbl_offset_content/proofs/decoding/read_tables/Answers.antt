use Rattle.std.proofs.Common.{◌∙◌, List, inr, sym, ap, arith}
use Rattle.dbl_model_table.specs.declared.table.TableInfo.{TableInfo}
use Rattle.dbl_model_table.specs.Tables.{same_name, are_distinct}
use Rattle.dbl_offset_content.proofs.OffsetLaws.{table_names, tables_some, tables_none}
use Rattle.dbl_offset_content.proofs.decoding.read_tables.Goals as goal

pub returns-then-not-have_distinct_names-clause-read : goal.returns-then-not-have_distinct_names-clause-read
returns-then-not-have_distinct_names-clause-read c =
    let tables = c.in_ok-tables.tables in
    inr (tables_none c.args.format c.args.bytes.now c.in_ok-count.count c.in_ok-count.rest.now tables.infos tables.versions.items tables.cursors.items c.in_ok-tables.rest.now c.in_ok-count.ensures.read (omega (arith, c.if-count-eq0.false)) (omega (arith, c.if-count-gt-TABLES.false)) c.in_ok-tables.ensures.read c.in_ok-tables.ensures.versions c.in_ok-tables.ensures.long
    (ap (λ (l : List TableInfo). are_distinct same_name (table_names l)) (sym (c.deref.ensures.value ∙ c.items.ensures)) ∙ (sym c.have_distinct_names.ensures ∙ c.if-not-have_distinct_names.true)))

pub returns-clause-read : goal.returns-clause-read
returns-clause-read c =
    let tables = c.in_ok-tables.tables in
    tables_some c.args.format c.args.bytes.now c.in_ok-count.count c.in_ok-count.rest.now tables.infos tables.versions.items tables.cursors.items c.in_ok-tables.rest.now c.in_ok-count.ensures.read (omega (arith, c.if-count-eq0.false)) (omega (arith, c.if-count-gt-TABLES.false)) c.in_ok-tables.ensures.read c.in_ok-tables.ensures.versions c.in_ok-tables.ensures.long
    (ap (λ (l : List TableInfo). are_distinct same_name (table_names l)) (sym (c.deref.ensures.value ∙ c.items.ensures)) ∙ (sym c.have_distinct_names.ensures ∙ c.if-not-have_distinct_names.false))
