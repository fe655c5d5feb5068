use Rattle.std.proofs.Common.{◌≡◌, ◌∙◌, ap}
use Rattle.dbl_record.specs.Consumers.{row_of}
use Rattle.dbl_consume.specs.Rows.{row_in}
use Rattle.dbl_consume.proofs.TableLemmas.{row_set}
use Rattle.dbl_consume.proofs.tables.set_row.Goals as goal

pub returns-clause-ok : goal.returns-clause-ok
returns-clause-ok c =
    let is : c.in_ok-row.row.entries ≡ row_of (row_in c.args.table.now c.args.key) c.args.cells = c.in_ok-row.ensures ∙ ap (λ held. row_of held c.args.cells) c.held_row.ensures in
    row_set c.args.table.now c.insert.new.self c.args.key c.args.cells c.in_ok-row.row is c.in_ok-insert.ensures.updates
