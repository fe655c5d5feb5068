use Rattle.std.proofs.Common.{◌≡◌, ◌∙◌, List, Bool, true, false, None, sym, ap}
use Rattle.std.specs.Prelude.{if◌then◌else◌}
use Rattle.dbl_model_table.specs.declared.table.Column.{Column}
use Rattle.dbl_model_commit.specs.Stated.{same_columns}
use Rattle.dbl_model_commit.specs.Shapes.{entry_in}
use Rattle.dblog_replay.specs.Captures.{column_fault}
use Rattle.dblog_replay.proofs.FollowLemmas.{table_checked}
use Rattle.dblog_replay.proofs.altering.check_table.Goals as goal

pub returns-then-are_same_columns : goal.returns-then-are_same_columns
returns-then-are_same_columns c =
    let info = c.args.info.now in
    let columns = c.args.columns.now.items in
    let same : same_columns info.columns columns ≡ true =
    sym (ap (λ (l : List Column). same_columns l columns) c.items.ensures) ∙ sym c.are_same_columns.ensures ∙ c.if-are_same_columns.true in
    ap (λ (b : Bool). if b then None else column_fault c.args.mask.now (entry_in info columns)) same

pub returns : goal.returns
returns c =
    let info = c.args.info.now in
    let columns = c.args.columns.now.items in
    let new : same_columns info.columns columns ≡ false =
    sym (ap (λ (l : List Column). same_columns l columns) c.items.ensures) ∙ sym c.are_same_columns.ensures ∙ c.if-are_same_columns.false in
    table_checked c.args.mask.now info columns c.in_ok-entry.entry c.check_mask.result new c.in_ok-entry.ensures c.check_mask.ensures
