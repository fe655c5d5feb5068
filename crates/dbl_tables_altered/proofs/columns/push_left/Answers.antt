use Rattle.std.proofs.Common.{◌∙◌, ◌++◌, ◌∷◌, [], List, sym, ap}
use Rattle.dbl_model_table.specs.declared.table.RawColumn.{RawColumn}
use Rattle.dbl_model_table.specs.Infos.{raw_column}
use Rattle.dbl_tables_altered.specs.Alterations.{removes}
use Rattle.dbl_tables_altered.proofs.LeftLemmas.{none_pushed, one_pushed}
use Rattle.dbl_tables_altered.proofs.columns.push_left.Goals as goal

pub returns-then-removes : goal.returns-then-removes
returns-then-removes c =
    none_pushed (removes c.args.alteration.now c.args.column.now.name) (raw_column c.args.column.now) c.args.left.now.items (sym c.removes.ensures ∙ c.if-removes.true)

pub returns : goal.returns
returns c =
    c.in_ok-push.ensures.items
    ∙ (ap (λ (v : RawColumn). c.args.left.now.items ++ v ∷ []) c.in_ok-raw_column.ensures
    ∙ one_pushed (removes c.args.alteration.now c.args.column.now.name) (raw_column c.args.column.now) c.args.left.now.items (sym c.removes.ensures ∙ c.if-removes.false))
