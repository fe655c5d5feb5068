use Rattle.std.proofs.Common.{◌∙◌, ap}
use Rattle.std.proofs.lemmas.Result.{on_ok_weaker}
use Rattle.std.specs.Prelude.{◌||◌, List}
use Rattle.dbl_model_table.specs.declared.change.Change.{Change}
use Rattle.dbl_model_commit.specs.Shapes.{changes_table}
use Rattle.dbl_txn.specs.Stands.{flag_at}
use Rattle.dbl_txn.proofs.FlagLemmas.{more_flagged}
use Rattle.dbl_txn.proofs.flags.flag_piece.Goals as goal

pub returns-in-Changed : goal.returns-in-Changed
returns-in-Changed c = rw c.in-Changed.is (
    let flags = c.args.flags.now.items in
    on_ok_weaker c.flag_changes.result (λ more so_far are. more_flagged so_far c.in-Changed.changes flags c.flag_changes.new.flags.items are
    (λ other. more other ∙ ap (λ (l : List Change). flag_at flags other || changes_table other l) c.items.ensures)) c.flag_changes.ensures)
