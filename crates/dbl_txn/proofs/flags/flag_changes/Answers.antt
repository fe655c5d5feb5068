use Rattle.std.proofs.Common.{◌≡◌, ◌||◌, ◌==◌, ◌∙◌, ◌<◌, ◌≤◌, ℕ, List, length, get_or, ap, arith}
use Rattle.dbl_model_table.specs.declared.change.Change.{Change}
use Rattle.dbl_txn.specs.Stands.{flag_at}
use Rattle.dbl_txn.proofs.FlagLemmas.{one_flagged, all_flagged}
use Rattle.dbl_txn.proofs.flags.flag_changes.Goals as goal

pub loop-change-preserved : goal.loop-change-preserved
loop-change-preserved c = λ other. (
    let changes = c.args.changes.now.items in
    let place = c.loop-change.change-index in
    let change = c.change-item.result in
    let flags = c.loop-change.flags.items in
    let within : place < length changes = omega (arith, c.loop-change-test.true, c.deref-change-items.ensures.len) in
    let is : change ≡ get_or changes place change = c.change-item.is ∙ ap (λ (l : List Change). get_or l place change) c.deref-change-items.ensures.value in
    one_flagged changes place other change flags c.set_flag.new.flags.items _ within is (c.loop-change.invariant other)
    (c.in_ok-set_flag.ensures other ∙ ap (λ (table : ℕ). flag_at flags other || table == other) c.table.ensures))

pub returns : goal.returns
returns c = λ other. (
    let changes = c.args.changes.now.items in
    let place = c.loop-change.change-index in
    let past : length changes ≤ place = omega (arith, c.loop-change-test.false, c.deref-change-items.ensures.len) in
    all_flagged changes place other (flag_at c.loop-change.flags.items other) _ past (c.loop-change.invariant other))
