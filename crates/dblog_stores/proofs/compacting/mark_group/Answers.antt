use Rattle.std.proofs.Common.{◌≡◌, ◌-◌, ◌<◌, ◌≤◌, ℕ, List, [], Some, length, drop, refl, sym, subst, arith}
use Rattle.std.specs.Prelude.{slice_get}
use Rattle.std.proofs.lemmas.Option.{slice_get_read}
use Rattle.dbl_record.specs.declared.record.Record.{Record}
use Rattle.dblog_stores.specs.Compacting.{HasMarkedPart}
use Rattle.dblog_stores.proofs.CrashState.{nothing_left}
use Rattle.dblog_stores.proofs.Marked.{part_before, part_begins, part_ends}
use Rattle.dblog_stores.proofs.compacting.mark_group.Goals as goal

pub records-init : goal.records-init
records-init c = λ placeholder groups all.
    let items = c.args.group.now.items in
    let n = c.len-index.result in
    let end : length items ≤ n = omega (arith, c.args.group.now.ok.0) in
    subst (λ (left : List Record). HasMarkedPart placeholder c.args.number left groups c.args.marking.now) (sym (nothing_left items n end))
    (part_begins placeholder c.args.number groups c.args.marking.now all)

pub records-preserved : goal.records-preserved
records-preserved c = λ placeholder groups all.
    let items = c.args.group.now.items in
    let at = c.records.index in
    let item = c.index.result.now in
    let within : at - 1 < length items = omega (arith, c.args.group.now.ok.0) in
    let there : slice_get items (at - 1) ≡ Some item = slice_get_read items (length items) (at - 1) item refl within c.index.ensures in
    part_before placeholder c.args.number items at item groups c.mark_record.new.marking c.records-test.true there
    (c.in-Ok.ensures.marked placeholder (drop at items) groups (c.records.invariant placeholder groups all))

pub returns-clause-marked : goal.returns-clause-marked
returns-clause-marked c = λ placeholder groups all.
    let items = c.args.group.now.items in
    let first : c.records.index ≡ 0 = omega arith in
    part_ends placeholder c.args.number items groups c.records.marking
    (subst (λ (at : ℕ). HasMarkedPart placeholder c.args.number (drop at items) groups c.records.marking) first (c.records.invariant placeholder groups all))
