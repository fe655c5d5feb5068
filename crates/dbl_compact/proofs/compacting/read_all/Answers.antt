use Rattle.std.proofs.Common.{◌≡◌, ◌-◌, ◌<◌, ◌≤◌, List, Some, length, drop, refl, sym, subst, arith}
use Rattle.std.specs.Prelude.{slice_get}
use Rattle.std.proofs.lemmas.List.{drop_all}
use Rattle.std.proofs.lemmas.Option.{slice_get_read}
use Rattle.dbl_record.specs.declared.record.Record.{Record}
use Rattle.dbl_compact.specs.Passes.{IsPassOver}
use Rattle.dbl_compact.proofs.PassLemmas.{one_before, one_read}
use Rattle.dbl_compact.proofs.compacting.read_all.Goals as goal

pub records-init : goal.records-init
records-init c =
    let items = c.args.records.now.items in
    let n = c.len-index.result in
    let all : length items ≤ n = omega (arith, c.args.records.now.ok.0) in
    subst (λ (left : List Record). IsPassOver c.args.placeholder.now n left c.in_ok-pass.pass) (sym (drop_all n items all)) (c.in_ok-pass.ensures.begins n)

pub records-preserved : goal.records-preserved
records-preserved c =
    let placeholder = c.args.placeholder.now in
    let items = c.args.records.now.items in
    let at = c.records.index in
    let item = c.index.result.now in
    let within : at - 1 < length items = omega (arith, c.args.records.now.ok.0) in
    let there : slice_get items (at - 1) ≡ Some item = slice_get_read items (length items) (at - 1) item refl within c.index.ensures in
    one_read placeholder items at item c.read.new.self c.records-test.true there
    (c.in_ok-read.ensures.goes_on placeholder (drop at items) (one_before placeholder items at c.records.pass c.records-test.true c.records.invariant))
