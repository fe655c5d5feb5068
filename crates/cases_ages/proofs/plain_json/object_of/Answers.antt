use Rattle.std.proofs.Common.{◌∙◌, ◌≤◌, length, drop, sym, ap, arith}
use Rattle.std.specs.Prelude.{min}
use Rattle.serde_json.specs.View.{members_view}
use Rattle.serde_json.specs.Written.{has_float, members_have_float}
use Rattle.serde_json.proofs.Views.{view-Object}
use Rattle.cases_ages.proofs.PlainJsonLemmas.{members_of-past, no_float-members}
use Rattle.cases_ages.proofs.plain_json.object_of.Goals as goal

pub loop-i-init : goal.loop-i-init
loop-i-init c =
    let past : min (length c.args.names.now.items) (length c.args.cells.now.items) ≤ c.min-count.result = omega (arith, c.args.names.now.ok.0, c.args.cells.now.ok.0) in
    ap members_view c.new-members.ensures.empty ∙ sym (members_of-past c.args.names.now.items c.args.cells.now.items c.min-count.result past)

pub returns-clause-no_float : goal.returns-clause-no_float
returns-clause-no_float c = ap has_float (view-Object c.loop-i.members) ∙ ap members_have_float c.loop-i.invariant ∙ no_float-members (drop c.loop-i.i c.args.names.now.items) (drop c.loop-i.i c.args.cells.now.items)
