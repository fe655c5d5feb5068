use Rattle.std.proofs.Common.{arith, rules, ◌≤◌}
use Rattle.std.specs.Prelude.{FitsSigned}
use Rattle.std.specs.Int.{w32}
use Rattle.dbl_pgmsg.proofs.Sizes.{column_leaves, column_none}
use Rattle.dbl_pgmsg.proofs.fitting.column_room.Goals as goal

pub returns : goal.returns
returns c =
    let modifier : FitsSigned w32 c.args.item.now.modifier = search rules in
    let sub = c.in-Some.ensures in
    column_leaves c.args.room c.in-Some.left c.args.item.now c.string_room.result (omega arith) (omega arith) modifier (omega (arith, sub)) c.string_room.ensures

pub returns-in_default : goal.returns-in_default
returns-in_default c = λ fits. (let no : 9 ≤ c.args.room → ⊥ = c.in_default.ensures in column_none c.args.room c.args.item.now (omega (arith, no)))
