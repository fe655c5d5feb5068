use Rattle.std.proofs.Common.{ap, ◌≡◌, ◌≤◌, true, length, arith}
use Rattle.std.specs.Prelude.{nat_lt}
use Rattle.std.proofs.lemmas.Bool.Decides.{nat_tests}
use Rattle.dbl_tables_changes.proofs.ExitLemmas.{measures_grown, measures_no_more, measures_too_wide}
use Rattle.dbl_tables_changes.proofs.planning.measure.Goals as goal

pub returns-then-len-gt-COLUMN_LIMIT : goal.returns-then-len-gt-COLUMN_LIMIT
returns-then-len-gt-COLUMN_LIMIT c messages utf8 short is =
    let wide : nat_lt 1600 (length c.args.table.now.info.columns) ≡ true = grind (arith, nat_tests) in
    measures_too_wide c.args.table.now messages c.args.message.now wide

pub returns-in-Some : goal.returns-in-Some
returns-in-Some c messages utf8 short is =
    let few : length c.args.table.now.info.columns ≤ 1600 = grind (arith, ap length c.items.ensures) in
    measures_grown c.args.table.now messages c.args.message.now c.in-Some.grown few (c.in-Some.ensures messages (utf8 few) short is)

pub returns-in-None : goal.returns-in-None
returns-in-None c messages utf8 short is =
    let few : length c.args.table.now.info.columns ≤ 1600 = grind (arith, ap length c.items.ensures) in
    measures_no_more c.args.table.now messages c.args.message.now (c.in-None.ensures messages (utf8 few) short is)
