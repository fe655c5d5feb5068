use Rattle.std.proofs.lemmas.Result.{err_from_is_err_and}
use Rattle.dbl_script.specs.Texts.{table_name_of}
use Rattle.dbl_script.proofs.Many.{takes, refuses, finishes}
use Rattle.dbl_script.proofs.steps.all_tables.Goals as goal

pub returns-in_err-table : goal.returns-in_err-table
returns-in_err-table c =
    let p = err_from_is_err_and c.from_residual.result c.from_residual.ensures.1 in
    rw (p.1, p.2) (refuses table_name_of c.words.tables.items c.args.words.now c.words.words c.words.invariant c.next_part.new.self c.in-Some.word.now c.in_err-table.field-0.0 c.in-Some.ensures c.in_err-table.ensures)

pub words-preserved : goal.words-preserved
words-preserved c = takes table_name_of c.words.tables.items c.args.words.now c.words.words c.words.invariant c.next_part.new.self c.in-Some.word.now c.in_ok-table.table c.push.new.self.items c.in-Some.ensures c.in_ok-table.ensures c.in_ok-push.ensures.items

pub returns : goal.returns
returns c = finishes table_name_of c.words.tables.items c.args.words.now c.words.words c.words.invariant c.in_default.ensures.0
