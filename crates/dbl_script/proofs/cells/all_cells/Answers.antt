use Rattle.std.proofs.lemmas.Result.{err_from_is_err_and}
use Rattle.dbl_script.specs.Grammar.{cell_of}
use Rattle.dbl_script.proofs.Many.{takes, refuses, finishes}
use Rattle.dbl_script.proofs.cells.all_cells.Goals as goal

pub returns-in_err-cell : goal.returns-in_err-cell
returns-in_err-cell c =
    let p = err_from_is_err_and c.from_residual.result c.from_residual.ensures.1 in
    rw (p.1, p.2) (refuses cell_of c.words.cells.items c.args.words.now c.words.words c.words.invariant c.next_part.new.self c.in-Some.word.now c.in_err-cell.field-0.0 c.in-Some.ensures c.in_err-cell.ensures)

pub words-preserved : goal.words-preserved
words-preserved c = takes cell_of c.words.cells.items c.args.words.now c.words.words c.words.invariant c.next_part.new.self c.in-Some.word.now c.in_ok-cell.cell c.push.new.self.items c.in-Some.ensures c.in_ok-cell.ensures c.in_ok-push.ensures.items

pub returns : goal.returns
returns c = finishes cell_of c.words.cells.items c.args.words.now c.words.words c.words.invariant c.in_default.ensures.0
