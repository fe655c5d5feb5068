use Rattle.std.proofs.Common.{ap, sym, ◌∙◌}
use Rattle.std.proofs.lemmas.Result.{err_from_is_err_and}
use Rattle.dbl_script.specs.Grammar.{cell_of, before_set}
use Rattle.dbl_script.proofs.Many.{takes, refuses, finishes}
use Rattle.dbl_script.proofs.SetLemmas.{before_goes_on, after_goes_on, before_ends}
use Rattle.dbl_script.proofs.cells.all_key_cells.Goals as goal

pub returns-then-is_word-clause-read : goal.returns-then-is_word-clause-read
returns-then-is_word-clause-read c = finishes cell_of c.words.cells.items (before_set c.args.words.now) (before_set c.words.words) c.words.invariant.read (before_ends c.words.words c.next_part.new.self c.in-Some.word.now c.in-Some.ensures (sym c.if-is_word.ensures))

pub returns-in_err-cell-clause-read : goal.returns-in_err-cell-clause-read
returns-in_err-cell-clause-read c =
    let p = err_from_is_err_and c.from_residual.result c.from_residual.ensures.1 in
    let rest = before_goes_on c.words.words c.next_part.new.self c.in-Some.word.now c.in-Some.ensures (sym c.if-is_word.ensures) in
    rw (p.1, p.2) (refuses cell_of c.words.cells.items (before_set c.args.words.now) (before_set c.words.words) c.words.invariant.read (before_set c.next_part.new.self) c.in-Some.word.now c.in_err-cell.field-0.0 rest c.in_err-cell.ensures)

pub words-preserved : goal.words-preserved
words-preserved c =
    let rest = before_goes_on c.words.words c.next_part.new.self c.in-Some.word.now c.in-Some.ensures (sym c.if-is_word.ensures) in
    let subsequent = after_goes_on c.words.words c.next_part.new.self c.in-Some.word.now c.in-Some.ensures (sym c.if-is_word.ensures) in
    record {
      read = takes cell_of c.words.cells.items (before_set c.args.words.now) (before_set c.words.words) c.words.invariant.read (before_set c.next_part.new.self) c.in-Some.word.now c.in_ok-cell.cell c.push.new.self.items rest c.in_ok-cell.ensures c.in_ok-push.ensures.items;
      left = sym subsequent ∙ c.words.invariant.left;
    }

pub returns-clause-read : goal.returns-clause-read
returns-clause-read c = finishes cell_of c.words.cells.items (before_set c.args.words.now) (before_set c.words.words) c.words.invariant.read (ap before_set c.in_default.ensures.0)
