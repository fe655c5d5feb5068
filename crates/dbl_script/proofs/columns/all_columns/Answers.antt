use Rattle.std.proofs.lemmas.Result.{err_from_is_err_and}
use Rattle.dbl_script.proofs.ColumnLemmas.{reading_more, reading_refuses, reading_ends}
use Rattle.dbl_script.proofs.columns.all_columns.Goals as goal

pub returns-in_err-word : goal.returns-in_err-word
returns-in_err-word c =
    let p = err_from_is_err_and c.from_residual.result c.from_residual.ensures.1 in
    rw (p.1, p.2) (reading_refuses c.args.words.now c.words.words c.next_part.new.self c.in-Some.word.now c.words.columns.items c.words.key.items c.in_err-word.field-0.0 c.words.invariant c.in-Some.ensures c.in_err-word.ensures)

pub words-preserved : goal.words-preserved
words-preserved c = reading_more c.args.words.now c.words.words c.next_part.new.self c.in-Some.word.now c.words.columns.items c.push.new.self.items c.words.key.items c.push_key.new.key.items c.in_ok-word.word c.words.invariant c.in-Some.ensures c.in_ok-word.ensures c.in_ok-push.ensures.items c.in_ok-push_key.ensures

pub returns : goal.returns
returns c = reading_ends c.args.words.now c.words.words c.words.columns.items c.words.key.items c.words.invariant c.in_default.ensures.0
