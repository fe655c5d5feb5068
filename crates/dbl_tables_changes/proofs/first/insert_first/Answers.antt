use Rattle.std.proofs.Common.{◌∙◌, refl, sym}
use Rattle.std.proofs.lemmas.Result.{err_from_is_err_and}
use Rattle.dbl_tables_changes.proofs.FirstLemmas.{insert_bad, insert_taken}
use Rattle.dbl_tables_changes.proofs.first.insert_first.Goals as goal

-- the cells can't be read, or the message is too large
pub returns-in_err-first : goal.returns-in_err-first
returns-in_err-first c has short is =
    let p = err_from_is_err_and c.from_residual.result c.from_residual.ensures.1 in
    rw (p.1, p.2) (insert_bad c.args.oid c.args.cells.items c.args.rows.now c.args.rows.now c.args.messages.now.items c.args.messages.now.items c.in_err-first.field-0.0 (c.in_err-first.ensures c.args.messages.now.items has short is))

pub returns-then-branch : goal.returns-then-branch
returns-then-branch c has short is =
    let first = c.in_ok-first.first in
    let fits = c.in_ok-first.ensures c.args.messages.now.items has short is in
    insert_taken c.args.oid c.args.cells.items c.args.rows.now c.args.rows.now c.args.messages.now.items c.args.messages.now.items first fits (sym c.in_ok-put_row.ensures.had ∙ c.if-branch.true)

pub returns : goal.returns
returns c has short is =
    let fits = c.in_ok-first.ensures c.args.messages.now.items has short is in
    record {
      first = c.in_ok-first.first;
      is = fits;
      absent = sym c.in_ok-put_row.ensures.had ∙ c.if-branch.false;
      table = record { table = refl; places = refl; cleared = refl };
      holders = refl;
      slots = c.in_ok-put_row.ensures.put;
      messages = c.in_ok-push.ensures.items;
      size_is = refl;
    }
