use Rattle.std.proofs.Common.{◌∙◌, refl, sym}
use Rattle.dbl_tables_rows.proofs.RowLemmas.{left_set, others_stay, own_goes}
use Rattle.dbl_tables_rows.proofs.rows.end.Goals as goal

pub returns-then-not-is_cleared_by : goal.returns-then-not-is_cleared_by
returns-then-not-is_cleared_by c = record {
  left = record {
    table = refl;
    places = refl;
    cleared = others_stay c.args.session.now c.args.rows.now.cleared (sym c.is_cleared_by.ensures ∙ c.if-not-is_cleared_by.true);
    holders = left_set c.args.session.now c.args.rows.now.holders c.remove.new.self c.remove.ensures.updates.0;
  };
  slots = refl;
}

pub returns : goal.returns
returns c = record {
  left = record {
    table = refl;
    places = refl;
    cleared = own_goes c.args.session.now c.args.rows.now.cleared (sym c.is_cleared_by.ensures ∙ c.if-not-is_cleared_by.false);
    holders = left_set c.args.session.now c.args.rows.now.holders c.remove.new.self c.remove.ensures.updates.0;
  };
  slots = refl;
}
