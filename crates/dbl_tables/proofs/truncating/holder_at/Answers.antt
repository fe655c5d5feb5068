use Rattle.std.proofs.Common.{Option, None, refl, sym, subst}
use Rattle.std.specs.Prelude.{option_copied}
use Rattle.dbl_tables_rows.specs.declared.rows.Rows.{Rows}
use Rattle.dbl_tables.specs.Truncates.{IsHolderAt}
use Rattle.dbl_tables.proofs.StoreLemmas.{got, got_none}
use Rattle.dbl_tables.proofs.truncating.holder_at.Goals as goal

pub returns-in-Some : goal.returns-in-Some
returns-in-Some c =
    subst (λ (o : Option Rows). IsHolderAt c.args.session.now o (option_copied c.table_holder.result))
    (sym (got c.args.tables.now.items c.deref.result.now c.args.place c.in-Some.rows.now c.deref.ensures.value c.in-Some.ensures.lookup.0 c.in-Some.ensures.lookup.1)) c.table_holder.ensures

pub returns-in-None : goal.returns-in-None
returns-in-None c = subst (λ (o : Option Rows). IsHolderAt c.args.session.now o None) (sym (got_none c.args.tables.now.items c.deref.result.now c.args.place c.deref.ensures.value c.in-None.ensures.lookup.0)) refl
