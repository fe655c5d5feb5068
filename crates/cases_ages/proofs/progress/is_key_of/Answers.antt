use Rattle.std.proofs.Common.{◌≡◌, Option, length, sym, subst}
use Rattle.std.specs.Prelude.{IfSome}
use Rattle.dbl_model_table.specs.declared.row.Key.{Key}
use Rattle.cases_ages.proofs.ToldLemmas.{key_long}
use Rattle.cases_ages.proofs.progress.is_key_of.Goals as goal

pub returns-in-Some-clause-long : goal.returns-in-Some-clause-long
returns-in-Some-clause-long c = λ is.
    subst (λ (o : Option Key). IfSome o (λ key. length key.cells ≡ length c.args.info.now.key)) (sym c.in-Some.is) (key_long c.args.info.now c.in-Some.key (c.key_fits.ensures.0 is))
