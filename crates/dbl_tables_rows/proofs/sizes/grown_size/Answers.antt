use Rattle.dbl_tables_rows.proofs.SizeLemmas.{unfit_too_long}
use Rattle.dbl_tables_rows.proofs.sizes.grown_size.Goals as goal

-- where it has no spelling it is too long
pub returns-in_default : goal.returns-in_default
returns-in_default c messages utf8 few is = unfit_too_long messages c.args.message.now utf8 c.in_default.ensures
