use Rattle.std.proofs.Common.{◌≡◌, ◌∙◌, Option, Some, None, List, ℕ, sym, ap, inr}
use Rattle.std.specs.Prelude.{option_map}
use Rattle.std.specs.List.{find}
use Rattle.dbl_model_table.specs.declared.error.ModelError.TheVariants.{KeyType}
use Rattle.dbl_model_table.specs.Tables.{is_unfit}
use Rattle.dbl_model_table.specs.Infos.{name_at}
use Rattle.dbl_model_table.specs.Made.{first_unfit}
use Rattle.dbl_model_table.proofs.Making.{unfit_named}
use Rattle.dbl_model_table.proofs.capturing.check_key.Goals as goal

pub returns-in_ok-name_at-in-Some-clause-err : goal.returns-in_ok-name_at-in-Some-clause-err
returns-in_ok-name_at-in-Some-clause-err c =
    let named : first_unfit c.args.raw.now ≡ Some (name_at c.args.columns.now c.in-Some.place) =
    unfit_named c.args.columns.now c.args.raw.now.columns c.args.raw.now.key c.args.key.now c.requires.columns c.requires.typed c.requires.places ∙ ap (option_map (name_at c.args.columns.now)) (sym c.in-Some.ensures) in
    inr (rw (c.in_ok-copy-in-Some.ensures, c.in_ok-name_at-in-Some.ensures) (ap (option_map (KeyType c.args.raw.now.name)) named))

pub returns-in-None-clause-none : goal.returns-in-None-clause-none
returns-in-None-clause-none c =
    ap (option_map (KeyType c.args.raw.now.name))
    (unfit_named c.args.columns.now c.args.raw.now.columns c.args.raw.now.key c.args.key.now c.requires.columns c.requires.typed c.requires.places ∙ ap (option_map (name_at c.args.columns.now)) (sym c.in-None.ensures))
