use Rattle.std.proofs.Common.{◌∙◌, true, false, refl, sym, subst}
use Rattle.std.specs.Prelude.{Result, Ok, Err}
use Rattle.dbl_tables_rows.specs.declared.error.StepError.{StepError}
use Rattle.dbl_tables_rows.specs.declared.error.StepError.TheVariants as errors
use Rattle.dbl_tables_rows.specs.Steps.{FoundTable}
use Rattle.dbl_tables.specs.Places.{PlacesFor}
use Rattle.dbl_tables.proofs.StoreLemmas.{open_as, closed_table, unknown_table, had_table}
use Rattle.dbl_tables.proofs.tables.Tables.place_for.Goals as goal

pub returns-then-not-contains_key : goal.returns-then-not-contains_key
returns-then-not-contains_key c tables past st =
    subst (λ (r : Result FoundTable StepError). PlacesFor r c.args.self.now.tables.items (Err errors.NotOpen))
    (sym (closed_table tables past c.args.session.now c.args.self.now st c.args.table.now (open_as tables past c.args.session.now c.args.self.now st false (sym c.contains_key.ensures ∙ c.if-not-contains_key.true)))) refl

pub returns-in-Some : goal.returns-in-Some
returns-in-Some c tables past st =
    let opened = open_as tables past c.args.session.now c.args.self.now st true (sym c.contains_key.ensures ∙ c.if-not-contains_key.false) in
    let had = had_table tables past c.args.session.now c.args.self.now st c.args.table.now c.in-Some.place opened (sym c.in-Some.ensures) in
    subst (λ (r : Result FoundTable StepError). PlacesFor r c.args.self.now.tables.items (Ok c.in-Some.place)) (sym had.is) (record { rows = had.rows; there = had.there; is = refl })

pub returns-in-None : goal.returns-in-None
returns-in-None c tables past st =
    let opened = open_as tables past c.args.session.now c.args.self.now st true (sym c.contains_key.ensures ∙ c.if-not-contains_key.false) in
    subst (λ (r : Result FoundTable StepError). PlacesFor r c.args.self.now.tables.items (Err errors.UnknownTable)) (sym (unknown_table tables past c.args.session.now c.args.self.now st c.args.table.now opened (sym c.in-None.ensures))) refl
