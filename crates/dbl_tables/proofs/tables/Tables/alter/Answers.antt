use Rattle.std.proofs.Common.{◌≡◌, ◌∙◌, inr, false, Some, None, refl, sym}
use Rattle.std.proofs.lemmas.Result.{err_from_is_err_and}
use Rattle.std.specs.Prelude.{slice_get}
use Rattle.dbl_tables_rows.specs.declared.rows.Rows.{Rows}
use Rattle.dbl_tables_rows.specs.Acts.{is_open}
use Rattle.dbl_tables.specs.Truncates.{place_in}
use Rattle.dbl_tables.proofs.StoreLemmas.{open_as, got, got_none}
use Rattle.dbl_tables.proofs.CutLemmas.{at_name}
use Rattle.dbl_tables.proofs.AlterLemmas.{alter_open, alter_unknown, low, its_columns, alter_refused, alter_done}
use Rattle.dbl_tables.proofs.tables.Tables.alter.Goals as goal

pub returns-then-contains_key : goal.returns-then-contains_key
returns-then-contains_key c tables past st = (
  inr (alter_open tables past c.args.session.now c.args.self.now st c.args.table.now c.args.alteration.now
      (sym c.contains_key.ensures ∙ c.if-contains_key.true)),
  refl,
)

-- there is no such table
pub returns-in_default : goal.returns-in_default
returns-in_default c tables past st =
    let closed : is_open c.args.session.now past
    ≡ false = open_as tables past c.args.session.now c.args.self.now st false (sym c.contains_key.ensures ∙ c.if-contains_key.false) in
    (inr (alter_unknown tables past c.args.session.now c.args.self.now st c.args.table.now c.args.alteration.now closed (sym c.in_default.ensures)), refl)

-- the table of the name is at its place
pub returns-in_default-get : goal.returns-in_default-get
returns-in_default-get c tables past st =
    let a = at_name tables past c.args.session.now c.args.self.now st c.args.table.now c.in-Some.place (sym c.in-Some.ensures) in
    let none = got_none c.args.self.now.tables.items c.deref.result.now c.in-Some.place c.deref.ensures.value c.in_default-get.ensures.lookup.0 in
    let contra : Some a.0 ≡ None = sym a.1 ∙ none in
    cc

pub returns-in_err-altered : goal.returns-in_err-altered
returns-in_err-altered c tables past st =
    let p = err_from_is_err_and c.from_residual.result c.from_residual.ensures.1 in
    let closed : is_open c.args.session.now past
    ≡ false = open_as tables past c.args.session.now c.args.self.now st false (sym c.contains_key.ensures ∙ c.if-contains_key.false) in
    let at : place_in c.args.self.now.tables.items c.args.table.now ≡ Some c.in-Some.place = sym c.in-Some.ensures in
    let rows : Rows = c.in-Some-get.rows.now in
    let there : slice_get c.args.self.now.tables.items c.in-Some.place ≡ Some rows = got c.args.self.now.tables.items c.deref.result.now c.in-Some.place rows c.deref.ensures.value c.in-Some-get.ensures.lookup.0 c.in-Some-get.ensures.lookup.1 in
    let columns = its_columns tables past c.args.session.now c.args.self.now st c.args.table.now c.args.alteration.now closed c.in-Some.place at rows there in
    let below = low tables past c.args.session.now c.args.self.now st c.args.table.now c.args.alteration.now closed c.in-Some.place at rows there in
    rw (p.1, p.2) (
      alter_refused tables past c.args.session.now c.args.self.now st c.args.table.now c.args.alteration.now closed c.in-Some.place at rows there c.oid_of.result c.in_err-altered.field-0.0 (c.oid_of.ensures below)
          (c.in_err-altered.ensures columns),
      refl,
    )

pub returns : goal.returns
returns c tables past st =
    let closed : is_open c.args.session.now past
    ≡ false = open_as tables past c.args.session.now c.args.self.now st false (sym c.contains_key.ensures ∙ c.if-contains_key.false) in
    let at : place_in c.args.self.now.tables.items c.args.table.now ≡ Some c.in-Some.place = sym c.in-Some.ensures in
    let rows : Rows = c.in-Some-get.rows.now in
    let there : slice_get c.args.self.now.tables.items c.in-Some.place ≡ Some rows = got c.args.self.now.tables.items c.deref.result.now c.in-Some.place rows c.deref.ensures.value c.in-Some-get.ensures.lookup.0 c.in-Some-get.ensures.lookup.1 in
    let columns = its_columns tables past c.args.session.now c.args.self.now st c.args.table.now c.args.alteration.now closed c.in-Some.place at rows there in
    let below = low tables past c.args.session.now c.args.self.now st c.args.table.now c.args.alteration.now closed c.in-Some.place at rows there in
    alter_done tables past c.args.session.now c.args.self.now st c.args.table.now c.args.alteration.now closed c.in-Some.place at rows there c.oid_of.result c.in_ok-altered.altered (record c.args.self.now { tables = c.replace.new.tables }) (c.oid_of.ensures below)
    (c.in_ok-altered.ensures columns) c.replace.ensures refl
