use Rattle.std.proofs.Common.{◌≡◌, ◌∙◌, Some, None, inr, refl, sym}
use Rattle.std.proofs.lemmas.Result.{err_from_is_err_and}
use Rattle.std.specs.Prelude.{slice_get}
use Rattle.std.proofs.lemmas.Option.{slice_get_past, slice_get_read}
use Rattle.dbl_tables.proofs.FirstLemmas.{unknown_first, found_first, low_first, has_columns_first, short_first, size_first, refused_first, accepts_first}
use Rattle.dbl_tables.proofs.first_rows.FirstRows.insert.Goals as goal

-- a table that isn't there
pub returns-in_default : goal.returns-in_default
returns-in_default c tables past after = inr (unknown_first tables past c.args.self.now after c.args.table.now c.args.cells.items (sym c.in_default.ensures))

-- a table that has a place is there
pub returns-in_default-get_mut : goal.returns-in_default-get_mut
returns-in_default-get_mut c tables past after =
    let found = found_first tables past c.args.self.now after c.args.table.now c.args.cells.items c.in-Some.place (sym c.in-Some.ensures) in
    let none : slice_get c.args.self.now.store.tables.items c.in-Some.place ≡ None = slice_get_past c.args.self.now.store.tables.items c.in-Some.place c.in_default-get_mut.ensures.item.3 in
    let contra : Some found.rows ≡ None = sym found.there ∙ none in
    cc

pub returns-in_err-size : goal.returns-in_err-size
returns-in_err-size c tables past after =
    let p = err_from_is_err_and c.from_residual.result c.from_residual.ensures.1 in
    let at = sym c.in-Some.ensures in
    let there = slice_get_read c.args.self.now.store.tables.items _ c.in-Some.place c.in-Some-get_mut.rows.now refl c.in-Some-get_mut.ensures.item.3.0 c.in-Some-get_mut.ensures.item.1 in
    let low = low_first tables past c.args.self.now after c.args.table.now c.args.cells.items c.in-Some.place at in
    let oid = c.oid_of.ensures low in
    rw (p.1, p.2) (refused_first tables past c.args.self.now after c.args.table.now c.args.cells.items c.in-Some.place at c.in-Some-get_mut.rows.now there c.oid_of.result oid c.insert_first.new.rows c.insert_first.new.messages.items c.in_err-size.field-0.0
    (c.in_err-size.ensures (has_columns_first tables past c.args.self.now after c.args.table.now c.args.cells.items c.in-Some.place at c.in-Some-get_mut.rows.now there c.oid_of.result oid)
    (short_first tables past c.args.self.now after c.args.table.now c.args.cells.items c.in-Some.place at c.in-Some-get_mut.rows.now there c.oid_of.result oid)
    (size_first tables past c.args.self.now after c.args.table.now c.args.cells.items c.in-Some.place at c.in-Some-get_mut.rows.now there c.oid_of.result oid)))

pub returns : goal.returns
returns c tables past after =
    let at = sym c.in-Some.ensures in
    let there = slice_get_read c.args.self.now.store.tables.items _ c.in-Some.place c.in-Some-get_mut.rows.now refl c.in-Some-get_mut.ensures.item.3.0 c.in-Some-get_mut.ensures.item.1 in
    let low = low_first tables past c.args.self.now after c.args.table.now c.args.cells.items c.in-Some.place at in
    let oid = c.oid_of.ensures low in
    accepts_first tables past c.args.self.now after c.args.table.now c.args.cells.items c.in-Some.place at c.in-Some-get_mut.rows.now there c.oid_of.result oid c.insert_first.new.rows c.insert_first.new.messages.items c.in_ok-size.size
    (c.in_ok-size.ensures (has_columns_first tables past c.args.self.now after c.args.table.now c.args.cells.items c.in-Some.place at c.in-Some-get_mut.rows.now there c.oid_of.result oid)
    (short_first tables past c.args.self.now after c.args.table.now c.args.cells.items c.in-Some.place at c.in-Some-get_mut.rows.now there c.oid_of.result oid)
    (size_first tables past c.args.self.now after c.args.table.now c.args.cells.items c.in-Some.place at c.in-Some-get_mut.rows.now there c.oid_of.result oid)) _ refl refl refl refl
