use Rattle.std.proofs.Common.{refl}
use Rattle.std.proofs.lemmas.Option.{slice_get_past, slice_get_read}
use Rattle.dbl_tables_rows.specs.Ends.{ReleasesOne}
use Rattle.dbl_tables_rows.proofs.RowLemmas.{each_at, each_past, releases_aside, releases_here}
use Rattle.dbl_tables_rows.proofs.ends.release_at.Goals as goal

pub returns-in-Some : goal.returns-in-Some
returns-in-Some c =
    each_at (ReleasesOne c.args.held.now c.args.session.now) c.args.tables.now.items c.args.held.now.table (releases_aside c.args.held.now c.args.session.now) c.in-Some.rows.now (record c.in-Some.rows.now { slots = c.release.new.slots })
    (slice_get_read c.args.tables.now.items _ c.args.held.now.table c.in-Some.rows.now refl c.in-Some.ensures.item.3.0 c.in-Some.ensures.item.1)
    (record { table = refl; places = refl; cleared = refl; holders = refl; slots = releases_here c.args.held.now c.args.session.now c.in-Some.rows.now.slots c.release.new.slots c.release.ensures })

pub returns-in-None : goal.returns-in-None
returns-in-None c = each_past (ReleasesOne c.args.held.now c.args.session.now) c.args.tables.now.items c.args.held.now.table (releases_aside c.args.held.now c.args.session.now) (slice_get_past c.args.tables.now.items c.args.held.now.table c.in-None.ensures.item.3)
