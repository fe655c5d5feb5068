use Rattle.std.proofs.Common.{refl}
use Rattle.std.proofs.lemmas.Option.{slice_get_past, slice_get_read}
use Rattle.dbl_tables.proofs.GatherLemmas.{truncates_at, truncates_past}
use Rattle.dbl_tables.proofs.truncating.truncate_at.Goals as goal

pub returns-in-Some : goal.returns-in-Some
returns-in-Some c =
    truncates_at c.args.name c.args.place c.args.tables.now.items c.in-Some.rows.now c.truncate.new.rows
    (slice_get_read c.args.tables.now.items _ c.args.place c.in-Some.rows.now refl c.in-Some.ensures.item.3.0 c.in-Some.ensures.item.1) c.truncate.ensures

pub returns-in-None : goal.returns-in-None
returns-in-None c = truncates_past c.args.name c.args.place c.args.tables.now.items (slice_get_past c.args.tables.now.items c.args.place c.in-None.ensures.item.3)
