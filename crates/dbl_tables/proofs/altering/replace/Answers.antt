use Rattle.std.proofs.Common.{refl}
use Rattle.std.proofs.lemmas.Option.{slice_get_past, slice_get_read}
use Rattle.dbl_tables.proofs.AlterLemmas.{replaced_at, replaced_past}
use Rattle.dbl_tables.proofs.altering.replace.Goals as goal

pub returns-in-Some : goal.returns-in-Some
returns-in-Some c =
    replaced_at c.args.place c.in-Some.old.now c.args.rows c.args.tables.now.items
    (slice_get_read c.args.tables.now.items _ c.args.place c.in-Some.old.now refl c.in-Some.ensures.item.3.0 c.in-Some.ensures.item.1)

pub returns-in-None : goal.returns-in-None
returns-in-None c = replaced_past c.args.place c.args.rows c.args.tables.now.items
    (slice_get_past c.args.tables.now.items c.args.place c.in-None.ensures.item.3)
