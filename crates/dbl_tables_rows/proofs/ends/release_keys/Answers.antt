use Rattle.std.proofs.Common.{List, sym, subst, take}
use Rattle.dbl_model_table.proofs.PartLemmas.{one_more}
use Rattle.dbl_tables_rows.specs.declared.held.HeldKey.{HeldKey}
use Rattle.dbl_tables_rows.specs.Ends.{EachChanges, ReleasesListed}
use Rattle.dbl_tables_rows.proofs.EndKeys.{releases_listed, releases_no_key}
use Rattle.dbl_tables_rows.proofs.ends.release_keys.Goals as goal

pub loop-held-init : goal.loop-held-init
loop-held-init c = releases_no_key c.args.session.now c.args.tables.now.items

pub loop-held-preserved : goal.loop-held-preserved
loop-held-preserved c =
    subst (λ (l : List HeldKey). EachChanges (ReleasesListed l c.args.session.now) c.args.tables.now.items c.release_at.new.tables.items)
    (sym (one_more c.args.keys.now c.loop-held.held-index c.held-item.result c.held-item.result c.loop-held-test.true c.held-item.is))
    (releases_listed c.args.session.now (take c.loop-held.held-index c.args.keys.now) c.held-item.result c.args.tables.now.items c.loop-held.tables.items c.release_at.new.tables.items c.loop-held.invariant c.release_at.ensures)
