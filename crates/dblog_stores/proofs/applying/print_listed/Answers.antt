use Rattle.std.proofs.Common.{◌≡◌, ◌∙◌, sym}
use Rattle.dblog_stores.specs.declared.listing.Listing.{Listing}
use Rattle.dblog_stores.specs.declared.listing.Listing.TheVariants.{Rows, KeptRecords}
use Rattle.dblog_stores.proofs.applying.print_listed.Goals as goal

pub returns-in-Rows-clause-told : goal.returns-in-Rows-clause-told
returns-in-Rows-clause-told g c groups held = rw c.in-Rows.is (c.print_groups.ensures.told groups held)

pub returns-in-KeptRecords-clause-told : goal.returns-in-KeptRecords-clause-told
returns-in-KeptRecords-clause-told g c groups held = rw c.in-KeptRecords.is (c.print_kept.ensures.told groups held)

pub returns-in-KeptRecords-clause-unwritten : goal.returns-in-KeptRecords-clause-unwritten
returns-in-KeptRecords-clause-unwritten g c same = absurd (let contra : KeptRecords ≡ Rows = sym c.in-KeptRecords.is ∙ same in cc)
