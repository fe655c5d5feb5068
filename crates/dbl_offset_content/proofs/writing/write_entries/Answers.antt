use Rattle.std.proofs.Common.{◌++◌, get_or, arith, refl}
use Rattle.std.specs.List.{flat_map}
use Rattle.dbl_offset_content.specs.Entries.{entries_of, entry, FitsTableCursor}
use Rattle.dbl_record.proofs.Sizes.{written_goes, written_done}
use Rattle.dbl_offset_content.proofs.Sizes.{held_at, entries_long, entry_at, entry_made}
use Rattle.dbl_offset_content.proofs.writing.write_entries.Goals as goal

pub write_entry-requires : goal.write_entry-requires
write_entry-requires c =
    let infos = c.args.infos.now in
    let versions = c.args.versions.now in
    let cursors = c.args.cursors.now in
    let long = entries_long infos versions cursors c.requires.versions c.requires.long in
    let t = entry_made c.index-infos-i.result (get_or versions c.loop-i.i 0) c.index-cursors-i.result in
    let fits = held_at FitsTableCursor (entries_of infos versions cursors) c.loop-i.i t c.requires.fit (omega (arith, long, c.loop-i-test.true))
    (entry_at infos versions cursors c.loop-i.i c.index-infos-i.result c.index-cursors-i.result c.requires.versions c.requires.long c.loop-i-test.true c.index-infos-i.is c.index-cursors-i.is) in
    record { table = fits.0; progress = fits.1 }

pub loop-i-preserved : goal.loop-i-preserved
loop-i-preserved c =
    let infos = c.args.infos.now in
    let versions = c.args.versions.now in
    let cursors = c.args.cursors.now in
    let long = entries_long infos versions cursors c.requires.versions c.requires.long in
    let t = entry_made c.index-infos-i.result (get_or versions c.loop-i.i 0) c.index-cursors-i.result in
    let form = entry c.args.format in
    written_goes form c.loop-i.out.items c.write_entry.new.out.items (c.args.out.now.items ++ flat_map form (entries_of infos versions cursors)) (entries_of infos versions cursors) c.loop-i.i t t (omega (arith, long, c.loop-i-test.true))
    (entry_at infos versions cursors c.loop-i.i c.index-infos-i.result c.index-cursors-i.result c.requires.versions c.requires.long c.loop-i-test.true c.index-infos-i.is c.index-cursors-i.is)
    (c.in_ok-write_entry.ensures t refl refl refl) c.loop-i.invariant

pub returns : goal.returns
returns c =
    let entries = entries_of c.args.infos.now c.args.versions.now c.args.cursors.now in
    let long = entries_long c.args.infos.now c.args.versions.now c.args.cursors.now c.requires.versions c.requires.long in
    written_done (entry c.args.format) c.loop-i.out.items (c.args.out.now.items ++ flat_map (entry c.args.format) entries) entries c.loop-i.i (omega (arith, long, c.loop-i-test.false)) c.loop-i.invariant
