use Rattle.std.proofs.Common.{get_or, arith, refl}
use Rattle.dbl_offset_content.specs.Entries.{entries_of, entry, FitsTableCursor}
use Rattle.dbl_offset_content.proofs.Sizes.{sum_goes, sum_done, entries_long, entry_at, entry_made}
use Rattle.dbl_offset_content.proofs.measuring.add_entries.Goals as goal

pub loop-i-preserved : goal.loop-i-preserved
loop-i-preserved c =
    let infos = c.args.infos.now in
    let versions = c.args.versions.now in
    let cursors = c.args.cursors.now in
    let long = entries_long infos versions cursors c.requires.versions c.requires.cursors in
    let t = entry_made c.index-infos-i.result (get_or versions c.loop-i.i 0) c.index-cursors-i.result in
    record {
      sum = sum_goes (entry 2) FitsTableCursor c.args.before c.loop-i.total c.add_entry-total.result (entries_of infos versions cursors) c.loop-i.i t t (omega (arith, long, c.loop-i-test.true))
          (entry_at infos versions cursors c.loop-i.i c.index-infos-i.result c.index-cursors-i.result c.requires.versions c.requires.cursors c.loop-i-test.true c.index-infos-i.is c.index-cursors-i.is)
          (c.add_entry-total.ensures t refl refl refl) c.loop-i.invariant.sum;
      small = c.add_entry-total.type_inv;
    }

pub returns : goal.returns
returns c =
    let entries = entries_of c.args.infos.now c.args.versions.now c.args.cursors.now in
    let long = entries_long c.args.infos.now c.args.versions.now c.args.cursors.now c.requires.versions c.requires.cursors in
    sum_done (entry 2) FitsTableCursor c.args.before c.loop-i.total entries c.loop-i.i (omega (arith, long, c.loop-i-test.false)) c.loop-i.invariant.small c.loop-i.invariant.sum
