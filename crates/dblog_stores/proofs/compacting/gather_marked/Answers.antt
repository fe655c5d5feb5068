use Rattle.std.proofs.Common.{◌∙◌, [], length, drop, refl, ap, arith, inr}
use Rattle.dbl_journal.specs.Stored.{OnDisk, count_of}
use Rattle.dbl_lines.proofs.PutLemmas.{putting_begins, putting_more, putting_ends, putting_fails, putting_starves}
use Rattle.dbl_topic.proofs.HeldLaws.{counted_held}
use Rattle.dblog_stores.specs.Compacting.{marked_lines}
use Rattle.dblog_stores.specs.declared.error.CommandError.TheVariants.{Failed}
use Rattle.dblog_stores.specs.declared.error.Store.TheVariants.{Topics}
use Rattle.dblog_stores.proofs.ErrorLaws.{no_output, print_failed, print_fails_none, print_kind, print_kind_of}
use Rattle.dblog_stores.proofs.Kept.{err_one, failed_with, keeps_itself, keeps_never, keeps_ok, keeps_retold, keeps_then}
use Rattle.dblog_stores.proofs.Marked.{group_lines, no_more_lines}
use Rattle.dblog_stores.proofs.Writing.{outside_cuts, print_cuts}
use Rattle.dblog_stores.proofs.compacting.gather_marked.Goals as goal

pub each-init : goal.each-init
each-init g c = record {
  live = refl;
  count = refl;
  keeps = keeps_itself g.D.Disk ⊥ c.args.log.now.disk (λ f. f);
  holds = λ groups held. held;
  puts = λ groups held. putting_begins (marked_lines c.args.marks.now groups) c.args.lines.now (g.O.Output.written c.args.output.now);
  later = omega arith;
}

pub each-preserved : goal.each-preserved
each-preserved g c = record {
  live = ap (λ (j : OnDisk _). j.live) c.in-Ok.ensures.same ∙ c.each.invariant.live;
  count = ap count_of c.in-Ok.ensures.same ∙ c.each.invariant.count;
  keeps = keeps_then g.D.Disk ⊥ _ _ _ c.each.invariant.keeps (keeps_ok g.D.Disk _ _ _ (λ e. cc) c.in-Ok.ensures.keeps);
  holds = λ groups held. c.in-Ok.ensures.holds groups (c.each.invariant.holds groups held);
  puts = λ groups held.
      let found = c.in-Ok.ensures.found groups (c.each.invariant.holds groups held) in
      putting_more _ _ _ _ _ _ _ _ _ _ (c.each.invariant.puts groups held) (group_lines c.each.marks c.put_marked.new.marks groups c.each.number c.in-Ok.group.items c.in-Ok-put_marked.ensures.taken found) c.in-Ok-put_marked.ensures.puts;
  later = omega (arith, c.each.invariant.later, c.in-Ok-put_marked.ensures.cause.later);
}

pub returns-in-Err-clause-told : goal.returns-in-Err-clause-told
returns-in-Err-clause-told g c groups held start begun =
    outside_cuts (marked_lines c.args.marks.now groups) c.in-Err.error _ _ (c.in-Err.ensures.cut groups (c.each.invariant.holds groups held)) (putting_starves _ _ _ _ _ _ (c.each.invariant.puts groups held) start [] begun)

pub returns-in-Err-clause-keeps : goal.returns-in-Err-clause-keeps
returns-in-Err-clause-keeps g c = keeps_then g.D.Disk _ _ _ _ c.each.invariant.keeps (keeps_retold g.D.Disk (Failed Topics) c.in-Err.error _ _ c.in-Err.ensures.keeps)

pub returns-in-Err-clause-kinds : goal.returns-in-Err-clause-kinds
returns-in-Err-clause-kinds g c = inr c.in-Err.ensures.kinds

pub returns-in-Err-clause-output : goal.returns-in-Err-clause-output
returns-in-Err-clause-output g c = record { later = c.each.invariant.later; cause = λ e. absurd (no_output Topics c.in-Err.error c.in-Err.ensures.kinds (err_one c.in-Err.error _ e)) }

pub returns-in-Err-put_marked-clause-told : goal.returns-in-Err-put_marked-clause-told
returns-in-Err-put_marked-clause-told g c groups held start begun =
    let found = c.in-Ok.ensures.found groups (c.each.invariant.holds groups held) in
    print_cuts (marked_lines c.args.marks.now groups) c.in-Err-put_marked.error c.from.result _ _ c.from.ensures
    (putting_fails _ _ _ _ _ _ _ _ _ _ (c.each.invariant.puts groups held) (group_lines c.each.marks (drop (length c.in-Ok.group.items) c.each.marks) groups c.each.number c.in-Ok.group.items refl found) c.in-Err-put_marked.ensures.puts start [] begun)

pub returns-in-Err-put_marked-clause-keeps : goal.returns-in-Err-put_marked-clause-keeps
returns-in-Err-put_marked-clause-keeps g c =
    keeps_then g.D.Disk _ _ _ _ c.each.invariant.keeps
    (keeps_never g.D.Disk _ _ _ (λ e. print_fails_none Topics c.from.result (print_kind c.in-Err-put_marked.error c.from.result c.from.ensures) (err_one c.from.result _ e))
    (keeps_ok g.D.Disk _ _ _ (λ e. cc) c.in-Ok.ensures.keeps))

pub returns-in-Err-put_marked-clause-kinds : goal.returns-in-Err-put_marked-clause-kinds
returns-in-Err-put_marked-clause-kinds g c = print_kind_of Topics c.from.result (print_kind c.in-Err-put_marked.error c.from.result c.from.ensures)

pub returns-in-Err-put_marked-clause-output : goal.returns-in-Err-put_marked-clause-output
returns-in-Err-put_marked-clause-output g c = record { later = omega (arith, c.each.invariant.later, c.in-Err-put_marked.ensures.cause.later); cause = λ e. let rose = c.in-Err-put_marked.ensures.cause.cause (ap failed_with (print_failed c.in-Err-put_marked.error c.from.result c.from.ensures (err_one c.from.result _ e))) in omega (arith, c.each.invariant.later, rose) }

pub returns-clause-told : goal.returns-clause-told
returns-clause-told g c groups held start begun =
    let counted = counted_held g.D.Disk c.args.log.now groups held in
    putting_ends _ _ _ _ _ _ (c.each.invariant.puts groups held) (no_more_lines c.each.marks groups c.each.number (omega (arith, c.each-test.false, c.groups-number-end.ensures, counted))) start [] begun

pub returns-clause-keeps : goal.returns-clause-keeps
returns-clause-keeps g c = keeps_never g.D.Disk _ _ _ (λ e. cc) c.each.invariant.keeps
