use Rattle.std.proofs.Common.{◌≡◌, ◌∙◌, ◌≤◌, ℕ, List, length, drop, refl, sym, ap, subst, arith}
use Rattle.dbl_journal.specs.Stored.{OnDisk, count_of}
use Rattle.dbl_record.specs.declared.record.Record.{Record}
use Rattle.dbl_topic.proofs.HeldLaws.{counted_held}
use Rattle.dblog_stores.specs.Compacting.{HasMarked}
use Rattle.dblog_stores.specs.declared.error.CommandError.TheVariants.{Failed}
use Rattle.dblog_stores.specs.declared.error.Store.TheVariants.{Topics}
use Rattle.dblog_stores.proofs.CrashState.{nothing_left}
use Rattle.dblog_stores.proofs.Consumed.{wanting_kind, wanting_outside, wanting_running}
use Rattle.dblog_stores.proofs.Kept.{err_one, keeps_itself, keeps_never, keeps_ok, keeps_retold, keeps_then}
use Rattle.dblog_stores.proofs.Marked.{group_before}
use Rattle.dblog_stores.proofs.Opened.{memory_after}
use Rattle.dblog_stores.proofs.compacting.mark_groups.Goals as goal

pub each-init : goal.each-init
each-init g c = record {
  live = refl;
  count = refl;
  keeps = keeps_itself g.D.Disk ⊥ c.args.log.now.disk (λ f. f);
  holds = λ groups held. held;
  marked = λ groups held.
      let n = c.groups-number.result in
      let counted = counted_held g.D.Disk c.args.log.now groups held in
      let end : length groups ≤ n = omega (arith, c.groups-number.ensures, counted) in
      subst (λ (left : List (List Record)). HasMarked c.args.placeholder.now n left c.args.marking.now) (sym (nothing_left groups n end)) (c.requires.begun n);
}

pub each-preserved : goal.each-preserved
each-preserved g c = record {
  live = ap (λ (j : OnDisk _). j.live) c.in-Ok.ensures.same ∙ c.each.invariant.live;
  count = ap count_of c.in-Ok.ensures.same ∙ c.each.invariant.count;
  keeps = keeps_then g.D.Disk ⊥ _ _ _ c.each.invariant.keeps (keeps_ok g.D.Disk _ _ _ (λ e. cc) c.in-Ok.ensures.keeps);
  holds = λ groups held. c.in-Ok.ensures.holds groups (c.each.invariant.holds groups held);
  marked = λ groups held.
      group_before c.args.placeholder.now groups c.each.number c.in-Ok.group.items c.each.marking c.mark_group.new.marking c.each-test.true
      (c.in-Ok.ensures.found groups (c.each.invariant.holds groups held)) (c.each.invariant.marked groups held)
      (λ all. c.in-Ok-mark_group.ensures.marked c.args.placeholder.now (drop c.each.number groups) all);
}

pub returns-in-Err-clause-outside : goal.returns-in-Err-clause-outside
returns-in-Err-clause-outside g c groups held = c.in-Err.ensures.cut groups (c.each.invariant.holds groups held)

pub returns-in-Err-clause-keeps : goal.returns-in-Err-clause-keeps
returns-in-Err-clause-keeps g c = keeps_then g.D.Disk _ _ _ _ c.each.invariant.keeps (keeps_retold g.D.Disk (Failed Topics) c.in-Err.error _ _ c.in-Err.ensures.keeps)

pub returns-in-Err-mark_group-clause-outside : goal.returns-in-Err-mark_group-clause-outside
returns-in-Err-mark_group-clause-outside g c groups held = wanting_outside c.in-Err-mark_group.error c.in-Err-mark_group.ensures.memory

pub returns-in-Err-mark_group-clause-keeps : goal.returns-in-Err-mark_group-clause-keeps
returns-in-Err-mark_group-clause-keeps g c =
    keeps_then g.D.Disk _ _ _ _ c.each.invariant.keeps
    (keeps_never g.D.Disk _ _ _ (λ e. wanting_running c.in-Err-mark_group.error c.in-Err-mark_group.ensures.memory (err_one c.in-Err-mark_group.error _ e))
    (keeps_ok g.D.Disk _ _ _ (λ e. cc) c.in-Ok.ensures.keeps))

pub returns-in-Err-mark_group-clause-kinds : goal.returns-in-Err-mark_group-clause-kinds
returns-in-Err-mark_group-clause-kinds g c = wanting_kind c.in-Err-mark_group.error c.in-Err-mark_group.ensures.memory

pub returns-in-Err-mark_group-clause-a_store : goal.returns-in-Err-mark_group-clause-a_store
returns-in-Err-mark_group-clause-a_store g c = memory_after c.in-Err-mark_group.error c.in-Err-mark_group.ensures.memory

pub returns-clause-told : goal.returns-clause-told
returns-clause-told g c groups held =
    let first : c.each.number ≡ 0 = omega arith in
    subst (λ (at : ℕ). HasMarked c.args.placeholder.now at (drop at groups) c.each.marking) first (c.each.invariant.marked groups held)

pub returns-clause-keeps : goal.returns-clause-keeps
returns-clause-keeps g c = keeps_never g.D.Disk _ _ _ (λ e. cc) c.each.invariant.keeps
