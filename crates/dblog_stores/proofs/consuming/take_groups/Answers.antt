use Rattle.std.proofs.Common.{◌∙◌, ap, refl, arith, inl}
use Rattle.dbl_journal.specs.Stored.{OnDisk, count_of}
use Rattle.dbl_topic.proofs.HeldLaws.{counted_held}
use Rattle.dbl_consume.specs.Holdings.{placeholder_of}
use Rattle.dblog_stores.specs.declared.error.CommandError.TheVariants.{Failed}
use Rattle.dblog_stores.specs.declared.error.Store.TheVariants.{Topics}
use Rattle.dblog_stores.proofs.Consumed.{consumed_all, consuming_begins, one_consumed, refused_kind, refused_running, refuses}
use Rattle.dblog_stores.proofs.Kept.{err_one, keeps_itself, keeps_never, keeps_ok, keeps_retold, keeps_then}
use Rattle.dblog_stores.proofs.Opened.{refused_after}
use Rattle.dblog_stores.proofs.consuming.take_groups.Goals as goal

pub each-init : goal.each-init
each-init g c = record {
  live = refl;
  count = refl;
  keeps = keeps_itself g.D.Disk ⊥ c.args.log.now.disk (λ f. f);
  holds = λ groups held. held;
  consumes = λ groups held. consuming_begins (placeholder_of c.args.held.now) groups c.args.held.now c.requires.empty refl;
}

pub each-preserved : goal.each-preserved
each-preserved g c = record {
  live = ap (λ (j : OnDisk _). j.live) c.in-Ok.ensures.same ∙ c.each.invariant.live;
  count = ap count_of c.in-Ok.ensures.same ∙ c.each.invariant.count;
  keeps = keeps_then g.D.Disk ⊥ _ _ _ c.each.invariant.keeps (keeps_ok g.D.Disk _ _ _ (λ e. cc) c.in-Ok.ensures.keeps);
  holds = λ groups held. c.in-Ok.ensures.holds groups (c.each.invariant.holds groups held);
  consumes = λ groups held.
      one_consumed (placeholder_of c.args.held.now) groups c.each.number c.each.held c.in-Ok.group.items (c.each.invariant.consumes groups held) (c.in-Ok.ensures.found groups (c.each.invariant.holds groups held))
      _ c.in-Ok-take_group.ensures.taken c.in-Ok-take_group.ensures.took c.take_group.ensures.placeholder;
}

pub returns-in-Err-clause-told : goal.returns-in-Err-clause-told
returns-in-Err-clause-told g c groups held = inl (c.in-Err.ensures.cut groups (c.each.invariant.holds groups held))

pub returns-in-Err-clause-keeps : goal.returns-in-Err-clause-keeps
returns-in-Err-clause-keeps g c = keeps_then g.D.Disk _ _ _ _ c.each.invariant.keeps (keeps_retold g.D.Disk (Failed Topics) c.in-Err.error _ _ c.in-Err.ensures.keeps)

pub returns-in-Err-take_group-clause-told : goal.returns-in-Err-take_group-clause-told
returns-in-Err-take_group-clause-told g c groups held =
    refuses (placeholder_of c.args.held.now) groups c.each.number c.each.held c.in-Ok.group.items (c.each.invariant.consumes groups held) (c.in-Ok.ensures.found groups (c.each.invariant.holds groups held))
    c.in-Err-take_group.error c.in-Err-take_group.ensures.refused

pub returns-in-Err-take_group-clause-keeps : goal.returns-in-Err-take_group-clause-keeps
returns-in-Err-take_group-clause-keeps g c =
    keeps_then g.D.Disk _ _ _ _ c.each.invariant.keeps
    (keeps_never g.D.Disk _ _ _ (λ e. refused_running c.each.number _ c.in-Err-take_group.error c.in-Err-take_group.ensures.refused (err_one c.in-Err-take_group.error _ e))
    (keeps_ok g.D.Disk _ _ _ (λ e. cc) c.in-Ok.ensures.keeps))

pub returns-in-Err-take_group-clause-kinds : goal.returns-in-Err-take_group-clause-kinds
returns-in-Err-take_group-clause-kinds g c = refused_kind c.each.number _ c.in-Err-take_group.error c.in-Err-take_group.ensures.refused

pub returns-clause-told : goal.returns-clause-told
returns-clause-told g c groups held =
    let counted = counted_held g.D.Disk c.args.log.now groups held in
    consumed_all (placeholder_of c.args.held.now) groups c.each.number c.each.held (c.each.invariant.consumes groups held) (omega (arith, c.each-test.false, c.groups-number-end.ensures, counted))

pub returns-clause-keeps : goal.returns-clause-keeps
returns-clause-keeps g c = keeps_never g.D.Disk _ _ _ (λ e. cc) c.each.invariant.keeps

pub returns-in-Err-take_group-clause-a_store : goal.returns-in-Err-take_group-clause-a_store
returns-in-Err-take_group-clause-a_store g c = refused_after c.each.number _ c.in-Err-take_group.error c.in-Err-take_group.ensures.refused
