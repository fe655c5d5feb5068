use Rattle.std.proofs.Common.{sym, subst}
use Rattle.dbl_follow.specs.declared.window.Window.{Window}
use Rattle.dbl_follow.specs.Followed.{Following, IsPlanOfCaptured, IsWindowOf}
use Rattle.dbl_follow.proofs.follower.Follower.arm.Goals as goal

pub invariant_of-self : goal.invariant_of-self
invariant_of-self c = record {
  few = c.self.invariant.few;
  cursors_are = c.self.invariant.cursors_are;
  window_is = subst (λ (w : Window). IsWindowOf c.self.inside.writer.infos w) (sym c.set_window.ensures)
      (subst (λ (f : Following). IsPlanOfCaptured f.infos c.args.armed.plan) (sym c.self.view_is) c.requires.planned);
  part_is = c.self.invariant.part_is;
}
