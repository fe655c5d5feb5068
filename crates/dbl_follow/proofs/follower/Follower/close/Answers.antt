use Rattle.std.proofs.Common.{◌≡◌, ◌<◌, length, sym, subst, arith}
use Rattle.dbl_model_event.specs.Snapshots.{FitsChunk, FitsSnapshot}
use Rattle.dbl_envelope.proofs.SuitLemmas.{fitting_suits}
use Rattle.dbl_follow.specs.Followed.{Following}
use Rattle.dbl_follow.proofs.StepLemmas.{cursors_closed, cursors_long, captured_lt}
use Rattle.dbl_follow.proofs.follower.Follower.close.Goals as goal

pub snapshot-requires : goal.snapshot-requires
snapshot-requires c = record {
  suits = (fitting_suits c.self.inside.writer.infos).1 c.args.closed (subst (λ (f : Following). FitsSnapshot f.infos c.args.closed) (sym c.self.view_is) c.requires.fits);
}

pub index_mut-requires : goal.index_mut-requires
index_mut-requires c =
    let infos = c.self.inside.writer.infos in
    let fits = subst (λ (f : Following). FitsSnapshot f.infos c.args.closed) (sym c.self.view_is) c.requires.fits in
    let lt : c.args.closed.table < length infos = captured_lt infos c.args.closed.table (λ i. FitsChunk i c.args.closed) fits in
    let long : length c.self.inside.cursors.items ≡ length infos = cursors_long infos c.self.inside.cursors.items c.self.invariant.cursors_are in
    omega (arith, lt, long, c.self.inside.cursors.ok.0)

pub invariant_of-self : goal.invariant_of-self
invariant_of-self c = record {
  few = c.self.invariant.few;
  cursors_are = cursors_closed c.self.inside.writer.infos c.self.inside.cursors.items c.args.closed c.self.invariant.cursors_are
      (subst (λ (f : Following). FitsSnapshot f.infos c.args.closed) (sym c.self.view_is) c.requires.fits);
  window_is = c.self.invariant.window_is;
  part_is = c.self.invariant.part_is;
}
