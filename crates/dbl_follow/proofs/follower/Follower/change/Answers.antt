use Rattle.std.proofs.Common.{◌≡◌, ◌∙◌, ℤ, Option, sym, ap, subst}
use Rattle.std.specs.Prelude.{option_map}
use Rattle.std.proofs.Math.Facts.{to_z-of_z}
use Rattle.std.proofs.lemmas.Result.{err_from_is_err_and}
use Rattle.dbl_model_history.specs.FitsInfos.{FitsInfos}
use Rattle.dbl_model_event.specs.Clashes.{Clash}
use Rattle.dbl_envelope.proofs.SuitLemmas.{fitting_suits}
use Rattle.dbl_follow.specs.Amid.{ExtendsPart, IsAmid}
use Rattle.dbl_follow.specs.Faults.{IsClashOf}
use Rattle.dbl_follow.specs.Followed.{Following, OpenPart, part_of}
use Rattle.dbl_follow.proofs.AmidLemmas.{amid_more, captured_by, clash_more}
use Rattle.dbl_follow.proofs.follower.Follower.change.Goals as goal

pub follow_change-requires-clause-suits : goal.follow_change-requires-clause-suits
follow_change-requires-clause-suits c =
    (fitting_suits c.self.inside.writer.infos).0 c.args.change.now
    (subst (λ (f : Following). FitsInfos f.infos c.args.change.now) (sym c.self.view_is) c.requires.fits)

pub follow_change-requires-clause-part : goal.follow_change-requires-clause-part
follow_change-requires-clause-part c = c.self.invariant.part_is

pub see_change-requires : goal.see_change-requires
see_change-requires c = subst (λ (f : Following). FitsInfos f.infos c.args.change.now) (sym c.self.view_is) c.requires.fits

pub invariant_of-self : goal.invariant_of-self
invariant_of-self c = record {
  few = c.self.invariant.few;
  cursors_are = c.self.invariant.cursors_are;
  window_is = c.self.invariant.window_is;
  part_is = c.follow_change.ensures.part;
}

pub returns-in_err-released-clause-err : goal.returns-in_err-released-clause-err
returns-in_err-released-clause-err c =
    let inside = c.self.inside in
    let view : Following = record {
      identity = inside.writer.identity;
      infos = inside.writer.infos;
      cursors = inside.cursors.items;
      window = inside.window;
      part = option_map part_of inside.part;
    } in
    let p = err_from_is_err_and c.from_residual.result c.from_residual.ensures.1 in
    rw (p.1, p.2) (λ start changes now released amid. (
    subst (λ (o : Option Clash). IsClashOf o c.in_err-released.field-0.0)
    (sym (clash_more start view c.args.head.now changes c.args.change.now now released
    (subst (IsAmid start c.args.head.now changes now released) (sym c.self.view_is) amid))) c.in_err-released.ensures.err))

pub returns-clause-follows : goal.returns-clause-follows
returns-clause-follows c = λ start changes now released amid at. (
    let inside = c.self.inside in
    let view : Following = record {
      identity = inside.writer.identity;
      infos = inside.writer.infos;
      cursors = inside.cursors.items;
      window = inside.window;
      part = option_map part_of inside.part;
    } in
    let head = c.args.head.now in
    let change = c.args.change.now in
    let new = c.see_change.new.self in
    let next = option_map part_of c.follow_change.new.part in
    let part : new.part ≡ next = ap (λ (f : Following). f.part) c.see_change.ensures.same in
    let same : new ≡ record view { window = new.window; part = new.part } = c.see_change.ensures.same
    ∙ ap (λ (o : Option OpenPart). record view { window = new.window; part = o }) (sym part) in
    let suits = (fitting_suits inside.writer.infos).0 change (subst (λ (f : Following). FitsInfos f.infos change) (sym c.self.view_is) c.requires.fits) in
    let extends = subst (λ (o : Option OpenPart). ExtendsPart (captured_by view) head c.args.now_ms change view.part c.in_ok-released.released.items o) (sym part)
    (subst (λ (m : ℤ). ExtendsPart (captured_by view) head m change view.part c.in_ok-released.released.items next)
    (to_z-of_z c.ranges.now_ms) c.in_ok-released.ensures.extends) in
    amid_more start view new head changes change now c.args.now_ms released c.in_ok-released.released.items
    (subst (IsAmid start head changes now released) (sym c.self.view_is) amid) at suits extends
    c.in_ok-released.ensures.no_clash c.in_ok-see_change.ensures.passes same)
