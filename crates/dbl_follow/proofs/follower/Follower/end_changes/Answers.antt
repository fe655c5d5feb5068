use Rattle.std.proofs.Common.{Option, sym, ap, subst}
use Rattle.std.specs.Prelude.{option_map}
use Rattle.dbl_follow.specs.declared.part.Part.{Part}
use Rattle.dbl_follow.specs.Amid.{IsAmid}
use Rattle.dbl_follow.specs.Followed.{Following, IsOpenPartOf, part_of}
use Rattle.dbl_follow.proofs.AmidLemmas.{amid_ends}
use Rattle.dbl_follow.proofs.follower.Follower.end_changes.Goals as goal

pub invariant_of-self : goal.invariant_of-self
invariant_of-self c = record {
  few = c.self.invariant.few;
  cursors_are = c.self.invariant.cursors_are;
  window_is = c.self.invariant.window_is;
  part_is = subst (IsOpenPartOf c.self.inside.writer) (sym c.end_part.ensures.none) tt;
}

pub returns-clause-ends : goal.returns-clause-ends
returns-clause-ends c = λ ended now_ms unmarked start changes now released amid at. (
    let inside = c.self.inside in
    let view : Following = record {
      identity = inside.writer.identity;
      infos = inside.writer.infos;
      cursors = inside.cursors.items;
      window = inside.window;
      part = option_map part_of inside.part;
    } in
    let new : Following = record view { part = option_map part_of c.end_part.new.part } in
    amid_ends start view new ended changes now released c.in_ok-records.records.items
    (subst (IsAmid start ended.head changes now released) (sym c.self.view_is) amid) unmarked c.self.invariant.window_is
    c.in_ok-records.ensures.held (ap (λ (o : Option Part). record view { part = option_map part_of o }) c.end_part.ensures.none))
