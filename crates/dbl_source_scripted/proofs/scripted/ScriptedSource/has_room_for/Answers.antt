use Rattle.std.proofs.Common.{◌≡◌, ◌∙◌, ◌+◌, ℕ, [], List, length, ap, subst, arith}
use Rattle.std.specs.Prelude.{◌↔◌, IsTrue}
use Rattle.dbl_source_scripted.specs.declared.moves.PlannedAlteration.{PlannedAlteration}
use Rattle.dbl_source_scripted.specs.AlteredRows.{filled}
use Rattle.dbl_source_scripted.specs.Moves.{HasRoom}
use Rattle.dbl_source_scripted.specs.Played.{Played, altered_at, bare_commits, commits_counted}
use Rattle.dbl_source_scripted.specs.Fields.{played_of}
use Rattle.dbl_source_scripted.proofs.AlterLemmas.{length-filled, length-commits}
use Rattle.dbl_source_scripted.proofs.scripted.ScriptedSource.has_room_for.Goals as goal

pub returns : goal.returns
returns c =
    let i = c.self.inside in
    let before = c.args.before.now.items in
    let log = filled i.tables.items [] i.log.items in
    let altered : c.count_altered-altered.result ≡ length (altered_at i.plan.calls i.alters.items) =
    c.count_altered-altered.ensures
    ∙ ap (λ (l : List PlannedAlteration). length (altered_at i.calls l)) c.deref.ensures.value
    ∙ ap (λ (n : ℕ). length (altered_at n i.alters.items)) c.self.invariant.1 in
    let long : length (commits_counted before (played_of i)) ≡ length (altered_at i.plan.calls i.alters.items) + length before =
    length-filled i.tables.items log (bare_commits (altered_at i.plan.calls i.alters.items) before) ∙ length-commits (altered_at i.plan.calls i.alters.items) before in
    let its : IsTrue c.has_room.result ↔ HasRoom (length log) (length (commits_counted before (played_of i))) c.args.own = (
      λ room. omega (arith, c.has_room.ensures.0 room, altered, long, c.len.ensures, c.len-2.ensures, c.saturating_add.ensures, i.log.ok.0, c.args.before.now.ok.0, length-filled i.tables.items [] i.log.items),
      λ room. c.has_room.ensures.1 (omega (arith, room, altered, long, c.len.ensures, c.len-2.ensures, c.saturating_add.ensures, i.log.ok.0, c.args.before.now.ok.0, length-filled i.tables.items [] i.log.items)),
    ) in
    subst (λ (p : Played). IsTrue c.has_room.result ↔ HasRoom (length p.log) (length (commits_counted before p)) c.args.own) c.self.view_is its
