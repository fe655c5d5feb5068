use Rattle.std.proofs.Common.{◌≡◌, ◌≢◌, ◌∙◌, ℤ, false, true, sym, ap, subst}
use Rattle.std.specs.Prelude.{IfOk}
use Rattle.std.proofs.Math.Facts.{to_z-of_z}
use Rattle.std.proofs.lemmas.Result.{IfOk-weaker}
use Rattle.dbl_model_event.specs.Snapshots.{snapshot}
use Rattle.dbl_window.specs.Plans.{high_text}
use Rattle.dbl_follow.specs.declared.window.Window.TheVariants as windows
use Rattle.dbl_follow.specs.Followed.{Following}
use Rattle.dbl_follow.proofs.SnapshotSteps.{is_snapshot}
use Rattle.dbl_follow.proofs.StepLemmas.{marked_steps, marked_clash, closing-other, seen-other}
use Rattle.dbl_follow.proofs.follower.Follower.see_high.Goals as goal

pub returns-else-closes-clause-steps : goal.returns-else-closes-clause-steps
returns-else-closes-clause-steps c =
    let f = c.args.self.now in
    let opened = c.args.opened in
    let value = c.args.value.now in
    let other : value ≢ high_text opened.plan = λ same. (let contra : false ≡ true = sym c.if-closes.false ∙ c.closes.ensures.1 same in cc) in
    marked_steps (record { identity = f.identity; infos = f.infos; cursors = f.cursors; window = windows.Open opened; part = f.part }) _ c.args.commit.now value c.requires.none
    (ap (λ (x : Following). x.part) c.self.view_is ∙ c.requires.none) c.requires.mark (closing-other opened value other)
    (c.set_window.ensures ∙ sym (seen-other opened value other)) (ap (λ (x : Following). x.identity) c.self.view_is) (ap (λ (x : Following). x.infos) c.self.view_is) (ap (λ (x : Following). x.cursors) c.self.view_is)

pub returns-else-closes-clause-no_clash : goal.returns-else-closes-clause-no_clash
returns-else-closes-clause-no_clash c =
    let f = c.args.self.now in
    let opened = c.args.opened in
    let value = c.args.value.now in
    let other : value ≢ high_text opened.plan = λ same. (let contra : false ≡ true = sym c.if-closes.false ∙ c.closes.ensures.1 same in cc) in
    marked_clash (record { identity = f.identity; infos = f.infos; cursors = f.cursors; window = windows.Open opened; part = f.part }) c.args.commit.now value c.requires.mark (closing-other opened value other)

pub returns-then-closes-clause-snapshot : goal.returns-then-closes-clause-snapshot
returns-then-closes-clause-snapshot c own =
    let f = c.args.self.now in
    IfOk-weaker c.close.result _ _
    (λ records are. is_snapshot f.identity f.infos c.args.opened c.finish.result c.args.commit.now c.args.now_ms records.items c.requires.opened.planned
    c.finish.ensures.closed c.finish.ensures.fits c.finish.ensures.keys c.finish.ensures.ordered are)
    (subst (λ (m : ℤ). IfOk c.close.result (λ records. records.items ≡ snapshot f.identity f.infos c.finish.result c.args.commit.now m)) (to_z-of_z c.ranges.now_ms) c.close.ensures.records)

pub returns-else-closes-clause-snapshot : goal.returns-else-closes-clause-snapshot
returns-else-closes-clause-snapshot c own = let contra : false ≡ true = sym c.if-closes.false ∙ c.closes.ensures.1 own in absurd (cc)
