use Rattle.std.proofs.Common.{◌≡◌, ◌∙◌, ℕ, ℤ, Some, None, List, sym, ap, subst}
use Rattle.std.specs.Prelude.{IfOk}
use Rattle.std.proofs.Math.Facts.{to_z-of_z}
use Rattle.dbl_model_event.specs.SnapshotLists.{IsSnapshot}
use Rattle.dbl_window.specs.Plans.{Chunk}
use Rattle.dbl_follow.specs.declared.window.Window.{Window}
use Rattle.dbl_follow.specs.declared.window.Window.TheVariants as windows
use Rattle.dbl_follow.specs.Followed.{Following}
use Rattle.dbl_follow.specs.Steps.{closing, closed_of}
use Rattle.dbl_follow.proofs.SnapshotSteps.{closing_tells}
use Rattle.dbl_follow.proofs.StepLemmas.{marked_clash}
use Rattle.dbl_follow.proofs.follower.Follower.see_mark.Goals as goal

-- an armed window closes nothing
closes : (f : Following) (armed : Chunk) (value : List ℕ) → windows.Armed armed ≡ f.window → closing f.window (Some value) ≡ None
closes f armed value window = ap (λ (w : Window). closing w (Some value)) (sym window)

pub returns-in-Armed-clause-no_clash : goal.returns-in-Armed-clause-no_clash
returns-in-Armed-clause-no_clash c =
    let f = c.args.self.now in
    let value = c.args.value.now in
    marked_clash f c.args.commit.now value c.requires.mark (closes f c.in-Armed.armed value (c.in-Armed.ensures.value ∙ ap (λ (g : Following). g.window) c.self.view_is))

pub returns-in-Armed-clause-snapshot : goal.returns-in-Armed-clause-snapshot
returns-in-Armed-clause-snapshot c chunk told =
    let f = c.args.self.now in
    let contra : None ≡ Some chunk = sym (closes f c.in-Armed.armed c.args.value.now (c.in-Armed.ensures.value ∙ ap (λ (g : Following). g.window) c.self.view_is)) ∙ told in
    absurd (cc)

pub returns-in-Open-clause-snapshot : goal.returns-in-Open-clause-snapshot
returns-in-Open-clause-snapshot c chunk told =
    let f = c.args.self.now in
    let opened = c.in-Open.opened in
    let value = c.args.value.now in
    let window : windows.Open opened ≡ f.window = c.in-Open.ensures.value ∙ ap (λ (g : Following). g.window) c.self.view_is in
    let own = closing_tells opened chunk value (ap (λ (w : Window). closing w (Some value)) window ∙ told) in
    subst (λ (x : Chunk). IfOk c.see_high.result (λ records. IsSnapshot f.identity f.infos (closed_of x) c.args.commit.now c.args.now_ms records.items)) own.same
    (subst (λ (g : Following). IfOk c.see_high.result (λ records. IsSnapshot g.identity g.infos (closed_of opened) c.args.commit.now c.args.now_ms records.items)) c.self.view_is
    (subst (λ (m : ℤ). IfOk c.see_high.result (λ records. IsSnapshot c.self.inside.writer.identity c.self.inside.writer.infos (closed_of opened) c.args.commit.now m records.items)) (to_z-of_z c.ranges.now_ms)
    (c.see_high.ensures.snapshot own.own)))
