use Rattle.std.proofs.Common.{◌≡◌, ◌∙◌, ℕ, Some, List, sym, ap, subst}
use Rattle.dbl_follow.specs.declared.window.Window.TheVariants as windows
use Rattle.dbl_follow.specs.Followed.{Following, FitsWindow, awaited}
use Rattle.dbl_follow.proofs.follower.Follower.waits_for.Goals as goal

pub returns-in-Armed-clause-fits : goal.returns-in-Armed-clause-fits
returns-in-Armed-clause-fits c =
    let window : windows.Armed c.in-Armed.armed ≡ c.args.self.now.window = sym c.in-Armed.is ∙ ap (λ (f : Following). f.window) c.self.view_is in
    subst FitsWindow window c.awaited_mark.ensures.fits

pub returns-in-Open-clause-fits : goal.returns-in-Open-clause-fits
returns-in-Open-clause-fits c =
    let window : windows.Open c.in-Open.opened ≡ c.args.self.now.window = sym c.in-Open.is ∙ ap (λ (f : Following). f.window) c.self.view_is in
    subst FitsWindow window c.awaited_mark-in-Open.ensures.fits

pub returns-in-Open-clause-text : goal.returns-in-Open-clause-text
returns-in-Open-clause-text c =
    let window : windows.Open c.in-Open.opened ≡ c.args.self.now.window = sym c.in-Open.is ∙ ap (λ (f : Following). f.window) c.self.view_is in
    ap (λ (text : List ℕ). Some text) c.awaited_mark-in-Open.ensures.text ∙ ap awaited window
