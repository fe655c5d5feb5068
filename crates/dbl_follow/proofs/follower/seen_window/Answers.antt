use Rattle.std.proofs.Common.{◌∙◌, Bool, refl, sym, ap}
use Rattle.std.specs.Prelude.{if◌then◌else◌}
use Rattle.std.proofs.lemmas.Slice.Eq.{bytes_eq-Decides}
use Rattle.dbl_window.specs.Plans.{Chunk, low_text}
use Rattle.dbl_follow.specs.declared.window.Window.TheVariants as windows
use Rattle.dbl_follow.proofs.StepLemmas.{seen-not_low}
use Rattle.dbl_follow.proofs.follower.seen_window.Goals as goal

pub returns-in-Opened-clause-seen : goal.returns-in-Opened-clause-seen
returns-in-Opened-clause-seen c =
    let armed = c.args.armed in
    let told = c.in-Opened.ensures.opened c.in-Opened.opened refl in
    ap (λ (chunk : Chunk). windows.Open chunk) told.1
    ∙ sym (ap (λ (b : Bool). if b then windows.Open armed else windows.Armed armed) ((bytes_eq-Decides c.args.value.now (low_text armed.plan)).1 told.0))

pub returns-in-Waiting-clause-seen : goal.returns-in-Waiting-clause-seen
returns-in-Waiting-clause-seen c =
    let told = c.in-Waiting.ensures.waiting c.in-Waiting.armed refl in
    ap (λ (chunk : Chunk). windows.Armed chunk) told.1 ∙ sym (seen-not_low c.args.armed c.args.value.now told.0)
