use Rattle.std.proofs.Common.{◌≡◌, ◌∙◌, ◌<◌, ◌≤◌, List, length, get_or, ap, subst}
use Rattle.dbl_record.specs.Places.{place_of}
use Rattle.cases_courses.specs.declared.versions.Version.{Version}
use Rattle.cases_courses.proofs.VersionLemmas.{version_along_past, version_along_all}
use Rattle.cases_courses.proofs.version_moments.version_moment.Goals as goal

pub returns-then-item-commit : goal.returns-then-item-commit
returns-then-item-commit c =
    let versions : c.deref-version-items.result.now ≡ c.args.versions.now.items = c.deref-version-items.ensures.value in
    version_along_past c.args.versions.now.items (place_of c.args.item.now) c.loop-version.version-index c.loop-version.moment c.version-item.result
    (subst (λ (l : List Version). c.loop-version.version-index < length l) versions c.loop-version-test.true)
    (c.version-item.is ∙ ap (λ (l : List Version). get_or l c.loop-version.version-index c.version-item.result) versions)
    c.if-item-commit.true c.loop-version.invariant

pub returns : goal.returns
returns c =
    let versions : c.deref-version-items.result.now ≡ c.args.versions.now.items = c.deref-version-items.ensures.value in
    version_along_all c.args.versions.now.items (place_of c.args.item.now) c.loop-version.version-index c.loop-version.moment
    (subst (λ (l : List Version). length l ≤ c.loop-version.version-index) versions c.loop-version-test.false) c.loop-version.invariant
