use Rattle.std.proofs.Common.{◌≡◌, ◌∙◌, ◌<◌, ◌≤◌, ◌-◌, ◌^◌, ℕ, List, length, min, get_or, sym, ap, subst}
use Rattle.dbl_model_table.specs.Rows.{changes_of}
use Rattle.cases_courses.specs.declared.versions.Version.{Version}
use Rattle.cases_courses.proofs.VersionLemmas.{versions_point, counted_past, counted_end}
use Rattle.cases_courses.proofs.version_moments.position_moment.Goals as goal

pub returns-then-position-version : goal.returns-then-position-version
returns-then-position-version c =
    let versions : c.deref-version-items.result.now ≡ c.args.versions.now.items = c.deref-version-items.ensures.value in
    counted_past (λ (x : Version). x.commit.lsn.0) (λ (x : Version). length (changes_of x.commit)) c.args.position c.args.versions.now.items c.loop-version.version-index c.loop-version.moment c.version-item.result
    (subst (λ (l : List Version). c.loop-version.version-index < length l) versions c.loop-version-test.true)
    (c.version-item.is ∙ ap (λ (l : List Version). get_or l c.loop-version.version-index c.version-item.result) versions)
    c.if-position-version.true c.loop-version.invariant
    ∙ sym (ap (λ (n : ℕ). min n (2 ^ 64 - 1)) (versions_point c.args.position c.args.versions.now.items))

pub returns : goal.returns
returns c =
    let versions : c.deref-version-items.result.now ≡ c.args.versions.now.items = c.deref-version-items.ensures.value in
    counted_end (λ (x : Version). x.commit.lsn.0) (λ (x : Version). length (changes_of x.commit)) c.args.position c.args.versions.now.items c.loop-version.version-index c.loop-version.moment
    (subst (λ (l : List Version). length l ≤ c.loop-version.version-index) versions c.loop-version-test.false) c.loop-version.invariant
    ∙ sym (ap (λ (n : ℕ). min n (2 ^ 64 - 1)) (versions_point c.args.position c.args.versions.now.items))
