use Rattle.std.proofs.Common.{◌≡◌, ◌∙◌, ◌+◌, ◌<◌, List, [], ◌∷◌, ◌++◌, length, take, drop, get_or, refl, sym, ap, subst, arith}
use Rattle.std.proofs.Math.Facts.{to_z-of_z}
use Rattle.std.proofs.lemmas.List.{take_more, take_all, take-append-drop}
use Rattle.std.proofs.lemmas.Result.{err_from_is_err_and}
use Rattle.dbl_model_table.specs.declared.change.Change.{Change}
use Rattle.dbl_model_table.specs.declared.table.TableInfo.{TableInfo}
use Rattle.dbl_model_table.specs.Heads.{commit_by, ended_at}
use Rattle.dbl_model_history.specs.FitsInfos.{FitsInfos}
use Rattle.dbl_follow.specs.Faults.{IsClashOf}
use Rattle.dbl_follow.specs.Followed.{Following}
use Rattle.dbl_follow.specs.Steps.{clash_by}
use Rattle.dbl_follow.proofs.AmidLemmas.{amid_begins, amid_same, clash_longer, ends_same, heads_fit}
use Rattle.dbl_follow.proofs.follower.Follower.follow_changes.Goals as goal

pub loop-change-init : goal.loop-change-init
loop-change-init c = amid_same refl (sym c.new-records.ensures.items) (amid_begins c.args.self.now c.args.head.now _ c.requires.none)

pub change-requires-clause-head : goal.change-requires-clause-head
change-requires-clause-head c =
    heads_fit c.args.self.now c.loop-change.self c.args.head.now
    (take c.loop-change.change-index c.args.changes.now.items) _ c.loop-change.records.items c.loop-change.invariant

pub change-requires-clause-fits : goal.change-requires-clause-fits
change-requires-clause-fits c =
    let i = c.loop-change.change-index in
    let item = c.change-item.result in
    let changes = c.args.changes.now.items in
    let items : c.deref-change-items.result.now ≡ changes = c.deref-change-items.ensures.value in
    let lt : i < length changes = subst (λ (l : List Change). i < length l) items c.loop-change-test.true in
    let is : item ≡ get_or changes i item = c.change-item.is ∙ ap (λ (l : List Change). get_or l i item) items in
    let infos : c.loop-change.self.infos ≡ c.args.self.now.infos = ap (λ (f : Following). f.infos) c.loop-change.invariant.same in
    subst (λ (l : List TableInfo). FitsInfos l item) (sym infos) (subst (FitsInfos c.args.self.now.infos) (sym is) (c.requires.fits i item lt))

pub loop-change-preserved : goal.loop-change-preserved
loop-change-preserved c =
    let i = c.loop-change.change-index in
    let item = c.change-item.result in
    let changes = c.args.changes.now.items in
    let items : c.deref-change-items.result.now ≡ changes = c.deref-change-items.ensures.value in
    let lt : i < length changes = subst (λ (l : List Change). i < length l) items c.loop-change-test.true in
    let is : item ≡ get_or changes i item = c.change-item.is ∙ ap (λ (l : List Change). get_or l i item) items in
    let taken : take (i + 1) changes ≡ take i changes ++ item ∷ [] = take_more changes i item lt ∙ ap (λ (x : Change). take i changes ++ x ∷ []) (sym is) in
    amid_same (sym taken) (sym c.in_ok-append.ensures.items)
    (c.in_ok-more.ensures.follows c.args.self.now (take i changes) _ c.loop-change.records.items c.loop-change.invariant (λ none. refl))

pub returns-in_err-more-clause-err : goal.returns-in_err-more-clause-err
returns-in_err-more-clause-err c =
    let i = c.loop-change.change-index in
    let item = c.change-item.result in
    let changes = c.args.changes.now.items in
    let items : c.deref-change-items.result.now ≡ changes = c.deref-change-items.ensures.value in
    let lt : i < length changes = subst (λ (l : List Change). i < length l) items c.loop-change-test.true in
    let is : item ≡ get_or changes i item = c.change-item.is ∙ ap (λ (l : List Change). get_or l i item) items in
    let taken : take (i + 1) changes ≡ take i changes ++ item ∷ [] = take_more changes i item lt ∙ ap (λ (x : Change). take i changes ++ x ∷ []) (sym is) in
    let whole : (take i changes ++ item ∷ []) ++ drop (i + 1) changes ≡ changes = ap (λ (l : List Change). l ++ drop (i + 1) changes) (sym taken)
    ∙ take-append-drop (i + 1) changes in
    let p = err_from_is_err_and c.from_residual.result c.from_residual.ensures.1 in
    rw (p.1, p.2) (subst (λ (l : List Change). IsClashOf
    (clash_by c.args.self.now (commit_by (ended_at c.args.head.now c.args.end_lsn) l)) c.in_err-more.field-0.0) whole
    (clash_longer c.args.self.now c.args.head.now c.args.end_lsn (take i changes ++ item ∷ []) (drop (i + 1) changes) c.in_err-more.field-0.0
    (c.in_err-more.ensures.err c.args.self.now (take i changes) _ c.loop-change.records.items c.loop-change.invariant)))

pub end-requires-clause-head : goal.end-requires-clause-head
end-requires-clause-head c =
    heads_fit c.args.self.now c.loop-change.self c.args.head.now (take c.loop-change.change-index c.args.changes.now.items) _
    c.loop-change.records.items c.loop-change.invariant

pub returns-clause-ends : goal.returns-clause-ends
returns-clause-ends c =
    let old = c.args.self.now in
    let changes = c.args.changes.now.items in
    let items : c.deref-change-items.result.now ≡ changes = c.deref-change-items.ensures.value in
    let all : take c.loop-change.change-index changes ≡ changes =
    take_all c.loop-change.change-index changes (omega (arith, c.loop-change-test.false, ap length items)) in
    ends_same (to_z-of_z c.ranges.now_ms) (sym c.in_ok-append-2.ensures.items)
    (c.in_ok-last.ensures.ends old changes _ c.loop-change.records.items (amid_same all refl c.loop-change.invariant) (λ none. refl))

pub returns-in_err-last-clause-err : goal.returns-in_err-last-clause-err
returns-in_err-last-clause-err c =
    let old = c.args.self.now in
    let changes = c.args.changes.now.items in
    let items : c.deref-change-items.result.now ≡ changes = c.deref-change-items.ensures.value in
    let all : take c.loop-change.change-index changes ≡ changes =
    take_all c.loop-change.change-index changes (omega (arith, c.loop-change-test.false, ap length items)) in
    let p = err_from_is_err_and c.from_residual-in_err-last.result c.from_residual-in_err-last.ensures.1 in
    rw (p.1, p.2) (c.in_err-last.ensures.err old changes _ c.loop-change.records.items (amid_same all refl c.loop-change.invariant))
