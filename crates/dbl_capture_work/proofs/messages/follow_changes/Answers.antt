use Rattle.std.proofs.Common.{◌≡◌, ◌∙◌, ◌+◌, ◌<◌, Option, Some, None, List, [], ◌∷◌, ◌++◌, length, take, drop, get_or, refl, sym, ap, subst, arith, rules, append_assoc, append-nil, of_z, to_z, w64}
use Rattle.std.proofs.Math.Facts.{to_z-of_z}
use Rattle.std.proofs.lemmas.List.{take_more, take_all, take-append-drop}
use Rattle.std.proofs.lemmas.Result.{err_from_is_err_and}
use Rattle.dbl_record.specs.declared.record.Record.{Record}
use Rattle.dbl_model_table.specs.declared.change.Change.{Change}
use Rattle.dbl_model_table.specs.declared.change.Head.{Head}
use Rattle.dbl_model_table.specs.declared.table.TableInfo.{TableInfo}
use Rattle.dbl_model_history.specs.FitsInfos.{FitsInfos}
use Rattle.dbl_model_commit.specs.Pieces.{changes_so_far}
use Rattle.dbl_follow.specs.Followed.{Following}
use Rattle.dbl_follow.proofs.AmidLemmas.{amid_same, heads_fit}
use Rattle.dbl_capture_work.specs.declared.work.SessionState.{SessionState}
use Rattle.dbl_capture_work.specs.Groups.{records_in}
use Rattle.dbl_capture_work.proofs.OpenLemmas.{after_message, at_head, goes_on, refused_so}
use Rattle.dbl_capture_work.proofs.messages.follow_changes.Goals as goal

pub unreachable-requires : goal.unreachable-requires
unreachable-requires c =
    let work = c.args.work.now in
    let s = c.requires in
    let goes = goes_on work.offset.infos s.after s.messages c.args.changes.now s.is.some s.message s.is.clean s.is.states in
    let wrong : ◌≡◌ {A = Option Head} None (Some goes.inside.head) = sym c.in_default.is ∙ (c.head.ensures work.offset.infos s.after (s.message ∷ s.messages) [] s.is.stands ∙ (goes.same ∙ goes.inside.begun)) in
    cc

pub loop-change-init : goal.loop-change-init
loop-change-init c = record {
  same = refl;
  amid = λ start before released is. amid_same (sym (append-nil before)) (sym (ap (λ (l : List Record). released ++ l) c.new-records.ensures.items ∙ append-nil released)) is;
}

pub change-requires-clause-head : goal.change-requires-clause-head
change-requires-clause-head c =
    let work = c.args.work.now in
    let s = c.requires in
    let goes = goes_on work.offset.infos s.after s.messages c.args.changes.now s.is.some s.message s.is.clean s.is.states in
    let begun = sym (c.head.ensures work.offset.infos s.after (s.message ∷ s.messages) [] s.is.stands) ∙ c.in-Some.is in
    let amid = at_head s.message s.messages s.ahead.start _ work c.in-Some.head goes begun s.ahead.is.amid in
    heads_fit s.ahead.start c.loop-change.work.follower c.in-Some.head _ work.now_ms _ (c.loop-change.invariant.amid s.ahead.start _ _ amid)

pub change-requires-clause-fits : goal.change-requires-clause-fits
change-requires-clause-fits c =
    let work = c.args.work.now in
    let s = c.requires in
    let i = c.loop-change.change-index in
    let item = c.change-item.result in
    let changes = c.args.changes.now in
    let items : c.deref-change-items.result.now ≡ changes = c.deref-change-items.ensures.value ∙ c.items-list.ensures in
    let lt : i < length changes = subst (λ (l : List Change). i < length l) items c.loop-change-test.true in
    let is : item ≡ get_or changes i item = c.change-item.is ∙ ap (λ (l : List Change). get_or l i item) items in
    let goes = goes_on work.offset.infos s.after s.messages changes s.is.some s.message s.is.clean s.is.states in
    let begun = sym (c.head.ensures work.offset.infos s.after (s.message ∷ s.messages) [] s.is.stands) ∙ c.in-Some.is in
    let amid = at_head s.message s.messages s.ahead.start (s.ahead.put ++ records_in work.batch) work c.in-Some.head goes begun s.ahead.is.amid in
    let here = c.loop-change.invariant.amid s.ahead.start (changes_so_far work.offset.infos s.messages) (s.ahead.put ++ records_in work.batch) amid in
    let infos : c.loop-change.work.follower.infos ≡ work.follower.infos = ap (λ (f : Following). f.infos) here.same ∙ sym (ap (λ (f : Following). f.infos) amid.same) in
    subst (λ (l : List TableInfo). FitsInfos l item) (sym (infos ∙ s.infos)) (subst (FitsInfos work.offset.infos) (sym is) (s.fits i item lt))

pub loop-change-preserved : goal.loop-change-preserved
loop-change-preserved c =
    let work = c.args.work.now in
    let i = c.loop-change.change-index in
    let item = c.change-item.result in
    let changes = c.args.changes.now in
    let items : c.deref-change-items.result.now ≡ changes = c.deref-change-items.ensures.value ∙ c.items-list.ensures in
    let lt : i < length changes = subst (λ (l : List Change). i < length l) items c.loop-change-test.true in
    let is : item ≡ get_or changes i item = c.change-item.is ∙ ap (λ (l : List Change). get_or l i item) items in
    let taken : take (i + 1) changes ≡ take i changes ++ item ∷ [] = take_more changes i item lt ∙ ap (λ (x : Change). take i changes ++ x ∷ []) (sym is) in
    let loop = c.loop-change.work in
    let time : to_z w64 (of_z w64 loop.now_ms) ≡ work.now_ms = to_z-of_z {w = w64} {z = loop.now_ms} (search rules) ∙ ap (λ (w : SessionState). w.now_ms) c.loop-change.invariant.same in
    record {
      same = ap (λ (w : SessionState). record w { follower = c.change.new.self }) c.loop-change.invariant.same;
      amid = λ start before released first.
          amid_same (append_assoc before (take i changes) (item ∷ []) ∙ ap (λ (l : List Change). before ++ l) (sym taken))
          (append_assoc released c.loop-change.records.items c.in_ok-more.more.items ∙ ap (λ (l : List Record). released ++ l) (sym c.in_ok-append.ensures.items))
          (c.in_ok-more.ensures.follows start (before ++ take i changes) work.now_ms (released ++ c.loop-change.records.items) (c.loop-change.invariant.amid start before released first) (λ none. sym time));
    }

pub returns-in_err-more-clause-halt : goal.returns-in_err-more-clause-halt
returns-in_err-more-clause-halt c after m ms start released stated follows =
    let work = c.args.work.now in
    let i = c.loop-change.change-index in
    let item = c.change-item.result in
    let changes = c.args.changes.now in
    let items : c.deref-change-items.result.now ≡ changes = c.deref-change-items.ensures.value ∙ c.items-list.ensures in
    let lt : i < length changes = subst (λ (l : List Change). i < length l) items c.loop-change-test.true in
    let is : item ≡ get_or changes i item = c.change-item.is ∙ ap (λ (l : List Change). get_or l i item) items in
    let taken : take (i + 1) changes ≡ take i changes ++ item ∷ [] = take_more changes i item lt ∙ ap (λ (x : Change). take i changes ++ x ∷ []) (sym is) in
    let before = changes_so_far work.offset.infos ms in
    let whole : ((before ++ take i changes) ++ item ∷ []) ++ drop (i + 1) changes ≡ before ++ changes =
    ap (λ (l : List Change). l ++ drop (i + 1) changes) (append_assoc before (take i changes) (item ∷ []) ∙ ap (λ (l : List Change). before ++ l) (sym taken))
    ∙ (append_assoc before (take (i + 1) changes) (drop (i + 1) changes) ∙ ap (λ (l : List Change). before ++ l) (take-append-drop (i + 1) changes)) in
    let p = err_from_is_err_and c.from_residual.result c.from_residual.ensures.1 in
    let goes = goes_on work.offset.infos after ms changes stated.some m stated.clean stated.states in
    let begun = sym (c.head.ensures work.offset.infos after (m ∷ ms) [] stated.stands) ∙ c.in-Some.is in
    let amid = at_head m ms start released work c.in-Some.head goes begun follows in
    let here = c.loop-change.invariant.amid start before released amid in
    let refused = c.in_err-more.ensures.err start (before ++ take i changes) work.now_ms (released ++ c.loop-change.records.items) here in
    rw (p.1, p.2) (refused_so start c.in-Some.head work.offset.infos after m ms changes ((before ++ take i changes) ++ item ∷ []) (drop (i + 1) changes) c.in_err-more.field-0.0 stated.some stated.clean stated.states whole refused)

pub returns-clause-follows : goal.returns-clause-follows
returns-clause-follows c after m ms start released stated follows =
    let work = c.args.work.now in
    let changes = c.args.changes.now in
    let items : c.deref-change-items.result.now ≡ changes = c.deref-change-items.ensures.value ∙ c.items-list.ensures in
    let all : take c.loop-change.change-index changes ≡ changes = take_all c.loop-change.change-index changes (omega (arith, c.loop-change-test.false, ap length items)) in
    let goes = goes_on work.offset.infos after ms changes stated.some m stated.clean stated.states in
    let begun = sym (c.head.ensures work.offset.infos after (m ∷ ms) [] stated.stands) ∙ c.in-Some.is in
    let amid = at_head m ms start released work c.in-Some.head goes begun follows in
    let here = c.loop-change.invariant.amid start _ released amid in
    after_message after m ms changes start _ work c.loop-change.work c.in-Some.head stated.some stated.clean stated.states begun c.loop-change.invariant.same
    (amid_same (ap (λ (l : List Change). changes_so_far work.offset.infos ms ++ l) all) refl here)
