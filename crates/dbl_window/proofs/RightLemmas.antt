-- Windows are right: rows that were selected between two watermarks stay so, and then the promise speaks.
use Rattle.std.proofs.Common.{◌≡◌, ◌∙◌, ◌+◌, ◌≤◌, ℕ, suc, Some, List, ◌∷◌, ◌++◌, length, sym, ap, subst, arith, length-append, append_assoc}
use Rattle.std.specs.Prelude.{slice_get}
use Rattle.dbl_model_table.specs.declared.table.TableInfo.{TableInfo}
use Rattle.dbl_model_table.specs.Rows.{Rows, all_changes}
use Rattle.dbl_model_history.specs.History.{RawCommit, History}
use Rattle.dbl_model_history.specs.KeyedRows.{AreFirst}
use Rattle.dbl_model_history.specs.Typed.{typed}
use Rattle.dbl_consume_laws.specs.Windows.{IsRightWindow}
use Rattle.dbl_source.specs.SourceModel.Growth.{Marks}
use Rattle.dbl_source.specs.SourceModel.Selected.{rows_up_to}
use Rattle.dbl_window.specs.Plans.{Plan, Chunk}
use Rattle.dbl_window.specs.Promise.{moment_after_first}
use Rattle.dbl_window.specs.RightLaws.{ExtendsHistory, upto_mark, WasSelected, WindowsAreRight}
use Rattle.dbl_window.proofs.LawLemmas.{given_by, rows_stay}

-- ---- how a history goes on

goes_on_again : (a b c : History) → ExtendsHistory a b → ExtendsHistory b c → ExtendsHistory a c
goes_on_again a b c one two = (one.0 ++ two.0, two.1 ∙ (ap (λ (l : List RawCommit). l ++ two.0) one.1 ∙ append_assoc a.commits one.0 two.0))

marked_on : (value : List ℕ) (old new : History) → Marks value old new → ExtendsHistory old new
marked_on value old new marks = (marks.before ++ marks.mark ∷ marks.after, marks.commits ∙ append_assoc old.commits marks.before (marks.mark ∷ marks.after))

longer : (old new : History) → ExtendsHistory old new → length old.commits ≤ length new.commits
longer old new on =
    let long : length new.commits ≡ length old.commits + length on.0 = ap length on.1 ∙ length-append old.commits on.0 in
    omega (arith, long)

-- a watermark is one of its history's commits
counted : (value : List ℕ) (old new : History) → (marks : Marks value old new) → length old.commits + length marks.before + 1 ≤ length new.commits
counted value old new marks =
    let front : length (old.commits ++ marks.before) ≡ length old.commits + length marks.before = length-append old.commits marks.before in
    let long : length new.commits ≡ length (old.commits ++ marks.before) + suc (length marks.after) =
    ap length marks.commits ∙ length-append (old.commits ++ marks.before) (marks.mark ∷ marks.after) in
    omega (arith, front, long)

-- ---- what was selected between the watermarks

module _ (infos : List TableInfo) (now : History) (held : Chunk) (was : WasSelected infos now held) where
  since : ExtendsHistory was.returned now
  since = goes_on_again was.returned was.asked now was.before_high (goes_on_again was.asked was.last now (marked_on _ was.asked was.last was.high) was.after_high)

  below : upto_mark was.low ≤ length was.called.commits
  below =
      let one : length was.first.commits + length was.low.before + 1 ≤ length was.marked.commits = counted _ was.first was.marked was.low in
      let two : length was.marked.commits ≤ length was.called.commits = longer was.marked was.called was.after_low in
      omega (arith, one, two)

  above : length was.returned.commits ≤ upto_mark was.high
  above =
      let le : length was.returned.commits ≤ length was.asked.commits = longer was.returned was.asked was.before_high in
      omega (arith, le)

  -- the rows are of a place between the watermarks
  place_above : upto_mark was.low ≤ was.selected.place
  place_above =
      let le : length was.called.commits ≤ was.selected.place = was.selected.not_before in
      omega (arith, le, below)

  place_below : was.selected.place ≤ upto_mark was.high
  place_below =
      let le : was.selected.place ≤ length was.returned.commits = was.selected.not_after in
      omega (arith, le, above)

  -- and the history still has them there
  first_still : AreFirst held.plan.info (rows_up_to infos now was.selected.place held.plan.table) held.plan.above held.plan.limit held.rows
  first_still =
      subst (λ (at : Rows). AreFirst held.plan.info (at held.plan.table) held.plan.above held.plan.limit held.rows)
      (sym (rows_stay infos was.returned now since.0 was.selected.place since.1 was.selected.not_after)) was.selected.first

pub windows_right : WindowsAreRight
windows_right infos now held opened closed was captured same left keeps =
    subst (λ (p : Plan). IsRightWindow infos (all_changes (typed infos now)) (moment_after_first (typed infos now) (upto_mark was.low))
    (moment_after_first (typed infos now) (upto_mark was.high)) p.above closed) plan_is
    (keeps infos (typed infos now) (upto_mark was.low) (upto_mark was.high) (subst (λ (p : Plan). slice_get infos p.table ≡ Some p.info) (sym plan_is) captured)
    (given_by infos now (upto_mark was.low) (upto_mark was.high) was.selected.place held opened (place_above infos now held was) (place_below infos now held was) (first_still infos now held was)
    was.selected.through_is was.selected.done_is plan_is
    (ap (λ (c : Chunk). c.through) same) (ap (λ (c : Chunk). c.done) same) left))
  where
    plan_is : opened.plan ≡ held.plan
    plan_is = ap (λ (c : Chunk). c.plan) same
