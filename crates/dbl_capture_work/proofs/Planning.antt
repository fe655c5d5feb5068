-- What the next window of a table is to read, where the table is open.
use Rattle.std.proofs.Common.{◌≡◌, ◌∙◌, ◌+◌, ◌<◌, ℕ, zero, suc, Option, Some, None, List, [], ◌∷◌, length, refl, sym, ap, subst}
use Rattle.std.specs.Prelude.{IfSome, slice_get}
use Rattle.dbl_model_table.specs.declared.table.TableInfo.{TableInfo}
use Rattle.dbl_model_table.proofs.Lists.{slice_get-lt}
use Rattle.dbl_model_history.specs.declared.cursor.Cursor.{Cursor}
use Rattle.dbl_model_history.specs.Cursors.{AreCursorsOf, IsCursorOf}
use Rattle.dbl_model_history.specs.Fit.{IsKeyOf}
use Rattle.dbl_follow.specs.Followed.{IsPlanOfCaptured}
use Rattle.dbl_window.specs.Plans.{Plan}
use Rattle.dbl_capture_work.specs.declared.work.SessionState.{SessionState}
use Rattle.dbl_capture_work.specs.Works.{IsOpenTable, HasReadyWork, plan_at, plan_with}
use Rattle.dbl_capture_work.proofs.Ahead.{ready_cursors}

-- a table with a cursor is captured
info_at_cursor : (infos : List TableInfo) (cursors : List Cursor) (table : ℕ) (cursor : Cursor) → AreCursorsOf infos cursors → slice_get cursors table ≡ Some cursor
    → (info : TableInfo) × (slice_get infos table ≡ Some info) × IsCursorOf info cursor
info_at_cursor [] [] table cursor are at = cc
info_at_cursor [] (c ∷ cursors) table cursor are at = absurd are
info_at_cursor (info ∷ infos) [] table cursor are at = absurd are
info_at_cursor (info ∷ infos) (c ∷ cursors) zero cursor are at = let same : c ≡ cursor = cc in (info, refl, subst (IsCursorOf info) same are.0)
info_at_cursor (info ∷ infos) (c ∷ cursors) (suc table) cursor are at = info_at_cursor infos cursors table cursor are.1 at

pub as_many_cursors : (infos : List TableInfo) (cursors : List Cursor) → AreCursorsOf infos cursors → length cursors ≡ length infos
as_many_cursors [] [] are = refl
as_many_cursors [] (c ∷ cursors) are = absurd are
as_many_cursors (info ∷ infos) [] are = absurd are
as_many_cursors (info ∷ infos) (c ∷ cursors) are = ap suc (as_many_cursors infos cursors are.1)

-- the key after which a table's snapshot has come is of the table's key types
pub cursor_key : (infos : List TableInfo) (cursors : List Cursor) (table : ℕ) (info : TableInfo) (cursor : Cursor) → AreCursorsOf infos cursors → slice_get infos table ≡ Some info → slice_get cursors table ≡ Some cursor
    → IfSome cursor.last (IsKeyOf info)
cursor_key infos cursors table info cursor are here at =
    let found = info_at_cursor infos cursors table cursor are at in
    let same : found.0 ≡ info = cc (found.1, here) in
    subst (λ (i : TableInfo). IfSome cursor.last (IsKeyOf i)) same found.2

-- an open table is captured, and its next window has a plan
pub record IsPlannedAt (work : SessionState) (table : ℕ) : Type 0 where
  pub info : TableInfo
  pub info_is : slice_get work.offset.infos table ≡ Some info
  pub within : table < length work.offset.infos
  pub plan : Plan
  pub plan_is : plan_at work table ≡ Some plan

pub planned_at : (work : SessionState) (table : ℕ) → HasReadyWork work → IsOpenTable work table → IsPlannedAt work table
planned_at work table ready unread =
    let here = info_at_cursor work.offset.infos work.follower.cursors table unread.cursor (ready_cursors work ready) unread.cursor_is in
    record {
      info = here.0;
      info_is = here.1;
      within = slice_get-lt work.offset.infos table here.0 here.1;
      plan = record { info = here.0; table = table; above = unread.cursor.last; limit = work.chunk; incarnation = work.offset.incarnation; number = work.number + 1; version = 1 };
      plan_is = ap (λ (o : Option TableInfo). plan_with work table o (slice_get work.follower.cursors table)) here.1 ∙ ap (λ (o : Option Cursor). plan_with work table (Some here.0) o) unread.cursor_is;
    }

-- the plan is of the table that is captured there
planned_with : (work : SessionState) (table : ℕ) (info : Option TableInfo) (cursor : Option Cursor) (plan : Plan) → slice_get work.offset.infos table ≡ info → plan_with work table info cursor ≡ Some plan
    → IsPlanOfCaptured work.offset.infos plan
planned_with work table None cursor plan here is = cc
planned_with work table (Some info) None plan here is = cc
planned_with work table (Some info) (Some cursor) plan here is =
    let same : plan ≡ record { info = info; table = table; above = cursor.last; limit = work.chunk; incarnation = work.offset.incarnation; number = work.number + 1; version = 1 } = cc in
    subst (IsPlanOfCaptured work.offset.infos) (sym same) here

pub plan_planned : (work : SessionState) (table : ℕ) (plan : Plan) → plan_at work table ≡ Some plan → IsPlanOfCaptured work.offset.infos plan
plan_planned work table plan is = planned_with work table (slice_get work.offset.infos table) (slice_get work.follower.cursors table) plan refl is

-- its table's name is that of the info there
pub plan_info : (work : SessionState) (table : ℕ) (info : TableInfo) (plan : Plan) → slice_get work.offset.infos table ≡ Some info → plan_at work table ≡ Some plan → plan.info ≡ info
plan_info work table info plan here is = by (slice_get work.follower.cursors table) (ap (λ (o : Option TableInfo). plan_with work table o (slice_get work.follower.cursors table)) (sym here) ∙ is)
  where
    by : (cursor : Option Cursor) → plan_with work table (Some info) cursor ≡ Some plan → plan.info ≡ info
    by None is = cc
    by (Some cursor) is =
        let same : plan ≡ record { info = info; table = table; above = cursor.last; limit = work.chunk; incarnation = work.offset.incarnation; number = work.number + 1; version = 1 } = cc in
        ap (λ (p : Plan). p.info) same

pub plan_made : (work : SessionState) (table : ℕ) (info : TableInfo) (cursor : Cursor) (plan : Plan) → slice_get work.offset.infos table ≡ Some info → slice_get work.follower.cursors table ≡ Some cursor
    → plan ≡ record { info = info; table = table; above = cursor.last; limit = work.chunk; incarnation = work.offset.incarnation; number = work.number + 1; version = 1 } → plan_at work table ≡ Some plan
plan_made work table info cursor plan here at is =
    ap (λ (o : Option TableInfo). plan_with work table o (slice_get work.follower.cursors table)) here
    ∙ (ap (λ (o : Option Cursor). plan_with work table (Some info) o) at ∙ ap (λ (p : Plan). Some p) (sym is))
