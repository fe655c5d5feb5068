use Rattle.std.proofs.Common.{◌≡◌, ◌+◌, ℕ, List, refl, sym, subst, arith}
use Rattle.dbl_model_history.specs.declared.cursor.Cursor.{Cursor}
use Rattle.dbl_capture_work.specs.Begins.{AreUnread}
use Rattle.dbl_capture_work.proofs.Describing.{unread_push}
use Rattle.dbl_capture_work.proofs.begin.unread_cursors.Goals as goal

pub loop-table-init : goal.loop-table-init
loop-table-init c = subst (λ (l : List Cursor). AreUnread 0 l) (sym c.in_ok-cursors.ensures.items) (record { many = refl; each = tt })

pub loop-table-preserved : goal.loop-table-preserved
loop-table-preserved c =
    subst (λ (l : List Cursor). AreUnread (c.loop-table._table + 1) l) (sym c.in_ok-push.ensures.items) (unread_push c.loop-table._table c.loop-table.cursors.items _ c.loop-table.invariant (refl, refl))

pub returns : goal.returns
returns c =
    let all : c.loop-table._table ≡ c.args.count = omega arith in
    subst (λ (n : ℕ). AreUnread n c.loop-table.cursors.items) all c.loop-table.invariant
