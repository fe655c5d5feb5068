use Rattle.std.proofs.Common.{◌∙◌, List, sym, ap, subst}
use Rattle.std.proofs.lemmas.Result.{IfOk-weaker}
use Rattle.dbl_model_history.specs.declared.cursor.Cursor.{Cursor}
use Rattle.dbl_offset_content.specs.declared.offset.Offset.{Offset}
use Rattle.dbl_offset.specs.Offsets.{IsOffset}
use Rattle.dbl_capture_work.proofs.Ahead.{ready_offset}
use Rattle.dbl_capture_work.proofs.work.SessionState.next_offset.Goals as goal

pub returns-clause-asked : goal.returns-clause-asked
returns-clause-asked c =
    let work = c.args.self.now in
    IfOk-weaker c.with_cursors.result _ _
    (λ offset is. subst IsOffset (sym (is ∙ ap (λ (l : List Cursor). (let o : Offset = record work.offset { cursors = l } in o))
    (c.in_ok-cursors.ensures ∙ c.cursors.ensures.cursors))) (ready_offset work c.requires)) c.with_cursors.ensures
