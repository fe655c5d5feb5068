use Rattle.std.proofs.Common.{◌∙◌, List, sym, ap}
use Rattle.std.proofs.lemmas.Result.{on_ok_weaker}
use Rattle.std.specs.Prelude.{slice_set}
use Rattle.dbl_envelope.specs.Writers.{Captured}
use Rattle.dbl_model_table.specs.declared.table.TableInfo.{TableInfo}
use Rattle.dbl_txn_changes.proofs.Captured.{captured, uncaptured}
use Rattle.dblog_replay.specs.Altered.{set_from}
use Rattle.dblog_replay.proofs.replay.reshape_from.Goals as goal

pub returns-in_ok-copied-in-Some-clause-reshaped : goal.returns-in_ok-copied-in-Some-clause-reshaped
returns-in_ok-copied-in-Some-clause-reshaped c =
    let old = c.args.writer.now in
    let table = c.args.table in
    let found = captured c.args.infos.now.items c.deref.result.now table c.in-Some.info.now c.deref.ensures.value c.in-Some.ensures.lookup.0
    c.in-Some.ensures.lookup.1 in
    on_ok_weaker c.reshape_in.result (λ is. is ∙ ap (λ (l : List TableInfo). let w : Captured = record old { infos = l } in w)
    (ap (slice_set old.infos table) c.in_ok-copied-in-Some.ensures ∙ sym (ap (set_from table old.infos) found))) c.reshape_in.ensures.reshaped

pub returns-in-None-clause-reshaped : goal.returns-in-None-clause-reshaped
returns-in-None-clause-reshaped c =
    let old = c.args.writer.now in
    let none = uncaptured c.args.infos.now.items c.deref.result.now c.args.table c.deref.ensures.value c.in-None.ensures.lookup.0 in
    sym (ap (λ (l : List TableInfo). let w : Captured = record old { infos = l } in w) (ap (set_from c.args.table old.infos) none))
