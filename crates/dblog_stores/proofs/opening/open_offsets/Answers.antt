use Rattle.dblog_stores.proofs.ErrorLaws.{no_offset_told, offset_failed, offset_kind, offset_tells}
use Rattle.dblog_stores.proofs.Kept.{keeps_failed}
use Rattle.dblog_stores.proofs.opening.open_offsets.Goals as goal

pub returns-in-Err-clause-refused : goal.returns-in-Err-clause-refused
returns-in-Err-clause-refused g c bytes told = no_offset_told bytes c.in-Err.field-0.error c.from.result c.from.ensures (λ at. c.in-Err.ensures.not_a_store bytes at told) (λ index. c.in-Err.ensures.bad_offset bytes index told)

pub returns-in-Err-clause-kinds : goal.returns-in-Err-clause-kinds
returns-in-Err-clause-kinds g c = offset_kind c.in-Err.field-0.error c.from.result c.from.ensures

pub returns-in-Ok-clause-keeps : goal.returns-in-Ok-clause-keeps
returns-in-Ok-clause-keeps g c = c.in-Ok.ensures.keeps

pub returns-in-Err-clause-keeps : goal.returns-in-Err-clause-keeps
returns-in-Err-clause-keeps g c =
    let k = c.in-Err.ensures.keeps in
    keeps_failed g.D.Disk _ c.args.disk c.in-Err.field-0.disk k.same k.crash k.later (λ f. k.cause (offset_failed c.in-Err.field-0.error c.from.result c.from.ensures f))
    (λ n. k.steady (λ e. n (offset_tells c.in-Err.field-0.error c.from.result c.from.ensures e)))

pub returns-in-Err-clause-stable : goal.returns-in-Err-clause-stable
returns-in-Err-clause-stable g c = λ other bytes told. c.in-Err.ensures.stable bytes told (λ e. other (offset_tells c.in-Err.field-0.error c.from.result c.from.ensures e))
