use Rattle.std.proofs.Common.{◌∙◌, codes, decimal}
use Rattle.std.proofs.lemmas.Result.{IfOk-weaker}
use Rattle.dblog_stores.proofs.OffsetTexts.{numbers_regroup}
use Rattle.dblog_stores.proofs.offsets.numbers_text.Goals as goal

pub returns : goal.returns
returns c =
    let o = c.args.offset.now in
    IfOk-weaker c.format.result _ _ (λ s h. h ∙ numbers_regroup (codes "incarnation ") (decimal o.incarnation) (codes "start ") (decimal o.start.0) (codes "position ") (decimal o.lsn.0)) c.format.ensures.ok
