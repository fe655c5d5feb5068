use Rattle.std.proofs.Common.{◌∙◌, ap, codes, sym}
use Rattle.std.proofs.lemmas.Result.{IfOk-weaker}
use Rattle.dblog_stores.specs.Answers.{last_text}
use Rattle.dblog_stores.proofs.OffsetTexts.{done_line, key_long, open_line}
use Rattle.dblog_stores.proofs.offsets.table_text.Goals as goal

pub key_text-requires : goal.key_text-requires
key_text-requires c = key_long c.args.info.now c.in-Some.key (rw c.in-Some.is at c.requires)

pub returns-then-cursor : goal.returns-then-cursor
returns-then-cursor c = IfOk-weaker c.format.result _ _ (λ s h. h ∙ done_line c.args.info.now c.args.cursor.now c.if-cursor.true) c.format.ensures.ok

pub returns-in_ok-last-in-Some : goal.returns-in_ok-last-in-Some
returns-in_ok-last-in-Some c =
    IfOk-weaker c.format-in-Some.result _ _
    (λ s h. h ∙ open_line c.args.info.now c.args.cursor.now c.in_ok-last-in-Some.last c.if-cursor.false (ap (last_text c.args.info.now) c.in-Some.is ∙ sym c.in_ok-last-in-Some.ensures)) c.format-in-Some.ensures.ok

pub returns-in-None : goal.returns-in-None
returns-in-None c =
    IfOk-weaker c.format-in-None.result _ _ (λ s h. h ∙ open_line c.args.info.now c.args.cursor.now (codes "null") c.if-cursor.false (ap (last_text c.args.info.now) c.in-None.is)) c.format-in-None.ensures.ok
