use Rattle.std.proofs.Common.{Bool, refl, sym, ◌∙◌, ap, inl, inr}
use Rattle.std.proofs.lemmas.Result.{err_from_is_err_and}
use Rattle.dbl_stream2.specs.declared.error.StreamError.TheVariants.{NotStreaming}
use Rattle.dbl_stream2.specs.Flat.{error_if}
use Rattle.dbl_stream2.proofs.Steps.{aborted_whole, aborted_part}
use Rattle.dbl_stream2.proofs.unstream.Unstream.abort_stream.Goals as goal

pub returns-then-is_open : goal.returns-then-is_open
returns-then-is_open c = λ past s. inr (ap (λ (b : Bool). error_if b NotStreaming) (sym (c.is_open.ensures past s) ∙ c.if-is_open.true))

pub returns-then-xid-subxid : goal.returns-then-xid-subxid
returns-then-xid-subxid c = λ past s. aborted_whole past c.args.self.now _ s _ c.args.xid
    (record { block = refl; begun = refl; removed = λ x. c.remove.ensures.updates.0 x }) c.args.subxid c.if-xid-subxid.true c.new.ensures.items
    (sym (c.is_open.ensures past s) ∙ c.if-is_open.false)

pub returns-in_err-abort_subtransaction : goal.returns-in_err-abort_subtransaction
returns-in_err-abort_subtransaction c = λ past s. (
    let p = err_from_is_err_and c.from_residual.result c.from_residual.ensures.1 in
    rw (p.1, p.2) (inl refl))

pub returns : goal.returns
returns c = λ past s. aborted_part past c.args.self.now _ s _ c.args.xid c.args.subxid c.if-xid-subxid.false c.new-2.ensures.items
    (sym (c.is_open.ensures past s) ∙ c.if-is_open.false) refl refl c.in_ok-abort_subtransaction.ensures.buffer c.in_ok-abort_subtransaction.ensures.aborts
