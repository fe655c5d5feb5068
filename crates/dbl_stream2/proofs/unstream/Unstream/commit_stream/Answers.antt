use Rattle.std.proofs.Common.{◌≡◌, Bool, cond, List, [], ◌++◌, refl, sym, ◌∙◌, ap, inl, inr}
use Rattle.std.specs.Int.{w64}
use Rattle.std.proofs.lemmas.Int.{to_z-of_z}
use Rattle.std.proofs.lemmas.Result.{err_from_is_err_and}
use Rattle.dbl_stream2.specs.declared.error.StreamError.TheVariants.{NotStreaming, UnknownStream}
use Rattle.std.specs.Prelude.{Some, None}
use Rattle.dbl_pgmsg.specs.declared.messages.Message.{Message}
use Rattle.dbl_stream2.specs.Flat.{has_block}
use Rattle.dbl_stream2.proofs.Steps.{committed, unknown}
use Rattle.dbl_stream2.proofs.unstream.Unstream.commit_stream.Goals as goal

after_none : (old rest out : List Message) → old ≡ [] → out ≡ old ++ rest → out ≡ rest
after_none old rest out none is = is ∙ ap (λ (l : List Message). l ++ rest) none

pub returns-then-is_open : goal.returns-then-is_open
returns-then-is_open c = λ past s. inr (ap (λ (b : Bool). cond b (Some NotStreaming) (cond (has_block c.args.xid past) None (Some (UnknownStream c.args.xid))))
    (sym (c.is_open.ensures past s) ∙ c.if-is_open.true))

pub returns-in_err-append_transaction-in-Some : goal.returns-in_err-append_transaction-in-Some
returns-in_err-append_transaction-in-Some c = λ past s. (
    let p = err_from_is_err_and c.from_residual.result c.from_residual.ensures.1 in
    rw (p.1, p.2) (inl refl))

pub returns-in_ok-append_transaction-in-Some : goal.returns-in_ok-append_transaction-in-Some
returns-in_ok-append_transaction-in-Some c = λ past s. committed past c.args.self.now _ s _ c.args.xid
    (record {
      block = refl;
      begun = refl;
      removed = λ x. c.remove.ensures.updates.0 x;
    }) c.args.flags c.args.lsn c.args.end_lsn _ c.args.time c.in-Some.transaction
    (sym (c.is_open.ensures past s) ∙ c.if-is_open.false) (sym c.in-Some.ensures.value)
    (to_z-of_z w64 c.args.time c.ranges.time)
    (after_none _ _ _ c.new-messages.ensures.items c.in_ok-append_transaction-in-Some.ensures)

pub returns-in-None : goal.returns-in-None
returns-in-None c = λ past s. inr (unknown past c.args.self.now c.args.xid c.args.flags c.args.lsn c.args.end_lsn c.args.time s (sym (c.is_open.ensures past s)
    ∙ c.if-is_open.false) (sym c.in-None.ensures.value))
