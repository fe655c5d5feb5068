use Rattle.std.proofs.Common.{◌≡◌, ◌⊎◌, inl, inr, Some}
use Rattle.std.proofs.lemmas.Result.{IfErr-weaker, IfOk-weaker, err_from_is_err_and}
use Rattle.dbl_model_commit.specs.declared.txn_error.TxnError.{TxnError}
use Rattle.dbl_model_commit.specs.Stated.{transaction_fault}
use Rattle.dbl_txn.specs.Stands.{TakenPiece}
use Rattle.dbl_capture_work.specs.declared.halt.Halt.{Halt}
use Rattle.dbl_capture_work.specs.declared.halt.Halt.TheVariants as halt
use Rattle.dbl_capture_work.specs.Takes.{HasTakenPiece, IsMessageHalt, IsTxnHalt}
use Rattle.dbl_capture_work.proofs.OpenLemmas.{took_piece}
use Rattle.dbl_capture_work.proofs.messages.take_message.Goals as goal

pub returns-in_err-message-clause-halt : goal.returns-in_err-message-clause-halt
returns-in_err-message-clause-halt c after ms ahead is =
    let p = err_from_is_err_and c.from_residual.result c.from_residual.ensures.1 in
    rw (p.1, p.2) (elim c.in_err-message.ensures.halt [
      | inl memory ↦ inl memory
      | inr fault ↦ inr (inl fault)
    ])

pub returns-clause-taken : goal.returns-clause-taken
returns-clause-taken c after ms ahead is =
    let old = c.args.work.now in
    let new = c.take_piece.new.work in
    let message = c.in_ok-message.message in
    IfOk-weaker c.take_piece.result (TakenPiece old.offset.infos after message ms new.assembler) (HasTakenPiece after ms c.args.bytes.now old new)
    (λ piece taken. took_piece after ms c.args.bytes.now old new message piece is.fields c.in_ok-message.ensures.read c.take_piece.ensures.same taken) (c.take_piece.ensures.taken after ms is.stands)

pub returns-clause-halt : goal.returns-clause-halt
returns-clause-halt c after ms ahead is =
    let old = c.args.work.now in
    let message = c.in_ok-message.message in
    let number = c.args.number in
    IfErr-weaker c.take_piece.result
    (λ (h : Halt). (h ≡ halt.Memory) ⊎ ((error : TxnError) × (transaction_fault old.offset.infos after message ms ≡ Some error) × (h ≡ halt.Txn number error)))
    (λ (h : Halt). (h ≡ halt.Memory) ⊎ (IsMessageHalt number c.args.bytes.now h ⊎ IsTxnHalt number after ms c.args.bytes.now old h))
    (λ h cause. elim cause [
      | inl memory ↦ inl memory
      | inr fault ↦ inr (inr (record { message = message; spells = c.in_ok-message.ensures.read; error = fault.0; fault = fault.1; is = fault.2 }))
    ]) (c.take_piece.ensures.halt after ms is.stands)
