use Rattle.std.proofs.Common.{List, [], ◌∷◌, refl, ◌∙◌, ap, inl}
use Rattle.std.proofs.lemmas.Result.{err_from_is_err_and}
use Rattle.std.proofs.Common.{◌++◌}
use Rattle.dbl_pgmsg.specs.declared.messages.Message.{Message}
use Rattle.dbl_stream2.proofs.Steps.{passed}
use Rattle.dbl_stream2.proofs.unstream.Unstream.pass_plain.Goals as goal

pub returns-in_err-push : goal.returns-in_err-push
returns-in_err-push c = λ was past s. (
    let p = err_from_is_err_and c.from_residual.result c.from_residual.ensures.1 in
    rw (p.1, p.2) (inl refl))

pub returns : goal.returns
returns c = λ was past s. passed past c.args.self.now _ s _ c.args.message (c.in_ok-push.ensures.items
    ∙ ap (λ (l : List Message). l ++ c.args.message ∷ []) c.new-messages.ensures.items) was refl c.is_begun_after-self.ensures
    (record { buffer = λ x. refl; aborts = λ x y. refl })
