use Rattle.std.proofs.Common.{Bool, refl, sym, ◌∙◌, ap, inl, inr}
use Rattle.std.proofs.lemmas.Result.{err_from_is_err_and}
use Rattle.dbl_stream2.specs.declared.error.StreamError.TheVariants.{NestedStream}
use Rattle.dbl_stream2.specs.Flat.{error_if}
use Rattle.dbl_stream2.proofs.Steps.{started}
use Rattle.dbl_stream2.proofs.unstream.Unstream.start_block.Goals as goal

pub returns-then-is_open : goal.returns-then-is_open
returns-then-is_open c = λ first past s. inr (ap (λ (b : Bool). error_if b NestedStream) (sym (c.is_open.ensures past s) ∙ c.if-is_open.true))

pub returns-in_err-make_room : goal.returns-in_err-make_room
returns-in_err-make_room c = λ first past s. (
    let p = err_from_is_err_and c.from_residual.result c.from_residual.ensures.1 in
    rw (p.1, p.2) (inl refl))

pub returns : goal.returns
returns c = λ first past s. started past c.args.self.now _ s _ c.args.xid first c.new.ensures.items (sym (c.is_open.ensures past s)
    ∙ c.if-is_open.false) refl refl c.in_ok-make_room.ensures.buffer c.in_ok-make_room.ensures.aborts
