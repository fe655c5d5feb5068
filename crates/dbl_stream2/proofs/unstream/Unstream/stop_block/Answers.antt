use Rattle.std.proofs.Common.{Bool, cond, refl, sym, ◌∙◌, ap, inr}
use Rattle.dbl_stream2.specs.declared.error.StreamError.TheVariants.{NotStreaming}
use Rattle.std.specs.Prelude.{Some, None}
use Rattle.dbl_stream2.proofs.Steps.{stopped}
use Rattle.dbl_stream2.proofs.unstream.Unstream.stop_block.Goals as goal

pub returns-then-not-inside : goal.returns-then-not-inside
returns-then-not-inside c = λ past s. inr (ap (λ (b : Bool). cond b None (Some NotStreaming)) (sym (c.inside.ensures past s) ∙ c.if-not-inside.true))

pub returns : goal.returns
returns c = λ past s. stopped past c.args.self.now _ s _ c.new.ensures.items (sym (c.inside.ensures past s) ∙ c.if-not-inside.false) refl refl
    (record { buffer = λ x. refl; aborts = λ x y. refl })
