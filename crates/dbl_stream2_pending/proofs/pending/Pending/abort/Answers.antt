use Rattle.std.proofs.Common.{◌∙◌, ℕ, Bool, cond, eqb, Option, ap}
use Rattle.std.specs.Prelude.{unwrap_or}
use Rattle.std.specs.Ordering.{nat_cmp}
use Rattle.std.specs.BTreeMap.{get, is_at}
use Rattle.dbl_stream2_pending.proofs.MapLemmas.{is_at-number, number_set}
use Rattle.dbl_stream2_pending.proofs.pending.Pending.abort.Goals as goal

pub returns-clause-aborts : goal.returns-clause-aborts
returns-clause-aborts g c = λ y. (
    let was : ℕ = unwrap_or (get nat_cmp c.args.self.now.aborts y) 0 in
    ap (λ (o : Option ℕ). unwrap_or o 0) (c.in_ok-insert.ensures.updates.0 y)
    ∙ number_set (is_at (nat_cmp c.args.subxid) y) c.len-count.result (get nat_cmp c.args.self.now.aborts y)
    ∙ ap (λ (b : Bool). cond b c.len-count.result was) (is_at-number c.args.subxid y)
    ∙ ap (λ (n : ℕ). cond (eqb c.args.subxid y) n was) (c.len-count.ensures ∙ c.args.self.now.buffer.ok.0))
