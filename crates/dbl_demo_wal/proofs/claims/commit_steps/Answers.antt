use Rattle.std.proofs.Common.{◌∙◌, sym, arith}
use Rattle.dbl_demo_wal.proofs.EntryLaws.{begins, claims, claim_told}
use Rattle.dbl_demo_wal.proofs.claims.commit_steps.Goals as goal

pub returns-clause-begins : goal.returns-clause-begins
returns-clause-begins c steps = (
  λ h. begins c.args.entry.now steps (λ i. omega (arith, c.type_inv.entry i)) (sym c.claim_of.ensures ∙ h),
  λ b. c.claim_of.ensures ∙ claims c.args.entry.now steps b,
)

pub returns-clause-told : goal.returns-clause-told
returns-clause-told c e spells = c.claim_of.ensures ∙ claim_told c.args.entry.now e spells
