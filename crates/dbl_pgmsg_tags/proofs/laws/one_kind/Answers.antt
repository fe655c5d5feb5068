use Rattle.std.proofs.Common.{◌≡◌, ◌∙◌, ℕ, Option, Some, None, sym, ap, refl, arith}
use Rattle.dbl_pgmsg_tags.specs.declared.tags.CellKind.{CellKind}
use Rattle.dbl_pgmsg_tags.specs.declared.tags.CellKind.TheVariants.{Null, Unchanged, Text}
use Rattle.dbl_pgmsg_tags.specs.Tags.{cell_tag, IsKindOf}
use Rattle.dbl_pgmsg_tags.proofs.laws.one_kind.Goals as goal

same_kind : (first second : CellKind) → cell_tag first ≡ cell_tag second → first ≡ second
same_kind Null Null e = refl
same_kind Null Unchanged e = absurd (omega (arith, e))
same_kind Null Text e = absurd (omega (arith, e))
same_kind Unchanged Null e = absurd (omega (arith, e))
same_kind Unchanged Unchanged e = refl
same_kind Unchanged Text e = absurd (omega (arith, e))
same_kind Text Null e = absurd (omega (arith, e))
same_kind Text Unchanged e = absurd (omega (arith, e))
same_kind Text Text e = refl

some_kind : (tag : ℕ) (kind : CellKind) → tag ≡ cell_tag kind → ¬ IsKindOf tag None
some_kind tag Null e n = n.0 e
some_kind tag Unchanged e n = n.1 e
some_kind tag Text e n = n.2 e

one : (tag : ℕ) (first second : Option CellKind) → IsKindOf tag first → IsKindOf tag second → first ≡ second
one tag (Some first) (Some second) a b = ap Some (same_kind first second (sym a ∙ b))
one tag (Some first) None a b = absurd (some_kind tag first a b)
one tag None (Some second) a b = absurd (some_kind tag second b a)
one tag None None a b = refl

pub returns : goal.returns
returns c = one
