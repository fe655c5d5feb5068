use Rattle.std.proofs.Common.{◌≡◌, ◌∙◌, List, [], ◌∷◌, ◌++◌, sym, ap, subst}
use Rattle.std.specs.Ordering.{is_eq}
use Rattle.dbl_tables_changes.specs.declared.planned.Write.{Write}
use Rattle.dbl_tables_changes.specs.Planned.{IsUpdateWritten}
use Rattle.dbl_tables_changes.proofs.planning.update_writes.Goals as goal

pub returns-then-is_eq : goal.returns-then-is_eq
returns-then-is_eq c =
    let w = c.in_ok-write_of.field-0 in
    let all : c.push.new.self.items ≡ w ∷ [] = c.in_ok-push.ensures.items ∙ ap (λ (l : List Write). l ++ w ∷ []) c.new-writes.ensures.items in
    subst (IsUpdateWritten c.args.session.now c.args.from c.args.to c.args.row) (sym all)
    (sym (ap is_eq c.compare.ensures) ∙ (sym c.is_eq.ensures ∙ c.if-is_eq.true), record { key_is = c.in_ok-write_of.ensures.key; by = c.in_ok-write_of.ensures.by; row_is = c.in_ok-write_of.ensures.row })

pub returns : goal.returns
returns c =
    let a = c.in_ok-write_of-2.field-0 in
    let b = c.in_ok-write_of-3.field-0 in
    let all : c.push-3.new.self.items ≡ a ∷ b ∷ [] = c.in_ok-push-3.ensures.items ∙ ap (λ (l : List Write). l ++ b ∷ []) (c.in_ok-push-2.ensures.items ∙ ap (λ (l : List Write). l ++ a ∷ []) c.new-writes.ensures.items) in
    subst (IsUpdateWritten c.args.session.now c.args.from c.args.to c.args.row) (sym all) (
      sym (ap is_eq c.compare.ensures) ∙ (sym c.is_eq.ensures ∙ c.if-is_eq.false),
      record { key_is = c.in_ok-write_of-2.ensures.key; by = c.in_ok-write_of-2.ensures.by; row_is = c.in_ok-write_of-2.ensures.row },
      record { key_is = c.in_ok-write_of-3.ensures.key; by = c.in_ok-write_of-3.ensures.by; row_is = c.in_ok-write_of-3.ensures.row },
    )
