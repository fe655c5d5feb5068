-- Which records a rule allows.
use Rattle.std.specs.Prelude.{ℕ, Bool, true, Option, Some, None, List, length, nat_le, IsTrue}
use Rattle.std.specs.List.{AllByRecursion}
use Rattle.dbl_record.specs.declared.record.Record.{Record}
use Rattle.dbl_hooks_gate.specs.declared.rule.Rule.{Rule}
use Rattle.dbl_hooks_gate.specs.declared.rule.Rule.TheVariants.{MaxValue}

-- Whether a text, if there is one, has at most so many bytes.
abbrev pub is_at_most : ℕ → Option (List ℕ) → Bool
is_at_most most None = true
is_at_most most (Some text) = nat_le (length text) most

-- Whether the rule allows the record: its value is absent, or short enough.
abbrev pub is_allowed : Rule → Record → Bool
is_allowed (MaxValue most) item = is_at_most most item.value

-- The rule allows all these records.
abbrev pub AreAllowed : Rule → List Record → Type 0
AreAllowed rule items = AllByRecursion (λ item. IsTrue (is_allowed rule item)) items
