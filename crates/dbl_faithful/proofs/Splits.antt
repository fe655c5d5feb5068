-- The commit of a history that is next, and how far records reach.
use Rattle.std.proofs.Common.{◌≡◌, ◌∙◌, ◌⊎◌, inl, inr, ◌≤◌, ◌<◌, ℕ, max, List, [], ◌∷◌, ◌++◌, fold, sym, ap, subst, arith}
use Rattle.std.specs.List.{AllByRecursion}
use Rattle.std.proofs.lemmas.Bool.{cases_lt}
use Rattle.dbl_record.specs.declared.record.Record.{Record}
use Rattle.dbl_consume_laws.specs.ModelHistory.History.{RawCommit}
use Rattle.dbl_faithful.specs.Stores.{top_position}
use Rattle.dbl_faithful.proofs.Lists.{top_append, top_stays}

-- ---- raw commits

-- the commit that comes next, as the history has it
pub record RawNext (later : List RawCommit) (position : ℕ) : Type 0 where
  pub raw : RawCommit
  pub rest : List RawCommit
  pub is : later ≡ raw ∷ rest
  pub lsn_is : raw.lsn.0 ≡ position
  pub over : AllByRecursion (λ commit. position < commit.lsn.0) rest

-- ---- how far records reach

max_le : (a b c : ℕ) → a ≤ c → b ≤ c → max a b ≤ c
max_le a b c one two = omega (arith, one, two)

-- no further than each of them
pub top_le : (bound far : ℕ) (records : List Record) → far ≤ bound → AllByRecursion (λ item. item.position ≤ bound) records → fold (λ most (item : Record). max most item.position) far records ≤ bound
top_le bound far [] le all = le
top_le bound far (item ∷ records) le all = top_le bound (max far item.position) records (max_le far item.position bound le all.0) all.1

same_le : (a b c : ℕ) → a ≡ b → b ≤ c → a ≤ c
same_le a b c is le = omega (arith, is, le)

le_on : (a b c : ℕ) → a ≤ b → b ≤ c → a ≤ c
le_on a b c one two = omega (arith, one, two)

under : (a b : ℕ) → a < b → a ≤ b
under a b lt = omega (arith, lt)

-- Records at one position more: they reach as far as these, or as far as before.
pub top_sent : (records more : List Record) (found low high : ℕ) → low < high → AllByRecursion (λ item. item.position ≤ high) more → (top_position records ≤ low) ⊎ (top_position records ≡ found)
    → (top_position (records ++ more) ≤ high) ⊎ (top_position (records ++ more) ≡ found)
top_sent records more found low high lt all (inl le) =
    inl (subst (λ (n : ℕ). n ≤ high) (sym (top_append 0 records more)) (top_le high (top_position records) more (le_on (top_position records) low high le (under low high lt)) all))
top_sent records more found low high lt all (inr is) = elim (cases_lt found high) [
  | inl less ↦ inl (subst (λ (n : ℕ). n ≤ high) (sym (top_append 0 records more)) (top_le high (top_position records) more (same_le (top_position records) found high is (under found high less)) all))
  | inr le ↦ inr (top_append 0 records more
      ∙ (ap (λ (n : ℕ). fold (λ most (item : Record). max most item.position) n more) is ∙ top_stays found more (all_lower found high more le all)))
]
  where
    all_lower : (found high : ℕ) (more : List Record) → high ≤ found → AllByRecursion (λ item. item.position ≤ high) more → AllByRecursion (λ item. item.position ≤ found) more
    all_lower found high [] le all = tt
    all_lower found high (item ∷ more) le all = (le_on item.position high found all.0 le, all_lower found high more le all.1)
