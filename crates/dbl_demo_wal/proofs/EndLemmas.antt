-- A read ends after one number of steps.
use Rattle.std.proofs.Common.{◌≡◌, ◌∙◌, ◌⊎◌, ℕ, zero, suc, ◌+◌, ◌<◌, ◌≤◌, List, ◌++◌, length, drop, refl, sym, ap, subst, arith, inl, inr}
use Rattle.std.proofs.lemmas.Bool.{cases_lt}
use Rattle.std.proofs.lemmas.List.{length-drop, nil_from_length}
use Rattle.dbl_tables_laws.specs.SourceLog.declared.reader_position.ReaderPosition.{ReaderPosition}
use Rattle.dbl_tables_laws.specs.SourceLog.Sent.{index_of}
use Rattle.dbl_script.specs.declared.script.Step.{Step}
use Rattle.dbl_demo_wal.specs.declared.entry.Entry.{Entry}
use Rattle.dbl_demo_wal.specs.Groups.{EndsRead, ReadsOn, group_end, group_size, released}
use Rattle.dbl_demo_wal.specs.Groups.ReadsOn.{stops, goes}
use Rattle.dbl_demo_wal.specs.Sound.{logged_in}
use Rattle.dbl_demo_wal.specs.Workloads.{Workload, steps_of}
use Rattle.dbl_demo_wal.proofs.GroupLemmas.{end_above, end_within}
use Rattle.dbl_demo_wal.specs.LogLaws.{ReadsEndOnce}

-- where no step is left a group has none
end_none : (steps : List Step) (done : ℕ) → length steps ≤ done → group_end steps done ≡ done
end_none steps done le = omega (arith, ap group_size (nil_from_length (drop done steps) (omega (arith, le, length-drop done steps))))

module _ (w : Workload) (entries : List Entry) (place : ReaderPosition) (done : ℕ) where
  -- ---- one end at most

  past : (upto : ℕ) {from : ℕ} → length (steps_of w) ≤ from → ReadsOn w entries place done upto from → upto ≡ from
  past upto le (stops from is end) = is ∙ end_none (steps_of w) from le
  past upto le (goes from none on) =
      let here : group_end (steps_of w) from ≡ from = end_none (steps_of w) from le in
      past upto (omega (arith, le, here)) on ∙ here

  one_end : (a b : ℕ) {from : ℕ} → ReadsOn w entries place done a from → ReadsOn w entries place done b from → a ≡ b
  one_end a b (stops from is end) (stops again same other) = is ∙ sym same
  one_end a b (stops from is end) (goes again none on) =
      elim end [
        | inl unread ↦ absurd (none (subst (λ (n : ℕ). EndsRead w entries place done n) is unread))
        | inr all ↦ is ∙ sym (past b (omega (arith, all, is)) on)
      ]
  one_end a b (goes from none on) (stops again is end) =
      elim end [
        | inl unread ↦ absurd (none (subst (λ (n : ℕ). EndsRead w entries place done n) is unread))
        | inr all ↦ past a (omega (arith, all, is)) on ∙ sym is
      ]
  one_end a b (goes from none on) (goes again no_other more) = one_end a b on more

  -- ---- and one at least

  abbrev Ends : ℕ → Type 0
  Ends from = (upto : ℕ) × ReadsOn w entries place done upto from

  -- the log after the group
  abbrev subsequent : ℕ → ℕ
  subsequent from = length (logged_in (entries ++ released w done (group_end (steps_of w) from)))

  last : (from : ℕ) → length (steps_of w) ≤ group_end (steps_of w) from → Ends from
  last from all = (group_end (steps_of w) from, stops from refl (inr all))

  go_on : (from : ℕ) → (index_of place < subsequent from) ⊎ (subsequent from ≤ index_of place) → (from < length (steps_of w)) ⊎ (length (steps_of w) ≤ from) → (from < length (steps_of w) → Ends (group_end (steps_of w) from)) → Ends from
  go_on from (inl unread) left next = (group_end (steps_of w) from, stops from refl (inl unread))
  go_on from (inr read) (inr none) next = last from (omega (arith, none, end_none (steps_of w) from none))
  go_on from (inr read) (inl some) next = let on = next some in (on.0, goes from (λ unread. omega (arith, read, unread)) on.1)

  ends : (fuel from : ℕ) → from ≤ length (steps_of w) → length (steps_of w) ≤ from + fuel → Ends from
  ends zero from within le = last from (omega (arith, le, end_none (steps_of w) from (omega (arith, le))))
  ends (suc fuel) from within le =
      go_on from (cases_lt (index_of place) (subsequent from)) (cases_lt from (length (steps_of w)))
      (λ some. ends fuel (group_end (steps_of w) from) (end_within (steps_of w) from within) (omega (arith, le, end_above (steps_of w) from some)))

pub reads_end : ReadsEndOnce
reads_end w entries place done within =
    let there = ends w entries place done (length (steps_of w)) done within (omega arith) in
    (there.0, there.1, λ other reads. one_end w entries place done other there.0 reads there.1)
