-- What always holds of a source's parts, at the exits of the functions that change them.
use Rattle.std.proofs.Common.{◌≡◌, ◌∙◌, ℕ, ◌+◌, ◌<◌, ◌≤◌, ◌^◌, Bool, true, false, Option, Some, List, [], ◌∷◌, ◌++◌, refl, sym, subst, arith, length-append}
use Rattle.std.specs.Prelude.{IsTrue}
use Rattle.std.specs.List.{All}
use Rattle.std.proofs.lemmas.List.Elements.{All-push, All-weaker}
use Rattle.dbl_source.specs.SourceLog.declared.reader_position.ReaderPosition.{ReaderPosition}
use Rattle.dbl_journal.specs.Stored.{OnDisk, count_of}
use Rattle.dbl_demo_workload.specs.Script.declared.script.Step.{Step}
use Rattle.dbl_demo_workload.specs.Tables.declared.tables.Tables.{Tables}
use Rattle.dbl_demo_workload.specs.Steps.{HasRunSteps}
use Rattle.dbl_demo_laws.specs.Demo.{HasParts}

-- ---- a source in a call can't be used

on_false : (b : Bool) → b ≡ false → IsTrue b → ⊥
on_false b is on = let wrong : true ≡ false = sym on ∙ is in cc

module _ {D : Type 0} (old : OnDisk D) (store : Tables) (steps : List Step) (done : ℕ) (commits : List ℕ) (place : Option ReaderPosition) (live : Bool) (parts : HasParts old store steps done commits place live) (dead : live ≡ false) where
  -- another journal, which can't be used
  pub parts_lost : (new : OnDisk D) → new.live ≡ false → HasParts new store steps done commits place live
  parts_lost new lost = record {
    has_run = parts.has_run;
    usable = λ on. absurd (on_false live dead on);
    few = λ on. absurd (on_false new.live lost on);
    there = λ on. absurd (on_false new.live lost on);
    near = parts.near;
  }

  -- or one that has as many entries, or more
  module _ (on_old : IsTrue old.live) (new : OnDisk D) (more : count_of old ≤ count_of new) where
    there_on : All (λ number. number < count_of new) commits
    there_on = All-weaker (λ (n : ℕ). n < count_of old) (λ (n : ℕ). n < count_of new) (λ n lt. omega (arith, lt, more)) commits (parts.there on_old)

    pub parts_grown : HasParts new store steps done commits place live
    parts_grown = record {
      has_run = parts.has_run;
      usable = λ on. absurd (on_false live dead on);
      few = λ on. (let few = parts.few on_old in omega (arith, few, more));
      there = λ on. there_on;
      near = parts.near;
    }

    -- the last of them is a commit
    pub parts_logged : count_of new ≡ count_of old + 1 → HasParts new store steps done (commits ++ count_of old ∷ []) place live
    parts_logged one = record {
      has_run = parts.has_run;
      usable = λ on. absurd (on_false live dead on);
      few = λ on. (let few = parts.few on_old in omega (arith, few, one, length-append commits (count_of old ∷ [])));
      there = λ on. All-push (λ (n : ℕ). n < count_of new) commits (count_of old) there_on (omega (arith, one));
      near = parts.near;
    }

  -- where an append answered an error, the journal can't be used or is what it was
  pub parts_failed : IsTrue old.live → (new : OnDisk D) → (IsTrue new.live → new ≡ old) → HasParts new store steps done commits place live
  parts_failed on_old new stays = by new.live refl
    where
      by : (b : Bool) → new.live ≡ b → HasParts new store steps done commits place live
      by true on = subst (λ (j : OnDisk D). HasParts j store steps done commits place live) (sym (stays on)) parts
      by false lost = parts_lost new lost

-- ---- a step was run, or the reader moved

module _ {D : Type 0} (journal_of : OnDisk D) (store : Tables) (steps : List Step) (done : ℕ) (commits : List ℕ) (place : Option ReaderPosition) (live : Bool) (parts : HasParts journal_of store steps done commits place live) where
  pub parts_run : (new : Tables) (now : ℕ) → HasRunSteps steps now new → HasParts journal_of new steps now commits place live
  parts_run new now has_run = record { has_run = has_run; usable = parts.usable; few = parts.few; there = parts.there; near = parts.near }

  pub parts_moved : (next : Option ReaderPosition) → ((p : ReaderPosition) → next ≡ Some p → p.commits ≤ 2 ^ 40) → HasParts journal_of store steps done commits next live
  parts_moved next near = record { has_run = parts.has_run; usable = parts.usable; few = parts.few; there = parts.there; near = near }

  -- once a call is over, the source can be used as long as its journal can
  pub parts_live : (now : Bool) → (IsTrue now → IsTrue journal_of.live) → HasParts journal_of store steps done commits place now
  parts_live now usable = record { has_run = parts.has_run; usable = usable; few = parts.few; there = parts.there; near = parts.near }
