-- Journals that extend one another.
use Rattle.std.proofs.Common.{◌≡◌, ◌⊎◌, ◌∙◌, inl, inr, ℕ, ◌+◌, ◌^◌, ◌≤◌, List, [], ◌∷◌, ◌++◌, length, Some, sym, ap, subst, arith}
use Rattle.std.specs.Prelude.{IsTrue, max}
use Rattle.dbl_disk.specs.Model.{DiskModel}
use Rattle.dbl_journal.specs.Form.{IsEntry, IsJournal, up_to_gate}
use Rattle.dbl_journal.specs.Stored.{LeavesEntries, Lists, OnDisk, size}
use Rattle.dbl_journal.specs.Growth.{ExtendsJournal, HasCome, ReachesFrom}
use Rattle.dbl_journal.proofs.Appends.{length-up_to_gate-push}
use Rattle.dbl_journal.proofs.Reading.{one_journal}

no_more : (gate most : ℕ) (before entries left : List (List ℕ)) (entry old new : List ℕ) → IsEntry entry → before ≡ entries → gate ≤ length (up_to_gate before) → length old ≤ max most (length (up_to_gate before) + 2 ^ 30)
    → length new ≤ max (length old) (size (entries ++ entry ∷ [])) → (left ≡ entries) ⊎ (left ≡ entries ++ entry ∷ []) → (gate ≤ length (up_to_gate left)) × (length new ≤ max most (length (up_to_gate left) + 2 ^ 30))
no_more gate most before entries left entry old new short same on was now (inl e) =
    let first = ap (λ (es : List (List ℕ)). length (up_to_gate es)) same in
    let second = ap (λ (es : List (List ℕ)). length (up_to_gate es)) e in
    let push = length-up_to_gate-push entries entry in
    (omega (arith, on, first, second), omega (arith, was, now, first, second, push, short))
no_more gate most before entries left entry old new short same on was now (inr e) =
    let first = ap (λ (es : List (List ℕ)). length (up_to_gate es)) same in
    let second = ap (λ (es : List (List ℕ)). length (up_to_gate es)) e in
    let push = length-up_to_gate-push entries entry in
    (omega (arith, on, first, second, push), omega (arith, was, now, first, second, push, short))

module _ {D : Type 0} (model : DiskModel D) where
  pub comes_self : (journal : OnDisk D) → ExtendsJournal model journal journal
  comes_self journal gate most has = has

  pub comes_on : (first second third : OnDisk D) → ExtendsJournal model first second → ExtendsJournal model second third → ExtendsJournal model first third
  comes_on first second third a b gate most has = b gate most (a gate most has)

  -- an append to a journal that could be used, for every answer
  pub comes_by_append : ((disk : D) (bytes : List ℕ) → model.seen disk ≡ Some bytes → model.may_leave disk bytes) → (old new : OnDisk D) (entry : List ℕ) → IsEntry entry → IsTrue old.live
      → ((entries : List (List ℕ)) → Lists model old entries → IsTrue new.live → Lists model new (entries ++ entry ∷ []))
      → ((entries : List (List ℕ)) → Lists model old entries → LeavesEntries model new.disk (λ left. (left ≡ entries) ⊎ (left ≡ entries ++ entry ∷ [])))
      → ((entries : List (List ℕ)) (before after : List ℕ) → Lists model old entries → model.seen old.disk ≡ Some before → model.seen new.disk ≡ Some after → length after ≤ max (length before) (size (entries ++ entry ∷ [])))
      → ((before : List ℕ) → model.seen old.disk ≡ Some before → (after : List ℕ) × (model.seen new.disk ≡ Some after)) → ExtendsJournal model old new
  comes_by_append may_be_left old new entry short live added left grows told_on gate most has =
      let listed = has.lists live in
      let entries = listed.0 in
      let lists = listed.1 in
      let before = has.reaches lists.bytes lists.told in
      let same = one_journal lists.bytes before.entries entries before.journal lists.spelled in
      record {
        lists = λ now. (entries ++ entry ∷ [], added entries lists now);
        told = told_on lists.bytes lists.told;
        reaches = λ bytes told.
            let here = left entries lists bytes (may_be_left new.disk bytes told) in
            let far = no_more gate most before.entries entries here.0 entry lists.bytes bytes short same before.on before.short (grows entries lists.bytes bytes lists lists.told told) here.2 in
            record { entries = here.0; journal = here.1; on = far.0; short = far.1 };
      }

  -- a journal with the same parts extends what the other extends
  pub comes_at : (parts whole new : OnDisk D) → parts ≡ whole → ExtendsJournal model parts new → ExtendsJournal model whole new
  comes_at parts whole new same comes = subst (λ (j : OnDisk D). ExtendsJournal model j new) same comes

  -- the disk of a journal that extends one with entries goes on telling its bytes
  pub told_from : (old new : OnDisk D) (entries : List (List ℕ)) → ExtendsJournal model old new → Lists model old entries → (after : List ℕ) × (model.seen new.disk ≡ Some after)
  told_from old new entries comes lists =
      let has : HasCome model 0 (length lists.bytes) old =
      record {
        lists = λ live. (entries, lists);
        told = (lists.bytes, lists.told);
        reaches = λ bytes here.
            let is : Some lists.bytes ≡ Some bytes = sym lists.told ∙ here in
            let same : lists.bytes ≡ bytes = cc in
            record { entries = entries; journal = subst (λ (b : List ℕ). IsJournal b entries) same lists.spelled; on = omega arith; short = omega (arith, ap length same) };
      } in
      (comes 0 (length lists.bytes) has).told

  -- the bytes of a journal that extends one with entries
  pub grown_from : (old new : OnDisk D) (entries : List (List ℕ)) (before after : List ℕ) → ExtendsJournal model old new → Lists model old entries → model.seen old.disk ≡ Some before → model.seen new.disk ≡ Some after
      → ReachesFrom (length (up_to_gate entries)) (length before) after
  grown_from old new entries before after comes lists was told =
      let has : HasCome model (length (up_to_gate entries)) (length before) old =
      record {
        lists = λ live. (entries, lists);
        told = (before, was);
        reaches = λ bytes here.
            let first : Some lists.bytes ≡ Some bytes = sym lists.told ∙ here in
            let is : lists.bytes ≡ bytes = cc in
            let second : Some bytes ≡ Some before = sym here ∙ was in
            let same : bytes ≡ before = cc in
            record { entries = entries; journal = subst (λ (b : List ℕ). IsJournal b entries) is lists.spelled; on = omega arith; short = omega (arith, ap length same) };
      } in
      (comes (length (up_to_gate entries)) (length before) has).reaches after told
