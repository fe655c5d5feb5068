-- An entry that is appended: what the journal lists then.
use Rattle.std.proofs.Common.{◌≡◌, ◌⊎◌, ℕ, ◌<◌, ◌^◌, List, [], ◌∷◌, ◌++◌, refl, sym, subst, inl}
use Rattle.dbl_disk.specs.Model.{DiskModel}
use Rattle.dbl_pgmsg.specs.declared.messages.Message.{Message}
use Rattle.dbl_journal.specs.Form.{IsJournal}
use Rattle.dbl_journal.specs.Stored.{LeavesEntries, Lists, OnDisk}
use Rattle.dbl_demo_wal.specs.declared.entry.Entry.{Entry}
use Rattle.dbl_demo_wal.specs.declared.entry.Entry.TheVariants.{Commits}
use Rattle.dbl_demo_wal.specs.Entries.{FitsWalEntry, EncodesEntry, entry_form}
use Rattle.dbl_demo_wal.proofs.SizeLemmas.{few_in}
use Rattle.dbl_demo_workload.specs.Steps.{FitAnEntry}

-- changes that fit an entry fit the one of their commit
pub fits_done : (steps : ℕ) (messages : List Message) → steps < 2 ^ 64 → FitAnEntry messages → FitsWalEntry (Commits steps messages)
fits_done steps messages le fits = record { steps_fit = le; few = few_in messages fits.short; each = fits.each }

-- the commit as it was built is that of these steps and these changes
pub spells_at : (form : List ℕ) (built steps : ℕ) (given messages : List Message) → built ≡ steps → given ≡ messages → EncodesEntry form (Commits built given) → EncodesEntry form (Commits steps messages)
spells_at form built steps given messages same are spells =
    subst (λ (n : ℕ). EncodesEntry form (Commits n messages)) same (subst (λ (ms : List Message). EncodesEntry form (Commits built ms)) are spells)

module _ {D : Type 0} (model : DiskModel D) (new : OnDisk D) (forms : List (List ℕ)) (form : List ℕ) (entry : Entry) (spells : EncodesEntry form entry) where
  pub entry_listed : Lists model new (forms ++ form ∷ []) → Lists model new (forms ++ entry_form entry ∷ [])
  entry_listed lists = subst (λ (w : List ℕ). Lists model new (forms ++ w ∷ [])) spells.spelled lists

  pub entry_left : LeavesEntries model new.disk (λ left. (left ≡ forms) ⊎ (left ≡ forms ++ form ∷ [])) → LeavesEntries model new.disk (λ left. (left ≡ forms) ⊎ (left ≡ forms ++ entry_form entry ∷ []))
  entry_left leaves = subst (λ (w : List ℕ). LeavesEntries model new.disk (λ left. (left ≡ forms) ⊎ (left ≡ forms ++ w ∷ []))) spells.spelled leaves

  -- where nothing was appended, what was there is left
  pub none_left : Lists model new forms → LeavesEntries model new.disk (λ left. (left ≡ forms) ⊎ (left ≡ forms ++ entry_form entry ∷ []))
  none_left lists crashed may = (forms, subst (λ (bytes : List ℕ). IsJournal bytes forms) (sym (lists.only crashed may)) lists.spelled, inl refl)
