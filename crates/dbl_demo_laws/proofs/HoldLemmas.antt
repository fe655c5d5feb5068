-- The number of a commit's entry: what stands there in the journal is that commit.
use Rattle.std.proofs.Common.{◌≡◌, ◌∙◌, ℕ, zero, suc, ◌+◌, Some, List, [], ◌∷◌, length, map, refl, sym, ap, subst, arith}
use Rattle.std.specs.Prelude.{slice_get}
use Rattle.std.specs.List.{AllByRecursion}
use Rattle.dbl_source.specs.SourceLog.declared.logged.Logged.{Logged}
use Rattle.dbl_demo_workload.specs.DemoWal.declared.entry.Entry.{Entry}
use Rattle.dbl_demo_workload.specs.DemoWal.declared.entry.Entry.TheVariants.{Commits, Marks, Confirms}
use Rattle.dbl_demo_workload.specs.DemoWal.Entries.{entry_form, FitsWalEntry, EncodesEntry}
use Rattle.dbl_demo_workload.proofs.DemoWalEntryLaws.{one_entry}
use Rattle.dbl_demo_workload.specs.DemoWal.Sound.{logged_by, logged_in}
use Rattle.dbl_demo_workload.specs.DemoWal.Wals.{Wal, IsWalOf, forms_of}
use Rattle.dbl_demo_workload.specs.Checking.{commit_places}

-- the entry to which the n-th of the numbers leads
record IsAt (number : ℕ) (entries : List Entry) (n place : ℕ) : Type 0 where
  at : ℕ
  entry : Entry
  place_is : place ≡ number + at
  there : slice_get entries at ≡ Some entry
  logged : slice_get (logged_in entries) n ≡ logged_by entry

at_place : (number : ℕ) (entries : List Entry) (n place : ℕ) → slice_get (commit_places number entries) n ≡ Some place → IsAt number entries n place
at_place number [] n place is = absurd (let t = is in cc)
at_place number (Commits steps messages ∷ entries) zero place is =
    let same : number ≡ place = (let t = is in cc) in
    record { at = 0; entry = Commits steps messages; place_is = omega (arith, same); there = refl; logged = refl }
at_place number (Commits steps messages ∷ entries) (suc n) place is =
    let h = at_place (number + 1) entries n place is in
    record { at = suc h.at; entry = h.entry; place_is = omega (arith, h.place_is); there = h.there; logged = h.logged }
at_place number (Marks steps value ∷ entries) zero place is =
    let same : number ≡ place = (let t = is in cc) in
    record { at = 0; entry = Marks steps value; place_is = omega (arith, same); there = refl; logged = refl }
at_place number (Marks steps value ∷ entries) (suc n) place is =
    let h = at_place (number + 1) entries n place is in
    record { at = suc h.at; entry = h.entry; place_is = omega (arith, h.place_is); there = h.there; logged = h.logged }
at_place number (Confirms upto ∷ entries) n place is =
    let h = at_place (number + 1) entries n place is in
    record { at = suc h.at; entry = h.entry; place_is = omega (arith, h.place_is); there = h.there; logged = h.logged }

form_at : (entries : List Entry) (at : ℕ) (entry : Entry) → slice_get entries at ≡ Some entry → slice_get (map entry_form entries) at ≡ Some (entry_form entry)
form_at [] at entry is = absurd (let t = is in cc)
form_at (e ∷ entries) zero entry is = let same : e ≡ entry = (let t = is in cc) in ap (λ (x : Entry). Some (entry_form x)) same
form_at (e ∷ entries) (suc at) entry is = form_at entries at entry is

fits_at : (entries : List Entry) (at : ℕ) (entry : Entry) → AllByRecursion FitsWalEntry entries → slice_get entries at ≡ Some entry → FitsWalEntry entry
fits_at [] at entry fits is = absurd (let t = is in cc)
fits_at (e ∷ entries) zero entry fits is = subst FitsWalEntry (let same : e ≡ entry = (let t = is in cc) in same) fits.0
fits_at (e ∷ entries) (suc at) entry fits is = fits_at entries at entry fits.1 is

module _ (wal : Wal) (sound : IsWalOf (forms_of wal) wal) (n place : ℕ) (bytes : List ℕ) (is : slice_get (commit_places 1 wal.entries) n ≡ Some place) (found : slice_get (forms_of wal) place ≡ Some bytes) where
  here : IsAt 1 wal.entries n place
  here = at_place 1 wal.entries n place is

  form : bytes ≡ entry_form here.entry
  form =
      let number : place ≡ suc here.at = omega (arith, here.place_is) in
      let read : Some (entry_form here.entry) ≡ Some bytes = sym (form_at wal.entries here.at here.entry here.there) ∙ ap (slice_get (forms_of wal)) (sym number) ∙ found in
      cc

  spells : EncodesEntry bytes here.entry
  spells = record { fits = fits_at wal.entries here.at here.entry sound.fits here.there; spelled = form }

  -- what the bytes spell is the n-th commit
  pub held_right : (entry : Entry) → EncodesEntry bytes entry → slice_get (logged_in wal.entries) n ≡ logged_by entry
  held_right entry other = here.logged ∙ ap logged_by (one_entry bytes here.entry entry spells other)

  -- so they spell some entry, and it is no confirmed position
  pub held_some : (logged : Logged) → slice_get (logged_in wal.entries) n ≡ Some logged → (entry : Entry) × EncodesEntry bytes entry × (logged_by entry ≡ Some logged)
  held_some logged there = (here.entry, spells, sym here.logged ∙ there)

-- there are as many numbers as commits
pub count_places : (number : ℕ) (entries : List Entry) → length (commit_places number entries) ≡ length (logged_in entries)
count_places number [] = refl
count_places number (Commits steps messages ∷ entries) = ap suc (count_places (number + 1) entries)
count_places number (Marks steps value ∷ entries) = ap suc (count_places (number + 1) entries)
count_places number (Confirms upto ∷ entries) = count_places (number + 1) entries
