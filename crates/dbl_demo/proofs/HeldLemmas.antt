-- The commit at the reader's place, as it was read from the disk, and the message of it that is read next.
use Rattle.std.proofs.Common.{Bor, ◌≡◌, ◌∙◌, ℕ, zero, suc, ◌<◌, ◌≤◌, ◌^◌, true, false, Option, None, Some, List, [], ◌∷◌, length, refl, sym, ap, arith}
use Rattle.std.specs.Prelude.{slice_get, IsSome, option_copied}
use Rattle.std.specs.Slice.{IsItemAt}
use Rattle.std.proofs.lemmas.Option.{slice_get_read, slice_get_within}
use Rattle.dbl_disk.specs.Model.{DiskModel}
use Rattle.dbl_source_log.specs.declared.logged.Logged.{Logged}
use Rattle.dbl_source_log.specs.declared.reader_position.ReaderPosition.{ReaderPosition}
use Rattle.dbl_source_log.specs.Sent.{index_of, IsPlaceIn}
use Rattle.dbl_journal.specs.Stored.{Lists, OnDisk}
use Rattle.dbl_demo_wal.specs.declared.entry.Entry.{Entry}
use Rattle.dbl_demo_wal.specs.declared.entry.Entry.TheVariants.{Commits, Marks, Confirms}
use Rattle.dbl_demo_wal.specs.Entries.{EncodesEntry}
use Rattle.dbl_demo_wal.specs.Sound.{logged_by, logged_in}
use Rattle.dbl_demo_wal.specs.Wals.{Wal, forms_of}
use Rattle.dbl_demo_workload.specs.Checking.{commit_places}
use Rattle.dbl_demo_laws.specs.Demo.{Demo, IsRunning}
use Rattle.dbl_demo_laws.specs.Reading.{ReadNone}
use Rattle.dbl_demo_laws.proofs.HoldLemmas.{count_places, held_some}

some_at : {A : Type 0} (xs : List A) (n : ℕ) → n < length xs → (x : A) × (slice_get xs n ≡ Some x)
some_at [] n lt = absurd (omega (arith, lt))
some_at (x ∷ xs) zero lt = (x, refl)
some_at (x ∷ xs) (suc n) lt = some_at xs n (omega (arith, lt))

-- not every entry is a commit
log_short : (entries : List Entry) → length (logged_in entries) ≤ length entries
log_short [] = omega arith
log_short (Commits steps messages ∷ entries) = omega (arith, log_short entries)
log_short (Marks steps value ∷ entries) = omega (arith, log_short entries)
log_short (Confirms upto ∷ entries) = omega (arith, log_short entries)

module _ {D : Type 0} (model : DiskModel D) (old : Demo D) (wal : Wal) (place : ReaderPosition) (running : IsRunning model wal old) (at : old.place ≡ Some place) where
  abbrev log : List Logged
  log = logged_in wal.entries

  counted : length old.commits ≡ length log
  counted = ap (λ (l : List ℕ). length l) running.commits ∙ count_places 1 wal.entries

  -- ---- what is held

  -- what is held already
  pub held_already : IsSome old.held → old.held ≡ slice_get log (index_of place)
  held_already some = by old.held refl some
    where
      by : (o : Option Logged) → old.held ≡ o → IsSome o → o ≡ slice_get log (index_of place)
      by None is none = absurd (let wrong : false ≡ true = none in cc)
      by (Some logged) is there = sym (running.reader.held_is place logged at is)

  -- another journal that lists the same, and a commit that is held
  pub holding : (journal : OnDisk D) → Lists model journal (forms_of wal) → (held : Option Logged) → held ≡ slice_get log (index_of place) → IsRunning model wal (record old { journal = journal; held = held })
  holding journal lists held is = record {
    lists = lists;
    is = running.is;
    few = running.few;
    names = running.names;
    tables = running.tables;
    steps = running.steps;
    stands = running.stands;
    silent = running.silent;
    commits = running.commits;
    confirmed = running.confirmed;
    reader = record {
      placed = running.reader.placed;
      recalled = running.reader.recalled;
      held_is = λ p logged there holds. (
          let same : place ≡ p = (let both : ◌≡◌ {A = Option ReaderPosition} (Some place) (Some p) = sym at ∙ there in cc) in
          ap (λ (q : ReaderPosition). slice_get log (index_of q)) (sym same) ∙ sym is ∙ holds);
    };
  }

  module _ (number : ℕ) (numbered : slice_get old.commits (index_of place) ≡ Some number) where
    places : slice_get (commit_places 1 wal.entries) (index_of place) ≡ Some number
    places = ap (λ (l : List ℕ). slice_get l (index_of place)) (sym running.commits) ∙ numbered

    there : (logged : Logged) × (slice_get log (index_of place) ≡ Some logged)
    there = some_at log (index_of place) (omega (arith, slice_get_within (commit_places 1 wal.entries) (index_of place) number places, count_places 1 wal.entries))

    module _ (bytes : List ℕ) (found : slice_get (forms_of wal) number ≡ Some bytes) (read : Option Logged) (tells : (entry : Entry) → EncodesEntry bytes entry → read ≡ logged_by entry) where
      -- the entry with its number spells the commit at the place
      pub read_is : read ≡ slice_get log (index_of place)
      read_is =
          let h = held_some wal running.is (index_of place) number bytes places found there.0 there.1 in
          tells h.0 h.1 ∙ h.2 ∙ sym there.1

      pub read_some : read ≡ None → ⊥
      read_some none = let wrong : ◌≡◌ {A = Option Logged} None (Some there.0) = sym none ∙ read_is ∙ there.1 in cc

  -- ---- nothing is left

  pub read_nothing : length old.commits ≤ index_of place → ReadNone model wal place old
  read_nothing past = record { is = at; end = omega (arith, past, counted); running = running }

  -- ---- one more message

  -- a place of the log has no more commits before it than a wal has entries
  pub place_near : (next : ReaderPosition) → IsPlaceIn log next → next.commits < 2 ^ 40
  place_near next placed = omega (arith, placed.few, log_short wal.entries, running.few)

-- ---- the number of a commit's entry, as it is looked up

pub number_none : (xs : List ℕ) (at : ℕ) (found : Option (Bor ℕ)) → IsItemAt xs at found → option_copied found ≡ None → length xs ≤ at
number_none xs at None item is = item.3
number_none xs at (Some x) item is = absurd (let wrong : ◌≡◌ {A = Option ℕ} (Some x.now) None = is in cc)

pub number_some : (xs : List ℕ) (at number : ℕ) (found : Option (Bor ℕ)) → IsItemAt xs at found → option_copied found ≡ Some number → slice_get xs at ≡ Some number
number_some xs at number None item is = absurd (let wrong : ◌≡◌ {A = Option ℕ} None (Some number) = is in cc)
number_some xs at number (Some x) item is = slice_get_read xs (length xs) at x.now refl item.3.0 item.1 ∙ is
