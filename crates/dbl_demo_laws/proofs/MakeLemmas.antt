-- The wal with which a source of a workload begins: the workload, and the commit of its rows, where there are rows.
use Rattle.std.proofs.Common.{◌≡◌, ◌∙◌, ℕ, ◌+◌, ◌<◌, ◌≤◌, ◌^◌, true, false, Option, None, Some, List, [], ◌∷◌, ◌++◌, length, max, refl, sym, ap, subst, arith}
use Rattle.std.specs.Prelude.{IfSome, IsTrue, option_to_list}
use Rattle.std.specs.List.{AllByRecursion}
use Rattle.dbl_disk.specs.Model.{DiskModel}
use Rattle.dbl_pgmsg.specs.declared.messages.Message.{Message}
use Rattle.dbl_journal.specs.Stored.{Lists, OnDisk, size}
use Rattle.dbl_journal.proofs.Appends.{up_to_gate-nil, length-up_to_gate-push, length-magic}
use Rattle.dbl_source.specs.SourceLog.declared.logged.LogTable.{LogTable}
use Rattle.dbl_source.specs.SourceLog.declared.logged.Logged.{Logged}
use Rattle.dbl_source.specs.SourceLog.declared.reader_position.ReaderPosition.{ReaderPosition}
use Rattle.dbl_demo_workload.specs.Tables.Stands.{Stands}
use Rattle.dbl_demo_workload.specs.DemoWal.declared.entry.Entry.{Entry}
use Rattle.dbl_demo_workload.specs.DemoWal.declared.entry.Entry.TheVariants.{Commits}
use Rattle.dbl_demo_workload.specs.DemoWal.Entries.{FitsWalEntry, EncodesEntry, entry_form, workload_form}
use Rattle.dbl_demo_workload.specs.TablesRows.Sending.{entry_limit, entry_size}
use Rattle.dbl_demo_workload.specs.DemoWal.Sound.{HasInitialCommit, IsSilent, IsSound, session_commits, confirmed_in, logged_in, steps_in}
use Rattle.dbl_demo_workload.specs.DemoWal.Wals.{IsWalOf, Wal, forms_of}
use Rattle.dbl_demo_workload.specs.DemoWal.Workloads.{IsWorkload, Workload, acts_at, log_at}
use Rattle.dbl_demo_workload.proofs.DemoWalSizeLemmas.{commit_size, few_in}
use Rattle.dbl_demo_workload.specs.declared.preparing.Prepared.{Prepared}
use Rattle.dbl_demo_workload.specs.Checking.{commit_places}
use Rattle.dbl_demo_workload.specs.Ready.{IsReady}
use Rattle.dbl_demo_workload.specs.Steps.{FitAnEntry}
use Rattle.dbl_demo_workload.proofs.WorkloadLemmas.{rows_fit}
use Rattle.dbl_demo_laws.specs.Demo.{Demo, IsDemo, IsReader, IsRunning}
use Rattle.dbl_demo_laws.specs.Made.{IsFirstWal, first_entries, first_forms}

-- the entries of the rows' commit
abbrev pub rows_entries : Option (List Message) → List Entry
rows_entries rows = first_entries (option_to_list rows)

module _ (script : List ℕ) (w : Workload) (is : IsWorkload script w) (rows : Option (List Message)) (log : log_at w 0 ≡ option_to_list rows) where
  abbrev pub first_wal : Wal
  first_wal = record { script = script; workload = w; entries = rows_entries rows }

  entries_are : first_wal.entries ≡ first_entries (log_at w 0)
  entries_are = ap first_entries (sym log)

  is_first : IsFirstWal script first_wal
  is_first = record { script = refl; workload = is; entries = entries_are }

  forms_are : (o : Option (List Message)) → forms_of (record { script = script; workload = w; entries = rows_entries o }) ≡ first_forms script o
  forms_are None = refl
  forms_are (Some messages) = refl

  committed : (o : Option (List Message)) → session_commits (rows_entries o) ≡ option_to_list o
  committed None = refl
  committed (Some messages) = refl

  steps_none : (o : Option (List Message)) → steps_in (rows_entries o) ≡ 0
  steps_none None = refl
  steps_none (Some messages) = refl

  confirmed_none : (o : Option (List Message)) → confirmed_in (rows_entries o) ≡ record { 0 = 0 }
  confirmed_none None = refl
  confirmed_none (Some messages) = refl

  few_first : (o : Option (List Message)) → length (rows_entries o) < 2 ^ 40
  few_first None = omega arith
  few_first (Some messages) = omega arith

  silent_first : IsSilent w (rows_entries rows) 0
  silent_first = record { later = omega (arith, steps_none rows); there = omega arith; none_between = log ∙ sym (committed rows) }

  begun_first : HasInitialCommit w (rows_entries rows)
  begun_first = omega (arith, ap (λ (l : List (List Message)). length l) (log ∙ sym (committed rows)))

  sound_first : (o : Option (List Message)) → log_at w 0 ≡ option_to_list o → HasInitialCommit w (rows_entries o) → IsSound w (rows_entries o)
  sound_first None log_is begun = record { each = tt; begun = begun }
  sound_first (Some messages) log_is begun = record { each = (record { later = omega arith; there = omega arith; none_between = refl; is = log_is }, tt); begun = begun }

  fits_first : (o : Option (List Message)) → IfSome o FitAnEntry → AllByRecursion FitsWalEntry (rows_entries o)
  fits_first None fits = tt
  fits_first (Some messages) fits = (record { steps_fit = omega arith; few = few_in messages fits.short; each = fits.each }, tt)

  is_wal : IfSome rows FitAnEntry → IsWalOf (forms_of first_wal) first_wal
  is_wal fits = record { are = refl; workload = is; fits = fits_first rows fits; sound = sound_first rows log begun_first }

-- the numbers of the first commits
abbrev pub first_places : Option (List Message) → List ℕ
first_places None = []
first_places (Some messages) = 1 ∷ []

pub places_are : (o : Option (List Message)) → commit_places 1 (rows_entries o) ≡ first_places o
places_are None = refl
places_are (Some messages) = refl

-- ---- the source

module _ {D : Type 0} (model : DiskModel D) (script : List ℕ) (w : Workload) (is : IsWorkload script w) (ready : Prepared) (of : IsReady w ready) (demo : Demo D) where
  abbrev wal_of_rows : Wal
  wal_of_rows = first_wal script w is ready.rows of.rows

  first_running : Lists model demo.journal (first_forms script ready.rows) → demo.names ≡ ready.names.items → demo.tables ≡ ready.tables.items → demo.store ≡ ready.store → demo.steps ≡ ready.steps.items → demo.done ≡ 0 → demo.commits ≡ first_places ready.rows
      → demo.confirmed ≡ record { 0 = 0 } → demo.place ≡ None → IsRunning model wal_of_rows demo
  first_running lists names tables store steps done commits confirmed place = record {
    lists = subst (Lists model demo.journal) (sym (forms_are script w is ready.rows of.rows ready.rows)) lists;
    is = is_wal script w is ready.rows of.rows (rows_fit script w ready is of);
    few = few_first script w is ready.rows of.rows ready.rows;
    names = names ∙ of.names;
    tables = tables ∙ of.tables;
    steps = steps ∙ of.steps;
    stands = subst (λ (n : ℕ). Stands w.tables (acts_at w n) demo.store) (sym done) (subst (Stands w.tables (acts_at w 0)) (sym store) of.stands);
    silent = subst (λ (n : ℕ). IsSilent w (rows_entries ready.rows) n) (sym done) (silent_first script w is ready.rows of.rows);
    commits = commits ∙ sym (places_are ready.rows);
    confirmed = confirmed ∙ sym (confirmed_none script w is ready.rows of.rows ready.rows);
    reader = reads demo.tables (logged_in (rows_entries ready.rows));
  }
    where
      nowhere : (p : ReaderPosition) → demo.place ≡ Some p → ⊥
      nowhere p there = let both : None ≡ Some p = sym place ∙ there in cc

      reads : (tables : List LogTable) (log : List Logged) → IsReader tables log demo.place demo.described demo.held
      reads tables log = record {
        placed = λ p there. absurd (nowhere p there);
        recalled = λ p there. absurd (nowhere p there);
        held_is = λ p logged there holds. absurd (nowhere p there);
      }

  -- it represents its first wal
  pub made_first : IsTrue demo.live → demo.ended ≡ false → Lists model demo.journal (first_forms script ready.rows) → demo.names ≡ ready.names.items → demo.tables ≡ ready.tables.items → demo.store ≡ ready.store → demo.steps ≡ ready.steps.items → demo.done ≡ 0
      → demo.commits ≡ first_places ready.rows → demo.confirmed ≡ record { 0 = 0 } → demo.place ≡ None → (wal : Wal) × IsDemo model wal demo × IsFirstWal script wal × (demo.done ≡ 0)
  made_first live ended lists names tables store steps done commits confirmed place = (
    wal_of_rows,
    record {
      live = live;
      running = first_running lists names tables store steps done commits confirmed place;
      ended = λ on. absurd (let wrong : true ≡ false = sym on ∙ ended in cc);
    },
    is_first script w is ready.rows of.rows,
    done,
  )

-- ---- how long it is

size_one : (a : List ℕ) → size (a ∷ []) ≡ 14 + length a
size_one a = omega (arith, length-up_to_gate-push [] a, ap (λ (l : List ℕ). length l) up_to_gate-nil, length-magic)

size_two : (a b : List ℕ) → size (a ∷ b ∷ []) ≡ 19 + length a + length b
size_two a b = omega (arith, length-up_to_gate-push (a ∷ []) b, size_one a)

workload_size : (script : List ℕ) → length (workload_form script) ≡ 1 + length script
unfolding workload_form
workload_size script = omega arith

-- the workload alone is no longer than it is with its rows
pub first_less : (script : List ℕ) (rows : Option (List Message)) → size (workload_form script ∷ []) ≤ size (first_forms script rows)
first_less script None = omega arith
first_less script (Some messages) = omega (arith, size_one (workload_form script), size_two (workload_form script) (entry_form (Commits 0 messages)))

pub first_small : (script : List ℕ) (rows : Option (List Message)) → length script < 2 ^ 28 → IfSome rows FitAnEntry → size (first_forms script rows) ≤ 2 ^ 30
first_small script None short fits = omega (arith, short, size_one (workload_form script), workload_size script)
first_small script (Some messages) short fits =
    let few : entry_size messages ≤ entry_limit = fits.short in
    omega (arith, short, few, size_two (workload_form script) (entry_form (Commits 0 messages)), workload_size script, commit_size 0 messages)

-- an empty journal is shorter
pub none_small : size [] ≤ 2 ^ 30
none_small = omega (arith, ap (λ (l : List ℕ). length l) up_to_gate-nil, length-magic)

-- what grew twice, the first time less far
pub grew_twice : (old mid new first all : ℕ) → mid ≤ max old first → new ≤ max mid all → first ≤ all → new ≤ max old all
grew_twice old mid new first all once again less = omega (arith, once, again, less)

pub grew_once : (old new first all : ℕ) → new ≤ max old first → first ≤ all → new ≤ max old all
grew_once old new first all once less = omega (arith, once, less)

-- ---- what the journal lists

module _ {D : Type 0} (model : DiskModel D) (journal : OnDisk D) (script form : List ℕ) where
  pub workload_listed : form ≡ workload_form script → Lists model journal ([] ++ form ∷ []) → Lists model journal (workload_form script ∷ [])
  workload_listed is lists = subst (λ (w : List ℕ). Lists model journal (w ∷ [])) is lists

  pub rows_listed : (messages : List Message) → EncodesEntry form (Commits 0 messages) → Lists model journal ((workload_form script ∷ []) ++ form ∷ []) → Lists model journal (first_forms script (Some messages))
  rows_listed messages spells lists = subst (λ (w : List ℕ). Lists model journal (workload_form script ∷ w ∷ [])) spells.spelled lists
