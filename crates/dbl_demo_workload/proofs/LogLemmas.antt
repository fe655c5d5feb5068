-- A log that is opened, entry by entry: what was checked so far, the first bad one, and the end.
use Rattle.std.proofs.Common.{◌≡◌, ◌∙◌, ℕ, zero, suc, ◌+◌, ◌<◌, ◌≤◌, Option, None, Some, List, [], ◌∷◌, ◌++◌, length, take, refl, sym, ap, subst, arith, inl, inr}
use Rattle.std.specs.Prelude.{slice_get, option_to_list, IfSome}
use Rattle.std.proofs.lemmas.List.{length-map}
use Rattle.dbl_disk.specs.Model.{DiskModel}
use Rattle.dbl_pgmsg.specs.declared.messages.Message.{Message}
use Rattle.dbl_tables.specs.Stands.{Stands}
use Rattle.dbl_demo_wal.specs.declared.entry.Entry.{Entry}
use Rattle.dbl_demo_wal.specs.Entries.{entry_form, workload_form, FitsWalEntry}
use Rattle.dbl_demo_wal.specs.Workloads.{Workload, acts_at, log_at}
use Rattle.dbl_demo_wal.specs.Sound.{HasInitialCommit, IsSilent, session_commits}
use Rattle.dbl_demo_wal.specs.Wals.{Wal, forms_of, IsPrefix, IsFirstBad}
use Rattle.dbl_demo_wal.specs.Wals.IsFirstBad.{no_rows, no_next}
use Rattle.dbl_demo_wal.specs.CrashState.{with_entries}
use Rattle.dbl_demo_wal.proofs.ListLemmas.{fits_push}
use Rattle.dbl_demo_wal.proofs.GrowthLaws.{forms_push, next_push}
use Rattle.dbl_demo_workload.specs.declared.checking.Checked.{Checked}
use Rattle.dbl_demo_workload.proofs.CheckLemmas.{no_less}
use Rattle.dbl_demo_workload.specs.Checking.{Checks, ChecksTo, HasFound, IsBad, IsEntryChecked}
use Rattle.dbl_demo_workload.specs.Logs.{ChecksAll, HasReadParts, IsLogRead, IsOpened, IsReadOnly, ReadsTo}
use Rattle.dbl_demo_workload.specs.Ready.{IsReady}
use Rattle.dbl_demo_workload.specs.Steps.{FitAnEntry}
use Rattle.std.specs.Prelude.{Ok, Err}
use Rattle.dbl_disk.specs.declared.extent.Extent.{Extent}
use Rattle.dbl_journal.specs.Stored.{Lists, OnDisk, count_of}
use Rattle.dbl_journal.proofs.Appends.{length-places}
use Rattle.dbl_demo_workload.specs.declared.error.DemoError.{DemoError}
use Rattle.dbl_demo_workload.specs.declared.error.DemoError.TheVariants as demo

-- ---- the first entry

found_first : (w : Workload) (rows : Option (List Message)) → log_at w 0 ≡ option_to_list rows → IfSome rows FitAnEntry → HasFound w [] 0 rows
found_first w None log fits = record { later = omega arith; there = omega arith; none_between = log }
found_first w (Some rows) log fits = (record { none = refl; are = log; fit = fits }, refl)

module _ (first : List ℕ) (checked : Checked) (script : List ℕ) (w : Workload) (is : first ≡ workload_form script) (ready : IsReady w checked.prepared) (fits : IfSome checked.prepared.rows FitAnEntry) where
  abbrev wal : Wal
  wal = record { script = script; workload = w; entries = [] }

  pub opens_first : IsPrefix (workload_form script ∷ []) wal → checked.done ≡ 0 → checked.commits.items ≡ [] → checked.confirmed ≡ record { 0 = 0 } → IsOpened (first ∷ []) checked
  opens_first front none commits confirmed = record {
    wal = wal;
    front = subst (λ (form : List ℕ). IsPrefix (form ∷ []) wal) (sym is) front;
    checked = record {
      names = ready.names;
      tables = ready.tables;
      steps = ready.steps;
      stands = subst (λ (n : ℕ). Stands w.tables (acts_at w n) checked.prepared.store) (sym none) ready.stands;
      done = none;
      found = subst (λ (n : ℕ). HasFound w [] n checked.prepared.rows) (sym none) (found_first w checked.prepared.rows ready.rows fits);
      commits = commits;
      confirmed = confirmed;
    };
  }

-- ---- one more

pub opened_on : (forms : List (List ℕ)) (old new : Checked) (bytes : List ℕ) (o : IsOpened forms old) → IsEntryChecked o.wal.workload o.wal.entries bytes new → IsOpened (forms ++ bytes ∷ []) new
opened_on forms old new bytes o t = record {
  wal = with_entries o.wal (t.entry ∷ []);
  front = record {
    are = ap (λ (fs : List (List ℕ)). fs ++ bytes ∷ []) o.front.are ∙ ap (λ (w : List ℕ). forms_of o.wal ++ w ∷ []) t.spells.spelled ∙ sym (forms_push o.wal t.entry);
    workload = o.front.workload;
    fits = fits_push FitsWalEntry o.wal.entries t.entry o.front.fits t.spells.fits;
    each = next_push o.wal.workload [] o.wal.entries t.entry o.front.each t.next;
  };
  checked = t.checked;
}

pub take_next : (forms : List (List ℕ)) (index : ℕ) (bytes : List ℕ) → slice_get forms index ≡ Some bytes → take (suc index) forms ≡ take index forms ++ bytes ∷ []
take_next [] index bytes there = absurd (let t = there in cc)
take_next (form ∷ forms) zero bytes there = let same : form ≡ bytes = (let t = there in cc) in ap (λ (f : List ℕ). f ∷ []) same
take_next (form ∷ forms) (suc index) bytes there = ap (λ (l : List (List ℕ)). form ∷ l) (take_next forms index bytes there)

length_taken : (forms : List (List ℕ)) (index : ℕ) → index ≤ length forms → length (take index forms) ≡ index
length_taken forms zero le = refl
length_taken [] (suc index) le = absurd (omega (arith, le))
length_taken (form ∷ forms) (suc index) le = ap suc (length_taken forms index (omega (arith, le)))

-- its number
pub number_is : (forms : List (List ℕ)) (index : ℕ) (old : Checked) (o : IsOpened (take index forms) old) → index ≤ length forms → index ≡ 1 + length o.wal.entries
number_is forms index old o le = omega (arith, length_taken forms index le, ap (λ (l : List (List ℕ)). length l) o.front.are, length-map o.wal.entries entry_form)

-- the first bad one
pub bad_here : (forms : List (List ℕ)) (index : ℕ) (old : Checked) (bytes : List ℕ) (o : IsOpened (take index forms) old) → slice_get forms index ≡ Some bytes → IsBad o.wal.workload o.wal.entries bytes → IsFirstBad forms index
bad_here forms index old bytes o there bad = no_next (record { wal = o.wal; front = o.front; entry = bytes; there = there; none = bad })

-- ---- the end

module _ (forms : List (List ℕ)) (checked : Checked) (o : IsOpened forms checked) where
  abbrev w : Workload
  w = o.wal.workload

  -- the rows' commit was found, or there are no rows
  pub all_read : checked.prepared.rows ≡ None → IsLogRead forms checked
  all_read none =
      let silent : IsSilent w o.wal.entries checked.done = subst (HasFound w o.wal.entries checked.done) none o.checked.found in
      let begun : HasInitialCommit w o.wal.entries = omega (arith, no_less w 0 checked.done (omega arith), ap (λ (l : List (List Message)). length l) silent.none_between) in
      record { opened = o; are = record { are = o.front.are; workload = o.front.workload; fits = o.front.fits; sound = record { each = o.front.each; begun = begun } } }

  -- or it is missing
  pub rows_missing : (rows : List Message) → checked.prepared.rows ≡ Some rows → IsFirstBad forms 1
  rows_missing rows some =
      let found : HasFound w o.wal.entries checked.done (Some rows) = subst (HasFound w o.wal.entries checked.done) some o.checked.found in
      let wanting = found.0 in
      no_rows (record {
        wal = o.wal;
        front = o.front;
        missing = λ begun. absurd (omega (arith, begun, ap (λ (l : List (List Message)). length l) wanting.are, ap (λ (l : List Entry). length (session_commits l)) wanting.none));
        place = omega (arith, ap (λ (l : List (List ℕ)). length l) o.front.are, length-map o.wal.entries entry_form, ap (λ (l : List Entry). length l) wanting.none);
      })

-- ---- a journal that is read

module _ {D : Type 0} (model : DiskModel D) where
  pub not_read : (F : Type 0) (journal : OnDisk D) → (F → ⊥) → IsReadOnly model F journal journal
  not_read F journal none = record {
    disk = record { same = refl; crash = λ crashed may. may; later = omega arith; cause = λ failed. absurd (none failed); steady = λ fine bytes told. refl };
    same = refl;
    lists = λ forms lists. lists;
  }

  pub read_on : (F : Type 0) (first second third : OnDisk D) → IsReadOnly model ⊥ first second → IsReadOnly model F second third → IsReadOnly model F first third
  read_on F first second third a b = record {
    disk = record {
      same = b.disk.same ∙ a.disk.same;
      crash = λ crashed may. a.disk.crash crashed (b.disk.crash crashed may);
      later = omega (arith, a.disk.later, b.disk.later);
      cause = λ failed. omega (arith, b.disk.cause failed, a.disk.later);
      steady = λ fine bytes told. b.disk.steady fine bytes (a.disk.same ∙ told) ∙ a.disk.steady (λ no. no) bytes told;
    };
    same = b.same ∙ ap (λ (j : OnDisk D). let x : OnDisk D = record j { disk = third.disk } in x) a.same;
    lists = λ forms lists. b.lists forms (a.lists forms lists);
  }

  -- two answers that both tell that the disk failed, or both don't
  pub read_moved : (F G : Type 0) (old new : OnDisk D) → (G → F) → (F → G) → IsReadOnly model F old new → IsReadOnly model G old new
  read_moved F G old new to from a = record {
    disk = record { same = a.disk.same; crash = a.disk.crash; later = a.disk.later; cause = λ g. a.disk.cause (to g); steady = λ none. a.disk.steady (λ f. none (from f)) };
    same = a.same;
    lists = a.lists;
  }

-- ---- entry by entry

there_within : {A : Type 0} (xs : List A) (n : ℕ) (x : A) → slice_get xs n ≡ Some x → n < length xs
there_within [] n x there = absurd (let t = there in cc)
there_within (y ∷ xs) zero x there = omega arith
there_within (y ∷ xs) (suc n) x there = omega (arith, there_within xs n x there)

take_all : {A : Type 0} (xs : List A) (n : ℕ) → length xs ≤ n → take n xs ≡ xs
take_all [] zero le = refl
take_all [] (suc n) le = refl
take_all {A = A} (x ∷ xs) zero le = absurd (omega (arith, le))
take_all {A = A} (x ∷ xs) (suc n) le = ap (λ (l : List A). x ∷ l) (take_all xs n (omega (arith, le)))

module _ {D : Type 0} (model : DiskModel D) where
  -- the entries before this number were checked
  pub record IsCheckedTo (old now : OnDisk D) (was is : Checked) (number : ℕ) : Type 0 where
    pub parts : HasReadParts number is
    pub read : IsReadOnly model ⊥ old now
    pub so : (forms : List (List ℕ)) → Lists model old forms → (first : List ℕ) (others : List (List ℕ)) → forms ≡ first ∷ others → IsOpened (first ∷ []) was → IsOpened (take number forms) is

  pub check_begins : (journal : OnDisk D) (checked : Checked) → HasReadParts 1 checked → IsCheckedTo journal journal checked checked 1
  check_begins journal checked parts = record {
    parts = parts;
    read = not_read model ⊥ journal (λ no. no);
    so = λ forms lists first others are opened. subst (λ (fs : List (List ℕ)). IsOpened (take 1 fs) checked) (sym are) opened;
  }

  module _ (old now next : OnDisk D) (was is : Checked) (number : ℕ) (to : IsCheckedTo old now was is number) (bytes : List ℕ) (read : IsReadOnly model ⊥ now next)
      (found : (forms : List (List ℕ)) → Lists model now forms → slice_get forms number ≡ Some bytes) where
    there : (forms : List (List ℕ)) → Lists model old forms → slice_get forms number ≡ Some bytes
    there forms lists = found forms (to.read.lists forms lists)

    pub check_goes : (new : Checked) → Checks number bytes is new (Ok tt) → HasReadParts (number + 1) new → IsCheckedTo old next was new (number + 1)
    check_goes new checks parts = record {
      parts = parts;
      read = read_on model ⊥ old now next to.read read;
      so = λ forms lists first others are opened. (
          let o = to.so forms lists first others are opened in
          let here = there forms lists in
          let within = there_within forms number bytes here in
          let taken : IsEntryChecked o.wal.workload o.wal.entries bytes new = checks o.wal.workload o.wal.entries (number_is forms number is o (omega (arith, within))) o.checked in
          let more : number + 1 ≡ suc number = omega arith in
          subst (λ (fs : List (List ℕ)). IsOpened fs new) (sym (ap (λ (n : ℕ). take n forms) more ∙ take_next forms number bytes here)) (opened_on (take number forms) is new bytes o taken));
    }

    -- the entry is the first bad one, or memory ran out
    pub check_stops : (new : Checked) (e : DemoError) → Checks number bytes is new (Err e) → (forms : List (List ℕ)) → Lists model old forms → ChecksAll forms was new (Err e)
    check_stops new e checks forms lists first others are opened =
        let o = to.so forms lists first others are opened in
        let here = there forms lists in
        let within = there_within forms number bytes here in
        told e (checks o.wal.workload o.wal.entries (number_is forms number is o (omega (arith, within))) o.checked) (λ bad. bad_here forms number is bytes o here bad)
      where
        told : {w : Workload} {entries : List Entry} (e : DemoError) → ChecksTo number w entries bytes new (Err e) → (IsBad w entries bytes → IsFirstBad forms number) → ReadsTo forms new (Err e)
        told (demo.BadEntry index) says bad = inr (inr (number, ap (λ (n : ℕ). demo.BadEntry n) says.0, bad says.1))
        told demo.Memory says bad = inl refl
        told (demo.Journal e) says bad = absurd says
        told (demo.Script e) says bad = absurd says
        told (demo.Model e) says bad = absurd says

  pub check_ends : (old now : OnDisk D) (was is : Checked) (number : ℕ) → IsCheckedTo old now was is number → count_of old ≤ number → (forms : List (List ℕ)) → Lists model old forms → ChecksAll forms was is (Ok tt)
  check_ends old now was is number to all forms lists first others are opened =
      let count : length old.places ≡ length forms = ap (λ (l : List Extent). length l) lists.places ∙ length-places forms 8 in
      subst (λ (fs : List (List ℕ)). IsOpened fs is) (take_all forms number (omega (arith, all, count))) (to.so forms lists first others are opened)
