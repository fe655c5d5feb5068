-- What the source is after a step, after a watermark and after a confirmed position, from what the journal lists and the store represents.
use Rattle.std.proofs.Common.{◌≡◌, ◌∙◌, ◌⊎◌, ℕ, zero, suc, ◌+◌, ◌<◌, ◌^◌, Option, Some, List, [], ◌∷◌, ◌++◌, length, map, refl, sym, ap, subst, arith, inl, inr}
use Rattle.std.specs.Prelude.{slice_get}
use Rattle.std.proofs.lemmas.List.{append-nil, length-map}
use Rattle.std.proofs.lemmas.List.Elements.{filter_map-append}
use Rattle.dbl_base.specs.declared.lsn.Lsn.{Lsn}
use Rattle.dbl_disk.specs.Model.{DiskModel}
use Rattle.dbl_pgmsg.specs.declared.messages.RelationColumn.{RelationColumn}
use Rattle.dbl_source.specs.SourceLog.declared.logged.LogTable.{LogTable}
use Rattle.dbl_source.specs.SourceLog.declared.logged.Logged.{Logged}
use Rattle.dbl_source.specs.SourceLog.declared.reader_position.ReaderPosition.{ReaderPosition}
use Rattle.dbl_source.specs.SourceLog.Sent.{index_of}
use Rattle.dbl_source.proofs.SourceLogSentLemmas.{stays}
use Rattle.dbl_source.proofs.LogStates.{placed_on}
use Rattle.dbl_journal.specs.Form.{IsJournal}
use Rattle.dbl_journal.specs.Stored.{LeavesEntries, Lists, OnDisk}
use Rattle.dbl_journal.proofs.Appends.{length-places}
use Rattle.dbl_demo_workload.specs.Tables.declared.tables.Tables.{Tables}
use Rattle.dbl_demo_workload.specs.Tables.Stands.{Stands}
use Rattle.dbl_demo_workload.specs.DemoWal.declared.entry.Entry.{Entry}
use Rattle.dbl_demo_workload.specs.DemoWal.Entries.{entry_form, FitsWalEntry}
use Rattle.dbl_demo_workload.specs.DemoWal.Workloads.{acts_at}
use Rattle.dbl_demo_workload.specs.DemoWal.Sound.{IsNextEntry, IsSilent, logged_by, logged_in}
use Rattle.dbl_demo_workload.specs.DemoWal.Wals.{Wal, IsWalOf, forms_of}
use Rattle.dbl_demo_workload.specs.DemoWal.Standings.{confirmed_of}
use Rattle.dbl_demo_workload.specs.DemoWal.CrashState.{IsLeftOf, LeavesWal, with_entries}
use Rattle.dbl_demo_workload.proofs.DemoWalGrowthLaws.{forms_push, go_on}
use Rattle.dbl_demo_laws.specs.Demo.{AreRecalled, Demo, IsReader, IsRunning}
use Rattle.dbl_demo_laws.specs.Reading.{IsLogged, LeavesLogged}
use Rattle.dbl_demo_laws.specs.Running.{IsRunOf, LeavesRun, Ran}
use Rattle.dbl_demo_workload.proofs.StepLemmas.{commit_next, places_append, silent_after, silent_next}
use Rattle.dbl_demo_workload.specs.Checking.{commit_places}
use Rattle.dbl_demo_workload.specs.Steps.{IsNextRun}
use Rattle.std.specs.Prelude.{option_to_list, None}
use Rattle.std.proofs.lemmas.List.{length-append}
use Rattle.dbl_pgmsg.specs.declared.messages.Message.{Message}
use Rattle.dbl_journal.specs.Stored.{count_of}
use Rattle.dbl_demo_workload.specs.Script.declared.script.Step.{Step}
use Rattle.dbl_demo_workload.specs.DemoWal.declared.entry.Entry.TheVariants.{Commits}
use Rattle.dbl_demo_workload.specs.DemoWal.Workloads.{log_at, steps_of}
use Rattle.dbl_demo_workload.specs.DemoWal.Groups.{entry_of_step, released}
use Rattle.dbl_demo_workload.specs.DemoWal.Wals.{IsWal}
use Rattle.dbl_demo_workload.specs.DemoWal.CrashState.{added_by}
use Rattle.dbl_demo_workload.proofs.DemoWalGroupLemmas.{confirmed_from-append, entry_of_step_is, released_one}

-- ---- the reader of a log that grows

there_on : {A : Type 0} (xs ys : List A) (n : ℕ) (x : A) → slice_get xs n ≡ Some x → slice_get (xs ++ ys) n ≡ Some x
there_on [] ys n x there = absurd (let t = there in cc)
there_on (y ∷ xs) ys zero x there = there
there_on (y ∷ xs) ys (suc n) x there = there_on xs ys n x there

pub reader_on : (tables : List LogTable) (log more : List Logged) (place : Option ReaderPosition) (described : List (ℕ × List RelationColumn)) (held : Option Logged) → IsReader tables log place described held → IsReader tables (log ++ more) place described held
reader_on tables log more place described held reader = record {
  placed = λ p is. placed_on log more p (reader.placed p is);
  recalled = λ p is. subst (AreRecalled described) (sym (stays tables log more p (reader.placed p is))) (reader.recalled p is);
  held_is = λ p logged is holds. there_on log more (index_of p) logged (reader.held_is p logged is holds);
}

-- ---- one more entry

abbrev pub one_more : Wal → Entry → Wal
one_more wal entry = with_entries wal (entry ∷ [])

logged_push : (entries : List Entry) (entry : Entry) → logged_in (entries ++ entry ∷ []) ≡ logged_in entries ++ logged_in (entry ∷ [])
logged_push entries entry = filter_map-append logged_by entries (entry ∷ [])

-- what the journal lists is the wal with the entry
pub lists_push : {D : Type 0} (model : DiskModel D) (journal : OnDisk D) (wal : Wal) (entry : Entry) (form : List ℕ) → form ≡ entry_form entry → Lists model journal (forms_of wal ++ form ∷ [])
    → Lists model journal (forms_of (one_more wal entry))
lists_push model journal wal entry form is lists =
    subst (Lists model journal) (ap (λ (w : List ℕ). forms_of wal ++ w ∷ []) is ∙ sym (forms_push wal entry)) lists

-- and what is left while it is appended is the wal, or the wal with it
pub leaves_push : {D : Type 0} (model : DiskModel D) (disk : D) (wal : Wal) (entry : Entry) (form : List ℕ) → form ≡ entry_form entry → IsWalOf (forms_of wal) wal → length wal.entries + 1 < 2 ^ 40 → FitsWalEntry entry
    → IsNextEntry wal.workload wal.entries entry → LeavesEntries model disk (λ left. (left ≡ forms_of wal) ⊎ (left ≡ forms_of wal ++ form ∷ [])) → LeavesWal model disk (IsLeftOf wal (entry ∷ []))
leaves_push model disk wal entry form is sound few fits next leaves crashed may =
    let here = leaves crashed may in
    elim here.2 [
      | inl same ↦ (
          let none : with_entries wal [] ≡ wal = ap (λ (l : List Entry). let x : Wal = record wal { entries = l } in x) (append-nil wal.entries) in
          (wal, record { forms = forms_of wal; journal = subst (IsJournal crashed) same here.1; are = sound; few = omega (arith, few) }, record { count = 0; is = sym none }))
      | inr same ↦ (
          let whole : here.0 ≡ forms_of (one_more wal entry) = same ∙ ap (λ (w : List ℕ). forms_of wal ++ w ∷ []) is ∙ sym (forms_push wal entry) in
          (one_more wal entry, record { forms = forms_of (one_more wal entry); journal = subst (IsJournal crashed) whole here.1; are = go_on wal entry sound fits next; few = omega (arith, few, length-push wal.entries entry) }, record { count = 1; is = refl }))
    ]
  where
    length-push : (entries : List Entry) (entry : Entry) → length (entries ++ entry ∷ []) ≡ length entries + 1
    length-push [] entry = refl
    length-push (x ∷ entries) entry = omega (arith, length-push entries entry)

-- ---- after a step

module _ {D : Type 0} (model : DiskModel D) (wal : Wal) (old : Demo D) (running : IsRunning model wal old) where
  -- one that committed nothing
  pub running_silent : (store : Tables) → Stands wal.workload.tables (acts_at wal.workload (suc old.done)) store → IsSilent wal.workload wal.entries (suc old.done) → IsRunning model wal (record old { store = store; done = suc old.done })
  running_silent store stands silent = record {
    lists = running.lists;
    is = running.is;
    few = running.few;
    names = running.names;
    tables = running.tables;
    steps = running.steps;
    stands = stands;
    silent = silent;
    commits = running.commits;
    confirmed = running.confirmed;
    reader = running.reader;
  }

  -- an entry of any kind was appended: what it changes is told
  pub running_entry : (entry : Entry) (journal : OnDisk D) (store : Tables) (done : ℕ) (commits : List ℕ) (confirmed : Lsn) → Lists model journal (forms_of (one_more wal entry)) → FitsWalEntry entry → IsNextEntry wal.workload wal.entries entry
      → length (one_more wal entry).entries < 2 ^ 40 → Stands wal.workload.tables (acts_at wal.workload done) store → IsSilent wal.workload (one_more wal entry).entries done → commits ≡ commit_places 1 (one_more wal entry).entries
      → confirmed ≡ confirmed_of (one_more wal entry) → IsRunning model (one_more wal entry) (record old { journal = journal; store = store; done = done; commits = commits; confirmed = confirmed })
  running_entry entry journal store done commits confirmed lists fits next few stands silent commits_are confirmed_is = record {
    lists = lists;
    is = go_on wal entry running.is fits next;
    few = few;
    names = running.names;
    tables = running.tables;
    steps = running.steps;
    stands = stands;
    silent = silent;
    commits = commits_are;
    confirmed = confirmed_is;
    reader = subst (λ (log : List Logged). IsReader old.tables log old.place old.described old.held) (sym (logged_push wal.entries entry))
        (reader_on old.tables (logged_in wal.entries) (logged_in (entry ∷ [])) old.place old.described old.held running.reader);
  }

  -- how many entries the journal has: the workload's, and the wal's
  pub count_is : length old.journal.places ≡ 1 + length wal.entries
  count_is = ap length running.lists.places ∙ length-places (forms_of wal) 8 ∙ omega (arith, length-map wal.entries entry_form)

-- ---- a step that was run

module _ {D : Type 0} (model : DiskModel D) (wal : Wal) (old : Demo D) (running : IsRunning model wal old) (left : old.done < length old.steps) where
  -- it is one of the workload's
  left_in : old.done < length (steps_of wal.workload)
  left_in = omega (arith, left, ap (λ (l : List Step). length l) running.steps)

  more : old.done + 1 ≡ suc old.done
  more = omega arith

  module _ (store : Tables) where
    -- after it, before anything is appended
    abbrev pub stepped : Demo D
    stepped = record old { store = store; done = old.done + 1 }

    stands_next : (committed : Option (List Message)) → IsNextRun wal.workload old.done committed store → Stands wal.workload.tables (acts_at wal.workload (suc old.done)) store
    stands_next committed next = subst (λ (n : ℕ). Stands wal.workload.tables (acts_at wal.workload n) store) more next.stands

    log_more : (committed : Option (List Message)) → IsNextRun wal.workload old.done committed store → log_at wal.workload (suc old.done) ≡ log_at wal.workload old.done ++ option_to_list committed
    log_more committed next = ap (log_at wal.workload) (sym more) ∙ next.log

    -- what it adds to the wal
    added_one : (committed : Option (List Message)) → IsNextRun wal.workload old.done committed store → added_by wal old.done (old.done + 1) [] ≡ map (Commits (suc old.done)) (option_to_list committed)
    added_one committed next =
        append-nil (released wal.workload old.done (old.done + 1)) ∙ released_one wal.workload old.done ∙ append-nil (entry_of_step wal.workload old.done)
        ∙ entry_of_step_is wal.workload old.done committed (log_more committed next)

    with_none : with_entries wal [] ≡ wal
    with_none = ap (λ (l : List Entry). let x : Wal = record wal { entries = l } in x) (append-nil wal.entries)

    -- nothing was committed
    pub ran_silent : IsNextRun wal.workload old.done None store → Ran model wal (old.done + 1) [] old stepped
    ran_silent next =
        let added = added_one None next in
        let silent = silent_next wal.workload wal.entries old.done running.silent left_in (log_more None next) in
        let here : IsRunning model wal (record old { store = store; done = suc old.done }) = running_silent model wal old running store (stands_next None next) silent in
        let moved : IsRunning model wal stepped = subst (λ (n : ℕ). IsRunning model wal (record old { store = store; done = n })) (sym more) here in
        record {
          running = subst (λ (x : Wal). IsRunning model x stepped) (sym (ap (with_entries wal) added ∙ with_none)) moved;
          done = refl;
        }

    -- the disk is as it was: it holds the wal, and nothing of what the step adds
    pub left_alone : (new : Demo D) (upto : ℕ) → new.journal ≡ old.journal → LeavesRun model wal upto [] old new
    left_alone new upto same crashed may =
        let there : model.may_leave old.journal.disk crashed = subst (λ (j : OnDisk D). model.may_leave j.disk crashed) same may in
        let is : crashed ≡ running.lists.bytes = running.lists.only crashed there in
        (wal, subst (λ (bytes : List ℕ). IsWal bytes wal) (sym is) (record { forms = forms_of wal; journal = running.lists.spelled; are = running.is; few = running.few }), record { count = 0; is = sym with_none })

    module _ (messages : List Message) (next : IsNextRun wal.workload old.done (Some messages) store) (fits : FitsWalEntry (Commits (old.done + 1) messages)) (small : count_of old.journal < 2 ^ 40) where
      abbrev entry : Entry
      entry = Commits (suc old.done) messages

      same_entry : Commits (old.done + 1) messages ≡ entry
      same_entry = ap (λ (n : ℕ). Commits n messages) more

      fits_entry : FitsWalEntry entry
      fits_entry = subst FitsWalEntry same_entry fits

      next_entry : IsNextEntry wal.workload wal.entries entry
      next_entry = commit_next wal.workload wal.entries old.done running.silent left_in messages (log_more (Some messages) next)

      few_more : length wal.entries + 1 < 2 ^ 40
      few_more = omega (arith, small, count_is model wal old running)

      wal_more : with_entries wal (added_by wal old.done (old.done + 1) []) ≡ one_more wal entry
      wal_more = ap (with_entries wal) (added_one (Some messages) next)

      -- the commit was appended
      pub ran_logged : (new : Demo D) → IsLogged model messages stepped new → IsRunOf stepped new → (new.done ≡ old.done + 1) × (new.store ≡ store) → Ran model wal (old.done + 1) [] old new
      ran_logged new logged same stays =
          let form : entry_form (Commits (old.done + 1) messages) ≡ entry_form entry = ap entry_form same_entry in
          let lists = lists_push model new.journal wal entry (entry_form (Commits (old.done + 1) messages)) form (logged.lists (forms_of wal) running.lists) in
          let silent = silent_after wal.workload wal.entries old.done running.silent left_in messages (log_more (Some messages) next) in
          let number : length old.journal.places ≡ 1 + length wal.entries = count_is model wal old running in
          let commits : new.commits ≡ commit_places 1 (one_more wal entry).entries =
          logged.commits ∙ ap (λ (l : List ℕ). l ++ length old.journal.places ∷ []) running.commits ∙ ap (λ (n : ℕ). commit_places 1 wal.entries ++ n ∷ []) number ∙ sym (places_append 1 wal.entries (entry ∷ [])) in
          let confirmed : old.confirmed ≡ confirmed_of (one_more wal entry) = running.confirmed ∙ sym (confirmed_from-append (record { 0 = 0 }) wal.entries (entry ∷ [])) in
          let here : IsRunning model (one_more wal entry) (record old { journal = new.journal; store = store; done = suc old.done; commits = new.commits; confirmed = old.confirmed }) =
          running_entry model wal old running entry new.journal store (suc old.done) new.commits old.confirmed lists fits_entry next_entry (omega (arith, few_more, length-append wal.entries (entry ∷ []))) (stands_next (Some messages) next) silent commits confirmed in
          let is : record old { journal = new.journal; store = store; done = suc old.done; commits = new.commits; confirmed = old.confirmed } ≡ new =
          ap (λ (n : ℕ). let x : Demo D = record old { journal = new.journal; store = store; done = n; commits = new.commits } in x) (sym more ∙ sym stays.0)
          ∙ ap (λ (s : Tables). let x : Demo D = record old { journal = new.journal; store = s; done = new.done; commits = new.commits } in x) (sym stays.1) ∙ sym same in
          record {
            running = subst (λ (x : Wal). IsRunning model x new) (sym wal_more) (subst (IsRunning model (one_more wal entry)) is here);
            done = stays.0;
          }

      -- or it was being appended
      pub left_logged : (new : Demo D) → LeavesLogged model messages stepped new → LeavesRun model wal (old.done + 1) [] old new
      left_logged new leaves =
          let form : entry_form (Commits (old.done + 1) messages) ≡ entry_form entry = ap entry_form same_entry in
          subst (λ (l : List Entry). LeavesWal model new.journal.disk (IsLeftOf wal l)) (sym (added_one (Some messages) next))
          (leaves_push model new.journal.disk wal entry (entry_form (Commits (old.done + 1) messages)) form running.is few_more fits_entry next_entry (leaves (forms_of wal) running.lists))
