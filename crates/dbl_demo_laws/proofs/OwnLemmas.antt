-- A watermark or a confirmed position after the group that its call ran.
use Rattle.std.proofs.Common.{◌≡◌, ◌∙◌, ◌⊎◌, ℕ, ◌+◌, ◌<◌, ◌^◌, List, [], ◌∷◌, ◌++◌, length, refl, sym, ap, subst, arith, length-append}
use Rattle.std.proofs.lemmas.List.{append-nil}
use Rattle.dbl_base.specs.declared.lsn.Lsn.{Lsn}
use Rattle.dbl_disk.specs.Model.{DiskModel}
use Rattle.dbl_journal.specs.Stored.{LeavesEntries, Lists, OnDisk, count_of}
use Rattle.dbl_demo_workload.specs.DemoWal.declared.entry.Entry.{Entry}
use Rattle.dbl_demo_workload.specs.DemoWal.declared.entry.Entry.TheVariants.{Confirms, Marks}
use Rattle.dbl_demo_workload.specs.DemoWal.Entries.{FitsWalEntry, entry_form}
use Rattle.dbl_demo_workload.specs.DemoWal.Groups.{released}
use Rattle.dbl_demo_workload.specs.DemoWal.Sound.{IsNextEntry, IsSilent}
use Rattle.dbl_demo_workload.specs.DemoWal.Wals.{Wal, forms_of}
use Rattle.dbl_demo_workload.specs.DemoWal.Standings.{confirmed_of}
use Rattle.dbl_demo_workload.specs.DemoWal.CrashState.{IsLeftOf, LeavesWal, added_by, with_entries}
use Rattle.dbl_demo_workload.proofs.DemoWalGroupLemmas.{confirmed_from-append}
use Rattle.dbl_demo_workload.specs.Checking.{commit_places}
use Rattle.dbl_demo_workload.proofs.StepLemmas.{places_append, silent_confirm, silent_mark}
use Rattle.dbl_demo_laws.specs.Demo.{Demo, IsRunning}
use Rattle.dbl_demo_laws.specs.Running.{Ran}
use Rattle.dbl_demo_laws.proofs.LoopLemmas.{left_on, with_plus}
use Rattle.dbl_demo_laws.proofs.RunLemmas.{count_is, leaves_push, lists_push, one_more, running_entry}

-- the entry after what the steps added is what the call adds
pub own_wal : (wal : Wal) (done upto : ℕ) (entry : Entry) → one_more (with_entries wal (added_by wal done upto [])) entry ≡ with_entries wal (added_by wal done upto (entry ∷ []))
own_wal wal done upto entry =
    with_plus wal (added_by wal done upto []) (entry ∷ []) ∙ ap (λ (l : List Entry). with_entries wal (l ++ entry ∷ [])) (append-nil (released wal.workload done upto))

module _ {D : Type 0} (model : DiskModel D) (wal : Wal) (old mid : Demo D) (upto : ℕ) (ran : Ran model wal upto [] old mid) (small : count_of mid.journal < 2 ^ 40) where
  abbrev subsequent : Wal
  subsequent = with_entries wal (added_by wal old.done upto [])

  few_more : length subsequent.entries + 1 < 2 ^ 40
  few_more = omega (arith, small, count_is model subsequent mid ran.running)

  -- the store is after the group, and nothing that it commits is missing
  silent : IsSilent subsequent.workload subsequent.entries upto
  silent = subst (λ (n : ℕ). IsSilent subsequent.workload subsequent.entries n) ran.done ran.running.silent

  module _ (entry : Entry) (fits : FitsWalEntry entry) (next : IsNextEntry subsequent.workload subsequent.entries entry) where
    -- while it is appended a crash leaves the first ones of what the call adds
    pub own_left : (disk : D) → LeavesEntries model disk (λ left. (left ≡ forms_of subsequent) ⊎ (left ≡ forms_of subsequent ++ entry_form entry ∷ [])) → LeavesWal model disk (IsLeftOf wal (added_by wal old.done upto (entry ∷ [])))
    own_left disk leaves crashed may =
        let here = leaves_push model disk subsequent entry (entry_form entry) refl ran.running.is few_more fits next leaves crashed may in
        let left = left_on wal (added_by wal old.done upto []) (entry ∷ []) [] here.0 here.2 in
        let added : added_by wal old.done upto [] ++ ((entry ∷ []) ++ []) ≡ added_by wal old.done upto (entry ∷ []) =
        ap (λ (l : List Entry). l ++ entry ∷ []) (append-nil (released wal.workload old.done upto)) in
        (here.0, here.1, subst (λ (l : List Entry). IsLeftOf wal l here.0) added left)

    -- once it stands the source runs on after it
    own_running : (journal : OnDisk D) (commits : List ℕ) (confirmed : Lsn) → Lists model journal (forms_of subsequent ++ entry_form entry ∷ []) → IsSilent subsequent.workload (one_more subsequent entry).entries mid.done
        → commits ≡ commit_places 1 (one_more subsequent entry).entries → confirmed ≡ confirmed_of (one_more subsequent entry)
        → IsRunning model (with_entries wal (added_by wal old.done upto (entry ∷ []))) (record mid { journal = journal; commits = commits; confirmed = confirmed })
    own_running journal commits confirmed lists on places are =
        let new : Demo D = record mid { journal = journal; commits = commits; confirmed = confirmed } in
        subst (λ (x : Wal). IsRunning model x new) (own_wal wal old.done upto entry)
        (running_entry model subsequent mid ran.running entry journal mid.store mid.done commits confirmed (lists_push model journal subsequent entry (entry_form entry) refl lists) fits next
        (omega (arith, few_more, length-append subsequent.entries (entry ∷ []))) ran.running.stands on places are)

  -- ---- a watermark

  module _ (value : List ℕ) (fits : FitsWalEntry (Marks upto value)) where
    pub mark_next : IsNextEntry subsequent.workload subsequent.entries (Marks upto value)
    mark_next = silent

    pub mark_running : (journal : OnDisk D) → Lists model journal (forms_of subsequent ++ entry_form (Marks upto value) ∷ [])
        → IsRunning model (with_entries wal (added_by wal old.done upto (Marks upto value ∷ []))) (record mid { journal = journal; commits = mid.commits ++ length mid.journal.places ∷ []; confirmed = mid.confirmed })
    mark_running journal lists =
        let number : length mid.journal.places ≡ 1 + length subsequent.entries = count_is model subsequent mid ran.running in
        let places : mid.commits ++ length mid.journal.places ∷ [] ≡ commit_places 1 (one_more subsequent (Marks upto value)).entries =
        ap (λ (l : List ℕ). l ++ length mid.journal.places ∷ []) ran.running.commits
        ∙ ap (λ (n : ℕ). commit_places 1 subsequent.entries ++ n ∷ []) number
        ∙ sym (places_append 1 subsequent.entries (Marks upto value ∷ [])) in
        let confirmed : mid.confirmed ≡ confirmed_of (one_more subsequent (Marks upto value)) =
        ran.running.confirmed ∙ sym (confirmed_from-append (record { 0 = 0 }) subsequent.entries (Marks upto value ∷ [])) in
        let on : IsSilent subsequent.workload (one_more subsequent (Marks upto value)).entries mid.done =
        subst (λ (n : ℕ). IsSilent subsequent.workload (one_more subsequent (Marks upto value)).entries n) (sym ran.done) (silent_mark subsequent.workload subsequent.entries upto value silent) in
        own_running (Marks upto value) fits mark_next journal (mid.commits ++ length mid.journal.places ∷ []) mid.confirmed lists on places confirmed

  -- ---- a confirmed position

  module _ (lsn : Lsn) (fits : FitsWalEntry (Confirms lsn)) (rises : mid.confirmed.0 < lsn.0) where
    pub confirm_next : IsNextEntry subsequent.workload subsequent.entries (Confirms lsn)
    confirm_next = record { begun = ran.running.is.sound.begun; no_fall = omega (arith, rises, ap (λ (l : Lsn). l.0) ran.running.confirmed) }

    pub confirm_running : (journal : OnDisk D) → Lists model journal (forms_of subsequent ++ entry_form (Confirms lsn) ∷ [])
        → IsRunning model (with_entries wal (added_by wal old.done upto (Confirms lsn ∷ []))) (record mid { journal = journal; commits = mid.commits; confirmed = lsn })
    confirm_running journal lists =
        let places : mid.commits ≡ commit_places 1 (one_more subsequent (Confirms lsn)).entries =
        ran.running.commits ∙ sym (append-nil (commit_places 1 subsequent.entries)) ∙ sym (places_append 1 subsequent.entries (Confirms lsn ∷ [])) in
        let confirmed : lsn ≡ confirmed_of (one_more subsequent (Confirms lsn)) = sym (confirmed_from-append (record { 0 = 0 }) subsequent.entries (Confirms lsn ∷ [])) in
        let on : IsSilent subsequent.workload (one_more subsequent (Confirms lsn)).entries mid.done =
        silent_confirm subsequent.workload subsequent.entries mid.done lsn ran.running.silent in
        own_running (Confirms lsn) fits confirm_next journal mid.commits lsn lists on places confirmed
