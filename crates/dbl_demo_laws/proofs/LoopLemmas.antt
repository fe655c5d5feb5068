-- Runs of steps, one after the other, and where a group ends.
use Rattle.std.proofs.Common.{◌≡◌, ◌∙◌, ◌⊎◌, ℕ, zero, suc, ◌+◌, ◌≤◌, true, false, Option, Some, List, [], ◌∷◌, ◌++◌, length, take, drop, refl, sym, ap, subst, arith, append_assoc, inl, inr}
use Rattle.std.specs.Prelude.{slice_get}
use Rattle.std.proofs.lemmas.List.{append-nil, length-drop, nil_from_length}
use Rattle.dbl_disk.specs.Model.{DiskModel}
use Rattle.dbl_source.specs.SourceLog.declared.reader_position.ReaderPosition.{ReaderPosition}
use Rattle.dbl_demo_workload.specs.Script.declared.script.Step.{Step}
use Rattle.dbl_demo_workload.specs.Script.declared.script.Step.TheVariants as kinds
use Rattle.dbl_demo_workload.specs.DemoWal.declared.entry.Entry.{Entry}
use Rattle.dbl_demo_workload.specs.DemoWal.Workloads.{Workload, steps_of}
use Rattle.dbl_demo_workload.specs.DemoWal.Groups.{EndsRead, ReadsOn, group_size, group_end, released}
use Rattle.dbl_demo_workload.specs.DemoWal.Groups.ReadsOn.{stops, goes}
use Rattle.dbl_demo_workload.specs.DemoWal.Wals.{Wal}
use Rattle.dbl_demo_workload.specs.DemoWal.CrashState.{IsLeftOf, added_by, with_entries}
use Rattle.dbl_demo_workload.proofs.DemoWalGroupLemmas.{released_plus}
use Rattle.dbl_demo_laws.proofs.HoldLemmas.{count_places}
use Rattle.dbl_demo_laws.specs.Calls.{next_end}
use Rattle.dbl_demo_laws.specs.Demo.{Demo, IsRunning}
use Rattle.dbl_demo_laws.specs.Reading.{has_unread, HasRunOn, IsReadingOn, LeavesReadRun, RanOn}
use Rattle.dbl_demo_laws.specs.Running.{IsReleasing, IsRunOf, LeavesRun, Ran, StaysKnown}
use Rattle.dbl_demo_laws.proofs.KnownLemmas.{known_on, known_self}
use Rattle.dbl_demo_workload.proofs.StepLemmas.{drop_there}
use Rattle.dbl_demo_workload.specs.Steps.{is_tick}
use Rattle.std.specs.Prelude.{IsTrue, ◌<◌}
use Rattle.dbl_journal.specs.Growth.{ExtendsJournal}
use Rattle.dbl_demo_workload.specs.DemoWal.Wals.{IsWal, forms_of}
use Rattle.dbl_demo_workload.proofs.DemoWalGroupLemmas.{end_above, end_within, released_none}
use Rattle.std.specs.Prelude.{nat_lt}
use Rattle.std.proofs.lemmas.Bool.{cases_lt, ltb-true, ltb-false}
use Rattle.dbl_source.specs.SourceLog.Sent.{index_of}
use Rattle.dbl_demo_workload.specs.DemoWal.Sound.{logged_in}
use Rattle.dbl_demo_workload.proofs.DemoWalGroupLemmas.{end_later}

-- ---- entries after entries

pub with_plus : (wal : Wal) (first second : List Entry) → with_entries (with_entries wal first) second ≡ with_entries wal (first ++ second)
with_plus wal first second = ap (λ (l : List Entry). let x : Wal = record wal { entries = l } in x) (append_assoc wal.entries first second)

take_in : (count : ℕ) (more subsequent : List Entry) → (n : ℕ) × (take count more ≡ take n (more ++ subsequent))
take_in zero more subsequent = (0, refl)
take_in (suc count) [] subsequent = (0, refl)
take_in (suc count) (x ∷ more) subsequent = let h = take_in count more subsequent in (suc h.0, ap (λ (l : List Entry). x ∷ l) h.1)

take_on : (before more subsequent : List Entry) (count : ℕ) → (n : ℕ) × (before ++ take count more ≡ take n (before ++ (more ++ subsequent)))
take_on [] more subsequent count = take_in count more subsequent
take_on (x ∷ before) more subsequent count = let h = take_on before more subsequent count in (suc h.0, ap (λ (l : List Entry). x ∷ l) h.1)

-- what is left of a wal with more entries is left of the wal itself
pub left_on : (wal : Wal) (before more subsequent : List Entry) (left : Wal) → IsLeftOf (with_entries wal before) more left → IsLeftOf wal (before ++ (more ++ subsequent)) left
left_on wal before more subsequent left is =
    let n = take_on before more subsequent is.count in
    record { count = n.0; is = is.is ∙ with_plus wal before (take is.count more) ∙ ap (with_entries wal) n.1 }

-- ---- a run after a run

added_plus : (w : Workload) (done mid upto : ℕ) → done ≤ mid → mid ≤ upto → (released w done mid ++ []) ++ (released w mid upto ++ []) ≡ released w done upto ++ []
added_plus w done mid upto first second =
    ap (λ (l : List Entry). l ++ (released w mid upto ++ [])) (append-nil (released w done mid))
    ∙ sym (append_assoc (released w done mid) (released w mid upto) [])
    ∙ ap (λ (l : List Entry). l ++ []) (sym (released_plus w done mid upto first second))

module _ {D : Type 0} (model : DiskModel D) (wal : Wal) (old mid : Demo D) (between : ℕ) (first : old.done ≤ between) (ran : Ran model wal between [] old mid) where
  -- the wal after the first run
  abbrev pub wal_between : Wal
  wal_between = with_entries wal (added_by wal old.done between [])

  pub ran_on : (new : Demo D) (upto : ℕ) → between ≤ upto → Ran model wal_between upto [] mid new → Ran model wal upto [] old new
  ran_on new upto second more =
      let here : with_entries wal_between (added_by wal mid.done upto []) ≡ with_entries wal_between (added_by wal between upto []) = ap (λ (n : ℕ). with_entries wal_between (added_by wal n upto [])) ran.done in
      let whole : with_entries wal_between (added_by wal between upto []) ≡ with_entries wal (added_by wal old.done upto []) =
      with_plus wal (added_by wal old.done between []) (added_by wal between upto []) ∙ ap (with_entries wal) (added_plus wal.workload old.done between upto first second) in
      record { running = subst (λ (x : Wal). IsRunning model x new) (here ∙ whole) more.running; done = more.done }

  -- what a crash leaves in the second run has the first ones of all
  pub left_all : (new : Demo D) (upto end : ℕ) → between ≤ upto → upto ≤ end → LeavesRun model wal_between upto [] mid new → LeavesRun model wal end [] old new
  left_all new upto end second last leaves crashed may =
      let here = leaves crashed may in
      let added : added_by wal mid.done upto [] ≡ added_by wal between upto [] = ap (λ (n : ℕ). added_by wal n upto []) ran.done in
      let is : IsLeftOf wal_between (added_by wal between upto []) here.0 = subst (λ (l : List Entry). IsLeftOf wal_between l here.0) added here.2 in
      let subsequent = released wal.workload upto end ++ [] in
      let whole : (added_by wal old.done between []) ++ ((added_by wal between upto []) ++ subsequent) ≡ added_by wal old.done end [] =
      ap (λ (l : List Entry). (added_by wal old.done between []) ++ l) (added_plus wal.workload between upto end second last) ∙ added_plus wal.workload old.done between end first (omega (arith, second, last)) in
      (here.0, here.1, subst (λ (l : List Entry). IsLeftOf wal l here.0) whole (left_on wal (added_by wal old.done between []) (added_by wal between upto []) subsequent here.0 is))

-- ---- where a group ends

size_tick : (s : Step) (rest : List Step) → is_tick s ≡ true → group_size (s ∷ rest) ≡ 1
size_tick kinds.Tick rest h = refl
size_tick (kinds.Begin session) rest h = cc
size_tick (kinds.Commit session) rest h = cc
size_tick (kinds.Rollback session) rest h = cc
size_tick (kinds.Insert session table cells) rest h = cc
size_tick (kinds.Update session table key set) rest h = cc
size_tick (kinds.Delete session table key) rest h = cc
size_tick (kinds.Truncate session tables) rest h = cc

size_other : (s : Step) (rest : List Step) → is_tick s ≡ false → group_size (s ∷ rest) ≡ suc (group_size rest)
size_other kinds.Tick rest h = cc
size_other (kinds.Begin session) rest h = refl
size_other (kinds.Commit session) rest h = refl
size_other (kinds.Rollback session) rest h = refl
size_other (kinds.Insert session table cells) rest h = refl
size_other (kinds.Update session table key set) rest h = refl
size_other (kinds.Delete session table key) rest h = refl
size_other (kinds.Truncate session tables) rest h = refl

-- a step that is `tick` ends its group
pub end_here : (steps : List Step) (done : ℕ) (s : Step) → slice_get steps done ≡ Some s → is_tick s ≡ true → group_end steps done ≡ done + 1
end_here steps done s there tick = omega (arith, ap group_size (drop_there steps done s there), size_tick s (drop (suc done) steps) tick)

-- after another one it goes on
pub end_on : (steps : List Step) (done : ℕ) (s : Step) → slice_get steps done ≡ Some s → is_tick s ≡ false → group_end steps done ≡ group_end steps (done + 1)
end_on steps done s there other =
    let more : suc done ≡ done + 1 = omega arith in
    omega (arith, ap group_size (drop_there steps done s there), size_other s (drop (suc done) steps) other, ap (λ (n : ℕ). group_size (drop n steps)) more)

-- where no step is left there is none
pub end_none : (steps : List Step) (done : ℕ) → length steps ≤ done → group_end steps done ≡ done
end_none steps done le = omega (arith, ap group_size (nil_from_length (drop done steps) (omega (arith, le, length-drop done steps))))

-- ---- a read that goes on, group by group

module _ (w : Workload) (entries : List Entry) (place : ReaderPosition) (done : ℕ) where
  pub reading_begins : (now : ℕ) → now ≡ group_end (steps_of w) done → IsReadingOn w entries place done now
  reading_begins now is = record { last = done; ends = is; back = λ upto h. h }

  pub reading_goes : (now : ℕ) → IsReadingOn w entries place done now → (EndsRead w entries place done now → ⊥) → IsReadingOn w entries place done (group_end (steps_of w) now)
  reading_goes now is none = record {
    last = now;
    ends = refl;
    back = λ upto h. is.back upto
        (goes is.last (subst (λ (n : ℕ). EndsRead w entries place done n → ⊥) is.ends none) (subst (λ (n : ℕ). ReadsOn w entries place done upto n) is.ends h));
  }

  pub reading_ends : (now : ℕ) → IsReadingOn w entries place done now → EndsRead w entries place done now ⊎ (length (steps_of w) ≤ now) → ReadsOn w entries place done now done
  reading_ends now is end = is.back now (stops is.last is.ends end)

-- it ends somewhere
record EndsSomewhere (w : Workload) (entries : List Entry) (place : ReaderPosition) (done now : ℕ) : Type 0 where
  upto : ℕ
  later : now ≤ upto
  on : ReadsOn w entries place done upto done

reading_finishes : (w : Workload) (entries : List Entry) (place : ReaderPosition) (done fuel now : ℕ) → now ≤ length (steps_of w) → length (steps_of w) ≤ now + fuel → IsReadingOn w entries place done now → EndsSomewhere w entries place done now
reading_finishes w entries place done zero now within enough reading = record { upto = now; later = omega arith; on = reading_ends w entries place done now reading (inr (omega (arith, enough))) }
reading_finishes w entries place done (suc fuel) now within enough reading =
    by (cases_lt (index_of place) (length (logged_in (entries ++ released w done now)))) (cases_lt now (length (steps_of w)))
    (λ left read. (
    let above : now < group_end (steps_of w) now = end_above (steps_of w) now left in
    let rest =
    reading_finishes w entries place done fuel (group_end (steps_of w) now) (end_within (steps_of w) now within) (omega (arith, above, enough)) (reading_goes w entries place done now reading (λ ends. absurd (omega (arith, ends, read)))) in
    record { upto = rest.upto; later = omega (arith, above, rest.later); on = rest.on }))
  where
    by : (index_of place < length (logged_in (entries ++ released w done now))) ⊎ (length (logged_in (entries ++ released w done now)) ≤ index_of place) → (now < length (steps_of w)) ⊎ (length (steps_of w) ≤ now)
        → (now < length (steps_of w) → length (logged_in (entries ++ released w done now)) ≤ index_of place → EndsSomewhere w entries place done now) → EndsSomewhere w entries place done now
    by (inl unread) left next = record { upto = now; later = omega arith; on = reading_ends w entries place done now reading (inl unread) }
    by (inr read) (inr none) next = record { upto = now; later = omega arith; on = reading_ends w entries place done now reading (inr none) }
    by (inr read) (inl left) next = next left read

-- ---- a group, step by step

take_whole : {A : Type 0} (xs : List A) → take (length xs) xs ≡ xs
take_whole [] = refl
take_whole {A = A} (x ∷ xs) = ap (λ (l : List A). x ∷ l) (take_whole xs)

module _ {D : Type 0} (model : DiskModel D) where
  -- where all of a run stands, a crash leaves all of it
  pub left_whole : (wal : Wal) (upto : ℕ) (old new : Demo D) → Ran model wal upto [] old new → LeavesRun model wal upto [] old new
  left_whole wal upto old new ran crashed may =
      let added = added_by wal old.done upto [] in
      let running = ran.running in
      let is : crashed ≡ running.lists.bytes = running.lists.only crashed may in
      let here : IsWal running.lists.bytes (with_entries wal added) = record { forms = forms_of (with_entries wal added); journal = running.lists.spelled; are = running.is; few = running.few } in
      (with_entries wal added, subst (λ (bytes : List ℕ). IsWal bytes (with_entries wal added)) (sym is) here, record { count = length added; is = ap (with_entries wal) (sym (take_whole added)) })

  -- no step was run
  pub ran_nothing : (wal : Wal) (old : Demo D) → IsRunning model wal old → Ran model wal old.done [] old old
  ran_nothing wal old running =
      let none : added_by wal old.done old.done [] ≡ [] = append-nil (released wal.workload old.done old.done) ∙ released_none wal.workload old.done in
      let same : with_entries wal (added_by wal old.done old.done []) ≡ wal = ap (with_entries wal) none ∙ ap (λ (l : List Entry). let x : Wal = record wal { entries = l } in x) (append-nil wal.entries) in
      record { running = subst (λ (x : Wal). IsRunning model x old) (sym same) running; done = refl }

  pub release_begins : (old : Demo D) → IsTrue old.journal.live → IsReleasing model old old
  release_begins old live = record {
    ran = λ wal running. ran_nothing wal old running;
    ends = refl;
    later = omega arith;
    live = live;
    same = refl;
    comes = λ gate most come. come;
    counted = omega arith;
    known = known_self model old.journal.disk;
  }

  module _ (old now new : Demo D) (so : IsReleasing model old now) (left : now.done < length now.steps) (ran : (wal : Wal) → IsRunning model wal now → Ran model wal (now.done + 1) [] now new) where
    -- the first run and one step
    pub ran_more : (wal : Wal) → IsRunning model wal old → Ran model wal (now.done + 1) [] old new
    ran_more wal running =
        let first = so.ran wal running in
        ran_on model wal old now now.done so.later first new (now.done + 1) (omega arith) (ran (wal_between model wal old now now.done so.later first) first.running)

    -- the step that ends the group
    pub release_ends : (s : Step) → slice_get now.steps now.done ≡ Some s → is_tick s ≡ true → (wal : Wal) → IsRunning model wal old → Ran model wal (next_end old) [] old new
    release_ends s there tick wal running =
        let end : next_end old ≡ now.done + 1 = so.ends ∙ end_here now.steps now.done s there tick in
        subst (λ (n : ℕ). Ran model wal n [] old new) (sym end) (ran_more wal running)

    -- another one
    pub release_goes : (s : Step) → slice_get now.steps now.done ≡ Some s → is_tick s ≡ false → new.done ≡ now.done + 1 → IsTrue new.journal.live → IsRunOf now new → ExtendsJournal model now.journal new.journal → model.faults now.journal.disk ≤ model.faults new.journal.disk
        → StaysKnown model now.journal.disk new.journal.disk → IsReleasing model old new
    release_goes s there other one live same comes counted known = record {
      ran = λ wal running. subst (λ (n : ℕ). Ran model wal n [] old new) (sym one) (ran_more wal running);
      ends = so.ends ∙ end_on now.steps now.done s there other ∙ ap (group_end now.steps) (sym one) ∙ ap (λ (steps : List Step). group_end steps new.done) (sym (ap (λ (d : Demo D). d.steps) same));
      later = omega (arith, so.later, one);
      live = live;
      same = same ∙ ap (λ (d : Demo D). let x : Demo D = record d { journal = new.journal; store = new.store; done = new.done; commits = new.commits } in x) so.same;
      comes = λ gate most come. comes gate most (so.comes gate most come);
      counted = omega (arith, so.counted, counted);
      known = known_on model old.journal.disk now.journal.disk new.journal.disk so.known known;
    }

  module _ (old now : Demo D) (so : IsReleasing model old now) where
    -- no step is left
    pub release_stops : length now.steps ≤ now.done → (wal : Wal) → IsRunning model wal old → Ran model wal (next_end old) [] old now
    release_stops none wal running =
        let end : next_end old ≡ now.done = so.ends ∙ end_none now.steps now.done none in
        subst (λ (n : ℕ). Ran model wal n [] old now) (sym end) (so.ran wal running)

    -- what a crash leaves while a step is run
    pub release_left : (new : Demo D) → now.done < length now.steps → ((wal : Wal) → IsRunning model wal now → LeavesRun model wal (now.done + 1) [] now new) → (wal : Wal) → IsRunning model wal old → LeavesRun model wal (next_end old) [] old new
    release_left new left leaves wal running =
        let first = so.ran wal running in
        let above : now.done + 1 ≤ next_end old = omega (arith, end_above now.steps now.done left, so.ends) in
        left_all model wal old now now.done so.later first new (now.done + 1) (next_end old) (omega arith) above (leaves (wal_between model wal old now now.done so.later first) first.running)

-- ---- a read, group by group

module _ {D : Type 0} (model : DiskModel D) (old now : Demo D) (later : old.done ≤ now.done) where
  -- the wal after what was run so far
  abbrev wal_now : Wal → Wal
  wal_now wal = with_entries wal (added_by wal old.done now.done [])

  added_is : (wal : Wal) → (wal_now wal).entries ≡ wal.entries ++ released wal.workload old.done now.done
  added_is wal = ap (λ (l : List Entry). wal.entries ++ l) (append-nil (released wal.workload old.done now.done))

  -- as many commits stand there as the source knows
  commits_known : (wal : Wal) → IsRunning model (wal_now wal) now → length now.commits ≡ length (logged_in (wal.entries ++ released wal.workload old.done now.done))
  commits_known wal running = ap (λ (l : List ℕ). length l) running.commits ∙ count_places 1 (wal_now wal).entries ∙ ap (λ (es : List Entry). length (logged_in es)) (added_is wal)

  pub unread_so : (wal : Wal) (place : ReaderPosition) → IsRunning model (wal_now wal) now → now.place ≡ Some place → has_unread now.place (length now.commits) ≡ true → EndsRead wal.workload wal.entries place old.done now.done
  unread_so wal place running at unread =
      let here : nat_lt (index_of place) (length now.commits) ≡ true = sym (ap (λ (o : Option ReaderPosition). has_unread o (length now.commits)) at) ∙ unread in
      let lt : index_of place < length now.commits = ltb-true (index_of place) (length now.commits) here in
      omega (arith, lt, commits_known wal running)

  pub read_so : (wal : Wal) (place : ReaderPosition) → IsRunning model (wal_now wal) now → now.place ≡ Some place → has_unread now.place (length now.commits) ≡ false → EndsRead wal.workload wal.entries place old.done now.done → ⊥
  read_so wal place running at read ends =
      let here : nat_lt (index_of place) (length now.commits) ≡ false = sym (ap (λ (o : Option ReaderPosition). has_unread o (length now.commits)) at) ∙ read in
      let le : length now.commits ≤ index_of place = ltb-false (index_of place) (length now.commits) here in
      omega (arith, le, ends, commits_known wal running)

module _ {D : Type 0} (model : DiskModel D) where
  -- the first group
  pub reads_first : (old new : Demo D) → ((wal : Wal) → IsRunning model wal old → Ran model wal (next_end old) [] old new) → new.done ≡ next_end old → IsTrue new.journal.live → IsRunOf old new → ExtendsJournal model old.journal new.journal → model.faults old.journal.disk ≤ model.faults new.journal.disk
      → StaysKnown model old.journal.disk new.journal.disk → HasRunOn model old new
  reads_first old new ran end live same comes counted known = record {
    ran = λ wal place running at. (
        let steps : next_end old ≡ group_end (steps_of wal.workload) old.done = ap (λ (l : List Step). group_end l old.done) running.steps in
        (reading_begins wal.workload wal.entries place old.done new.done (end ∙ steps), subst (λ (n : ℕ). Ran model wal n [] old new) (sym end) (ran wal running)));
    later = omega (arith, end, end_later old.steps old.done);
    live = live;
    same = same;
    comes = comes;
    counted = counted;
    known = known;
  }

  module _ (old now : Demo D) (so : HasRunOn model old now) where
    place_same : now.place ≡ old.place
    place_same = ap (λ (d : Demo D). d.place) so.same

    -- a commit stands there to be read
    pub reads_end : has_unread now.place (length now.commits) ≡ true → (wal : Wal) (place : ReaderPosition) → IsRunning model wal old → old.place ≡ Some place → RanOn model wal place old now
    reads_end unread wal place running at =
        let run = so.ran wal place running at in
        record { on = reading_ends wal.workload wal.entries place old.done now.done run.0 (inl (unread_so model old now so.later wal place run.1.running (place_same ∙ at) unread)); running = run.1.running }

    -- or no step is left
    pub reads_all : length now.steps ≤ now.done → (wal : Wal) (place : ReaderPosition) → IsRunning model wal old → old.place ≡ Some place → RanOn model wal place old now
    reads_all none wal place running at =
        let run = so.ran wal place running at in
        let all : length (steps_of wal.workload) ≤ now.done = omega (arith, none, ap (λ (l : List Step). length l) run.1.running.steps) in
        record { on = reading_ends wal.workload wal.entries place old.done now.done run.0 (inr all); running = run.1.running }

    module _ (new : Demo D) (read : has_unread now.place (length now.commits) ≡ false) where
      on_group : (wal : Wal) (place : ReaderPosition) → IsRunning model wal old → old.place ≡ Some place → IsReadingOn wal.workload wal.entries place old.done (next_end now)
      on_group wal place running at =
          let run = so.ran wal place running at in
          let steps : group_end (steps_of wal.workload) now.done ≡ next_end now = ap (λ (l : List Step). group_end l now.done) (sym run.1.running.steps) in
          subst (IsReadingOn wal.workload wal.entries place old.done) steps
          (reading_goes wal.workload wal.entries place old.done now.done run.0 (read_so model old now so.later wal place run.1.running (place_same ∙ at) read))

      -- one more group
      pub reads_on : ((wal : Wal) → IsRunning model wal now → Ran model wal (next_end now) [] now new) → new.done ≡ next_end now → IsTrue new.journal.live → IsRunOf now new → ExtendsJournal model now.journal new.journal → model.faults now.journal.disk ≤ model.faults new.journal.disk
          → StaysKnown model now.journal.disk new.journal.disk → HasRunOn model old new
      reads_on ran end live same comes counted known = record {
        ran = λ wal place running at. (
            let run = so.ran wal place running at in
            let second = subst (λ (n : ℕ). Ran model (wal_between model wal old now now.done so.later run.1) n [] now new) (sym end) (ran (wal_between model wal old now now.done so.later run.1) run.1.running) in (
              subst (IsReadingOn wal.workload wal.entries place old.done) (sym end) (on_group wal place running at),
              ran_on model wal old now now.done so.later run.1 new new.done (omega (arith, end, end_later now.steps now.done)) second,
            ));
        later = omega (arith, so.later, end, end_later now.steps now.done);
        live = live;
        same = same ∙ ap (λ (d : Demo D). let x : Demo D = record d { journal = new.journal; store = new.store; done = new.done; commits = new.commits } in x) so.same;
        comes = λ gate most come. comes gate most (so.comes gate most come);
        counted = omega (arith, so.counted, counted);
        known = known_on model old.journal.disk now.journal.disk new.journal.disk so.known known;
      }

  -- what a crash leaves while so many steps are run is left while more are
  left_more : (wal : Wal) (upto end : ℕ) (old new : Demo D) → old.done ≤ upto → upto ≤ end → LeavesRun model wal upto [] old new → LeavesRun model wal end [] old new
  left_more wal upto end old new first second leaves crashed may =
      let here = leaves crashed may in
      let subsequent = released wal.workload upto end ++ [] in
      let n = take_in here.2.count (added_by wal old.done upto []) subsequent in
      let whole : added_by wal old.done upto [] ++ subsequent ≡ added_by wal old.done end [] = added_plus wal.workload old.done upto end first second in
      (here.0, here.1, record { count = n.0; is = here.2.is ∙ ap (with_entries wal) (n.1 ∙ ap (take n.0) whole) })

  -- where the read ends, it adds what was being added first
  left_by_end : (wal : Wal) (place : ReaderPosition) (upto : ℕ) (old new : Demo D) → IsRunning model wal old → old.done ≤ upto → upto ≤ length (steps_of wal.workload) → IsReadingOn wal.workload wal.entries place old.done upto → LeavesRun model wal upto [] old new
      → LeavesReadRun model wal place old new
  left_by_end wal place upto old new running first within reading leaves crashed may =
      let end = reading_finishes wal.workload wal.entries place old.done (length (steps_of wal.workload)) upto within (omega arith) reading in
      let here = left_more wal upto end.upto old new first end.later leaves crashed may in
      (here.0, here.1, (end.upto, end.on, here.2))

  -- in the first group
  pub first_left : (old new : Demo D) → ((wal : Wal) → IsRunning model wal old → LeavesRun model wal (next_end old) [] old new) → (wal : Wal) (place : ReaderPosition) → IsRunning model wal old → LeavesReadRun model wal place old new
  first_left old new leaves wal place running =
      let steps : next_end old ≡ group_end (steps_of wal.workload) old.done = ap (λ (l : List Step). group_end l old.done) running.steps in
      let within : next_end old ≤ length (steps_of wal.workload) = omega (arith, steps, end_within (steps_of wal.workload) old.done running.silent.there) in
      left_by_end wal place (next_end old) old new running (end_later old.steps old.done) within (reading_begins wal.workload wal.entries place old.done (next_end old) steps) (leaves wal running)

  -- in a later one
  pub reads_left : (old now new : Demo D) (so : HasRunOn model old now) → has_unread now.place (length now.commits) ≡ false → ((wal : Wal) → IsRunning model wal now → LeavesRun model wal (next_end now) [] now new)
      → (wal : Wal) (place : ReaderPosition) → IsRunning model wal old → old.place ≡ Some place → LeavesReadRun model wal place old new
  reads_left old now new so read leaves wal place running at =
      let run = so.ran wal place running at in
      let between = wal_between model wal old now now.done so.later run.1 in
      let steps : next_end now ≡ group_end (steps_of wal.workload) now.done = ap (λ (l : List Step). group_end l now.done) run.1.running.steps in
      let within : next_end now ≤ length (steps_of wal.workload) = omega (arith, steps, end_within (steps_of wal.workload) now.done run.1.running.silent.there) in
      let above : now.done ≤ next_end now = end_later now.steps now.done in
      let all : LeavesRun model wal (next_end now) [] old new =
      left_all model wal old now now.done so.later run.1 new (next_end now) (next_end now) above (omega arith) (leaves between run.1.running) in
      left_by_end wal place (next_end now) old new running (omega (arith, so.later, above)) within (on_group old now so new read wal place running at) all

  -- where it answered
  pub ran_left : (old new : Demo D) (wal : Wal) (place : ReaderPosition) → old.done ≤ new.done → RanOn model wal place old new → LeavesReadRun model wal place old new
  ran_left old new wal place later run crashed may =
      let whole = left_whole model wal new.done old new (record { running = run.running; done = refl }) crashed may in
      (whole.0, whole.1, (new.done, run.on, whole.2))
