-- How a call ends, from what a run of steps made of the source.
use Rattle.std.proofs.Common.{◌≡◌, ◌∙◌, ℕ, zero, suc, ◌≤◌, true, false, List, [], ◌∷◌, ◌++◌, length, take, refl, sym, ap, subst, arith, append_assoc}
use Rattle.std.specs.Prelude.{IsTrue, Result, Ok, Err}
use Rattle.std.proofs.lemmas.List.{append-nil, take_all}
use Rattle.dbl_base.specs.Streams.{FaultCounted}
use Rattle.dbl_disk.specs.Model.{DiskModel}
use Rattle.dbl_journal.specs.Growth as journals
use Rattle.dbl_source.specs.SourceLog.declared.error.SourceError.{SourceError}
use Rattle.dbl_source.specs.SourceLog.declared.error.SourceError.TheVariants.{Failed}
use Rattle.dbl_demo_workload.specs.DemoWal.declared.entry.Entry.{Entry}
use Rattle.dbl_demo_workload.specs.DemoWal.Groups.{released}
use Rattle.dbl_demo_workload.specs.DemoWal.Sound.{logged_in}
use Rattle.dbl_demo_workload.specs.DemoWal.Wals.{Wal}
use Rattle.dbl_demo_workload.specs.DemoWal.CrashState.{IsLeftOf, LeavesWal, added_by, with_entries}
use Rattle.dbl_demo_workload.proofs.DemoWalGroupLemmas.{end_later, released_plus}
use Rattle.dbl_demo_laws.specs.Answers.{RunsStepsAndWrites, IsReaderKept}
use Rattle.dbl_demo_laws.specs.Calls.{LeavesFirst, ReleasesSteps, next_end}
use Rattle.dbl_demo_laws.specs.Demo.{Demo, IsRunning}
use Rattle.dbl_demo_laws.specs.Running.{IsRunOf, LeavesRun, Ran, StaysKnown}
use Rattle.dbl_demo_laws.proofs.CallLemmas.{running_live}
use Rattle.dbl_demo_laws.proofs.LoopLemmas.{end_none}
use Rattle.dbl_demo_laws.proofs.EndedLemmas.{AreMarks, ended_on}

-- the source while a call runs
abbrev pub within : {D : Type 0} → Demo D → Demo D
within demo = record demo { live = false }

-- and once it answered
abbrev pub answering : {D : Type 0} → Demo D → Demo D
answering demo = record demo { live = true }

-- ---- what is left after some of the steps is left after all of them

take_in : (count : ℕ) (some subsequent : List Entry) → (n : ℕ) × (take count some ≡ take n (some ++ subsequent))
take_in zero some subsequent = (0, refl)
take_in (suc count) [] subsequent = (0, refl)
take_in (suc count) (x ∷ some) subsequent = let h = take_in count some subsequent in (suc h.0, ap (λ (l : List Entry). x ∷ l) h.1)

pub left_more : (wal : Wal) (some all subsequent : List Entry) → all ≡ some ++ subsequent → (left : Wal) → IsLeftOf wal some left → IsLeftOf wal all left
left_more wal some all subsequent is left h =
    let n = take_in h.count some subsequent in
    record { count = n.0; is = h.is ∙ ap (with_entries wal) (n.1 ∙ ap (take n.0) (sym is)) }

pub added_more : (wal : Wal) (done mid upto : ℕ) (own : List Entry) → done ≤ mid → mid ≤ upto → added_by wal done upto own ≡ added_by wal done mid [] ++ (released wal.workload mid upto ++ own)
added_more wal done mid upto own first second =
    ap (λ (l : List Entry). l ++ own) (released_plus wal.workload done mid upto first second)
    ∙ append_assoc (released wal.workload done mid) (released wal.workload mid upto) own
    ∙ ap (λ (l : List Entry). l ++ (released wal.workload mid upto ++ own)) (sym (append-nil (released wal.workload done mid)))

pub leaves_as : {D : Type 0} (model : DiskModel D) (disk : D) (P Q : Wal → Type 0) → ((wal : Wal) → P wal → Q wal) → LeavesWal model disk P → LeavesWal model disk Q
leaves_as model disk P Q by leaves crashed may = let here = leaves crashed may in (here.0, here.1, by here.0 here.2)

module _ {D : Type 0} (model : DiskModel D) (old : Demo D) where
  -- a run of steps leaves the reader as it was, and the source as one in a call
  pub kept_is : (mid : Demo D) → IsRunOf (within old) mid → IsReaderKept old mid
  kept_is mid same = record { place = ap (λ (d : Demo D). d.place) same; ended = ap (λ (d : Demo D). d.ended) same }

  pub dead_is : (mid : Demo D) → IsRunOf (within old) mid → mid.live ≡ false
  dead_is mid same = ap (λ (d : Demo D). d.live) same

  -- what a run of steps leaves, as a call leaves it
  abbrev pub Leaves : ℕ → List Entry → Demo D → Type 0
  Leaves upto own mid = (wal : Wal) → IsRunning model wal (within old) → LeavesRun model wal upto own (within old) mid

  -- and what it makes of the source
  abbrev pub Runs : ℕ → List Entry → Demo D → Type 0
  Runs upto own mid = (wal : Wal) → IsRunning model wal (within old) → Ran model wal upto own (within old) mid

  pub first_is : (upto : ℕ) (own : List Entry) (new : Demo D) → Leaves upto own new → LeavesFirst model upto own old new
  first_is upto own new leaves wal is = leaves wal (running_live model wal old false is.running)

  pub releases_is : (upto : ℕ) (own : List Entry) (mid : Demo D) → (old.done ≡ length old.steps → upto ≡ old.done) → AreMarks (logged_in own) → IsRunOf (within old) mid → Runs upto own mid → ReleasesSteps model upto own old (answering mid)
  releases_is upto own mid stays marks same runs wal is =
      let ran = runs wal (running_live model wal old false is.running) in
      record {
        is = record {
          live = refl;
          running = running_live model (with_entries wal (added_by wal old.done upto own)) mid true ran.running;
          ended = ended_on model old (answering mid) wal is upto own stays marks ran.done (ap (λ (d : Demo D). d.steps) same)
              (let kept = kept_is mid same in record { place = kept.place; ended = kept.ended });
        };
        done = ran.done;
      }

  -- a crash in an earlier part of the call leaves the first ones of it
  pub first_more : (mid upto : ℕ) (own : List Entry) (new : Demo D) → old.done ≤ mid → mid ≤ upto → Leaves mid [] new → Leaves upto own new
  first_more mid upto own new first second leaves wal is =
      leaves_as model new.journal.disk (IsLeftOf wal (added_by wal old.done mid [])) (IsLeftOf wal (added_by wal old.done upto own))
      (left_more wal (added_by wal old.done mid []) (added_by wal old.done upto own) (released wal.workload mid upto ++ own) (added_more wal old.done mid upto own first second)) (leaves wal is)

  -- where all of it stands and nothing else is left, that is the first ones of it
  pub first_all : (upto : ℕ) (own : List Entry) (new : Demo D) → ((wal : Wal) → IsRunning model wal (within old) → LeavesWal model new.journal.disk (λ left. left ≡ with_entries wal (added_by wal old.done upto own))) → Leaves upto own new
  first_all upto own new all wal is =
      leaves_as model new.journal.disk (λ left. left ≡ with_entries wal (added_by wal old.done upto own)) (IsLeftOf wal (added_by wal old.done upto own))
      (λ left same. (let added : List Entry = added_by wal old.done upto own in record { count = length added; is = same ∙ ap (with_entries wal) (sym (take_all (length added) added (omega arith))) })) (all wal is)

  -- ---- the ends of a call

  module _ {T : Type 0} (upto : ℕ) (own : List Entry) (Answers : Demo D → T → Type 0) (new : Demo D) (result : Result T SourceError) where
    -- it failed
    pub fails : (e : SourceError) → result ≡ Err e → Leaves upto own new → new.live ≡ false → IsReaderKept old new → journals.ExtendsJournal model old.journal new.journal → model.faults old.journal.disk ≤ model.faults new.journal.disk
        → (e ≡ Failed → FaultCounted (model.faults old.journal.disk) (model.faults new.journal.disk)) → RunsStepsAndWrites model upto own Answers old new result
    fails e is leaves dead reader come later failed =
        subst (λ (r : Result T SourceError). RunsStepsAndWrites model upto own Answers old new r) (sym is) (record {
          released = tt;
          group = tt;
          first = first_is upto own new leaves;
          live = tt;
          dead = dead;
          come = come;
          later = later;
          failed = λ same. failed (let inside : Err e ≡ Err Failed = same in cc);
          known = tt;
          reader = reader;
          answers = tt;
        })

    -- it answered
    pub answers : (x : T) → result ≡ Ok x → ReleasesSteps model upto own old new → new.done ≡ upto → Leaves upto own new → IsTrue new.live → journals.ExtendsJournal model old.journal new.journal → model.faults old.journal.disk ≤ model.faults new.journal.disk → Answers new x
        → StaysKnown model old.journal.disk new.journal.disk → RunsStepsAndWrites model upto own Answers old new result
    answers x is releases group leaves live come later holds known =
        subst (λ (r : Result T SourceError). RunsStepsAndWrites model upto own Answers old new r) (sym is) (record {
          released = releases;
          group = group;
          first = first_is upto own new leaves;
          live = live;
          dead = tt;
          come = come;
          later = later;
          failed = λ same. absurd (let wrong : Ok x ≡ Err Failed = same in cc);
          known = known;
          reader = tt;
          answers = holds;
        })

-- ---- after a group that was run

module _ {D : Type 0} (model : DiskModel D) (old mid : Demo D) (same : IsRunOf (within old) mid) (left : Leaves model old (next_end old) [] mid)
    (come : journals.ExtendsJournal model old.journal mid.journal) (later : model.faults old.journal.disk ≤ model.faults mid.journal.disk) where
  -- the call fails there, with the group or after it
  pub fails_there : {T : Type 0} (upto : ℕ) (own : List Entry) (Answers : Demo D → T → Type 0) (result : Result T SourceError) (e : SourceError) → result ≡ Err e → next_end old ≤ upto → (e ≡ Failed → FaultCounted (model.faults old.journal.disk) (model.faults mid.journal.disk))
      → RunsStepsAndWrites model upto own Answers old mid result
  fails_there upto own Answers result e is above failed =
      fails model old upto own Answers mid result e is (first_more model old (next_end old) upto own mid (end_later old.steps old.done) above left)
      (dead_is model old mid same) (kept_is model old mid same) come later failed

  -- it answers there, and writes nothing of its own
  pub answers_there : {T : Type 0} (Answers : Demo D → T → Type 0) (x : T) → Runs model old (next_end old) [] mid → mid.done ≡ next_end old → Answers (answering mid) x → StaysKnown model old.journal.disk mid.journal.disk
      → RunsStepsAndWrites model (next_end old) [] Answers old (answering mid) (Ok x)
  answers_there Answers x runs done holds known =
      answers model old (next_end old) [] Answers (answering mid) (Ok x) x refl
      (releases_is model old (next_end old) [] mid (λ all. end_none old.steps old.done (omega (arith, all))) tt same runs) done left refl come later holds known

-- ---- the same of a source that is known by its parts

module _ {D T : Type 0} (model : DiskModel D) {parts whole : Demo D} (is : parts ≡ whole) (mid : Demo D) (same : IsRunOf (within parts) mid) (left : Leaves model parts (next_end parts) [] mid)
    (come : journals.ExtendsJournal model parts.journal mid.journal) (later : model.faults parts.journal.disk ≤ model.faults mid.journal.disk) where
  pub fails_from : (upto : Demo D → ℕ) (own : Demo D → List Entry) (Answers : Demo D → Demo D → T → Type 0) (result : Result T SourceError) (e : SourceError) → result ≡ Err e → next_end parts ≤ upto parts → (e ≡ Failed → FaultCounted (model.faults parts.journal.disk) (model.faults mid.journal.disk))
      → RunsStepsAndWrites model (upto whole) (own whole) (Answers whole) whole mid result
  fails_from upto own Answers result e told above failed =
      subst (λ (s : Demo D). RunsStepsAndWrites model (upto s) (own s) (Answers s) s mid result) is
      (fails_there model parts mid same left come later (upto parts) (own parts) (Answers parts) result e told above failed)

  pub answers_from : (Answers : Demo D → Demo D → T → Type 0) (x : T) → Runs model parts (next_end parts) [] mid → mid.done ≡ next_end parts → Answers parts (answering mid) x
      → StaysKnown model parts.journal.disk mid.journal.disk → RunsStepsAndWrites model (next_end whole) [] (Answers whole) whole (answering mid) (Ok x)
  answers_from Answers x runs done holds known =
      subst (λ (s : Demo D). RunsStepsAndWrites model (next_end s) [] (Answers s) s (answering mid) (Ok x)) is
      (answers_there model parts mid same left come later (Answers parts) x runs done holds known)
