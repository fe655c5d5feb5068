-- A reader that begins, that is told that its log is gone, and one that reads on: the source runs on after it.
use Rattle.std.proofs.Common.{◌≡◌, ◌∙◌, ◌⊎◌, ℕ, ◌≤◌, Bool, true, false, Option, None, Some, List, [], length, refl, sym, ap, subst, arith, inl, inr}
use Rattle.std.specs.Prelude.{IsTrue, is_none, is_some, Result, Ok, Err}
use Rattle.std.specs.Ordering.{nat_cmp}
use Rattle.std.specs.BTreeMap.{is_at}
use Rattle.std.specs.Map.{lookup}
use Rattle.dbl_base.specs.declared.lsn.Lsn.{Lsn}
use Rattle.dbl_base.specs.Streams.{FaultCounted}
use Rattle.dbl_disk.specs.Model.{DiskModel}
use Rattle.dbl_pgmsg.specs.declared.messages.RelationColumn.{RelationColumn}
use Rattle.dbl_journal.specs.Growth as journals
use Rattle.dbl_source.specs.SourceLog.declared.logged.LogTable.{LogTable}
use Rattle.dbl_source.specs.SourceLog.declared.logged.Logged.{Logged}
use Rattle.dbl_source.specs.SourceLog.declared.reader_position.ReaderPosition.{ReaderPosition}
use Rattle.dbl_source.specs.SourceLog.Sent.{IsPlaceIn, told_at}
use Rattle.dbl_source.proofs.SourceLogPlaceLemmas.{told_waiting}
use Rattle.dbl_source.specs.SourceLog.declared.error.SourceError.{SourceError}
use Rattle.dbl_source.specs.SourceLog.declared.error.SourceError.TheVariants.{Failed}
use Rattle.dbl_demo_workload.specs.Script.declared.script.Step.{Step}
use Rattle.dbl_demo_workload.specs.DemoWal.Groups.{ReadsOn}
use Rattle.dbl_demo_workload.specs.DemoWal.Sound.{logged_in}
use Rattle.dbl_demo_workload.specs.DemoWal.Wals.{Wal}
use Rattle.dbl_demo_workload.specs.DemoWal.CrashState.{added_by, with_entries}
use Rattle.dbl_source.specs.SourceModel.declared.started.Started.{Started}
use Rattle.dbl_demo_laws.specs.Answers.{RunsStepsAndWrites, AddsRead, AnswersStart, ReadAfter, place_after}
use Rattle.dbl_demo_laws.specs.Calls.{next_end, start_answer}
use Rattle.dbl_demo_laws.specs.Demo.{AreRecalled, Demo, IsReader, IsRunning}
use Rattle.dbl_demo_laws.specs.Reading.{has_unread, LeavesReadRun, RanOn, ReadsNext}
use Rattle.dbl_demo_laws.specs.Running.{IsRunOf, StaysKnown}
use Rattle.dbl_demo_laws.proofs.KnownLemmas.{known_on}
use Rattle.dbl_demo_laws.proofs.CallLemmas.{running_live}
use Rattle.dbl_demo_laws.proofs.ExitLemmas.{Leaves, Runs, answers, within}

-- nobody reads
pub gone_reader : (tables : List LogTable) (log : List Logged) (described : List (ℕ × List RelationColumn)) (held : Option Logged) → IsReader tables log None described held
gone_reader tables log described held = record {
  placed = λ p is. absurd (let wrong : None ≡ Some p = is in cc);
  recalled = λ p is. absurd (let wrong : None ≡ Some p = is in cc);
  held_is = λ p logged is holds. absurd (let wrong : None ≡ Some p = is in cc);
}

pub nothing_in : (described : List (ℕ × List RelationColumn)) → described ≡ [] → (oid : ℕ) → lookup (is_at (nat_cmp oid)) described ≡ None
nothing_in described empty oid = ap (λ (entries : List (ℕ × List RelationColumn)). lookup (is_at (nat_cmp oid)) entries) empty

-- a reader begins, to which nothing was described
pub begun_reader : (tables : List LogTable) (log : List Logged) (after : Lsn) (described : List (ℕ × List RelationColumn)) → ((oid : ℕ) → lookup (is_at (nat_cmp oid)) described ≡ None)
    → IsReader tables log (Some (record { after = after; commits = 0; begun = false; change = 0; table = 0 })) described None
begun_reader tables log after described none =
    let first : ReaderPosition = record { after = after; commits = 0; begun = false; change = 0; table = 0 } in
    let nothing : told_at tables log first ≡ [] = told_waiting tables log first refl in
    record {
      placed = λ p is. (
          let same : first ≡ p = (let t : Some first ≡ Some p = is in cc) in
          subst (IsPlaceIn log) same (record { few = omega arith; there = λ begun. absurd (let wrong : false ≡ true = begun in cc) }));
      recalled = λ p is. (
          let same : first ≡ p = (let t : Some first ≡ Some p = is in cc) in
          subst (λ (q : ReaderPosition). AreRecalled described (told_at tables log q)) same (subst (AreRecalled described) (sym nothing) none));
      held_is = λ p logged is holds. absurd (let wrong : None ≡ Some logged = holds in cc);
    }

-- a source with another reader
pub with_reader : {D : Type 0} (model : DiskModel D) (wal : Wal) (demo : Demo D) (place : Option ReaderPosition) (described : List (ℕ × List RelationColumn)) (held : Option Logged) (ended live : Bool) → IsReader demo.tables (logged_in wal.entries) place described held
    → IsRunning model wal demo → IsRunning model wal (record demo { place = place; described = described; held = held; ended = ended; live = live })
with_reader model wal demo place described held ended live reader r = record {
  lists = r.lists;
  is = r.is;
  few = r.few;
  names = r.names;
  tables = r.tables;
  steps = r.steps;
  stands = r.stands;
  silent = r.silent;
  commits = r.commits;
  confirmed = r.confirmed;
  reader = reader;
}

-- ---- a reader that starts, after the group

module _ {D : Type 0} (model : DiskModel D) {parts whole : Demo D} (is : parts ≡ whole) (mid : Demo D) (left : Leaves model parts (next_end parts) [] mid)
    (come : journals.ExtendsJournal model parts.journal mid.journal) (later : model.faults parts.journal.disk ≤ model.faults mid.journal.disk) (runs : Runs model parts (next_end parts) [] mid) (done : mid.done ≡ next_end parts) where
  abbrev pub starting : Option ReaderPosition → List (ℕ × List RelationColumn) → Demo D
  starting place described = record mid { place = place; described = described; held = None; ended = false; live = true }

  pub starts_from : (after : Lsn) (place : Option ReaderPosition) (described : List (ℕ × List RelationColumn)) (started : Started) → ((tables : List LogTable) (log : List Logged) → IsReader tables log place described None) → started ≡ start_answer after parts.confirmed
      → place ≡ place_after after started → StaysKnown model parts.journal.disk mid.journal.disk
      → RunsStepsAndWrites model (next_end whole) [] (AnswersStart after whole) whole (starting place described) (Ok started)
  starts_from after place described started reader tells there known =
      subst (λ (s : Demo D). RunsStepsAndWrites model (next_end s) [] (AnswersStart after s) s (starting place described) (Ok started)) is
      (answers model parts (next_end parts) [] (AnswersStart after parts) (starting place described) (Ok started) started refl
      (λ wal of_old. (
      let ran = runs wal (running_live model wal parts false of_old.running) in
      let subsequent : Wal = with_entries wal (added_by wal parts.done (next_end parts) []) in
      record {
        is = record {
          live = refl;
          running = with_reader model subsequent mid place described None false true (reader mid.tables (logged_in subsequent.entries)) ran.running;
          ended = λ told. absurd (let wrong : false ≡ true = told in cc);
        };
        done = ran.done;
      }))
      done left refl come later (record { is = tells; place = there; ended = refl }) known)

-- ---- a read

module _ {D : Type 0} (model : DiskModel D) {parts whole : Demo D} (is : parts ≡ whole) where
  -- it failed while groups were run, or after them
  pub read_fails : (new : Demo D) (result : Result (Option (List ℕ)) SourceError) (e : SourceError) → result ≡ Err e
      → ((wal : Wal) (place : ReaderPosition) → IsRunning model wal (within parts) → parts.place ≡ Some place → LeavesReadRun model wal place (within parts) new) → new.live ≡ false
      → journals.ExtendsJournal model parts.journal new.journal → model.faults parts.journal.disk ≤ model.faults new.journal.disk → (e ≡ Failed → FaultCounted (model.faults parts.journal.disk) (model.faults new.journal.disk)) → is_some new.place ≡ is_some parts.place
      → new.ended ≡ parts.ended → AddsRead model whole new result
  read_fails new result e told left dead come later failed reading still =
      subst (λ (s : Demo D). AddsRead model s new result) is
      (subst (λ (r : Result (Option (List ℕ)) SourceError). AddsRead model parts new r) (sym told) (record {
        all = tt;
        reads = λ wal place of_old there. tt;
        first = λ wal place of_old there. left wal place (running_live model wal parts false of_old.running) there;
        live = tt;
        dead = dead;
        come = come;
        later = later;
        failed = λ same. failed (let inside : Err e ≡ Err Failed = same in cc);
        known = tt;
        reading = reading;
        ended = tt;
        still = still;
      }))

  -- it read this
  pub read_answers : (new : Demo D) (read : Option (List ℕ)) → (read ≡ None → new.done ≡ length new.steps)
      → ((wal : Wal) (place : ReaderPosition) → IsRunning model wal (within parts) → parts.place ≡ Some place → ReadAfter model wal place parts new read)
      → ((wal : Wal) (place : ReaderPosition) → IsRunning model wal (within parts) → parts.place ≡ Some place → LeavesReadRun model wal place (within parts) new) → IsTrue new.live
      → journals.ExtendsJournal model parts.journal new.journal → model.faults parts.journal.disk ≤ model.faults new.journal.disk → is_some new.place ≡ is_some parts.place → new.ended ≡ is_none read → StaysKnown model parts.journal.disk new.journal.disk
      → AddsRead model whole new (Ok read)
  read_answers new read all reads left live come later reading ended known =
      subst (λ (s : Demo D). AddsRead model s new (Ok read)) is (record {
        all = all;
        reads = λ wal place of_old there. reads wal place (running_live model wal parts false of_old.running) there;
        first = λ wal place of_old there. left wal place (running_live model wal parts false of_old.running) there;
        live = live;
        dead = tt;
        come = come;
        later = later;
        failed = λ same. absurd (let wrong : Ok read ≡ Err Failed = same in cc);
        known = known;
        reading = reading;
        ended = ended;
        still = tt;
      })

-- the next message after the groups, as the source stands once it answers
pub read_after : {D : Type 0} (model : DiskModel D) (wal : Wal) (place : ReaderPosition) (old mid new : Demo D) (read : Option (List ℕ)) (ended : Bool) → RanOn model wal place old mid → new.done ≡ mid.done
    → ReadsNext model (with_entries wal (added_by wal old.done mid.done [])) place new read → ReadAfter model wal place old (record new { ended = ended; live = true }) read
read_after model wal place old mid new read ended ran done next = record {
  on = subst (λ (n : ℕ). ReadsOn wal.workload wal.entries place old.done n old.done) (sym done) ran.on;
  next = subst (λ (n : ℕ). ReadsNext model (with_entries wal (added_by wal old.done n [])) place (record new { ended = ended; live = true }) read) (sym done) (answers_live read next);
}
  where
    subsequent : Wal
    subsequent = with_entries wal (added_by wal old.done mid.done [])

    live : IsRunning model subsequent new → IsRunning model subsequent (record new { ended = ended; live = true })
    live r = with_reader model subsequent new new.place new.described new.held ended true r.reader r

    answers_live : (read : Option (List ℕ)) → ReadsNext model subsequent place new read → ReadsNext model subsequent place (record new { ended = ended; live = true }) read
    answers_live None none = record { is = none.is; end = none.end; running = live none.running }
    answers_live (Some bytes) one = record { next = one.next; is = one.is; same = one.same; message = one.message; spelled = one.spelled; told = one.told; running = live one.running }

-- ---- the read itself, after the groups

-- it changes nothing but the journal and the reader
abbrev pub IsReadOf : {D : Type 0} → Demo D → Demo D → Type 0
IsReadOf old new = new ≡ record old { journal = new.journal; place = new.place; described = new.described; held = new.held }

module _ {D : Type 0} (model : DiskModel D) {parts whole : Demo D} (is : parts ≡ whole) (mid new : Demo D) (same : IsRunOf (within parts) mid)
    (left : (wal : Wal) (place : ReaderPosition) → IsRunning model wal (within parts) → parts.place ≡ Some place → LeavesReadRun model wal place (within parts) mid)
    (come : journals.ExtendsJournal model parts.journal mid.journal) (later : model.faults parts.journal.disk ≤ model.faults mid.journal.disk)
    (read_of : IsReadOf mid new) (crash : (crashed : List ℕ) → model.may_leave new.journal.disk crashed → model.may_leave mid.journal.disk crashed) (read_come : journals.ExtendsJournal model mid.journal new.journal)
    (read_later : model.faults mid.journal.disk ≤ model.faults new.journal.disk) (reading : is_some new.place ≡ is_some mid.place) where
  left_read : (wal : Wal) (place : ReaderPosition) → IsRunning model wal (within parts) → parts.place ≡ Some place → LeavesReadRun model wal place (within parts) new
  left_read wal place r there crashed may = left wal place r there crashed (crash crashed may)

  come_read : journals.ExtendsJournal model parts.journal new.journal
  come_read gate most h = read_come gate most (come gate most h)

  reading_read : is_some new.place ≡ is_some parts.place
  reading_read = reading ∙ ap (λ (d : Demo D). is_some d.place) same

  done_read : new.done ≡ mid.done
  done_read = ap (λ (d : Demo D). d.done) read_of

  steps_read : new.steps ≡ mid.steps
  steps_read = ap (λ (d : Demo D). d.steps) read_of

  -- it failed
  pub read_fails_there : (result : Result (Option (List ℕ)) SourceError) (e : SourceError) → result ≡ Err e → (e ≡ Failed → FaultCounted (model.faults mid.journal.disk) (model.faults new.journal.disk)) → AddsRead model whole new result
  read_fails_there result e told failed =
      read_fails model is new result e told left_read (ap (λ (d : Demo D). d.live) read_of ∙ ap (λ (d : Demo D). d.live) same) come_read (omega (arith, later, read_later)) (λ is. omega (arith, later, failed is)) reading_read
      (ap (λ (d : Demo D). d.ended) read_of ∙ ap (λ (d : Demo D). d.ended) same)

  -- it answers, and the source is live again
  pub read_answers_there : (read : Option (List ℕ)) (ended : Bool) → ended ≡ is_none read → ((wal : Wal) (place : ReaderPosition) → IsRunning model wal (within parts) → parts.place ≡ Some place → RanOn model wal place (within parts) mid)
      → ((wal : Wal) (place : ReaderPosition) → IsRunning model wal mid → mid.place ≡ Some place → ReadsNext model wal place new read) → (has_unread mid.place (length mid.commits) ≡ true) ⊎ (length mid.steps ≤ mid.done)
      → (read ≡ None → has_unread mid.place (length mid.commits) ≡ false) → mid.done ≤ length mid.steps → StaysKnown model parts.journal.disk mid.journal.disk
      → StaysKnown model mid.journal.disk new.journal.disk → AddsRead model whole (record new { ended = ended; live = true }) (Ok read)
  read_answers_there read ended tells ran next end none upto known known_read =
      read_answers model is (record new { ended = ended; live = true }) read (λ nothing. all_done nothing end)
      (λ wal place r there. (
      let on = ran wal place r there in
      let one = next (with_entries wal (added_by wal parts.done mid.done [])) place on.running (ap (λ (d : Demo D). d.place) same ∙ there) in
      let subsequent = read_after model wal place (within parts) mid new read ended on done_read one in
      record { on = subsequent.on; next = subsequent.next }))
      left_read refl come_read (omega (arith, later, read_later)) reading_read tells (known_on model parts.journal.disk mid.journal.disk new.journal.disk known known_read)
    where
      all_done : read ≡ None → (has_unread mid.place (length mid.commits) ≡ true) ⊎ (length mid.steps ≤ mid.done) → new.done ≡ length new.steps
      all_done nothing (inl unread) = absurd (let wrong : true ≡ false = sym unread ∙ none nothing in cc)
      all_done nothing (inr above) =
          let all : mid.done ≡ length mid.steps = omega (arith, above, upto) in
          done_read ∙ all ∙ ap (λ (l : List Step). length l) (sym steps_read)
