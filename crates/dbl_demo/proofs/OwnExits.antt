-- How a call ends that writes an entry of its own after the group that it ran.
use Rattle.std.proofs.Common.{◌≡◌, ◌∙◌, ◌⊎◌, ℕ, ◌<◌, ◌≤◌, ◌^◌, Bool, true, false, List, [], ◌∷◌, ◌++◌, refl, sym, ap, subst, arith}
use Rattle.std.specs.Prelude.{Result, Ok, Err, nat_lt, if◌then◌else◌}
use Rattle.std.proofs.lemmas.Bool.{ltb-true}
use Rattle.std.proofs.lemmas.Bool.Decides.{Decides-ltb}
use Rattle.dbl_base.specs.declared.lsn.Lsn.{Lsn}
use Rattle.dbl_base.specs.Streams.{FaultCounted}
use Rattle.dbl_disk.specs.Model.{DiskModel}
use Rattle.dbl_source_model.specs.declared.started.Started.TheVariants.{Gone, Ready}
use Rattle.dbl_journal.specs.Growth as journals
use Rattle.dbl_journal.specs.Stored.{LeavesEntries, Lists, OnDisk, count_of}
use Rattle.dbl_source_log.specs.declared.error.SourceError.{SourceError}
use Rattle.dbl_source_log.specs.declared.error.SourceError.TheVariants.{Failed}
use Rattle.dbl_demo_wal.specs.declared.entry.Entry.{Entry}
use Rattle.dbl_demo_wal.specs.declared.entry.Entry.TheVariants.{Confirms, Marks}
use Rattle.dbl_demo_wal.specs.Entries.{EncodesEntry}
use Rattle.dbl_demo_wal.specs.Sound.{logged_in}
use Rattle.dbl_demo_wal.specs.Wals.{Wal, forms_of}
use Rattle.dbl_demo_wal.specs.CrashState.{added_by, with_entries}
use Rattle.dbl_demo_laws.specs.Answers.{RunsStepsAndWrites, AnswersNothing, IsReaderKept}
use Rattle.dbl_demo_laws.specs.Calls.{LeavesFirst, confirm_of, mark_entries, next_end, start_answer}
use Rattle.dbl_demo_laws.specs.Demo.{Demo, IsRunning}
use Rattle.dbl_demo_laws.specs.Running.{IsRunOf, StaysKnown}
use Rattle.dbl_demo_laws.proofs.CallLemmas.{running_live}
use Rattle.dbl_demo_laws.proofs.EndedLemmas.{AreMarks, ended_on}
use Rattle.dbl_demo_laws.proofs.ExitLemmas.{Leaves, Runs, answering, answers, fails, first_is, within}
use Rattle.dbl_demo_laws.proofs.LoopLemmas.{end_none, left_whole}
use Rattle.dbl_demo_laws.proofs.OwnLemmas.{confirm_next, confirm_running, mark_next, mark_running, own_left}
use Rattle.dbl_demo.proofs.AppendLemmas.{entry_left, entry_listed}

-- ---- which of two it is

lt_true : (a b : ℕ) → a < b → nat_lt a b ≡ true
lt_true a b lt = (Decides-ltb a b).1 lt

lt_false : (a b : ℕ) → b ≤ a → nat_lt a b ≡ false
lt_false a b le = by (nat_lt a b) refl
  where
    by : (c : Bool) → nat_lt a b ≡ c → c ≡ false
    by true is = absurd (omega (arith, le, ltb-true a b is))
    by false is = refl

pub rises_so : (old upto : Lsn) → old.0 < upto.0 → confirm_of old upto ≡ Confirms upto ∷ []
rises_so old upto lt = ap (λ (b : Bool). if b then Confirms upto ∷ [] else []) (lt_true old.0 upto.0 lt)

pub rises_not : (old upto : Lsn) → upto.0 ≤ old.0 → confirm_of old upto ≡ []
rises_not old upto le = ap (λ (b : Bool). if b then Confirms upto ∷ [] else []) (lt_false old.0 upto.0 le)

pub gone_so : (after confirmed : Lsn) → after.0 < confirmed.0 → start_answer after confirmed ≡ Gone confirmed
gone_so after confirmed lt = ap (λ (b : Bool). if b then Gone confirmed else Ready) (lt_true after.0 confirmed.0 lt)

pub ready_so : (after confirmed : Lsn) → confirmed.0 ≤ after.0 → start_answer after confirmed ≡ Ready
ready_so after confirmed le = ap (λ (b : Bool). if b then Gone confirmed else Ready) (lt_false after.0 confirmed.0 le)

-- a source whose journal lists the same
running_lists : {D : Type 0} (model : DiskModel D) (wal : Wal) (demo : Demo D) (journal : OnDisk D) → Lists model journal (forms_of wal) → IsRunning model wal demo → IsRunning model wal (record demo { journal = journal })
running_lists model wal demo journal lists r = record {
  lists = lists;
  is = r.is;
  few = r.few;
  names = r.names;
  tables = r.tables;
  steps = r.steps;
  stands = r.stands;
  silent = r.silent;
  commits = r.commits;
  confirmed = r.confirmed;
  reader = r.reader;
}

module _ {D : Type 0} (model : DiskModel D) {parts whole : Demo D} (is : parts ≡ whole) where
  -- ---- nothing was appended after the group

  -- a crash leaves the first ones of what the group adds
  pub first_from : (new : Demo D) → Leaves model parts (next_end parts) [] new → LeavesFirst model (next_end whole) [] whole new
  first_from new left = subst (λ (s : Demo D). LeavesFirst model (next_end s) [] s new) is (first_is model parts (next_end parts) [] new left)

  -- an append that added nothing leaves as much
  pub starved_from : (mid new : Demo D) → Runs model parts (next_end parts) [] mid → ((forms : List (List ℕ)) → Lists model mid.journal forms → Lists model new.journal forms) → LeavesFirst model (next_end whole) [] whole new
  starved_from mid new runs kept = first_from new (λ wal r. (
      let ran = runs wal r in
      let subsequent : Wal = with_entries wal (added_by wal parts.done (next_end parts) []) in
      let same : Demo D = record mid { journal = new.journal } in
      left_whole model wal (next_end parts) (within parts) same (record {
        running = running_lists model subsequent mid new.journal (kept (forms_of subsequent) ran.running.lists) ran.running;
        done = ran.done;
      })))

  -- ---- the ends of the call

  module _ (own : Demo D → List Entry) (new : Demo D) (reader : IsReaderKept parts new) (left : Leaves model parts (next_end parts) (own parts) new) (come : journals.ExtendsJournal model parts.journal new.journal) (later : model.faults parts.journal.disk ≤ model.faults new.journal.disk) where
    own_fails : (result : Result (Unit {0}) SourceError) (e : SourceError) → result ≡ Err e → new.live ≡ false → (e ≡ Failed → FaultCounted (model.faults parts.journal.disk) (model.faults new.journal.disk)) → RunsStepsAndWrites model (next_end whole) (own whole) (AnswersNothing whole) whole new result
    own_fails result e told dead failed =
        subst (λ (s : Demo D). RunsStepsAndWrites model (next_end s) (own s) (AnswersNothing s) s new result) is
        (fails model parts (next_end parts) (own parts) (AnswersNothing parts) new result e told left dead reader come later failed)

    own_answers : AreMarks (logged_in (own parts)) → new.done ≡ next_end parts → new.steps ≡ parts.steps
        → ((wal : Wal) → IsRunning model wal (within parts) → IsRunning model (with_entries wal (added_by wal parts.done (next_end parts) (own parts))) new)
        → StaysKnown model parts.journal.disk new.journal.disk → RunsStepsAndWrites model (next_end whole) (own whole) (AnswersNothing whole) whole (answering new) (Ok tt)
    own_answers marks done steps runs known =
        let kept : IsReaderKept parts (answering new) = record { place = reader.place; ended = reader.ended } in
        subst (λ (s : Demo D). RunsStepsAndWrites model (next_end s) (own s) (AnswersNothing s) s (answering new) (Ok tt)) is
        (answers model parts (next_end parts) (own parts) (AnswersNothing parts) (answering new) (Ok tt) tt refl
        (λ wal of_old. (
        let r = running_live model wal parts false of_old.running in
        let subsequent : Wal = with_entries wal (added_by wal parts.done (next_end parts) (own parts)) in
        record {
          is = record {
            live = refl;
            running = running_live model subsequent new true (runs wal r);
            ended = ended_on model parts (answering new) wal of_old (next_end parts) (own parts) (λ all. end_none parts.steps parts.done (omega (arith, all))) marks done steps kept;
          };
          done = done;
        }))
        done left refl come later (record { reader = kept }) known)

  module _ (mid : Demo D) (same : IsRunOf (within parts) mid) (runs : Runs model parts (next_end parts) [] mid) (end : mid.done ≡ next_end parts) (come : journals.ExtendsJournal model parts.journal mid.journal) (later : model.faults parts.journal.disk ≤ model.faults mid.journal.disk) (small : count_of mid.journal < 2 ^ 40) (new : Demo D)
      (come_own : journals.ExtendsJournal model mid.journal new.journal) (later_own : model.faults mid.journal.disk ≤ model.faults new.journal.disk) (bytes : List ℕ)
      (leaves : (forms : List (List ℕ)) → Lists model mid.journal forms → LeavesEntries model new.journal.disk (λ left. (left ≡ forms) ⊎ (left ≡ forms ++ bytes ∷ []))) where
    come_both : journals.ExtendsJournal model parts.journal new.journal
    come_both gate most h = come_own gate most (come gate most h)

    later_both : model.faults parts.journal.disk ≤ model.faults new.journal.disk
    later_both = omega (arith, later, later_own)

    -- ---- a watermark

    module _ (value : List ℕ) (spells : EncodesEntry bytes (Marks (next_end parts) value)) (logged : new ≡ record mid { journal = new.journal; commits = new.commits }) where
      mark_left : Leaves model parts (next_end parts) (mark_entries value (next_end parts)) new
      mark_left wal r =
          let ran = runs wal r in
          own_left model wal (within parts) mid (next_end parts) ran small (Marks (next_end parts) value) spells.fits (mark_next model wal (within parts) mid (next_end parts) ran small value spells.fits) new.journal.disk
          (entry_left model new.journal (forms_of (with_entries wal (added_by wal parts.done (next_end parts) []))) bytes (Marks (next_end parts) value) spells (leaves (forms_of (with_entries wal (added_by wal parts.done (next_end parts) []))) ran.running.lists))

      mark_reader : IsReaderKept parts new
      mark_reader = record { place = ap (λ (d : Demo D). d.place) logged ∙ ap (λ (d : Demo D). d.place) same; ended = ap (λ (d : Demo D). d.ended) logged ∙ ap (λ (d : Demo D). d.ended) same }

      pub mark_fails : (result : Result (Unit {0}) SourceError) (e : SourceError) → result ≡ Err e → (e ≡ Failed → FaultCounted (model.faults mid.journal.disk) (model.faults new.journal.disk)) → RunsStepsAndWrites model (next_end whole) (mark_entries value (next_end whole)) (AnswersNothing whole) whole new result
      mark_fails result e told failed =
          own_fails (λ s. mark_entries value (next_end s)) new mark_reader mark_left come_both later_both result e told (ap (λ (d : Demo D). d.live) logged ∙ ap (λ (d : Demo D). d.live) same) (λ is. omega (arith, later, failed is))

      pub mark_answers : new.commits ≡ mid.commits ++ count_of mid.journal ∷ [] → ((forms : List (List ℕ)) → Lists model mid.journal forms → Lists model new.journal (forms ++ bytes ∷ []))
          → StaysKnown model parts.journal.disk new.journal.disk → RunsStepsAndWrites model (next_end whole) (mark_entries value (next_end whole)) (AnswersNothing whole) whole (answering new) (Ok tt)
      mark_answers commits lists known =
          let is_new : record mid { journal = new.journal; commits = mid.commits ++ count_of mid.journal ∷ [] } ≡ new = ap (λ (l : List ℕ). let d : Demo D = record mid { journal = new.journal; commits = l } in d) (sym commits) ∙ sym logged in
          own_answers (λ s. mark_entries value (next_end s)) new mark_reader mark_left come_both later_both (tt, tt) (ap (λ (d : Demo D). d.done) logged ∙ end) (ap (λ (d : Demo D). d.steps) logged ∙ ap (λ (d : Demo D). d.steps) same)
          (λ wal r. (
          let ran = runs wal r in
          let base = forms_of (with_entries wal (added_by wal parts.done (next_end parts) [])) in
          subst (IsRunning model (with_entries wal (added_by wal parts.done (next_end parts) (mark_entries value (next_end parts))))) is_new
          (mark_running model wal (within parts) mid (next_end parts) ran small value spells.fits new.journal
          (entry_listed model new.journal base bytes (Marks (next_end parts) value) spells (lists base ran.running.lists)))))
          known

    -- ---- a confirmed position that rises

    module _ (lsn : Lsn) (spells : EncodesEntry bytes (Confirms lsn)) (rises : mid.confirmed.0 < lsn.0) (own : confirm_of parts.confirmed lsn ≡ Confirms lsn ∷ []) (logged : new ≡ record mid { journal = new.journal; confirmed = new.confirmed }) where
      confirm_left : Leaves model parts (next_end parts) (confirm_of parts.confirmed lsn) new
      confirm_left = subst (λ (l : List Entry). Leaves model parts (next_end parts) l new) (sym own) (λ wal r. (
          let ran = runs wal r in
          let base = forms_of (with_entries wal (added_by wal parts.done (next_end parts) [])) in
          own_left model wal (within parts) mid (next_end parts) ran small (Confirms lsn) spells.fits (confirm_next model wal (within parts) mid (next_end parts) ran small lsn spells.fits rises) new.journal.disk
          (entry_left model new.journal base bytes (Confirms lsn) spells (leaves base ran.running.lists))))

      confirm_reader : IsReaderKept parts new
      confirm_reader = record { place = ap (λ (d : Demo D). d.place) logged ∙ ap (λ (d : Demo D). d.place) same; ended = ap (λ (d : Demo D). d.ended) logged ∙ ap (λ (d : Demo D). d.ended) same }

      pub confirm_fails : (result : Result (Unit {0}) SourceError) (e : SourceError) → result ≡ Err e → (e ≡ Failed → FaultCounted (model.faults mid.journal.disk) (model.faults new.journal.disk)) → RunsStepsAndWrites model (next_end whole) (confirm_of whole.confirmed lsn) (AnswersNothing whole) whole new result
      confirm_fails result e told failed =
          own_fails (λ s. confirm_of s.confirmed lsn) new confirm_reader confirm_left come_both later_both result e told (ap (λ (d : Demo D). d.live) logged ∙ ap (λ (d : Demo D). d.live) same) (λ is. omega (arith, later, failed is))

      pub confirm_answers : new.confirmed ≡ lsn → ((forms : List (List ℕ)) → Lists model mid.journal forms → Lists model new.journal (forms ++ bytes ∷ []))
          → StaysKnown model parts.journal.disk new.journal.disk → RunsStepsAndWrites model (next_end whole) (confirm_of whole.confirmed lsn) (AnswersNothing whole) whole (answering new) (Ok tt)
      confirm_answers confirmed lists known =
          let is_new : record mid { journal = new.journal; confirmed = lsn } ≡ new = ap (λ (l : Lsn). let d : Demo D = record mid { journal = new.journal; confirmed = l } in d) (sym confirmed) ∙ sym logged in
          own_answers (λ s. confirm_of s.confirmed lsn) new confirm_reader confirm_left come_both later_both (subst (λ (l : List Entry). AreMarks (logged_in l)) (sym own) tt) (ap (λ (d : Demo D). d.done) logged ∙ end) (ap (λ (d : Demo D). d.steps) logged ∙ ap (λ (d : Demo D). d.steps) same)
          (λ wal r. (
          let ran = runs wal r in
          let base = forms_of (with_entries wal (added_by wal parts.done (next_end parts) [])) in
          subst (λ (l : List Entry). IsRunning model (with_entries wal (added_by wal parts.done (next_end parts) l)) new) (sym own)
          (subst (IsRunning model (with_entries wal (added_by wal parts.done (next_end parts) (Confirms lsn ∷ [])))) is_new
          (confirm_running model wal (within parts) mid (next_end parts) ran small lsn spells.fits rises new.journal
          (entry_listed model new.journal base bytes (Confirms lsn) spells (lists base ran.running.lists))))))
          known

  -- ---- a confirmed position that doesn't rise is written nowhere

  pub unrisen_answers : (mid : Demo D) (same : IsRunOf (within parts) mid) → Runs model parts (next_end parts) [] mid → mid.done ≡ next_end parts → Leaves model parts (next_end parts) [] mid → journals.ExtendsJournal model parts.journal mid.journal
      → model.faults parts.journal.disk ≤ model.faults mid.journal.disk → (lsn : Lsn) → confirm_of parts.confirmed lsn ≡ [] → StaysKnown model parts.journal.disk mid.journal.disk → RunsStepsAndWrites model (next_end whole) (confirm_of whole.confirmed lsn) (AnswersNothing whole) whole (answering mid) (Ok tt)
  unrisen_answers mid same runs end left come later lsn own known =
      own_answers (λ s. confirm_of s.confirmed lsn) mid (record { place = ap (λ (d : Demo D). d.place) same; ended = ap (λ (d : Demo D). d.ended) same })
      (subst (λ (l : List Entry). Leaves model parts (next_end parts) l mid) (sym own) left) come later (subst (λ (l : List Entry). AreMarks (logged_in l)) (sym own) tt) end (ap (λ (d : Demo D). d.steps) same)
      (λ wal r. subst (λ (l : List Entry). IsRunning model (with_entries wal (added_by wal parts.done (next_end parts) l)) mid) (sym own) (runs wal r).running)
      known
