-- What the session of a command amounts to, by what its contract says of it.
use Rattle.std.proofs.Common.{◌≡◌, ◌∙◌, ℕ, ℤ, Some, List, Result, Ok, Err, Option, sym, ap, subst, inl}
use Rattle.dbl_disk.specs.Model.{DiskModel}
use Rattle.dbl_model_table.specs.declared.config.Config.{Config}
use Rattle.dbl_model_table.specs.declared.table.TableName.{TableName}
use Rattle.dbl_journal.specs.Stored.{OnDisk}
use Rattle.dbl_offset.specs.Stores.{StoreOn, disk_of}
use Rattle.dbl_demo.specs.DemoLaws.Demo.{Demo}
use Rattle.dbl_capture.specs.CaptureWork.declared.halt.Halt.{Halt}
use Rattle.dbl_capture.specs.CaptureWork.declared.report.Ending.{Ending}
use Rattle.dbl_capture.specs.CaptureWork.declared.report.Report.{Report}
use Rattle.dblog_connect.specs.declared.asked.Asked.{Asked}
use Rattle.dblog_connect.specs.Asked.{asks_in, asks_of}
use Rattle.dblog_connect_ends.specs.declared.error.ConnectError.{ConnectError}
use Rattle.dblog_connect_ends.specs.declared.error.ConnectError.TheVariants.{Refused}
use Rattle.dblog_connect_ends.specs.Errors.{halt_error}
use Rattle.dblog_connect.specs.Steps.{AnswersConnect, disks_of, IsLogOf, IsOpenedLog, IsOpenedSource, IsOpenedStore, IsSourceOf}
use Rattle.dblog_connect.proofs.Answered.{ends_before, gains_of, kept_again, marks_of, never_of, refuses_of, report_of, run_of}
use Rattle.dblog_connect.proofs.CrashState.{kept_of, promised_of}
use Rattle.dblog_connect.proofs.Opened.{held_by, some_of}
use Rattle.dblog_connect.proofs.Gated.{Stopped, halt_next, halted, over}
use Rattle.dblog_connect.proofs.Ran.{GainsAllowed, Ran, TellsNext}

module _ {W T F : Type 0} (wal_model : DiskModel W) (topics_model : DiskModel T) (offsets_model : DiskModel F)
    (is_w : (disk : W) (bytes : List ℕ) → wal_model.seen disk ≡ Some bytes → wal_model.may_leave disk bytes)
    (is_t : (disk : T) (bytes : List ℕ) → topics_model.seen disk ≡ Some bytes → topics_model.may_leave disk bytes)
    (is_f : (disk : F) (bytes : List ℕ) → offsets_model.seen disk ≡ Some bytes → offsets_model.may_leave disk bytes)
    (so : Demo W) (lo : OnDisk T) (fo : StoreOn F)
    (opened_w : IsOpenedSource wal_model so) (opened_t : IsOpenedLog topics_model lo) (opened_f : IsOpenedStore offsets_model fo)
    (asked : Asked) (config : Config) (now : ℤ) (sn : Demo W) (ln : OnDisk T) (fn : StoreOn F) (report : Report) (result : Result Ending Halt)
    (ran : Ran wal_model topics_model offsets_model config now so sn lo ln fo fn report result)
    (asks : asks_of asked so.names fo.offset ≡ Some config) (adds : GainsAllowed topics_model asked lo ln) where
  asks_here : (w t : List ℕ) (src : IsSourceOf wal_model w so) (lg : IsLogOf topics_model t lo) → asks_in asked (held_by src.wal lg.groups fo.offset) ≡ Some config
  asks_here w t src lg = subst (λ (names : List TableName). asks_of asked names fo.offset ≡ Some config) src.demo.running.names asks

  pub answers_ok : (ending : Ending) → result ≡ Ok ending
      → AnswersConnect wal_model topics_model offsets_model asked now (disks_of so.journal.disk lo.disk (disk_of fo)) (disks_of sn.journal.disk ln.disk (disk_of fn)) (Ok (record { ending = ending; report = report }))
  answers_ok ending is = record {
    headline = λ kept w1 t1 f1 mw mt mf. (
        let w = some_of (wal_model.seen so.journal.disk) kept.wal in
        let t = some_of (topics_model.seen lo.disk) kept.topics in
        let f = some_of (offsets_model.seen (disk_of fo)) kept.offsets in
        let src = opened_w w.0 w.1 in
        let lg = opened_t t.0 t.1 in
        let st = opened_f f.0 f.1 in
        promised_of wal_model topics_model offsets_model is_w is_t is_f w.0 t.0 f.0 so lo fo src lg st config now sn ln fn report result ran
        asked (Ok (record { ending = ending; report = report })) (asks_here w.0 t.0 src lg) (λ whole. is ∙ ap (λ (e : Ending). Ok e) whole)
        (kept_of wal_model topics_model offsets_model is_w is_t is_f w.0 t.0 f.0 so lo fo src lg st kept) w1 t1 f1 mw mt mf);
    kept = λ kept. (
        let w = some_of (wal_model.seen so.journal.disk) kept.wal in
        let t = some_of (topics_model.seen lo.disk) kept.topics in
        let f = some_of (offsets_model.seen (disk_of fo)) kept.offsets in
        let src = opened_w w.0 w.1 in
        let lg = opened_t t.0 t.1 in
        let st = opened_f f.0 f.1 in
        kept_again wal_model topics_model offsets_model is_w is_t is_f w.0 t.0 f.0 so lo fo src lg st config now sn ln fn report result ran
        (kept_of wal_model topics_model offsets_model is_w is_t is_f w.0 t.0 f.0 so lo fo src lg st kept));
    report = λ kept w t f told_w told_t told_f. report_of wal_model topics_model offsets_model is_w is_t is_f w t f so lo fo
        (opened_w w told_w) (opened_t t told_t) (opened_f f told_f) config now sn ln fn report result ran ending is
        (kept_of wal_model topics_model offsets_model is_w is_t is_f w t f so lo fo (opened_w w told_w) (opened_t t told_t) (opened_f f told_f) kept)
        asked (asks_here w t (opened_w w told_w) (opened_t t told_t));
    never = λ kept w t f told_w told_t told_f. tt;
    told = λ w t f told_w told_t told_f. run_of wal_model topics_model offsets_model is_w is_t is_f w t f so lo fo
        (opened_w w told_w) (opened_t t told_t) (opened_f f told_f) config now sn ln fn report result ran asked (asks_here w t (opened_w w told_w) (opened_t t told_t)) ending is;
    refuses = λ w t f told_w told_t told_f. tt;
    gains = λ w t f told_w told_t told_f begun. gains_of wal_model topics_model offsets_model is_w is_t is_f w t f so lo fo
        (opened_w w told_w) (opened_t t told_t) (opened_f f told_f) config now sn ln fn report result ran asked (asks_here w t (opened_w w told_w) (opened_t t told_t)) adds begun;
    marks = λ w t f told_w told_t told_f. marks_of wal_model topics_model offsets_model is_w is_t is_f w t f so lo fo
        (opened_w w told_w) (opened_t t told_t) (opened_f f told_f) config now sn ln fn report result ran asked (asks_here w t (opened_w w told_w) (opened_t t told_t));
  }

  pub answers_err : (h : Halt) → result ≡ Err h
      → AnswersConnect wal_model topics_model offsets_model asked now (disks_of so.journal.disk lo.disk (disk_of fo)) (disks_of sn.journal.disk ln.disk (disk_of fn)) (Err (halt_error h))
  answers_err h is = record {
    headline = λ kept w1 t1 f1 mw mt mf. (
        let w = some_of (wal_model.seen so.journal.disk) kept.wal in
        let t = some_of (topics_model.seen lo.disk) kept.topics in
        let f = some_of (offsets_model.seen (disk_of fo)) kept.offsets in
        let src = opened_w w.0 w.1 in
        let lg = opened_t t.0 t.1 in
        let st = opened_f f.0 f.1 in
        promised_of wal_model topics_model offsets_model is_w is_t is_f w.0 t.0 f.0 so lo fo src lg st config now sn ln fn report result ran
        asked (Err (halt_error h)) (asks_here w.0 t.0 src lg) (λ none. absurd none)
        (kept_of wal_model topics_model offsets_model is_w is_t is_f w.0 t.0 f.0 so lo fo src lg st kept) w1 t1 f1 mw mt mf);
    kept = λ kept. (
        let w = some_of (wal_model.seen so.journal.disk) kept.wal in
        let t = some_of (topics_model.seen lo.disk) kept.topics in
        let f = some_of (offsets_model.seen (disk_of fo)) kept.offsets in
        let src = opened_w w.0 w.1 in
        let lg = opened_t t.0 t.1 in
        let st = opened_f f.0 f.1 in
        kept_again wal_model topics_model offsets_model is_w is_t is_f w.0 t.0 f.0 so lo fo src lg st config now sn ln fn report result ran
        (kept_of wal_model topics_model offsets_model is_w is_t is_f w.0 t.0 f.0 so lo fo src lg st kept));
    report = λ kept w t f told_w told_t told_f. tt;
    never = λ kept w t f told_w told_t told_f. never_of wal_model topics_model offsets_model is_w is_t is_f w t f so lo fo
        (opened_w w told_w) (opened_t t told_t) (opened_f f told_f) config now sn ln fn report result ran asked (asks_here w t (opened_w w told_w) (opened_t t told_t)) h is
        (kept_of wal_model topics_model offsets_model is_w is_t is_f w t f so lo fo (opened_w w told_w) (opened_t t told_t) (opened_f f told_f) kept);
    told = λ w t f told_w told_t told_f. ends_before wal_model topics_model offsets_model is_w is_t is_f w t f so lo fo
        (opened_w w told_w) (opened_t t told_t) (opened_f f told_f) config now sn ln fn report result ran asked (asks_here w t (opened_w w told_w) (opened_t t told_t)) h is;
    refuses = λ w t f told_w told_t told_f. halt_next asked now (wal_model.may_leave sn.journal.disk) w t f h;
    gains = λ w t f told_w told_t told_f begun. gains_of wal_model topics_model offsets_model is_w is_t is_f w t f so lo fo
        (opened_w w told_w) (opened_t t told_t) (opened_f f told_f) config now sn ln fn report result ran asked (asks_here w t (opened_w w told_w) (opened_t t told_t)) adds begun;
    marks = λ w t f told_w told_t told_f. marks_of wal_model topics_model offsets_model is_w is_t is_f w t f so lo fo
        (opened_w w told_w) (opened_t t told_t) (opened_f f told_f) config now sn ln fn report result ran asked (asks_here w t (opened_w w told_w) (opened_t t told_t));
  }

  -- a record was refused
  pub answers_refused : (h : Halt) (position ordinal : ℕ) → result ≡ Err h → TellsNext wal_model topics_model config now asked so sn lo fo.offset fn.offset (position, ordinal)
      → AnswersConnect wal_model topics_model offsets_model asked now (disks_of so.journal.disk lo.disk (disk_of fo)) (disks_of sn.journal.disk ln.disk (disk_of fn)) (Err (Refused position ordinal))
  answers_refused h position ordinal is tells =
      let a = answers_err h is in
      record {
        headline = a.headline;
        kept = a.kept;
        report = λ kept w t f told_w told_t told_f. tt;
        never = λ kept w t f told_w told_t told_f. tt;
        told = λ w t f told_w told_t told_f. inl tt;
        refuses = λ w t f told_w told_t told_f. refuses_of wal_model topics_model offsets_model is_w is_t is_f w t f so lo fo
            (opened_w w told_w) (opened_t t told_t) (opened_f f told_f) config now sn ln fn report result ran asked (asks_here w t (opened_w w told_w) (opened_t t told_t))
            (position, ordinal) tells;
        gains = a.gains;
        marks = a.marks;
      }

  pub answers_stopped : (refused : Option (ℕ × ℕ)) (e : ConnectError) → Stopped result refused e
      → ((place : ℕ × ℕ) → refused ≡ Some place → TellsNext wal_model topics_model config now asked so sn lo fo.offset fn.offset place)
      → AnswersConnect wal_model topics_model offsets_model asked now (disks_of so.journal.disk lo.disk (disk_of fo)) (disks_of sn.journal.disk ln.disk (disk_of fn)) (Err e)
  answers_stopped refused e (halted h is none e_is) tells =
      subst (λ (x : ConnectError). AnswersConnect wal_model topics_model offsets_model asked now (disks_of so.journal.disk lo.disk (disk_of fo))
      (disks_of sn.journal.disk ln.disk (disk_of fn)) (Err x)) (sym e_is) (answers_err h is)
  answers_stopped refused e (over h place is some e_is) tells =
      subst (λ (x : ConnectError). AnswersConnect wal_model topics_model offsets_model asked now (disks_of so.journal.disk lo.disk (disk_of fo))
      (disks_of sn.journal.disk ln.disk (disk_of fn)) (Err x)) (sym e_is) (answers_refused h place.0 place.1 is (tells place some))
