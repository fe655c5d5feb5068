-- How a session over a gate ends: as the session, or with the record that was refused.
use Rattle.std.proofs.Common.{◌≡◌, ◌∙◌, ℕ, ℤ, Bool, true, false, Option, Some, None, List, Result, Ok, Err, refl, sym, ap, subst, inl, arith}
use Rattle.std.specs.Prelude.{◌&&◌, ◌-◌, ◌^◌, is_none, unwrap_or, OnOk}
use Rattle.dbl_disk.specs.Model.{DiskModel}
use Rattle.dbl_record.specs.declared.record.Record.{Record}
use Rattle.dbl_hooks_gate.specs.declared.rule.Rule.{Rule}
use Rattle.dbl_hooks_gate.specs.declared.rule.Rule.TheVariants.{MaxValue}
use Rattle.dbl_hooks_gate.specs.Gates.{IsFirstRefused}
use Rattle.dbl_hooks_gate.proofs.GateLemmas.{bound_by}
use Rattle.dbl_journal.specs.Stored.{OnDisk}
use Rattle.dbl_offset.specs.Stores.{StoreOn, disk_of}
use Rattle.dbl_demo.specs.DemoLaws.Demo.{Demo}
use Rattle.dbl_capture.specs.CaptureWork.declared.halt.Halt.{Halt}
use Rattle.dbl_capture.specs.CaptureWork.declared.halt.Halt.TheVariants as halt
use Rattle.dbl_capture.specs.CaptureWork.declared.report.Ending.{Ending}
use Rattle.dbl_capture.specs.CaptureWork.declared.report.Ending.TheVariants.{Complete}
use Rattle.dbl_demo.specs.SourceModel.Standings.{HasState, SourceState}
use Rattle.dbl_capture_gated.specs.Passed.{RefusesNext}
use Rattle.dbl_model_table.specs.declared.config.Config.{Config}
use Rattle.dbl_offset_content.specs.declared.offset.Offset.{Offset}
use Rattle.dblog_init.specs.declared.error.Store.{Store}
use Rattle.dblog_init.specs.declared.error.Store.TheVariants as store
use Rattle.dblog_connect_ends.specs.declared.error.ConnectError.{ConnectError}
use Rattle.dblog_connect_ends.specs.declared.error.ConnectError.TheVariants as error
use Rattle.dblog_connect_ends.specs.Errors.{IsAfterOpening, IsConnectError, IsConnectRefusal, halt_error}
use Rattle.dblog_connect.specs.declared.asked.Asked.{Asked}
use Rattle.dblog_connect.specs.Asked.{limit_of, rule_of}
use Rattle.dblog_connect.specs.Refusals.{ExceedsMaximum, IsRefusedNext}
use Rattle.dblog_connect.specs.Ends.{ConnectEnd}
use Rattle.dblog_connect.specs.Steps.{EndsSession, disks_of, session_end}
use Rattle.dblog_connect.proofs.ErrorKinds.{counts_same}
use Rattle.dblog_connect.proofs.Exits.{halt_fails, halt_kind, halt_of}
use Rattle.dblog_connect.proofs.Opened.{bounded_same, store_bounded_same}
use Rattle.dblog_connect.proofs.Stays.{answers_stay}

-- a gate whose sink is usable, and that refused nothing, is open
pub open_of : (live : Bool) (refused : Option (ℕ × ℕ)) → live ≡ true → refused ≡ None → live && is_none refused ≡ true
open_of true None is none = refl
open_of true (Some place) is none = absurd cc
open_of false refused is none = absurd cc

-- why a session over a gate stopped: it halted, or a record was refused
pub data Stopped (result : Result Ending Halt) (refused : Option (ℕ × ℕ)) (e : ConnectError) : Type 0 where
  halted : (h : Halt) → result ≡ Err h → refused ≡ None → e ≡ halt_error h → Stopped result refused e
  over : (h : Halt) (place : ℕ × ℕ) → result ≡ Err h → refused ≡ Some place → e ≡ error.Refused place.0 place.1 → Stopped result refused e

error_in : Result Ending ConnectError → ConnectError
error_in (Ok ending) = error.Memory
error_in (Err e) = e

error_is : (a b : ConnectError) → ◌≡◌ {A = Result Ending ConnectError} (Err a) (Err b) → a ≡ b
unfolding error_in
error_is a b is = ap error_in is

ending_in : Result Ending ConnectError → Ending
ending_in (Ok ending) = ending
ending_in (Err e) = Complete

ending_is : (a b : Ending) → ◌≡◌ {A = Result Ending ConnectError} (Ok a) (Ok b) → a ≡ b
unfolding ending_in
ending_is a b is = ap ending_in is

pub stopped : (result : Result Ending Halt) (refused : Option (ℕ × ℕ)) (e : ConnectError) → session_end result refused ≡ Err e → Stopped result refused e
stopped (Ok ending) refused e is = absurd cc
stopped (Err h) None e is = halted h refl refl (sym (error_is (halt_error h) e is))
stopped (Err h) (Some place) e is = over h place refl refl (sym (error_is (error.Refused place.0 place.1) e is))

-- a session that ended normally over the gate did so
pub ended : (result : Result Ending Halt) (refused : Option (ℕ × ℕ)) (ending : Ending) → session_end result refused ≡ Ok ending → result ≡ Ok ending
ended (Ok other) refused ending is = ap (λ (e : Ending). Ok e) (ending_is other ending is)
ended (Err h) None ending is = absurd cc
ended (Err h) (Some place) ending is = absurd cc

-- a halt is no refused record
halt_exceeds : (asked : Asked) (h : Halt) → ExceedsMaximum asked (halt_error h)
halt_exceeds asked halt.Source = tt
halt_exceeds asked halt.Sink = tt
halt_exceeds asked halt.Offsets = tt
halt_exceeds asked halt.Memory = tt
halt_exceeds asked (halt.Message number error) = tt
halt_exceeds asked (halt.Txn number error) = tt
halt_exceeds asked (halt.Chunk table row) = tt
halt_exceeds asked (halt.Altered table) = tt
halt_exceeds asked (halt.Cell table column error) = tt
halt_exceeds asked (halt.Clash table column) = tt
halt_exceeds asked (halt.RecordTooLong len) = tt
halt_exceeds asked (halt.OffsetTooLong len) = tt
halt_exceeds asked (halt.Model error) = tt
halt_exceeds asked (halt.UnknownTable table) = tt
halt_exceeds asked (halt.Gone asked_for first) = tt
halt_exceeds asked (halt.WatermarkMissing value at) = tt
halt_exceeds asked (halt.Exhausted incarnation) = tt

pub halt_next : (asked : Asked) (now : ℤ) (wals : List ℕ → Type 0) (w t f : List ℕ) (h : Halt) → IsRefusedNext asked now wals w t f (halt_error h)
halt_next asked now wals w t f halt.Source = tt
halt_next asked now wals w t f halt.Sink = tt
halt_next asked now wals w t f halt.Offsets = tt
halt_next asked now wals w t f halt.Memory = tt
halt_next asked now wals w t f (halt.Message number error) = tt
halt_next asked now wals w t f (halt.Txn number error) = tt
halt_next asked now wals w t f (halt.Chunk table row) = tt
halt_next asked now wals w t f (halt.Altered table) = tt
halt_next asked now wals w t f (halt.Cell table column error) = tt
halt_next asked now wals w t f (halt.Clash table column) = tt
halt_next asked now wals w t f (halt.RecordTooLong len) = tt
halt_next asked now wals w t f (halt.OffsetTooLong len) = tt
halt_next asked now wals w t f (halt.Model error) = tt
halt_next asked now wals w t f (halt.UnknownTable table) = tt
halt_next asked now wals w t f (halt.Gone asked_for first) = tt
halt_next asked now wals w t f (halt.WatermarkMissing value at) = tt
halt_next asked now wals w t f (halt.Exhausted incarnation) = tt

-- at the same time, by the same rule
pub next_same : {W : Type 0} (stands : Demo W → SourceState → Type 0) (source : Demo W) (config : Config) (now later : ℤ) (rule other : Rule) (old new : Option Offset) (place : ℕ × ℕ)
    → now ≡ later → rule ≡ other → HasState stands source (RefusesNext config now rule old new place) → HasState stands source (RefusesNext config later other old new place)
next_same stands source config now later rule other old new place same_now same_rule has =
    subst (λ (n : ℤ). HasState stands source (RefusesNext config n other old new place)) same_now
    (subst (λ (r : Rule). HasState stands source (RefusesNext config now r old new place)) same_rule has)

-- without a maximum length no record is refused
exceeds_by : (asked : Asked) (limit : Option ℕ) → limit_of asked ≡ limit → (rule : Rule) → rule ≡ rule_of asked
    → (group : List Record) (place : ℕ × ℕ) → IsFirstRefused rule group place → ExceedsMaximum asked (error.Refused place.0 place.1)
exceeds_by asked None none rule rule_is group place first =
    let under = bound_by rule group place first (2 ^ 64 - 1) (rule_is ∙ ap (λ (l : Option ℕ). MaxValue (unwrap_or l (2 ^ 64 - 1))) none) in
    absurd (omega (arith, under))
exceeds_by asked (Some most) some rule rule_is group place first = (
  most,
  some,
  group,
  subst (λ (r : Rule). IsFirstRefused r group place) (rule_is ∙ ap (λ (l : Option ℕ). MaxValue (unwrap_or l (2 ^ 64 - 1))) some) first,
)

module _ (result : Result Ending Halt) (refused : Option (ℕ × ℕ)) (e : ConnectError) where
  -- the record that was refused is longer than the arguments allow
  pub stop_exceeds : (asked : Asked) (rule : Rule) → rule ≡ rule_of asked
      → ((place : ℕ × ℕ) → refused ≡ Some place → (group : List Record) × IsFirstRefused rule group place) → Stopped result refused e
      → ExceedsMaximum asked e
  stop_exceeds asked rule rule_is first (halted h is none e_is) = subst (ExceedsMaximum asked) (sym e_is) (halt_exceeds asked h)
  stop_exceeds asked rule rule_is first (over h place is some e_is) =
      let found = first place some in
      subst (ExceedsMaximum asked) (sym e_is) (exceeds_by asked (limit_of asked) refl rule rule_is found.0 place found.1)

  pub stop_kind : Stopped result refused e → IsConnectError e × IsAfterOpening store.Offsets e × (IsConnectRefusal e → ⊥)
  stop_kind (halted h is none e_is) =
      subst (λ (x : ConnectError). IsConnectError x × IsAfterOpening store.Offsets x × (IsConnectRefusal x → ⊥)) (sym e_is) (halt_kind h)
  stop_kind (over h place is some e_is) =
      subst (λ (x : ConnectError). IsConnectError x × IsAfterOpening store.Offsets x × (IsConnectRefusal x → ⊥)) (sym e_is) (tt, tt, λ refusal. refusal)

  -- a disk that failed was the session's, and no record was refused
  pub stop_fails : Stopped result refused e → (s : Store) → e ≡ error.Failed s → (result ≡ Err (halt_of s)) × (refused ≡ None)
  stop_fails (halted h is none e_is) s failed = (is ∙ ap (λ (x : Halt). Err x) (halt_fails h s (sym e_is ∙ failed)), none)
  stop_fails (over h place is some e_is) s failed = absurd (let wrong : error.Refused place.0 place.1 ≡ error.Failed s = sym e_is ∙ failed in cc)

-- a fact of a session that ended normally
pub ok_then : {A : Type 0} {result : Result Ending Halt} {ending : Ending} → result ≡ Ok ending → OnOk result A → A
ok_then {A} is fact = subst (λ (r : Result Ending Halt). OnOk r A) is fact

-- memory ran out before the session began
pub ends_unbegun : {W T F : Type 0} (wal_model : DiskModel W) (topics_model : DiskModel T) (offsets_model : DiskModel F)
    → ((disk : W) (bytes : List ℕ) → wal_model.seen disk ≡ Some bytes → wal_model.may_leave disk bytes)
    → ((disk : T) (bytes : List ℕ) → topics_model.seen disk ≡ Some bytes → topics_model.may_leave disk bytes)
    → ((disk : F) (bytes : List ℕ) → offsets_model.seen disk ≡ Some bytes → offsets_model.may_leave disk bytes)
    → (asked : Asked) (now : ℤ) (source : Demo W) (log : OnDisk T) (offsets : StoreOn F)
    → EndsSession wal_model topics_model offsets_model asked now source source log log offsets offsets (Err error.Memory)
ends_unbegun wal_model topics_model offsets_model is_w is_t is_f asked now source log offsets = record {
  answers = answers_stay wal_model topics_model offsets_model is_w is_t is_f (disks_of source.journal.disk log.disk (disk_of offsets))
      (disks_of source.journal.disk log.disk (disk_of offsets)) refl refl refl (λ i m. m) (λ i m. m) (λ i m. m) asked now error.Memory tt
      (λ w t f told_w told_t told_f. inl tt);
  spent = tt;
  kinds = (tt, tt);
  after_opening = tt;
  source_stays = λ refusal. refl;
  log_stays = λ refusal. refl;
  store_stays = λ refusal. refl;
  source_counts = counts_same wal_model store.Wal (Err error.Memory) source.journal.disk source.journal.disk refl (λ is. let i = is in cc);
  steady = tt;
  log_counts = counts_same topics_model store.Topics (Err error.Memory) log.disk log.disk refl (λ is. let i = is in cc);
  store_counts = counts_same offsets_model store.Offsets (Err error.Memory) (disk_of offsets) (disk_of offsets) refl (λ is. let i = is in cc);
  source_bounded = bounded_same wal_model source.journal.disk source.journal.disk refl;
  log_bounded = bounded_same topics_model log.disk log.disk refl;
  store_bounded = store_bounded_same offsets_model (disk_of offsets) (disk_of offsets) refl;
}

-- the log was put into a gate, and taken out of it
pub ends_gated : {W T F : Type 0} (wal_model : DiskModel W) (topics_model : DiskModel T) (offsets_model : DiskModel F) (asked : Asked) (now : ℤ)
    (source new_source : Demo W) (log gate new_gate new_log : OnDisk T) (offsets new_offsets : StoreOn F) (end : ConnectEnd) → gate ≡ log → new_log ≡ new_gate
    → EndsSession wal_model topics_model offsets_model asked now source new_source gate new_gate offsets new_offsets end
    → EndsSession wal_model topics_model offsets_model asked now source new_source log new_log offsets new_offsets end
ends_gated {T} wal_model topics_model offsets_model asked now source new_source log gate new_gate new_log offsets new_offsets end into out ends =
    subst (λ (l : OnDisk T). EndsSession wal_model topics_model offsets_model asked now source new_source log l offsets new_offsets end) (sym out)
    (subst (λ (l : OnDisk T). EndsSession wal_model topics_model offsets_model asked now source new_source l new_gate offsets new_offsets end) into ends)
