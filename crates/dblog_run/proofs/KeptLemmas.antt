-- Disks that a run leaves as they are stay kept, and fresh stores are kept.
use Rattle.std.proofs.Common.{◌≡◌, ◌≢◌, inl, inr, ◌∙◌, ℕ, true, false, Option, Some, None, IsSome, List, [], ◌∷◌, ◌++◌, length, refl, sym, ap, subst, arith, length-append}
use Rattle.dbl_lines.specs.declared.status.Status.{Status}
use Rattle.dbl_lines.specs.declared.status.Status.TheVariants.{Done, TopicsFailed, OffsetsFailed}
use Rattle.std.specs.Prelude.{is_some}
use Rattle.dbl_disk.specs.Model.{DiskModel}
use Rattle.dbl_journal.specs.Form.{IsClosed, IsJournal, up_to_gate}
use Rattle.dbl_model_table.specs.declared.config.Config.{Config}
use Rattle.dbl_cli_commands.specs.declared.commands.Command.{Command}
use Rattle.dbl_cli_commands.specs.declared.commands.Command.TheVariants as command
use Rattle.dblog_init.specs.declared.disks.Disks.{Disks}
use Rattle.dblog_init.specs.Disks.{HoldsBytes, HoldSomeBytes}
use Rattle.dblog_capture.specs.Connect.Promise.Bounds.{IsBounded, IsStoreBounded}
use Rattle.dblog_capture.specs.Connect.Promise.Contents.{Contents}
use Rattle.dblog_capture.specs.Connect.Promise.Goes.{Advances}
use Rattle.dblog_capture.specs.Connect.Promise.Headline.{Guarantees, GuaranteesAfterCrash}
use Rattle.dblog_capture.specs.Connect.Promise.Kept.{IsKept}
use Rattle.dblog_capture.proofs.PromiseKeptLaws.{kept_runs_are_promised, what_stays_goes_on}
use Rattle.dblog_capture.specs.Connect.declared.asked.Asked.{Asked}
use Rattle.dblog_capture.specs.Connect.declared.asked.Asked.TheVariants.{First, Again}
use Rattle.dblog_capture.specs.Connect.Asked.{asks_in}
use Rattle.dblog_capture.specs.Connect.Disks.{AreKeptDisks, IsTrueAfterCrash}
use Rattle.dblog_capture.specs.Connect.Ends.{OnlyRead}
use Rattle.dblog_run_stores.specs.Disks.{IsOnlyRead}
use Rattle.dblog_run_stores.specs.Inits.{AreUntouched, IsDiskUntouched}
use Rattle.dblog_run.specs.Sessions.{IsCompleteRun, asked_by, asks_by}
use Rattle.dblog_run.specs.Means.{makes, opens_offsets, opens_topics, uses_offsets, uses_topics, writes}
use Rattle.dblog_capture.proofs.SessionLemmas.{promised_less}
use Rattle.dblog_run.proofs.SessionLemmas.{asked_or_not, asks_same}
use Rattle.dblog_run.proofs.StatusLemmas.{switched}

some_of : (o : Option (List ℕ)) → IsSome o → (bytes : List ℕ) × (o ≡ Some bytes)
some_of None is = absurd (switched (sym is))
some_of (Some bytes) is = (bytes, refl)

-- ---- a run that stopped before it began, or requests nothing

-- a run of any words has gone on to what was there
stays_gone : (asks : Option Config) (held : Contents) → Advances asks held held
stays_gone None held = refl
stays_gone (Some config) held = what_stays_goes_on config held

nobody : Config
nobody = record { identity = record { prefix = []; db = []; placeholder = [] }; tables = []; chunk = 0; every = 0; messages = 0 }

promised_still : (complete : Type 0) (held : Contents) → (complete → ⊥) → IsKept held → Guarantees complete held held
promised_still complete held none kept =
    let promised = kept_runs_are_promised nobody held held kept (what_stays_goes_on nobody held) in
    record { first_deliveries = promised.first_deliveries; snapshots = promised.snapshots; appends = promised.appends; tables = λ is. absurd (none is) }

-- ---- disks that were not written

-- each of the disks was only read
abbrev pub AreOnlyRead : {W T F : Type 0} → DiskModel W → DiskModel T → DiskModel F → Disks W T F → Disks W T F → Type 0
AreOnlyRead wal_model topics_model offsets_model old new =
    OnlyRead wal_model old.wal new.wal × (OnlyRead topics_model old.topics new.topics × OnlyRead offsets_model old.offsets new.offsets)

module _ {W T F : Type 0} (wal_model : DiskModel W) (topics_model : DiskModel T) (offsets_model : DiskModel F) where
  pub stays_kept : (old new : Disks W T F) → AreOnlyRead wal_model topics_model offsets_model old new → AreKeptDisks wal_model topics_model offsets_model old → AreKeptDisks wal_model topics_model offsets_model new
  stays_kept old new same kept = record {
    wal = subst IsSome (sym same.0.same) kept.wal;
    topics = subst IsSome (sym same.1.0.same) kept.topics;
    offsets = subst IsSome (sym same.1.1.same) kept.offsets;
    each = λ wal log store may_wal may_log may_store. kept.each wal log store (same.0.crash wal may_wal) (same.1.0.crash log may_log) (same.1.1.crash store may_store);
  }

  pub stays_promised : (complete : Type 0) (asks : Contents → Option Config) (old new : Disks W T F) → (complete → ⊥) → AreOnlyRead wal_model topics_model offsets_model old new → AreKeptDisks wal_model topics_model offsets_model old
      → IsTrueAfterCrash wal_model topics_model offsets_model new (GuaranteesAfterCrash complete asks (wal_model.may_leave old.wal) (topics_model.may_leave old.topics) (offsets_model.may_leave old.offsets))
  stays_promised complete asks old new none same kept wal log store may_wal may_log may_store =
      let found = kept.each wal log store (same.0.crash wal may_wal) (same.1.0.crash log may_log) (same.1.1.crash store may_store) in
      record {
        left = record {
          held = found.0;
          read = found.1;
          kept = found.2;
          predecessor = record {
            wal = wal;
            topics = log;
            offsets = store;
            may_wal = same.0.crash wal may_wal;
            may_topics = same.1.0.crash log may_log;
            may_offsets = same.1.1.crash store may_store;
            old = found.0;
            read = found.1;
            advances = stays_gone (asks found.0) found.0;
          };
        };
        guarantees = promised_still complete found.0 none found.2;
      }

  -- ---- kept disks hold bytes

  pub kept_holds : (disks : Disks W T F) → ((bytes : List ℕ) → wal_model.seen disks.wal ≡ Some bytes → wal_model.may_leave disks.wal bytes) → ((bytes : List ℕ) → topics_model.seen disks.topics ≡ Some bytes → topics_model.may_leave disks.topics bytes)
      → ((bytes : List ℕ) → offsets_model.seen disks.offsets ≡ Some bytes → offsets_model.may_leave disks.offsets bytes) → AreKeptDisks wal_model topics_model offsets_model disks → HoldsBytes wal_model disks.wal
  kept_holds disks wal topics offsets kept =
      let a = some_of (wal_model.seen disks.wal) kept.wal in
      let b = some_of (topics_model.seen disks.topics) kept.topics in
      let c = some_of (offsets_model.seen disks.offsets) kept.offsets in
      let found = kept.each a.0 b.0 c.0 (wal a.0 a.1) (topics b.0 b.1) (offsets c.0 c.1) in
      (a.0, a.1, has_bytes a.0 found.1.source.forms found.1.source.journal)
    where
      closed_bytes : (bytes first rest : List ℕ) → bytes ≡ first ++ rest → IsClosed rest → bytes ≢ []
      closed_bytes bytes first [] is closed none = absurd closed
      closed_bytes bytes first (gate ∷ rest) is closed none = absurd (omega (arith, length-append first (gate ∷ rest), ap length is, ap length none))

      has_bytes : (bytes : List ℕ) (entries : List (List ℕ)) → IsJournal bytes entries → bytes ≢ []
      has_bytes bytes entries journal = closed_bytes bytes (up_to_gate entries) journal.rest journal.spelled journal.closed

-- ---- one disk

none_asked : (asked : Asked) → Some asked ≡ None → ⊥
none_asked asked is = cc

module _ {D : Type 0} (model : DiskModel D) where
  pub same_untouched : (old new : D) → new ≡ old → OnlyRead model old new
  same_untouched old new is = subst (λ (d : D). OnlyRead model old d) (sym is) (record { same = refl; crash = λ crashed may. may })

  pub of_untouched : (old new : D) → IsDiskUntouched model old new → OnlyRead model old new
  of_untouched old new same = record { same = same.same; crash = same.crash }

  -- of a disk that a command neither makes nor runs a session over
  pub wal_untouched : (c : Command) (old new : D) → asked_by c ≡ None → (makes c ≡ true → OnlyRead model old new) → (writes c ≡ false → new ≡ old) → OnlyRead model old new
  wal_untouched command.Init old new none full stays = full refl
  wal_untouched command.Topics old new none full stays = same_untouched old new (stays refl)
  wal_untouched command.Offsets old new none full stays = same_untouched old new (stays refl)
  wal_untouched command.Compact old new none full stays = same_untouched old new (stays refl)
  wal_untouched (command.Capture options) old new none full stays = absurd (none_asked (First options) none)
  wal_untouched (command.Resume options) old new none full stays = absurd (none_asked (Again options) none)
  wal_untouched (command.Apply lines placeholder) old new none full stays = same_untouched old new (stays refl)
  wal_untouched (command.Replay options) old new none full stays = same_untouched old new (stays refl)
  wal_untouched (command.Gen number rows groups true) old new none full stays = full refl
  wal_untouched (command.Gen number rows groups false) old new none full stays = same_untouched old new (stays refl)

  -- it goes on telling what it told
  pub untouched_bounded : (old new : D) → OnlyRead model old new → IsBounded (model.seen old) (model.seen new)
  untouched_bounded old new same = record { each = λ before told. inl (same.same ∙ told) }

  pub untouched_store_bounded : (old new : D) → OnlyRead model old new → IsStoreBounded (model.seen old) (model.seen new)
  untouched_store_bounded old new same = record { each = λ before told. (before, same.same ∙ told, omega arith) }

module _ {D : Type 0} (model : DiskModel D) where
  read_untouched : (fault status : Status) (old new : D) → IsOnlyRead model fault status old new → OnlyRead model old new
  read_untouched fault status old new reads = record { same = reads.same; crash = reads.crash }

  pub topics_untouched : (c : Command) (fault status : Status) (old new : D) → asked_by c ≡ None → (makes c ≡ true → OnlyRead model old new) → (opens_topics c ≡ true → IsOnlyRead model fault status old new)
      → (uses_topics c ≡ false → new ≡ old) → OnlyRead model old new
  topics_untouched command.Init fault status old new none full reads stays = full refl
  topics_untouched command.Topics fault status old new none full reads stays = read_untouched fault status old new (reads refl)
  topics_untouched command.Offsets fault status old new none full reads stays = same_untouched model old new (stays refl)
  topics_untouched (command.Capture options) fault status old new none full reads stays = absurd (none_asked (First options) none)
  topics_untouched (command.Resume options) fault status old new none full reads stays = absurd (none_asked (Again options) none)
  topics_untouched (command.Apply true placeholder) fault status old new none full reads stays = same_untouched model old new (stays refl)
  topics_untouched (command.Apply false placeholder) fault status old new none full reads stays = read_untouched fault status old new (reads refl)
  topics_untouched command.Compact fault status old new none full reads stays = read_untouched fault status old new (reads refl)
  topics_untouched (command.Replay options) fault status old new none full reads stays = same_untouched model old new (stays refl)
  topics_untouched (command.Gen number rows groups true) fault status old new none full reads stays = full refl
  topics_untouched (command.Gen number rows groups false) fault status old new none full reads stays = same_untouched model old new (stays refl)

  pub offsets_untouched : (c : Command) (fault status : Status) (old new : D) → asked_by c ≡ None → (makes c ≡ true → OnlyRead model old new) → (opens_offsets c ≡ true → IsOnlyRead model fault status old new)
      → (uses_offsets c ≡ false → new ≡ old) → OnlyRead model old new
  offsets_untouched command.Init fault status old new none full reads stays = full refl
  offsets_untouched command.Topics fault status old new none full reads stays = same_untouched model old new (stays refl)
  offsets_untouched command.Offsets fault status old new none full reads stays = read_untouched fault status old new (reads refl)
  offsets_untouched (command.Capture options) fault status old new none full reads stays = absurd (none_asked (First options) none)
  offsets_untouched (command.Resume options) fault status old new none full reads stays = absurd (none_asked (Again options) none)
  offsets_untouched (command.Apply true placeholder) fault status old new none full reads stays = same_untouched model old new (stays refl)
  offsets_untouched (command.Apply false placeholder) fault status old new none full reads stays = read_untouched fault status old new (reads refl)
  offsets_untouched command.Compact fault status old new none full reads stays = read_untouched fault status old new (reads refl)
  offsets_untouched (command.Replay options) fault status old new none full reads stays = same_untouched model old new (stays refl)
  offsets_untouched (command.Gen number rows groups true) fault status old new none full reads stays = full refl
  offsets_untouched (command.Gen number rows groups false) fault status old new none full reads stays = same_untouched model old new (stays refl)

-- ---- a run of a command, over its disks

module _ {W T F : Type 0} (wal_model : DiskModel W) (topics_model : DiskModel T) (offsets_model : DiskModel F) (old new : Disks W T F) (c : Command) (status : Status) where
  abbrev Stays : Type 0
  Stays = AreOnlyRead wal_model topics_model offsets_model old new

  abbrev KeptBefore : Type 0
  KeptBefore = AreKeptDisks wal_model topics_model offsets_model old

  abbrev KeptNow : Type 0
  KeptNow = AreKeptDisks wal_model topics_model offsets_model new

  abbrev Promise : Type 0 → (Contents → Option Config) → Type 0
  Promise complete asks = IsTrueAfterCrash wal_model topics_model offsets_model new (GuaranteesAfterCrash complete asks (wal_model.may_leave old.wal) (topics_model.may_leave old.topics) (offsets_model.may_leave old.offsets))

  -- a command without a session leaves kept disks as they are: `init` finds that they aren't empty
  pub run_stays : ((bytes : List ℕ) → wal_model.seen old.wal ≡ Some bytes → wal_model.may_leave old.wal bytes) → ((bytes : List ℕ) → topics_model.seen old.topics ≡ Some bytes → topics_model.may_leave old.topics bytes) → ((bytes : List ℕ) → offsets_model.seen old.offsets ≡ Some bytes → offsets_model.may_leave old.offsets bytes)
      → (makes c ≡ true → HoldSomeBytes wal_model topics_model offsets_model old → AreUntouched wal_model topics_model offsets_model old new) → (writes c ≡ false → new.wal ≡ old.wal) → (uses_topics c ≡ false → new.topics ≡ old.topics) → (uses_offsets c ≡ false → new.offsets ≡ old.offsets)
      → (opens_topics c ≡ true → IsOnlyRead topics_model TopicsFailed status old.topics new.topics) → (opens_offsets c ≡ true → IsOnlyRead offsets_model OffsetsFailed status old.offsets new.offsets)
      → KeptBefore → asked_by c ≡ None → Stays
  run_stays wal topics offsets full same_wal same_topics same_offsets reads_topics reads_offsets kept none =
      let holds = kept_holds wal_model topics_model offsets_model old wal topics offsets kept in
      let left : makes c ≡ true → AreUntouched wal_model topics_model offsets_model old new = λ make. full make (inl holds) in (
        wal_untouched wal_model c old.wal new.wal none (λ make. of_untouched wal_model old.wal new.wal (left make).0) same_wal,
        (
          topics_untouched topics_model c TopicsFailed status old.topics new.topics none (λ make. of_untouched topics_model old.topics new.topics (left make).1.0) reads_topics same_topics,
          offsets_untouched offsets_model c OffsetsFailed status old.offsets new.offsets none (λ make. of_untouched offsets_model old.offsets new.offsets (left make).1.1) reads_offsets same_offsets,
        ),
      )

  pub run_kept : ((asked : Asked) → asked_by c ≡ Some asked → KeptBefore → KeptNow) → (KeptBefore → asked_by c ≡ None → Stays) → KeptBefore → KeptNow
  run_kept sessions stays kept =
      elim (asked_or_not c) [
        | inl none ↦ stays_kept wal_model topics_model offsets_model old new (stays kept none) kept
        | inr asked ↦ sessions asked.0 asked.1 kept
      ]

  pub run_promised : ((asked : Asked) → asked_by c ≡ Some asked → KeptBefore → Promise (status ≡ Done) (asks_in asked)) → (KeptBefore → asked_by c ≡ None → Stays) → KeptBefore → Promise (IsCompleteRun c status) (asks_by c)
  run_promised sessions stays kept wal log store may_wal may_log may_store =
      elim (asked_or_not c) [
        | inl none ↦ stays_promised wal_model topics_model offsets_model (IsCompleteRun c status) (asks_by c) old new (λ complete. switched (sym complete.0 ∙ ap is_some none)) (stays kept none) kept wal log store may_wal may_log may_store
        | inr asked ↦ promised_less (status ≡ Done) (IsCompleteRun c status) (asks_in asked.0) (asks_by c) (wal_model.may_leave old.wal) (topics_model.may_leave old.topics) (offsets_model.may_leave old.offsets) wal log store (λ complete. complete.1) (asks_same c asked.0 asked.1)
            (sessions asked.0 asked.1 kept wal log store may_wal may_log may_store)
      ]

-- a run that ended before its command began
module _ {W T F : Type 0} (wal_model : DiskModel W) (topics_model : DiskModel T) (offsets_model : DiskModel F) (disks : Disks W T F) where
  pub before_promised : (complete : Type 0) (asks : Contents → Option Config) → (complete → ⊥) → AreKeptDisks wal_model topics_model offsets_model disks → IsTrueAfterCrash wal_model topics_model offsets_model disks (GuaranteesAfterCrash complete asks (wal_model.may_leave disks.wal) (topics_model.may_leave disks.topics) (offsets_model.may_leave disks.offsets))
  before_promised complete asks none =
      stays_promised wal_model topics_model offsets_model complete asks disks disks none
      (same_untouched wal_model disks.wal disks.wal refl, (same_untouched topics_model disks.topics disks.topics refl, same_untouched offsets_model disks.offsets disks.offsets refl))

-- ---- how long disks are

module _ {D : Type 0} (model : DiskModel D) (c : Command) (status : Status) (old new : D) where
  pub wal_bounded : makes c ≡ false → ((asked : Asked) → asked_by c ≡ Some asked → IsBounded (model.seen old) (model.seen new)) → (writes c ≡ false → new ≡ old) → IsBounded (model.seen old) (model.seen new)
  wal_bounded none sessions stays =
      elim (asked_or_not c) [
        | inl shut ↦ untouched_bounded model old new (wal_untouched model c old new shut (λ make. absurd (switched (sym make ∙ none))) stays)
        | inr asked ↦ sessions asked.0 asked.1
      ]

  pub topics_bounded : makes c ≡ false → ((asked : Asked) → asked_by c ≡ Some asked → IsBounded (model.seen old) (model.seen new)) → (opens_topics c ≡ true → IsOnlyRead model TopicsFailed status old new) → (uses_topics c ≡ false → new ≡ old)
      → IsBounded (model.seen old) (model.seen new)
  topics_bounded none sessions reads stays =
      elim (asked_or_not c) [
        | inl shut ↦ untouched_bounded model old new (topics_untouched model c TopicsFailed status old new shut (λ make. absurd (switched (sym make ∙ none))) reads stays)
        | inr asked ↦ sessions asked.0 asked.1
      ]

  pub offsets_bounded : makes c ≡ false → ((asked : Asked) → asked_by c ≡ Some asked → IsStoreBounded (model.seen old) (model.seen new))
      → (opens_offsets c ≡ true → IsOnlyRead model OffsetsFailed status old new) → (uses_offsets c ≡ false → new ≡ old)
      → IsStoreBounded (model.seen old) (model.seen new)
  offsets_bounded none sessions reads stays =
      elim (asked_or_not c) [
        | inl shut ↦ untouched_store_bounded model old new
            (offsets_untouched model c OffsetsFailed status old new shut (λ make. absurd (switched (sym make ∙ none))) reads stays)
        | inr asked ↦ sessions asked.0 asked.1
      ]
