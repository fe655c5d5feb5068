-- What a run of `gen --run` comes to: where its `init` part ended it, and where a session ran after that.
use Rattle.std.proofs.Common.{◌≡◌, ◌≢◌, ◌∙◌, ◌⊎◌, inl, inr, ℕ, ℤ, ◌^◌, ◌≤◌, Option, Some, Ok, Err, List, [], length, refl, sym, ap, subst, arith}
use Rattle.dbl_lines.specs.declared.status.Status.{Status}
use Rattle.dbl_lines.specs.declared.status.Status.TheVariants.{Done}
use Rattle.std.specs.Prelude.{OnOk, max}
use Rattle.dbl_base.specs.Streams.{FaultCounted}
use Rattle.dbl_offset.specs.Stores.{BeginsTorn}
use Rattle.dbl_offset.proofs.StoreLaws.{nothing_is_no_store, torn_stores_are_empty}
use Rattle.dblog_init.specs.DemoLaws.Made.{IsFreshWal}
use Rattle.dblog_init.specs.declared.disks.Disks.{Disks}
use Rattle.dblog_init.specs.declared.error.InitError.{InitError}
use Rattle.dblog_init.specs.declared.error.InitError.TheVariants as init
use Rattle.dblog_init.specs.declared.error.Store.{Store}
use Rattle.dblog_init.specs.declared.error.Store.TheVariants as store
use Rattle.dblog_init.specs.Answers as inits
use Rattle.dblog_init.specs.Disks.{AreAtMostMeasured, EndsBeforeWriting, EndsTorn, HasStoredBytes, HoldSomeBytes, IsAtMostMeasured, LeavesDisk}
use Rattle.dblog_init.specs.Fresh.{IsEmptyLog, IsEmptyStore}
use Rattle.dblog_connect.specs.Promise.Bounds.{IsBounded, IsStoreBounded, StaysShort}
use Rattle.dblog_connect.specs.Promise.Headline.{GuaranteesAfterCrash}
use Rattle.dblog_connect.specs.Asked.{asks_in}
use Rattle.dblog_connect.specs.Ends.{OnlyRead}
use Rattle.dblog_capture.specs.Runs.{RunsConnected}
use Rattle.dblog_capture_text.specs.InitErrors.{SaysInit}
use Rattle.dblog_capture.specs.Generated.{AnswersWorkload, HasMade, IsMadeShort, IsStoreShort, RunsGenerated, plainly}
use Rattle.dblog_capture.proofs.Fresh.{fresh_promised, made_kept, promised_fresh}
use Rattle.dblog_capture.proofs.Statuses.{stopped_failed, stopped_no_zero}
use Rattle.dbl_disk.specs.Calls.{IsSteady}
use Rattle.dbl_disk.specs.Model.{DiskModel}

-- ---- counts

pub not_rose : FaultCounted 0 0 → ⊥
not_rose rose = omega (arith, rose)

rose_after : (a b c : ℕ) → a ≤ b → FaultCounted b c → FaultCounted a c
rose_after a b c earlier rose = omega (arith, earlier, rose)

-- ---- ends

pub ok_of : (end : inits.InitEnd) (P : Type 0) → end ≡ Ok tt → OnOk end P → P
ok_of (Ok done) P is p = p
ok_of (Err e) P is p = absurd (let t = is in cc)

-- ---- the offset's disk, by the error

-- nothing of it was written, unless it is the one that failed
unwritten_or : (e : InitError) → EndsBeforeWriting store.Offsets (Err e) ⊎ (e ≡ init.Failed store.Offsets)
unwritten_or (init.Failed store.Wal) = inl tt
unwritten_or (init.Failed store.Topics) = inl tt
unwritten_or (init.Failed store.Offsets) = inr refl
unwritten_or (init.NotEmpty held) = inl tt
unwritten_or init.InputFailed = inl tt
unwritten_or init.InputTooLong = inl tt
unwritten_or (init.Script e) = inl tt
unwritten_or (init.Model e) = inl tt
unwritten_or init.Memory = inl tt

-- a disk that was only asked was only read
only_read : {D : Type 0} (model : DiskModel D) (made : Store) (end : inits.InitEnd) (old new : D) → IsAtMostMeasured model made end old new → OnlyRead model old new
only_read model made end old new asked = record { same = asked.keeps.same; crash = asked.keeps.crash }

-- ---- lengths

-- of a disk that was made short, and went on from there
grown_short : (before made now : List ℕ) → length made ≤ max (length before) (2 ^ 30) → StaysShort made now → StaysShort before now
grown_short before made now short is = record { entries = is.entries; journal = is.journal; short = omega (arith, short, is.short) }

module _ {D : Type 0} (model : DiskModel D) (made : Store) (end : inits.InitEnd) (old mid : D) (leaves : LeavesDisk model made end old mid) where
  stopped_short : IsMadeShort (model.seen old) (model.seen mid)
  stopped_short before now was is = inl (leaves.short before now was is)

  stopped_store_short : IsStoreShort (model.seen old) (model.seen mid)
  stopped_store_short = leaves.short

  -- the offset's disk
  store_grown_by : (Is : List ℕ → Type 0) → ((bytes : List ℕ) → model.seen old ≡ Some bytes → bytes ≡ [])
      → (model.seen old ≡ Some [] → HasStoredBytes model Is mid) → (new : D) → IsStoreBounded (model.seen mid) (model.seen new)
      → IsStoreShort (model.seen old) (model.seen new)
  store_grown_by Is empty stored new bounded before now was is =
      let has = stored (was ∙ ap (λ (l : List ℕ). let o : Option (List ℕ) = Some l in o) (empty before was)) in
      let short = leaves.short before has.bytes was has.told in
      let grown = bounded.each has.bytes has.told in
      let both : Some grown.0 ≡ Some now = sym grown.1 ∙ is in
      let bytes : grown.0 ≡ now = cc in
      omega (arith, ap length bytes, grown.2, short)

  -- a disk that was empty was made, and tells its bytes
  grown_by : (Is : List ℕ → Type 0) → ((bytes : List ℕ) → model.seen old ≡ Some bytes → bytes ≡ []) → (model.seen old ≡ Some [] → HasStoredBytes model Is mid) → (new : D) → IsBounded (model.seen mid) (model.seen new) → IsMadeShort (model.seen old) (model.seen new)
  grown_by Is empty stored new bounded before now was is =
      let has = stored (was ∙ ap (λ (l : List ℕ). let o : Option (List ℕ) = Some l in o) (empty before was)) in
      let short = leaves.short before has.bytes was has.told in
      elim (bounded.each has.bytes has.told) [
        | inl same ↦ (
            let both : Some now ≡ Some has.bytes = sym is ∙ same in
            let bytes : now ≡ has.bytes = cc in
            inl (subst (λ (l : List ℕ). length l ≤ max (length before) (2 ^ 30)) (sym bytes) short))
        | inr grown ↦ (
            let both : Some grown.0 ≡ Some now = sym grown.1 ∙ is in
            let bytes : grown.0 ≡ now = cc in
            inr (grown_short before has.bytes now short (subst (StaysShort has.bytes) bytes grown.2)))
      ]

-- no call of a disk failed while it was made, and later
steady_made : {D : Type 0} (model : DiskModel D) (made : Store) (Is : List ℕ → Type 0) (old mid new : D) → LeavesDisk model made (Ok tt) old mid → ((bytes : List ℕ) → model.seen old ≡ Some bytes → bytes ≡ [])
    → (model.seen old ≡ Some [] → HasStoredBytes model Is mid) → IsSteady model mid new → IsSteady model old new
steady_made model made Is old mid new leaves empty stored steady bytes told =
    let has = stored (told ∙ ap (λ (l : List ℕ). let o : Option (List ℕ) = Some l in o) (empty bytes told)) in
    steady has.bytes has.told ∙ leaves.steady (λ is. let i = is in cc) bytes told

-- ---- a run

module _ {W T F : Type 0} (wal_model : DiskModel W) (topics_model : DiskModel T) (offsets_model : DiskModel F) (workload : List ℕ) (now : ℤ) (old mid : Disks W T F)
    (status : Status) (before after : Option (List ℕ)) where
  -- ---- its `init` part ended it

  module _ (e : InitError) (says : SaysInit e status before after)
      (wal_left : LeavesDisk wal_model store.Wal (Err e) old.wal mid.wal) (topics_left : LeavesDisk topics_model store.Topics (Err e) old.topics mid.topics) (offsets_left : LeavesDisk offsets_model store.Offsets (Err e) old.offsets mid.offsets)
      (crashed : (bytes : List ℕ) → offsets_model.seen mid.offsets ≡ Some bytes → offsets_model.may_leave mid.offsets bytes)
      (wal_asked : EndsBeforeWriting store.Wal (Err e) → IsAtMostMeasured wal_model store.Wal (Err e) old.wal mid.wal)
      (topics_asked : EndsBeforeWriting store.Topics (Err e) → IsAtMostMeasured topics_model store.Topics (Err e) old.topics mid.topics)
      (asked : EndsBeforeWriting store.Offsets (Err e) → IsAtMostMeasured offsets_model store.Offsets (Err e) old.offsets mid.offsets)
      (torn : wal_model.seen old.wal ≡ Some [] → topics_model.seen old.topics ≡ Some [] → e ≡ init.Failed store.Offsets
      → IsAtMostMeasured offsets_model store.Offsets (Err e) old.offsets mid.offsets ⊎ EndsTorn wal_model topics_model offsets_model workload old mid) where
    abbrev Made : Type 0
    Made = HasMade wal_model topics_model offsets_model old mid

    abbrev Promise : List ℕ → List ℕ → List ℕ → Type 0
    Promise w t f = GuaranteesAfterCrash (status ≡ Done) (asks_in plainly) (IsFreshWal workload) IsEmptyLog IsEmptyStore w t f

    -- a disk that was only asked still tells no bytes, which is no store
    not_asked : Made → IsAtMostMeasured offsets_model store.Offsets (Err e) old.offsets mid.offsets → ⊥
    not_asked made only_asked =
        let nothing = made.made [] (crashed [] (only_asked.keeps.same ∙ made.offsets_empty.told)) in
        nothing_is_no_store nothing.0 nothing.1

    torn_promised : Made → EndsTorn wal_model topics_model offsets_model workload old mid → (w t f : List ℕ) → wal_model.may_leave mid.wal w → topics_model.may_leave mid.topics t → offsets_model.may_leave mid.offsets f → Promise w t f
    torn_promised made ends w t f may_w may_t may_f =
        let store_at = made.made f may_f in
        let begun = ends.offsets_torn f may_f in
        let from : begun.0 ≡ [] = made.offsets_empty.only begun.0 begun.1 in
        let empty : IsEmptyStore f = torn_stores_are_empty f store_at.0 (subst (λ (b : List ℕ). BeginsTorn b f) from begun.2) store_at.1 in
        fresh_promised (status ≡ Done) (asks_in plainly) workload w t f (stopped_no_zero e status before after says)
        (subst (IsFreshWal workload) (sym (ends.wal_made.only w may_w)) ends.wal_made.is) (subst IsEmptyLog (sym (ends.topics_made.only t may_t)) ends.topics_made.is) empty

    stopped_promised : Made → (w t f : List ℕ) → wal_model.may_leave mid.wal w → topics_model.may_leave mid.topics t → offsets_model.may_leave mid.offsets f → Promise w t f
    stopped_promised made w t f may_w may_t may_f = by (unwritten_or e)
      where
        by : EndsBeforeWriting store.Offsets (Err e) ⊎ (e ≡ init.Failed store.Offsets) → Promise w t f
        by (inl unwritten) = absurd (not_asked made (asked unwritten))
        by (inr failed) = elim (torn made.wal_empty.told made.topics_empty.told failed) [
          | inl only_asked ↦ absurd (not_asked made only_asked)
          | inr ends ↦ torn_promised made ends w t f may_w may_t may_f
        ]

    read : IsAtMostMeasured offsets_model store.Offsets (Err e) old.offsets mid.offsets → OnlyRead offsets_model old.offsets mid.offsets
    read only_asked = only_read offsets_model store.Offsets (Err e) old.offsets mid.offsets only_asked

    pub stopped : e ≢ init.InputFailed → AnswersWorkload workload (wal_model.seen old.wal) (topics_model.seen old.topics) (offsets_model.seen old.offsets) (Err e)
        → inits.AnswersInput workload (Err e) ⊎ (inits.IsBeforeInput (Err e) ⊎ inits.IsExternalInitEnd (Err e))
        → (HoldSomeBytes wal_model topics_model offsets_model old → AreAtMostMeasured wal_model topics_model offsets_model (Err e) old mid)
        → RunsGenerated wal_model topics_model offsets_model workload now old mid status before after
    stopped other answers input full = record {
      ends = inl (record {
        error = e;
        not_input = other;
        answers = answers;
        input = input;
        says = says;
        wal_read = λ unwritten. only_read wal_model store.Wal (Err e) old.wal mid.wal (wal_asked unwritten);
        topics_read = λ unwritten. only_read topics_model store.Topics (Err e) old.topics mid.topics (topics_asked unwritten);
        offsets_read = λ unwritten. read (asked unwritten);
        torn = λ wal_empty topics_empty failed. elim (torn wal_empty topics_empty failed) [ inl only_asked ↦ inl (read only_asked) | inr ends ↦ inr ends ];
      });
      headline = stopped_promised;
      end = Err e;
      full = full;
      wal_failed = λ is. wal_left.cause (ap (λ (x : InitError). Err x) (stopped_failed store.Wal e status before after says is));
      topics_failed = λ is. topics_left.cause (ap (λ (x : InitError). Err x) (stopped_failed store.Topics e status before after says is));
      offsets_failed = λ is. offsets_left.cause (ap (λ (x : InitError). Err x) (stopped_failed store.Offsets e status before after says is));
      wal_short = stopped_short wal_model store.Wal (Err e) old.wal mid.wal wal_left;
      topics_short = stopped_short topics_model store.Topics (Err e) old.topics mid.topics topics_left;
      offsets_short = stopped_store_short offsets_model store.Offsets (Err e) old.offsets mid.offsets offsets_left;
    }

  -- ---- a session ran after it

  module _ (new : Disks W T F)
      (wal_left : LeavesDisk wal_model store.Wal (Ok tt) old.wal mid.wal) (topics_left : LeavesDisk topics_model store.Topics (Ok tt) old.topics mid.topics) (offsets_left : LeavesDisk offsets_model store.Offsets (Ok tt) old.offsets mid.offsets)
      (wal_empty : (bytes : List ℕ) → wal_model.seen old.wal ≡ Some bytes → bytes ≡ []) (topics_empty : (bytes : List ℕ) → topics_model.seen old.topics ≡ Some bytes → bytes ≡ []) (offsets_empty : (bytes : List ℕ) → offsets_model.seen old.offsets ≡ Some bytes → bytes ≡ [])
      (wal_made : wal_model.seen old.wal ≡ Some [] → HasStoredBytes wal_model (IsFreshWal workload) mid.wal) (topics_made : topics_model.seen old.topics ≡ Some [] → HasStoredBytes topics_model IsEmptyLog mid.topics)
      (offsets_made : offsets_model.seen old.offsets ≡ Some [] → HasStoredBytes offsets_model IsEmptyStore mid.offsets)
      (ran : RunsConnected wal_model topics_model offsets_model plainly now mid new status before after) where
    -- no disk held a byte
    none_full : HoldSomeBytes wal_model topics_model offsets_model old → ⊥
    none_full (inl holds) = holds.2 (wal_empty holds.0 holds.1)
    none_full (inr (inl holds)) = holds.2 (topics_empty holds.0 holds.1)
    none_full (inr (inr holds)) = holds.2 (offsets_empty holds.0 holds.1)

    went_promised : wal_model.seen old.wal ≡ Some [] → topics_model.seen old.topics ≡ Some [] → offsets_model.seen old.offsets ≡ Some [] → (w t f : List ℕ) → wal_model.may_leave new.wal w → topics_model.may_leave new.topics t → offsets_model.may_leave new.offsets f
        → GuaranteesAfterCrash (status ≡ Done) (asks_in plainly) (IsFreshWal workload) IsEmptyLog IsEmptyStore w t f
    went_promised wal_is topics_is offsets_is w t f may_w may_t may_f =
        let one = wal_made wal_is in
        let two = topics_made topics_is in
        let three = offsets_made offsets_is in
        let kept = made_kept wal_model topics_model offsets_model workload mid one two three in
        promised_fresh wal_model topics_model offsets_model (status ≡ Done) (asks_in plainly) workload mid w t f one two three (ran.headline kept w t f may_w may_t may_f)

    pub went_on : RunsGenerated wal_model topics_model offsets_model workload now old new status before after
    went_on = record {
      ends = inr (record {
        made = mid;
        wal_made = record { empty = wal_empty; stored = wal_made };
        topics_made = record { empty = topics_empty; stored = topics_made };
        offsets_made = record { empty = offsets_empty; stored = offsets_made };
        runs = ran.runs;
        steady = λ normal. record {
          wal = steady_made wal_model store.Wal (IsFreshWal workload) old.wal mid.wal new.wal wal_left wal_empty wal_made (ran.steady normal).wal;
          topics = steady_made topics_model store.Topics IsEmptyLog old.topics mid.topics new.topics topics_left topics_empty topics_made (ran.steady normal).topics;
          offsets = steady_made offsets_model store.Offsets IsEmptyStore old.offsets mid.offsets new.offsets offsets_left offsets_empty offsets_made (ran.steady normal).offsets;
        };
        headline = went_promised;
      });
      headline = λ made. went_promised made.wal_empty.told made.topics_empty.told made.offsets_empty.told;
      end = Ok tt;
      full = λ holds. absurd (none_full holds);
      wal_failed = λ is. rose_after (wal_model.faults old.wal) (wal_model.faults mid.wal) (wal_model.faults new.wal) wal_left.later (ran.wal_failed is);
      topics_failed = λ is. rose_after (topics_model.faults old.topics) (topics_model.faults mid.topics) (topics_model.faults new.topics) topics_left.later (ran.topics_failed is);
      offsets_failed = λ is. rose_after (offsets_model.faults old.offsets) (offsets_model.faults mid.offsets) (offsets_model.faults new.offsets) offsets_left.later (ran.offsets_failed is);
      wal_short = grown_by wal_model store.Wal (Ok tt) old.wal mid.wal wal_left (IsFreshWal workload) wal_empty wal_made new.wal ran.wal_bounded;
      topics_short = grown_by topics_model store.Topics (Ok tt) old.topics mid.topics topics_left IsEmptyLog topics_empty topics_made new.topics ran.topics_bounded;
      offsets_short = store_grown_by offsets_model store.Offsets
          (Ok tt) old.offsets mid.offsets offsets_left IsEmptyStore offsets_empty offsets_made new.offsets ran.offsets_bounded;
    }

-- ---- nothing was tried: memory ran out before

no_memory : (made : Store) (end : inits.InitEnd) → end ≡ Err init.Memory → end ≡ Err (init.Failed made) → ⊥
no_memory made end memory failed = let t = memory in let u = failed in cc

module _ {D : Type 0} (model : DiskModel D) (made : Store) (disk : D) where
  pub asked_none : IsAtMostMeasured model made (Err init.Memory) disk disk
  asked_none = record {
    keeps = record {
      same = refl;
      crash = λ crashed may. may;
      later = omega arith;
      cause = λ is. absurd (no_memory made (Err init.Memory) refl is);
      steady = λ no bytes told. refl;
    };
    unsynced = λ crashed may. may;
  }

  pub leaves_none : LeavesDisk model made (Err init.Memory) disk disk
  leaves_none = record {
    later = omega arith;
    cause = λ is. absurd (no_memory made (Err init.Memory) refl is);
    steady = λ no bytes told. refl;
    short = λ before after was is. (
        let same : Some after ≡ Some before = sym is ∙ was in
        let bytes : after ≡ before = cc in
        subst (λ (b : List ℕ). length b ≤ max (length before) (2 ^ 30)) (sym bytes) (omega arith));
  }
