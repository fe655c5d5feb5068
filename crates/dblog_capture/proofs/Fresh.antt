-- Stores of a workload of which nothing was done are kept, and as the connector promises.
use Rattle.std.proofs.Common.{ℕ, Option, Some, None, IsSome, List, [], refl, sym, subst}
use Rattle.dbl_disk.specs.Model.{DiskModel}
use Rattle.dbl_model_table.specs.declared.config.Config.{Config}
pub use Rattle.dbl_offset.proofs.StoreLaws.{nothing_is_no_store}
use Rattle.dblog_init.specs.DemoLaws.Made.{IsFreshWal}
use Rattle.dblog_init.specs.declared.disks.Disks.{Disks}
use Rattle.dblog_init.specs.Disks.{HasStoredBytes}
use Rattle.dblog_init.specs.Fresh.{IsEmptyLog, IsEmptyStore}
use Rattle.dblog_connect.specs.Disks.{AreKeptDisks}
use Rattle.dblog_connect.specs.Promise.Contents.{Contents}
use Rattle.dblog_connect.specs.Promise.Goes.{Advances}
use Rattle.dblog_connect.specs.Promise.Headline.{Guarantees, GuaranteesAfterCrash}
use Rattle.dblog_connect.specs.Promise.Kept.{IsKept}
use Rattle.dblog_connect.proofs.PromiseFreshLaws.{fresh_stores_are_kept}
use Rattle.dblog_connect.proofs.PromiseKeptLaws.{kept_runs_are_promised, what_stays_goes_on}

-- ---- what stays

stays_gone : (asks : Option Config) (held : Contents) → Advances asks held held
stays_gone None held = refl
stays_gone (Some config) held = what_stays_goes_on config held

nobody : Config
nobody = record { identity = record { prefix = []; db = []; placeholder = [] }; tables = []; chunk = 0; every = 0; messages = 0 }

promised_still : (complete : Type 0) (held : Contents) → (complete → ⊥) → IsKept held → Guarantees complete held held
promised_still complete held none kept =
    let promised = kept_runs_are_promised nobody held held kept (what_stays_goes_on nobody held) in
    record { first_deliveries = promised.first_deliveries; snapshots = promised.snapshots; appends = promised.appends; tables = λ is. absurd (none is) }

-- ---- fresh stores

-- where nothing was captured yet
pub fresh_promised : (complete : Type 0) (asks : Contents → Option Config) (workload w t f : List ℕ) → (complete → ⊥) → IsFreshWal workload w → IsEmptyLog t → IsEmptyStore f
    → GuaranteesAfterCrash complete asks (IsFreshWal workload) IsEmptyLog IsEmptyStore w t f
fresh_promised complete asks workload w t f none wal log store =
    let fresh = fresh_stores_are_kept workload w t f wal log store in
    record {
      left = record {
        held = fresh.0;
        read = fresh.1.read;
        kept = fresh.1.kept;
        predecessor = record {
          wal = w;
          topics = t;
          offsets = f;
          may_wal = wal;
          may_topics = log;
          may_offsets = store;
          old = fresh.0;
          read = fresh.1.read;
          advances = stays_gone (asks fresh.0) fresh.0;
        };
      };
      guarantees = promised_still complete fresh.0 none fresh.1.kept;
    }

module _ {W T F : Type 0} (wal_model : DiskModel W) (topics_model : DiskModel T) (offsets_model : DiskModel F) where
  pub made_kept : (workload : List ℕ) (made : Disks W T F) → HasStoredBytes wal_model (IsFreshWal workload) made.wal → HasStoredBytes topics_model IsEmptyLog made.topics → HasStoredBytes offsets_model IsEmptyStore made.offsets
      → AreKeptDisks wal_model topics_model offsets_model made
  made_kept workload made wal topics offsets = record {
    wal = subst IsSome (sym wal.told) refl;
    topics = subst IsSome (sym topics.told) refl;
    offsets = subst IsSome (sym offsets.told) refl;
    each = λ a b c may_a may_b may_c.
        let fresh = fresh_stores_are_kept workload a b c (subst (IsFreshWal workload) (sym (wal.only a may_a)) wal.is) (subst IsEmptyLog (sym (topics.only b may_b)) topics.is) (subst IsEmptyStore (sym (offsets.only c may_c)) offsets.is) in
        (fresh.0, fresh.1.read, fresh.1.kept);
  }

  -- the promise, from what was made: it is told of fresh stores alone
  pub promised_fresh : (complete : Type 0) (asks : Contents → Option Config) (workload : List ℕ) (made : Disks W T F) (w t f : List ℕ)
      → HasStoredBytes wal_model (IsFreshWal workload) made.wal → HasStoredBytes topics_model IsEmptyLog made.topics → HasStoredBytes offsets_model IsEmptyStore made.offsets
      → GuaranteesAfterCrash complete asks (wal_model.may_leave made.wal) (topics_model.may_leave made.topics) (offsets_model.may_leave made.offsets) w t f → GuaranteesAfterCrash complete asks (IsFreshWal workload) IsEmptyLog IsEmptyStore w t f
  promised_fresh complete asks workload made w t f wal topics offsets is =
      let left = is.left in
      let predecessor = left.predecessor in
      record {
        left = record {
          held = left.held;
          read = left.read;
          kept = left.kept;
          predecessor = record {
            wal = predecessor.wal;
            topics = predecessor.topics;
            offsets = predecessor.offsets;
            may_wal = subst (IsFreshWal workload) (sym (wal.only predecessor.wal predecessor.may_wal)) wal.is;
            may_topics = subst IsEmptyLog (sym (topics.only predecessor.topics predecessor.may_topics)) topics.is;
            may_offsets = subst IsEmptyStore (sym (offsets.only predecessor.offsets predecessor.may_offsets)) offsets.is;
            old = predecessor.old;
            read = predecessor.read;
            advances = predecessor.advances;
          };
        };
        guarantees = is.guarantees;
      }
