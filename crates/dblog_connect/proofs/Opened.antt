-- What opened stores hold, and what a crash leaves of them: while nothing is done, and after a session.
use Rattle.std.proofs.Common.{◌≡◌, ◌∙◌, inl, inr, ℕ, ℤ, Option, Some, None, List, length, refl, sym, ap, subst, arith}
use Rattle.std.specs.Prelude.{IsSome}
use Rattle.dbl_disk.specs.Model.{DiskModel}
use Rattle.dbl_journal.specs.Form.{IsJournal}
use Rattle.dbl_journal.specs.Growth.{HasCome}
use Rattle.dbl_journal.specs.Stored.{Lists, OnDisk}
use Rattle.dbl_record.specs.declared.record.Record.{Record}
use Rattle.dbl_model_table.specs.declared.config.Config.{Config}
use Rattle.dbl_topic.specs.Held.{HasGroups, HoldsGroups}
use Rattle.dbl_topic.specs.SinkLaws.{leaves_held}
use Rattle.dbl_offset_content.specs.declared.offset.Offset.{Offset}
use Rattle.dbl_offset.specs.Stores.{HoldsOffset, IsStore, StoreOn, disk_of}
use Rattle.dbl_offset.proofs.StoreLaws.{one_store, store_of}
use Rattle.dbl_demo.specs.DemoWal.Standings.{standing_in}
use Rattle.dbl_demo.specs.DemoWal.Wals.{IsWal, Wal}
use Rattle.dbl_demo.proofs.DemoWalWalLaws.{one_wal}
use Rattle.dbl_demo.specs.DemoLaws.Demo.{Demo, HasKept, IsDemo, HasDemoState}
use Rattle.dbl_demo.specs.DemoLaws.SourceLaws.{wal_of}
use Rattle.dbl_capture.specs.CaptureLaws.Found.{Found}
use Rattle.dblog_promise.specs.Restarts.{restart_at}
use Rattle.dblog_promise.specs.Bounds.{IsBounded, IsStoreBounded}
use Rattle.dblog_promise.specs.Contents.{Contents, ReadAs, found_in}
use Rattle.dblog_connect.specs.Steps.{IsLogOf, IsSourceOf, IsStoreOf}

pub some_of : {A : Type 0} (o : Option A) → IsSome o → (x : A) × (o ≡ Some x)
some_of None none = absurd (let n = none in cc)
some_of (Some x) is = (x, refl)

pub same_some : {A : Type 0} (x y : A) (o : Option A) → o ≡ Some x → o ≡ Some y → x ≡ y
same_some x y o a b =
    let both : Some x ≡ Some y = sym a ∙ b in
    cc

abbrev pub held_by : Wal → List (List Record) → Option Offset → Contents
held_by wal groups offset = record { wal = wal; groups = groups; offset = offset }

-- ---- one disk

module _ {D : Type 0} (model : DiskModel D) where
  -- it leaves what it tells
  pub only_told : (journal : OnDisk D) (entries : List (List ℕ)) (bytes crashed : List ℕ) → Lists model journal entries → model.seen journal.disk ≡ Some bytes → model.may_leave journal.disk crashed → crashed ≡ bytes
  only_told journal entries bytes crashed lists told leaves = lists.only crashed leaves ∙ same_some lists.bytes bytes (model.seen journal.disk) lists.told told

  -- it has come so far
  pub come_of : (journal : OnDisk D) (entries : List (List ℕ)) (bytes : List ℕ) → Lists model journal entries → model.seen journal.disk ≡ Some bytes → HasCome model 0 (length bytes) journal
  come_of journal entries bytes lists told = record {
    lists = λ live. (entries, lists);
    told = (bytes, told);
    reaches = λ other is. (
        let same : other ≡ bytes = same_some other bytes (model.seen journal.disk) is told in
        let own : lists.bytes ≡ other = same_some lists.bytes other (model.seen journal.disk) lists.told is in
        record {
          entries = entries;
          journal = subst (λ (b : List ℕ). IsJournal b entries) own lists.spelled;
          on = omega arith;
          short = omega (arith, ap length same);
        });
  }

  -- so that the result is bounded
  pub bounded_by : (old : D) (journal : OnDisk D) → ((bytes : List ℕ) → model.seen old ≡ Some bytes → HasCome model 0 (length bytes) journal) → IsBounded (model.seen old) (model.seen journal.disk)
  bounded_by old journal comes = record {
    each = λ before is. (
        let come = comes before is in
        let reach = come.reaches come.told.0 come.told.1 in
        inr (come.told.0, come.told.1, record { entries = reach.entries; journal = reach.journal; short = reach.short }));
  }

  pub bounded_same : (old new : D) → model.seen new ≡ model.seen old → IsBounded (model.seen old) (model.seen new)
  bounded_same old new same = record { each = λ before is. inl (same ∙ is) }

  pub store_bounded_same : (old new : D) → model.seen new ≡ model.seen old → IsStoreBounded (model.seen old) (model.seen new)
  store_bounded_same old new same = record { each = λ before is. (before, same ∙ is, omega arith) }

-- ---- the source

module _ {W : Type 0} (model : DiskModel W) (w : List ℕ) (source : Demo W) (src : IsSourceOf model w source) where
  pub wal_crashed : (crashed : List ℕ) → model.may_leave source.journal.disk crashed → crashed ≡ w
  wal_crashed crashed leaves = only_told model source.journal _ w crashed src.demo.running.lists src.told leaves

  pub stood_first : HasDemoState model source (standing_in src.wal source.place)
  stood_first = (src.wal, src.demo, refl)

  pub kept_source : HasKept model src.wal.script 0 (length w) (model.faults source.journal.disk) source
  kept_source = record {
    come = come_of model source.journal _ w src.demo.running.lists src.told;
    stands = λ live. (src.wal, src.demo, refl);
    steady = λ live. refl;
    crash = λ crashed leaves. (src.wal, subst (λ (b : List ℕ). IsWal b src.wal) (sym (wal_crashed crashed leaves)) src.is, refl);
  }

-- what a source that stands leaves
pub left_wal : {W : Type 0} (model : DiskModel W) (source : Demo W) (wal left : Wal) (crashed : List ℕ)
    → IsDemo model wal source → model.may_leave source.journal.disk crashed → IsWal crashed left → left ≡ wal
left_wal model source wal left crashed demo leaves is =
    let same : crashed ≡ demo.running.lists.bytes = demo.running.lists.only crashed leaves in
    one_wal demo.running.lists.bytes left wal (subst (λ (b : List ℕ). IsWal b left) same is) (wal_of model source wal demo.running)

-- ---- the topic log

module _ {T : Type 0} (model : DiskModel T) (t : List ℕ) (log : OnDisk T) (lg : IsLogOf model t log) where
  pub log_crashed : (crashed : List ℕ) → model.may_leave log.disk crashed → crashed ≡ t
  log_crashed crashed leaves = only_told model log _ t crashed lg.holds.lists lg.told leaves

  pub kept_log : HasGroups model log
  kept_log = record { holds = λ live. (lg.groups, lg.holds); leaves = leaves_held model log lg.groups lg.holds }

  pub log_come : HasCome model 0 (length t) log
  log_come = come_of model log _ t lg.holds.lists lg.told

-- ---- the offset store

module _ {F : Type 0} (model : DiskModel F) (f : List ℕ) (store : StoreOn F) (st : IsStoreOf model f store) where
  pub store_crashed : (crashed : List ℕ) → model.may_leave (disk_of store) crashed → crashed ≡ f
  store_crashed crashed leaves =
      let stores = store_of model store store.offset st.holds in
      stores.only crashed leaves ∙ same_some stores.bytes f (model.seen (disk_of store)) stores.told st.told

-- what a store that holds an offset leaves
pub left_offset : {F : Type 0} (model : DiskModel F) (store : StoreOn F) (offset left : Option Offset) (crashed : List ℕ)
    → HoldsOffset model store offset → model.may_leave (disk_of store) crashed → IsStore crashed left → left ≡ offset
left_offset model store offset left crashed holds leaves is =
    let stores = store_of model store offset holds in
    one_store stores.bytes left offset (subst (λ (b : List ℕ). IsStore b left) (stores.only crashed leaves) is) stores.is

-- ---- the three of them

module _ {W T F : Type 0} (wal_model : DiskModel W) (topics_model : DiskModel T) (offsets_model : DiskModel F) (w t f : List ℕ) (source : Demo W) (log : OnDisk T) (store : StoreOn F)
    (src : IsSourceOf wal_model w source) (lg : IsLogOf topics_model t log) (st : IsStoreOf offsets_model f store) where
  abbrev pub held_of : Contents
  held_of = held_by src.wal lg.groups store.offset

  pub read_of : ReadAs w t f (held_by src.wal lg.groups store.offset)
  read_of = record { source = src.is; log = lg.is; store = st.is }

  -- a session finds what they hold
  pub found_of : (config : Config) (now : ℤ) → Found (HasDemoState wal_model) (HoldsGroups topics_model) offsets_model (restart_at config now (found_in (held_by src.wal lg.groups store.offset))) source log store
  found_of config now = record {
    standing = standing_in src.wal source.place;
    source_is = (src.wal, src.demo, refl);
    history = refl;
    confirmed = refl;
    sink_is = lg.holds;
    store_is = st.holds;
  }
