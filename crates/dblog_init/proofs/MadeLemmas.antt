-- The stores that are made: what is on their disks, and what is left of these.
use Rattle.std.proofs.Common.{◌≡◌, ◌≢◌, ◌∙◌, ◌⊎◌, ℕ, ◌≤◌, ◌^◌, None, Some, Err, List, [], ◌∷◌, length, refl, sym, ap, subst, arith, inl, inr}
use Rattle.dbl_base.specs.Streams.{FaultCounted}
use Rattle.dbl_disk.specs.Model.{DiskModel}
use Rattle.dbl_disk.specs.Disks.{IsOnly}
use Rattle.dbl_journal.specs.Stored.{IsSteady, Lists, OnDisk, size}
use Rattle.dbl_journal.specs.declared.error.JournalError.TheVariants as journal
use Rattle.dbl_topic.specs.Held.{HoldsGroups}
use Rattle.dbl_offset.specs.Stores.{HoldsOffset, StoreOn, disk_of}
use Rattle.dbl_offset.proofs.StoreLaws.{store_of}
use Rattle.dbl_demo.specs.DemoWal.Wals.{Wal as WalOf, forms_of}
use Rattle.dbl_demo.specs.DemoWorkload.declared.error.DemoError.{DemoError}
use Rattle.dbl_demo.specs.DemoWorkload.declared.error.DemoError.TheVariants as demo
use Rattle.dbl_demo.specs.DemoWorkload.Refusals.{IsRefused}
use Rattle.dbl_demo.specs.DemoWorkload.Refusals.IsRefused.{lines, table, row}
use Rattle.dbl_demo.specs.DemoLaws.Demo.{Demo, IsDemo}
use Rattle.dbl_demo.specs.DemoLaws.Made.{IsFirstWal, IsFreshWal}
use Rattle.dbl_demo.proofs.DemoLawsMakeLemmas.{none_small}
use Rattle.dblog_init.specs.declared.error.InitError.{InitError}
use Rattle.dblog_init.specs.declared.error.InitError.TheVariants.{Failed, Memory, Model, Script}
use Rattle.dblog_init.specs.declared.error.Store.{Store}
use Rattle.dblog_init.specs.declared.error.Store.TheVariants.{Wal}
use Rattle.dblog_init.specs.Answers.{InitEnd}
use Rattle.dblog_init.specs.Disks.{HasStoredBytes, EndsBeforeWriting, LeavesDisk}
use Rattle.dblog_init.specs.Errors.{demo_error}
use Rattle.dblog_init.specs.Fresh.{IsEmptyLog, IsEmptyStore}

-- ---- what is on them

module _ {D : Type 0} (model : DiskModel D) (disk : D) where
  stored : (Is : List ℕ → Type 0) (on : OnDisk D) (entries : List (List ℕ)) (lists : Lists model on entries) → disk ≡ on.disk → Is lists.bytes → HasStoredBytes model Is disk
  stored Is on entries lists same is = record {
    bytes = lists.bytes;
    told = ap model.seen same ∙ lists.told;
    only = subst (λ (d : D). IsOnly lists.bytes (model.may_leave d)) (sym same) lists.only;
    is = is;
  }

  pub stored_wal : (script : List ℕ) (source : Demo D) (wal : WalOf) → IsDemo model wal source → IsFirstWal script wal → disk ≡ source.journal.disk → HasStoredBytes model (IsFreshWal script) disk
  stored_wal script source wal is first same =
      let lists = is.running.lists in
      stored (IsFreshWal script) source.journal (forms_of wal) lists same
      (wal, record { forms = forms_of wal; journal = lists.spelled; are = is.running.is; few = is.running.few }, first)

  pub stored_log : (log : OnDisk D) → HoldsGroups model log [] → disk ≡ log.disk → HasStoredBytes model IsEmptyLog disk
  stored_log log holds same =
      stored IsEmptyLog log holds.entries holds.lists same (record { entries = holds.entries; journal = holds.lists.spelled; are = holds.are })

  pub stored_offset : (store : StoreOn D) → HoldsOffset model store None → disk ≡ disk_of store → HasStoredBytes model IsEmptyStore disk
  stored_offset store holds same =
      let stores = store_of model store None holds in
      record {
        bytes = stores.bytes;
        told = ap model.seen same ∙ stores.told;
        only = subst (λ (d : D). IsOnly stores.bytes (model.may_leave d)) (sym same) stores.only;
        is = stores.is;
      }

-- ---- what is left of them

module _ {D : Type 0} (model : DiskModel D) (store : Store) (end : InitEnd) (old new : D) (empty : (bytes : List ℕ) → model.seen old ≡ Some bytes → bytes ≡ []) (later : model.faults old ≤ model.faults new)
    (cause : end ≡ Err (Failed store) → FaultCounted (model.faults old) (model.faults new)) (steady : end ≢ Err (Failed store) → IsSteady model old new) where
  -- at most 2^30 bytes
  pub leaves_short : ((bytes : List ℕ) → model.seen old ≡ Some [] → model.seen new ≡ Some bytes → length bytes ≤ 2 ^ 30) → LeavesDisk model store end old new
  leaves_short small = record {
    later = later;
    cause = cause;
    steady = steady;
    short = λ before after was is. (
        let few : length after ≤ 2 ^ 30 = small after (was ∙ ap Some (empty before was)) is in
        omega (arith, few));
  }

  -- at most those of an empty journal
  pub leaves_none : ((bytes : List ℕ) → model.seen old ≡ Some [] → model.seen new ≡ Some bytes → length bytes ≤ size []) → LeavesDisk model store end old new
  leaves_none small = leaves_short (λ bytes was is. (let few = small bytes was is in omega (arith, none_small, few)))

-- ---- why the source couldn't be made

abbrev IsMakeRefusal : List ℕ → DemoError → Type 0
IsMakeRefusal bytes e = (e ≡ demo.Memory) ⊎ ((e ≡ demo.Journal journal.Failed) ⊎ IsRefused bytes e)

module _ (bytes : List ℕ) (e : DemoError) (f : InitError) (told : f ≡ demo_error e) where
  pub wal_refused : IsMakeRefusal bytes e → (f ≡ Memory) ⊎ ((f ≡ Failed Wal) ⊎ ((d : DemoError) × IsRefused bytes d × (f ≡ demo_error d)))
  wal_refused (inl is) = inl (told ∙ ap demo_error is)
  wal_refused (inr (inl is)) = inr (inl (told ∙ ap demo_error is))
  wal_refused (inr (inr refused)) = inr (inr (e, refused, told))

  -- where no byte was written
  pub wal_unwritten : IsMakeRefusal bytes e → EndsBeforeWriting Wal (Err f) → IsRefused bytes e
  wal_unwritten (inl is) unwritten = absurd (subst (λ (x : InitError). EndsBeforeWriting Wal (Err x)) (told ∙ ap demo_error is) unwritten)
  wal_unwritten (inr (inl is)) unwritten = absurd (subst (λ (x : InitError). EndsBeforeWriting Wal (Err x)) (told ∙ ap demo_error is) unwritten)
  wal_unwritten (inr (inr refused)) unwritten = refused

  spared : IsRefused bytes e → f ≡ Failed Wal → ⊥
  spared (lines fault bad is) failed = let wrong : Script fault ≡ Failed Wal = sym (told ∙ ap demo_error is) ∙ failed in cc
  spared (table fault bad is) failed = let wrong : Model fault ≡ Failed Wal = sym (told ∙ ap demo_error is) ∙ failed in cc
  spared (row number bad is) failed = absurd (let t = sym (told ∙ ap demo_error is) ∙ failed in cc)

  -- the disk failed
  pub wal_failed : IsMakeRefusal bytes e → f ≡ Failed Wal → e ≡ demo.Journal journal.Failed
  wal_failed (inl is) failed = absurd (let wrong : Memory ≡ Failed Wal = sym (told ∙ ap demo_error is) ∙ failed in cc)
  wal_failed (inr (inl is)) failed = is
  wal_failed (inr (inr refused)) failed = absurd (spared refused failed)

  pub wal_fails : e ≡ demo.Journal journal.Failed → f ≡ Failed Wal
  wal_fails is = told ∙ ap demo_error is

-- ---- a disk's length

pub nil_of : (bytes : List ℕ) (n : ℕ) → n ≡ length bytes → n ≡ 0 → bytes ≡ []
nil_of [] n is none = refl
nil_of (b ∷ bytes) n is none = absurd (omega (arith, is, none))

pub some_of : (bytes : List ℕ) (n : ℕ) → n ≡ length bytes → n ≢ 0 → bytes ≢ []
some_of bytes n is some none = some (is ∙ ap (λ (l : List ℕ). length l) none)
