-- Disks that are asked in turn, and stores that are made in turn: what each of them is when it ends.
use Rattle.std.proofs.Common.{◌≡◌, ◌≢◌, ◌∙◌, ◌⊎◌, ℕ, ◌≤◌, ◌^◌, Some, Ok, Err, List, length, refl, sym, ap, subst, arith, inl, inr}
use Rattle.std.specs.Prelude.{IfErr, OnOk, max}
use Rattle.dbl_demo.specs.DemoWorkload.declared.error.DemoError.{DemoError}
use Rattle.dbl_demo.specs.DemoWorkload.Refusals.{IsRefused}
use Rattle.dbl_demo.specs.DemoWorkload.Refusals.IsRefused.{lines, table, row}
use Rattle.dblog_init.specs.declared.disks.Disks.{Disks}
use Rattle.dblog_init.specs.declared.error.InitError.{InitError}
use Rattle.dblog_init.specs.declared.error.InitError.TheVariants.{Failed, Memory, Model, NotEmpty, Script}
use Rattle.dblog_init.specs.declared.error.Store.{Store}
use Rattle.dblog_init.specs.declared.error.Store.TheVariants.{Wal, Topics, Offsets}
use Rattle.dblog_init.specs.Answers.{InitEnd, IsExternalInitEnd}
use Rattle.dblog_init.specs.Answers.Answers.{wal_holds, topics_hold, offsets_hold}
use Rattle.dblog_init.specs.Disks.{EndsBeforeWriting}
use Rattle.dblog_init.specs.Turns.{AsksOne, IsTurnFault, IsTurnOf, MakesOne, TellsFirst}
use Rattle.dblog_init.specs.Errors.{demo_error}
use Rattle.dblog_init.proofs.DiskLemmas.{asked_as, asked_same}
use Rattle.dblog_init.proofs.EndLemmas.{IsMakeEnd}
use Rattle.dbl_disk.specs.Model.{DiskModel}

-- ---- asking

module _ (store other : Store) (apart : store ≢ other) (e : InitError) (turn : IsTurnOf other e) where
  not_failed : e ≡ Failed store → ⊥
  not_failed is = by turn
    where
      by : IsTurnOf other e → ⊥
      by (inl there) = apart (let t = sym is ∙ there in cc)
      by (inr there) = let t = sym is ∙ there in cc

  pub not_holding : e ≡ NotEmpty store → ⊥
  not_holding is = by turn
    where
      by : IsTurnOf other e → ⊥
      by (inl there) = let t = sym is ∙ there in cc
      by (inr there) = apart (let t = sym is ∙ there in cc)

  module _ {D : Type 0} (model : DiskModel D) where
    -- a disk after it
    pub asks_none : (disk : D) → AsksOne model store (Err e) disk disk
    asks_none disk = record {
      empty = λ bytes told. tt;
      holds = λ bytes told is. absurd (not_holding (let t = is in cc));
      asked = asked_same model store (Err e) disk (λ is. not_failed (let t = is in cc));
    }

    -- a disk before it, which was empty
    pub asks_before : (old new : D) → AsksOne model store (Ok tt) old new → AsksOne model store (Err e) old new
    asks_before old new asks = record {
      empty = λ bytes told. tt;
      holds = λ bytes told is. absurd (not_holding (let t = is in cc));
      asked = asked_as model store (Ok tt) (Err e) old new (λ is. (let t = is in cc)) (λ is. not_failed (let t = is in cc)) asks.asked;
    }

-- what is told of the first disk that isn't empty, where each was left like this
module _ {W T F : Type 0} (wal_model : DiskModel W) (topics_model : DiskModel T) (offsets_model : DiskModel F) (disks : Disks W T F) (wal : W) (topics : T) (offsets : F) (e : InitError) where
  pub first_wal : AsksOne wal_model Wal (Err e) disks.wal wal → IsTurnOf Wal e → TellsFirst wal_model topics_model offsets_model disks (Err e)
  first_wal asks (inl is) given a b c = inr (subst (λ (x : InitError). IsExternalInitEnd (Err x)) (sym is) tt)
  first_wal asks (inr is) given a b c = inl (wal_holds (asks.holds given.wal a (ap (λ (x : InitError). Err x) is)) (ap (λ (x : InitError). Err x) is))

  pub first_topics : AsksOne wal_model Wal (Ok tt) disks.wal wal → AsksOne topics_model Topics (Err e) disks.topics topics → IsTurnOf Topics e → TellsFirst wal_model topics_model offsets_model disks (Err e)
  first_topics before asks (inl is) given a b c = inr (subst (λ (x : InitError). IsExternalInitEnd (Err x)) (sym is) tt)
  first_topics before asks (inr is) given a b c = inl (topics_hold (before.empty given.wal a) (asks.holds given.topics b (ap (λ (x : InitError). Err x) is)) (ap (λ (x : InitError). Err x) is))

  pub first_offsets : AsksOne wal_model Wal (Ok tt) disks.wal wal → AsksOne topics_model Topics (Ok tt) disks.topics topics → AsksOne offsets_model Offsets (Err e) disks.offsets offsets → IsTurnOf Offsets e
      → TellsFirst wal_model topics_model offsets_model disks (Err e)
  first_offsets one two asks (inl is) given a b c = inr (subst (λ (x : InitError). IsExternalInitEnd (Err x)) (sym is) tt)
  first_offsets one two asks (inr is) given a b c =
      inl (offsets_hold (one.empty given.wal a) (two.empty given.topics b) (asks.holds given.offsets c (ap (λ (x : InitError). Err x) is)) (ap (λ (x : InitError). Err x) is))

-- ---- the last disk

pub turn_fault : (store : Store) (end : InitEnd) → IfErr end (IsTurnOf store) → IsTurnFault end
turn_fault store (Ok done) turn = tt
turn_fault store (Err e) turn = (store, turn)

pub not_held : (store other : Store) → store ≢ other → (end : InitEnd) → IfErr end (IsTurnOf other) → end ≡ Err (NotEmpty store) → ⊥
not_held store other apart (Ok done) turn is = let t = is in cc
not_held store other apart (Err e) turn is = not_holding store other apart e turn (let t = is in cc)

pub none_held : (end : InitEnd) → IfErr end (IsTurnOf Offsets) → (end ≡ Err (NotEmpty Wal)) ⊎ (end ≡ Err (NotEmpty Topics)) → ⊥
none_held end turn (inl is) = not_held Wal Offsets (λ is. cc) end turn is
none_held end turn (inr is) = not_held Topics Offsets (λ is. cc) end turn is

pub asks_through : {D : Type 0} (model : DiskModel D) (store other : Store) → store ≢ other → (end : InitEnd) → IfErr end (IsTurnOf other) → (old new : D) → AsksOne model store (Ok tt) old new
    → AsksOne model store end old new
asks_through model store other apart (Ok done) turn old new asks = asks
asks_through model store other apart (Err e) turn old new asks = asks_before store other apart e turn model old new asks

pub first_through : {W T F : Type 0} (wal_model : DiskModel W) (topics_model : DiskModel T) (offsets_model : DiskModel F) (disks : Disks W T F) (wal : W) (topics : T) (offsets : F) (end : InitEnd)
    → AsksOne wal_model Wal (Ok tt) disks.wal wal → AsksOne topics_model Topics (Ok tt) disks.topics topics → AsksOne offsets_model Offsets end disks.offsets offsets → IfErr end (IsTurnOf Offsets)
    → TellsFirst wal_model topics_model offsets_model disks end
first_through wal_model topics_model offsets_model disks wal topics offsets (Ok done) one two asks turn given a b c = tt
first_through wal_model topics_model offsets_model disks wal topics offsets (Err e) one two asks turn given a b c =
    first_offsets wal_model topics_model offsets_model disks wal topics offsets e one two asks turn given a b c

-- ---- making

-- a store after the source's couldn't be made
abbrev pub IsOtherEnd : InitError → Type 0
IsOtherEnd e = (e ≡ Failed Topics) ⊎ (e ≡ Failed Offsets)

module _ {D : Type 0} (model : DiskModel D) (store : Store) (Is : List ℕ → Type 0) (e : InitError) (other : e ≢ Failed store) where
  -- a store whose turn didn't come
  pub makes_none : (disk : D) → MakesOne model store Is (Err e) disk disk
  makes_none disk = record {
    made = λ told. tt;
    untouched = λ unwritten. refl;
    leaves = record {
      later = omega arith;
      cause = λ is. absurd (other (let t = is in cc));
      steady = λ no bytes told. refl;
      short = λ before after was is. (
          let same : Some after ≡ Some before = sym is ∙ was in
          let bytes : after ≡ before = cc in
          subst (λ (b : List ℕ). length b ≤ max (length before) (2 ^ 30)) (sym bytes) (omega arith));
    };
  }

  -- a store that was made before another couldn't be
  pub makes_before : (old new : D) → (EndsBeforeWriting store (Err e) → ⊥) → MakesOne model store Is (Ok tt) old new → MakesOne model store Is (Err e) old new
  makes_before old new written makes = record {
    made = λ told. tt;
    untouched = λ unwritten. absurd (written unwritten);
    leaves = record {
      later = makes.leaves.later;
      cause = λ is. absurd (other (let t = is in cc));
      steady = λ no. makes.leaves.steady (λ is. (let t = is in cc));
      short = makes.leaves.short;
    };
  }

-- for every end of the one after it
pub makes_through : {D : Type 0} (model : DiskModel D) (store : Store) (Is : List ℕ → Type 0) (other : Store) → other ≢ store → (EndsBeforeWriting store (Err (Failed other)) → ⊥) → (first end : InitEnd) → first ≡ Ok tt
    → IfErr end (λ e. e ≡ Failed other) → (old new : D) → MakesOne model store Is first old new → MakesOne model store Is end old new
makes_through model store Is other apart written (Err e) end well kind old new makes = absurd (let t = well in cc)
makes_through model store Is other apart written (Ok done) (Ok last) well kind old new makes = makes
makes_through model store Is other apart written (Ok done) (Err e) well kind old new makes =
    makes_before model store Is e (λ is. apart (let t = sym kind ∙ is in cc)) old new (λ unwritten. written (subst (λ (x : InitError). EndsBeforeWriting store (Err x)) kind unwritten)) makes

-- the source's, for every end of the others
pub wal_through : {D : Type 0} (model : DiskModel D) (Is : List ℕ → Type 0) (first end : InitEnd) → first ≡ Ok tt → IfErr end IsOtherEnd → (old new : D) → MakesOne model Wal Is first old new
    → MakesOne model Wal Is end old new
wal_through model Is (Err e) end well kinds old new makes = absurd (let t = well in cc)
wal_through model Is (Ok done) (Ok last) well kinds old new makes = makes
wal_through model Is (Ok done) (Err e) well (inl kind) old new makes =
    makes_through model Wal Is Topics (λ is. cc) (λ no. no) (Ok done) (Err e) well kind old new makes
wal_through model Is (Ok done) (Err e) well (inr kind) old new makes =
    makes_through model Wal Is Offsets (λ is. cc) (λ no. no) (Ok done) (Err e) well kind old new makes

-- ---- why

abbrev pub IsWalEnd : List ℕ → InitError → Type 0
IsWalEnd bytes e = (e ≡ Memory) ⊎ ((e ≡ Failed Wal) ⊎ ((d : DemoError) × IsRefused bytes d × (e ≡ demo_error d)))

pub wal_end : (bytes : List ℕ) (end : InitEnd) → IfErr end (IsWalEnd bytes) → IfErr end (IsMakeEnd bytes)
wal_end bytes (Ok done) kinds = tt
wal_end bytes (Err e) (inl is) = inl is
wal_end bytes (Err e) (inr (inl is)) = inr (inl (Wal, is))
wal_end bytes (Err e) (inr (inr refused)) = inr (inr refused)

pub others_end : (bytes : List ℕ) (end : InitEnd) → IfErr end IsOtherEnd → IfErr end (IsMakeEnd bytes)
others_end bytes (Ok done) kinds = tt
others_end bytes (Err e) (inl is) = inr (inl (Topics, is))
others_end bytes (Err e) (inr is) = inr (inl (Offsets, is))

-- a refused workload is no failed disk
refused_failed : (bytes : List ℕ) (d : DemoError) (store : Store) → IsRefused bytes d → demo_error d ≡ Failed store → store ≡ Wal
refused_failed bytes d store (lines fault bad is) failed = absurd (let wrong : Script fault ≡ Failed store = sym (ap demo_error is) ∙ failed in cc)
refused_failed bytes d store (table fault bad is) failed = absurd (let wrong : Model fault ≡ Failed store = sym (ap demo_error is) ∙ failed in cc)
refused_failed bytes d store (row number bad is) failed = absurd (let t = sym (ap demo_error is) ∙ failed in cc)

-- no other store's disk failed
pub wal_spares : (bytes : List ℕ) (store : Store) → Wal ≢ store → (end : InitEnd) → IfErr end (IsWalEnd bytes) → IfErr end (λ e. e ≢ Failed store)
wal_spares bytes store apart (Ok done) kinds = tt
wal_spares bytes store apart (Err e) (inl is) = λ failed. (let t = sym is ∙ failed in cc)
wal_spares bytes store apart (Err e) (inr (inl is)) = λ failed. apart (let t = sym is ∙ failed in cc)
wal_spares bytes store apart (Err e) (inr (inr refused)) = λ failed. apart (sym (refused_failed bytes refused.0 store refused.1 (sym refused.2 ∙ failed)))

pub workload_end : (P : Type 0) (first end : InitEnd) → first ≡ Ok tt → OnOk first P → OnOk end P
workload_end P (Err e) end well p = absurd (let t = well in cc)
workload_end P (Ok done) (Ok last) well p = p
workload_end P (Ok done) (Err e) well p = tt

-- ---- one end

pub ok_at : (end : InitEnd) (P : Type 0) → end ≡ Ok tt → OnOk end P → P
ok_at (Ok done) P is p = p
ok_at (Err e) P is p = absurd (let t = is in cc)

pub err_at : (end : InitEnd) (e : InitError) (P : InitError → Type 0) → end ≡ Err e → IfErr end P → P e
err_at (Ok done) e P is p = absurd (let t = is in cc)
err_at (Err f) e P is p = subst P (let t = is in cc) p
