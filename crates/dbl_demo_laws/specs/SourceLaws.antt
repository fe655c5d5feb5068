-- The theorems about the source over a disk that the trait requires.
use Rattle.std.proofs.Common.{◌≡◌, ◌∙◌, ℕ, List, Option, None, Some, option_map, is_some, IsTrue, refl, sym, ap, subst}
use Rattle.dbl_disk.specs.Model.{DiskModel}
use Rattle.dbl_source.specs.ModelHistory.History.{IsRising}
use Rattle.dbl_source.specs.ModelHistory.Fit.{IsFitHistory}
use Rattle.dbl_source.specs.SourceModel.Standings.{Reading, SourceState, CrashState, left_of}
use Rattle.dbl_source.specs.SourceModel.Growth.{KeepsColumns}
use Rattle.dbl_source.specs.SourceModel.Stated.{IsReadRight}
use Rattle.dbl_source.specs.SourceLog.declared.reader_position.ReaderPosition.{ReaderPosition}
use Rattle.dbl_source_log.proofs.LogLemmas.{is_rising}
use Rattle.dbl_source_log.proofs.ReaderLemmas.{read_right}
use Rattle.dbl_demo_workload.specs.DemoWal.Sound.{logged_in}
use Rattle.dbl_demo_workload.specs.DemoWal.Wals.{Wal, IsWal, forms_of}
use Rattle.dbl_demo_workload.specs.DemoWal.Standings.{MayLeaveWal, history_in, left_in, wal_reading, standing_in, tables_of}
use Rattle.dbl_demo_wal.proofs.KeptTables.{columns_kept}
use Rattle.dbl_demo_wal.proofs.WalLaws.{one_wal}
use Rattle.dbl_demo_wal.proofs.FitLaws.{wal_is_fair, wal_has_fit_history}
use Rattle.dbl_demo_laws.specs.Demo.{Demo, IsDemo, IsRunning, HasDemoState}

module _ {D : Type 0} (model : DiskModel D) where
  -- The bytes that the disk has are the log's.
  pub wal_of : (demo : Demo D) (wal : Wal) (running : IsRunning model wal demo) → IsWal running.lists.bytes wal
  wal_of demo wal running = record { forms = forms_of wal; journal = running.lists.spelled; are = running.is; few = running.few }

  pub one_demo : (demo : Demo D) (a b : Wal) → IsDemo model a demo → IsDemo model b demo → a ≡ b
  one_demo demo a b of_a of_b =
      let told : Some of_a.running.lists.bytes ≡ Some of_b.running.lists.bytes = sym of_a.running.lists.told ∙ of_b.running.lists.told in
      let same : of_a.running.lists.bytes ≡ of_b.running.lists.bytes = cc in
      one_wal of_b.running.lists.bytes a b (subst (λ (bytes : List ℕ). IsWal bytes a) same (wal_of demo a of_a.running))
      (wal_of demo b of_b.running)

  pub lives_so : (demo : Demo D) (s : SourceState) → HasDemoState model demo s → IsTrue demo.live
  lives_so demo s a = a.1.live

  pub one_standing : (demo : Demo D) (s t : SourceState) → HasDemoState model demo s → HasDemoState model demo t → s ≡ t
  one_standing demo s t a b = a.2 ∙ ap (λ (wal : Wal). standing_in wal demo.place) (one_demo demo a.0 b.0 a.1 b.1) ∙ sym b.2

  pub only_left : (demo : Demo D) (s : SourceState) (l : CrashState) → HasDemoState model demo s → MayLeaveWal model demo.journal.disk l
      → l ≡ left_of s
  only_left demo s l a may =
      let running = a.1.running in
      let same : may.crashed ≡ running.lists.bytes = running.lists.only may.crashed may.may in
      let wals : may.wal ≡ a.0 = one_wal running.lists.bytes may.wal a.0 (subst (λ (bytes : List ℕ). IsWal bytes may.wal) same may.is)
      (wal_of demo a.0 running) in
      may.left ∙ ap left_in wals ∙ ap left_of (sym a.2)

  pub may_leave_so : ((disk : D) (bytes : List ℕ) → model.seen disk ≡ Some bytes → model.may_leave disk bytes)
      → (demo : Demo D) (s : SourceState) → HasDemoState model demo s → MayLeaveWal model demo.journal.disk (left_of s)
  may_leave_so may_be_left demo s a =
      let lists = a.1.running.lists in
      record {
        crashed = lists.bytes;
        may = may_be_left demo.journal.disk lists.bytes lists.told;
        wal = a.0;
        is = wal_of demo a.0 a.1.running;
        left = ap left_of a.2;
      }

  same_some : {A B : Type 0} (f : A → B) (o : Option A) → is_some (option_map f o) ≡ is_some o
  same_some f None = refl
  same_some f (Some x) = refl

  pub reads_so : (demo : Demo D) (s : SourceState) → HasDemoState model demo s → is_some s.reading ≡ is_some demo.place
  reads_so demo s a = ap (λ (t : SourceState). is_some t.reading) a.2 ∙ same_some (wal_reading a.0) demo.place

  pub rising_so : (demo : Demo D) (s : SourceState) → HasDemoState model demo s → IsRising s.history
  rising_so demo s a = subst (λ (t : SourceState). IsRising t.history) (sym a.2) (is_rising (tables_of a.0) (logged_in a.0.entries))

  -- No commit of the demo source's history alters a table.
  pub unaltered_so : (demo : Demo D) (s : SourceState) → HasDemoState model demo s → KeepsColumns s.history
  unaltered_so demo s a =
      subst (λ (t : SourceState). KeepsColumns t.history) (sym a.2) (columns_kept (tables_of a.0) a.0.entries)

  right_at : (wal : Wal) (bytes : List ℕ) (place : Option ReaderPosition) (r : Reading) → IsWal bytes wal
      → option_map (wal_reading wal) place ≡ Some r → IsReadRight (history_in wal) r
  right_at wal bytes None r is reads = cc
  right_at wal bytes (Some place) r is reads =
      let same : wal_reading wal place ≡ r = cc in
      subst (IsReadRight (history_in wal)) same (read_right (tables_of wal) (logged_in wal.entries) place (wal_is_fair bytes wal is))

  pub right_so : (demo : Demo D) (s : SourceState) (r : Reading) → HasDemoState model demo s → s.reading ≡ Some r → IsReadRight s.history r
  right_so demo s r a reads =
      let running = a.1.running in
      subst (λ (t : SourceState). IsReadRight t.history r) (sym a.2)
      (right_at a.0 running.lists.bytes demo.place r (wal_of demo a.0 running) (ap (λ (t : SourceState). t.reading) (sym a.2) ∙ reads))

-- Every history that a crash leaves is valid.
pub fit_so : {D : Type 0} (model : DiskModel D) (disk : D) (l : CrashState) → MayLeaveWal model disk l → IsFitHistory l.history
fit_so model disk l may = subst (λ (x : CrashState). IsFitHistory x.history) (sym may.left) (wal_has_fit_history may.crashed may.wal may.is)
