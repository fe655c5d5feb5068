-- What a call promises as a call of any source, from what it adds to the wal.
use Rattle.std.proofs.Common.{◌≡◌, ◌∙◌, ℕ, ◌≤◌, Bool, Option, List, refl, sym, ap, subst}
use Rattle.dbl_base.specs.declared.lsn.Lsn.{Lsn}
use Rattle.dbl_disk.specs.Model.{DiskModel}
use Rattle.dbl_source.specs.SourceModel.Standings.{SourceState, CrashState, HasState}
use Rattle.dbl_source.specs.SourceModel.Calls.{Moved, IsMarked, IsConfirmed}
use Rattle.dbl_source.specs.SourceModel.Leaves.{MayFollow, MayFollowMark, MayFollowConfirm}
use Rattle.dbl_source.specs.SourceLog.declared.reader_position.ReaderPosition.{ReaderPosition}
use Rattle.dbl_demo_workload.specs.DemoWal.declared.entry.Entry.{Entry}
use Rattle.dbl_demo_workload.specs.DemoWal.Wals.{Wal}
use Rattle.dbl_demo_workload.specs.DemoWal.Standings.{MayLeaveWal, confirmed_of, left_in, standing_in}
use Rattle.dbl_demo_workload.specs.DemoWal.CrashState.{IsLeftOf, LeavesWal, with_entries}
use Rattle.dbl_demo_workload.proofs.DemoWalGroupLemmas.{AreCommits}
use Rattle.dbl_demo_workload.proofs.DemoWalGrowsLemmas.{standing_moves, marked, standing_marks, confirming, standing_confirms}
use Rattle.dbl_demo_workload.proofs.DemoWalLeftLemmas.{left_as, follows_released, follows_mark, follows_confirm}
use Rattle.dbl_demo_laws.specs.Demo.{Demo, IsDemo, IsRunning, HasDemoState}
use Rattle.dbl_demo_laws.specs.SourceLaws.{one_demo}

module _ {D : Type 0} (model : DiskModel D) where
  -- whether it is live says nothing else of the source
  pub running_live : (wal : Wal) (demo : Demo D) (live : Bool) → IsRunning model wal demo → IsRunning model wal (record demo { live = live })
  running_live wal demo live r = record {
    lists = r.lists;
    is = r.is;
    few = r.few;
    names = r.names;
    tables = r.tables;
    steps = r.steps;
    stands = r.stands;
    silent = r.silent;
    commits = r.commits;
    confirmed = r.confirmed;
    reader = r.reader;
  }

  -- what it represented is what the wal says
  pub stood_for : (old : Demo D) (wal : Wal) (s : SourceState) → IsDemo model wal old → HasDemoState model old s → s ≡ standing_in wal old.place
  stood_for old wal s of_old stands = stands.2 ∙ ap (λ (x : Wal). standing_in x old.place) (one_demo model old stands.0 wal stands.1 of_old)

  -- it represents what the new wal says
  pub leads : (old new : Demo D) (wal next : Wal) (s : SourceState) (P : SourceState → SourceState → Type 0) → IsDemo model wal old → IsDemo model next new → HasDemoState model old s → P (standing_in wal old.place) (standing_in next new.place)
      → HasState (HasDemoState model) new (P s)
  leads old new wal next s P of_old of_new stands holds = record {
    standing = standing_in next new.place;
    is = (next, of_new, refl);
    holds = subst (λ (x : SourceState). P x (standing_in next new.place)) (sym (stood_for old wal s of_old stands)) holds;
  }

  module _ (old new : Demo D) (wal : Wal) (more : List Entry) (are : AreCommits more) (of_old : IsDemo model wal old) (same : new.place ≡ old.place) (s : SourceState) (stands : HasDemoState model old s) where
    -- a call that adds other sessions' commits alone
    pub leads_moved : IsDemo model (with_entries wal more) new → HasState (HasDemoState model) new (Moved s)
    leads_moved of_new =
        leads old new wal (with_entries wal more) s Moved of_old of_new stands
        (subst (λ (p : Option ReaderPosition). Moved (standing_in wal old.place) (standing_in (with_entries wal more) p)) (sym same) (standing_moves wal more old.place are of_old.running.reader.placed))

    -- a watermark after them
    pub leads_marked : (steps : ℕ) (value : List ℕ) → IsDemo model (with_entries wal (marked more steps value)) new → HasState (HasDemoState model) new (IsMarked value s)
    leads_marked steps value of_new =
        leads old new wal (with_entries wal (marked more steps value)) s (IsMarked value) of_old of_new stands
        (subst (λ (p : Option ReaderPosition). IsMarked value (standing_in wal old.place) (standing_in (with_entries wal (marked more steps value)) p)) (sym same) (standing_marks wal more are steps value old.place of_old.running.reader.placed))

    -- a confirmed position after them
    pub leads_confirmed : (upto : Lsn) → (confirmed_of wal).0 ≤ upto.0 → IsDemo model (with_entries wal (confirming more upto)) new → HasState (HasDemoState model) new (IsConfirmed upto s)
    leads_confirmed upto le of_new =
        leads old new wal (with_entries wal (confirming more upto)) s (IsConfirmed upto) of_old of_new stands
        (subst (λ (p : Option ReaderPosition). IsConfirmed upto (standing_in wal old.place) (standing_in (with_entries wal (confirming more upto)) p)) (sym same) (standing_confirms wal more are upto old.place le of_old.running.reader.placed))

  -- ---- what a crash leaves after a call

  module _ (old new : Demo D) (wal : Wal) (more : List Entry) (are : AreCommits more) (of_old : IsDemo model wal old) (s : SourceState) (stands : HasDemoState model old s) (l : CrashState) (may : MayLeaveWal model new.journal.disk l) where
    pub left_moved : LeavesWal model new.journal.disk (IsLeftOf wal more) → MayFollow s l
    left_moved leaves =
        let here = left_as model new.journal.disk (IsLeftOf wal more) l leaves may in
        let follow = follows_released wal more are old.place here.0 here.1 in
        subst (λ (x : CrashState). MayFollow s x) (sym here.2) (subst (λ (x : SourceState). MayFollow x (left_in here.0)) (sym (stood_for old wal s of_old stands)) follow)

    pub left_marked : (steps : ℕ) (value : List ℕ) → LeavesWal model new.journal.disk (IsLeftOf wal (marked more steps value)) → MayFollowMark value s l
    left_marked steps value leaves =
        let here = left_as model new.journal.disk (IsLeftOf wal (marked more steps value)) l leaves may in
        let follow = follows_mark wal more are old.place here.0 steps value here.1 in
        subst (λ (x : CrashState). MayFollowMark value s x) (sym here.2) (subst (λ (x : SourceState). MayFollowMark value x (left_in here.0)) (sym (stood_for old wal s of_old stands)) follow)

    pub left_confirmed : (upto : Lsn) → (confirmed_of wal).0 ≤ upto.0 → LeavesWal model new.journal.disk (IsLeftOf wal (confirming more upto)) → MayFollowConfirm upto s l
    left_confirmed upto le leaves =
        let here = left_as model new.journal.disk (IsLeftOf wal (confirming more upto)) l leaves may in
        let follow = follows_confirm wal more are old.place here.0 upto le here.1 in
        subst (λ (x : CrashState). MayFollowConfirm upto s x) (sym here.2) (subst (λ (x : SourceState). MayFollowConfirm upto x (left_in here.0)) (sym (stood_for old wal s of_old stands)) follow)
