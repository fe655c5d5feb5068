-- What a call promises as a call of any source, from what it amounts to.
use Rattle.std.proofs.Common.{◌≡◌, ◌∙◌, ℕ, true, false, Option, None, Some, List, [], length, sym, ap, subst, arith}
use Rattle.std.specs.Prelude.{IsTrue, is_some, IfSome, Result, Ok, Err, IfOk, OnOk, OnErr}
use Rattle.dbl_disk.specs.Model.{DiskModel}
use Rattle.dbl_model_table.specs.declared.table.RawTable.{RawTable}
use Rattle.dbl_model_table.specs.declared.table.TableName.{TableName}
use Rattle.dbl_source.specs.ModelHistory.History.{History, entry_of}
use Rattle.dbl_source.specs.SourceModel.Standings.{CrashState, SourceState, HasState, MovesTo}
use Rattle.dbl_source.specs.SourceModel.Leaves.{Leaves, LeavesSome, MayFollow}
use Rattle.dbl_source.specs.SourceModel.Trace.{Answer, LastAnswerIs}
use Rattle.dbl_journal.specs.Growth as journals
use Rattle.dbl_journal.specs.Stored.{Lists, OnDisk}
use Rattle.dbl_source.specs.SourceLog.declared.reader_position.ReaderPosition.{ReaderPosition}
use Rattle.dbl_source.specs.SourceLog.declared.error.SourceError.{SourceError}
use Rattle.dbl_source.proofs.EntryLemmas.{found_named}
use Rattle.dbl_demo_workload.specs.DemoWal.declared.entry.Entry.{Entry}
use Rattle.dbl_demo_workload.specs.DemoWal.Groups.{released}
use Rattle.dbl_demo_workload.specs.DemoWal.Wals.{Wal, forms_of}
use Rattle.dbl_demo_workload.specs.DemoWal.Standings.{MayLeaveWal}
use Rattle.dbl_demo_workload.specs.DemoWal.CrashState.{IsLeftOf, LeavesWal, added_by}
use Rattle.dbl_demo_workload.proofs.DemoWalGroupLemmas.{AreCommits, are_append, released_are}
use Rattle.dbl_demo_workload.proofs.DemoWalLeftLemmas.{some_left}
use Rattle.dbl_demo_laws.specs.Answers.{IsReaderKept}
use Rattle.dbl_demo_laws.specs.Calls.{LeavesFirst, Released, ReleasesSteps}
use Rattle.dbl_demo_laws.specs.Demo.{ExtendsDemo, Demo, IsDemo, HasDemoState}
use Rattle.dbl_demo_laws.specs.Running.{StaysKnown}
use Rattle.dbl_demo_laws.proofs.CallLemmas.{left_moved}
use Rattle.dbl_demo_laws.proofs.ComesLemmas.{comes_released}

-- ---- a source that doesn't tell

pub tells_none : (answer : Answer) → LastAnswerIs None answer
tells_none answer t is = absurd (let wrong : None ≡ Some t = is in cc)

pub tells_of : {T : Type 0} (result : Result T SourceError) (answer : T → Answer) → IfOk result (λ x. LastAnswerIs None (answer x))
tells_of (Ok x) answer = tells_none (answer x)
tells_of (Err e) answer = tt

pub told_of : {T : Type 0} (result : Result T SourceError) (answer : Answer) → OnOk result (LastAnswerIs None answer)
told_of (Ok x) answer = tells_none answer
told_of (Err e) answer = tt

pub on_ok : {T : Type 0} (P : Type 0) (result : Result T SourceError) → P → OnOk result P
on_ok P (Ok x) p = p
on_ok P (Err e) p = tt

pub on_err : {T : Type 0} (P : Type 0) (result : Result T SourceError) → P → OnErr result P
on_err P (Ok x) p = tt
on_err P (Err e) p = p

-- ---- the catalogue's entry

-- it has the name by which it was found
pub entry_named : (name : TableName) (history : History) (P : Option RawTable → Type 0) (result : Result (Option RawTable) SourceError) → ((entry : Option RawTable) → P entry → entry ≡ entry_of history name) → IfOk result (λ entry. P entry)
    → IfOk result (λ entry. IfSome entry (λ raw. raw.name ≡ name))
entry_named name history P (Ok entry) is holds = subst (λ (o : Option RawTable). IfSome o (λ raw. raw.name ≡ name)) (sym (is entry holds)) (found_named history.tables name)
entry_named name history P (Err e) is holds = tt

-- ---- the reader

pub kept_reader : {D T : Type 0} (old new : Demo D) (Says : T → Type 0) (result : Result T SourceError) → OnErr result (IsReaderKept old new) → IfOk result (λ x. Says x) → ((x : T) → Says x → IsReaderKept old new) → IsReaderKept old new
kept_reader old new Says (Ok x) kept says reader = reader x says
kept_reader old new Says (Err e) kept says reader = kept

pub same_reader : {D : Type 0} (old new : Demo D) → IsReaderKept old new → is_some new.place ≡ is_some old.place
same_reader old new kept = ap (λ (p : Option ReaderPosition). is_some p) kept.place

pub err_reader : {D T : Type 0} (old new : Demo D) (result : Result T SourceError) → OnErr result (IsReaderKept old new) → OnErr result (is_some new.place ≡ is_some old.place)
err_reader old new (Ok x) kept = tt
err_reader old new (Err e) kept = same_reader old new kept

pub err_ended : {D T : Type 0} (old new : Demo D) (result : Result T SourceError) → OnErr result (IsReaderKept old new) → OnErr result (new.ended ≡ old.ended)
err_ended old new (Ok x) kept = tt
err_ended old new (Err e) kept = kept.ended

pub ok_ended : {D T : Type 0} (new : Demo D) (Says : T → Type 0) (result : Result T SourceError) → IfOk result (λ x. Says x) → ((x : T) → Says x → new.ended ≡ false) → OnOk result (new.ended ≡ false)
ok_ended new Says (Ok x) says ended = ended x says
ok_ended new Says (Err e) says ended = tt

-- ---- what is left

pub commits_added : (wal : Wal) (done upto : ℕ) → AreCommits (added_by wal done upto [])
commits_added wal done upto = are_append (released wal.workload done upto) [] (released_are wal.workload done upto) tt

module _ {D : Type 0} (model : DiskModel D) (old new : Demo D) where
  abbrev May : Demo D → CrashState → Type 0
  May source l = MayLeaveWal model source.journal.disk l

  -- a journal that lists entries has come somewhere
  come_here : (journal : OnDisk D) (forms : List (List ℕ)) (lists : Lists model journal forms) → journals.HasCome model 0 (length lists.bytes) journal
  come_here journal forms lists = record {
    lists = λ live. (forms, lists);
    told = (lists.bytes, lists.told);
    reaches = λ bytes told. (
        let told_twice : Some lists.bytes ≡ Some bytes = sym lists.told ∙ told in
        let same : lists.bytes ≡ bytes = cc in
        subst (journals.ReachesFrom 0 (length lists.bytes)) same (record { entries = forms; journal = lists.spelled; on = omega arith; short = omega arith }));
  }

  -- so the disk goes on telling its bytes
  pub still_told : journals.ExtendsJournal model old.journal new.journal → (wal : Wal) → IsDemo model wal old → (bytes : List ℕ) × (model.seen new.journal.disk ≡ Some bytes)
  still_told come wal is = let lists = is.running.lists in (come 0 (length lists.bytes) (come_here old.journal (forms_of wal) lists)).told

  module _ (may_be_left : (disk : D) (bytes : List ℕ) → model.seen disk ≡ Some bytes → model.may_leave disk bytes) (come : journals.ExtendsJournal model old.journal new.journal) where
    pub leaves_some : (P : Wal → Wal → Type 0) → ((wal : Wal) → IsDemo model wal old → LeavesWal model new.journal.disk (P wal)) → LeavesSome (HasDemoState model) May old new
    leaves_some P leaves s stands =
        let told = still_told come stands.0 stands.1 in
        some_left model new.journal.disk (P stands.0) may_be_left told.0 told.1 (leaves stands.0 stands.1)

    pub some_held : (upto : ℕ) (own : List Entry) → LeavesFirst model upto own old new → LeavesSome (HasDemoState model) May old new
    some_held upto own first = leaves_some (λ wal. IsLeftOf wal (added_by wal old.done upto own)) first

  pub left_held : (upto : ℕ) → LeavesFirst model upto [] old new → Leaves (HasDemoState model) May old new MayFollow
  left_held upto first s l stands may =
      left_moved model old new stands.0 (added_by stands.0 old.done upto []) (commits_added stands.0 old.done upto) stands.1 s stands l may (first stands.0 stands.1)

  -- ---- what it leads to

  pub leads_held : {T : Type 0} (upto : ℕ) (own : List Entry) (Says : T → Type 0) (G : T → SourceState → SourceState → Type 0) (result : Result T SourceError) → OnOk result (ReleasesSteps model upto own old new) → IfOk result (λ x. Says x)
      → ((x : T) → Says x → (wal : Wal) → IsDemo model wal old → Released model wal upto own old new → (s : SourceState) → HasDemoState model old s → HasState (HasDemoState model) new (G x s))
      → MovesTo (HasDemoState model) old new result G
  leads_held upto own Says G (Ok x) releases says by s stands = by x says stands.0 stands.1 (releases stands.0 stands.1) s stands
  leads_held upto own Says G (Err e) releases says by s stands = tt

  -- ---- what no call undoes

  pub live_or : {T : Type 0} (P : Type 0) (result : Result T SourceError) → OnOk result P → OnErr result (new.live ≡ false) → IsTrue new.live → P
  live_or P (Ok x) holds dead live = holds
  live_or P (Err e) holds dead live = absurd (let wrong : true ≡ false = sym live ∙ dead in cc)

  pub comes_held : {T : Type 0} (upto : ℕ) (own : List Entry) (result : Result T SourceError) → IsTrue old.live → journals.ExtendsJournal model old.journal new.journal → LeavesFirst model upto own old new
      → OnOk result (ReleasesSteps model upto own old new) → OnErr result (new.live ≡ false) → OnOk result (StaysKnown model old.journal.disk new.journal.disk) → ExtendsDemo model old new
  comes_held upto own result was come first releases dead known =
      comes_released model old new come was (λ live. live_or (StaysKnown model old.journal.disk new.journal.disk) result known dead live) upto own first
      (λ live. live_or (ReleasesSteps model upto own old new) result releases dead live)
