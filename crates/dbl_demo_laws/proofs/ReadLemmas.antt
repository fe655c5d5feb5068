-- What a read promises as one of any source, from what it amounts to.
use Rattle.std.proofs.Common.{◌≡◌, ◌∙◌, ◌⊎◌, ℕ, ◌≤◌, Bool, true, false, Option, None, Some, List, [], ◌∷◌, ◌++◌, length, refl, sym, ap, subst, arith, inl, inr}
use Rattle.std.specs.Prelude.{IsTrue, is_none, is_some, MatchOption, Result, Ok, Err, IfOk, OnOk, option_map}
use Rattle.std.specs.List.{AllByRecursion}
use Rattle.std.proofs.lemmas.List.{append-nil, drop_all}
use Rattle.dbl_disk.specs.Model.{DiskModel}
use Rattle.dbl_pgmsg.specs.declared.messages.Message.{Message}
use Rattle.dbl_pgmsg.specs.Grammar.{Spells}
use Rattle.dbl_source.specs.SourceModel.Standings.{CrashState, Reading, SourceState, HasState}
use Rattle.dbl_source.specs.SourceModel.Calls.{Moved, HasReadOneMore, HasReadAll}
use Rattle.dbl_source.specs.SourceModel.Leaves.{Leaves, LeavesSome, MayFollow}
use Rattle.dbl_source.specs.SourceModel.Trace.{IsTakenBy}
use Rattle.dbl_source.specs.SourceLog.declared.logged.LogTable.{LogTable}
use Rattle.dbl_source.specs.SourceLog.declared.logged.Logged.{Logged}
use Rattle.dbl_source.specs.SourceLog.declared.reader_position.ReaderPosition.{ReaderPosition}
use Rattle.dbl_source.specs.SourceLog.Sent.{index_of, told_at}
use Rattle.dbl_source.specs.SourceLog.declared.error.SourceError.{SourceError}
use Rattle.dbl_source.proofs.LogStates.{read_all}
use Rattle.dbl_demo_workload.specs.DemoWal.Groups.{EndsRead, ReadsOn, released}
use Rattle.dbl_demo_workload.specs.DemoWal.Groups.ReadsOn.{stops, goes}
use Rattle.dbl_demo_workload.specs.DemoWal.Sound.{logged_in}
use Rattle.dbl_demo_workload.specs.DemoWal.Workloads.{Workload, steps_of}
use Rattle.dbl_demo_workload.specs.DemoWal.declared.entry.Entry.{Entry}
use Rattle.dbl_demo_workload.specs.DemoWal.Wals.{Wal}
use Rattle.dbl_demo_workload.specs.DemoWal.Standings.{MayLeaveWal, confirmed_of, left_in, wal_reading, standing_in, tables_of}
use Rattle.dbl_demo_workload.specs.DemoWal.CrashState.{added_by, with_entries}
use Rattle.dbl_demo_workload.proofs.DemoWalFitLaws.{wal_is_fair}
use Rattle.dbl_demo_workload.proofs.DemoWalGrowsLemmas.{confirmed_stays, history_grows, reading_stays}
use Rattle.dbl_demo_workload.proofs.DemoWalLeftLemmas.{follows_released, left_as}
use Rattle.dbl_demo_laws.specs.Answers.{AddsRead, ReadAfter}
use Rattle.dbl_demo_laws.specs.Calls.{HasReadWhole, ReadOn, ReadsOnTo}
use Rattle.dbl_demo_laws.specs.Demo.{ExtendsDemo, Demo, HasReachedEnd, IsDemo, IsMark, IsRunning, HasDemoState}
use Rattle.dbl_demo_laws.specs.Running.{StaysKnown}
use Rattle.dbl_demo_laws.specs.Reading.{ReadNone, ReadOne}
use Rattle.dbl_demo_laws.specs.SourceLaws.{wal_of}
use Rattle.dbl_demo_laws.proofs.CallLemmas.{leads, stood_for}
use Rattle.dbl_demo_laws.proofs.ComesLemmas.{LeftByRead, comes_read}
use Rattle.dbl_demo_laws.proofs.PromiseLemmas.{commits_added, leaves_some, live_or}

-- the reader that is somewhere
pub place_there : {D : Type 0} (demo : Demo D) (place : Option ReaderPosition) → demo.place ≡ place → IsTrue (is_some place) → (p : ReaderPosition) × (demo.place ≡ Some p)
place_there demo None is some = absurd (let wrong : false ≡ true = some in cc)
place_there demo (Some p) is some = (p, is)

not_begun : (begun : Bool) → (IsTrue begun → ⊥) → begun ≡ false
not_begun false none = refl
not_begun true none = absurd (none refl)

-- a read ends with a commit to be read, or where no step is left
pub read_ends : (w : Workload) (entries : List Entry) (place : ReaderPosition) (done upto : ℕ) {from : ℕ} → ReadsOn w entries place done upto from → EndsRead w entries place done upto ⊎ (length (steps_of w) ≤ upto)
read_ends w entries place done upto (stops from is end) = end
read_ends w entries place done upto (goes from none on) = read_ends w entries place done upto on

module _ {D : Type 0} (model : DiskModel D) (old new : Demo D) (wal : Wal) (place : ReaderPosition) (of_old : IsDemo model wal old) (there : old.place ≡ Some place) where
  abbrev next : Wal
  next = with_entries wal (added_by wal old.done new.done [])

  -- the reader reads what it read, in the longer log
  same_reading : wal_reading next place ≡ wal_reading wal place
  same_reading =
      let stays : option_map (wal_reading next) old.place ≡ option_map (wal_reading wal) old.place = reading_stays wal (added_by wal old.done new.done []) old.place of_old.running.reader.placed in
      let at : Some (wal_reading next place) ≡ Some (wal_reading wal place) =
      ap (option_map (wal_reading next)) (sym there) ∙ stays ∙ ap (option_map (wal_reading wal)) there in
      cc

  -- where nothing is left all steps were run, and every commit was read
  pub read_whole : ReadAfter model wal place old new None → HasReadWhole next new
  read_whole subsequent = record {
    done = (
        let all : length (steps_of wal.workload) ≤ new.done = elim (read_ends wal.workload wal.entries place old.done new.done subsequent.on) [
          | inl unread ↦ absurd (unread_not unread)
          | inr done ↦ done
        ] in
        omega (arith, all, subsequent.next.running.silent.there, ap length subsequent.next.running.steps));
    read = λ p at. (
        let here : Some p ≡ Some place = sym at ∙ subsequent.next.is in
        let same : p ≡ place = cc in
        subst (λ (q : ReaderPosition). length (logged_in next.entries) ≤ index_of q) (sym same) subsequent.next.end);
  }
    where
      unread_not : EndsRead wal.workload wal.entries place old.done new.done → ⊥
      unread_not unread = omega (arith, unread, subsequent.next.end, ap (λ (l : List Entry). length (logged_in (wal.entries ++ l))) (append-nil (released wal.workload old.done new.done)))

  -- so it has ended
  ended_whole : HasReadWhole next new → IsRunning model next new → HasReachedEnd next new
  ended_whole whole running = record {
    done = whole.done;
    read = λ p at. subst (λ (l : List Logged). AllByRecursion IsMark l) (sym (drop_all (index_of p) (logged_in next.entries) (whole.read p at))) tt;
    whole = λ p at. not_begun p.begun (λ begun. absurd (omega (arith, (running.reader.placed p at).there begun, whole.read p at)));
  }

  -- the source after it
  pub demo_after : IsTrue new.live → (read : Option (List ℕ)) → new.ended ≡ is_none read → ReadAfter model wal place old new read → IsDemo model next new
  demo_after live None ended subsequent = record { live = live; running = subsequent.next.running; ended = λ is. ended_whole (read_whole subsequent) subsequent.next.running }
  demo_after live (Some bytes) ended subsequent = record { live = live; running = subsequent.next.running; ended = λ is. absurd (let wrong : true ≡ false = sym is ∙ ended in cc) }

  -- no message is left
  lead_none : (s : SourceState) → HasDemoState model old s → IsDemo model next new → ReadNone model next place new → HasState (HasDemoState model) new (λ t. Moved s t × (Unit {0} → HasReadAll s t))
  lead_none s stands of_new none =
      let fair = wal_is_fair none.running.lists.bytes next (wal_of model new next none.running) in
      let grown = history_grows wal (added_by wal old.done new.done []) (commits_added wal old.done new.done) in
      let all : HasReadAll (standing_in wal old.place) (standing_in next (Some place)) =
      read_all (tables_of next) (logged_in next.entries) (confirmed_of next) (standing_in wal old.place) place grown fair (none.running.reader.placed place none.is) none.end in
      let moved : Moved (standing_in wal old.place) (standing_in next (Some place)) = record {
        grows = grown;
        confirmed = confirmed_stays wal (added_by wal old.done new.done []) (commits_added wal old.done new.done);
        reading = ap (λ (r : Reading). Some r) same_reading ∙ ap (option_map (wal_reading wal)) (sym there);
      } in
      leads model old new wal next s (λ a b. Moved a b × (Unit {0} → HasReadAll a b)) of_old of_new stands
      (subst (λ (p : Option ReaderPosition). Moved (standing_in wal old.place) (standing_in next p) × (Unit {0} → HasReadAll (standing_in wal old.place) (standing_in next p))) (sym none.is) (moved, λ u. all))

  -- one message was read
  lead_one : (s : SourceState) (bytes : List ℕ) → HasDemoState model old s → IsDemo model next new → (one : ReadOne model next place new bytes) → HasState (HasDemoState model) new (HasReadOneMore one.message s)
  lead_one s bytes stands of_new one =
      let tables : told_at (tables_of next) (logged_in next.entries) one.next ≡ one.message ∷ told_at (tables_of next) (logged_in next.entries) place =
      subst (λ (ts : List LogTable). told_at ts (logged_in next.entries) one.next ≡ one.message ∷ told_at ts (logged_in next.entries) place) one.running.tables one.told in
      let before : Reading = wal_reading wal place in
      let told : told_at (tables_of next) (logged_in next.entries) one.next ≡ one.message ∷ before.messages =
      tables ∙ ap (λ (r : Reading). one.message ∷ r.messages) same_reading in
      let took : HasReadOneMore one.message (standing_in wal old.place) (standing_in next (Some one.next)) = record {
        grows = history_grows wal (added_by wal old.done new.done []) (commits_added wal old.done new.done);
        confirmed = confirmed_stays wal (added_by wal old.done new.done []) (commits_added wal old.done new.done);
        before = before;
        was = ap (option_map (wal_reading wal)) there;
        is = ap (λ (r : Reading). Some r) (reading_is one.next before one.message one.same told);
      } in
      leads model old new wal next s (HasReadOneMore one.message) of_old of_new stands
      (subst (λ (p : Option ReaderPosition). HasReadOneMore one.message (standing_in wal old.place) (standing_in next p)) (sym one.is) took)
    where
      reading_is : (to : ReaderPosition) (before : Reading) (message : Message) → to.after ≡ before.after → told_at (tables_of next) (logged_in next.entries) to ≡ message ∷ before.messages
          → wal_reading next to ≡ (let r : Reading = record { after = before.after; messages = message ∷ before.messages } in r)
      reading_is to before message after told = cc

  pub lead_read : (s : SourceState) → HasDemoState model old s → (read : Option (List ℕ)) → IsDemo model next new → ReadAfter model wal place old new read
      → MatchOption read (HasState (HasDemoState model) new (λ t. Moved s t × (Unit {0} → HasReadAll s t))) (λ bytes. (m : Message) × Spells bytes m × HasState (HasDemoState model) new (HasReadOneMore m s))
  lead_read s stands None of_new subsequent = lead_none s stands of_new subsequent.next
  lead_read s stands (Some bytes) of_new subsequent = let one = subsequent.next in (one.message, one.spelled, lead_one s bytes stands of_new one)

  pub read_on : (read : Option (List ℕ)) → IsDemo model next new → ReadAfter model wal place old new read → ReadOn model wal old new
  read_on read of_new subsequent = record { place = place; was = there; on = subsequent.on; is = of_new }

-- ---- by its answer

pub read_taken : (result : Result (Option (List ℕ)) SourceError) → IfOk result (λ read. MatchOption read (IsTakenBy [] None None) (λ bytes. IsTakenBy (bytes ∷ []) None None))
read_taken (Ok None) = tt
read_taken (Ok (Some bytes)) = tt
read_taken (Err e) = tt

module _ {D : Type 0} (model : DiskModel D) (old new : Demo D) (result : Result (Option (List ℕ)) SourceError) (adds : AddsRead model old new result) (reads : IsTrue (is_some old.place)) where
  at : (p : ReaderPosition) × (old.place ≡ Some p)
  at = place_there old old.place refl reads

  pub read_took : (s : SourceState) → HasDemoState model old s → IfOk result (λ read. MatchOption read (HasState (HasDemoState model) new (λ t. Moved s t × (Unit {0} → HasReadAll s t))) (λ bytes. (m : Message) × Spells bytes m × HasState (HasDemoState model) new (HasReadOneMore m s)))
  read_took s stands = by result adds.live adds.ended (adds.reads stands.0 at.0 stands.1 at.1)
    where
      by : (r : Result (Option (List ℕ)) SourceError) → OnOk r (IsTrue new.live) → IfOk r (λ read. new.ended ≡ is_none read) → IfOk r (λ read. ReadAfter model stands.0 at.0 old new read)
          → IfOk r (λ read. MatchOption read (HasState (HasDemoState model) new (λ t. Moved s t × (Unit {0} → HasReadAll s t))) (λ bytes. (m : Message) × Spells bytes m × HasState (HasDemoState model) new (HasReadOneMore m s)))
      by (Ok read) live ended subsequent = lead_read model old new stands.0 at.0 stands.1 at.1 s stands read (demo_after model old new stands.0 at.0 stands.1 at.1 live read ended subsequent) subsequent
      by (Err e) live ended subsequent = tt

  pub read_released : OnOk result (ReadsOnTo model old new)
  read_released = by result adds.live adds.ended (λ wal is. adds.reads wal at.0 is at.1)
    where
      by : (r : Result (Option (List ℕ)) SourceError) → OnOk r (IsTrue new.live) → IfOk r (λ read. new.ended ≡ is_none read) → ((wal : Wal) → IsDemo model wal old → IfOk r (λ read. ReadAfter model wal at.0 old new read)) → OnOk r (ReadsOnTo model old new)
      by (Ok read) live ended subsequent = λ wal is. read_on model old new wal at.0 is at.1 read (demo_after model old new wal at.0 is at.1 live read ended (subsequent wal is)) (subsequent wal is)
      by (Err e) live ended subsequent = tt

  pub read_ended : IfOk result (λ read. read ≡ None → (wal : Wal) → IsDemo model wal old → HasReadWhole (with_entries wal (added_by wal old.done new.done [])) new)
  read_ended = by result (λ wal is. adds.reads wal at.0 is at.1)
    where
      by : (r : Result (Option (List ℕ)) SourceError) → ((wal : Wal) → IsDemo model wal old → IfOk r (λ read. ReadAfter model wal at.0 old new read))
          → IfOk r (λ read. read ≡ None → (wal : Wal) → IsDemo model wal old → HasReadWhole (with_entries wal (added_by wal old.done new.done [])) new)
      by (Ok read) subsequent = λ none wal is.
          read_whole model old new wal at.0 is at.1 (subst (λ (o : Option (List ℕ)). ReadAfter model wal at.0 old new o) none (subsequent wal is))
      by (Err e) subsequent = tt

  pub read_left : Leaves (HasDemoState model) (λ source l. MayLeaveWal model source.journal.disk l) old new MayFollow
  read_left s l stands may =
      let wal = stands.0 in
      let here = left_as model new.journal.disk (LeftByRead wal at.0 old.done) l (adds.first wal at.0 stands.1 at.1) may in
      let follow = follows_released wal (added_by wal old.done here.1.0 []) (commits_added wal old.done here.1.0) old.place here.0 here.1.2 in
      let was : s ≡ standing_in wal old.place = stood_for model old wal s stands.1 stands in
      subst (λ (x : CrashState). MayFollow s x) (sym here.2) (subst (λ (x : SourceState). MayFollow x (left_in here.0)) (sym was) follow)

  pub read_some : ((disk : D) (bytes : List ℕ) → model.seen disk ≡ Some bytes → model.may_leave disk bytes) → LeavesSome (HasDemoState model) (λ source l. MayLeaveWal model source.journal.disk l) old new
  read_some may_be_left = leaves_some model old new may_be_left adds.come (λ wal. LeftByRead wal at.0 old.done) (λ wal is. adds.first wal at.0 is at.1)

  pub read_comes : IsTrue old.live → ExtendsDemo model old new
  read_comes was =
      comes_read model old new adds.come was (λ live. live_or model old new (StaysKnown model old.journal.disk new.journal.disk) result adds.known adds.dead live) at.0 at.1 adds.first
      (λ live. live_or model old new (ReadsOnTo model old new) result read_released adds.dead live)
