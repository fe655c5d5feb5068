-- Where a session has to stop with an error: what it has taken has no fault, and what it has followed could be sent.
use Rattle.std.proofs.Common.{◌≡◌, ◌∙◌, ◌⊎◌, inl, inr, ◌+◌, ◌≤◌, ◌<◌, ◌^◌, ℕ, suc, ℤ, Option, Some, None, Result, Err, List, [], ◌∷◌, ◌++◌, length, refl, sym, ap, ap₂, subst, arith}
use Rattle.std.specs.Prelude.{slice_get}
use Rattle.std.specs.List.{AllByRecursion}
use Rattle.dbl_pgmsg.specs.declared.messages.Message.{Message}
use Rattle.dbl_pgmsg.specs.Grammar.{Spells}
use Rattle.dbl_pgmsg.proofs.MessageLaws.{one_message}
use Rattle.dbl_record.specs.declared.record.Record.{Record}
use Rattle.dbl_record.specs.Groups.{group_form}
use Rattle.dbl_model_table.specs.declared.config.Config.{Config}
use Rattle.dbl_model_table.specs.declared.identity.Identity.{Identity}
use Rattle.dbl_model_table.specs.declared.table.TableInfo.{TableInfo}
use Rattle.dbl_model_table.specs.declared.change.Body.{Body}
use Rattle.dbl_model_table.specs.declared.change.Body.TheVariants.{Changes}
use Rattle.dbl_model_table.specs.declared.change.Change.{Change}
use Rattle.dbl_model_table.specs.declared.change.Commit.{Commit}
use Rattle.dbl_capture_work.specs.ModelCommit.declared.txn_error.TxnError.{TxnError}
use Rattle.dbl_capture_work.specs.ModelCommit.Blocks.{AreWithoutFault}
use Rattle.dbl_capture_work.specs.ModelCommit.Stated.{commits_of, ended_commit, list_of, transaction_fault}
use Rattle.dbl_capture_work.specs.ModelEvent.Clashes.{Clash, clash_of}
use Rattle.dbl_capture_work.specs.ModelEvent.EventJson.{envelopes}
use Rattle.dbl_capture_work.proofs.FaithfulItems.{at_all, first_some}
use Rattle.dbl_capture_work.specs.Offset.declared.offset.Offset.{Offset}
use Rattle.dbl_capture_work.specs.Window.Plans.{Chunk}
use Rattle.dbl_capture_work.specs.Follow.Followed.{Following}
use Rattle.dbl_capture_work.specs.Follow.Steps.{clash_by, clash_in, closing, watermark_in, records_by, records_of}
use Rattle.dbl_capture_work.specs.declared.halt.Halt.{Halt}
use Rattle.dbl_capture_work.specs.declared.halt.Halt.TheVariants as halt
use Rattle.dbl_capture_work.specs.declared.report.Ending.{Ending}
use Rattle.dbl_capture_work.specs.declared.work.SessionState.{SessionState}
use Rattle.dbl_capture_work.specs.Causes.{IsLongRecord}
use Rattle.dbl_capture_work.specs.Takes.{IsClashIn, IsTxnHalt, WasTaken}
use Rattle.dbl_capture_work.specs.Works.{AreShort, CouldBeSent, CouldBeSentSoFar, IsWork, open_commit}
use Rattle.dbl_capture_work.proofs.FollowSnapshotSteps.{closing-None}
use Rattle.dbl_capture_laws.specs.Halted.{EndsCommit, IsTxnFault}
use Rattle.dbl_capture_laws.specs.Musts.{HaltsAtRecord, HaltsWith, MustHaltBy}
use Rattle.dbl_capture_laws.specs.Underway.{IsNewestHalt, IsOfFirst, IsSentNewest, NewestMessagesHalt, TakenMessagesAskNothing}
use Rattle.dbl_capture_work.specs.ModelCommit.Pieces.{changes_so_far}
use Rattle.dbl_capture_laws.proofs.OpenCommits.{AddsChanges, EndsChanges, IsShortSoFar, clash_so_far, clear_before, ends_open, goes_on, none_after, none_clash, none_known, records_so_far, short_before}
use Rattle.dbl_capture_laws.proofs.Halting.{accepted_stored, identity_stored, infos_stored}

-- ---- lists

abbrev head_of : Message → List Message → Message
head_of m [] = m
head_of m (n ∷ ns) = n

abbrev tail_of : List Message → List Message
tail_of [] = []
tail_of (n ∷ ns) = ns

same_head : (m n : Message) (ms ns : List Message) → m ∷ ms ≡ n ∷ ns → m ≡ n
same_head m n ms ns is = ap (head_of m) is

same_tail : (m n : Message) (ms ns : List Message) → m ∷ ms ≡ n ∷ ns → ms ≡ ns
same_tail m n ms ns is = ap tail_of is

last_of : (P : Commit → Type 0) (xs : List Commit) (x : Commit) → AllByRecursion P (xs ++ x ∷ []) → P x
last_of P [] x all = all.0
last_of P (y ∷ xs) x all = last_of P xs x all.1

not_long : (n : ℕ) → n ≤ 2 ^ 28 → 2 ^ 28 < n → ⊥
not_long n le lt = omega (arith, le, lt)

not_two : (n : ℕ) → suc (suc n) ≤ 1 → ⊥
not_two n le = omega (arith, le)

some_none : {X : Type 0} (x : X) → Some x ≡ None → ⊥
some_none x is = cc

-- ---- a commit of changes closes no window

own_clash : (f : Following) (commit : Commit) (changes : List Change) → commit.body ≡ Changes changes → clash_by f commit ≡ clash_of f.identity f.infos commit
own_clash f commit changes body =
    ap (λ (b : Body). clash_in f (closing f.window (watermark_in b)) commit) body ∙ ap (λ (o : Option Chunk). clash_in f o commit) (closing-None f.window)

own_records : (f : Following) (commit : Commit) (changes : List Change) (now : ℤ) → commit.body ≡ Changes changes → records_by f commit now ≡ envelopes f.identity f.infos commit now
own_records f commit changes now body =
    ap (λ (b : Body). records_of f (closing f.window (watermark_in b)) commit now) body ∙ ap (λ (o : Option Chunk). records_of f o commit now) (closing-None f.window)

module _ (config : Config) (now : ℤ) (held : Option Offset) (first stored : Offset) (work : SessionState) (ms : List Message) (o : IsOfFirst config now held first stored work) (is : IsWork first.lsn ms work)
    (so_far : CouldBeSentSoFar work ms) where
  infos : work.offset.infos ≡ stored.infos
  infos = infos_stored config now held first stored work o

  identity : work.offset.identity ≡ stored.identity
  identity = identity_stored config now held first stored work o

  abbrev Sendable : Commit → Type 0
  Sendable commit = CouldBeSent stored.identity stored.infos now commit commit.body

  sent : AllByRecursion Sendable (commits_of stored.infos ms)
  sent =
      subst (λ (k : ℤ). AllByRecursion (λ commit. CouldBeSent stored.identity stored.infos k commit commit.body) (commits_of stored.infos ms)) o.time
      (subst (λ (l : List TableInfo). AllByRecursion (λ commit. CouldBeSent stored.identity l work.now_ms commit commit.body) (commits_of l ms)) infos
      (subst (λ (i : Identity). AllByRecursion (λ commit. CouldBeSent i work.offset.infos work.now_ms commit commit.body) (commits_of work.offset.infos ms)) identity is.sent))

  -- ---- all that was read is taken

  newest_sent : (commit : Commit) → EndsCommit stored.infos (record { after = first.lsn; messages = ms }) commit → Sendable commit
  newest_sent commit e =
      last_of Sendable (commits_of stored.infos e.earlier) commit
      (subst (λ (x : Option Commit). AllByRecursion Sendable (commits_of stored.infos e.earlier ++ list_of x)) e.ends
      (subst (λ (l : List Message). AllByRecursion Sendable (commits_of stored.infos l)) e.newest sent))

  -- ---- the open transaction

  abbrev Clear : List Message → Type 0
  Clear l = clash_of stored.identity stored.infos (open_commit stored.infos l) ≡ None

  abbrev Short : List Message → Type 0
  Short l = IsShortSoFar stored.identity stored.infos now l

  accepted : AreWithoutFault stored.infos first.lsn ms
  accepted = accepted_stored config now held first stored work o ms is.accepted

  clear_now : Clear ms
  clear_now =
      subst (λ (i : Identity). clash_of i stored.infos (open_commit stored.infos ms) ≡ None) identity
      (subst (λ (l : List TableInfo). clash_of work.offset.identity l (open_commit l ms) ≡ None) infos so_far.clear)

  short_now : Short ms
  short_now =
      subst (λ (n : ℤ). IsShortSoFar stored.identity stored.infos n ms) o.time
      (subst (λ (i : Identity). IsShortSoFar i stored.infos work.now_ms ms) identity (subst (λ (l : List TableInfo). IsShortSoFar work.offset.identity l work.now_ms ms) infos so_far.short))

  -- before the newest message that was taken
  module _ (x : Message) (earlier : List Message) (same : ms ≡ x ∷ earlier) where
    valid : AreWithoutFault stored.infos first.lsn (x ∷ earlier)
    valid = subst (AreWithoutFault stored.infos first.lsn) same accepted

    ended_sent : (e : EndsChanges stored.infos x earlier) → CouldBeSent stored.identity stored.infos now e.commit (Changes e.changes)
    ended_sent e =
        subst (CouldBeSent stored.identity stored.infos now e.commit) e.body
        (newest_sent e.commit (record { message = x; earlier = earlier; newest = same; accepted = valid; ends = e.ends }))

    clear_earlier : Clear earlier
    clear_earlier = by (goes_on stored.infos first.lsn x earlier valid.0 valid.1)
      where
        by : (changes_so_far stored.infos earlier ≡ []) ⊎ (AddsChanges stored.infos x earlier ⊎ EndsChanges stored.infos x earlier) → Clear earlier
        by (inl none) = none_clash stored.identity stored.infos earlier none
        by (inr (inl a)) = clear_before stored.identity stored.infos x earlier a.more now a.begun a.adds (subst Clear same clear_now)
        by (inr (inr e)) = sym (clash_so_far stored.infos earlier e.commit (ends_open stored.infos first.lsn x earlier e.commit valid.0 e.ends) e.changes e.body stored.identity) ∙ (ended_sent e).0

    short_earlier : Short earlier
    short_earlier = by (goes_on stored.infos first.lsn x earlier valid.0 valid.1)
      where
        by : (changes_so_far stored.infos earlier ≡ []) ⊎ (AddsChanges stored.infos x earlier ⊎ EndsChanges stored.infos x earlier) → Short earlier
        by (inl none) = λ place item at lt. absurd (none_known stored.identity stored.infos earlier now none place lt)
        by (inr (inl a)) = short_before stored.identity stored.infos x earlier a.more now a.begun a.adds (subst Short same short_now)
        by (inr (inr e)) = λ place item at lt.
            at_all (λ (r : Record). length (group_form (r ∷ [])) ≤ 2 ^ 28) (envelopes stored.identity stored.infos (open_commit stored.infos earlier) now) place item
            (subst AreShort (records_so_far stored.infos earlier e.commit (ends_open stored.infos first.lsn x earlier e.commit valid.0 e.ends) e.changes e.body stored.identity now) (ended_sent e).1) at

  clear_of : (newest earlier : List Message) → length newest ≤ 1 → ms ≡ newest ++ earlier → Clear earlier
  clear_of [] earlier le same = subst Clear same clear_now
  clear_of (x ∷ []) earlier le same = clear_earlier x earlier same
  clear_of (x ∷ (y ∷ more)) earlier le same = absurd (not_two (length more) le)

  short_of : (newest earlier : List Message) → length newest ≤ 1 → ms ≡ newest ++ earlier → Short earlier
  short_of [] earlier le same = subst Short same short_now
  short_of (x ∷ []) earlier le same = short_earlier x earlier same
  short_of (x ∷ (y ∷ more)) earlier le same = absurd (not_two (length more) le)

  pub none_asked : (result : Result Ending Halt) → MustHaltBy now stored (record { after = first.lsn; messages = ms }) result
  none_asked result = record {
    txn = λ number error f. absurd (some_none error (sym f.fault ∙ (subst (AreWithoutFault stored.infos first.lsn) f.newest (accepted_stored config now held first stored work o ms is.accepted)).0));
    clash = λ commit changes c e body found. absurd (some_none c (sym found ∙ (subst (CouldBeSent stored.identity stored.infos now commit) body (newest_sent commit e)).0));
    met = λ newest earlier c le same valid found. absurd (some_none c (sym found ∙ clear_of newest earlier le same));
    long_so_far = λ newest earlier place item le same valid clear at lt long. absurd (not_long (length (group_form (item ∷ []))) (short_of newest earlier le same place item at lt) long);
    long = λ commit changes place item e body clear at long. absurd (
        not_long (length (group_form (item ∷ [])))
        (at_all (λ (r : Record). length (group_form (r ∷ [])) ≤ 2 ^ 28) (envelopes stored.identity stored.infos commit now) place item (subst (CouldBeSent stored.identity stored.infos now commit) body (newest_sent commit e)).1 at)
        long);
  }

  -- ---- all but the newest message

  module _ (m : Message) (bytes : List ℕ) (number : ℕ) (h : Halt) (spells : Spells bytes m) (many : number ≡ length (m ∷ ms)) where
    abbrev Cause : Type 0
    Cause = (h ≡ halt.Memory) ⊎ (IsNewestHalt number first.lsn ms bytes work h
        ⊎ ((h ≡ halt.Sink) × IsSentNewest first.lsn ms bytes work))

    -- its fault, as the stored offset has the tables
    fault_at : (other : Message) (earlier : List Message) → m ∷ ms ≡ other ∷ earlier → (one : Message) → Spells bytes one → transaction_fault work.offset.infos first.lsn one ms ≡ transaction_fault stored.infos first.lsn other earlier
    fault_at other earlier newest one other_spells =
        ap (λ (l : List TableInfo). transaction_fault l first.lsn one ms) infos
        ∙ ap₂ (λ (x : Message) (l : List Message). transaction_fault stored.infos first.lsn x l) (one_message bytes one m other_spells spells ∙ same_head m other ms earlier newest) (same_tail m other ms earlier newest)

    ended_at : (other : Message) (earlier : List Message) → m ∷ ms ≡ other ∷ earlier → (one : Message) → Spells bytes one → ended_commit work.offset.infos one ms ≡ ended_commit stored.infos other earlier
    ended_at other earlier newest one other_spells =
        ap (λ (l : List TableInfo). ended_commit l one ms) infos
        ∙ ap₂ (λ (x : Message) (l : List Message). ended_commit stored.infos x l) (one_message bytes one m other_spells spells ∙ same_head m other ms earlier newest) (same_tail m other ms earlier newest)

    -- a part of an invalid transaction
    txn_asked : Cause → (n : ℕ) (error : TxnError) → IsTxnFault stored.infos (record { after = first.lsn; messages = m ∷ ms }) n error → HaltsWith (halt.Txn n error) (Err h)
    txn_asked (inl memory) n error f = inr (ap (λ (x : Halt). Err x) memory)
    txn_asked (inr (inl (inl txn))) n error f =
        let same : Some txn.error ≡ Some error = sym txn.fault ∙ (fault_at f.message f.earlier f.newest txn.message txn.spells ∙ f.fault) in
        inl (ap (λ (x : Halt). Err x) (txn.is ∙ ap₂ (λ (k : ℕ) (e : TxnError). halt.Txn k e) (many ∙ sym f.number_is) (first_some txn.error error same)))
    txn_asked (inr (inl (inr (inl part)))) n error f = absurd (some_none error (sym f.fault ∙ (sym (fault_at f.message f.earlier f.newest part.taken.message part.taken.spells) ∙ part.taken.clean)))
    txn_asked (inr (inl (inr (inr other)))) n error f = absurd (some_none error (sym f.fault ∙ (sym (fault_at f.message f.earlier f.newest other.2.message other.2.spells) ∙ other.2.clean)))
    txn_asked (inr (inr sink)) n error f = elim sink.1 [
      | inl sent ↦ absurd (some_none error (sym f.fault ∙ (sym (fault_at f.message f.earlier f.newest sent.2.message sent.2.spells) ∙ sent.2.clean)))
      | inr sent ↦ absurd (some_none error (sym f.fault ∙ (sym (fault_at f.message f.earlier f.newest sent.1.message sent.1.spells) ∙ sent.1.clean)))
    ]

    -- the message that the bytes encode, as the stored offset has the tables
    one_taken : (next : SessionState) (o : Option Commit) → (w : WasTaken first.lsn ms bytes work next o) → w.message ≡ m
    one_taken next o w = one_message bytes w.message m w.spells spells

    clean_of : (next : SessionState) (o : Option Commit) → WasTaken first.lsn ms bytes work next o → transaction_fault stored.infos first.lsn m ms ≡ None
    clean_of next o w = sym (fault_at m ms refl w.message w.spells) ∙ w.clean

    closed_by : (next : SessionState) (commit : Commit) → WasTaken first.lsn ms bytes work next (Some commit) → changes_so_far stored.infos (m ∷ ms) ≡ []
    closed_by next commit w = none_after stored.infos m ms commit (sym (ended_at m ms refl w.message w.spells) ∙ sym w.commit_is)

    open_clash : (next : SessionState) (w : WasTaken first.lsn ms bytes work next None) → clash_of work.offset.identity work.offset.infos (open_commit work.offset.infos (w.message ∷ ms)) ≡ clash_of stored.identity stored.infos (open_commit stored.infos (m ∷ ms))
    open_clash next w =
        ap₂ (λ (i : Identity) (l : List TableInfo). clash_of i l (open_commit l (w.message ∷ ms))) identity infos
        ∙ ap (λ (x : Message). clash_of stored.identity stored.infos (open_commit stored.infos (x ∷ ms))) (one_taken next None w)

    open_records : (next : SessionState) (w : WasTaken first.lsn ms bytes work next None)
        → envelopes work.offset.identity work.offset.infos (open_commit work.offset.infos (w.message ∷ ms)) work.now_ms ≡ envelopes stored.identity stored.infos (open_commit stored.infos (m ∷ ms)) now
    open_records next w =
        ap₂ (λ (i : Identity) (l : List TableInfo). envelopes i l (open_commit l (w.message ∷ ms)) work.now_ms) identity infos
        ∙ (ap (λ (x : Message). envelopes stored.identity stored.infos (open_commit stored.infos (x ∷ ms)) work.now_ms) (one_taken next None w)
        ∙ ap (λ (k : ℤ). envelopes stored.identity stored.infos (open_commit stored.infos (m ∷ ms)) k) o.time)

    -- the open transaction has a value equal to the placeholder
    met_now : Cause → AreWithoutFault stored.infos first.lsn (m ∷ ms) → (c : Clash) → clash_of stored.identity stored.infos (open_commit stored.infos (m ∷ ms)) ≡ Some c → HaltsWith (halt.Clash c.table c.column) (Err h)
    met_now (inl memory) valid c found = inr (ap (λ (x : Halt). Err x) memory)
    met_now (inr (inl (inl txn))) valid c found = absurd (some_none txn.error (sym txn.fault ∙ (fault_at m ms refl txn.message txn.spells ∙ valid.0)))
    met_now (inr (inl (inr (inl part)))) valid c found = elim part.is [
      | inl clash ↦ inl (ap (λ (x : Halt). Err x) (subst (λ (x : Option Clash). IsClashIn x h) (open_clash part.next part.taken ∙ found) clash))
      | inr long ↦ absurd (some_none c (sym found ∙ (sym (open_clash part.next part.taken) ∙ long.0)))
    ]
    met_now (inr (inl (inr (inr sent)))) valid c found = absurd (some_none c (sym found ∙ none_clash stored.identity stored.infos (m ∷ ms) (closed_by sent.0 sent.1 sent.2)))
    met_now (inr (inr sink)) valid c found = elim sink.1 [
      | inl sent ↦ absurd (some_none c (sym found ∙ none_clash stored.identity stored.infos (m ∷ ms) (closed_by sent.0 sent.1 sent.2)))
      | inr sent ↦ absurd (some_none c (sym found ∙ (sym (open_clash sent.0 sent.1) ∙ sent.2)))
    ]

    -- one of its records is too long
    long_known : Cause → AreWithoutFault stored.infos first.lsn (m ∷ ms) → clash_of stored.identity stored.infos (open_commit stored.infos (m ∷ ms)) ≡ None
        → (place : ℕ) → place + 2 < length (envelopes stored.identity stored.infos (open_commit stored.infos (m ∷ ms)) now)
        → HaltsAtRecord (envelopes stored.identity stored.infos (open_commit stored.infos (m ∷ ms)) now) (Err h)
    long_known (inl memory) valid clear place lt = (h, refl, inl memory)
    long_known (inr (inl (inl txn))) valid clear place lt = absurd (some_none txn.error (sym txn.fault ∙ (fault_at m ms refl txn.message txn.spells ∙ valid.0)))
    long_known (inr (inl (inr (inl part)))) valid clear place lt = elim part.is [
      | inl clash ↦ absurd (subst (λ (x : Option Clash). IsClashIn x h) (open_clash part.next part.taken ∙ clear) clash)
      | inr long ↦ (h, refl, inr (inr (subst (λ (l : List Record). IsLongRecord l h) (open_records part.next part.taken) long.1.long)))
    ]
    long_known (inr (inl (inr (inr sent)))) valid clear place lt = absurd (none_known stored.identity stored.infos (m ∷ ms) now (closed_by sent.0 sent.1 sent.2) place lt)
    long_known (inr (inr sink)) valid clear place lt = (h, refl, inr (inl sink.0))

    met_asked : Cause → (newest earlier : List Message) (c : Clash) → length newest ≤ 1 → m ∷ ms ≡ newest ++ earlier → AreWithoutFault stored.infos first.lsn earlier
        → clash_of stored.identity stored.infos (open_commit stored.infos earlier) ≡ Some c → HaltsWith (halt.Clash c.table c.column) (Err h)
    met_asked cause [] earlier c le same valid found =
        met_now cause (subst (AreWithoutFault stored.infos first.lsn) (sym same) valid) c (ap (λ (l : List Message). clash_of stored.identity stored.infos (open_commit stored.infos l)) same ∙ found)
    met_asked cause (x ∷ []) earlier c le same valid found =
        absurd (some_none c (sym found ∙ (ap (λ (l : List Message). clash_of stored.identity stored.infos (open_commit stored.infos l)) (sym (same_tail m x ms earlier same)) ∙ clear_now)))
    met_asked cause (x ∷ (y ∷ more)) earlier c le same valid found = absurd (not_two (length more) le)

    long_met : Cause → (newest earlier : List Message) (place : ℕ) (item : Record) → length newest ≤ 1 → m ∷ ms ≡ newest ++ earlier → AreWithoutFault stored.infos first.lsn earlier
        → clash_of stored.identity stored.infos (open_commit stored.infos earlier) ≡ None → slice_get (envelopes stored.identity stored.infos (open_commit stored.infos earlier) now) place ≡ Some item
        → place + 2 < length (envelopes stored.identity stored.infos (open_commit stored.infos earlier) now) → 2 ^ 28 < length (group_form (item ∷ []))
        → HaltsAtRecord (envelopes stored.identity stored.infos (open_commit stored.infos earlier) now) (Err h)
    long_met cause [] earlier place item le same valid clear at lt long =
        subst (λ (l : List Message). HaltsAtRecord (envelopes stored.identity stored.infos (open_commit stored.infos l) now) (Err h)) same
        (long_known cause (subst (AreWithoutFault stored.infos first.lsn) (sym same) valid) (ap (λ (l : List Message). clash_of stored.identity stored.infos (open_commit stored.infos l)) same ∙ clear) place
        (subst (λ (l : List Message). place + 2 < length (envelopes stored.identity stored.infos (open_commit stored.infos l) now)) (sym same) lt))
    long_met cause (x ∷ []) earlier place item le same valid clear at lt long =
        absurd (not_long (length (group_form (item ∷ []))) (subst Short (same_tail m x ms earlier same) short_now place item at lt) long)
    long_met cause (x ∷ (y ∷ more)) earlier place item le same valid clear at lt long = absurd (not_two (length more) le)

    -- a commit of changes
    module _ (commit : Commit) (changes : List Change) (e : EndsCommit stored.infos (record { after = first.lsn; messages = m ∷ ms }) commit) (body : commit.body ≡ Changes changes) where
      no_fault : (txn : IsTxnHalt number first.lsn ms bytes work h) → ⊥
      no_fault txn = some_none txn.error (sym txn.fault ∙ (fault_at e.message e.earlier e.newest txn.message txn.spells ∙ e.accepted.0))

      same_commit : (next : SessionState) (other : Commit) → WasTaken first.lsn ms bytes work next (Some other) → other ≡ commit
      same_commit next other w = first_some other commit (w.commit_is ∙ (ended_at e.message e.earlier e.newest w.message w.spells ∙ e.ends))

      -- the message ends a commit
      no_end : (next : SessionState) → WasTaken first.lsn ms bytes work next None → ⊥
      no_end next w = some_none commit (sym e.ends ∙ (sym (ended_at e.message e.earlier e.newest w.message w.spells) ∙ sym w.commit_is))

      clash_there : (next : SessionState) (other : Commit) → WasTaken first.lsn ms bytes work next (Some other) → clash_by next.follower other ≡ clash_of stored.identity stored.infos commit
      clash_there next other w =
          ap (λ (f : Following). clash_by f other) (ap (λ (x : SessionState). x.follower) w.same)
          ∙ (ap (λ (x : Commit). clash_by work.follower x) (same_commit next other w)
          ∙ (own_clash work.follower commit changes body ∙ ap₂ (λ (i : Identity) (l : List TableInfo). clash_of i l commit) (is.identity ∙ identity) (is.infos ∙ infos)))

      records_there : (next : SessionState) (other : Commit) → WasTaken first.lsn ms bytes work next (Some other) → records_by next.follower other next.now_ms ≡ envelopes stored.identity stored.infos commit now
      records_there next other w =
          ap (λ (x : SessionState). records_by x.follower other x.now_ms) w.same
          ∙ (ap (λ (x : Commit). records_by work.follower x work.now_ms) (same_commit next other w)
          ∙ (own_records work.follower commit changes work.now_ms body
          ∙ (ap₂ (λ (i : Identity) (l : List TableInfo). envelopes i l commit work.now_ms) (is.identity ∙ identity) (is.infos ∙ infos) ∙ ap (λ (k : ℤ). envelopes stored.identity stored.infos commit k) o.time)))

      -- that has a value equal to the placeholder
      clash_asked : Cause → (c : Clash) → clash_of stored.identity stored.infos commit ≡ Some c → HaltsWith (halt.Clash c.table c.column) (Err h)
      clash_asked (inl memory) c found = inr (ap (λ (x : Halt). Err x) memory)
      clash_asked (inr (inl (inl txn))) c found = absurd (no_fault txn)
      clash_asked (inr (inl (inr (inl part)))) c found = absurd (no_end part.next part.taken)
      clash_asked (inr (inl (inr (inr other)))) c found = elim other.3 [
        | inl clash ↦ inl (ap (λ (x : Halt). Err x) (subst (λ (x : Option Clash). IsClashIn x h) (clash_there other.0 other.1 other.2 ∙ found) clash))
        | inr long ↦ absurd (some_none c (sym found ∙ (sym (clash_there other.0 other.1 other.2) ∙ long.0)))
      ]
      clash_asked (inr (inr sink)) c found = elim sink.1 [
        | inl sent ↦ absurd (some_none c (sym found ∙ (sym (clash_there sent.0 sent.1 sent.2) ∙ sent.3)))
        | inr sent ↦ absurd (no_end sent.0 sent.1)
      ]

      -- one of whose records is too long
      long_asked : Cause → clash_of stored.identity stored.infos commit ≡ None → HaltsAtRecord (envelopes stored.identity stored.infos commit now) (Err h)
      long_asked (inl memory) clear = (h, refl, inl memory)
      long_asked (inr (inl (inl txn))) clear = absurd (no_fault txn)
      long_asked (inr (inl (inr (inl part)))) clear = absurd (no_end part.next part.taken)
      long_asked (inr (inl (inr (inr other)))) clear = elim other.3 [
        | inl clash ↦ absurd (subst (λ (x : Option Clash). IsClashIn x h) (clash_there other.0 other.1 other.2 ∙ clear) clash)
        | inr long ↦ (h, refl, inr (inr (subst (λ (l : List Record). IsLongRecord l h) (records_there other.0 other.1 other.2) long.1)))
      ]
      long_asked (inr (inr sink)) clear = (h, refl, inr (inl sink.0))

    pub newest_asked : Cause → MustHaltBy now stored (record { after = first.lsn; messages = m ∷ ms }) (Err h)
    newest_asked cause = record {
      txn = λ n error f. txn_asked cause n error f;
      clash = λ commit changes c e body found. clash_asked commit changes e body cause c found;
      met = λ newest earlier c le same valid found. met_asked cause newest earlier c le same valid found;
      long_so_far = λ newest earlier place item le same valid clear at lt long. long_met cause newest earlier place item le same valid clear at lt long;
      long = λ commit changes place item e body clear at long. long_asked commit changes e body cause clear;
    }

pub taken_messages_ask_nothing : TakenMessagesAskNothing
taken_messages_ask_nothing config now held first stored work ms result o is so_far = none_asked config now held first stored work ms o is so_far result

pub newest_messages_halt : NewestMessagesHalt
newest_messages_halt config now held first stored work ms m bytes number h o is spells many so_far cause = newest_asked config now held first stored work ms o is so_far m bytes number h spells many cause
