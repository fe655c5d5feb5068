-- What a session tells where it stops with an error or ends, by the messages that it has taken.
use Rattle.std.proofs.Common.{◌≡◌, ◌∙◌, ◌⊎◌, inl, inr, ◌+◌, ◌≤◌, ℕ, ℤ, suc, Option, Some, None, Result, Ok, Err, List, [], ◌∷◌, ◌++◌, length, refl, sym, ap, ap₂, subst, arith}
use Rattle.dbl_base.specs.declared.lsn.Lsn.{Lsn}
use Rattle.dbl_pgmsg.specs.declared.messages.Message.{Message}
use Rattle.dbl_pgmsg.specs.Grammar.{Spells}
use Rattle.dbl_pgmsg.proofs.FaultLaws.{not_both}
use Rattle.dbl_pgmsg.proofs.MessageLaws.{one_message}
use Rattle.dbl_model_table.specs.declared.config.Config.{Config}
use Rattle.dbl_model_table.specs.declared.identity.Identity.{Identity}
use Rattle.dbl_model_table.specs.declared.table.RawTable.{RawTable}
use Rattle.dbl_model_table.specs.declared.table.TableInfo.{TableInfo}
use Rattle.dbl_model_table.specs.declared.table.TableName.{TableName}
use Rattle.dbl_capture_work.specs.ModelEvent.Clashes.{Clash, clash_of}
use Rattle.dbl_capture_work.specs.ModelCommit.Pieces.{changes_so_far}
use Rattle.dbl_capture_work.specs.Follow.Steps.{clash_by}
use Rattle.dbl_capture_work.specs.SourceModel.Standings.{Reading, SourceState}
use Rattle.dbl_capture_work.specs.SourceModel.Trace.{Trace, IsTakenAnew, IsTakenBy}
use Rattle.dbl_capture_work.proofs.FaithfulItems.{first_some}
use Rattle.dbl_capture_work.specs.Offset.declared.offset.Offset.{Offset}
use Rattle.dbl_capture_work.specs.declared.halt.Halt.{Halt}
use Rattle.dbl_capture_work.specs.declared.report.Ending.{Ending}
use Rattle.dbl_capture_work.specs.declared.report.Report.{Report}
use Rattle.dbl_capture_work.specs.declared.work.SessionState.{SessionState}
use Rattle.dbl_capture_work.specs.Begins.{IsExhausted, IsFaultOf}
use Rattle.dbl_capture_work.specs.Takes.{IsClashIn}
use Rattle.dbl_capture_work.specs.Works.{next_offset_of, open_commit}
use Rattle.dbl_capture_laws.specs.Reported.{AreSpelled, Course, HasReadMessages, HasSettled, HasStood, HasStopped, HasTakenMessages, BeginsAfter, IsFollowed, IsLeftOut, StandsAfter, StoodAtLast, TellsSoMany, course_from, course_of}
use Rattle.dbl_capture_laws.specs.Musts.{MustHaltBy, MustHaltStood, MustHaltTold}
use Rattle.dbl_capture_laws.specs.Underway.{IsBeginHalt, IsNewestHalt, IsOfFirst, IsOpenHalt}
use Rattle.dbl_capture_laws.specs.Carried.{HasReadSinceStart, Beginning, EndsAreStood, EndsAreTold, HaltsAtMessagesAreStood, HaltsAtMessagesAreTold, HaltsBetweenAreStood, HaltsBetweenAreTold, HaltsUnreadAreStood, HaltsUnreadAreTold, HasHaltedStood, HasHaltedTold, IsReadUpTo, IsNewestCause, StandsAt}
use Rattle.dbl_capture_laws.proofs.Reported.{ends_stand_at_last, halts_at_messages, halts_between, read_is, same_many, sources_settle, sources_stood_so, stood_are_followed, stops_are_followed, taken_more}
use Rattle.dbl_capture_laws.proofs.Halting.{after_stored}
use Rattle.dbl_capture_laws.proofs.Musts.{newest_messages_halt, taken_messages_ask_nothing}
use Rattle.dbl_capture_laws.proofs.Carried.{of_next}
use Rattle.dbl_capture_laws.proofs.OpenCommits.{none_known}

-- ---- one reading

-- bytes spell one list of messages
same_spelled : (read : List (List ℕ)) (ms ns : List Message) → AreSpelled read ms → AreSpelled read ns → ms ≡ ns
same_spelled [] [] [] one two = refl
same_spelled [] [] (n ∷ ns) one two = absurd two
same_spelled [] (m ∷ ms) ns one two = absurd one
same_spelled (x ∷ read) [] ns one two = absurd one
same_spelled (x ∷ read) (m ∷ ms) [] one two = absurd two
same_spelled (x ∷ read) (m ∷ ms) (n ∷ ns) one two =
    ap₂ (λ (a : Message) (l : List Message). a ∷ l) (one_message x m n one.0 two.0) (same_spelled read ms ns one.1 two.1)

-- and reading began after one LSN
same_since : (held : Option Offset) (o : Offset) (i j : List TableInfo) (a c : Lsn) → BeginsAfter held (Some o) i a → BeginsAfter held (Some o) j c → a ≡ c
same_since None o i j a c one two = one.1 ∙ sym two.1
same_since (Some old) o i j a c one two = one.1 ∙ sym two.1

abbrev reading_at : Lsn → List Message → Reading
reading_at after ms = record { after = after; messages = ms }

module _ (b : Beginning) (o : Offset) (work : SessionState) (of : IsOfFirst b.config b.now b.held b.first o work) where
  began : BeginsAfter b.held (Some o) o.infos b.first.lsn
  began = after_stored b.config b.now b.held b.first o work of

  -- what these messages require is required of each reading that is told
  pub told_one : (report : Report) (t : Trace) (read : List (List ℕ)) (ms : List Message) (result : Result Ending Halt) → t.read ≡ read → AreSpelled read ms
      → MustHaltBy b.now o (reading_at b.first.lsn ms) result → MustHaltTold b.config b.now b.held (Some o) report t result
  told_one report t read ms result is spelled must reading was =
      subst (λ (x : Offset). MustHaltBy b.now x reading result) (first_some o was.stored.offset was.stored.is)
      (subst (λ (r : Reading). MustHaltBy b.now o r result) reading_one must)
    where
      messages_one : ms ≡ reading.messages
      messages_one =
          same_spelled read ms reading.messages spelled
          (subst (λ (l : List (List ℕ)). AreSpelled l reading.messages) (sym (was.tells t refl) ∙ is) was.spelled)

      reading_one : reading_at b.first.lsn ms ≡ reading
      reading_one =
          ap₂ (λ (a : Lsn) (l : List Message). reading_at a l)
          (same_since b.held o o.infos was.stored.offset.infos b.first.lsn reading.after began was.begins_after) messages_one

  -- and of the one after which a source stands
  pub stood_one : (report : Report) (t : SourceState) (ms : List Message) (result : Result Ending Halt) → StandsAt b ms t
      → MustHaltBy b.now o (reading_at b.first.lsn ms) result → MustHaltStood b.config b.now b.held (Some o) report t result
  stood_one report t ms result at must reading was =
      subst (λ (x : Offset). MustHaltBy b.now x reading result) (first_some o was.stored.offset was.stored.is)
      (subst (λ (r : Reading). MustHaltBy b.now o r result) (first_some (reading_at b.first.lsn ms) reading (sym at ∙ was.is)) must)

-- it follows as it did at first
abbrev course_with : Identity → List TableInfo → ℤ → Lsn → Course
course_with identity infos now after = record { identity = identity; infos = infos; now = now; after = after }

course_is : (b : Beginning) (o : Offset) (work : SessionState) → IsOfFirst b.config b.now b.held b.first o work → course_of b.first.lsn work ≡ course_from b.first b.now
course_is b o work of =
    ap (λ (x : Offset). course_with x.identity x.infos work.now_ms b.first.lsn) of.placed
    ∙ ap (λ (k : ℤ). course_with b.first.identity b.first.infos k b.first.lsn) of.time

abbrev pub has_taken : (b : Beginning) (ms : List Message) (stored : Option Offset) (work : SessionState) (report : Report) (found told : Option Trace) → IsReadUpTo b ms stored work report → (a : HasReadSinceStart found told ms)
    → HasTakenMessages b.first.lsn b.first.end_lsn a.begun told report work
has_taken b ms stored work report found told is a = record {
  read = a.read;
  messages = ms;
  many = sym (same_many a.read ms a.spelled) ∙ is.many;
  taken = a.taken;
  spelled = a.spelled;
  is = is.is;
  end_is = is.end_is;
  followed = is.followed;
}

abbrev pub stands_since : (b : Beginning) (ms : List Message) (stored : Option Offset) (work : SessionState) (report : Report) (t : SourceState) → IsReadUpTo b ms stored work report → StandsAt b ms t
    → StandsAfter b.first.lsn b.first.end_lsn report work t
stands_since b ms stored work report t is at = record {
  messages = ms;
  is = is.is;
  reading_is = at;
  many = is.many;
  end_is = is.end_is;
  followed = is.followed;
}

-- where such a source stood
abbrev stood_at : Beginning → List Message → SourceState → SourceState
stood_at b ms t = record { history = t.history; confirmed = t.confirmed; reading = Some (reading_at b.first.lsn ms) }

-- ---- it stops with an error between two messages

plus_none : (n m : ℕ) → n ≡ m → n ≡ m + 0
plus_none n m is = omega (arith, is)

module _ (b : Beginning) (ms : List Message) (stored later : Option Offset) (work : SessionState) (before report : Report) (h : Halt) (is : IsReadUpTo b ms stored work before) (none : IsLeftOut h 0)
    (messages : report.messages ≡ before.messages) (commits : report.commits ≡ before.commits) (kept : (later ≡ stored) ⊎ (later ≡ Some (next_offset_of work))) where
  abbrev StillOf : Offset → Type 0
  StillOf o = IsOfFirst b.config b.now b.held b.first o work

  -- whichever offset is stored by then
  between_told : (found old new : Option Trace) → HasReadSinceStart found old ms → IsTakenBy [] old new → HasHaltedTold b.config b.now b.held later found new report h
  between_told found old new told more = by kept
    where
      stopped : HasStopped (course_from b.first b.now) told.begun new report h
      stopped =
          subst (λ (c : Course). HasStopped c told.begun new report h) (course_is b is.offset work is.of)
          (halts_between b.first.lsn b.first.end_lsn told.begun old new before report work h (has_taken b ms stored work before found old is told) more none messages commits)

      at : (o : Offset) → StillOf o → HasHaltedTold b.config b.now b.held (Some o) found new report h
      at o of =
          let both = stops_are_followed b.config b.now found told.begun new b.first o b.held report h of.for_config of.of told.begun_unread stopped in
          record {
            followed = both.0;
            read = inl both.1;
            must = λ t tells. told_one b o work of report t told.read ms (Err h)
                (read_is told.read found told.begun new t tells told.begun_unread (taken_more [] told.read told.begun old new told.taken more told.read refl)) told.spelled
                (taken_messages_ask_nothing b.config b.now b.held b.first o work ms (Err h) of is.is is.so_far);
          }

      by : (later ≡ stored) ⊎ (later ≡ Some (next_offset_of work)) → HasHaltedTold b.config b.now b.held later found new report h
      by (inl same) = subst (λ (x : Option Offset). HasHaltedTold b.config b.now b.held x found new report h) (sym (same ∙ is.stored_is)) (at is.offset is.of)
      by (inr next) = subst (λ (x : Option Offset). HasHaltedTold b.config b.now b.held x found new report h) (sym next) (at (next_offset_of work) (of_next b is.offset work is.of))

  between_stood : (s t : SourceState) → StandsAt b ms t → HasHaltedStood b.config b.now b.held later report s t h
  between_stood s t stands = by kept
    where
      stood : HasStood (course_from b.first b.now) report t h
      stood =
          subst (λ (c : Course). HasStood c report t h) (course_is b is.offset work is.of)
          (sources_stood_so b.first.lsn b.first.end_lsn before report work t t [] h (stands_since b ms stored work before t is stands) stands none (plus_none report.messages before.messages messages) commits)

      at : (o : Offset) → StillOf o → HasHaltedStood b.config b.now b.held (Some o) report s t h
      at o of = record {
        stood = inr (stood_are_followed b.config b.now b.first o b.held report t h of.for_config of.of stood);
        must = stood_one b o work of report t ms (Err h) stands (taken_messages_ask_nothing b.config b.now b.held b.first o work ms (Err h) of is.is is.so_far);
      }

      by : (later ≡ stored) ⊎ (later ≡ Some (next_offset_of work)) → HasHaltedStood b.config b.now b.held later report s t h
      by (inl same) = subst (λ (x : Option Offset). HasHaltedStood b.config b.now b.held x report s t h) (sym (same ∙ is.stored_is)) (at is.offset is.of)
      by (inr next) = subst (λ (x : Option Offset). HasHaltedStood b.config b.now b.held x report s t h) (sym next) (at (next_offset_of work) (of_next b is.offset work is.of))

pub halts_between_are_told : HaltsBetweenAreTold
halts_between_are_told b ms stored later work before report found old new h is told more none messages commits kept =
    between_told b ms stored later work before report h is none messages commits kept found old new told more

pub halts_between_are_stood : HaltsBetweenAreStood
halts_between_are_stood b ms stored later work before report s t h is stands none messages commits kept =
    between_stood b ms stored later work before report h is none messages commits kept s t stands

-- ---- it stops with an error at the newest message

one_within : 1 ≤ 1
one_within = omega arith

clash_left : (x : Option Clash) (h : Halt) → IsClashIn x h → IsLeftOut h 1
clash_left None h found = absurd found
clash_left (Some c) h found = subst (λ (k : Halt). IsLeftOut k 1) (sym found) refl

newest_left : (number : ℕ) (after : Lsn) (ms : List Message) (bytes : List ℕ) (work : SessionState) (h : Halt) → IsNewestHalt number after ms bytes work h → IsLeftOut h 1
newest_left number after ms bytes work h (inl txn) = subst (λ (k : Halt). IsLeftOut k 1) (sym txn.is) refl
newest_left number after ms bytes work h (inr (inl part)) = elim part.is [
  | inl clash ↦ clash_left (clash_of work.offset.identity work.offset.infos (open_commit work.offset.infos (part.taken.message ∷ ms))) h clash
  | inr long ↦ subst (λ (k : Halt). IsLeftOut k 1) (sym long.1.long.is) refl
]
newest_left number after ms bytes work h (inr (inr sent)) = elim sent.3 [
  | inl clash ↦ clash_left (clash_by sent.0.follower sent.1) h clash
  | inr long ↦ subst (λ (k : Halt). IsLeftOut k 1) (sym long.1.is) refl
]

pub cause_left : (number : ℕ) (after : Lsn) (ms : List Message) (bytes : List ℕ) (work : SessionState) (h : Halt) → IsNewestCause number after ms bytes work h → IsLeftOut h 1
cause_left number after ms bytes work h (inl memory) = subst (λ (k : Halt). IsLeftOut k 1) (sym memory) one_within
cause_left number after ms bytes work h (inr (inl message)) = subst (λ (k : Halt). IsLeftOut k 1) (sym message.is) refl
cause_left number after ms bytes work h (inr (inr (inl newest))) = newest_left number after ms bytes work h newest
cause_left number after ms bytes work h (inr (inr (inr sink))) = subst (λ (k : Halt). IsLeftOut k 1) (sym sink.0) refl

one_more : (k n m : ℕ) → k ≡ n + 1 → m ≡ n → k ≡ suc m
one_more k n m one two = omega (arith, one, two)

module _ (b : Beginning) (ms : List Message) (stored : Option Offset) (work : SessionState) (before report : Report) (bytes : List ℕ) (h : Halt) (is : IsReadUpTo b ms stored work before)
    (cause : IsNewestCause report.messages b.first.lsn ms bytes work h) (messages : report.messages ≡ before.messages + 1) (commits : report.commits ≡ before.commits) where
  left : IsLeftOut h 1
  left = cause_left report.messages b.first.lsn ms bytes work h cause

  -- what the message requires comes
  newest : (m : Message) → Spells bytes m → MustHaltBy b.now is.offset (reading_at b.first.lsn (m ∷ ms)) (Err h)
  newest m spells = by cause
    where
      many : report.messages ≡ length (m ∷ ms)
      many = one_more report.messages before.messages (length ms) messages is.many

      by : IsNewestCause report.messages b.first.lsn ms bytes work h → MustHaltBy b.now is.offset (reading_at b.first.lsn (m ∷ ms)) (Err h)
      by (inl memory) = newest_messages_halt b.config b.now b.held b.first is.offset work ms m bytes report.messages h is.of is.is spells many is.so_far (inl memory)
      by (inr (inl message)) = absurd (not_both bytes m message.error spells message.fault)
      by (inr (inr other)) = newest_messages_halt b.config b.now b.held b.first is.offset work ms m bytes report.messages h is.of is.is spells many is.so_far (inr other)

  at_told : (found old new : Option Trace) → HasReadSinceStart found old ms → IsTakenBy (bytes ∷ []) old new → HasHaltedTold b.config b.now b.held (Some is.offset) found new report h
  at_told found old new told more = record { followed = both.0; read = inl both.1; must = asked }
    where
      stopped : HasStopped (course_from b.first b.now) told.begun new report h
      stopped =
          subst (λ (c : Course). HasStopped c told.begun new report h) (course_is b is.offset work is.of)
          (halts_at_messages b.first.lsn b.first.end_lsn told.begun old new before report work bytes h (has_taken b ms stored work before found old is told) more left messages commits)

      both : IsFollowed b.config b.now b.held (Some is.offset) report new h × TellsSoMany report.messages new
      both = stops_are_followed b.config b.now found told.begun new b.first is.offset b.held report h is.of.for_config is.of.of told.begun_unread stopped

      read_now : (t : Trace) → new ≡ Some t → t.read ≡ bytes ∷ told.read
      read_now t tells = read_is (bytes ∷ told.read) found told.begun new t tells told.begun_unread (taken_more (bytes ∷ []) told.read told.begun old new told.taken more (bytes ∷ told.read) refl)

      asked : (t : Trace) → new ≡ Some t → MustHaltTold b.config b.now b.held (Some is.offset) report t (Err h)
      asked t tells reading was = by reading.messages refl (subst (λ (l : List (List ℕ)). AreSpelled l reading.messages) (sym (was.tells t refl) ∙ read_now t tells) was.spelled)
        where
          by : (ns : List Message) → reading.messages ≡ ns → AreSpelled (bytes ∷ told.read) ns → MustHaltBy b.now was.stored.offset reading (Err h)
          by [] same spelled = absurd spelled
          by (m ∷ ns) same spelled =
              told_one b is.offset work is.of report t (bytes ∷ told.read) (m ∷ ms) (Err h) (read_now t tells) (spelled.0, told.spelled) (newest m spelled.0) reading was

  at_stood : (s t : SourceState) (m : Message) → Spells bytes m → StandsAt b (m ∷ ms) t → HasHaltedStood b.config b.now b.held (Some is.offset) report s t h
  at_stood s t m spells stands = record {
    stood = inr (stood_are_followed b.config b.now b.first is.offset b.held report t h is.of.for_config is.of.of stood);
    must = stood_one b is.offset work is.of report t (m ∷ ms) (Err h) stands (newest m spells);
  }
    where
      stood : HasStood (course_from b.first b.now) report t h
      stood =
          subst (λ (c : Course). HasStood c report t h) (course_is b is.offset work is.of)
          (sources_stood_so b.first.lsn b.first.end_lsn before report work (stood_at b ms t) t (m ∷ []) h (stands_since b ms stored work before (stood_at b ms t) is refl) stands left messages commits)

pub halts_at_messages_are_told : HaltsAtMessagesAreTold
halts_at_messages_are_told b ms stored work before report found old new bytes h is told more cause messages commits =
    subst (λ (x : Option Offset). HasHaltedTold b.config b.now b.held x found new report h) (sym is.stored_is)
    (at_told b ms stored work before report bytes h is cause messages commits found old new told more)

pub halts_at_messages_are_stood : HaltsAtMessagesAreStood
halts_at_messages_are_stood b ms stored work before report s t m bytes h is spells stands cause messages commits =
    subst (λ (x : Option Offset). HasHaltedStood b.config b.now b.held x report s t h) (sym is.stored_is)
    (at_stood b ms stored work before report bytes h is cause messages commits s t m spells stands)

-- ---- it stops with an error before it reads

none_within : 0 ≤ 1
none_within = omega arith

fault_left : (name : TableName) (entry : Option RawTable) (h : Halt) → IsFaultOf name entry h → IsLeftOut h 0
fault_left name None h is = subst (λ (k : Halt). IsLeftOut k 0) (sym is) refl
fault_left name (Some raw) h is = subst (λ (k : Halt). IsLeftOut k 0) (sym is.2) refl

exhausted_left : (old : Option Offset) (h : Halt) → IsExhausted old h → IsLeftOut h 0
exhausted_left None h is = absurd is
exhausted_left (Some stored) h is = subst (λ (k : Halt). IsLeftOut k 0) (sym is.1) refl

begin_left : (config : Config) (old : Option Offset) (told : Option Trace) (h : Halt) → IsBeginHalt config old told h → IsLeftOut h 0
begin_left config old told h (inl memory) = subst (λ (k : Halt). IsLeftOut k 0) (sym memory) none_within
begin_left config old told h (inr (inl source)) = subst (λ (k : Halt). IsLeftOut k 0) (sym source) refl
begin_left config old told h (inr (inr (inl offsets))) = subst (λ (k : Halt). IsLeftOut k 0) (sym offsets) refl
begin_left config old told h (inr (inr (inr (inl exhausted)))) = exhausted_left old h exhausted
begin_left config old told h (inr (inr (inr (inr (inl model))))) = fault_left model.1.0 model.1.2.entry h model.1.2.is
begin_left config old told h (inr (inr (inr (inr (inr long))))) = subst (λ (k : Halt). IsLeftOut k 0) (sym long.3.is) refl

open_left : (config : Config) (old new : Option Offset) (told : Option Trace) (h : Halt) → IsOpenHalt config old new told h → IsLeftOut h 0
open_left config old new told h (inl begin) = begin_left config old told h begin.0
open_left config old new told h (inr (inl gone)) = subst (λ (k : Halt). IsLeftOut k 0) (sym gone.is) refl
open_left config old new told h (inr (inr (inl memory))) = subst (λ (k : Halt). IsLeftOut k 0) (sym memory) none_within
open_left config old new told h (inr (inr (inr source))) = subst (λ (k : Halt). IsLeftOut k 0) (sym source) refl

-- with no message nothing is asked
no_message : (m : Message) (ms : List Message) → [] ≡ m ∷ ms → ⊥
no_message m ms is = cc

none_left : (newest earlier : List Message) → [] ≡ newest ++ earlier → earlier ≡ []
none_left [] earlier is = sym is
none_left (m ∷ newest) earlier is = absurd (no_message m (newest ++ earlier) is)

no_clash : (c : Clash) → None ≡ Some c → ⊥
no_clash c is = cc

none_asked : (now : ℤ) (offset : Offset) (reading : Reading) (result : Result Ending Halt) → [] ≡ reading.messages → MustHaltBy now offset reading result
none_asked now offset reading result none = record {
  txn = λ number error f. absurd (no_message f.message f.earlier (none ∙ f.newest));
  clash = λ commit changes c e body found. absurd (no_message e.message e.earlier (none ∙ e.newest));
  met = λ newest earlier c le same valid found.
      absurd (no_clash c (ap (λ (l : List Message). clash_of offset.identity offset.infos (open_commit offset.infos l)) (sym (none_left newest earlier (none ∙ same))) ∙ found));
  long_so_far = λ newest earlier place item le same valid clear at lt long.
      absurd (none_known offset.identity offset.infos earlier now (ap (changes_so_far offset.infos) (none_left newest earlier (none ∙ same))) place lt);
  long = λ commit changes place item e body clear at long. absurd (no_message e.message e.earlier (none ∙ e.newest));
}

none_long : (ms : List Message) → length ms ≡ 0 → [] ≡ ms
none_long [] is = refl
none_long (m ∷ ms) is = cc

read_anew : (found told : Option Trace) (t : Trace) → told ≡ Some t → IsTakenAnew found told → t.read ≡ []
read_anew found told t is anew = read_is [] found told told t is anew (still told)
  where
    still : (x : Option Trace) → IsTakenBy [] x x
    still None = tt
    still (Some y) = refl

pub halts_unread_are_told : HaltsUnreadAreTold
halts_unread_are_told config now held stored found told report h is messages commits taken = record {
  followed = inl (messages, commits, open_left config held stored told h is);
  read = by taken;
  must = λ t tells reading was. none_asked now was.stored.offset reading (Err h) (none_long reading.messages (was.many ∙ messages));
}
  where
    by : IsTakenBy [] found told ⊎ IsTakenAnew found told → HasReadMessages (Err h) report.messages found told
    by (inl none) = inr (messages, refl, none)
    by (inr anew) = inl (λ t tells. ap (λ (l : List (List ℕ)). length l) (read_anew found told t tells anew) ∙ sym messages)

pub halts_unread_are_stood : HaltsUnreadAreStood
halts_unread_are_stood config now held stored told report s t h is messages commits reading_is = record {
  stood = inl (messages, commits, open_left config held stored told h is, reading_is);
  must = λ reading was. none_asked now was.stored.offset reading (Err h) (none_long reading.messages (was.many ∙ messages));
}

-- ---- it ends normally

pub ends_are_told : EndsAreTold
ends_are_told b ms work report found told ending is a = (
  subst (λ (k : ℤ). StoodAtLast b.config k b.held (Some (next_offset_of work)) report told) is.of.time
      (ends_stand_at_last b.config found a.begun told b.first b.held report work is.of.for_config is.of.placed a.begun_unread (has_taken b ms (Some (next_offset_of work)) work report found told is a)),
  λ t tells. ap (λ (l : List (List ℕ)). length l) (read_now t tells) ∙ (sym (same_many a.read ms a.spelled) ∙ is.many),
  λ t tells. told_one b (next_offset_of work) work next report t a.read ms (Ok ending) (read_now t tells) a.spelled
      (taken_messages_ask_nothing b.config b.now b.held b.first (next_offset_of work) work ms (Ok ending) next is.is is.so_far),
)
  where
    next : IsOfFirst b.config b.now b.held b.first (next_offset_of work) work
    next = of_next b is.offset work is.of

    read_now : (t : Trace) → told ≡ Some t → t.read ≡ a.read
    read_now t tells = read_is a.read found a.begun told t tells a.begun_unread a.taken

pub ends_are_stood : EndsAreStood
ends_are_stood b ms work report t ending is stands upto = (
  subst (λ (k : ℤ). HasSettled b.config k b.held (Some (next_offset_of work)) report t) is.of.time
      (sources_settle b.config b.first b.held report work t is.of.for_config is.of.placed (stands_since b ms (Some (next_offset_of work)) work report t is stands) upto),
  stood_one b (next_offset_of work) work next report t ms (Ok ending) stands
      (taken_messages_ask_nothing b.config b.now b.held b.first (next_offset_of work) work ms (Ok ending) next is.is is.so_far),
)
  where
    next : IsOfFirst b.config b.now b.held b.first (next_offset_of work) work
    next = of_next b is.offset work is.of
