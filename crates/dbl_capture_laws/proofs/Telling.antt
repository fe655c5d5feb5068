-- What a session's report tells where it goes on, and where it stops with an error.
use Rattle.std.proofs.Common.{◌≡◌, ◌∙◌, ◌⊎◌, inl, inr, ◌+◌, ◌≤◌, ◌^◌, ℕ, ℤ, Bool, true, false, Option, Some, None, List, [], ◌∷◌, Result, Ok, Err, refl, sym, ap, subst, arith}
use Rattle.std.specs.Prelude.{Contains, IfErr, IfSome, IsErrAnd, OnOk}
use Rattle.dbl_base.specs.declared.lsn.Lsn.{Lsn}
use Rattle.dbl_pgmsg.specs.declared.messages.Message.{Message}
use Rattle.dbl_record.specs.declared.record.Record.{Record}
use Rattle.dbl_capture_work.specs.Source.Model.{SourceModel}
use Rattle.dbl_model_table.specs.declared.config.Config.{Config}
use Rattle.dbl_model_table.specs.declared.change.Change.{Change}
use Rattle.dbl_model_table.specs.declared.change.Commit.{Commit}
use Rattle.dbl_model_table.specs.declared.table.TableName.{TableName}
use Rattle.dbl_capture_work.specs.ModelCommit.declared.piece.Piece.TheVariants.{Changed}
use Rattle.dbl_capture_work.specs.ModelEvent.Clashes.{clash_of}
use Rattle.dbl_capture_work.specs.SourceModel.declared.started.Started.TheVariants.{Gone}
use Rattle.dbl_capture_work.specs.SourceModel.Standings.{Reading, SourceState}
use Rattle.dbl_capture_work.specs.SourceModel.Trace.{Trace, Began, IsTakenAnew, IsTakenBy, LastAnswerIs}
use Rattle.dbl_capture_work.proofs.FaithfulItems.{first_some}
use Rattle.dbl_capture_work.specs.Offset.declared.offset.Offset.{Offset}
use Rattle.dbl_capture_work.specs.Offset.Offsets.{IsOffset}
use Rattle.dbl_capture_work.specs.SourceLog.declared.error.SourceError.{SourceError}
use Rattle.dbl_capture_work.specs.SourceLog.declared.error.SourceError.TheVariants as source
use Rattle.dbl_capture_work.specs.Window.declared.error.WindowError.{WindowError}
use Rattle.dbl_capture_work.specs.Window.declared.error.WindowError.TheVariants as window
use Rattle.dbl_capture_work.specs.Follow.Steps.{clash_by, records_by}
use Rattle.dbl_capture_work.specs.declared.halt.Halt.{Halt}
use Rattle.dbl_capture_work.specs.declared.halt.Halt.TheVariants as halt
use Rattle.dbl_capture_work.specs.declared.report.Report.{Report}
use Rattle.dbl_capture_work.specs.declared.work.SessionState.{SessionState}
use Rattle.dbl_capture_work.specs.Begins.{IsAbsentAfter, IsExhausted, IsGoneFrom, IsModelFault, IsOffsetFor, IsTooLong}
use Rattle.dbl_capture_work.specs.Causes.{IsChunkHalt, IsLongRecord, IsOfRows}
use Rattle.dbl_capture_work.specs.Halts.{source_halt, window_halt}
use Rattle.dbl_capture_work.specs.Takes.{CountsOnlyRecords, HasTakenPiece, IsClashIn, IsMessageHalt, IsTxnHalt, ReportsStep, WasTaken}
use Rattle.dbl_capture_work.specs.Works.{CouldBeSentSoFar, open_commit}
use Rattle.dbl_capture_work.proofs.Exits.{taken_on}
use Rattle.dbl_capture_laws.specs.Reported.{IsLeftOut}
use Rattle.dbl_capture_laws.specs.Underway.{IsBeginHalt, IsOpenHalt}
use Rattle.dbl_capture_laws.specs.Carried.{Beginning, IsNewestCause}
use Rattle.dbl_capture_laws.specs.Sources.{GoesOn, HasCommitted, IsUnderWay}
use Rattle.dbl_capture_laws.specs.Found.{HasStored}
use Rattle.dbl_capture_laws.specs.Halted.{IsHalt}
use Rattle.dbl_capture_laws.proofs.OpenCommits.{IsOpenCause, open_newest}
use Rattle.dbl_capture_laws.proofs.Reporting.{HasStepped, step_counts}

-- ---- results

-- what two clauses of an answer amount to, of which one is said of each standing
pub ok_both : {T E : Type 0} (r : Result T E) (A C : Type 0) (P : SourceState → Type 0) (B : SourceState → Type 0) → OnOk r A → ((s : SourceState) → P s → OnOk r (B s)) → (A → ((s : SourceState) → P s → B s) → C) → OnOk r C
ok_both (Ok x) A C P B a b f = f a b
ok_both (Err e) A C P B a b f = tt

-- what is said of an error is said of the result that a `?` makes of it
pub residual_as : {T : Type 0} (r : Result T Halt) (e : Halt) (Q : Result T Halt → Type 0) → IsErrAnd r (λ h. h ≡ e) → Q (Err e) → Q r
residual_as (Ok x) e Q none q = absurd none
residual_as (Err h) e Q same q = subst (λ (k : Halt). Q (Err k)) (sym same) q

-- of either answer
pub answer_as : {T : Type 0} (r : Result T Halt) (A : Type 0) (B : Halt → Type 0) (Q : Result T Halt → Type 0) → OnOk r A → IfErr r B → (A → (x : T) → Q (Ok x)) → ((h : Halt) → B h → Q (Err h)) → Q r
answer_as (Ok x) A B Q a b f g = f a x
answer_as (Err h) A B Q a b f g = g h b

-- an error of a call is one of what a `?` makes of it
pub residual_on : {T U : Type 0} (r : Result T Halt) (q : Result U Halt) (e h : Halt) → r ≡ Err h → r ≡ Err e → IsErrAnd q (λ k. k ≡ e) → q ≡ Err h
residual_on r (Ok x) e h one two none = absurd none
residual_on r (Err k) e h one two same =
    let both : Err e ≡ Err h = sym two ∙ one in
    let own : e ≡ h = cc in
    ap (λ (x : Halt). Err x) (same ∙ own)

pub not_both : {T : Type 0} (r : Result T Halt) (x : T) (h : Halt) → r ≡ Err h → r ≡ Ok x → ⊥
not_both r x h one two = let wrong : Err h ≡ Ok x = sym one ∙ two in cc

-- ---- halts between two messages

none_left : 0 ≤ 1
none_left = omega arith

pub memory_left : IsLeftOut halt.Memory 0
memory_left = none_left

pub source_left : (e : SourceError) → IsLeftOut (source_halt e) 0
source_left source.Failed = refl
source_left source.Memory = none_left

window_left : (name : TableName) (e : WindowError) → IsLeftOut (window_halt name e) 0
window_left name (window.BadChunk row) = refl
window_left name (window.Moved version) = refl
window_left name (window.Cell column error) = refl
window_left name window.Failed = refl
window_left name window.Memory = none_left

pub chunk_left : (work : SessionState) (table : ℕ) (told : Option Trace) (h : Halt) → IsChunkHalt work table told h → IsLeftOut h 0
chunk_left work table told h chunk = by chunk.cause
  where
    by : (h ≡ halt.Memory) ⊎ ((h ≡ halt.Source) ⊎ ((error : WindowError) × (h ≡ window_halt chunk.info.name error) × IsOfRows chunk.plan told error)) → IsLeftOut h 0
    by (inl memory) = subst (λ (k : Halt). IsLeftOut k 0) (sym memory) none_left
    by (inr (inl failed)) = subst (λ (k : Halt). IsLeftOut k 0) (sym failed) refl
    by (inr (inr rows)) = subst (λ (k : Halt). IsLeftOut k 0) (sym rows.1) (window_left chunk.info.name rows.0)

pub store_left : (offset : Offset) (h : Halt) → (h ≡ halt.Memory) ⊎ ((h ≡ halt.Offsets) ⊎ IsTooLong offset h) → IsLeftOut h 0
store_left offset h (inl memory) = subst (λ (k : Halt). IsLeftOut k 0) (sym memory) none_left
store_left offset h (inr (inl failed)) = subst (λ (k : Halt). IsLeftOut k 0) (sym failed) refl
store_left offset h (inr (inr long)) = subst (λ (k : Halt). IsLeftOut k 0) (sym long.is) refl

-- ---- halts at a message

pub taken_cause : (number : ℕ) (after : Lsn) (ms : List Message) (bytes : List ℕ) (work : SessionState) (h : Halt) → (h ≡ halt.Memory) ⊎ (IsMessageHalt number bytes h ⊎ IsTxnHalt number after ms bytes work h) → IsNewestCause number after ms bytes work h
taken_cause number after ms bytes work h (inl memory) = inl memory
taken_cause number after ms bytes work h (inr (inl message)) = inr (inl message)
taken_cause number after ms bytes work h (inr (inr txn)) = inr (inr (inl (inl txn)))

pub follow_cause : (number : ℕ) (after : Lsn) (ms : List Message) (bytes : List ℕ) (work next : SessionState) (commit : Commit) (h : Halt) → WasTaken after ms bytes work next (Some commit) → (h ≡ halt.Sink → clash_by next.follower commit ≡ None)
    → (h ≡ halt.Memory) ⊎ ((h ≡ halt.Sink) ⊎ (IsClashIn (clash_by next.follower commit) h ⊎ ((clash_by next.follower commit ≡ None) × IsLongRecord (records_by next.follower commit next.now_ms) h)))
    → IsNewestCause number after ms bytes work h
follow_cause number after ms bytes work next commit h w none (inl memory) = inl memory
follow_cause number after ms bytes work next commit h w none (inr (inl failed)) = inr (inr (inr (failed, inl (next, commit, w, none failed))))
follow_cause number after ms bytes work next commit h w none (inr (inr either)) = inr (inr (inl (inr (inr (next, commit, w, either)))))

-- at changes that it states
pub open_cause : (number : ℕ) (after : Lsn) (ms : List Message) (bytes : List ℕ) (work next : SessionState) (changes : List Change) (h : Halt) (p : HasTakenPiece after ms bytes work next (Changed changes)) → CouldBeSentSoFar work ms
    → (h ≡ halt.Sink → clash_of next.offset.identity next.offset.infos (open_commit next.offset.infos (p.taken.message ∷ ms)) ≡ None) → (h ≡ halt.Memory) ⊎ ((h ≡ halt.Sink) ⊎ IsOpenCause next (p.taken.message ∷ ms) h)
    → IsNewestCause number after ms bytes work h
open_cause number after ms bytes work next changes h p so_far none (inl memory) = inl memory
open_cause number after ms bytes work next changes h p so_far none (inr (inl failed)) =
    inr (inr (inr (failed, inr (next, p.taken, subst (λ (x : SessionState). clash_of x.offset.identity x.offset.infos (open_commit x.offset.infos (p.taken.message ∷ ms)) ≡ None) p.taken.same (none failed)))))
open_cause number after ms bytes work next changes h p so_far none (inr (inr either)) = inr (inr (inl (inr (inl (open_newest after ms bytes work next changes h p so_far either)))))

none_more : (a b : ℕ) → b ≡ a + 0 → b ≡ a
none_more a b is = omega (arith, is)

-- the commit isn't counted there
pub record IsTornCount (before after : Report) : Type 0 where
  pub messages : after.messages ≡ before.messages + 1
  pub commits : after.commits ≡ before.commits

pub torn_counts : (snapshot : Bool) (records : List Record) (before after : Report) → ReportsStep snapshot records (record before { messages = before.messages + 1 }) after false → IsTornCount before after
torn_counts snapshot records before after noted =
    let st : HasStepped (record before { messages = before.messages + 1 }) after 0 = step_counts snapshot records (record before { messages = before.messages + 1 }) after false noted in
    record { messages = st.messages; commits = none_more before.commits after.commits st.commits }

-- nor is one before its end
pub open_counts : (before after : Report) → CountsOnlyRecords (record before { messages = before.messages + 1 }) after → IsTornCount before after
open_counts before after counts = record { messages = ap (λ (r : Report). r.messages) counts; commits = ap (λ (r : Report). r.commits) counts }

-- ---- it goes on

module _ {S : Type 0} (source_model : SourceModel S) (at : Option SourceState) (found : Option Trace) (b : Beginning) (stored : Option Offset) (work : SessionState) (report : Report) (src : S) where
  -- where the offset is due, or isn't
  pub goes_due : (due : Bool) → (due ≡ true → HasCommitted source_model at found b stored work report src) → (due ≡ false → IsUnderWay source_model at found b stored work report src) → GoesOn source_model at found b stored work report src (Some due)
  goes_due true committed rests = committed refl
  goes_due false committed rests = rests refl

  pub goes_true : (o : Option Bool) (due : Bool) → o ≡ Some due → due ≡ true → GoesOn source_model at found b stored work report src o → HasCommitted source_model at found b stored work report src
  goes_true o due is yes_is goes = subst (λ (x : Option Bool). GoesOn source_model at found b stored work report src x) (is ∙ ap (λ (d : Bool). Some d) yes_is) goes

  pub goes_false : (o : Option Bool) (due : Bool) → o ≡ Some due → due ≡ false → GoesOn source_model at found b stored work report src o → IsUnderWay source_model at found b stored work report src
  goes_false o due is no_is goes = subst (λ (x : Option Bool). GoesOn source_model at found b stored work report src x) (is ∙ ap (λ (d : Bool). Some d) no_is) goes

  pub goes_none : (o : Option Bool) → o ≡ None → GoesOn source_model at found b stored work report src o → IsUnderWay source_model at found b stored work report src
  goes_none o is goes = subst (λ (x : Option Bool). GoesOn source_model at found b stored work report src x) is goes

-- ---- before it reads

pub again_begins : (config : Config) (old : Option Offset) (told : Option Trace) (h : Halt) → (h ≡ halt.Memory) ⊎ IsExhausted old h → IsBeginHalt config old told h
again_begins config old told h (inl memory) = inl memory
again_begins config old told h (inr exhausted) = inr (inr (inr (inl exhausted)))

pub first_begins : (config : Config) (old : Option Offset) (told : Option Trace) (h : Halt) → old ≡ None → (h ≡ halt.Memory) ⊎ ((h ≡ halt.Source) ⊎ ((name : TableName) × Contains config.tables name × IsModelFault name told h)) → IsBeginHalt config old told h
first_begins config old told h none (inl memory) = inl memory
first_begins config old told h none (inr (inl failed)) = inr (inl failed)
first_begins config old told h none (inr (inr model)) = inr (inr (inr (inr (inl (none, model)))))

pub store_begins : (config : Config) (old : Option Offset) (told : Option Trace) (offset : Offset) (h : Halt) → IsOffset offset → IsOffsetFor config old offset → (h ≡ halt.Memory) ⊎ ((h ≡ halt.Offsets) ⊎ IsTooLong offset h) → IsBeginHalt config old told h
store_begins config old told offset h asked for (inl memory) = inl memory
store_begins config old told offset h asked for (inr (inl failed)) = inr (inr (inl failed))
store_begins config old told offset h asked for (inr (inr long)) = inr (inr (inr (inr (inr (offset, asked, for, long)))))

pub start_opens : (config : Config) (old new : Option Offset) (told : Option Trace) (after : Lsn) (h : Halt) (stored : HasStored config old new) → after ≡ stored.offset.lsn
    → ((asked first : Lsn) → h ≡ halt.Gone asked first → (asked ≡ after) × LastAnswerIs told (Began (Gone first))) → (h ≡ halt.Memory) ⊎ ((h ≡ halt.Source) ⊎ IsGoneFrom after h) → IsOpenHalt config old new told h
start_opens config old new told after h stored same says (inl memory) = inr (inr (inl memory))
start_opens config old new told after h stored same says (inr (inl failed)) = inr (inr (inr failed))
start_opens config old new told after h stored same says (inr (inr gone)) =
    inr (inl (record {
      stored = stored;
      first = gone.first;
      is = gone.is ∙ ap (λ (l : Lsn). halt.Gone l gone.first) same;
      last_answer = (says after gone.first gone.is).1;
    }))

-- where the greatest incarnation is stored it stops with an error for that
abbrev Exhausts : Result (Option Offset) Halt → Option Offset → Type 0
Exhausts r old = IfSome old (λ stored. 2 ^ 63 ≤ stored.incarnation → r ≡ Err (halt.Exhausted stored.incarnation))

exhausted_as : (r : Result (Option Offset) Halt) (old : Option Offset) (h : Halt) → Exhausts r old → IsExhausted old h → r ≡ Err h
exhausted_as r None h says is = absurd is
exhausted_as r (Some stored) h says is = says is.0 ∙ ap (λ (x : Halt). Err x) (sym is.1)

pub again_exhausted : (r : Result (Option Offset) Halt) (q : Result Offset Halt) (old : Option Offset) (e h : Halt) → Exhausts r old → r ≡ Err e → IsErrAnd q (λ k. k ≡ e) → IsExhausted old h → q ≡ Err h
again_exhausted r q old e h says was same is = residual_on r q e h (exhausted_as r old h says is) was same

pub not_exhausted : (r : Result (Option Offset) Halt) (o : Option Offset) (old : Option Offset) (h : Halt) → Exhausts r old → r ≡ Ok o → IsExhausted old h → ⊥
not_exhausted r o old h says was is = not_both r o h (exhausted_as r old h says is) was

-- what was told after a call that read nothing, and after a start
pub anew_on : (a b c : Option Trace) → IsTakenBy [] a b → IsTakenAnew b c → IsTakenAnew a c
anew_on None None c one two = two
anew_on None (Some y) c one two = absurd one
anew_on (Some x) None c one two = absurd one
anew_on (Some x) (Some y) None one two = two
anew_on (Some x) (Some y) (Some z) one two = two

pub fell_on : (a b c : Option Trace) → IsTakenBy [] a b → IsTakenBy [] b c ⊎ IsTakenAnew b c → IsTakenBy [] a c ⊎ IsTakenAnew a c
fell_on a b c one (inl two) = inl (taken_on a b c one two)
fell_on a b c one (inr two) = inr (anew_on a b c one two)

-- what was read since it began
pub read_none : (after : Lsn) (o : Option Reading) → IfSome o (λ r. (r.after ≡ after) × (r.messages ≡ [])) → IfSome o (λ r. r.messages ≡ [])
read_none after None is = tt
read_none after (Some r) is = is.1

-- ---- for what it stood at first

pub at_none : {S : Type 0} (stands : S → SourceState → Type 0) (src : S) (s : SourceState) → None ≡ Some s → stands src s
at_none stands src s is = cc

pub at_some : {S : Type 0} (stands : S → SourceState → Type 0) (src : S) (first : SourceState) → stands src first → (s : SourceState) → Some first ≡ Some s → stands src s
at_some stands src first is s same = subst (stands src) (first_some first s same) is

-- ---- by the catalogue

module _ (stands : SourceState → Type 0) (s : SourceState) (names : List TableName) where
  pub memory_absent : (h : Halt) → h ≡ halt.Memory → IsAbsentAfter stands s names h
  memory_absent h is = subst (IsAbsentAfter stands s names) (sym is) tt

  exhausted_absent : (old : Option Offset) (h : Halt) → IsExhausted old h → IsAbsentAfter stands s names h
  exhausted_absent None h is = absurd is
  exhausted_absent (Some stored) h is = subst (IsAbsentAfter stands s names) (sym is.1) tt

  pub again_absent : (old : Option Offset) (h : Halt) → (h ≡ halt.Memory) ⊎ IsExhausted old h → IsAbsentAfter stands s names h
  again_absent old h (inl memory) = memory_absent h memory
  again_absent old h (inr exhausted) = exhausted_absent old h exhausted

  pub store_absent : (offset : Offset) (h : Halt) → (h ≡ halt.Memory) ⊎ ((h ≡ halt.Offsets) ⊎ IsTooLong offset h) → IsAbsentAfter stands s names h
  store_absent offset h (inl memory) = memory_absent h memory
  store_absent offset h (inr (inl failed)) = subst (IsAbsentAfter stands s names) (sym failed) tt
  store_absent offset h (inr (inr long)) = subst (IsAbsentAfter stands s names) (sym long.is) tt

  pub start_absent : (after : Lsn) (h : Halt) → (h ≡ halt.Memory) ⊎ ((h ≡ halt.Source) ⊎ IsGoneFrom after h) → IsAbsentAfter stands s names h
  start_absent after h (inl memory) = memory_absent h memory
  start_absent after h (inr (inl failed)) = subst (IsAbsentAfter stands s names) (sym failed) tt
  start_absent after h (inr (inr gone)) = subst (IsAbsentAfter stands s names) (sym gone.is) tt

  -- after the first store no table is the cause
  pub caused_absent : (config : Config) (now : ℤ) (old new : Option Offset) (report : Report) (told : Option Trace) (offset : Offset) (h : Halt) → new ≡ Some offset → IsHalt config now old new report told h → IsAbsentAfter stands s names h
  caused_absent config now old new report told offset (halt.Model error) is cause = let wrong : None ≡ Some offset = sym cause.1 ∙ is in cc
  caused_absent config now old new report told offset (halt.UnknownTable table) is cause = let wrong : None ≡ Some offset = sym cause.1 ∙ is in cc
  caused_absent config now old new report told offset h is cause = tt
