-- What a source promises of each call, from what the call made of the script.
use Rattle.std.proofs.Common.{◌≡◌, ◌∙◌, inl, inr, ◌≤◌, ℕ, false, List, [], map, take, refl, sym, ap, subst, arith}
use Rattle.std.specs.Prelude.{IsTrue, is_some, Option, None, Some, Result, Ok, Err, IfOk, OnOk, OnErr}
use Rattle.std.proofs.lemmas.List.{append-nil}
use Rattle.dbl_base.specs.Streams.{FaultCounted, incremented}
use Rattle.dbl_pgmsg.specs.Grammar.{spelling}
use Rattle.dbl_source_model.specs.Standings.{SourceState, CrashState, left_of}
use Rattle.dbl_source_model.specs.Leaves.{Leaves, LeavesSome, MayFollow}
use Rattle.dbl_source_model.specs.Trace.{Answer, LastAnswerIs}
use Rattle.dbl_source_log.specs.declared.logged.Logged.{Logged}
use Rattle.dbl_source_log.specs.declared.reader_position.ReaderPosition.{ReaderPosition}
use Rattle.dbl_source_log.specs.declared.error.SourceError.{SourceError}
use Rattle.dbl_source_log.specs.declared.error.SourceError.TheVariants.{Failed, Memory}
use Rattle.dbl_source_scripted.specs.Played.{Played, played_messages, standing_of, trace_of, commits_before, past_move, called, with_release, with_fault}
use Rattle.dbl_source_scripted.specs.Steps.{KeepsPlayed, AddedFirst, HasPlayedState, MayLeavePlayed, WasFair}
use Rattle.dbl_source_scripted.specs.Exits.{AnswersRead, Plays}
use Rattle.dbl_source_scripted.proofs.PlannedLemmas.{no_err}
use Rattle.dbl_source_scripted.proofs.CallLemmas.{WentOn, went_follows, went_fair, went_read}
use Rattle.dbl_source_scripted.proofs.AlterLemmas.{AreOtherEntries, before_others, others_taken}

-- ---- other clients committed, and nothing else happened

went_called : (old : Played) → WentOn old (called old)
went_called old = record { more = []; others = tt; log = sym (append-nil old.log); tables = refl; rows = refl; asked = refl; confirmed = refl; place = refl; last = refl; ended = refl }

pub went_released : (old : Played) → WentOn old (with_release old)
went_released old = record { more = commits_before old; others = before_others old; log = refl; tables = refl; rows = refl; asked = refl; confirmed = refl; place = refl; last = refl; ended = refl }

went_added : (commits : List Logged) (old new : Played) → AreOtherEntries commits → AddedFirst commits (past_move old) new → WentOn old new
went_added commits old new others added = record {
  more = take added.count commits;
  others = others_taken added.count commits others;
  log = ap (λ (p : Played). p.log) added.is;
  tables = ap (λ (p : Played). p.tables) added.is;
  rows = ap (λ (p : Played). p.rows) added.is;
  asked = ap (λ (p : Played). p.asked) added.is;
  confirmed = ap (λ (p : Played). p.confirmed) added.is;
  place = ap (λ (p : Played). p.place) added.is;
  last = ap (λ (p : Played). p.last) added.is;
  ended = ap (λ (p : Played). p.ended) added.is;
}

-- ---- the call failed

pub record Ended (old new : Played) (e : SourceError) : Type 0 where
  pub went : WentOn old new
  pub dead : new.live ≡ false
  pub rose : e ≡ Failed → FaultCounted old.plan.faults new.plan.faults

ended_faulty : (old mid new : Played) → WentOn old mid → mid.live ≡ false → mid.plan.faults ≡ old.plan.faults → new ≡ with_fault mid → Ended old new Failed
ended_faulty old mid new w dead same is =
    let faulty : WentOn old (with_fault mid) = record { more = w.more; others = w.others; log = w.log; tables = w.tables; rows = w.rows; asked = w.asked; confirmed = w.confirmed; place = w.place; last = w.last; ended = w.ended } in
    let one : new.plan.faults ≡ incremented old.plan.faults = ap (λ (p : Played). p.plan.faults) is ∙ ap incremented same in
    record {
      went = subst (WentOn old) (sym is) faulty;
      dead = ap (λ (p : Played). p.live) is ∙ dead;
      rose = λ failed. (let least : incremented old.plan.faults ≤ incremented old.plan.faults = omega arith in subst (λ (n : ℕ). incremented old.plan.faults ≤ n) (sym one) least);
    }

pub ended : {T : Type 0} (own : ℕ) (more : Type 0) (commits : List Logged) (done : T → Played → Type 0) (old new : Played) (e : SourceError) → AreOtherEntries commits → Plays own more commits done old new (Err e) → Ended old new e
ended own more commits done old new Memory others p =
    let added : AddedFirst commits (past_move old) new = p.memory refl in
    record {
      went = went_added commits old new others added;
      dead = ap (λ (q : Played). q.live) added.is;
      rose = λ is. (let never : Memory ≡ Failed = is in cc);
    }
ended own more commits done old new Failed others p = elim (p.planned.failed refl) [
  | inl full ↦ ended_faulty old (called old) new (went_called old) refl refl full.1
  | inr subsequent ↦ elim subsequent [
    | inl listed ↦ ended_faulty old (with_release old) new (went_released old) refl refl listed.2
    | inr other ↦ ended_faulty old (with_release old) new (went_released old) refl refl other.3
  ]
]

-- it leaves whether reading has ended
pub still : {T : Type 0} (own : ℕ) (more : Type 0) (commits : List Logged) (done : T → Played → Type 0) (old new : Played) (r : Result T SourceError) → AreOtherEntries commits → Plays own more commits done old new r → OnErr r (new.ended ≡ old.ended)
still own more commits done old new (Ok x) others p = tt
still own more commits done old new (Err e) others p = (ended own more commits done old new e others p).went.ended

-- and so it is at any rate of a call whose answer leaves it
pub stays : {T : Type 0} (own : ℕ) (more : Type 0) (commits : List Logged) (done : T → Played → Type 0) (old new : Played) (r : Result T SourceError) → AreOtherEntries commits → Plays own more commits done old new r
    → ((x : T) → done x new → new.ended ≡ old.ended) → new.ended ≡ old.ended
stays own more commits done old new (Ok x) others p leaves = leaves x p.played
stays own more commits done old new (Err e) others p leaves = (ended own more commits done old new e others p).went.ended

-- a call that answers has counted no fault
pub unfaulted : {T : Type 0} (own : ℕ) (more : Type 0) (commits : List Logged) (done : T → Played → Type 0) (old new : Played) (r : Result T SourceError) → Plays own more commits done old new r
    → ((x : T) → done x new → new.plan.faults ≡ old.plan.faults) → OnOk r (new.plan.faults ≡ old.plan.faults)
unfaulted own more commits done old new (Ok x) p leaves = leaves x p.played
unfaulted own more commits done old new (Err e) p leaves = tt

pub read_unfaulted : (old new : Played) (read : Option (List ℕ)) → AnswersRead old read new → new.plan.faults ≡ old.plan.faults
read_unfaulted old new None says = ap (λ (p : Played). p.plan.faults) says.is ∙ ap (λ (p : Played). p.plan.faults) says.has.is
read_unfaulted old new (Some bytes) says = ap (λ (p : Played). p.plan.faults) says.is ∙ ap (λ (p : Played). p.plan.faults) says.has.is

-- ---- the call answered

-- the bytes of the messages that were read are the same, and whether there is a reader
abbrev pub SameRead : Played → Played → Type 0
SameRead old new = map spelling (played_messages new) ≡ map spelling (played_messages old)

abbrev pub SameReader : Played → Played → Type 0
SameReader old new = is_some new.place ≡ is_some old.place

pub record Ends (G : SourceState → Type 0) (Follows : SourceState → CrashState → Type 0) (answer : Answer) (K R : Type 0) (old new : Played) : Type 0 where
  pub leads : (s : SourceState) → HasPlayedState old s → G s
  pub left : Leaves HasPlayedState MayLeavePlayed old new Follows
  pub live : IsTrue new.live
  pub honest : WasFair new → WasFair old
  pub told : LastAnswerIs (Some (trace_of new)) answer
  pub taken : K
  pub reading : R

-- ---- for every answer

pub record Held {T : Type 0} (G : T → SourceState → Type 0) (Follows : SourceState → CrashState → Type 0) (answer : T → Answer) (K R : T → Type 0) (old new : Played) (result : Result T SourceError) : Type 0 where
  pub leads : (s : SourceState) → HasPlayedState old s → IfOk result (λ x. G x s)
  pub left : Leaves HasPlayedState MayLeavePlayed old new Follows
  pub some : LeavesSome HasPlayedState MayLeavePlayed old new
  pub without : result ≡ Err Memory → Leaves HasPlayedState MayLeavePlayed old new MayFollow
  pub live : OnOk result (IsTrue new.live)
  pub dead : OnErr result (new.live ≡ false)
  pub honest : WasFair new → WasFair old
  pub failed : result ≡ Err Failed → FaultCounted old.plan.faults new.plan.faults
  pub told : IfOk result (λ x. LastAnswerIs (Some (trace_of new)) (answer x))
  pub taken : IfOk result (λ x. K x)
  pub untaken : OnErr result (SameRead old new)
  pub reading : IfOk result (λ x. R x)
  pub unread : OnErr result (SameReader old new)

one_err : (T : Type 0) (e d : SourceError) (x y : Result T SourceError) → x ≡ Err e → y ≡ Err d → x ≡ y → e ≡ d
one_err T e d x y at there same = cc

pub held : {T : Type 0} (G : T → SourceState → Type 0) (Follows : SourceState → CrashState → Type 0) (answer : T → Answer) (K R : T → Type 0) (own : ℕ) (more : Type 0) (commits : List Logged) (done : T → Played → Type 0) (old new : Played)
    (result : Result T SourceError) → AreOtherEntries commits → Plays own more commits done old new result → ((s : SourceState) (l : CrashState) → MayFollow s l → Follows s l) → ((x : T) → KeepsPlayed old → done x new → Ends (G x) Follows (answer x) (K x) (R x) old new)
    → Held G Follows answer K R old new result
held G Follows answer K R own more commits done old new (Ok x) others p weaker ends =
    let e : Ends (G x) Follows (answer x) (K x) (R x) old new = ends x p.kept p.played in
    record {
      leads = e.leads;
      left = e.left;
      some = λ s stands. (left_of (standing_of new), refl);
      without = λ is. absurd (no_err x Memory is);
      live = e.live;
      dead = tt;
      honest = e.honest;
      failed = λ is. absurd (no_err x Failed is);
      told = e.told;
      taken = e.taken;
      untaken = tt;
      reading = e.reading;
      unread = tt;
    }
held {T = T} G Follows answer K R own more commits done old new (Err e) others p weaker ends =
    let d : Ended old new e = ended own more commits done old new e others p in
    let follows : Leaves HasPlayedState MayLeavePlayed old new MayFollow = λ s l stands may. went_follows old new s l d.went p.kept stands may in
    record {
      leads = λ s stands. tt;
      left = λ s l stands may. weaker s l (follows s l stands may);
      some = λ s stands. (left_of (standing_of new), refl);
      without = λ is. follows;
      live = tt;
      dead = d.dead;
      honest = λ fair. went_fair old new d.went p.kept fair;
      failed = λ is. d.rose (one_err T e Failed (Err e) (Err Failed) refl refl is);
      told = tt;
      taken = tt;
      untaken = went_read old new d.went p.kept;
      reading = tt;
      unread = ap (λ (o : Option ReaderPosition). is_some o) d.went.place;
    }

-- what holds of an answer and after an error holds
pub both : {T E P : Type 0} (r : Result T E) → OnOk r P → OnErr r P → P
both (Ok x) holds other = holds
both (Err e) other holds = holds
