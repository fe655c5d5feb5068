-- Calls fail exactly as planned: what `begin` promises of a source whose move is past, of the source before it.
use Rattle.std.proofs.Common.{◌≡◌, ◌∙◌, inl, inr, ℕ, List, [], length, ap, subst}
use Rattle.std.specs.Prelude.{Result, Ok, Err, IsErr, IfErr, OnOk, OnErr}
use Rattle.dbl_pgmsg.specs.declared.messages.Message.{Message}
use Rattle.dbl_source_log.specs.declared.logged.Logged.{Logged}
use Rattle.dbl_source_log.specs.declared.error.SourceError.{SourceError}
use Rattle.dbl_source_log.specs.declared.error.SourceError.TheVariants.{Failed, Memory}
use Rattle.dbl_source_scripted.specs.Played.{Played, before_of, commits_with, commits_before, IsPlannedToFail, IsFullBy, past_move, with_counted_call, committed, with_release, FailsAsPlanned}
use Rattle.dbl_source_scripted.specs.Steps.{HasFailed}

-- after what other clients commit before the call
pub released_so : (old mid new : Played) (before : List (List Message)) → mid ≡ past_move old → before ≡ before_of old → new ≡ committed (commits_with before mid) (with_counted_call mid) → new ≡ with_release old
released_so old mid new before past items is =
    is
    ∙ ap (λ (b : List (List Message)). committed (commits_with b mid) (with_counted_call mid)) items
    ∙ ap (λ (m : Played). committed (commits_with (before_of old) m) (with_counted_call m)) past

pub planned_after : {T : Type 0} (old mid new : Played) (before : List (List Message)) (own : ℕ) (result : Result T SourceError) → mid ≡ past_move old → before ≡ before_of old
    → (IsFullBy (length (commits_with before mid)) own mid → result ≡ Err Failed) → (IsPlannedToFail mid → IsErr result) → (IsPlannedToFail mid → commits_with before mid ≡ [] → result ≡ Err Failed)
    → (result ≡ Err Failed → HasFailed (commits_with before mid) own mid new) → FailsAsPlanned own ⊥ old new result
planned_after old mid new before own result past is full listed failing failed =
    let next : commits_with before mid ≡ commits_before old = ap (λ (m : Played). commits_with before m) past ∙ ap (λ (b : List (List Message)). commits_with b (past_move old)) is in
    let fails : result ≡ Err Failed → HasFailed (commits_before old) own (past_move old) new =
    subst (λ (cs : List Logged). result ≡ Err Failed → HasFailed cs own (past_move old) new) next
    (subst (λ (m : Played). result ≡ Err Failed → HasFailed (commits_with before mid) own m new) past failed) in
    record {
      full =
          subst (λ (cs : List Logged). IsFullBy (length cs) own old → result ≡ Err Failed) next
          (subst (λ (m : Played). IsFullBy (length (commits_with before mid)) own m → result ≡ Err Failed) past full);
      listed = subst (λ (m : Played). IsPlannedToFail m → IsErr result) past listed;
      failing =
          subst (λ (cs : List Logged). IsPlannedToFail old → cs ≡ [] → result ≡ Err Failed) next
          (subst (λ (m : Played). IsPlannedToFail m → commits_with before mid ≡ [] → result ≡ Err Failed) past failing);
      also = λ never. absurd never;
      failed = λ told. elim (fails told) [ inl none ↦ inl none | inr subsequent ↦ inr (inl subsequent) ];
    }

pub no_err : {T : Type 0} (x : T) (e : SourceError) → Ok x ≡ Err e → ⊥
no_err x e is = cc

abbrev pub answer_is : {T : Type 0} → T → Result T SourceError
answer_is x = Ok x

abbrev pub error_is : (T : Type 0) → SourceError → Result T SourceError
error_is T e = Err e

-- an answer is no error
pub no_listed : {T : Type 0} (x : T) → IsErr (answer_is x) → ⊥
no_listed x is = cc

pub two_errs : {T : Type 0} (r : Result T SourceError) → r ≡ Err Memory → r ≡ Err Failed → ⊥
two_errs r memory failed = cc

-- where the call went on, and then memory ran out or nothing was
pub planned_on : {T U : Type 0} (own : ℕ) (old mid new : Played) (u : U) (r : Result T SourceError) → FailsAsPlanned own ⊥ old mid (answer_is u) → (r ≡ Err Failed → ⊥) → FailsAsPlanned own ⊥ old new r
planned_on own old mid new u r planned never = record {
  full = λ full. absurd (no_err u Failed (planned.full full));
  listed = λ listed. absurd (no_listed u (planned.listed listed));
  failing = λ listed none. absurd (no_listed u (planned.listed listed));
  also = λ it. absurd it;
  failed = λ told. absurd (never told);
}

-- what holds of an answer, and after an error

pub on_ok : {T : Type 0} (P Q : Type 0) (r : Result T SourceError) → (P → Q) → OnOk r P → OnOk r Q
on_ok P Q (Ok x) gives holds = gives holds
on_ok P Q (Err e) gives holds = tt

pub err_holds : {T : Type 0} (P : Type 0) (r : Result T SourceError) (e : SourceError) → r ≡ Err e → OnErr r P → P
err_holds P (Ok x) e is holds = absurd (no_err x e is)
err_holds P (Err d) e is holds = holds

pub not_failed : {T : Type 0} (r : Result T SourceError) → IfErr r (λ e. e ≡ Memory) → r ≡ Err Failed → ⊥
not_failed (Ok x) wanting told = no_err x Failed told
not_failed {T = T} (Err e) wanting told = two_errs (error_is T e) (ap (error_is T) wanting) told
