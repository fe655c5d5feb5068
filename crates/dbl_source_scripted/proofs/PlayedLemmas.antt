-- How a call of a played source ends: it doesn't begin, or memory runs out, or it answers.
use Rattle.std.proofs.Common.{◌≡◌, ◌∙◌, ◌≤◌, inl, inr, ℕ, List, refl, sym, ap, subst}
use Rattle.std.specs.Prelude.{Err}
use Rattle.dbl_source_log.specs.declared.logged.Logged.{Logged}
use Rattle.dbl_source_log.specs.declared.error.SourceError.{SourceError}
use Rattle.dbl_source_log.specs.declared.error.SourceError.TheVariants.{Failed, Memory}
use Rattle.dbl_source_scripted.specs.Played.{Played, commits_before, past_move, with_release, with_fault, FailsAsPlanned}
use Rattle.dbl_source_scripted.specs.Steps.{KeepsPlayed, AddedFirst, IsUnfit, FailsToRead}
use Rattle.dbl_source_scripted.specs.Exits.{Plays}
use Rattle.dbl_source_scripted.proofs.MemoryLemmas.{added_all}
use Rattle.dbl_source_scripted.proofs.PlannedLemmas.{no_err, answer_is, error_is, no_listed, two_errs}

same_err : {T U : Type 0} (e x : SourceError) → error_is U e ≡ Err x → error_is T e ≡ Err x
same_err {T = T} e x is = (let same : e ≡ x = cc in ap (error_is T) same)

-- it didn't begin
pub stopped : {T U : Type 0} (own : ℕ) (more : Type 0) (commits : List Logged) (done : T → Played → Type 0) (old new : Played) (e : SourceError) → KeepsPlayed old → old.plan.faults ≤ new.plan.faults
    → FailsAsPlanned own ⊥ old new (error_is U e) → (error_is U e ≡ Err Memory → AddedFirst commits (past_move old) new) → Plays own more commits done old new (error_is T e)
stopped own more commits done old new e kept later planned memory = record {
  kept = kept;
  later = later;
  planned = record {
    full = λ full. same_err e Failed (planned.full full);
    listed = λ listed. refl;
    failing = λ listed none. same_err e Failed (planned.failing listed none);
    also = λ it. refl;
    failed = λ told. elim (planned.failed (same_err e Failed told)) [ inl full ↦ inl full | inr (inl listed) ↦ inr (inl listed) | inr (inr never) ↦ absurd never.0 ];
  };
  memory = λ told. memory (same_err e Memory told);
  played = tt;
}

-- it began, and then memory ran out
pub wanted : {T U : Type 0} (own : ℕ) (more : Type 0) (commits : List Logged) (done : T → Played → Type 0) (old mid new : Played) (e : SourceError) (u : U) → e ≡ Memory → KeepsPlayed old → old.plan.faults ≤ new.plan.faults
    → FailsAsPlanned own ⊥ old mid (answer_is u) → AddedFirst commits (past_move old) new → Plays own more commits done old new (error_is T e)
wanted {T = T} own more commits done old mid new e u is kept later planned added = record {
  kept = kept;
  later = later;
  planned = record {
    full = λ full. absurd (no_err u Failed (planned.full full));
    listed = λ listed. refl;
    failing = λ listed none. absurd (no_listed u (planned.listed listed));
    also = λ it. refl;
    failed = λ told. absurd (two_errs (error_is T e) (ap (error_is T) is) told);
  };
  memory = λ told. added;
  played = tt;
}

-- it answered
pub answered : {T U : Type 0} (own : ℕ) (more : Type 0) (commits : List Logged) (done : T → Played → Type 0) (old mid new : Played) (u : U) (x : T) → KeepsPlayed old → old.plan.faults ≤ new.plan.faults
    → FailsAsPlanned own ⊥ old mid (answer_is u) → (more → ⊥) → done x new → Plays own more commits done old new (answer_is x)
answered own more commits done old mid new u x kept later planned never it = record {
  kept = kept;
  later = later;
  planned = record {
    full = λ full. absurd (no_err u Failed (planned.full full));
    listed = λ listed. absurd (no_listed u (planned.listed listed));
    failing = λ listed none. absurd (no_listed u (planned.listed listed));
    also = λ more. absurd (never more);
    failed = λ told. absurd (no_err x Failed told);
  };
  memory = λ told. absurd (no_err x Memory told);
  played = it;
}

-- it began, and then the next message had no spelling
unread : {T U : Type 0} (commits : List Logged) (done : T → Played → Type 0) (old mid new : Played) (u : U) → KeepsPlayed old → old.plan.faults ≤ new.plan.faults
    → FailsAsPlanned 0 ⊥ old mid (answer_is u) → mid ≡ with_release old → new ≡ with_fault mid → IsUnfit mid → Plays 0 (IsUnfit (with_release old)) commits done old new (error_is T Failed)
unread {T = T} commits done old mid new u kept later planned begun is unfit = record {
  kept = kept;
  later = later;
  planned = record {
    full = λ full. refl;
    listed = λ listed. refl;
    failing = λ listed none. refl;
    also = λ it. refl;
    failed = λ told. inr (inr (
      subst IsUnfit begun unfit,
      λ listed. no_listed u (planned.listed listed),
      λ full. no_err u Failed (planned.full full),
      is ∙ ap with_fault begun,
    ));
  };
  memory = λ told. absurd (two_errs (error_is T Failed) told refl);
  played = tt;
}

-- it began, and then it couldn't be read
pub read_failed : {T U : Type 0} (done : T → Played → Type 0) (old mid new : Played) (e : SourceError) (u : U) → KeepsPlayed old → old.plan.faults ≤ new.plan.faults
    → FailsAsPlanned 0 ⊥ old mid (answer_is u) → mid ≡ with_release old → FailsToRead mid new e → Plays 0 (IsUnfit (with_release old)) (commits_before old) done old new (error_is T e)
read_failed {T = T} done old mid new e u kept later planned begun fails = elim fails [
  | inl memory ↦ wanted 0 (IsUnfit (with_release old)) (commits_before old) done old mid new e u memory.0 kept later planned
      (added_all old new (λ listed. no_listed u (planned.listed listed)) (memory.1 ∙ begun))
  | inr failed ↦ subst (λ (x : SourceError). Plays 0 (IsUnfit (with_release old)) (commits_before old) done old new (error_is T x)) (sym failed.0)
      (unread (commits_before old) done old mid new u kept later planned begun failed.1 failed.2)
]
