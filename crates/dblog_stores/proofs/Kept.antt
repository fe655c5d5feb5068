-- Disks that are only read, step by step.
use Rattle.std.proofs.Common.{◌≡◌, ◌∙◌, ℕ, ◌≤◌, Result, Err, List, refl, ap, arith}
use Rattle.std.specs.Prelude.{◌↔◌}
use Rattle.dbl_base.specs.Streams.{FaultCounted}
use Rattle.dbl_disk.specs.Model.{DiskModel}
use Rattle.dbl_journal.specs.Stored.{IsSteady}
use Rattle.dblog_stores.specs.declared.error.CommandError.{CommandError}
use Rattle.dbl_journal.specs.Calls.{Keeps}

abbrev pub failed_with : {T E : Type 0} → E → Result T E
failed_with e = Err e

pub err_one : {T E : Type 0} (x y : E) → failed_with {T = T} x ≡ failed_with y → x ≡ y
err_one x y h = cc

module _ {D : Type 0} (model : DiskModel D) where
  pub keeps_itself : (failed : Type 0) (disk : D) → ¬ failed → Keeps model failed disk disk
  keeps_itself failed disk none = record {
    same = refl;
    crash = λ crashed may. may;
    later = omega arith;
    cause = λ f. absurd (none f);
    steady = λ n bytes told. refl;
  }

  -- a step that failed nowhere, and another one
  pub keeps_then : (failed : Type 0) (first second third : D) → Keeps model ⊥ first second → Keeps model failed second third → Keeps model failed first third
  keeps_then failed first second third a b = record {
    same = b.same ∙ a.same;
    crash = λ crashed may. a.crash crashed (b.crash crashed may);
    later = omega (arith, a.later, b.later);
    cause = λ f. omega (arith, a.later, b.cause f);
    steady = λ n bytes told. b.steady n bytes (a.same ∙ told) ∙ a.steady (λ f. f) bytes told;
  }

  -- the same failure in other words
  pub keeps_as : (failed other : Type 0) (first second : D) → (other → failed) → (failed → other) → Keeps model failed first second → Keeps model other first second
  keeps_as failed other first second back forth k = record {
    same = k.same;
    crash = k.crash;
    later = k.later;
    cause = λ f. k.cause (back f);
    steady = λ n. k.steady (λ f. n (forth f));
  }

  pub keeps_never : (failed : Type 0) (first second : D) → ¬ failed → Keeps model ⊥ first second → Keeps model failed first second
  keeps_never failed first second none k = keeps_as ⊥ failed first second (λ f. none f) (λ f. absurd f) k

  -- the failure as a result tells it
  pub keeps_told : {T : Type 0} (wanted told : CommandError) (first second : D) → Keeps model (told ≡ wanted) first second → Keeps model (failed_with {T = T} told ≡ failed_with wanted) first second
  keeps_told wanted told first second k = keeps_as (told ≡ wanted) _ first second (λ f. err_one told wanted f) (λ e. ap failed_with e) k

  -- a call that only reads
  pub keeps_read : (first second : D) → model.seen second ≡ model.seen first → ((crashed : List ℕ) → model.may_leave second crashed ↔ model.may_leave first crashed) → model.faults first ≤ model.faults second → IsSteady model first second → Keeps model ⊥ first second
  keeps_read first second same crash later steady = record {
    same = same;
    crash = λ crashed may. (crash crashed).0 may;
    later = later;
    cause = λ f. absurd f;
    steady = λ n. steady;
  }

  pub keeps_failed : (failed : Type 0) (first second : D) → model.seen second ≡ model.seen first → ((crashed : List ℕ) → model.may_leave second crashed → model.may_leave first crashed) → model.faults first ≤ model.faults second
      → (failed → FaultCounted (model.faults first) (model.faults second)) → (¬ failed → IsSteady model first second) → Keeps model failed first second
  keeps_failed failed first second same crash later cause steady = record { same = same; crash = crash; later = later; cause = cause; steady = steady }

  -- a step that told another thing than the failure
  pub keeps_ok : (failed : Type 0) (first second : D) → ¬ failed → Keeps model failed first second → Keeps model ⊥ first second
  keeps_ok failed first second none k = keeps_as failed ⊥ first second (λ f. absurd f) (λ f. none f) k

  -- the same error in a result of another type
  pub keeps_retold : {T U : Type 0} (wanted told : CommandError) (first second : D) → Keeps model (failed_with {T = T} told ≡ failed_with wanted) first second → Keeps model (failed_with {T = U} told ≡ failed_with wanted) first second
  keeps_retold wanted told first second k = keeps_as _ _ first second (λ f. ap failed_with (err_one told wanted f)) (λ f. ap failed_with (err_one told wanted f)) k
