-- What a run leaves of its disks.
use Rattle.std.proofs.Common.{◌≡◌, ◌⊎◌, inl, inr, ℕ, ◌≤◌, Bool, true, false, Option, List, refl, sym, subst, arith}
use Rattle.dbl_base.specs.Streams.{FaultCounted}
use Rattle.dblog_run_stores.specs.Disks.{IsOnlyRead}
use Rattle.dbl_lines.specs.declared.status.Status.{Status}
use Rattle.dbl_lines.specs.Says.{IsCutShort}
use Rattle.dbl_disk.specs.Model.{DiskModel}
use Rattle.dbl_journal.specs.Calls.{Keeps}

-- a count that rose before others grew, or after them
pub rose_before : (a b c : ℕ) → FaultCounted a b → b ≤ c → FaultCounted a c
rose_before a b c rose later = omega (arith, rose, later)

pub rose_after : (a b c : ℕ) → a ≤ b → FaultCounted b c → FaultCounted a c
rose_after a b c earlier rose = omega (arith, earlier, rose)

module _ {D : Type 0} (model : DiskModel D) where
  -- a command that only reads the disk failed with it where the status says so, and says so where it did
  pub only_read : (failed : Type 0) (fault status : Status) (old new : D) → (status ≡ fault → failed) → (failed → (status ≡ fault) ⊎ IsCutShort status) → Keeps model failed old new → IsOnlyRead model fault status old new
  only_read failed fault status old new back forth k = record {
    same = k.same;
    crash = k.crash;
    later = k.later;
    cause = λ is. k.cause (back is);
    steady = λ other whole. k.steady (λ f. elim (forth f) [ inl is ↦ other is | inr cut ↦ whole cut ]);
  }

  same_disk : (fault status : Status) (disk : D) → (status ≡ fault → ⊥) → IsOnlyRead model fault status disk disk
  same_disk fault status disk none = record { same = refl; crash = λ crashed may. may; later = omega arith; cause = λ is. absurd (none is); steady = λ other whole bytes told. refl }

  pub not_read : (fault status : Status) (old new : D) → (status ≡ fault → ⊥) → new ≡ old → IsOnlyRead model fault status old new
  not_read fault status old new none is = subst (λ (d : D). IsOnlyRead model fault status old d) (sym is) (same_disk fault status old none)

  pub read_or_not : (opens : Bool) (fault status : Status) (old new : D) → (opens ≡ false → status ≡ fault → ⊥) → (opens ≡ false → new ≡ old) → (opens ≡ true → IsOnlyRead model fault status old new) → IsOnlyRead model fault status old new
  read_or_not true fault status old new none stays reads = reads refl
  read_or_not false fault status old new none stays reads = not_read fault status old new (none refl) (stays refl)
