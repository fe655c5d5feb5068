-- A table's version: what is read was written, and what was written is read again.
use Rattle.std.proofs.Common.{◌≡◌, ◌∙◌, ℕ, ◌^◌, ◌<◌, ◌≤◌, Bool, true, false, eqb, ltb, List, [], ◌++◌, Ok, refl, sym, ap, subst, arith}
use Rattle.std.proofs.lemmas.Bool.{lt-ltb, ltb-true}
use Rattle.dbl_record.specs.GroupReading.{Read}
use Rattle.dbl_record.proofs.FieldLaws.{IsBytes, ok_is, guard_held, Takes, Reads, took, number64_reads}
use Rattle.dbl_offset_versions.specs.Versions.{table_version_at, version_form}

-- a version that the format has: format 1 has version 1 alone
pub record IsVersionIn (format version : ℕ) : Type 0 where
  pub counted : 1 ≤ version
  pub small : version < 2 ^ 64
  pub first : eqb format 1 ≡ true → version ≡ 1

again_by : (b : Bool) (format version : ℕ) (rest : List ℕ) → eqb format 1 ≡ b → IsVersionIn format version → table_version_at format (version_form format version ++ rest) ≡ Ok (version, rest)
unfolding table_version_at version_form
again_by true format version rest is h = rw is (ap (λ (v : ℕ). Ok (v, rest)) (sym (h.first is)))
again_by false format version rest is h =
    let some : ltb 0 version ≡ true = lt-ltb 0 version (omega (arith, h.counted)) in
    rw (is, (number64_reads 0).again version rest h.small, some) refl

version_again : (format version : ℕ) (rest : List ℕ) → IsVersionIn format version → table_version_at format (version_form format version ++ rest) ≡ Ok (version, rest)
version_again format version rest h = again_by (eqb format 1) format version rest refl h

abbrev ReadsVersion : ℕ → List ℕ → ℕ → List ℕ → Type 0
ReadsVersion format bytes version rest = Takes bytes (version_form format version) rest × IsVersionIn format version

takes_by : (b : Bool) (format : ℕ) (bytes : List ℕ) (version : ℕ) (rest : List ℕ) → eqb format 1 ≡ b → IsBytes bytes → table_version_at format bytes ≡ Ok (version, rest) → ReadsVersion format bytes version rest
unfolding table_version_at version_form
takes_by true format bytes version rest is fits e =
    let one : ◌≡◌ {A = Read ℕ} (Ok (1, bytes)) (Ok (version, rest)) = rw is at e in
    let takes : Takes bytes (version_form format 1) bytes = rw is (record { parts = refl; rest_fits = fits }) in
    subst (λ (y : ℕ × List ℕ). ReadsVersion format bytes y.0 y.1) (ok_is (1, bytes) (version, rest) one) (takes, record { counted = omega arith; small = omega arith; first = λ same. refl })
takes_by false format bytes version rest is fits e =
    let read = rw is at e in
    let n = took (number64_reads 0) bytes [] bytes _ (version, rest) (record { parts = refl; rest_fits = fits }) read in
    let g = guard_held (ltb 0 n.value) _ (Ok (n.value, n.rest)) (version, rest) n.more in
    let above : 0 < n.value = ltb-true _ _ g.0 in
    let takes : Takes bytes (version_form format n.value) n.rest = rw is n.takes in
    let in_format : IsVersionIn format n.value = record { counted = omega (arith, above); small = n.fits; first = λ same. (let no : true ≡ false = sym same ∙ is in cc) } in
    subst (λ (y : ℕ × List ℕ). ReadsVersion format bytes y.0 y.1) (ok_is (n.value, n.rest) (version, rest) g.1) (takes, in_format)

version_takes : (format : ℕ) (bytes : List ℕ) (version : ℕ) (rest : List ℕ) → IsBytes bytes → table_version_at format bytes ≡ Ok (version, rest) → Takes bytes (version_form format version) rest × IsVersionIn format version
version_takes format bytes version rest fits e = takes_by (eqb format 1) format bytes version rest refl fits e

pub version_reads : (format : ℕ) → Reads (table_version_at format) (version_form format) (IsVersionIn format)
version_reads format = record { again = version_again format; takes = version_takes format }
