-- What bytes are read as: one workload, one wal, and never a wal and a fault.
use Rattle.std.proofs.Common.{◌≡◌, ◌∙◌, ℕ, zero, suc, ◌<◌, Some, List, [], ◌∷◌, ◌++◌, map, take, refl, sym, ap, subst, arith, inl, inr, append_assoc}
use Rattle.std.specs.Prelude.{slice_get}
use Rattle.std.specs.List.{AllByRecursion, AllZip}
use Rattle.std.proofs.lemmas.Bool.{cases_lt}
use Rattle.std.proofs.lemmas.Option.{slice_get_within}
use Rattle.std.proofs.lemmas.List.{append-nil, take-map, take-take}
use Rattle.dbl_model_table.proofs.InfoLemmas.{one_info}
use Rattle.dbl_script.specs.declared.script.Script.{Script}
use Rattle.dbl_script.specs.declared.script.ScriptTable.{ScriptTable}
use Rattle.dbl_tables_laws.specs.TablesRows.declared.demo_table.DemoTable.{DemoTable}
use Rattle.dbl_journal.specs.Form.{IsFaultAt}
use Rattle.dbl_journal.proofs.Reading.{one_journal, journal_or_fault}
use Rattle.dbl_demo_wal.specs.declared.entry.Entry.{Entry}
use Rattle.dbl_demo_wal.specs.Entries.{entry_form, workload_form, FitsWalEntry, EncodesEntry}
use Rattle.dbl_demo_wal.proofs.EntryLaws.{one_entry, form_spells}
use Rattle.dbl_demo_wal.proofs.EntryLaws as first
use Rattle.dbl_demo_wal.specs.Workloads.{Workload, IsTableOf, IsWorkload}
use Rattle.dbl_demo_wal.specs.Sound.{HasInitialCommit, IsNextEntry, AreNext}
use Rattle.dbl_demo_wal.specs.Wals.{Wal, forms_of, IsPrefix, IsWalOf, IsWal, HasNoWorkload, HasNoRows, HasNoNext, IsFirstBad, HasBadWalEntry}
use Rattle.dbl_demo_wal.specs.Wals.IsFirstBad.{no_workload, no_rows, no_next}
use Rattle.dbl_demo_wal.proofs.ListLemmas.{fits_take, there_in_map, there_in_take}

-- ---- one workload

table_is : (line : ScriptTable) (a b : DemoTable) → IsTableOf line a → IsTableOf line b → a ≡ b
table_is line a b of_a of_b =
    let info = one_info line.raw a.info b.info of_a.info of_b.info in
    let full = of_a.full ∙ sym of_b.full in
    let toast = of_a.toast ∙ sym of_b.toast in
    λ i. record { info = info i; full = full i; toast = toast i }

pub tables_are : (lines : List ScriptTable) (a b : List DemoTable) → AllZip IsTableOf lines a → AllZip IsTableOf lines b → a ≡ b
tables_are [] [] [] h k = refl
tables_are [] [] (y ∷ b) h k = absurd k
tables_are [] (x ∷ a) b h k = absurd h
tables_are (line ∷ lines) [] b h k = absurd h
tables_are (line ∷ lines) (x ∷ a) [] h k = absurd k
tables_are (line ∷ lines) (x ∷ a) (y ∷ b) h k =
    ap (λ (z : DemoTable). z ∷ a) (table_is line x y h.0 k.0) ∙ ap (λ (zs : List DemoTable). y ∷ zs) (tables_are lines a b h.1 k.1)

pub one_workload : (bytes : List ℕ) (a b : Workload) → IsWorkload bytes a → IsWorkload bytes b → a ≡ b
one_workload bytes a b of_a of_b =
    let scripts : a.script ≡ b.script = of_a.script ∙ sym of_b.script in
    let tables : a.tables ≡ b.tables = tables_are b.script.tables a.tables b.tables (subst (λ (s : Script). AllZip IsTableOf s.tables a.tables) scripts of_a.tables) of_b.tables in
    λ i. record { script = scripts i; tables = tables i }

-- ---- one wal

one_entries : (a b : List Entry) → AllByRecursion FitsWalEntry a → AllByRecursion FitsWalEntry b → map entry_form a ≡ map entry_form b → a ≡ b
one_entries [] [] of_a of_b h = refl
one_entries [] (e ∷ b) of_a of_b h = cc
one_entries (d ∷ a) [] of_a of_b h = cc
one_entries (d ∷ a) (e ∷ b) of_a of_b h =
    let heads : entry_form d ≡ entry_form e = cc in
    let tails : map entry_form a ≡ map entry_form b = cc in
    let same : d ≡ e = one_entry (entry_form e) d e (subst (λ (w : List ℕ). EncodesEntry w d) heads (form_spells d of_a.0)) (form_spells e of_b.0) in
    ap (λ (x : Entry). x ∷ a) same ∙ ap (λ (xs : List Entry). e ∷ xs) (one_entries a b of_a.1 of_b.1 tails)

-- wals of the same forms
one_front : (a b : Wal) → forms_of a ≡ forms_of b → IsWorkload a.script a.workload → IsWorkload b.script b.workload → AllByRecursion FitsWalEntry a.entries → AllByRecursion FitsWalEntry b.entries → a ≡ b
one_front a b same of_a of_b fits_a fits_b =
    let heads : workload_form a.script ≡ workload_form b.script = cc in
    let tails : map entry_form a.entries ≡ map entry_form b.entries = cc in
    let scripts : a.script ≡ b.script = first.one_workload a.script b.script heads in
    let workloads : a.workload ≡ b.workload = one_workload b.script a.workload b.workload (subst (λ (s : List ℕ). IsWorkload s a.workload) scripts of_a) of_b in
    let entries : a.entries ≡ b.entries = one_entries a.entries b.entries fits_a fits_b tails in
    λ i. record { script = scripts i; workload = workloads i; entries = entries i }

pub one_wal : (bytes : List ℕ) (a b : Wal) → IsWal bytes a → IsWal bytes b → a ≡ b
one_wal bytes a b of_a of_b =
    let forms = one_journal bytes of_a.forms of_b.forms of_a.journal of_b.journal in
    one_front a b (sym of_a.are.are ∙ forms ∙ of_b.are.are) of_a.are.workload of_b.are.workload of_a.are.fits of_b.are.fits

front_of : (forms : List (List ℕ)) (wal : Wal) → IsWalOf forms wal → IsPrefix forms wal
front_of forms wal is = record { are = is.are; workload = is.workload; fits = is.fits; each = is.sound.each }

-- ---- entries that may stand where they do are no fault

next_at : (w : Workload) (before entries : List Entry) (k : ℕ) (e : Entry) → AreNext w before entries → slice_get entries k ≡ Some e → IsNextEntry w (before ++ take k entries) e
next_at w before [] k e are there = absurd (let t = there in cc)
next_at w before (x ∷ entries) zero e are there =
    let same : x ≡ e = (let t = there in cc) in
    subst (λ (y : Entry). IsNextEntry w (before ++ []) y) same (subst (λ (l : List Entry). IsNextEntry w l x) (sym (append-nil before)) are.0)
next_at w before (x ∷ entries) (suc k) e are there =
    subst (λ (l : List Entry). IsNextEntry w l e) (append_assoc before (x ∷ []) (take k entries)) (next_at w (before ++ x ∷ []) entries k e are.1 there)

-- the entry of a wal at a place after the first
record IsAt (wal : Wal) (k : ℕ) (form : List ℕ) : Type 0 where
  entry : Entry
  there : slice_get wal.entries k ≡ Some entry
  spells : EncodesEntry form entry

entry_there : (wal : Wal) (k : ℕ) (form : List ℕ) → AllByRecursion FitsWalEntry wal.entries → slice_get (map entry_form wal.entries) k ≡ Some form → IsAt wal k form
entry_there wal k form fits there =
    let found = there_in_map entry_form FitsWalEntry wal.entries k form fits there in
    record { entry = found.0; there = found.1; spells = subst (λ (w : List ℕ). EncodesEntry w found.0) found.3 (form_spells found.0 found.2) }

-- the first entries of a wal, as a wal
abbrev cut : Wal → ℕ → Wal
cut wal k = record wal { entries = take k wal.entries }

pub next_stands : (forms : List (List ℕ)) (wal : Wal) (m : ℕ) → IsPrefix forms wal → HasNoNext forms m → ⊥
next_stands forms wal zero front bad =
    let empty : [] ≡ forms_of bad.wal = bad.front.are in
    let contra : [] ≡ workload_form bad.wal.script ∷ map entry_form bad.wal.entries = empty in
    cc
next_stands forms wal (suc k) front bad =
    let here : slice_get (forms_of wal) (suc k) ≡ Some bad.entry = ap (λ (fs : List (List ℕ)). slice_get fs (suc k)) (sym front.are) ∙ bad.there in
    let at = entry_there wal k bad.entry front.fits here in
    let cut_forms : forms_of bad.wal ≡ forms_of (cut wal k) =
    sym bad.front.are ∙ ap (λ (fs : List (List ℕ)). take (suc k) fs) front.are ∙ ap (λ (fs : List (List ℕ)). workload_form wal.script ∷ fs) (take-map entry_form k wal.entries) in
    let same : bad.wal ≡ cut wal k = one_front bad.wal (cut wal k) cut_forms bad.front.workload front.workload bad.front.fits (fits_take FitsWalEntry k wal.entries front.fits) in
    let next : IsNextEntry wal.workload (take k wal.entries) at.entry = next_at wal.workload [] wal.entries k at.entry front.each at.there in
    bad.none at.entry at.spells (subst (λ (x : Wal). IsNextEntry x.workload x.entries at.entry) (sym same) next)

workload_stands : (forms : List (List ℕ)) (wal : Wal) → IsPrefix forms wal → HasNoWorkload forms → ⊥
workload_stands forms wal front bad = bad.none wal.script wal.workload front.workload (ap (λ (fs : List (List ℕ)). slice_get fs 0) front.are)

rows_stand : (forms : List (List ℕ)) (wal : Wal) (m : ℕ) → IsWalOf forms wal → HasNoRows forms m → ⊥
rows_stand forms wal m is bad =
    let same : bad.wal ≡ wal = one_front bad.wal wal (sym bad.front.are ∙ is.are) bad.front.workload is.workload bad.front.fits is.fits in
    bad.missing (subst (λ (x : Wal). HasInitialCommit x.workload x.entries) (sym same) is.sound.begun)

not_bad_forms : (forms : List (List ℕ)) (wal : Wal) (m : ℕ) → IsWalOf forms wal → IsFirstBad forms m → ⊥
not_bad_forms forms wal m is (no_workload at bad) = workload_stands forms wal (front_of forms wal is) bad
not_bad_forms forms wal m is (no_rows bad) = rows_stand forms wal m is bad
not_bad_forms forms wal m is (no_next bad) = next_stands forms wal m (front_of forms wal is) bad

pub not_bad : (bytes : List ℕ) (wal : Wal) (index : ℕ) → IsWal bytes wal → HasBadWalEntry bytes index → ⊥
not_bad bytes wal index is bad =
    let forms = one_journal bytes is.forms bad.forms is.journal bad.journal in
    not_bad_forms bad.forms wal index (subst (λ (fs : List (List ℕ)). IsWalOf fs wal) forms is.are) bad.bad

pub no_fault : (bytes : List ℕ) (wal : Wal) (at : ℕ) → IsWal bytes wal → IsFaultAt bytes at → ⊥
no_fault bytes wal at is fault = journal_or_fault bytes is.forms at is.journal fault

pub not_both : (bytes : List ℕ) (at index : ℕ) → IsFaultAt bytes at → HasBadWalEntry bytes index → ⊥
not_both bytes at index fault bad = journal_or_fault bytes bad.forms at bad.journal fault

-- ---- one first bad entry

-- a bad entry among the first so many
shorter : (forms : List (List ℕ)) (m n : ℕ) → m < n → HasNoNext forms m → HasNoNext (take n forms) m
shorter forms m n lt bad = record {
  wal = bad.wal;
  front = subst (λ (fs : List (List ℕ)). IsPrefix fs bad.wal) (sym (take-take m n forms (omega (arith, lt)))) bad.front;
  entry = bad.entry;
  there = there_in_take forms m n bad.entry lt bad.there;
  none = bad.none;
}

no_workload_in : (forms : List (List ℕ)) (n : ℕ) → 0 < n → HasNoWorkload forms → HasNoWorkload (take n forms)
no_workload_in forms zero lt bad = absurd (omega (arith, lt))
no_workload_in [] (suc n) lt bad = record { none = bad.none }
no_workload_in (form ∷ forms) (suc n) lt bad = record { none = bad.none }

not_before : (forms : List (List ℕ)) (m n : ℕ) → m < n → IsFirstBad forms m → IsFirstBad forms n → ⊥
not_before forms m n lt a (no_workload at b) = omega (arith, at, lt)
not_before forms m n lt (no_workload at a) (no_rows b) = workload_stands forms b.wal b.front a
not_before forms m n lt (no_rows a) (no_rows b) = omega (arith, a.place, b.place, lt)
not_before forms m n lt (no_next a) (no_rows b) = next_stands forms b.wal m b.front a
not_before forms m n lt (no_workload at a) (no_next b) = workload_stands (take n forms) b.wal b.front (no_workload_in forms n (omega (arith, lt)) a)
not_before forms m n lt (no_rows a) (no_next b) = omega (arith, a.place, lt, slice_get_within forms n b.entry b.there)
not_before forms m n lt (no_next a) (no_next b) = next_stands (take n forms) b.wal m b.front (shorter forms m n lt a)

one_bad_forms : (forms : List (List ℕ)) (m n : ℕ) → IsFirstBad forms m → IsFirstBad forms n → m ≡ n
one_bad_forms forms m n a b =
    elim (cases_lt m n) [
      | inl lt ↦ absurd (not_before forms m n lt a b)
      | inr le ↦ elim (cases_lt n m) [
        | inl lt ↦ absurd (not_before forms n m lt b a)
        | inr ge ↦ omega arith
      ]
    ]

pub one_bad : (bytes : List ℕ) (m n : ℕ) → HasBadWalEntry bytes m → HasBadWalEntry bytes n → m ≡ n
one_bad bytes m n a b =
    let forms = one_journal bytes a.forms b.forms a.journal b.journal in
    one_bad_forms b.forms m n (subst (λ (fs : List (List ℕ)). IsFirstBad fs m) forms a.bad) b.bad
