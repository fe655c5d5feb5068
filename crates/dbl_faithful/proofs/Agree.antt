-- At each fresh record that is the last of its commit a consumer agrees with the source.
use Rattle.std.proofs.Common.{◌≡◌, ◌∙◌, inl, inr, ◌+◌, ◌-◌, ◌≤◌, ◌<◌, ℕ, zero, suc, ℤ, All, List, [], ◌∷◌, ◌++◌, Bool, true, false, Option, Some, length, take, refl, sym, ap, subst, arith, add-one, length-append}
use Rattle.std.specs.Prelude.{slice_get}
use Rattle.std.specs.List.{AllByRecursion}
use Rattle.std.proofs.lemmas.Bool.{cases_lt}
use Rattle.std.proofs.lemmas.Bool.Decides.{Decides-eqb}
use Rattle.std.proofs.lemmas.List.{take-append-le, take_all}
use Rattle.std.proofs.lemmas.List.Elements.{recursion_from_All}
use Rattle.dbl_record.specs.declared.record.Record.{Record}
use Rattle.dbl_record.specs.Places.{place_of, IsBefore, IsFresh}
use Rattle.dbl_model_table.specs.declared.identity.Identity.{Identity}
use Rattle.dbl_model_table.specs.declared.row.Key.{Key}
use Rattle.dbl_model_table.specs.declared.row.Row.{Row}
use Rattle.dbl_model_table.specs.declared.table.TableInfo.{TableInfo}
use Rattle.dbl_model_table.specs.declared.change.Commit.{Commit}
use Rattle.dbl_model_table.specs.Rows.{rows}
use Rattle.dbl_consume_laws.specs.ModelHistory.Image.{image_row}
use Rattle.dbl_consume_laws.specs.ModelEvent.EventJson.{envelopes}
use Rattle.dbl_consume_laws.specs.ModelEvent.Snapshots.{read_record, read_records, progress_record}
use Rattle.dbl_consume_laws.proofs.ModelEventEventLemmas.{commits_are_numbered}
use Rattle.dbl_consume_laws.specs.Laws.{HoldsJsonTexts}
use Rattle.dbl_consume_laws.specs.Commits.{moment_after}
use Rattle.dbl_consume_laws.specs.Ages.{held_row}
use Rattle.dbl_consume_laws.proofs.Lists.{slice_get-front, slice_get-subsequent}
use Rattle.dbl_consume_laws.proofs.Notices.{all_append}
use Rattle.dbl_consume_courses.specs.Versions.{Versioned}
use Rattle.dbl_consume_courses.specs.Courses.{Course, course}
use Rattle.dbl_consume_courses.specs.AlteredTables.{IsKnownIn, AgreesInCourse, IsAgedFrom}
use Rattle.dbl_consume_courses.specs.FitVersions.{AreFitVersions}
use Rattle.dbl_consume_courses.specs.KeyRows.{HasRowsOfKeys}
use Rattle.dbl_consume_courses.proofs.AgreementLemmas.{tables_agree}
use Rattle.dbl_faithful.specs.Agreements.{HasKeyedRows}
use Rattle.dbl_faithful.proofs.Items.{all_weaker}
use Rattle.dbl_faithful.proofs.KeyedRows.{of_table}

-- ---- lists

pub slice_get-take : {X : Type 0} (n : ℕ) (xs : List X) (j : ℕ) (x : X) → slice_get (take n xs) j ≡ Some x → slice_get xs j ≡ Some x
slice_get-take zero xs j x at = cc
slice_get-take (suc n) [] j x at = cc
slice_get-take (suc n) (y ∷ xs) zero x at = at
slice_get-take (suc n) (y ∷ xs) (suc j) x at = slice_get-take n xs j x at

-- a front that has the last item is the whole list
pub take_whole : {X : Type 0} (n : ℕ) (xs : List X) (j : ℕ) (x : X) → slice_get (take n xs) j ≡ Some x → j + 1 ≡ length xs → take n xs ≡ xs
take_whole zero xs j x at e = cc
take_whole (suc n) [] j x at e = cc
take_whole (suc zero) (y ∷ []) zero x at e = refl
take_whole (suc (suc n)) (y ∷ []) zero x at e = refl
take_whole (suc n) (y ∷ z ∷ xs) zero x at e = absurd (omega (arith, e))
take_whole (suc n) (y ∷ xs) (suc j) x at e = ap (λ (l : List _). y ∷ l) (take_whole n xs j x at (omega (arith, e)))

take_suc : {X : Type 0} (xs : List X) (i : ℕ) (x : X) → slice_get xs i ≡ Some x → take (suc i) xs ≡ take i xs ++ x ∷ []
take_suc [] i x at = cc
take_suc (y ∷ xs) zero x at = let e : y ≡ x = cc in ap (λ (z : _). z ∷ []) e
take_suc (y ∷ xs) (suc i) x at = ap (λ (l : List _). y ∷ l) (take_suc xs i x at)

-- with the next item
take_next : {X : Type 0} (xs : List X) (i : ℕ) (x : X) → slice_get xs i ≡ Some x → take (i + 1) xs ≡ take i xs ++ x ∷ []
take_next xs i x at = rw add-one (take_suc xs i x at)

same_item : {X : Type 0} (o : Option X) (x y : X) → o ≡ Some x → o ≡ Some y → x ≡ y
same_item o x y one two = cc

-- ---- numbers

early_le : (i n : ℕ) → i < n → i ≤ n
early_le i n lt = omega (arith, lt)

early_end : (i n : ℕ) → i < n → i + 1 ≤ n
early_end i n lt = omega (arith, lt)

whole_end : (i a j n w : ℕ) → a ≤ i → j ≡ i - a → j + 1 ≡ n → w ≡ a + n → w ≤ i + 1
whole_end i a j n w le is end size = omega (arith, le, is, end, size)

-- ---- records of one position

-- each is at the position, and the last of the list alone says that it is the last
abbrev pub IsRun : ℕ → List Record → Type 0
IsRun position rs = (j : ℕ) (item : Record) → slice_get rs j ≡ Some item → (item.position ≡ position) × (item.last ≡ true → j + 1 ≡ length rs)

-- records up to a fresh one aren't after it
not_after : (earlier item : Record) → IsBefore (place_of earlier) (place_of item) → earlier.position ≤ item.position
not_after earlier item (inl lt) = omega (arith, lt)
not_after earlier item (inr same) = omega (arith, same.0)

itself : (n : ℕ) → n ≤ n
itself n = omega arith

under : (records : List Record) (i : ℕ) (item : Record) → slice_get records i ≡ Some item → IsFresh records i → AllByRecursion (λ earlier. earlier.position ≤ item.position) (take (i + 1) records)
under records i item at fresh =
    let one : fresh.0 ≡ item = same_item (slice_get records i) fresh.0 item fresh.1 at in
    let before : AllByRecursion (λ earlier. IsBefore (place_of earlier) (place_of item)) (take i records) =
    recursion_from_All (λ earlier. IsBefore (place_of earlier) (place_of item)) (take i records) (subst (λ (r : Record). All (λ earlier. IsBefore (place_of earlier) (place_of r)) (take i records)) one fresh.2) in
    subst (AllByRecursion (λ (earlier : Record). earlier.position ≤ item.position)) (sym (take_next records i item at))
    (all_append (λ (earlier : Record). earlier.position ≤ item.position) (take i records) (item ∷ [])
    (all_weaker (λ (earlier : Record). IsBefore (place_of earlier) (place_of item)) (λ (earlier : Record). earlier.position ≤ item.position) (take i records) (λ earlier less. not_after earlier item less) before) (itself item.position, tt))

module _ (identity : Identity) (infos : List TableInfo) (versions : List Versioned) (fit : AreFitVersions infos versions) (start : ℕ) where
  -- With any front of such records. Where one of the front says that it is the last, the records are aged at its position with all of them.
  pub agrees_more : (records rs : List Record) (position n : ℕ) → IsRun position rs
      → ((j : ℕ) (item : Record) → slice_get (take n rs) j ≡ Some item → item.last ≡ true → (table : ℕ) → IsAgedFrom identity infos versions start (records ++ rs) position table)
      → HasKeyedRows identity infos (records ++ rs) → AgreesInCourse identity infos versions start records → AgreesInCourse identity infos versions start (records ++ take n rs)
  agrees_more records rs position n run aged keyed agrees = record {
    each = λ i item at fresh last topic text table key names known. elim (cases_lt i (length records)) [
      | inl early ↦ (
          let same : take (i + 1) (records ++ take n rs) ≡ take (i + 1) records = take-append-le (i + 1) records (take n rs) (early_end i (length records) early) in
          let front : take i (records ++ take n rs) ≡ take i records = take-append-le i records (take n rs) (early_le i (length records) early) in
          let old_at : slice_get records i ≡ Some item = sym (slice_get-front records (take n rs) i early) ∙ at in
          let old_fresh : IsFresh records i =
          (fresh.0, sym (slice_get-front records (take n rs) i early) ∙ fresh.1, subst (All (λ earlier. IsBefore (place_of earlier) (place_of fresh.0))) front fresh.2) in
          let c : Course = course infos versions start table item.position in
          subst (λ (l : List Record). HoldsJsonTexts (held_row identity l topic text) (image_row c.infos (rows c.infos c.commits (moment_after c.commits)) table key)) (sym same)
          (agrees.each i item old_at old_fresh last topic text table key names (subst (λ (l : List Record). IsKnownIn identity c l (moment_after c.commits) table key) same known)))
      | inr late ↦ (
          let j : ℕ = i - length records in
          let at_front : slice_get (take n rs) j ≡ Some item = sym (slice_get-subsequent records (take n rs) i late) ∙ at in
          let at_rs : slice_get rs j ≡ Some item = slice_get-take n rs j item at_front in
          let end : j + 1 ≡ length rs = (run j item at_rs).1 last in
          let full : take n rs ≡ rs = take_whole n rs j item at_front end in
          let listed : take (i + 1) (records ++ take n rs) ≡ records ++ rs =
          ap (λ (l : List Record). take (i + 1) (records ++ l)) full ∙ take_all (i + 1) (records ++ rs) (whole_end i (length records) j (length rs) (length (records ++ rs)) late refl end (length-append records rs)) in
          let own : IsAgedFrom identity infos versions start (take (i + 1) (records ++ take n rs)) item.position table =
          subst (λ (l : List Record). IsAgedFrom identity infos versions start l item.position table) (sym listed)
          (subst (λ (p : ℕ). IsAgedFrom identity infos versions start (records ++ rs) p table) (sym (run j item at_rs).0) (aged j item at_front last table)) in
          let rows_of : HasRowsOfKeys identity infos (take (i + 1) (records ++ take n rs)) table =
          subst (λ (l : List Record). HasRowsOfKeys identity infos l table) (sym listed) (of_table identity infos (records ++ rs) table fit.distinct keyed) in
          tables_agree identity infos versions start item.position table (take (i + 1) (records ++ take n rs)) topic text key fit own (under (records ++ take n rs) i item at fresh) rows_of names known)
    ];
  }

-- ---- the records of a commit

pub commit_run : (identity : Identity) (infos : List TableInfo) (commit : Commit) (now : ℤ) → IsRun commit.lsn.0 (envelopes identity infos commit now)
commit_run identity infos commit now j item at =
    let numbered = commits_are_numbered identity infos commit now j item at in
    (numbered.0, λ last. (Decides-eqb (j + 1) (length (envelopes identity infos commit now))).0 (sym numbered.2 ∙ last))

-- ---- the records of a snapshot

first_item : (x item : Record) → Some x ≡ Some item → x ≡ item
first_item x item e = cc

-- a row's record isn't the last
not_last : (x item : Record) (n : ℕ) → x ≡ item → x.last ≡ false → item.last ≡ true → 0 + 1 ≡ n
not_last x item n e isnt is = let contra : false ≡ true = sym isnt ∙ (ap (λ (r : Record). r.last) e ∙ is) in cc

read_last : (identity : Identity) (info : TableInfo) (mark : Commit) (now : ℤ) (ordinal last : ℕ) (rows : List (Key × Row)) (through : Option Key) (done : Bool) (j : ℕ) (item : Record)
    → slice_get (read_records identity info mark now ordinal rows ++ progress_record identity info mark last through done ∷ []) j ≡ Some item
    → (item.position ≡ mark.lsn.0) × (item.last ≡ true → j + 1 ≡ length (read_records identity info mark now ordinal rows ++ progress_record identity info mark last through done ∷ []))
read_last identity info mark now ordinal last [] through done zero item at =
    let e = first_item (progress_record identity info mark last through done) item at in
    (ap (λ (r : Record). r.position) (sym e), λ is. omega arith)
read_last identity info mark now ordinal last [] through done (suc j) item at = cc
read_last identity info mark now ordinal last (entry ∷ rows) through done zero item at =
    let e = first_item (read_record identity info mark now ordinal entry) item at in
    (ap (λ (r : Record). r.position) (sym e), λ is. not_last (read_record identity info mark now ordinal entry) item _ e refl is)
read_last identity info mark now ordinal last (entry ∷ rows) through done (suc j) item at =
    let rest = read_last identity info mark now (ordinal + 1) last rows through done j item at in
    (rest.0, λ is. (let e : j + 1 ≡ length (read_records identity info mark now (ordinal + 1) rows ++ progress_record identity info mark last through done ∷ []) = rest.1 is in omega (arith, e)))

pub chunk_run : (identity : Identity) (info : TableInfo) (mark : Commit) (now : ℤ) (last : ℕ) (rows : List (Key × Row)) (through : Option Key) (done : Bool) → IsRun mark.lsn.0 (read_records identity info mark now 0 rows ++ progress_record identity info mark last through done ∷ [])
chunk_run identity info mark now last rows through done j item at = read_last identity info mark now 0 last rows through done j item at
