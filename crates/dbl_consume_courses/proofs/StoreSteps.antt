-- Agreement and stored progress with more records and in longer histories.
use Rattle.std.proofs.Common.{◌≡◌, ◌∙◌, inl, inr, ℕ, zero, suc, ◌+◌, ◌≤◌, ◌<◌, Some, List, [], ◌∷◌, ◌++◌, length, take, refl, sym, ap, subst, arith, append-nil, append_assoc}
use Rattle.std.proofs.lemmas.Bool.{cases_lt}
use Rattle.std.proofs.lemmas.List.{take-append-le}
use Rattle.std.proofs.lemmas.List.Elements.{recursion_from_All}
use Rattle.std.specs.Prelude.{All, slice_get}
use Rattle.std.specs.List.{AllByRecursion}
use Rattle.dbl_record.specs.declared.record.Record.{Record}
use Rattle.dbl_record.specs.Places.{place_of, IsBefore, IsFresh}
use Rattle.dbl_model_table.specs.Rows.{rows}
use Rattle.dbl_model_history.specs.Image.{image_row}
use Rattle.dbl_consume_laws.specs.Commits.{moment_after}
use Rattle.dbl_consume_laws.specs.Laws.{HoldsJsonTexts}
use Rattle.dbl_consume_laws.specs.Ages.{held_row}
use Rattle.dbl_consume_laws.proofs.Lists.{slice_get-front}
use Rattle.dbl_consume_courses.specs.AlteredTables.{IsKnownIn}
use Rattle.dbl_consume_courses.specs.Courses.{course}
use Rattle.dbl_consume_courses.specs.Versions.{Versioned, versions_to}
use Rattle.dbl_consume_courses.specs.VersionStores.{alterations_of, version_to}
use Rattle.dbl_consume_courses.specs.StoreSteps.{AgreementGoesOn, CursorsStayWithMoreRecords, CursorsStayAtLaterPositions, CursorsStayAsHistoriesGrow, ReportsAreCursors}
use Rattle.dbl_consume_courses.proofs.AgreementLemmas.{tables_agree}
use Rattle.dbl_consume_courses.proofs.Alone.{all_weaker}
use Rattle.dbl_consume_courses.proofs.BetweenLemmas.{to_append}
use Rattle.dbl_consume_courses.proofs.Positions.{le_trans, le_lt}
use Rattle.dbl_consume_courses.proofs.VersionLemmas.{none_to}

-- ---- records up to a fresh one

not_after : (earlier item : Record) → IsBefore (place_of earlier) (place_of item) → earlier.position ≤ item.position
not_after earlier item (inl lt) = omega (arith, lt)
not_after earlier item (inr same) = omega (arith, same.0)

with_next : (xs : List Record) (i : ℕ) (item : Record) (P : Record → Type 0) → slice_get xs i ≡ Some item → AllByRecursion P (take i xs) → P item → AllByRecursion P (take (i + 1) xs)
with_next [] i item P at all one = cc
with_next (x ∷ xs) zero item P at all one = let same : x ≡ item = cc in (subst P (sym same) one, tt)
with_next (x ∷ xs) (suc i) item P at all one =
    let one_more : suc (i + 1) ≡ suc i + 1 = omega arith in
    subst (λ (n : ℕ). AllByRecursion P (take n (x ∷ xs))) one_more (all.0, with_next xs i item P at all.1 one)

under : (records : List Record) (i : ℕ) (item : Record) → slice_get records i ≡ Some item → IsFresh records i → AllByRecursion (λ earlier. earlier.position ≤ item.position) (take (i + 1) records)
under records i item at fresh =
    let one : Some fresh.0 ≡ Some item = sym fresh.1 ∙ at in
    let same : fresh.0 ≡ item = cc in
    let before : AllByRecursion (λ earlier. IsBefore (place_of earlier) (place_of fresh.0)) (take i records) = recursion_from_All (λ earlier. IsBefore (place_of earlier) (place_of fresh.0)) (take i records) fresh.2 in
    with_next records i item (λ earlier. earlier.position ≤ item.position) at
    (all_weaker (λ (earlier : Record). IsBefore (place_of earlier) (place_of fresh.0)) (λ (earlier : Record). earlier.position ≤ item.position)
    (λ earlier less. subst (λ (r : Record). earlier.position ≤ r.position) same (not_after earlier fresh.0 less)) (take i records) before) (omega arith)

pub goes_on : AgreementGoesOn
goes_on identity infos versions start records more valid before aged rows_of = record {
  each = λ i item at fresh last topic text table key names known. elim (cases_lt i (length records)) [
    | inl lt ↦ (
        let front : take (i + 1) (records ++ more) ≡ take (i + 1) records = take-append-le (i + 1) records more (omega (arith, lt)) in
        let less : take i (records ++ more) ≡ take i records = take-append-le i records more (omega (arith, lt)) in
        let old_at : slice_get records i ≡ Some item = sym (slice_get-front records more i lt) ∙ at in
        let old_fresh : IsFresh records i = (fresh.0, sym (slice_get-front records more i lt) ∙ fresh.1, subst (All (λ earlier. IsBefore (place_of earlier) (place_of fresh.0))) less fresh.2) in
        subst (λ (l : List Record). HoldsJsonTexts (held_row identity l topic text) (image_row (course infos versions start table item.position).infos (rows (course infos versions start table item.position).infos (course infos versions start table item.position).commits (moment_after (course infos versions start table item.position).commits)) table key)) (sym front)
        (before.each i item old_at old_fresh last topic text table key names
        (subst (λ (l : List Record). IsKnownIn identity (course infos versions start table item.position) l (moment_after (course infos versions start table item.position).commits) table key) front known)))
    | inr ge ↦ tables_agree identity infos versions start item.position table (take (i + 1) (records ++ more)) topic text key valid (aged i item ge at fresh last table) (under (records ++ more) i item at fresh) (rows_of (i + 1) table) names known
  ];
}

-- ---- progress

all_append : (P : Record → Type 0) (xs ys : List Record) → AllByRecursion P xs → AllByRecursion P ys → AllByRecursion P (xs ++ ys)
all_append P [] ys one two = two
all_append P (x ∷ xs) ys one two = (one.0, all_append P xs ys one.1 two)

pub more_records : CursorsStayWithMoreRecords
more_records identity versions records more lsn table info version cursor late told = record {
  earlier = told.earlier;
  item = told.item;
  later = told.later ++ more;
  spelled = ap (λ (l : List Record). l ++ more) told.spelled ∙ append_assoc told.earlier (told.item ∷ told.later) more;
  reports = told.reports;
  not_after = told.not_after;
  settled = all_append (λ next. told.item.position ≤ next.position) told.later more told.settled
      (all_weaker (λ (next : Record). lsn ≤ next.position) (λ (next : Record). told.item.position ≤ next.position) (λ next le. le_trans told.item.position lsn next.position told.not_after le) more late);
  version_is = told.version_is;
}

pub later_positions : CursorsStayAtLaterPositions
later_positions identity versions records lsn later table info version cursor le told = record {
  earlier = told.earlier;
  item = told.item;
  later = told.later;
  spelled = told.spelled;
  reports = told.reports;
  not_after = le_trans told.item.position lsn later told.not_after le;
  settled = told.settled;
  version_is = told.version_is;
}

version_longer : (versions more : List Versioned) (table position : ℕ) → AllByRecursion (λ v. position < v.lsn.0) more → version_to (versions ++ more) table position ≡ version_to versions table position
version_longer versions more table position past =
    ap (λ (l : List Versioned). suc (alterations_of table l))
    (to_append position versions more ∙ (ap (λ (l : List Versioned). versions_to position versions ++ l) (none_to position more past) ∙ append-nil (versions_to position versions)))

pub longer_histories : CursorsStayAsHistoriesGrow
longer_histories identity versions more records lsn table info version cursor past told = record {
  earlier = told.earlier;
  item = told.item;
  later = told.later;
  spelled = told.spelled;
  reports = told.reports;
  not_after = told.not_after;
  settled = told.settled;
  version_is = told.version_is ∙ sym (version_longer versions more table told.item.position
      (all_weaker (λ (v : Versioned). lsn < v.lsn.0) (λ (v : Versioned). told.item.position < v.lsn.0) (λ v lt. le_lt told.item.position lsn v.lsn.0 told.not_after lt) more past));
}

pub reports_are : ReportsAreCursors
reports_are identity versions records item table info cursor reports = record {
  earlier = records;
  item = item;
  later = [];
  spelled = refl;
  reports = reports;
  not_after = omega arith;
  settled = tt;
  version_is = refl;
}
