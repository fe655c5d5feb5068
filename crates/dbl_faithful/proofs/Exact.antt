-- A record that is delivered keeps the log exact, where snapshots are after all earlier commits' records.
use Rattle.std.proofs.Common.{◌≡◌, ◌≢◌, ◌∙◌, ◌⊎◌, inl, inr, ⊎_elim, ◌+◌, ◌≤◌, ◌<◌, ℕ, suc, Bool, true, false, List, [], ◌∷◌, ◌++◌, Some, length, take, refl, sym, ap, subst, arith, append_assoc, append-nil}
use Rattle.std.specs.Prelude.{slice_get}
use Rattle.std.specs.List.{AllZip}
use Rattle.std.proofs.lemmas.Bool.{cases_eq, cases_order}
use Rattle.dbl_record.specs.declared.record.Record.{Record}
use Rattle.dbl_record.specs.Places.{Place, place_of, IsBefore, IsFresh}
use Rattle.dbl_model_table.specs.declared.identity.Identity.{Identity}
use Rattle.dbl_model_table.specs.Rows.{no_rows}
use Rattle.dbl_model_table.proofs.Lists.{bool_case, slice_get-lt}
use Rattle.dbl_faithful.specs.Kinds.{is_change_record}
use Rattle.dbl_faithful.specs.ToldEvents.{ToldEvent, events_since, IsPrint, IsAmong, HasRecordOfEvent, ArePutBefore}
use Rattle.dbl_faithful.specs.ExactLogs.{is_fresh, news_of, news, IsExact}
use Rattle.dbl_faithful.specs.ExactLaws.{IsFreshChange, Repeats, ExactLogsHaveOneCount, RepeatsAreEarlier, GapsSpoilExactLogs}
use Rattle.dbl_faithful.specs.CaughtUp.{IsExactLog}
use Rattle.dbl_faithful.proofs.Items.{at_left, at_cases, at_take, taken_at, only_item, take_push, taken_length, all_by_place, at_all, zip_beside, zip_length, zip_append}
use Rattle.dbl_faithful.proofs.Trace.{told_place, print_place, TellsRise, TellChanges, not_at_itself, told_one, after_rise, after_changes}
use Rattle.dbl_faithful.proofs.News.{AreBefore, fresh_true, stale, fresh_before, news_fresh, news_stale, news_other, news-push, news_same, news_stand}

two_ways : {X : Type 0} (b : Bool) → b ≡ true → b ≡ false → X
two_ways b is isnt = cc

-- what stands of the records that are no changes: each after all earlier events, and at no event's position
pub record AreBehind (identity : Identity) (told : List ToldEvent) (records : List Record) : Type 0 where
  pub put : (place : ℕ) (item : Record) → slice_get records place ≡ Some item → is_change_record item ≡ false → ArePutBefore identity records told item.position
  pub apart : (place : ℕ) (item : Record) → slice_get records place ≡ Some item → is_change_record item ≡ false
      → (number : ℕ) (t : ToldEvent) → slice_get told number ≡ Some t → t.event.position ≡ item.position → ⊥

-- these records tell the events from a number on
abbrev pub GoOn : Identity → List ToldEvent → ℕ → List Record → Type 0
GoOn identity told index more = (j : ℕ) (item : Record) → slice_get more j ≡ Some item → (t : ToldEvent) × (slice_get told (index + j) ≡ Some t) × IsPrint identity t item

pub put_more : (identity : Identity) (xs ys : List Record) (t : ToldEvent) → HasRecordOfEvent identity xs t → HasRecordOfEvent identity (xs ++ ys) t
put_more identity xs ys t put = record { place = put.place; item = put.item; stands = at_left xs ys put.place put.item put.stands; is = put.is }

next_number : (n count : ℕ) → n ≤ count → n ≢ count → n < count
next_number n count le apart = omega (arith, le, apart)

suc_le : (n count : ℕ) → n < count → suc n ≤ count
suc_le n count lt = omega (arith, lt)

not_beyond : (n : ℕ) → n < n → ⊥
not_beyond n lt = omega (arith, lt)

module _ (identity : Identity) (told : List ToldEvent) (rise : TellsRise told) (kinds : TellChanges identity told) where
  -- ---- what an exact log has

  -- the fresh record of an event
  pub first_print : (records : List Record) (count number : ℕ) (t : ToldEvent) → IsExact identity told records count → slice_get told number ≡ Some t → number < count
      → (item : Record) × IsPrint identity t item × IsFreshChange records item
  first_print records count number t exact at lt =
      let beside = zip_beside (IsPrint identity) (take count told) (news records) number t exact.fresh (at_take count told number t at lt) in
      (beside.0, beside.2, news_stand records number beside.0 beside.1)

  -- an event that some record tells is one of the first
  pub put_among : (records : List Record) (count number : ℕ) (t : ToldEvent) → IsExact identity told records count → slice_get told number ≡ Some t → HasRecordOfEvent identity records t → number < count
  put_among records count number t exact at put =
      let among : IsAmong identity (take count told) put.item = exact.others put.place put.item put.stands (kinds number t put.item at put.is) in
      let stands = taken_at count told among.number among.event among.stands in
      let same : told_place among.event ≡ told_place t = sym (print_place identity among.event put.item among.is) ∙ print_place identity t put.item put.is in
      let one : among.number ≡ number = told_one told rise among.number number among.event t stands.1 at same in
      subst (λ (n : ℕ). n < count) one stands.0

  -- ---- one record more

  -- an event that is told again
  exact_again : (records : List Record) (number : ℕ) (t : ToldEvent) (item : Record) (count : ℕ) → IsExact identity told records count → slice_get told number ≡ Some t → IsPrint identity t item → number < count
      → IsExact identity told (records ++ item ∷ []) count
  exact_again records number t item count exact at is lt =
      let first = first_print records count number t exact at lt in
      let same : place_of first.0 ≡ place_of item = print_place identity t first.0 first.1 ∙ sym (print_place identity t item is) in
      let old : is_fresh records item ≡ false = stale records item first.2.place first.0 first.2.stands (not_at_itself (place_of first.0) (place_of item) same) in
      let own : IsAmong identity (take count told) item = record { number = number; event = t; stands = at_take count told number t at lt; is = is } in
      record {
        few = exact.few;
        fresh = subst (AllZip (IsPrint identity) (take count told)) (sym (news_same records item (news_stale records item old))) exact.fresh;
        others = λ place x there change. elim (at_cases records (item ∷ []) place x there) [
          | inl before ↦ exact.others place x before change
          | inr last ↦ subst (IsAmong identity (take count told)) (only_item item x last.0 last.1) own
        ];
      }

  -- the next event is after every record
  next_after : (records : List Record) (t : ToldEvent) (item : Record) (count : ℕ) → IsExact identity told records count → AreBehind identity told records → slice_get told count ≡ Some t → IsPrint identity t item → AreBefore records item
  next_after records t item count exact subsequent at is = all_by_place (λ (earlier : Record). IsBefore (place_of earlier) (place_of item)) records (λ k x there. before k x there (bool_case (is_change_record x)))
    where
      before : (k : ℕ) (x : Record) → slice_get records k ≡ Some x → (is_change_record x ≡ true) ⊎ (is_change_record x ≡ false) → IsBefore (place_of x) (place_of item)
      before k x there (inl change) = (
          let among : IsAmong identity (take count told) x = exact.others k x there change in
          let stands = taken_at count told among.number among.event among.stands in
          let earlier : IsBefore (told_place among.event) (told_place t) = rise among.number count among.event t stands.0 stands.1 at in
          subst (λ (p : Place). IsBefore p (place_of item)) (sym (print_place identity among.event x among.is))
          (subst (IsBefore (told_place among.event)) (sym (print_place identity t item is)) earlier))
      before k x there (inr other) = (
          let here : item.position ≡ t.event.position = ap (λ (p : Place). p.0) (print_place identity t item is) in
          elim (cases_order x.position item.position) [
            | inl same ↦ absurd (subsequent.apart k x there other count t at (sym here ∙ sym same))
            | inr rest ↦ elim rest [
              | inl lt ↦ inl lt
              | inr gt ↦ absurd (not_beyond count (put_among records count count t exact at (subsequent.put k x there other count t at (subst (λ (p : ℕ). p < x.position) here gt))))
            ]
          ])

  exact_next : (records : List Record) (t : ToldEvent) (item : Record) (count : ℕ) → IsExact identity told records count → AreBehind identity told records → slice_get told count ≡ Some t → IsPrint identity t item
      → IsExact identity told (records ++ item ∷ []) (suc count)
  exact_next records t item count exact subsequent at is =
      let change : is_change_record item ≡ true = kinds count t item at is in
      let fresh : is_fresh records item ≡ true = fresh_true records item (next_after records t item count exact subsequent at is) in
      let one : news_of records item ≡ item ∷ [] = news_fresh records item fresh change in
      let news_are : news (records ++ item ∷ []) ≡ news records ++ item ∷ [] = news-push records item ∙ ap (λ (l : List Record). news records ++ l) one in
      let told_are : take (suc count) told ≡ take count told ++ t ∷ [] = take_push told count t at in
      let listed : AllZip (IsPrint identity) (take count told ++ t ∷ []) (news records ++ item ∷ []) = zip_append (IsPrint identity) (take count told) (t ∷ []) (news records) (item ∷ []) exact.fresh (is, tt) in
      let own : IsAmong identity (take (suc count) told) item = record { number = count; event = t; stands = at_take (suc count) told count t at (after count); is = is } in
      record {
        few = suc_le count (length told) (slice_get-lt told count t at);
        fresh = subst (λ (l : List ToldEvent). AllZip (IsPrint identity) l (news (records ++ item ∷ []))) (sym told_are)
            (subst (AllZip (IsPrint identity) (take count told ++ t ∷ [])) (sym news_are) listed);
        others = λ place x there is_one. elim (at_cases records (item ∷ []) place x there) [
          | inl before ↦ wider (exact.others place x before is_one)
          | inr last ↦ subst (IsAmong identity (take (suc count) told)) (only_item item x last.0 last.1) own
        ];
      }
    where
      after : (n : ℕ) → n < suc n
      after n = omega arith

      onward : (k n : ℕ) → k < n → k < suc n
      onward k n lt = omega (arith, lt)

      wider : {x : Record} → IsAmong identity (take count told) x → IsAmong identity (take (suc count) told) x
      wider among = (
          let stands = taken_at count told among.number among.event among.stands in
          record { number = among.number; event = among.event; stands = at_take (suc count) told among.number among.event stands.1 (onward among.number count stands.0); is = among.is })

  -- a record that is no change
  exact_other : (records : List Record) (item : Record) (count : ℕ) → IsExact identity told records count → is_change_record item ≡ false → IsExact identity told (records ++ item ∷ []) count
  exact_other records item count exact other = record {
    few = exact.few;
    fresh = subst (AllZip (IsPrint identity) (take count told)) (sym (news_same records item (news_other records item other))) exact.fresh;
    others = λ place x there change. elim (at_cases records (item ∷ []) place x there) [
      | inl before ↦ exact.others place x before change
      | inr last ↦ two_ways (is_change_record x) change (ap is_change_record (sym (only_item item x last.0 last.1)) ∙ other)
    ];
  }

  -- ---- what was put stays put

  pub after_change : (records : List Record) (item : Record) → is_change_record item ≡ true → AreBehind identity told records → AreBehind identity told (records ++ item ∷ [])
  after_change records item change subsequent = record {
    put = λ place x there other number t at lt. elim (at_cases records (item ∷ []) place x there) [
      | inl before ↦ put_more identity records (item ∷ []) t (subsequent.put place x before other number t at lt)
      | inr last ↦ two_ways (is_change_record x) (ap is_change_record (sym (only_item item x last.0 last.1)) ∙ change) other
    ];
    apart = λ place x there other. elim (at_cases records (item ∷ []) place x there) [
      | inl before ↦ subsequent.apart place x before other
      | inr last ↦ two_ways (is_change_record x) (ap is_change_record (sym (only_item item x last.0 last.1)) ∙ change) other
    ];
  }

  -- ---- records that are redelivered or new

  log_one : (records : List Record) (index : ℕ) (t : ToldEvent) (item : Record) → slice_get told index ≡ Some t → IsPrint identity t item → AreBehind identity told records → IsExactLog identity told records index
      → IsExactLog identity told (records ++ item ∷ []) (suc index)
  log_one records index t item at is subsequent log = ⊎_elim
      (λ (same : index ≡ log.count). record {
        count = suc log.count;
        exact = exact_next records t item log.count log.exact subsequent (ap (slice_get told) (sym same) ∙ at) is;
        not_after = at_end index log.count same;
      })
      (λ (apart : index ≢ log.count). (
      let lt : index < log.count = next_number index log.count log.not_after apart in
      record {
        count = log.count;
        exact = exact_again records index t item log.count log.exact at is lt;
        not_after = suc_le index log.count lt;
      }))
      (cases_eq index log.count)
    where
      at_end : (a b : ℕ) → a ≡ b → suc a ≤ suc b
      at_end a b same = omega (arith, same)

  pub log_more : (records more : List Record) (index : ℕ) → GoOn identity told index more → AreBehind identity told records → IsExactLog identity told records index
      → IsExactLog identity told (records ++ more) (index + length more) × AreBehind identity told (records ++ more)
  log_more records [] index next subsequent log =
      let e : index ≡ index + 0 = omega arith in
      let same : records ≡ records ++ [] = sym (append-nil records) in
      (subst (IsExactLog identity told (records ++ [])) e (subst (λ (l : List Record). IsExactLog identity told l index) same log), subst (AreBehind identity told) same subsequent)
  log_more records (item ∷ more) index next subsequent log =
      let own = next 0 item refl in
      let here : index + 0 ≡ index = omega arith in
      let at : slice_get told index ≡ Some own.0 = ap (slice_get told) (sym here) ∙ own.1 in
      let later : GoOn identity told (suc index) more = (λ j x there. moved j (next (suc j) x there)) in
      let rest = log_more (records ++ item ∷ []) more (suc index) later (after_change records item (kinds index own.0 item at own.2) subsequent) (log_one records index own.0 item at own.2 subsequent log) in
      let count : suc index + length more ≡ index + suc (length more) = omega arith in
      let list : (records ++ item ∷ []) ++ more ≡ records ++ item ∷ more = append_assoc records (item ∷ []) more in (
        subst (IsExactLog identity told (records ++ item ∷ more)) count (subst (λ (l : List Record). IsExactLog identity told l (suc index + length more)) list rest.0),
        subst (AreBehind identity told) list rest.1,
      )
    where
      moved : {x : Record} (j : ℕ) → (t : ToldEvent) × (slice_get told (index + suc j) ≡ Some t) × IsPrint identity t x → (t : ToldEvent) × (slice_get told (suc index + j) ≡ Some t) × IsPrint identity t x
      moved j found = (found.0, (let e : suc index + j ≡ index + suc j = omega arith in ap (slice_get told) e ∙ found.1), found.2)

  -- records of a snapshot
  pub log_others : (records more : List Record) (index : ℕ) → ((j : ℕ) (item : Record) → slice_get more j ≡ Some item → is_change_record item ≡ false) → IsExactLog identity told records index → IsExactLog identity told (records ++ more) index
  log_others records [] index others log = subst (λ (l : List Record). IsExactLog identity told l index) (sym (append-nil records)) log
  log_others records (item ∷ more) index others log =
      let now : IsExactLog identity told (records ++ item ∷ []) index = record { count = log.count; exact = exact_other records item log.count log.exact (others 0 item refl); not_after = log.not_after } in
      subst (λ (l : List Record). IsExactLog identity told l index) (append_assoc records (item ∷ []) more)
      (log_others (records ++ item ∷ []) more index (λ j x at. others (suc j) x at) now)

  -- ---- the laws, of these events

  pub repeats : (records : List Record) (count place : ℕ) (item : Record) → IsExact identity told records count → slice_get records place ≡ Some item → is_change_record item ≡ true → (IsFresh records place → ⊥) → Repeats identity records place item
  repeats records count place item exact at change isnt =
      let among : IsAmong identity (take count told) item = exact.others place item at change in
      let stands = taken_at count told among.number among.event among.stands in
      let first = first_print records count among.number among.event exact stands.1 stands.0 in
      let same : place_of first.0 ≡ place_of item = print_place identity among.event first.0 first.1 ∙ sym (print_place identity among.event item among.is) in
      elim (cases_order first.2.place place) [
        | inl here ↦ absurd (isnt (subst (IsFresh records) here first.2.fresh))
        | inr rest ↦ elim rest [
          | inl lt ↦ record { earlier = first.2.place; first = first.0; before = lt; stands = first.2.stands; event = among.event; was = first.1; is = among.is }
          | inr gt ↦ absurd (not_at_itself (place_of item) (place_of first.0) (sym same)
              (at_all (λ (earlier : Record). IsBefore (place_of earlier) (place_of first.0)) (take first.2.place records) place item
              (fresh_before records first.2.place first.0 first.2.stands first.2.fresh) (at_take first.2.place records place item at gt)))
        ]
      ]

  pub gaps : (records : List Record) (count place number : ℕ) (item late : Record) (t : ToldEvent) → slice_get records place ≡ Some item → slice_get told number ≡ Some t → t.event.position < item.position
      → (HasRecordOfEvent identity records t → ⊥) → IsPrint identity t late → IsExact identity told (records ++ late ∷ []) count → ⊥
  gaps records count place number item late t at at_told lt unput is exact =
      let last : slice_get (records ++ late ∷ []) (length records) ≡ Some late = seam records in
      let here : number < count = put_among (records ++ late ∷ []) count number t exact at_told (record { place = length records; item = late; stands = last; is = is }) in
      let where_late : late.position ≡ t.event.position = ap (λ (p : Place). p.0) (print_place identity t late is) in
      let old : is_fresh records late ≡ false = stale records late place item at (subsequent (place_of item) (place_of late) (subst (λ (p : ℕ). p < item.position) (sym where_late) lt)) in
      let beside = zip_beside (IsPrint identity) (take count told) (news (records ++ late ∷ [])) number t exact.fresh (at_take count told number t at_told here) in
      let among : slice_get (news records) number ≡ Some beside.0 = ap (λ (l : List Record). slice_get l number) (sym (news_same records late (news_stale records late old))) ∙ beside.1 in
      let stood = news_stand records number beside.0 among in
      unput (record { place = stood.place; item = beside.0; stands = stood.stands; is = beside.2 })
    where
      seam : (xs : List Record) → slice_get (xs ++ late ∷ []) (length xs) ≡ Some late
      seam [] = refl
      seam (x ∷ xs) = seam xs

      subsequent : (a b : Place) → b.0 < a.0 → IsBefore a b → ⊥
      subsequent a b lt (inl sooner) = absurd (omega (arith, lt, sooner))
      subsequent a b lt (inr same) = let e : a.0 ≡ b.0 = same.0 in absurd (omega (arith, lt, e))

-- ---- the laws

pub exact_logs_have_one_count : ExactLogsHaveOneCount
exact_logs_have_one_count identity told records a b one two =
    sym (taken_length a told one.few)
    ∙ (zip_length (IsPrint identity) (take a told) (news records) one.fresh
    ∙ (sym (zip_length (IsPrint identity) (take b told) (news records) two.fresh) ∙ taken_length b told two.few))

pub repeats_are_earlier : RepeatsAreEarlier
repeats_are_earlier identity infos versions start records place item fit log at change isnt =
    repeats identity (events_since start versions) (after_rise start 0 versions fit.rise) (after_changes identity start no_rows versions fit.fit) records log.0 place item log.1 at change isnt

pub gaps_spoil_exact_logs : GapsSpoilExactLogs
gaps_spoil_exact_logs identity infos versions start records place number item late event fit at at_told lt unput is log =
    gaps identity (events_since start versions) (after_rise start 0 versions fit.rise) (after_changes identity start no_rows versions fit.fit) records log.0 place number item late event at at_told lt unput is log.1
