-- Stores that only go on.
use Rattle.std.proofs.Common.{◌≡◌, ◌∙◌, inl, inr, ◌+◌, ◌≤◌, ◌<◌, ℕ, suc, Bool, true, false, cond, filter, length, take, drop, subst, arith, List, [], ◌∷◌, ◌++◌, Option, Some, None, refl, sym, ap, append_assoc, append-nil, le_refl}
use Rattle.std.specs.Prelude.{nat_lt, slice_get, option_map, unwrap_or, zip}
use Rattle.std.specs.List.{AllByRecursion, AllZip}
use Rattle.std.proofs.lemmas.Bool.Decides.{Decides-ltb}
use Rattle.dbl_record.specs.declared.record.Record.{Record}
use Rattle.dbl_record.specs.Places.{Place, place_of, IsBefore}
use Rattle.dbl_model_table.specs.declared.config.Config.{Config}
use Rattle.dbl_model_table.specs.declared.table.TableInfo.{TableInfo}
use Rattle.dbl_consume_laws.specs.ModelHistory.declared.cursor.Cursor.{Cursor}
use Rattle.dbl_consume_laws.specs.ModelHistory.History.{History}
use Rattle.dbl_consume_laws.specs.ModelHistory.InForce.{IsAlike}
use Rattle.dbl_offset_content.specs.declared.offset.Offset.{Offset}
use Rattle.dbl_consume_laws.specs.ModelEvent.Snapshots.{chunk_records}
use Rattle.dbl_consume_laws.proofs.Notices.{all_append}
use Rattle.dbl_consume_courses.specs.Versions.{Versioned}
use Rattle.dbl_faithful.specs.ToldEvents.{ToldEvent, commits_since, events_since, IsPrint}
use Rattle.dbl_faithful.proofs.Items.{taken_at, drop_get, all_by_place, at_all, zip_at}
use Rattle.dbl_faithful.proofs.RightSnapshots.{listing, listing_places}
use Rattle.dbl_faithful.proofs.Trace.{told_place, print_place, told_at, event_position, after_rise}
use Rattle.dbl_faithful.specs.Onward.{IsLaterCursor, IsLaterProgress, OffsetGoesOn, PlacesRise}
use Rattle.dbl_faithful.specs.Laws.{StoresStayOnward, AddsGoOn, AddsAreOne, SentRecordsRise, WindowsRise}

-- ---- cursors

itself : (cursor : Cursor) → IsLaterCursor cursor cursor
itself cursor = record { last = λ key up. up; done = λ is. is }

pub cursors_stay : (cursors : List (ℕ × Cursor)) → AllZip IsLaterProgress cursors cursors
cursors_stay [] = tt
cursors_stay (c ∷ cursors) = (λ same. itself c.1, cursors_stay cursors)

pub infos_stay : (infos : List TableInfo) → AllZip IsAlike infos infos
infos_stay [] = tt
infos_stay (info ∷ infos) = (record { name = refl; keys = refl; types = refl }, infos_stay infos)

pub versions_stay : (versions : List ℕ) → AllZip (λ before after. before ≤ after) versions versions
versions_stay [] = tt
versions_stay (version ∷ versions) = (le_refl version, versions_stay versions)

-- ---- offsets

stays : (config : Config) (history : History) (offset : Option Offset) → OffsetGoesOn config history history offset offset
stays config history None = tt
stays config history (Some offset) =
    record { identity = refl; infos = infos_stay offset.infos; versions = versions_stay offset.versions; start = refl; lsn = le_refl offset.lsn.0; cursors = cursors_stay (zip offset.versions offset.cursors); incarnation = inl refl }

pub stores_stay_onward : StoresStayOnward
stores_stay_onward config stores = record {
  tables = refl;
  commits = record { more = []; is = sym (append-nil stores.history.commits) };
  records = record { more = []; is = sym (append-nil stores.records) };
  offset = stays config stores.history stores.offset;
}

-- ---- what was appended

rise_append : (xs ys : List Record) → PlacesRise xs → PlacesRise ys → AllByRecursion (λ item. AllByRecursion (λ later. IsBefore (place_of item) (place_of later)) ys) xs → PlacesRise (xs ++ ys)
rise_append [] ys one two all = two
rise_append (x ∷ xs) ys one two all = (all_append (λ (later : Record). IsBefore (place_of x) (place_of later)) xs ys one.0 all.0, rise_append xs ys one.1 two all.1)

pub adds_go_on : AddsGoOn
adds_go_on from a b c one two all = record {
  more = one.more ++ two.more;
  is = two.is ∙ (ap (λ (l : List Record). l ++ two.more) one.is ∙ append_assoc a one.more two.more);
  above = all_append (λ (item : Record). from < item.position) one.more two.more one.above two.above;
  rise = rise_append one.more two.more one.rise two.rise all;
}

abbrev tail_of : List Record → List Record
tail_of [] = []
tail_of (x ∷ xs) = xs

cancel : (xs ys zs : List Record) → xs ++ ys ≡ xs ++ zs → ys ≡ zs
cancel [] ys zs e = e
cancel (x ∷ xs) ys zs e = cancel xs ys zs (ap tail_of e)

pub adds_are_one : AddsAreOne
adds_are_one from old new one two = cancel old one.more two.more (sym one.is ∙ two.is)

-- ---- what a session appends

first_before : (j : ℕ) → 0 < suc j
first_before j = omega arith

rise_by_place : (rs : List Record) → ((i j : ℕ) (a b : Record) → i < j → slice_get rs i ≡ Some a → slice_get rs j ≡ Some b → IsBefore (place_of a) (place_of b)) → PlacesRise rs
rise_by_place [] before = tt
rise_by_place (r ∷ rs) before = (
  all_by_place (λ (later : Record). IsBefore (place_of r) (place_of later)) rs (λ j b at. before 0 (suc j) r b (first_before j) refl at),
  rise_by_place rs (λ i j a b lt at_a at_b. before (suc i) (suc j) a b (omega (arith, lt)) at_a at_b),
)

-- what a filter leaves passes it
pub passing : (p : Versioned → Bool) (versions : List Versioned) → AllByRecursion (λ v. p v ≡ true) (filter p versions)
passing p [] = tt
passing p (v ∷ versions) = by (passing p versions) (p v) refl
  where
    by : AllByRecursion (λ x. p x ≡ true) (filter p versions) → (b : Bool) → p v ≡ b → AllByRecursion (λ x. p x ≡ true) (cond b (v ∷ filter p versions) (filter p versions))
    by rest true is = (is, rest)
    by rest false is = rest

both_on : (n i j : ℕ) → i < j → n + i < n + j
both_on n i j lt = omega (arith, lt)

pub sent_records_rise : SentRecordsRise
sent_records_rise identity versions from n more rise zipped = (
  all_by_place (λ (item : Record). from < item.position) more (λ j item at. let one = stands j item at in subst (λ (p : ℕ). from < p) (sym (ap (λ (p : Place). p.0) (print_place identity one.0 item one.2))) (after_from (n + j) one.0 one.1)),
  rise_by_place more (λ i j a b lt at_a at_b. (
      let one = stands i a at_a in
      let two = stands j b at_b in
      let told : IsBefore (told_place one.0) (told_place two.0) = after_rise from 0 versions rise (n + i) (n + j) one.0 two.0 (both_on n i j lt) one.1 two.1 in
      subst (λ (p : Place). IsBefore p (place_of b)) (sym (print_place identity one.0 a one.2)) (subst (IsBefore (told_place one.0)) (sym (print_place identity two.0 b two.2)) told))),
)
  where
    stands : (k : ℕ) (item : Record) → slice_get more k ≡ Some item → (t : ToldEvent) × (slice_get (events_since from versions) (n + k) ≡ Some t) × IsPrint identity t item
    stands k item at =
        let found = zip_at (IsPrint identity) (take (length more) (drop n (events_since from versions))) more k item zipped at in
        let placed = taken_at (length more) (drop n (events_since from versions)) k found.0 found.1 in
        (found.0, sym (drop_get n (events_since from versions) k) ∙ placed.1, found.2)

    after_from : (k : ℕ) (t : ToldEvent) → slice_get (events_since from versions) k ≡ Some t → from < t.event.position
    after_from k t at =
        let found = told_at (commits_since from versions) k t at in
        let passes : nat_lt from found.version.lsn.0 ≡ true =
        at_all (λ (v : Versioned). nat_lt from v.lsn.0 ≡ true) (commits_since from versions) found.place found.version (passing (λ (v : Versioned). nat_lt from v.lsn.0) versions) found.commit_at in
        subst (λ (p : ℕ). from < p) (sym (event_position (commits_since from versions) t found)) ((Decides-ltb from found.version.lsn.0).0 passes)

by_ordinal : (a b i j : ℕ) → a ≡ 0 + i → b ≡ 0 + j → i < j → a < b
by_ordinal a b i j one two lt = omega (arith, one, two, lt)

pub windows_rise : WindowsRise
windows_rise identity infos closed mark now snapshot n listed = (
  all_by_place (λ (item : Record). item.position ≡ mark.lsn.0) (take n snapshot) (λ j item at. (places j item at).0),
  rise_by_place (take n snapshot) (λ i j a b lt at_a at_b. (
      let one = places i a at_a in
      let two = places j b at_b in
      inr (one.0 ∙ sym two.0, by_ordinal a.ordinal b.ordinal i j one.1 two.1 lt))),
)
  where
    from_zero : (k : ℕ) → k ≡ 0 + k
    from_zero k = omega arith

    chunk_is : snapshot ≡ listing identity listed.info mark now closed.through closed.done 0 (0 + length closed.rows) closed.rows
    chunk_is =
        listed.records_are
        ∙ (ap (λ (o : Option TableInfo). unwrap_or (option_map (λ i. chunk_records identity i closed.rows closed.through closed.done mark now) o) []) listed.captured
        ∙ ap (λ (o : ℕ). listing identity listed.info mark now closed.through closed.done 0 o closed.rows) (from_zero (length closed.rows)))

    places : (k : ℕ) (item : Record) → slice_get (take n snapshot) k ≡ Some item → (item.position ≡ mark.lsn.0) × (item.ordinal ≡ 0 + k)
    places k item at =
        listing_places identity listed.info mark now closed.through closed.done 0 closed.rows k item
        (ap (λ (l : List Record). slice_get l k) (sym chunk_is) ∙ (taken_at n snapshot k item at).1)
