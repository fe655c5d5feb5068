-- The records of a commit, each made at its own time, keep the agreement as those that are made at one time do.
use Rattle.std.proofs.Common.{◌≡◌, ◌∙◌, inr, ◌+◌, ◌≤◌, ◌<◌, ℕ, zero, suc, ℤ, pos, true, List, [], ◌∷◌, ◌++◌, Option, Some, None, length, take, map, flat_map, refl, sym, ap, subst, arith, w64, le_refl}
use Rattle.std.specs.Prelude.{slice_get}
use Rattle.std.specs.Option.{option_or}
use Rattle.std.specs.List.{AllZip}
use Rattle.std.proofs.lemmas.List.{length-map, take_all}
use Rattle.jiff_core.proofs.SignedLemmas.{signed_arith, fits_between}
use Rattle.dbl_record.specs.declared.record.Record.{Record}
use Rattle.dbl_model_table.specs.declared.identity.Identity.{Identity}
use Rattle.dbl_model_table.specs.declared.table.TableInfo.{TableInfo}
use Rattle.dbl_model_table.specs.declared.change.Commit.{Commit}
use Rattle.dbl_model_table.specs.Rows.{no_rows, changes_of}
use Rattle.dbl_model_table.proofs.Lists.{slice_get-lt}
use Rattle.dbl_consume_laws.specs.ModelHistory.Ranges.{IsCommitInRange, IsMomentInRange}
use Rattle.dbl_consume_laws.specs.ModelEvent.Events.{Notice, Event, notices, numbered, events_of}
use Rattle.dbl_consume_laws.specs.ModelEvent.EventJson.{print, envelopes}
use Rattle.dbl_consume_laws.specs.ModelEvent.Clashes.{notice_clash, first_found, clash_of}
use Rattle.dbl_consume_laws.proofs.Lists.{slice_get-seam}
use Rattle.dbl_consume_courses.specs.Versions.{Versioned, plain_commit}
use Rattle.dbl_consume_courses.specs.AlteredTables.{AgreesInCourse}
use Rattle.dbl_consume_courses.specs.AgesBetween.{IsLsnOf, AreAgedBetween}
use Rattle.dbl_consume_courses.specs.FitVersions.{AreFitVersions}
use Rattle.dbl_consume_courses.proofs.BetweenLemmas.{parts_between, commits_between}
use Rattle.dbl_consume_courses.proofs.SameLemmas.{fit_at}
use Rattle.dbl_faithful.specs.Agreements.{HasKeyedRows, AgreesUpTo}
use Rattle.dbl_faithful.specs.CaughtLaws.{IsNextAfter, PrintsAreCaught, AllPrintsAreCaught}
use Rattle.dbl_faithful.specs.ToldEvents.{ToldEvent, tell, events_of_commit, IsPrint, IsClearPrint}
use Rattle.dbl_faithful.proofs.Agree.{IsRun, agrees_more, commit_run}
use Rattle.dbl_faithful.proofs.Items.{taken_at, mapped, map_get, take_long, zip_at, zip_length}
use Rattle.dbl_faithful.proofs.KeyedRows.{commit_keeps_keyed}
use Rattle.dbl_faithful.proofs.Likes.{IsLike, like_more, keyed_like, aged_from_like, prints_like}

-- the events of a commit
abbrev told_of : List TableInfo → Commit → List ToldEvent
told_of infos commit = map (tell commit) (events_of infos commit)

-- none of the events that they tell has the placeholder
clear_first : (identity : Identity) (commit : Commit) (position ordinal n : ℕ) (ns : List Notice) (rs : List Record) → AllZip (IsClearPrint identity) (take n (map (tell commit) (numbered position ordinal ns))) rs
    → first_found (notice_clash identity.placeholder) (take n ns) ≡ None
clear_first identity commit position ordinal zero ns rs zipped = refl
clear_first identity commit position ordinal (suc n) [] rs zipped = refl
clear_first identity commit position ordinal (suc n) (x ∷ ns) [] zipped = absurd zipped
clear_first identity commit position ordinal (suc n) (x ∷ ns) (r ∷ rs) zipped =
    ap (λ (o : Option _). option_or o (first_found (notice_clash identity.placeholder) (take n ns))) zipped.0.clear ∙ clear_first identity commit position (ordinal + 1) n ns rs zipped.1

told_length : (infos : List TableInfo) (commit : Commit) → length (told_of infos commit) ≡ length (events_of infos commit)
told_length infos commit = length-map (events_of infos commit) (tell commit)

-- it has a record for each notice
numbered_length : (position ordinal : ℕ) (ns : List Notice) → length (numbered position ordinal ns) ≡ length ns
numbered_length position ordinal [] = refl
numbered_length position ordinal (n ∷ ns) = ap suc (numbered_length position (ordinal + 1) ns)

-- ---- where they stand

-- each is among those that are made at its own time
own_at : (identity : Identity) (infos : List TableInfo) (commit : Commit) (n : ℕ) (rs : List Record) → AllZip (IsClearPrint identity) (take n (told_of infos commit)) rs → (j : ℕ) (item : Record) → slice_get rs j ≡ Some item
    → (now : ℤ) × (e : Event) × IsMomentInRange now × (slice_get (events_of infos commit) j ≡ Some e) × (item ≡ print identity commit now e)
own_at identity infos commit n rs zipped j item at =
    let found = zip_at (IsClearPrint identity) (take n (told_of infos commit)) rs j item zipped at in
    let e = mapped (tell commit) (events_of infos commit) j found.0 (taken_at n (told_of infos commit) j found.0 found.1).1 in
    let is : IsPrint identity (tell commit e.0) item = subst (λ (t : ToldEvent). IsPrint identity t item) e.2 found.2.is in
    (is.now, e.0, is.in_range, e.1, is.printed)

in_envelopes : (identity : Identity) (infos : List TableInfo) (commit : Commit) (j : ℕ) (item : Record) (now : ℤ) (e : Event) → slice_get (events_of infos commit) j ≡ Some e → item ≡ print identity commit now e
    → slice_get (envelopes identity infos commit now) j ≡ Some item
in_envelopes identity infos commit j item now e at is = map_get (print identity commit now) (events_of infos commit) j e at ∙ ap Some (sym is)

all_there : (j a b : ℕ) → j < a → a ≤ b → j + 1 ≡ b → a ≡ b
all_there j a b lt le end = omega (arith, lt, le, end)

take_under : {X : Type 0} (n : ℕ) (xs : List X) → length (take n xs) ≤ length xs
take_under zero xs = omega arith
take_under (suc n) [] = omega arith
take_under (suc n) (x ∷ xs) = let rest : length (take n xs) ≤ length xs = take_under n xs in omega (arith, rest)

module _ (identity : Identity) (infos : List TableInfo) (commit : Commit) (n : ℕ) (rs : List Record) (zipped : AllZip (IsClearPrint identity) (take n (told_of infos commit)) rs) where
  size : length (take n (told_of infos commit)) ≡ length rs
  size = zip_length (IsClearPrint identity) (take n (told_of infos commit)) rs zipped

  -- where one says that it is the last of its commit, all are there
  ends : (j : ℕ) (item : Record) → slice_get rs j ≡ Some item → item.last ≡ true → (j + 1 ≡ length rs) × (length (told_of infos commit) ≤ n)
  ends j item at last =
      let own = own_at identity infos commit n rs zipped j item at in
      let end : j + 1 ≡ length (envelopes identity infos commit own.0) = (commit_run identity infos commit own.0 j item (in_envelopes identity infos commit j item own.0 own.1 own.3 own.4)).1 last in
      let long : length (envelopes identity infos commit own.0) ≡ length (told_of infos commit) = length-map (events_of infos commit) (print identity commit own.0) ∙ sym (told_length infos commit) in
      let whole : length (take n (told_of infos commit)) ≡ length (told_of infos commit) =
      all_there j (length (take n (told_of infos commit))) (length (told_of infos commit)) (subst (λ (k : ℕ). j < k) (sym size) (slice_get-lt rs j item at)) (take_under n (told_of infos commit)) (end ∙ long) in
      (end ∙ (long ∙ (sym whole ∙ size)), take_long n (told_of infos commit) whole)

  its_run : IsRun commit.lsn.0 rs
  its_run j item at =
      let own = own_at identity infos commit n rs zipped j item at in
      ((commit_run identity infos commit own.0 j item (in_envelopes identity infos commit j item own.0 own.1 own.3 own.4)).0, λ last. (ends j item at last).0)

-- ---- the laws

-- a commit's LSN is one of the history's
pub is_lsn : (versions before : List Versioned) (v : Versioned) (later : List Versioned) → versions ≡ before ++ v ∷ later → IsLsnOf versions v.lsn.0
is_lsn versions before v later is = (length before, map_get (λ (x : Versioned). x.lsn.0) versions (length before) v (ap (λ (l : List Versioned). slice_get l (length before)) is ∙ slice_get-seam before v later))

pub at_zero : IsMomentInRange (pos 0)
at_zero = fits_between w64 (pos 0) (omega (arith, signed_arith), omega (arith, signed_arith))

under : (a b : ℕ) → a < b → a ≤ b
under a b lt = omega (arith, lt)

further : (a b c : ℕ) → a ≤ b → b < c → a ≤ c
further a b c le lt = omega (arith, le, lt)

module _ (identity : Identity) (infos : List TableInfo) (versions : List Versioned) (start low high : ℕ) (before : List Versioned) (v : Versioned) (later : List Versioned) (records : List Record) (next : IsNextAfter infos versions start low high before v later) (up : AgreesUpTo identity infos versions start records low high) where
  abbrev commit : Commit
  commit = plain_commit v

  abbrev all : List Record
  all = envelopes identity v.infos commit (pos 0)

  range : IsCommitInRange commit
  range = (fit_at no_rows before v later (subst (AreFitVersions infos) next.spelled next.fit).fit).in_range

  module _ (n : ℕ) (more : List Record) (zipped : AllZip (IsClearPrint identity) (take n (events_of_commit v)) more) where
    like : AllZip (IsLike identity) (records ++ more) (records ++ take n all)
    like = like_more identity records more (take n all) (prints_like identity v.infos commit (pos 0) n more range at_zero zipped)

    front_clear : first_found (notice_clash identity.placeholder) (take n (flat_map (notices v.infos) (changes_of commit))) ≡ None
    front_clear = clear_first identity commit v.lsn.0 0 n (flat_map (notices v.infos) (changes_of commit)) more zipped

    front_aged : AreAgedBetween identity infos versions start (records ++ more) low high
    front_aged table position at lower upper =
        aged_from_like identity (records ++ more) (records ++ take n all) like infos versions start position table
        (parts_between identity infos versions start low high before v later records (pos 0) n next.fit next.spelled next.just next.order next.lower next.ends at_zero front_clear up.aged table position at lower upper)

    front_keyed : HasKeyedRows identity infos (records ++ more)
    front_keyed = keyed_like identity (records ++ more) (records ++ take n all) like infos (commit_keeps_keyed identity infos versions before v later records (pos 0) n next.fit next.spelled at_zero up.keyed)

  -- with all of them
  module _ (more : List Record) (zipped : AllZip (IsClearPrint identity) (events_of_commit v) more) where
    abbrev count : ℕ
    count = length (events_of_commit v)

    fronted : AllZip (IsClearPrint identity) (take count (events_of_commit v)) more
    fronted = subst (λ (l : List ToldEvent). AllZip (IsClearPrint identity) l more) (sym (take_all count (events_of_commit v) (le_refl count))) zipped

    size_all : length all ≡ count
    size_all = length-map (events_of v.infos commit) (print identity commit (pos 0)) ∙ sym (told_length v.infos commit)

    size_told : length (flat_map (notices v.infos) (changes_of commit)) ≡ count
    size_told = sym (numbered_length v.lsn.0 0 (flat_map (notices v.infos) (changes_of commit))) ∙ sym (told_length v.infos commit)

    all_like : AllZip (IsLike identity) (records ++ more) (records ++ all)
    all_like =
        subst (λ (l : List Record). AllZip (IsLike identity) (records ++ more) (records ++ l)) (take_all count all (subst (λ (k : ℕ). length all ≤ k) size_all (le_refl (length all))))
        (like count more fronted)

    all_clear : clash_of identity v.infos commit ≡ None
    all_clear =
        ap (first_found (notice_clash identity.placeholder)) (sym (take_all count (flat_map (notices v.infos) (changes_of commit)) (subst (λ (k : ℕ). length (flat_map (notices v.infos) (changes_of commit)) ≤ k) size_told (le_refl (length (flat_map (notices v.infos) (changes_of commit)))))))
        ∙ front_clear count more fronted

    whole_aged : AreAgedBetween identity infos versions start (records ++ more) low v.lsn.0
    whole_aged table position at lower upper =
        aged_from_like identity (records ++ more) (records ++ all) all_like infos versions start position table
        (commits_between identity infos versions start low high before v later records (pos 0) next.fit next.spelled next.just next.order next.lower next.ends at_zero all_clear up.aged table position at lower upper)

  -- agreement: only the last record of the commit is one at which a consumer agrees, and with it all are there
  front_agrees : (n : ℕ) (more : List Record) → AllZip (IsClearPrint identity) (take n (events_of_commit v)) more → AgreesInCourse identity infos versions start (records ++ more)
  front_agrees n more zipped =
      let same : take (length more) more ≡ more = take_all (length more) more (le_refl (length more)) in
      subst (λ (l : List Record). AgreesInCourse identity infos versions start (records ++ l)) same
      (agrees_more identity infos versions next.fit start records more v.lsn.0 (length more) (its_run identity v.infos commit n more zipped)
      (λ j item at last table. (
      let at_more : slice_get more j ≡ Some item = subst (λ (l : List Record). slice_get l j ≡ Some item) same at in
      let enough : length (events_of_commit v) ≤ n = (ends identity v.infos commit n more zipped j item at_more last).1 in
      whole_aged more (subst (λ (l : List ToldEvent). AllZip (IsClearPrint identity) l more) (take_all n (events_of_commit v) enough) zipped) table v.lsn.0
      (inr (is_lsn versions before v later next.spelled)) (further low high v.lsn.0 next.lower next.just.before) (le_refl v.lsn.0)))
      (front_keyed n more zipped) up.agrees)

pub prints_are_caught : PrintsAreCaught
prints_are_caught identity infos versions start low high before v later n records more next zipped up = record {
  aged = front_aged identity infos versions start low high before v later records next up n more zipped;
  agrees = front_agrees identity infos versions start low high before v later records next up n more zipped;
  keyed = front_keyed identity infos versions start low high before v later records next up n more zipped;
}

pub all_prints_are_caught : AllPrintsAreCaught
all_prints_are_caught identity infos versions start low high before v later records more next zipped up =
    let count : ℕ = length (events_of_commit v) in
    let fronted : AllZip (IsClearPrint identity) (take count (events_of_commit v)) more = subst (λ (l : List ToldEvent). AllZip (IsClearPrint identity) l more) (sym (take_all count (events_of_commit v) (le_refl count))) zipped in
    record {
      aged = whole_aged identity infos versions start low high before v later records next up more zipped;
      agrees = front_agrees identity infos versions start low high before v later records next up count more fronted;
      keyed = front_keyed identity infos versions start low high before v later records next up count more fronted;
    }
