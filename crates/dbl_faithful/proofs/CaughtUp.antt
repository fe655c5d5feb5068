-- The steps of a session, each keeping what it keeps of its log.
use Rattle.std.proofs.Common.{◌≡◌, ◌∙◌, ◌⊎◌, inl, inr, ◌+◌, ◌≤◌, ◌<◌, ℕ, zero, suc, ℤ, max, Bool, true, false, List, [], ◌∷◌, ◌++◌, Option, Some, None, length, take, drop, map, flat_map, refl, sym, ap, subst, arith, append_assoc, append-nil, length-append, le_refl, le_trans, ◌-◌, take_all, take-add}
use Rattle.std.specs.Prelude.{◌==◌, slice_get, option_map, unwrap_or}
use Rattle.std.specs.List.{AllByRecursion, AllZip}
use Rattle.dbl_record.specs.declared.record.Record.{Record}
use Rattle.dbl_record.specs.Places.{Place, place_of, IsBefore}
use Rattle.dbl_model_table.specs.declared.identity.Identity.{Identity}
use Rattle.dbl_model_table.specs.declared.row.Key.{Key}
use Rattle.dbl_model_table.specs.declared.row.Row.{Row}
use Rattle.dbl_model_table.specs.declared.table.TableInfo.{TableInfo}
use Rattle.dbl_model_table.specs.declared.change.Change.{Change}
use Rattle.dbl_model_table.specs.declared.change.Commit.{Commit}
use Rattle.dbl_model_table.specs.Rows.{no_rows, rows_at}
use Rattle.dbl_model_table.proofs.Lists.{slice_get-lt}
use Rattle.dbl_consume_laws.specs.ModelHistory.History.{AreRising}
use Rattle.dbl_consume_laws.specs.ModelHistory.Ranges.{IsMomentInRange}
use Rattle.dbl_consume_laws.proofs.ModelHistoryMomentLemmas.{lsns}
use Rattle.dbl_consume_laws.specs.ModelEvent.declared.closed.Closed.{Closed}
use Rattle.dbl_consume_laws.specs.ModelEvent.Events.{notices, numbered}
use Rattle.dbl_consume_laws.specs.ModelEvent.Snapshots.{chunk_records}
use Rattle.dbl_consume_laws.specs.ModelEvent.SnapshotLists.{IsSnapshot}
use Rattle.dbl_consume_laws.proofs.Consumers.{all_left}
use Rattle.dbl_consume_laws.proofs.Notices.{all_append}
use Rattle.dbl_consume_laws.specs.Commits.{moment_after}
use Rattle.dbl_consume_courses.specs.Versions.{Versioned, plain_commit, versions_to, version_rows}
use Rattle.dbl_consume_courses.specs.Courses.{Course, course, alteration_of}
use Rattle.dbl_consume_courses.specs.CourseAges.{own_from}
use Rattle.dbl_consume_courses.specs.AlteredTables.{course_changes}
use Rattle.dbl_consume_courses.specs.AgesBetween.{IsLsnOf}
use Rattle.dbl_consume_courses.specs.FitVersions.{AreFitVersions}
use Rattle.dbl_consume_courses.specs.Growth.{course_of}
use Rattle.dbl_consume_courses.specs.TableAges.{IsInCourse}
use Rattle.dbl_consume_courses.specs.VersionStores.{HasWindowAt}
use Rattle.dbl_consume_courses.proofs.CourseLemmas.{shows_rows}
use Rattle.dbl_consume_courses.proofs.GrowthLemmas.{fit_versions_left}
use Rattle.dbl_consume_courses.proofs.SameLemmas.{fit_at}
use Rattle.dbl_consume_courses.proofs.TableLemmas.{own_at}
use Rattle.dbl_consume_courses.proofs.VersionLemmas.{all_to}
use Rattle.dbl_faithful.specs.Agreements.{AgreesUpTo}
use Rattle.dbl_faithful.specs.CaughtLaws.{IsNextAfter, IsWindowInCourse}
use Rattle.dbl_faithful.specs.Kinds.{is_change_record}
use Rattle.dbl_faithful.specs.ToldEvents.{ToldEvent, tell, events_of_commit, events_of_commits, events_since, IsPrint, IsClearPrint, IsAmong, ArePutBefore}
use Rattle.dbl_faithful.specs.ExactLogs.{news, IsExact}
use Rattle.dbl_faithful.specs.RightSnapshots.{IsHighMark, records_at, AreSnapshotsRight}
use Rattle.dbl_faithful.specs.CaughtUp.{IsExactLog, next_told, HasDeliveredUpTo}
use Rattle.dbl_faithful.specs.CaughtUpLaws.{StartsAreCaughtUp, PutLogsAreCaughtUp, SentRecordsAreCaughtUp, CommitsAreCaughtUp, SnapshotsAreCaughtUp, LongerHistoriesAreCaughtUp, CaughtUpLogsAreRight, DeliveredEventsArePut}
use Rattle.dbl_faithful.proofs.Caught.{starts_are_caught, parts_of_snapshots_are_caught, longer_histories_are_caught}
use Rattle.dbl_faithful.proofs.Exact.{AreBehind, GoOn, put_among, first_print, log_more, log_others}
use Rattle.dbl_faithful.proofs.Items.{at_left, at_right, at_cases, taken_at, drop_get, take_within, mapped, map_get, all_by_place, at_all, all_weaker, zip_at, zip_append, zip_length, filter_whole}
use Rattle.dbl_faithful.proofs.News.{AreBefore, fresh_place}
use Rattle.dbl_faithful.proofs.Positions.{all_above, rising_after, all_under, end_after, end_under}
use Rattle.dbl_faithful.proofs.Prints.{is_lsn, prints_are_caught, all_prints_are_caught}
use Rattle.dbl_faithful.proofs.RightSnapshots.{at_test, at-append, at_others, mark_is_silent, mark_is_unaltered, right_after, right_kept, right_longer, listing, listing_places, listing_others, rows_in_range}
use Rattle.dbl_faithful.proofs.Trace.{of_commit, told_above, events_since-append, after_rise, after_changes, since_all, since_none, print_place}

-- ---- numbers and lists

no_item : {X Y : Type 0} (k : ℕ) (x : X) → slice_get [] k ≡ Some x → Y
no_item k x at = cc

none_own : {A B : Type 0} (R : A → B → Type 0) (xs : List A) (own : List B) → AllZip R (take 0 xs) own → own ≡ []
none_own R xs [] zipped = refl
none_own R xs (y ∷ own) zipped = absurd zipped

nothing_sent : (n : ℕ) → n ≡ n + 0
nothing_sent n = omega arith

none_le : (n : ℕ) → 0 ≤ n
none_le n = omega arith

not_before : (a b c d : ℕ) → a ≤ b → b ≤ c → c < d → a < d
not_before a b c d one two lt = omega (arith, one, two, lt)

after_start : (a b c d p : ℕ) → a ≤ b → b ≤ c → c < d → p ≡ d → a ≤ p
after_start a b c d p one two lt is = omega (arith, one, two, lt, is)

up_to_next : (a b c : ℕ) → a ≤ b → b < c → a ≤ c
up_to_next a b c le lt = omega (arith, le, lt)

-- what stands at each place stands before a number, so the list is no longer
under_count : {X : Type 0} (xs : List X) (count : ℕ) → ((k : ℕ) (x : X) → slice_get xs k ≡ Some x → k < count) → length xs ≤ count
under_count [] count under = none_le count
under_count (x ∷ xs) zero under = absurd (omega (arith, under 0 x refl))
under_count (x ∷ xs) (suc count) under =
    let rest : length xs ≤ count = under_count xs count (λ k y at. (let lt : suc k < suc count = under (suc k) y at in omega (arith, lt))) in
    omega (arith, rest)

-- ---- the commits that are next

-- the events after the start: those of the commits before, and those of the later ones
told_parts : (start : ℕ) (versions before later : List Versioned) → versions ≡ before ++ later → AllByRecursion (λ v. start < v.lsn.0) later → events_since start versions ≡ events_since start before ++ events_of_commits later
told_parts start versions before later is ahead =
    ap (events_since start) is
    ∙ (events_since-append start before later ∙ ap (λ (l : List Versioned). events_since start before ++ events_of_commits l) (since_all start later ahead))

-- with the next commit
told_next : (start : ℕ) (before : List Versioned) (v : Versioned) → start < v.lsn.0 → length (events_since start (before ++ v ∷ [])) ≡ length (events_since start before) + length (events_of_commit v)
told_next start before v lt =
    ap length (events_since-append start before (v ∷ []))
    ∙ (length-append (events_since start before) (events_since start (v ∷ []))
    ∙ ap (λ (n : ℕ). length (events_since start before) + n) (ap (λ (l : List Versioned). length (events_of_commits l)) (since_all start (v ∷ []) (lt, tt)) ∙ ap length (append-nil (events_of_commit v))))

split_next : (versions before : List Versioned) (v : Versioned) (later : List Versioned) → versions ≡ before ++ v ∷ later → versions ≡ (before ++ v ∷ []) ++ later
split_next versions before v later is = is ∙ sym (append_assoc before (v ∷ []) later)

-- the later commits are after the start
pub ahead_of : (start low high : ℕ) (later : List Versioned) → start ≤ low → low ≤ high → AllByRecursion (λ v. high < v.lsn.0) later → AllByRecursion (λ v. start < v.lsn.0) later
ahead_of start low high later one two past = all_weaker (λ (v : Versioned). high < v.lsn.0) (λ (v : Versioned). start < v.lsn.0) later (λ v lt. not_before start low high v.lsn.0 one two lt) past

next_of : (identity : Identity) (infos : List TableInfo) (versions : List Versioned) (start low high far : ℕ) (before : List Versioned) (v : Versioned) (later : List Versioned) (sent : ℕ) (records : List Record)
    → HasDeliveredUpTo identity infos versions start low high far before (v ∷ later) sent records → IsNextAfter infos versions start low high before v later
next_of identity infos versions start low high far before v later sent records up =
    record { fit = up.fit; spelled = up.spelled; just = record { upto = up.upto; before = up.past.0 }; order = up.order; lower = up.lower; ends = up.ends }

-- the commits up to the next one, and those after it
upto_next : (versions before : List Versioned) (v : Versioned) (later : List Versioned) → AreRising 0 (lsns (map plain_commit versions)) → versions ≡ before ++ v ∷ later → AllByRecursion (λ x. x.lsn.0 ≤ v.lsn.0) (before ++ v ∷ [])
upto_next versions before v later rise is = all_under 0 before v later (subst (λ (l : List Versioned). AreRising 0 (lsns (map plain_commit l))) is rise)

past_next : (versions before : List Versioned) (v : Versioned) (later : List Versioned) → AreRising 0 (lsns (map plain_commit versions)) → versions ≡ before ++ v ∷ later → AllByRecursion (λ x. v.lsn.0 < x.lsn.0) later
past_next versions before v later rise is = all_above v.lsn.0 later (rising_after 0 before v later (subst (λ (l : List Versioned). AreRising 0 (lsns (map plain_commit l))) is rise))

pub shown_to : (versions before : List Versioned) (v : Versioned) (later : List Versioned) → AreRising 0 (lsns (map plain_commit versions)) → versions ≡ before ++ v ∷ later → versions_to v.lsn.0 versions ≡ before ++ v ∷ []
shown_to versions before v later rise is =
    ap (versions_to v.lsn.0) (split_next versions before v later is) ∙ all_to v.lsn.0 (before ++ v ∷ []) later (upto_next versions before v later rise is) (past_next versions before v later rise is)

-- ---- the beginning

module _ (identity : Identity) (infos : List TableInfo) (versions before later : List Versioned) (start low high far : ℕ) where
  -- a log of which nothing of the next commit was sent
  fresh_start : (records : List Record) → AreFitVersions infos versions → versions ≡ before ++ later → start ≤ low → low ≤ high → (high ≡ low) ⊎ IsLsnOf versions high
      → AllByRecursion (λ v. v.lsn.0 ≤ high) before → AllByRecursion (λ v. high < v.lsn.0) later
      → AgreesUpTo identity infos versions start records low high
      → IsExactLog identity (events_since start versions) records (length (events_since start before))
      → AreSnapshotsRight identity versions (events_since start versions) records → AllByRecursion (λ item. start ≤ item.position) records → AllByRecursion (λ item. item.position ≤ far) records
      → HasDeliveredUpTo identity infos versions start low high far before later 0 records
  fresh_start records fit is order lower ends upto past caught log snapshots late placed = record {
    fit = fit;
    spelled = is;
    order = order;
    lower = lower;
    ends = ends;
    upto = upto;
    past = past;
    kept = records;
    own = [];
    parted = sym (append-nil records);
    agrees_up_to = caught;
    few = none_le (length (next_told later));
    sending = tt;
    log = subst (IsExactLog identity (events_since start versions) records) (nothing_sent (length (events_since start before))) log;
    snapshots = snapshots;
    late = late;
    placed = placed;
  }

pub starts_are_caught_up : StartsAreCaughtUp
starts_are_caught_up identity infos versions before later start far fit is ends =
    let rise : AreRising 0 (lsns (map plain_commit (before ++ later))) = subst (λ (l : List Versioned). AreRising 0 (lsns (map plain_commit l))) is fit.rise in
    let upto : AllByRecursion (λ v. v.lsn.0 ≤ start) before = end_under start before later rise ends in
    let none : events_since start before ≡ [] = ap events_of_commits (since_none start before upto) in
    fresh_start identity infos versions before later start start start far [] fit is (le_refl start) (le_refl start) (inl refl) upto (end_after start before later rise ends)
    (starts_are_caught identity infos versions start fit)
    (record {
      count = 0;
      exact = record { few = none_le (length (events_since start versions)); fresh = tt; others = λ place item at change. no_item place item at };
      not_after = subst (λ (l : List ToldEvent). length l ≤ 0) (sym none) (le_refl 0);
    })
    (record { each = λ place item at other. no_item place item at }) tt tt

pub put_logs_are_caught_up : PutLogsAreCaughtUp
put_logs_are_caught_up identity infos versions before later start low far records fit is upto past order put aged agrees keyed exact snapshots late placed =
    let told : List ToldEvent = events_since start versions in
    let parts : told ≡ events_since start before ++ events_of_commits later = told_parts start versions before later is (ahead_of start low low later order (le_refl low) past) in
    let under : (k : ℕ) (t : ToldEvent) → slice_get (events_since start before) k ≡ Some t → k < exact.0 =
    (λ k t at. put_among identity told (after_rise start 0 versions fit.rise) (after_changes identity start no_rows versions fit.fit) records exact.0 k t exact.1
    (ap (λ (l : List ToldEvent). slice_get l k) parts ∙ at_left (events_since start before) (events_of_commits later) k t at) (put k t at)) in
    fresh_start identity infos versions before later start low low far records fit is order (le_refl low) (inl refl) upto past
    (record { aged = aged; agrees = agrees; keyed = keyed })
    (record { count = exact.0; exact = exact.1; not_after = under_count (events_since start before) exact.0 under }) snapshots late placed

-- ---- records of the next commit

further_on : (a s j n : ℕ) → n ≡ s + j → a + s + j ≡ a + n
further_on a s j n e = omega (arith, e)

added : (a s k : ℕ) → a + s + k ≡ a + (s + k)
added a s k = omega arith

no_farther : (p far c : ℕ) → p ≤ far → p ≤ max far c
no_farther p far c le = omega (arith, le)

at_most_there : (p far c : ℕ) → p ≡ c → p ≤ max far c
at_most_there p far c e = omega (arith, e)

enough_left : (s k n d : ℕ) → d ≡ n - s → k ≤ d → s ≤ n → s + k ≤ n
enough_left s k n d e le room = omega (arith, e, le, room)

drop_length : {X : Type 0} (n : ℕ) (xs : List X) → length (drop n xs) ≡ length xs - n
drop_length zero xs = omega arith
drop_length (suc n) [] = omega arith
drop_length (suc n) (x ∷ xs) = let rest : length (drop n xs) ≡ length xs - n = drop_length n xs in omega (arith, rest)

take_short : {X : Type 0} (n : ℕ) (xs : List X) → length (take n xs) ≤ length xs
take_short zero xs = none_le (length xs)
take_short (suc n) [] = none_le 0
take_short (suc n) (x ∷ xs) = let rest : length (take n xs) ≤ length xs = take_short n xs in omega (arith, rest)

pub sent_records_are_caught_up : SentRecordsAreCaughtUp
sent_records_are_caught_up identity infos versions before v later start low high far sent records more zipped up =
    let told : List ToldEvent = events_since start versions in
    let parts : told ≡ events_since start before ++ events_of_commits (v ∷ later) = told_parts start versions before (v ∷ later) up.spelled (ahead_of start low high (v ∷ later) up.order up.lower up.past) in
    let kinds = after_changes identity start no_rows versions up.fit.fit in
    let stands : (j : ℕ) (item : Record) → slice_get more j ≡ Some item → (t : ToldEvent) × (slice_get (events_of_commit v) (sent + j) ≡ Some t) × IsPrint identity t item =
    (λ j item at. (
    let found = zip_at (IsClearPrint identity) (take (length more) (drop sent (events_of_commit v))) more j item zipped at in
    let placed = taken_at (length more) (drop sent (events_of_commit v)) j found.0 found.1 in
    (found.0, sym (drop_get sent (events_of_commit v) j) ∙ placed.1, found.2.is))) in
    let go_on : GoOn identity told (length (events_since start before) + sent) more =
    (λ j item at. (
    let found = stands j item at in
    let index : length (events_since start before) + sent + j ≡ length (events_since start before) + (sent + j) = further_on (length (events_since start before)) sent j (sent + j) refl in (
      found.0,
      ap (slice_get told) index ∙ (ap (λ (l : List ToldEvent). slice_get l (length (events_since start before) + (sent + j))) parts
          ∙ at_right (events_since start before) (events_of_commits (v ∷ later)) (sent + j) found.0 (at_left (events_of_commit v) (events_of_commits later) (sent + j) found.0 found.1)),
      found.2,
    ))) in
    let position : (j : ℕ) (item : Record) → slice_get more j ≡ Some item → item.position ≡ v.lsn.0 =
    (λ j item at. (
    let found = stands j item at in
    ap (λ (p : Place). p.0) (print_place identity found.0 item found.2) ∙ (of_commit v (sent + j) found.0 found.1).1)) in
    let subsequent : AreBehind identity told records = right_after identity start versions records up.fit.rise up.snapshots in
    let logged = log_more identity told (after_rise start 0 versions up.fit.rise) kinds records more (length (events_since start before) + sent) go_on subsequent up.log in
    let change : (j : ℕ) (item : Record) → slice_get more j ≡ Some item → is_change_record item ≡ true =
    (λ j item at. (let found = go_on j item at in kinds (length (events_since start before) + sent + j) found.0 item found.1 found.2)) in
    let apart : (place : ℕ) (old : Record) → slice_get records place ≡ Some old → is_change_record old ≡ false → (j : ℕ) (item : Record) → slice_get more j ≡ Some item → item.position ≡ old.position → ⊥ =
    (λ place old at_old other j item at same. (
    let found = go_on j item at in
    subsequent.apart place old at_old other (length (events_since start before) + sent + j) found.0 found.1 (ap (λ (p : Place). p.0) (sym (print_place identity found.0 item found.2)) ∙ same))) in
    let count : length (take (length more) (drop sent (events_of_commit v))) ≡ length more = zip_length (IsClearPrint identity) (take (length more) (drop sent (events_of_commit v))) more zipped in
    let left : length more ≤ length (drop sent (events_of_commit v)) = subst (λ (k : ℕ). k ≤ length (drop sent (events_of_commit v))) count (take_short (length more) (drop sent (events_of_commit v))) in
    record {
      fit = up.fit;
      spelled = up.spelled;
      order = up.order;
      lower = up.lower;
      ends = up.ends;
      upto = up.upto;
      past = up.past;
      kept = up.kept;
      own = up.own ++ more;
      parted = ap (λ (l : List Record). l ++ more) up.parted ∙ append_assoc up.kept up.own more;
      agrees_up_to = up.agrees_up_to;
      few = enough_left sent (length more) (length (events_of_commit v)) (length (drop sent (events_of_commit v))) (drop_length sent (events_of_commit v)) left up.few;
      sending = subst (λ (l : List ToldEvent). AllZip (IsClearPrint identity) l (up.own ++ more)) (sym (take-add sent (length more) (events_of_commit v)))
          (zip_append (IsClearPrint identity) (take sent (events_of_commit v)) (take (length more) (drop sent (events_of_commit v))) up.own more up.sending zipped);
      log = subst (IsExactLog identity told (records ++ more)) (added (length (events_since start before)) sent (length more)) logged.0;
      snapshots = record {
        each = λ place item at other. elim (at_cases records more place item at) [
          | inl old ↦ right_kept identity versions told records more place item.position (apart place item old other) (up.snapshots.each place item old other)
          | inr new ↦ two_ways (is_change_record item) (change new.0 item new.1) other
        ];
      };
      late = all_append (λ (item : Record). start ≤ item.position) records more up.late
          (all_by_place (λ (item : Record). start ≤ item.position) more (λ j item at. after_start start low high v.lsn.0 item.position up.order up.lower up.past.0 (position j item at)));
      placed = all_append (λ (item : Record). item.position ≤ max far v.lsn.0) records more
          (all_weaker (λ (item : Record). item.position ≤ far) (λ (item : Record). item.position ≤ max far v.lsn.0) records (λ item le. no_farther item.position far v.lsn.0 le) up.placed)
          (all_by_place (λ (item : Record). item.position ≤ max far v.lsn.0) more (λ j item at. at_most_there item.position far v.lsn.0 (position j item at)));
    }
  where
    two_ways : {X : Type 0} (b : Bool) → b ≡ true → b ≡ false → X
    two_ways b is isnt = cc

-- ---- the end of a commit

index_on : (a s w : ℕ) → w ≡ a + s → a + s ≡ w + 0
index_on a s w e = omega (arith, e)

pub commits_are_caught_up : CommitsAreCaughtUp
commits_are_caught_up identity infos versions before v later start low high far sent records all up =
    let next : IsNextAfter infos versions start low high before v later = next_of identity infos versions start low high far before v later sent records up in
    let whole : AllZip (IsClearPrint identity) (events_of_commit v) up.own =
    subst (λ (l : List ToldEvent). AllZip (IsClearPrint identity) l up.own) (take_all sent (events_of_commit v) (subst (λ (k : ℕ). length (events_of_commit v) ≤ k) (sym all) (le_refl (length (events_of_commit v))))) up.sending in
    record {
      fit = up.fit;
      spelled = split_next versions before v later up.spelled;
      order = up.order;
      lower = up_to_next low high v.lsn.0 up.lower up.past.0;
      ends = inr (is_lsn versions before v later up.spelled);
      upto = upto_next versions before v later up.fit.rise up.spelled;
      past = past_next versions before v later up.fit.rise up.spelled;
      kept = records;
      own = [];
      parted = sym (append-nil records);
      agrees_up_to = subst (λ (l : List Record). AgreesUpTo identity infos versions start l low v.lsn.0) (sym up.parted)
          (all_prints_are_caught identity infos versions start low high before v later up.kept up.own next whole up.agrees_up_to);
      few = none_le (length (next_told later));
      sending = tt;
      log = subst (IsExactLog identity (events_since start versions) records)
          (index_on (length (events_since start before)) sent (length (events_since start (before ++ v ∷ [])))
          (told_next start before v (not_before start low high v.lsn.0 up.order up.lower up.past.0) ∙ ap (λ (k : ℕ). length (events_since start before) + k) (sym all))) up.log;
      snapshots = up.snapshots;
      late = up.late;
      placed = up.placed;
    }

-- ---- the records of a window

below_mark : (p far m : ℕ) → p ≤ far → far < m → p < m
below_mark p far m le lt = omega (arith, le, lt)

below_le : (p far m : ℕ) → p ≤ far → far < m → p ≤ m
below_le p far m le lt = omega (arith, le, lt)

same_le : (p m : ℕ) → p ≡ m → p ≤ m
same_le p m e = omega (arith, e)

not_there : (p q far m : ℕ) → p ≤ far → far < m → q ≡ m → q ≡ p → ⊥
not_there p q far m le lt at same = omega (arith, le, lt, at, same)

ordinal_before : (a b i j : ℕ) → a ≡ 0 + i → b ≡ 0 + j → i < j → a < b
ordinal_before a b i j one two lt = omega (arith, one, two, lt)

shorter : (k l n i j : ℕ) → k < l → k ≡ n + i → l ≡ n + j → i < j
shorter k l n i j lt one two = omega (arith, lt, one, two)

-- a watermark has no events
no_events : (mark : Versioned) → IsHighMark (plain_commit mark) → events_of_commit mark ≡ []
no_events mark is_high = ap (λ (l : List Change). map (tell (plain_commit mark)) (numbered mark.lsn.0 0 (flat_map (notices mark.infos) l))) (mark_is_silent (plain_commit mark) is_high)

module _ (identity : Identity) (infos : List TableInfo) (versions before : List Versioned) (mark : Versioned) (later : List Versioned) (start low high far begun : ℕ) (above : Option Key) (closed : Closed) (records snapshot : List Record) (now : ℤ) (n : ℕ) (is_high : IsHighMark (plain_commit mark)) (beyond : far < mark.lsn.0) (in_time : IsMomentInRange now) (listed : IsSnapshot identity mark.infos closed (plain_commit mark) now snapshot) (window : IsWindowInCourse identity infos versions start records mark begun above closed) (up : HasDeliveredUpTo identity infos versions start low high far before (mark ∷ later) 0 records) where
  abbrev told : List ToldEvent
  told = events_since start versions

  abbrev commit : Commit
  commit = plain_commit mark

  abbrev front : List Versioned
  front = before ++ mark ∷ []

  whole : AreFitVersions infos (before ++ mark ∷ later)
  whole = subst (AreFitVersions infos) up.spelled up.fit

  front_fit : AreFitVersions infos front
  front_fit = fit_versions_left infos front later (subst (AreFitVersions infos) (sym (append_assoc before (mark ∷ []) later)) whole)

  unaltered : mark.altered ≡ None
  unaltered = mark_is_unaltered infos before mark later whole.follow is_high

  chunk_is : snapshot ≡ listing identity listed.info commit now closed.through closed.done 0 (0 + length closed.rows) closed.rows
  chunk_is =
      listed.records_are
      ∙ (ap (λ (o : Option TableInfo). unwrap_or (option_map (λ i. chunk_records identity i closed.rows closed.through closed.done commit now) o) []) listed.captured
      ∙ ap (λ (o : ℕ). listing identity listed.info commit now closed.through closed.done 0 o closed.rows) (from_zero (length closed.rows)))
    where
      from_zero : (k : ℕ) → k ≡ 0 + k
      from_zero k = omega arith

  -- of the records of the window that are taken
  in_chunk : (j : ℕ) (item : Record) → slice_get (take n snapshot) j ≡ Some item → slice_get (listing identity listed.info commit now closed.through closed.done 0 (0 + length closed.rows) closed.rows) j ≡ Some item
  in_chunk j item at = ap (λ (l : List Record). slice_get l j) (sym chunk_is) ∙ (taken_at n snapshot j item at).1

  places : (j : ℕ) (item : Record) → slice_get (take n snapshot) j ≡ Some item → (item.position ≡ mark.lsn.0) × (item.ordinal ≡ 0 + j)
  places j item at = listing_places identity listed.info commit now closed.through closed.done 0 closed.rows j item (in_chunk j item at)

  others : (j : ℕ) (item : Record) → slice_get (take n snapshot) j ≡ Some item → is_change_record item ≡ false
  others j item at =
      listing_others identity listed.info commit now closed.through closed.done 0 (0 + length closed.rows) closed.rows
      (rows_in_range listed.info commit now closed.rows (fit_at no_rows before mark later whole.fit).in_range in_time listed.fits.rows listed.keys) j item (in_chunk j item at)

  under : (place : ℕ) (item : Record) → slice_get records place ≡ Some item → item.position ≤ far
  under place item at = at_all (λ (r : Record). r.position ≤ far) records place item up.placed at

  -- the rows are those of the table's course at the watermark
  shown : versions_to mark.lsn.0 versions ≡ front
  shown = shown_to versions before mark later up.fit.rise up.spelled

  course_is : course infos versions start closed.table mark.lsn.0 ≡ course_of infos start closed.table front
  course_is = ap (course_of infos start closed.table) shown

  in_course : IsInCourse infos versions front start closed.table before mark []
  in_course = record {
    fit = up.fit;
    hidden = later;
    parted = split_next versions before mark later up.spelled;
    among = record { fit = front_fit; spelled = refl; unaltered = (ap (alteration_of closed.table) unaltered, tt); after = not_before start low high mark.lsn.0 up.order up.lower up.past.0 };
  }

  rows_right : AllByRecursion (λ entry. version_rows front closed.table entry.0 ≡ Some entry.1.cells) closed.rows
  rows_right =
      let c : Course = course_of infos start closed.table front in
      let moment : own_from c mark.lsn.0 ≡ moment_after c.commits = own_at identity infos versions front start closed.table before mark [] in_course in
      let here : AllByRecursion (λ entry. rows_at c.infos (course_changes c) (own_from c mark.lsn.0) closed.table entry.0 ≡ Some entry.1.cells) closed.rows =
      subst (λ (x : Course). AllByRecursion (λ (entry : Key × Row). rows_at x.infos (course_changes x) (own_from x mark.lsn.0) closed.table entry.0 ≡ Some entry.1.cells) closed.rows) course_is window.right.right in
      let there : AllByRecursion (λ entry. rows_at c.infos (course_changes c) (moment_after c.commits) closed.table entry.0 ≡ Some entry.1.cells) closed.rows =
      subst (λ (m : ℕ). AllByRecursion (λ (entry : Key × Row). rows_at c.infos (course_changes c) m closed.table entry.0 ≡ Some entry.1.cells) closed.rows) moment here in
      all_weaker (λ (entry : Key × Row). rows_at c.infos (course_changes c) (moment_after c.commits) closed.table entry.0 ≡ Some entry.1.cells) (λ (entry : Key × Row). version_rows front closed.table entry.0 ≡ Some entry.1.cells) closed.rows
      (λ entry right. sym (shows_rows infos front start closed.table entry.0 front_fit.follow) ∙ right) there

  window_here : HasWindowAt identity versions (records ++ take n snapshot) mark.lsn.0
  window_here = record {
    before = before;
    mark = mark;
    later = later;
    spelled = up.spelled;
    position_is = refl;
    front = is_high.front;
    is_high = is_high.is;
    closed = closed;
    now = now;
    in_range = in_time;
    snapshot = snapshot;
    listed = listed;
    count = n;
    shown =
        at-append mark.lsn.0 records (take n snapshot)
        ∙ (ap (λ (l : List Record). l ++ records_at mark.lsn.0 (take n snapshot)) (at_others mark.lsn.0 records (λ place item at same. not_there item.position item.position far mark.lsn.0 (under place item at) beyond same refl))
        ∙ filter_whole (λ (item : Record). item.position == mark.lsn.0) (take n snapshot) (all_by_place (λ (item : Record). (item.position == mark.lsn.0) ≡ true) (take n snapshot) (λ j item at. at_test item.position mark.lsn.0 (places j item at).0)));
    right = rows_right;
  }

  -- all earlier events were put
  put_here : ArePutBefore identity (records ++ take n snapshot) told mark.lsn.0
  put_here number t at lt =
      elim (at_cases (events_since start before) (events_of_commits (mark ∷ later)) number t (ap (λ (l : List ToldEvent). slice_get l number) (sym (told_parts start versions before (mark ∷ later) up.spelled (ahead_of start low high (mark ∷ later) up.order up.lower up.past))) ∙ at)) [
        | inl early ↦ (
            let index : number < up.log.count = soon number (length (events_since start before)) up.log.count (slice_get-lt (events_since start before) number t early) up.log.not_after in
            let first = first_print identity told (after_rise start 0 versions up.fit.rise) (after_changes identity start no_rows versions up.fit.fit) records up.log.count number t up.log.exact at index in
            record { place = first.2.place; item = first.0; stands = at_left records (take n snapshot) first.2.place first.0 first.2.stands; is = first.1 })
        | inr late ↦ elim (at_cases (events_of_commit mark) (events_of_commits later) late.0 t late.1) [
          | inl here ↦ absurd (not_below mark.lsn.0 t.event.position lt (of_commit mark late.0 t here).1)
          | inr subsequent ↦ absurd (not_above mark.lsn.0 t.event.position lt (told_above mark.lsn.0 later (rising_after 0 before mark later whole.rise) subsequent.0 t subsequent.1))
        ]
      ]
    where
      soon : (k a b : ℕ) → k < a → a + 0 ≤ b → k < b
      soon k a b lt le = omega (arith, lt, le)

      not_below : (m p : ℕ) → p < m → p ≡ m → ⊥
      not_below m p lt e = omega (arith, lt, e)

      not_above : (m p : ℕ) → p < m → m < p → ⊥
      not_above m p lt gt = omega (arith, lt, gt)

  -- each record of the window is after all before it
  fresh_here : (j : ℕ) (item : Record) → slice_get (take n snapshot) j ≡ Some item → (place : ℕ) → place ≡ length records + j → slice_get (records ++ take n snapshot) place ≡ Some item → AreBefore (take place (records ++ take n snapshot)) item
  fresh_here j item at place is stands = all_by_place (λ (earlier : Record). IsBefore (place_of earlier) (place_of item)) (take place (records ++ take n snapshot)) (λ k x there. (
      let taken = taken_at place (records ++ take n snapshot) k x there in
      elim (at_cases records (take n snapshot) k x taken.1) [
        | inl old ↦ inl (subst (λ (p : ℕ). x.position < p) (sym (places j item at).0) (below_mark x.position far mark.lsn.0 (under k x old) beyond))
        | inr new ↦ (
            let a = places new.0 x new.1 in
            let b = places j item at in
            inr (a.0 ∙ sym b.0, ordinal_before x.ordinal item.ordinal new.0 j a.1 b.1 (shorter k place (length records) new.0 j taken.0 new.2 is)))
      ]))

  window_right : AreSnapshotsRight identity versions told (records ++ take n snapshot)
  window_right = record {
    each = λ place item at other. elim (at_cases records (take n snapshot) place item at) [
      | inl old ↦ right_kept identity versions told records (take n snapshot) place item.position (λ j x there same. not_there item.position x.position far mark.lsn.0 (under place item old) beyond (places j x there).0 same) (up.snapshots.each place item old other)
      | inr new ↦ (
          let here : mark.lsn.0 ≡ item.position = sym (places new.0 item new.1).0 in
          record {
            fresh = fresh_place (records ++ take n snapshot) place item at (fresh_here new.0 item new.1 place new.2 at);
            window = subst (HasWindowAt identity versions (records ++ take n snapshot)) here window_here;
            put = subst (ArePutBefore identity (records ++ take n snapshot) told) here put_here;
          })
    ];
  }

  window_placed : AllByRecursion (λ item. item.position ≤ mark.lsn.0) (records ++ take n snapshot)
  window_placed = all_append (λ (item : Record). item.position ≤ mark.lsn.0) records (take n snapshot)
      (all_weaker (λ (item : Record). item.position ≤ far) (λ (item : Record). item.position ≤ mark.lsn.0) records (λ item le. below_le item.position far mark.lsn.0 le beyond) up.placed)
      (all_by_place (λ (item : Record). item.position ≤ mark.lsn.0) (take n snapshot) (λ j item at. same_le item.position mark.lsn.0 (places j item at).0))

  window_late : AllByRecursion (λ item. start ≤ item.position) (records ++ take n snapshot)
  window_late = all_append (λ (item : Record). start ≤ item.position) records (take n snapshot) up.late
      (all_by_place (λ (item : Record). start ≤ item.position) (take n snapshot) (λ j item at. after_start start low high mark.lsn.0 item.position up.order up.lower up.past.0 (places j item at).0))

  window_log : IsExactLog identity told (records ++ take n snapshot) (length (events_since start before))
  window_log =
      log_others identity told (after_rise start 0 versions up.fit.rise) (after_changes identity start no_rows versions up.fit.fit) records (take n snapshot) (length (events_since start before)) others
      (subst (IsExactLog identity told records) (sym (nothing_sent (length (events_since start before)))) up.log)

  early : AllByRecursion (λ item. item.position < mark.lsn.0) records
  early = all_weaker (λ (item : Record). item.position ≤ far) (λ (item : Record). item.position < mark.lsn.0) records (λ item le. below_mark item.position far mark.lsn.0 le beyond) up.placed

pub snapshots_are_caught_up : SnapshotsAreCaughtUp
snapshots_are_caught_up identity infos versions before mark later start low high far begun above closed records snapshot now n is_high beyond in_time listed clear window up =
    let next : IsNextAfter infos versions start low high before mark later = next_of identity infos versions start low high far before mark later 0 records up in
    let none : up.own ≡ [] = none_own (IsClearPrint identity) (next_told (mark ∷ later)) up.own up.sending in
    let same : records ≡ up.kept = up.parted ∙ (ap (λ (l : List Record). up.kept ++ l) none ∙ append-nil up.kept) in
    let caught : AgreesUpTo identity infos versions start records low high = subst (λ (l : List Record). AgreesUpTo identity infos versions start l low high) (sym same) up.agrees_up_to in
    let silent : events_of_commit mark ≡ [] = no_events mark is_high in
    let count : length (events_since start (before ++ mark ∷ [])) ≡ length (events_since start before) =
    told_next start before mark (not_before start low high mark.lsn.0 up.order up.lower up.past.0) ∙ (ap (λ (l : List ToldEvent). length (events_since start before) + length l) silent ∙ sym (nothing_sent (length (events_since start before)))) in
    fresh_start identity infos versions (before ++ mark ∷ []) later start low mark.lsn.0 mark.lsn.0 (records ++ take n snapshot) up.fit (split_next versions before mark later up.spelled) up.order
    (up_to_next low high mark.lsn.0 up.lower up.past.0) (inr (is_lsn versions before mark later up.spelled)) (upto_next versions before mark later up.fit.rise up.spelled) (past_next versions before mark later up.fit.rise up.spelled)
    (parts_of_snapshots_are_caught identity infos versions start low high before mark later begun above closed records snapshot now n next (mark_is_silent (plain_commit mark) is_high)
    (unaltered identity infos versions before mark later start low high far begun above closed records snapshot now n is_high beyond in_time listed window up) in_time listed clear window
    (early identity infos versions before mark later start low high far begun above closed records snapshot now n is_high beyond in_time listed window up) caught)
    (subst (IsExactLog identity (events_since start versions) (records ++ take n snapshot)) (sym count)
    (window_log identity infos versions before mark later start low high far begun above closed records snapshot now n is_high beyond in_time listed window up))
    (window_right identity infos versions before mark later start low high far begun above closed records snapshot now n is_high beyond in_time listed window up)
    (window_late identity infos versions before mark later start low high far begun above closed records snapshot now n is_high beyond in_time listed window up)
    (window_placed identity infos versions before mark later start low high far begun above closed records snapshot now n is_high beyond in_time listed window up)

-- ---- other clients' commits

within_all : (a b w : ℕ) → w ≡ a + b → a ≤ w
within_all a b w e = omega (arith, e)

-- more told events after those that the log has
exact_longer : (identity : Identity) (told extra : List ToldEvent) (records : List Record) (count : ℕ) → IsExact identity told records count → IsExact identity (told ++ extra) records count
exact_longer identity told extra records count exact =
    let same : take count (told ++ extra) ≡ take count told = take_within count told extra exact.few in
    record {
      few = le_trans exact.few (within_all (length told) (length extra) (length (told ++ extra)) (length-append told extra));
      fresh = subst (λ (l : List ToldEvent). AllZip (IsPrint identity) l (news records)) (sym same) exact.fresh;
      others = λ place item at change. subst (λ (l : List ToldEvent). IsAmong identity l item) (sym same) (exact.others place item at change);
    }

next_longer : {B : Type 0} (R : ToldEvent → B → Type 0) (later more : List Versioned) (sent : ℕ) (own : List B) → sent ≤ length (next_told later) → AllZip R (take sent (next_told later)) own
    → (sent ≤ length (next_told (later ++ more))) × AllZip R (take sent (next_told (later ++ more))) own
next_longer R [] more zero own few zipped = (none_le (length (next_told more)), zipped)
next_longer R [] more (suc sent) own few zipped = absurd (omega (arith, few))
next_longer R (v ∷ later) more sent own few zipped = (few, zipped)

ends_longer : (versions more : List Versioned) (low high : ℕ) → (high ≡ low) ⊎ IsLsnOf versions high → (high ≡ low) ⊎ IsLsnOf (versions ++ more) high
ends_longer versions more low high (inl same) = inl same
ends_longer versions more low high (inr at) =
    let found = mapped (λ (v : Versioned). v.lsn.0) versions at.0 high at.1 in
    inr (at.0, map_get (λ (v : Versioned). v.lsn.0) (versions ++ more) at.0 found.0 (at_left versions more at.0 found.0 found.1) ∙ ap Some (sym found.2))

pub longer_histories_are_caught_up : LongerHistoriesAreCaughtUp
longer_histories_are_caught_up identity infos versions before later more start low high far sent records fit above up =
    let after_far : AllByRecursion (λ v. far < v.lsn.0) more = all_weaker (λ (v : Versioned). (far < v.lsn.0) × (high < v.lsn.0)) (λ (v : Versioned). far < v.lsn.0) more (λ v both. both.0) above in
    let after_high : AllByRecursion (λ v. high < v.lsn.0) more = all_weaker (λ (v : Versioned). (far < v.lsn.0) × (high < v.lsn.0)) (λ (v : Versioned). high < v.lsn.0) more (λ v both. both.1) above in
    let over : AllByRecursion (λ item. AllByRecursion (λ v. item.position < v.lsn.0) more) up.kept =
    all_left (λ (item : Record). AllByRecursion (λ (v : Versioned). item.position < v.lsn.0) more) up.kept up.own (subst (AllByRecursion (λ (item : Record). AllByRecursion (λ (v : Versioned). item.position < v.lsn.0) more)) up.parted
    (all_weaker (λ (item : Record). item.position ≤ far) (λ (item : Record). AllByRecursion (λ (v : Versioned). item.position < v.lsn.0) more) records
    (λ item le. all_weaker (λ (v : Versioned). far < v.lsn.0) (λ (v : Versioned). item.position < v.lsn.0) more (λ v lt. below_mark item.position far v.lsn.0 le lt) after_far) up.placed)) in
    let next = next_longer (IsClearPrint identity) later more sent up.own up.few up.sending in
    let told_are : events_since start (versions ++ more) ≡ events_since start versions ++ events_since start more = events_since-append start versions more in
    record {
      fit = fit;
      spelled = ap (λ (l : List Versioned). l ++ more) up.spelled ∙ append_assoc before later more;
      order = up.order;
      lower = up.lower;
      ends = ends_longer versions more low high up.ends;
      upto = up.upto;
      past = all_append (λ (v : Versioned). high < v.lsn.0) later more up.past after_high;
      kept = up.kept;
      own = up.own;
      parted = up.parted;
      agrees_up_to = longer_histories_are_caught identity infos versions more start low high up.kept fit after_high over up.agrees_up_to;
      few = next.0;
      sending = next.1;
      log = subst (λ (l : List ToldEvent). IsExactLog identity l records (length (events_since start before) + sent)) (sym told_are)
          (record { count = up.log.count; exact = exact_longer identity (events_since start versions) (events_since start more) records up.log.count up.log.exact; not_after = up.log.not_after });
      snapshots = right_longer identity versions more records start far up.placed after_far up.snapshots;
      late = up.late;
      placed = up.placed;
    }

-- ---- what a session may stop with

caught_now : (identity : Identity) (infos : List TableInfo) (versions before later : List Versioned) (start low high far sent : ℕ) (records : List Record) → (up : HasDeliveredUpTo identity infos versions start low high far before later sent records) → (n : ℕ) (own : List Record)
    → n ≤ length (next_told later) → AllZip (IsClearPrint identity) (take n (next_told later)) own → AgreesUpTo identity infos versions start (up.kept ++ own) low high
caught_now identity infos versions before [] start low high far sent records up zero [] few zipped = subst (λ (l : List Record). AgreesUpTo identity infos versions start l low high) (sym (append-nil up.kept)) up.agrees_up_to
caught_now identity infos versions before [] start low high far sent records up zero (item ∷ own) few zipped = absurd zipped
caught_now identity infos versions before [] start low high far sent records up (suc n) own few zipped = absurd (omega (arith, few))
caught_now identity infos versions before (v ∷ later) start low high far sent records up n own few zipped =
    prints_are_caught identity infos versions start low high before v later n up.kept own (next_of identity infos versions start low high far before v later sent records up) zipped up.agrees_up_to

pub caught_up_logs_are_right : CaughtUpLogsAreRight
caught_up_logs_are_right identity infos versions before later start low high far sent records up = (
  subst (λ (l : List Record). AgreesUpTo identity infos versions start l low high) (sym up.parted)
      (caught_now identity infos versions before later start low high far sent records up sent up.own up.few up.sending),
  (up.log.count, up.log.exact),
  up.snapshots,
)

among_first : (k a s b : ℕ) → k < a → a + s ≤ b → k < b
among_first k a s b lt le = omega (arith, lt, le)

pub delivered_events_are_put : DeliveredEventsArePut
delivered_events_are_put identity infos versions before later start low high far sent records up number t at =
    let told : List ToldEvent = events_since start versions in
    let parts : told ≡ events_since start before ++ events_of_commits later = told_parts start versions before later up.spelled (ahead_of start low high later up.order up.lower up.past) in
    let here : slice_get told number ≡ Some t = ap (λ (l : List ToldEvent). slice_get l number) parts ∙ at_left (events_since start before) (events_of_commits later) number t at in
    let index : number < up.log.count = among_first number (length (events_since start before)) sent up.log.count (slice_get-lt (events_since start before) number t at) up.log.not_after in
    let first = first_print identity told (after_rise start 0 versions up.fit.rise) (after_changes identity start no_rows versions up.fit.fit) records up.log.count number t up.log.exact here index in
    record { place = first.2.place; item = first.0; stands = first.2.stands; is = first.1 }
