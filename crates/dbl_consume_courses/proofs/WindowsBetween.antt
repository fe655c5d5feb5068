-- A log of tables that may be altered is aged between two positions as the records of a window are delivered.
use Rattle.std.proofs.Common.{◌≡◌, ◌∙◌, inl, inr, ℕ, ℤ, suc, ◌+◌, ◌≤◌, ◌<◌, max, Option, None, List, [], ◌∷◌, ◌++◌, length, map, take, refl, sym, ap, subst, arith, append-nil, append_assoc}
use Rattle.std.proofs.lemmas.Bool.{cases_eq}
use Rattle.std.specs.Prelude.{option_map, unwrap_or}
use Rattle.std.specs.List.{AllByRecursion}
use Rattle.dbl_record.specs.declared.record.Record.{Record}
use Rattle.dbl_record.specs.Places.{place_of}
use Rattle.dbl_model_table.specs.declared.identity.Identity.{Identity}
use Rattle.dbl_model_table.specs.declared.row.Key.{Key}
use Rattle.dbl_model_table.specs.declared.table.TableInfo.{TableInfo}
use Rattle.dbl_model_table.specs.declared.change.Change.{Change}
use Rattle.dbl_model_table.specs.declared.change.Commit.{Commit}
use Rattle.dbl_model_table.specs.Rows.{changes_of}
use Rattle.dbl_model_history.specs.History.{AreRising}
use Rattle.dbl_model_history.specs.Ranges.{IsMomentInRange}
use Rattle.dbl_model_history.proofs.MomentLemmas.{lsns}
use Rattle.dbl_model_event.specs.declared.closed.Closed.{Closed}
use Rattle.dbl_model_event.specs.Clashes.{snapshot_clash}
use Rattle.dbl_model_event.specs.Snapshots.{progress_record, chunk_records}
use Rattle.dbl_model_event.specs.SnapshotLists.{IsSnapshot}
use Rattle.dbl_consume_laws.specs.Commits.{moment_after}
use Rattle.dbl_consume_laws.specs.KnownKeys.{AreToldUpTo}
use Rattle.dbl_consume_laws.specs.Moments.{changes_through, place_moment, record_moment, last_moment}
use Rattle.dbl_consume_laws.specs.Windows.{IsRightWindow}
use Rattle.dbl_consume_laws.proofs.Lists.{all_take}
use Rattle.dbl_consume_laws.proofs.Moments.{marks_stand}
use Rattle.dbl_consume_courses.specs.Versions.{Versioned, plain_commit, versions_to}
use Rattle.dbl_consume_courses.specs.Courses.{Course, ticked_commit, alteration_of, course}
use Rattle.dbl_consume_courses.specs.Since.{since}
use Rattle.dbl_consume_courses.specs.AlteredTables.{course_changes, course_start, version_moment, position_moment, version_span_end, last_position, IsTableAged, IsAgedFrom}
use Rattle.dbl_consume_courses.specs.FitVersions.{AreFitVersions}
use Rattle.dbl_consume_courses.specs.Growth.{course_of, own_span_end, IsVersionAmong}
use Rattle.dbl_consume_courses.specs.CourseAges.{own_from}
use Rattle.dbl_consume_courses.specs.RowsThere.{changes_in}
use Rattle.dbl_consume_courses.specs.TableAges.{IsInCourse}
use Rattle.dbl_consume_courses.specs.AgesBetween.{IsLsnOf, AreAgedBetween}
use Rattle.dbl_consume_courses.specs.OtherWindows.{PartsOfSnapshotsKeepAgesBetween}
use Rattle.dbl_consume_courses.proofs.Alone.{all_weaker}
use Rattle.dbl_consume_courses.proofs.FitLemmas.{rising_end, are_fit}
use Rattle.dbl_consume_courses.proofs.GrowthLemmas.{IsPlaced, lsns_append, rises_in, fit_versions_left, placed_in, one_more, late_items, read_at}
use Rattle.dbl_consume_courses.proofs.SinceLemmas.{appended}
use Rattle.dbl_consume_courses.proofs.Positions.{le_of, all_end, of_lsns, past_all}
use Rattle.dbl_consume_courses.proofs.TableLemmas.{table_goes_back, own_at, history_at}
use Rattle.dbl_consume_courses.proofs.TableWindows.{silent_tick, snapshots_keep_table}
use Rattle.dbl_consume_courses.proofs.ThereLemmas.{changes_end, moment_of_commit}
use Rattle.dbl_consume_courses.proofs.VersionLemmas.{all_to}
use Rattle.dbl_consume_courses.proofs.BetweenLemmas.{last_le, last_more, reach_item, span_item}
use Rattle.dbl_consume_courses.proofs.OtherWindows.{other_windows}

lsn_here : (earlier : List Versioned) (v : Versioned) (later : List Versioned) → IsLsnOf (earlier ++ v ∷ later) v.lsn.0
lsn_here [] v later = (0, refl)
lsn_here (x ∷ earlier) v later = let there = lsn_here earlier v later in (suc there.0, there.1)

module _ (identity : Identity) (infos : List TableInfo) (start low : ℕ) (earlier : List Versioned) (mark : Versioned) (later : List Versioned) (begun : ℕ) (above : Option Key) (closed : Closed) (records listed : List Record) (now : ℤ)
    (valid : AreFitVersions infos (earlier ++ mark ∷ later)) (silent : changes_of (plain_commit mark) ≡ []) (unaltered : mark.altered ≡ None) (after : start < mark.lsn.0) (in_time : IsMomentInRange now)
    (is : IsSnapshot identity mark.infos closed (plain_commit mark) now listed) (clear : snapshot_clash identity mark.infos closed ≡ None)
    (early : AllByRecursion (λ item. item.position < mark.lsn.0) records) where
  abbrev W : List Versioned
  W = earlier ++ mark ∷ later

  abbrev front : List Versioned
  front = earlier ++ mark ∷ []

  long : front ++ later ≡ W
  long = append_assoc earlier (mark ∷ []) later

  front_valid : AreFitVersions infos front
  front_valid = fit_versions_left infos front later (subst (AreFitVersions infos) (sym long) valid)

  rise : AreRising 0 (lsns (map plain_commit earlier) ++ lsns (map plain_commit (mark ∷ later)))
  rise = subst (AreRising 0) (lsns_append earlier (mark ∷ later)) valid.rise

  rise_later : AreRising mark.lsn.0 (lsns (map plain_commit later))
  rise_later = (rising_end 0 (lsns (map plain_commit earlier)) (lsns (map plain_commit (mark ∷ later))) rise).1

  below : AllByRecursion (λ e. e.lsn.0 < mark.lsn.0) earlier
  below = of_lsns (λ l. l < mark.lsn.0) earlier (rises_in 0 (lsns (map plain_commit earlier)) mark.lsn.0 (lsns (map plain_commit later)) rise)

  to_mark : versions_to mark.lsn.0 W ≡ front
  to_mark =
      ap (versions_to mark.lsn.0) (sym long)
      ∙ all_to mark.lsn.0 front later (all_end (λ e. e.lsn.0 ≤ mark.lsn.0) earlier mark (all_weaker (λ (e : Versioned). e.lsn.0 < mark.lsn.0) (λ (e : Versioned). e.lsn.0 ≤ mark.lsn.0) (λ e lt. le_of e.lsn.0 mark.lsn.0 lt) earlier below) (omega arith))
      (past_all mark.lsn.0 mark.lsn.0 later (omega arith) rise_later)

  none_of : (table : ℕ) → alteration_of table mark.altered ≡ None
  none_of table = ap (alteration_of table) unaltered

  in_front : (table : ℕ) → IsInCourse infos W front start table earlier mark []
  in_front table = record { fit = valid; hidden = later; parted = sym long; among = record { fit = front_valid; spelled = refl; unaltered = (none_of table, tt); after = after } }

  at_mark : (n : ℕ) → AllByRecursion (λ item. item.position ≡ mark.lsn.0) (take n listed)
  at_mark n =
      let chunk_is : listed ≡ chunk_records identity is.info closed.rows closed.through closed.done (plain_commit mark) now =
      is.records_are ∙ ap (λ (o : Option TableInfo). unwrap_or (option_map (λ i. chunk_records identity i closed.rows closed.through closed.done (plain_commit mark) now) o) []) is.captured in
      all_take (λ item. item.position ≡ mark.lsn.0) n listed
      (subst (AllByRecursion (λ item. item.position ≡ mark.lsn.0)) (sym chunk_is) (read_at identity is.info (plain_commit mark) now 0 closed.rows (progress_record identity is.info (plain_commit mark) (length closed.rows) closed.through closed.done) refl))

  -- each log position of a log before the watermark is below it
  last_below : (position : ℕ) (items : List Record) → position ≤ mark.lsn.0 → AllByRecursion (λ item. item.position < mark.lsn.0) items → last_position position items ≤ mark.lsn.0
  last_below position [] le all = le
  last_below position (item ∷ items) le all = last_below (max position item.position) items (max_le position item.position mark.lsn.0 le all.0) all.1
    where
      max_le : (a b m : ℕ) → a ≤ m → b < m → max a b ≤ m
      max_le a b m one two = omega (arith, one, two)

  -- a record of the watermark reaches it, in the course and in the history
  own_there : (table : ℕ) (item : Record) → item.position ≡ mark.lsn.0 → record_moment (course_of infos start table front).infos (course_of infos start table front).commits item ≡ own_from (course_of infos start table front) mark.lsn.0
  own_there table item at =
      let c : Course = course_of infos start table front in
      let among : IsVersionAmong infos front start table earlier mark [] = (in_front table).among in
      let placed : IsPlaced infos start table front earlier mark [] = placed_in infos front start table earlier mark [] among in
      let ahead : List Commit = (course_of infos start table earlier).commits in
      let tick : Commit = ticked_commit table mark in
      let none : changes_of tick ≡ [] = silent_tick table mark mark.body refl silent in
      let facts = are_fit infos front start table front_valid in
      ap (λ (p : ℕ). place_moment c.infos c.commits (p, item.ordinal)) at
      ∙ (ap (λ (l : List Commit). place_moment c.infos l (mark.lsn.0, item.ordinal)) placed.commits
      ∙ (marks_stand c.infos ahead tick [] item.ordinal (subst (λ (l : List Commit). AreRising 0 (lsns l)) placed.commits facts.rise) none
      ∙ (ap moment_after (one_more infos front start table earlier mark [] among)
      ∙ sym (own_at identity infos W front start table earlier mark [] (in_front table)))))

  all_there : (item : Record) → item.position ≡ mark.lsn.0 → version_moment W (place_of item) ≡ position_moment W mark.lsn.0
  all_there item at =
      let size : length (changes_of (plain_commit mark)) ≡ 0 = ap length silent in
      let ended : changes_in front ≡ changes_in earlier + length (changes_of (plain_commit mark)) = changes_end earlier mark in
      let through : changes_through mark.infos (changes_of (plain_commit mark)) item.ordinal ≡ 0 = ap (λ (l : List Change). changes_through mark.infos l item.ordinal) silent in
      let here : version_moment W (mark.lsn.0, item.ordinal) ≡ changes_in earlier + changes_through mark.infos (changes_of (plain_commit mark)) item.ordinal = moment_of_commit earlier mark later 0 item.ordinal valid.rise in
      let up : position_moment W mark.lsn.0 ≡ changes_in front = history_at identity infos W front start 0 earlier mark [] (in_front 0) in
      let both : version_moment W (mark.lsn.0, item.ordinal) ≡ position_moment W mark.lsn.0 = omega (arith, size, ended, through, here, up) in
      ap (λ (p : ℕ). version_moment W (p, item.ordinal)) at ∙ both

  module _ (n : ℕ) (right : IsRightWindow (course_of infos start closed.table front).infos (course_changes (course_of infos start closed.table front)) begun (own_from (course_of infos start closed.table front) mark.lsn.0) above closed)
      (begins : course_start (course_of infos start closed.table front) ≤ begun)
      (told : AreToldUpTo identity (course_of infos start closed.table front).infos (since (course_of infos start closed.table front).start records) closed.table above) where
    upto : AllByRecursion (λ item. item.position ≤ mark.lsn.0) records
    upto = all_weaker (λ (item : Record). item.position < mark.lsn.0) (λ (item : Record). item.position ≤ mark.lsn.0) (λ item lt. le_of item.position mark.lsn.0 lt) records early

    at_high : (table : ℕ) → IsTableAged identity (course_of infos start table front) W records mark.lsn.0 table → IsTableAged identity (course_of infos start table front) W (records ++ take n listed) mark.lsn.0 table
    at_high table before = elim (cases_eq closed.table table) [
      | inl own ↦ subst (λ (t : ℕ). IsTableAged identity (course_of infos start t front) W (records ++ take n listed) mark.lsn.0 t) own
          (snapshots_keep_table identity infos W front start earlier mark [] begun above closed records listed now n (in_front closed.table) silent in_time is clear right begins told upto
          (subst (λ (t : ℕ). IsTableAged identity (course_of infos start t front) W records mark.lsn.0 t) (sym own) before))
      | inr other ↦ other_windows identity infos W front start table earlier mark [] closed records listed now n (in_front table) silent is other upto before
    ]

    at : (table position : ℕ) → position ≤ mark.lsn.0 → IsAgedFrom identity infos W start records position table → IsAgedFrom identity infos W start records mark.lsn.0 table
        → IsAgedFrom identity infos W start (records ++ take n listed) position table
    at table position le own high = by (take n listed) refl
      where
        high_is : last_position mark.lsn.0 records ≡ mark.lsn.0
        high_is = both_le (last_position mark.lsn.0 records) mark.lsn.0 (last_below mark.lsn.0 records (omega arith) early) (last_le mark.lsn.0 records)
          where
            both_le : (a b : ℕ) → a ≤ b → b ≤ a → a ≡ b
            both_le a b one two = omega (arith, one, two)

        by : (items : List Record) → take n listed ≡ items → IsAgedFrom identity infos W start (records ++ take n listed) position table
        by [] none = subst (λ (l : List Record). IsAgedFrom identity infos W start l position table) (sym (ap (λ (l : List Record). records ++ l) none ∙ append-nil records)) own
        by (item ∷ more) some =
            let c : Course = course_of infos start table front in
            let there : AllByRecursion (λ x. x.position ≡ mark.lsn.0) (item ∷ more) = subst (AllByRecursion (λ x. x.position ≡ mark.lsn.0)) some (at_mark n) in
            let before : IsTableAged identity c W records mark.lsn.0 table =
            subst (λ (l : List Versioned). IsTableAged identity (course_of infos start table l) W records mark.lsn.0 table) (ap (λ (q : ℕ). versions_to q W) high_is ∙ to_mark) high in
            let now_aged : IsTableAged identity c W (records ++ item ∷ more) mark.lsn.0 table = subst (λ (l : List Record). IsTableAged identity c W (records ++ l) mark.lsn.0 table) some (at_high table before) in
            let placed : IsPlaced infos start table front earlier mark [] = placed_in infos front start table earlier mark [] (in_front table).among in
            let kept : since c.start (records ++ item ∷ more) ≡ since c.start records ++ item ∷ more = appended c.start records (item ∷ more) (late_items c.start mark.lsn.0 (item ∷ more) (le_of c.start mark.lsn.0 placed.late) there) in
            let reach : own_from c mark.lsn.0 ≤ own_span_end c (records ++ item ∷ more) (own_from c position) =
            far_le (own_from c mark.lsn.0) (record_moment c.infos c.commits item) (own_from c position) (last_moment c.infos c.commits (course_start c) (since c.start (records ++ item ∷ more))) (own_there table item there.0)
            (subst (λ (l : List Record). record_moment c.infos c.commits item ≤ last_moment c.infos c.commits (course_start c) l) (sym kept) (reach_item c.infos c.commits (course_start c) (since c.start records) item more)) in
            let far : position_moment W mark.lsn.0 ≤ version_span_end W (records ++ item ∷ more) (position_moment W position) =
            subst (λ (m : ℕ). m ≤ version_span_end W (records ++ item ∷ more) (position_moment W position)) (all_there item there.0) (span_item W (position_moment W position) records item more) in
            let gone_back : IsTableAged identity c W (records ++ item ∷ more) position table = table_goes_back identity c W (records ++ item ∷ more) position mark.lsn.0 table le reach far now_aged in
            let last : last_position position (records ++ item ∷ more) ≡ mark.lsn.0 =
            last_more position mark.lsn.0 records item more there ∙ max_is (last_position position records) mark.lsn.0 (last_below position records le early) in
            subst (λ (l : List Record). IsAgedFrom identity infos W start (records ++ l) position table) (sym some)
            (subst (λ (l : List Versioned). IsTableAged identity (course_of infos start table l) W (records ++ item ∷ more) position table) (sym (ap (λ (q : ℕ). versions_to q W) last ∙ to_mark)) gone_back)
          where
            far_le : (a b f l : ℕ) → b ≡ a → b ≤ l → a ≤ max f l
            far_le a b f l one two = omega (arith, one, two)

            max_is : (a b : ℕ) → a ≤ b → max a b ≡ b
            max_is a b less = omega (arith, less)

pub windows_between : PartsOfSnapshotsKeepAgesBetween
windows_between identity infos versions start low earlier mark later begun above closed records listed now n valid spelled silent unaltered after order in_time is clear right begins told early aged =
    subst (λ (l : List Versioned). AreAgedBetween identity infos l start (records ++ take n listed) low mark.lsn.0) (sym spelled)
    (λ table position is_at lower upper. at identity infos start low earlier mark later begun above closed records listed now whole silent unaltered after in_time is clear early n
    (subst (λ (c : Course). IsRightWindow c.infos (course_changes c) begun (own_from c mark.lsn.0) above closed) (course_is closed.table) right)
    (subst (λ (c : Course). course_start c ≤ begun) (course_is closed.table) begins)
    (subst (λ (c : Course). AreToldUpTo identity c.infos (since c.start records) closed.table above) (course_is closed.table) told)
    table position upper (here table position is_at lower upper) (here table mark.lsn.0 (inr (lsn_here earlier mark later)) order (omega arith)))
  where
    whole : AreFitVersions infos (earlier ++ mark ∷ later)
    whole = subst (AreFitVersions infos) spelled valid

    here : AreAgedBetween identity infos (earlier ++ mark ∷ later) start records low mark.lsn.0
    here = subst (λ (l : List Versioned). AreAgedBetween identity infos l start records low mark.lsn.0) spelled aged

    course_is : (table : ℕ) → course infos versions start table mark.lsn.0 ≡ course_of infos start table (earlier ++ mark ∷ [])
    course_is table =
        ap (λ (l : List Versioned). course_of infos start table (versions_to mark.lsn.0 l)) spelled
        ∙ ap (course_of infos start table) (to_mark identity infos start low earlier mark later begun above closed records listed now whole silent unaltered after in_time is clear early)
