-- The steps of a session in terms of the commits that it reads, of a history in which no table is altered.
use Rattle.std.proofs.Common.{◌≡◌, ◌∙◌, ℕ, ℤ, ◌+◌, ◌≤◌, ◌<◌, max, Option, None, List, [], ◌∷◌, ◌++◌, length, take, drop, map, refl, sym, ap, ap₂, subst, arith}
use Rattle.std.specs.Prelude.{nat_le}
use Rattle.std.specs.List.{AllByRecursion, AllZip}
use Rattle.dbl_base.specs.declared.lsn.Lsn.{Lsn}
use Rattle.dbl_record.specs.declared.record.Record.{Record}
use Rattle.dbl_model_table.specs.declared.identity.Identity.{Identity}
use Rattle.dbl_model_table.specs.declared.row.Key.{Key}
use Rattle.dbl_model_table.specs.declared.table.TableInfo.{TableInfo}
use Rattle.dbl_model_table.specs.declared.change.Commit.{Commit}
use Rattle.dbl_model_table.specs.Rows.{changes_of, all_changes}
use Rattle.dbl_faithful.specs.Offset.declared.offset.Offset.{Offset}
use Rattle.dbl_faithful.specs.ModelHistory.Fit.{AreInfosOf, IsFitHistory}
use Rattle.dbl_faithful.specs.ModelHistory.History.{RawCommit, History}
use Rattle.dbl_faithful.specs.ModelHistory.InForce.{opening_infos, versioned}
use Rattle.dbl_faithful.specs.ModelHistory.Ranges.{IsMomentInRange}
use Rattle.dbl_faithful.specs.ModelHistory.Typed.{typed_commit, typed}
use Rattle.dbl_faithful.specs.ModelEvent.declared.closed.Closed.{Closed}
use Rattle.dbl_faithful.specs.ModelEvent.Clashes.{snapshot_clash}
use Rattle.dbl_faithful.specs.ModelEvent.Events.{events_of}
use Rattle.dbl_faithful.specs.ModelEvent.SnapshotLists.{IsSnapshot}
use Rattle.dbl_faithful.specs.ConsumeLaws.Commits.{moment_after}
use Rattle.dbl_faithful.specs.ConsumeLaws.KnownKeys.{AreToldUpTo}
use Rattle.dbl_faithful.specs.ConsumeLaws.Windows.{IsRightWindow}
use Rattle.dbl_consume_courses.specs.Versions.{Alteration, Versioned, plain_commit, versions_to}
use Rattle.dbl_consume_courses.specs.Courses.{Course, ticked_commit, alteration_of, course_by, course_after, course_from, course}
use Rattle.dbl_consume_courses.specs.Since.{since}
use Rattle.dbl_consume_courses.specs.FitVersions.{AreFitVersions}
use Rattle.dbl_consume_courses.specs.Growth.{point_after}
use Rattle.dbl_faithful.specs.CaughtLaws.{IsWindowInCourse}
use Rattle.dbl_faithful.specs.CaughtUp.{HasDeliveredUpTo}
use Rattle.dbl_faithful.specs.Faithful.{IsFaithfulTo}
use Rattle.dbl_faithful.specs.Lag.{IsOffsetOf}
use Rattle.dbl_faithful.specs.RightSnapshots.{IsHighMark}
use Rattle.dbl_faithful.specs.ToldEvents.{ToldEvent, tell, events_of_commit, IsClearPrint}
use Rattle.dbl_faithful.proofs.CaughtUp.{sent_records_are_caught_up, commits_are_caught_up, snapshots_are_caught_up, longer_histories_are_caught_up}
use Rattle.dbl_faithful.proofs.Faithful.{caught_up_stores_are_faithful}
use Rattle.dbl_faithful.proofs.Items.{all_weaker}
use Rattle.dbl_faithful.proofs.Lists.{longer, map_append, versioned_more, new_versions, versioned_all, infos_through, pairs}
use Rattle.dbl_faithful.proofs.Trace.{all_filter}
use Rattle.dbl_faithful.proofs.Plainly.{opening_is, commits_are, each_keeps, are_plain, are_valid, IsNextPlain, next_plain, IsPartedPlain, parted_plain, of_plain, events_plain, window_plain}
use Rattle.dbl_capture_model.specs.Delivered.{IsDelivered}
use Rattle.dbl_capture_model.proofs.Events.{cancel}

-- ---- lists

all_back : (P : Versioned → Type 0) (xs ys : List Versioned) → AllByRecursion P (xs ++ ys) → AllByRecursion P ys
all_back P [] ys all = all
all_back P (x ∷ xs) ys all = all_back P xs ys all.1

le_on : (a b c : ℕ) → a ≤ b → b ≤ c → a ≤ c
le_on a b c one two = omega (arith, one, two)

-- ---- courses

-- the captured tables and the start of each course are those of the log
course_keeps : (infos : List TableInfo) (start table : ℕ) (commits : List Commit) (vs : List Versioned) → AllByRecursion (λ v. (v.infos ≡ infos) × (v.altered ≡ None)) vs
    → ((course_from table (record { infos = infos; commits = commits; start = start }) vs).infos ≡ infos) × ((course_from table (record { infos = infos; commits = commits; start = start }) vs).start ≡ start)
course_keeps infos start table commits [] each = (refl, refl)
course_keeps infos start table commits (v ∷ vs) each =
    subst (λ (c : Course). ((course_from table c vs).infos ≡ infos) × ((course_from table c vs).start ≡ start)) (sym step) (course_keeps infos start table (commits ++ ticked_commit table v ∷ []) vs each.1)
  where
    step : course_after table (record { infos = infos; commits = commits; start = start }) v ≡ record { infos = infos; commits = commits ++ ticked_commit table v ∷ []; start = start }
    step =
        ap (λ (o : Option Alteration). course_by table (record { infos = infos; commits = commits; start = start }) v (alteration_of table o)) each.0.1
        ∙ ap (λ (l : List TableInfo). let c : Course = record { infos = l; commits = commits ++ ticked_commit table v ∷ []; start = start } in c) each.0.0

module _ (identity : Identity) (infos : List TableInfo) (history : History) (fit : IsFitHistory history) (captured : AreInfosOf history infos) (start low : ℕ) where
  -- no record lies further
  pub far_on : (high far other : ℕ) (before later : List Commit) (sent : ℕ) (records : List Record) → far ≤ other → IsDelivered identity infos history start low high far before later sent records
      → IsDelivered identity infos history start low high other before later sent records
  far_on high far other before later sent records le is = record {
    read = is.read;
    unread = is.unread;
    read_is = is.read_is;
    unread_is = is.unread_is;
    up = record {
      fit = is.up.fit;
      spelled = is.up.spelled;
      order = is.up.order;
      lower = is.up.lower;
      ends = is.up.ends;
      upto = is.up.upto;
      past = is.up.past;
      kept = is.up.kept;
      own = is.up.own;
      parted = is.up.parted;
      agrees_up_to = is.up.agrees_up_to;
      few = is.up.few;
      sending = is.up.sending;
      log = is.up.log;
      snapshots = is.up.snapshots;
      late = is.up.late;
      placed = all_weaker (λ (item : Record). item.position ≤ far) (λ (item : Record). item.position ≤ other) records (λ item under. le_on item.position far other under le) is.up.placed;
    };
  }

  -- ---- what was told

  pub course_is : (table p : ℕ) → ((course (opening_infos history infos) (versioned infos history) start table p).infos ≡ infos) × ((course (opening_infos history infos) (versioned infos history) start table p).start ≡ start)
  course_is table p =
      subst (λ (l : List TableInfo). ((course l (versioned infos history) start table p).infos ≡ infos) × ((course l (versioned infos history) start table p).start ≡ start)) (sym (opening_is history infos fit captured))
      (course_keeps infos start table [] (versions_to p (versioned infos history))
      (all_filter (λ (v : Versioned). (v.infos ≡ infos) × (v.altered ≡ None)) (λ (v : Versioned). nat_le v.lsn.0 p) (versioned infos history) (each_keeps history infos fit captured)))

  -- what is told in a table's course at one position is told in that at each other one
  pub told_on : (records : List Record) (table p q : ℕ) (above : Option Key)
      → AreToldUpTo identity (course (opening_infos history infos) (versioned infos history) start table p).infos (since (course (opening_infos history infos) (versioned infos history) start table p).start records) table above
      → AreToldUpTo identity (course (opening_infos history infos) (versioned infos history) start table q).infos (since (course (opening_infos history infos) (versioned infos history) start table q).start records) table above
  told_on records table p q above told =
      let at_p = course_is table p in
      let at_q = course_is table q in
      subst (λ (l : List TableInfo). AreToldUpTo identity l (since (course (opening_infos history infos) (versioned infos history) start table q).start records) table above) (at_p.0 ∙ sym at_q.0)
      (subst (λ (n : ℕ). AreToldUpTo identity (course (opening_infos history infos) (versioned infos history) start table p).infos (since n records) table above) (at_p.1 ∙ sym at_q.1) told)

  -- ---- a longer history

  module _ (more : List RawCommit) (fit_longer : IsFitHistory (longer history more)) (captured_longer : AreInfosOf (longer history more) infos) where
    abbrev new : List Versioned
    new = new_versions infos history more

    list : versioned infos (longer history more) ≡ versioned infos history ++ new
    list = versioned_more infos history more

    new_plain : map plain_commit new ≡ map (typed_commit infos) more
    new_plain =
        cancel (typed infos history) (map plain_commit new) (map (typed_commit infos) more)
        (ap (λ (l : List Commit). l ++ map plain_commit new) (sym (commits_are history infos fit captured))
        ∙ (sym (map_append plain_commit (versioned infos history) new)
        ∙ (ap (map plain_commit) (sym list) ∙ (commits_are (longer history more) infos fit_longer captured_longer ∙ map_append (typed_commit infos) history.commits more))))

    valid_longer : AreFitVersions (opening_infos history infos) (versioned infos history ++ new)
    valid_longer =
        subst (AreFitVersions (opening_infos history infos)) list
        (subst (λ (l : List TableInfo). AreFitVersions l (versioned infos (longer history more))) (sym (opening_is history infos fit captured)) (are_valid (longer history more) infos fit_longer captured_longer))

    pub longer_on : (high far : ℕ) (before later : List Commit) (sent : ℕ) (records : List Record) → AllByRecursion (λ commit. far < commit.lsn.0) more → AllByRecursion (λ commit. high < commit.lsn.0) more
        → IsDelivered identity infos history start low high far before later sent records
        → IsDelivered identity infos (longer history more) start low high far before (later ++ map (typed_commit infos) more) sent records
    longer_on high far before later sent records beyond above is = record {
      read = is.read;
      unread = is.unread ++ new;
      read_is = is.read_is;
      unread_is = map_append plain_commit is.unread new ∙ ap₂ (λ (xs ys : List Commit). xs ++ ys) is.unread_is new_plain;
      up = subst (λ (l : List Versioned). HasDeliveredUpTo identity (opening_infos history infos) l start low high far is.read (is.unread ++ new) sent records) (sym list)
          (longer_histories_are_caught_up identity (opening_infos history infos) (versioned infos history) is.read is.unread new start low high far sent records valid_longer
          (pairs far high new (versioned_all (infos_through (opening_infos history infos) history.commits) (λ n. far < n) more beyond)
          (versioned_all (infos_through (opening_infos history infos) history.commits) (λ n. high < n) more above)) is.up);
    }

  -- ---- its next commit

  module _ (high far : ℕ) (before : List Commit) (commit : Commit) (later : List Commit) (sent : ℕ) (records : List Record) (is : IsDelivered identity infos history start low high far before (commit ∷ later) sent records) where
    next : IsNextPlain is.unread commit later
    next = next_plain is.unread commit later is.unread_is

    abbrev v : Versioned
    v = next.version

    -- it has the captured tables, as each commit of the history
    own_infos : v.infos ≡ infos
    own_infos =
        (subst (AllByRecursion (λ (x : Versioned). (x.infos ≡ infos) × (x.altered ≡ None))) next.is
        (all_back (λ (x : Versioned). (x.infos ≡ infos) × (x.altered ≡ None)) is.read is.unread (subst (AllByRecursion (λ (x : Versioned). (x.infos ≡ infos) × (x.altered ≡ None))) is.up.spelled (each_keeps history infos fit captured)))).0.0

    events_are : events_of_commit v ≡ map (tell commit) (events_of infos commit)
    events_are = events_plain infos v commit own_infos next.commit_is

    lsn_is : v.lsn.0 ≡ commit.lsn.0
    lsn_is = ap (λ (c : Commit). c.lsn.0) next.commit_is

    up : HasDeliveredUpTo identity (opening_infos history infos) (versioned infos history) start low high far is.read (v ∷ next.later) sent records
    up = subst (λ (l : List Versioned). HasDeliveredUpTo identity (opening_infos history infos) (versioned infos history) start low high far is.read l sent records) next.is is.up

    unread_again : map plain_commit (v ∷ next.later) ≡ commit ∷ later
    unread_again = ap₂ (λ (c : Commit) (l : List Commit). c ∷ l) next.commit_is next.rest_is

    read_on : map plain_commit (is.read ++ v ∷ []) ≡ before ++ commit ∷ []
    read_on = map_append plain_commit is.read (v ∷ []) ∙ ap₂ (λ (l : List Commit) (c : Commit). l ++ c ∷ []) is.read_is next.commit_is

    -- with more records of it
    pub sent_on : (more : List Record) → AllZip (IsClearPrint identity) (take (length more) (drop sent (map (tell commit) (events_of infos commit)))) more
        → IsDelivered identity infos history start low high (max far commit.lsn.0) before (commit ∷ later) (sent + length more) (records ++ more)
    sent_on more zipped = record {
      read = is.read;
      unread = v ∷ next.later;
      read_is = is.read_is;
      unread_is = unread_again;
      up = subst (λ (p : ℕ). HasDeliveredUpTo identity (opening_infos history infos) (versioned infos history) start low high (max far p) is.read (v ∷ next.later) (sent + length more) (records ++ more)) lsn_is
          (sent_records_are_caught_up identity (opening_infos history infos) (versioned infos history) is.read v next.later start low high far sent records more
          (subst (λ (l : List ToldEvent). AllZip (IsClearPrint identity) (take (length more) (drop sent l)) more) (sym events_are) zipped) up);
    }

    -- with all of them
    pub commit_on : sent ≡ length (map (tell commit) (events_of infos commit)) → IsDelivered identity infos history start low commit.lsn.0 far (before ++ commit ∷ []) later 0 records
    commit_on all = record {
      read = is.read ++ v ∷ [];
      unread = next.later;
      read_is = read_on;
      unread_is = next.rest_is;
      up = subst (λ (p : ℕ). HasDeliveredUpTo identity (opening_infos history infos) (versioned infos history) start low p far (is.read ++ v ∷ []) next.later 0 records) lsn_is
          (commits_are_caught_up identity (opening_infos history infos) (versioned infos history) is.read v next.later start low high far sent records (all ∙ sym (ap length events_are)) up);
    }

  -- ---- a window, between the ends of `lows` and of `mids`

  module _ (high far : ℕ) (lows mids : List Commit) (mark : Commit) (later : List Commit) (position : ℕ) (above : Option Key) (closed : Closed) (records snapshot : List Record) (now : ℤ) (n : ℕ) (is_high : IsHighMark mark) (beyond : far < mark.lsn.0) (in_time : IsMomentInRange now)
      (listed : IsSnapshot identity infos closed mark now snapshot) (clear : snapshot_clash identity infos closed ≡ None) (silent : changes_of mark ≡ []) (order : start ≤ position) (upto : AllByRecursion (λ c. c.lsn.0 ≤ position) lows) (past : AllByRecursion (λ c. position < c.lsn.0) (mids ++ mark ∷ []))
      (after : start < mark.lsn.0) (right : IsRightWindow infos (all_changes (typed infos history)) (moment_after lows) (moment_after (lows ++ mids)) above closed)
      (told : AreToldUpTo identity (course (opening_infos history infos) (versioned infos history) start closed.table mark.lsn.0).infos (since (course (opening_infos history infos) (versioned infos history) start closed.table mark.lsn.0).start records) closed.table above)
      (is : IsDelivered identity infos history start low high far (lows ++ mids) (mark ∷ later) 0 records) where
    abbrev F : List TableInfo
    F = opening_infos history infos

    abbrev V : List Versioned
    V = versioned infos history

    abbrev w : Versioned
    w = v high far (lows ++ mids) mark later 0 records is

    abbrev nexts : IsNextPlain is.unread mark later
    nexts = next high far (lows ++ mids) mark later 0 records is

    parts : IsPartedPlain is.read lows mids
    parts = parted_plain is.read lows mids is.read_is

    opened : F ≡ infos
    opened = opening_is history infos fit captured

    spelled : V ≡ (parts.front ++ parts.back) ++ w ∷ nexts.later
    spelled = is.up.spelled ∙ (ap (λ (l : List Versioned). is.read ++ l) nexts.is ∙ ap (λ (l : List Versioned). l ++ w ∷ nexts.later) parts.is)

    own : w.infos ≡ infos
    own = own_infos high far (lows ++ mids) mark later 0 records is

    place : w.lsn.0 ≡ mark.lsn.0
    place = ap (λ (c : Commit). c.lsn.0) nexts.commit_is

    mids_is : map plain_commit (parts.back ++ w ∷ []) ≡ mids ++ mark ∷ []
    mids_is = map_append plain_commit parts.back (w ∷ []) ∙ ap₂ (λ (l : List Commit) (c : Commit). l ++ c ∷ []) parts.back_is nexts.commit_is

    valid : AreFitVersions F V
    valid = subst (λ (l : List TableInfo). AreFitVersions l V) (sym opened) (are_valid history infos fit captured)

    window : IsWindowInCourse identity F V start records w (point_after F start closed.table parts.front) above closed
    window =
        window_plain identity F V parts.front parts.back w nexts.later start position above closed records valid (are_plain history infos fit captured) spelled
        (ap changes_of nexts.commit_is ∙ silent) order
        (of_plain (λ l. l ≤ position) parts.front (subst (AllByRecursion (λ (c : Commit). c.lsn.0 ≤ position)) (sym parts.front_is) upto))
        (of_plain (λ l. position < l) (parts.back ++ w ∷ []) (subst (AllByRecursion (λ (c : Commit). position < c.lsn.0)) (sym mids_is) past))
        (subst (λ (p : ℕ). start < p) (sym place) after)
        (subst (λ (l : List TableInfo). IsRightWindow l (all_changes (map plain_commit V)) (moment_after (map plain_commit parts.front)) (moment_after (map plain_commit (parts.front ++ parts.back))) above closed) (sym opened)
        (subst (λ (l : List Commit). IsRightWindow infos (all_changes l) (moment_after (map plain_commit parts.front)) (moment_after (map plain_commit (parts.front ++ parts.back))) above closed) (sym (commits_are history infos fit captured))
        (subst (λ (l : List Commit). IsRightWindow infos (all_changes (typed infos history)) (moment_after l) (moment_after (map plain_commit (parts.front ++ parts.back))) above closed) (sym parts.front_is)
        (subst (λ (l : List Commit). IsRightWindow infos (all_changes (typed infos history)) (moment_after lows) (moment_after l) above closed) (sym (ap (map plain_commit) (sym parts.is) ∙ is.read_is)) right))))
        (subst (λ (p : ℕ). AreToldUpTo identity (course F V start closed.table p).infos (since (course F V start closed.table p).start records) closed.table above) (sym place) told)

    pub window_on : IsDelivered identity infos history start low mark.lsn.0 mark.lsn.0 ((lows ++ mids) ++ mark ∷ []) later 0 (records ++ take n snapshot)
    window_on = record {
      read = is.read ++ w ∷ [];
      unread = nexts.later;
      read_is = read_on high far (lows ++ mids) mark later 0 records is;
      unread_is = nexts.rest_is;
      up = subst (λ (p : ℕ). HasDeliveredUpTo identity F V start low p p (is.read ++ w ∷ []) nexts.later 0 (records ++ take n snapshot)) place
          (snapshots_are_caught_up identity F V is.read w nexts.later start low high far (point_after F start closed.table parts.front) above closed records snapshot now n
          (subst IsHighMark (sym nexts.commit_is) is_high) (subst (λ (p : ℕ). far < p) (sym place) beyond) in_time
          (subst (λ (l : List TableInfo). IsSnapshot identity l closed (plain_commit w) now snapshot) (sym own) (subst (λ (c : Commit). IsSnapshot identity infos closed c now snapshot) (sym nexts.commit_is) listed))
          (subst (λ (l : List TableInfo). snapshot_clash identity l closed ≡ None) (sym own) clear) window (up high far (lows ++ mids) mark later 0 records is));
    }

-- ---- an offset of the session

-- Stores with such a log are faithful to each offset of these tables between the delivered positions.
pub delivered_faithful : (history : History) (confirmed : Lsn) (records : List Record) (offset : Offset) (low high far : ℕ) (before later : List Commit) (sent : ℕ)
    → low ≤ offset.lsn.0 → offset.lsn.0 ≤ high → IsOffsetOf history confirmed records offset → IsDelivered offset.identity offset.infos history offset.start.0 low high far before later sent records
    → IsFaithfulTo history confirmed records offset
delivered_faithful history confirmed records offset low high far before later sent lower upper of is =
    caught_up_stores_are_faithful history confirmed records offset is.read is.unread low high far sent lower upper of is.up
