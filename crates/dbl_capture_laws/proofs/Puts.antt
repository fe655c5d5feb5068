-- What the sink gains from step to step, and what is left of it.
use Rattle.std.proofs.Common.{◌≡◌, ◌∙◌, ◌+◌, ◌≤◌, ◌<◌, ◌^◌, ℕ, ℤ, Bool, true, false, Option, Some, None, List, [], ◌∷◌, ◌++◌, length, take, drop, refl, sym, ap, subst, arith, append-nil, length-append}
use Rattle.std.proofs.lemmas.List.{take-append-drop, take-take}
use Rattle.std.specs.Prelude.{is_some, IsSome}
use Rattle.std.specs.List.{AllByRecursion}
use Rattle.dbl_base.specs.declared.lsn.Lsn.{Lsn}
use Rattle.dbl_pgmsg.specs.declared.messages.Message.{Message}
use Rattle.dbl_record.specs.declared.record.Record.{Record}
use Rattle.dbl_record.specs.Cuts.{cut, joined}
use Rattle.dbl_record.proofs.CutLaws.{cuts_join}
use Rattle.dbl_model_table.specs.declared.config.Config.{Config}
use Rattle.dbl_model_table.specs.declared.change.Commit.{Commit}
use Rattle.dbl_model_table.specs.declared.identity.Identity.{Identity}
use Rattle.dbl_model_table.specs.declared.table.TableInfo.{TableInfo}
use Rattle.dbl_capture_work.specs.ModelHistory.Ranges.{IsCommitInRange, IsMomentInRange}
use Rattle.dbl_capture_work.specs.ModelCommit.Past.{Head, begin_of}
use Rattle.dbl_capture_work.specs.ModelCommit.Stated.{commits_of, ended_commit, list_of}
use Rattle.dbl_capture_work.specs.ModelEvent.EventJson.{envelopes}
use Rattle.dbl_capture_work.specs.Window.Plans.{Chunk}
use Rattle.dbl_capture_work.specs.Follow.declared.window.Window.TheVariants.{Absent}
use Rattle.dbl_capture_work.specs.Follow.Followed.{Following}
use Rattle.dbl_capture_work.specs.Follow.Steps.{clash_by, mark_of, records_by}
use Rattle.dbl_capture_work.specs.Offset.declared.offset.Offset.{Offset}
use Rattle.dbl_capture_work.specs.CaptureModel.Entries.{appends_after}
use Rattle.dbl_capture_work.proofs.CaptureModelEvents.{take_whole}
use Rattle.dbl_capture_work.specs.declared.report.Report.{Report}
use Rattle.dbl_capture_work.specs.declared.work.SessionState.{SessionState}
use Rattle.dbl_capture_work.specs.Groups.{counted, report_with}
use Rattle.dbl_capture_work.specs.Takes.{HasSnapshotRecords, ReportsStep, WasStepped, WasTaken}
use Rattle.dbl_capture_work.specs.Works.{head_in, IsWork, open_commit}
use Rattle.dbl_capture_laws.proofs.Rising.{accepted_rise, begun_after}
use Rattle.dbl_capture_laws.specs.Gained.{AreCounted, AreSent, Gains, IsGained, IsSentFor, Making, making_of}
use Rattle.dbl_capture_laws.specs.Reported.{BeginsAfter}
use Rattle.dbl_capture_laws.specs.Underway.{IsOfFirst}
use Rattle.dbl_capture_laws.specs.Puts.{CommitsGain, GainsBegin, GainsStay, MessagesGainNothing, OpensAreCounted, OpensLeaveGains, RestsLeaveGains, StepsAreCounted, StepsLeaveGains}
use Rattle.dbl_capture_laws.proofs.Gained.{commits_are_sent, counted_after, is_sent, own_are_sent, own_cut}
use Rattle.dbl_capture_laws.proofs.KindLemmas.{IsOfKind, kinds_by, kinds_taken}
use Rattle.dbl_capture_laws.proofs.Ranged.{stated_commits_are_in_range}
use Rattle.dbl_capture_laws.proofs.Halting.{after_stored}

-- ---- it begins

same_le : (n m : ℕ) → n ≡ m → n ≤ m
same_le n m is = omega (arith, is)

no_count : (n : ℕ) → n ≡ 0 → n ≡ counted 0 0
no_count n is = omega (arith, is)

pub gains_begin : GainsBegin
gains_begin first now chunk every work report begun records chunks rows = (
  record {
    sent = record { parts = []; each = tt; whole = refl; rising = tt };
    within = tt;
    commits_within = tt;
    order = same_le first.lsn.0 work.offset.lsn.0 (ap (λ (o : Offset). o.lsn.0) (sym begun.offset_is));
  },
  record {
    records = no_count report.records records;
    chunks = no_count report.chunks chunks;
    rows = no_count report.snapshot_rows rows;
  },
)

-- ---- it goes on

-- what a session makes its records by
abbrev pub making_at : SessionState → Making
making_at work = making_of work.offset work.now_ms work.chunk

pub gains_stay : GainsStay
gains_stay after ms old new records offset now chunk is = record {
  sent = subst (λ (o : Offset). AreSent (making_of o new.now_ms new.chunk) after.0 (commits_of o.infos ms) records) (sym offset)
      (subst (λ (k : ℤ). AreSent (making_of old.offset k new.chunk) after.0 (commits_of old.offset.infos ms) records) (sym now)
      (subst (λ (n : ℕ). AreSent (making_of old.offset old.now_ms n) after.0 (commits_of old.offset.infos ms) records) (sym chunk) is.sent));
  within = subst (λ (o : Offset). AllByRecursion (λ (item : Record). item.position ≤ o.lsn.0) records) (sym offset) is.within;
  commits_within = subst (λ (o : Offset). AllByRecursion (λ (commit : Commit). commit.lsn.0 ≤ o.lsn.0) (commits_of o.infos ms)) (sym offset) is.commits_within;
  order = subst (λ (o : Offset). after.0 ≤ o.lsn.0) (sym offset) is.order;
}

pub messages_gain_nothing : MessagesGainNothing
messages_gain_nothing after ms bytes old next records w is = subst (λ (x : SessionState). IsGained after (w.message ∷ ms) x records) (sym w.same) (record {
  sent = subst (λ (l : List Commit). AreSent (making_at old) after.0 l records) same_commits is.sent;
  within = is.within;
  commits_within = subst (AllByRecursion (λ (commit : Commit). commit.lsn.0 ≤ old.offset.lsn.0)) same_commits is.commits_within;
  order = is.order;
})
  where
    same_commits : commits_of old.offset.infos ms ≡ commits_of old.offset.infos (w.message ∷ ms)
    same_commits =
        sym (append-nil (commits_of old.offset.infos ms))
        ∙ ap (λ (o : Option Commit). commits_of old.offset.infos ms ++ list_of o) w.commit_is

-- ---- by the stored offset

abbrev making_with : Identity → List TableInfo → ℤ → ℕ → ℕ → Making
making_with identity infos now chunk incarnation = record { identity = identity; infos = infos; now = now; chunk = chunk; incarnation = incarnation }

module _ (config : Config) (now : ℤ) (held : Option Offset) (first stored : Offset) (work : SessionState) (o : IsOfFirst config now held first stored work) where
  pub making_stored : making_at work ≡ making_of stored now config.chunk
  making_stored =
      ap (λ (x : Offset). making_with x.identity x.infos work.now_ms work.chunk x.incarnation) o.placed
      ∙ (ap (λ (k : ℤ). making_with first.identity first.infos k work.chunk first.incarnation) o.time
      ∙ (ap (λ (n : ℕ). making_with first.identity first.infos now n first.incarnation) o.most
      ∙ (ap (λ (i : Identity). making_with i first.infos now config.chunk first.incarnation) (sym o.of.identity)
      ∙ (ap (λ (l : List TableInfo). making_with stored.identity l now config.chunk first.incarnation) (sym o.of.infos)
      ∙ ap (λ (n : ℕ). making_with stored.identity stored.infos now config.chunk n) (sym o.of.incarnation)))))

  low_at : (old : Option Offset) → BeginsAfter old (Some stored) stored.infos first.lsn → appends_after old (Some stored) ≡ first.lsn.0
  low_at None begins = ap (λ (l : Lsn). l.0) (sym begins.1)
  low_at (Some found) begins = ap (λ (l : Lsn). l.0) (sym begins.1)

  -- so many first records of those that were sent
  gains_cut : (commits : List Commit) (records : List Record) (count : ℕ) (groups left : List (List Record)) → AreSent (making_at work) first.lsn.0 commits records → left ≡ groups ++ cut (take count records)
      → Gains config now held (Some stored) groups left
  gains_cut commits records count groups left sent is = record {
    commits = commits;
    records = records;
    sent = subst (λ (n : ℕ). AreSent (making_of stored now config.chunk) n commits records) (sym (low_at held (after_stored config now held first stored work o)))
        (subst (λ (by : Making). AreSent by first.lsn.0 commits records) making_stored sent);
    count = count;
    is = is;
  }

pub rests_leave_gains : RestsLeaveGains
rests_leave_gains config now held first stored work ms records groups left o is left_is =
    gains_cut config now held first stored work o (commits_of work.offset.infos ms) records (length records) groups left is.sent
    (left_is ∙ ap (λ (l : List Record). groups ++ cut l) (sym (take_whole records)))

-- ---- a commit that is read

le_lt : (a b c : ℕ) → a ≤ b → b < c → a ≤ c
le_lt a b c le lt = omega (arith, le, lt)

pub kinds_after : (snapshot : Bool) (xs ys : List Record) → AllByRecursion (IsOfKind snapshot) (xs ++ ys) → AllByRecursion (IsOfKind snapshot) ys
kinds_after snapshot [] ys kinds = kinds
kinds_after snapshot (x ∷ xs) ys kinds = kinds_after snapshot xs ys kinds.1

module _ (after : Lsn) (ms : List Message) (bytes : List ℕ) (commit : Commit) (old next : SessionState) (is : IsWork after ms old) (w : WasTaken after ms bytes old next (Some commit)) where
  ends : ended_commit old.offset.infos w.message ms ≡ Some commit
  ends = sym w.commit_is

  rises : old.offset.lsn.0 < commit.lsn.0
  rises = subst (λ (l : Lsn). l.0 < commit.lsn.0) (sym is.lsn) (accepted_rise old.offset.infos after ms w.message commit (w.clean, is.accepted) ends)

  ranged : length ms < 2 ^ 30 → IsCommitInRange commit
  ranged many = stated_commits_are_in_range old.offset.infos w.message ms commit (w.spells.fits.fields, is.fields) many ends

  -- its records, as they are made in hand
  abbrev items : List Record
  items = records_by old.follower commit old.now_ms

  items_are : records_by next.follower commit next.now_ms ≡ items
  items_are = ap (λ (x : SessionState). records_by x.follower commit x.now_ms) w.same

  listed_here : HasSnapshotRecords commit next → HasSnapshotRecords commit old
  listed_here listed = subst (λ (x : SessionState). HasSnapshotRecords commit x) w.same listed

  clear_here : clash_by next.follower commit ≡ None → clash_by old.follower commit ≡ None
  clear_here clear = sym (ap (λ (x : SessionState). clash_by x.follower commit) w.same) ∙ clear

  -- they are those that it is sent by
  pub items_sent : clash_by next.follower commit ≡ None → HasSnapshotRecords commit next → IsSentFor (making_at old) commit (records_by next.follower commit next.now_ms)
  items_sent clear listed = subst (IsSentFor (making_at old) commit) (sym items_are) (is_sent old commit is.identity is.infos is.own (clear_here clear) (listed_here listed) commit.body refl)

  -- records of it are counted that are put after others of it
  counted_here : (before report : Report) (records put rest some : List Record) → length ms < 2 ^ 30 → IsMomentInRange old.now_ms → HasSnapshotRecords commit next
      → records_by next.follower commit next.now_ms ≡ put ++ rest
      → ((snapshot : Bool) → AllByRecursion (IsOfKind snapshot) rest → AllByRecursion (IsOfKind snapshot) some) → AreCounted (cut records ++ cut put) before
      → report.records ≡ (report_with (is_some (mark_of commit)) some before).records
      → report.chunks ≡ (report_with (is_some (mark_of commit)) some before).chunks
      → report.snapshot_rows ≡ (report_with (is_some (mark_of commit)) some before).snapshot_rows → AreCounted (cut records ++ cut (put ++ some)) report
  counted_here before report records put rest some many moment listed whole of c one two three =
      counted_after before report (is_some (mark_of commit)) records put some c
      (of (is_some (mark_of commit)) (kinds_after (is_some (mark_of commit)) put rest
      (subst (AllByRecursion (IsOfKind (is_some (mark_of commit)))) (sym items_are ∙ whole)
      (kinds_by old.follower commit old.now_ms (ranged many) moment (listed_here listed))))) one two three

  module _ (records : List Record) (gained : IsGained after ms old records) (clear : clash_by old.follower commit ≡ None) (listed : HasSnapshotRecords commit old) where
    sends : AreSent (making_at old) after.0 (commits_of old.offset.infos (w.message ∷ ms)) (records ++ items)
    sends = (commits_are_sent after ms w.message commit old records is ends rises clear listed gained).0

    -- some first ones are cut after all others
    first_cut : (n : ℕ) (groups : List (List Record)) → (groups ++ cut records) ++ cut (take n items) ≡ groups ++ cut (take (length records + n) (records ++ items))
    first_cut n groups = (commits_are_sent after ms w.message commit old records is ends rises clear listed gained).1 n groups

    all_cut : (groups : List (List Record)) → (groups ++ cut records) ++ cut items ≡ groups ++ cut (records ++ items)
    all_cut groups =
        ap (λ (l : List Record). (groups ++ cut records) ++ cut l) (sym (take_whole items))
        ∙ (first_cut (length items) groups
        ∙ ap (λ (l : List Record). groups ++ cut l)
        (ap (λ (n : ℕ). take n (records ++ items)) (sym (length-append records items)) ∙ take_whole (records ++ items)))

    gained_at : IsGained after (w.message ∷ ms) (record old { assembler = next.assembler; offset = record old.offset { lsn = commit.lsn; end_lsn = commit.end_lsn } }) (records ++ items)
    gained_at = record {
      sent = sends;
      within = (commits_are_sent after ms w.message commit old records is ends rises clear listed gained).2;
      commits_within = (commits_are_sent after ms w.message commit old records is ends rises clear listed gained).3;
      order = le_lt after.0 old.offset.lsn.0 commit.lsn.0 gained.order rises;
    }

    gained_by : (new : SessionState) → WasStepped commit (record old { assembler = next.assembler }) new → IsGained after (w.message ∷ ms) new (records ++ items)
    gained_by new st = subst (λ (x : SessionState). IsGained after (w.message ∷ ms) x (records ++ items)) (sym st.same) (record {
      sent = gained_at.sent;
      within = gained_at.within;
      commits_within = gained_at.commits_within;
      order = gained_at.order;
    })

    counted_by : (before report : Report) (put rest : List Record) → length ms < 2 ^ 30 → IsMomentInRange old.now_ms → HasSnapshotRecords commit next
        → records_by next.follower commit next.now_ms ≡ put ++ rest → ReportsStep (is_some (mark_of commit)) rest before report true
        → AreCounted (cut records ++ cut put) before → AreCounted (cut (records ++ items)) report
    counted_by before report put rest many moment listed_next whole reports c =
        subst (λ (l : List (List Record)). AreCounted l report) (all_cut [])
        (subst (λ (l : List Record). AreCounted (cut records ++ cut l) report) (sym whole ∙ items_are)
        (counted_here before report records put rest rest many moment listed_next whole (λ snapshot kinds. kinds) c
        (ap (λ (r : Report). r.records) reports.is ∙ ap (λ (r : Report). r.records) (reports.all refl))
        (ap (λ (r : Report). r.chunks) reports.is ∙ ap (λ (r : Report). r.chunks) (reports.all refl))
        (ap (λ (r : Report). r.snapshot_rows) reports.is ∙ ap (λ (r : Report). r.snapshot_rows) (reports.all refl))))

pub commits_gain : CommitsGain
commits_gain after ms bytes commit old next new before report records put rest is w st many moment whole apart reports gained c = (
  subst (λ (l : List Record). IsGained after (w.message ∷ ms) new (records ++ l)) (sym (items_are after ms bytes commit old next is w))
      (gained_by after ms bytes commit old next is w records gained clear listed new stepped),
  subst (λ (l : List Record). AreCounted (cut (records ++ l)) report) (sym (items_are after ms bytes commit old next is w))
      (counted_by after ms bytes commit old next is w records gained clear listed before report put rest many moment st.listed whole reports c),
  λ groups. subst (λ (l : List Record). (groups ++ cut records) ++ cut l ≡ groups ++ cut (records ++ l)) (sym (items_are after ms bytes commit old next is w))
      (all_cut after ms bytes commit old next is w records gained clear listed groups),
)
  where
    stepped : WasStepped commit (record old { assembler = next.assembler }) new
    stepped = subst (λ (x : SessionState). WasStepped commit x new) w.same st

    clear : clash_by old.follower commit ≡ None
    clear = stepped.no_clash

    listed : HasSnapshotRecords commit old
    listed = stepped.listed

-- ---- a commit that wasn't put whole

pub steps_leave_gains : StepsLeaveGains
steps_leave_gains config now held first stored old next ms bytes commit records groups left o is w gained some =
    gains_cut config now held first stored old o (commits_of old.offset.infos (w.message ∷ ms)) (records ++ records_by old.follower commit old.now_ms) (length records + some.cut_is.0) groups left
    (sends first.lsn ms bytes commit old next is w records gained (clear_here first.lsn ms bytes commit old next is w some.no_clash) (listed_here first.lsn ms bytes commit old next is w some.listed))
    (some.cut_is.1
    ∙ (ap (λ (l : List Record). (groups ++ cut records) ++ cut (take some.cut_is.0 l)) (items_are first.lsn ms bytes commit old next is w)
    ∙ first_cut first.lsn ms bytes commit old next is w records gained (clear_here first.lsn ms bytes commit old next is w some.no_clash) (listed_here first.lsn ms bytes commit old next is w some.listed) some.cut_is.0 groups))

-- ---- a transaction that is open

-- the open transaction's LSN is after those of all commits
pub opens_rise : (after : Lsn) (ms : List Message) (work : SessionState) → IsWork after ms work → IsSome (begin_of ms)
    → work.offset.lsn.0 < (open_commit work.offset.infos ms).lsn.0
opens_rise after ms work is inside = by (begin_of ms) refl inside
  where
    by : (o : Option Head) → begin_of ms ≡ o → IsSome o → work.offset.lsn.0 < (open_commit work.offset.infos ms).lsn.0
    by None begun some = cc
    by (Some head) begun some =
        subst (λ (n : ℕ). work.offset.lsn.0 < n) (sym (ap (λ (o : Option Head). (head_in o).lsn.0) begun))
        (subst (λ (l : Lsn). l.0 < head.lsn.0) (sym is.lsn) (begun_after work.offset.infos after ms head is.accepted begun))

pub opens_leave_gains : OpensLeaveGains
opens_leave_gains config now held first stored work ms count records groups left o is gained inside clear left_is =
    let commit = open_commit work.offset.infos ms in
    let rises = opens_rise first.lsn ms work is inside in
    gains_cut config now held first stored work o (commits_of work.offset.infos ms ++ commit ∷ [])
    (records ++ envelopes work.offset.identity work.offset.infos commit work.now_ms) (length records + count) groups left
    (own_are_sent first.lsn ms work records commit gained rises clear) (left_is ∙ own_cut first.lsn ms work records commit gained rises count groups)

-- the records of a commit's changes are a change's each
pub own_kinds : (work : SessionState) (commit : Commit) → IsCommitInRange commit → IsMomentInRange work.now_ms → mark_of commit ≡ None
    → AllByRecursion (IsOfKind false) (envelopes work.offset.identity work.offset.infos commit work.now_ms)
own_kinds work commit range moment none =
    let f : Following = record { identity = work.offset.identity; infos = work.offset.infos; cursors = []; window = Absent; part = None } in
    subst (λ (o : Option (List ℕ)). AllByRecursion (IsOfKind (is_some o)) (envelopes work.offset.identity work.offset.infos commit work.now_ms)) none
    (kinds_by f commit work.now_ms range moment (λ chunk is. absurd (no_chunk chunk is)))
  where
    no_chunk : (chunk : Chunk) → None ≡ Some chunk → ⊥
    no_chunk chunk is = cc

pub opens_are_counted : OpensAreCounted
opens_are_counted work commit count from before report records range moment none le c is_report =
    let items = envelopes work.offset.identity work.offset.infos commit work.now_ms in
    let whole : take from items ++ drop from (take count items) ≡ take count items =
    ap (λ (l : List Record). l ++ drop from (take count items)) (sym (take-take from count items le)) ∙ take-append-drop from (take count items) in
    subst (λ (l : List Record). AreCounted (cut records ++ cut l) report) whole
    (counted_after before report false records (take from items) (drop from (take count items)) c
    (kinds_after false (take from items) (drop from (take count items))
    (subst (AllByRecursion (IsOfKind false)) (sym whole) (kinds_taken false count items (own_kinds work commit range moment none))))
    (ap (λ (r : Report). r.records) is_report) (ap (λ (r : Report). r.chunks) is_report) (ap (λ (r : Report). r.snapshot_rows) is_report))

abbrev pub tail_of : List (List Record) → List (List Record)
tail_of [] = []
tail_of (x ∷ xs) = xs

-- nothing is after a list to which nothing was added
pub none_since : (xs ys : List (List Record)) → xs ++ ys ≡ xs → ys ≡ []
none_since [] ys is = is
none_since (x ∷ xs) ys is = none_since xs ys (ap tail_of is)

pub none_cut : (items : List Record) → cut items ≡ [] → items ≡ []
none_cut items is = sym (cuts_join items) ∙ ap joined is

pub steps_are_counted : StepsAreCounted
steps_are_counted after ms bytes commit old next count before report records put rest groups is w many moment whole apart was c is_report =
    counted_here after ms bytes commit old next is w before report records put rest (take count rest) many moment was.listed whole
    (λ snapshot kinds. kinds_taken snapshot count rest kinds) c
    (ap (λ (r : Report). r.records) is_report) (ap (λ (r : Report). r.chunks) is_report) (ap (λ (r : Report). r.snapshot_rows) is_report)
