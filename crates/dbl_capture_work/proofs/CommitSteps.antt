-- A session's step at the end of a transaction: what follows of the records that it appended.
use Rattle.std.proofs.Common.{◌≡◌, ◌∙◌, ◌⊎◌, inl, inr, ◌+◌, ◌-◌, ◌≤◌, ◌<◌, ◌^◌, ℕ, ℤ, Bool, true, false, Option, Some, None, List, [], ◌∷◌, ◌++◌, length, take, drop, refl, sym, ap, subst, append_assoc, append-nil}
use Rattle.std.specs.Prelude.{◌==◌, Err, Ok, IsSome, is_some, not, slice_get}
use Rattle.std.specs.List.{AllByRecursion}
use Rattle.std.proofs.lemmas.List.{take-append-drop}
use Rattle.dbl_pgmsg.specs.declared.messages.Message.{Message}
use Rattle.dbl_record.specs.declared.record.Record.{Record}
use Rattle.dbl_record.specs.Cuts.{cut}
use Rattle.dbl_record.specs.Groups.{group_form}
use Rattle.dbl_topic.specs.Model.{SinkModel}
use Rattle.dbl_topic.specs.Sinks.{group_limit}
use Rattle.dbl_model_table.specs.declared.change.Change.{Change}
use Rattle.dbl_model_table.specs.declared.change.Commit.{Commit}
use Rattle.dbl_model_table.specs.declared.change.Ended.{Ended}
use Rattle.dbl_model_table.specs.declared.change.Head.{Head}
use Rattle.dbl_model_table.specs.Heads.{body_of, commit_by, commit_so_far}
use Rattle.dbl_model_commit.specs.Past.{begin_of}
use Rattle.dbl_model_commit.specs.Pieces.{changes_so_far}
use Rattle.dbl_envelope.specs.ModelEvent.Clashes.{Clash, clash_of}
use Rattle.dbl_envelope.specs.ModelEvent.SnapshotLists.{IsSnapshot}
use Rattle.dbl_window.specs.Plans.{Chunk}
use Rattle.dbl_follow.specs.Amid.{AreReleased, EndsWithCommit, IsAmid}
use Rattle.dbl_follow.specs.Followed.{Following, OpenPart}
use Rattle.dbl_follow.specs.Steps.{clash_by, clash_in, closed_of, mark_of, records_by, watermark_in}
use Rattle.dbl_follow.proofs.SnapshotSteps.{closing-None}
use Rattle.dbl_capture_work.specs.declared.halt.Halt.{Halt}
use Rattle.dbl_capture_work.specs.declared.halt.Halt.TheVariants as halt
use Rattle.dbl_capture_work.specs.declared.report.Report.{Report}
use Rattle.dbl_capture_work.specs.declared.work.SessionState.{SessionState}
use Rattle.dbl_capture_work.specs.Causes.{HasPutBefore, IsLongRecord, PutsAll}
use Rattle.dbl_capture_work.specs.Groups.{AreShort, HasLastsAtItsEnd, HoldsPut, IsLeftByCut, WasTorn, WerePut, records_in, report_with}
use Rattle.dbl_capture_work.specs.Takes.{DeliversCommit, HasSnapshotRecords, IsClashIn, IsLeftByStep, closes}
use Rattle.dbl_capture_work.specs.Works.{IsAmidWork, head_in, resting}
use Rattle.dbl_capture_work.proofs.Batches.{IsOwnBatch, own_gathered}
use Rattle.dbl_capture_model.proofs.Events.{take_whole}
use Rattle.dbl_capture_model.proofs.FaithfulItems.{at_right}
use Rattle.dbl_capture_work.proofs.Delivering.{before_after, drop_front, groups_after, holds_after, left_after, take_front, take_joined, torn_after}
use Rattle.dbl_capture_work.proofs.Following.{clash_halt, put_halt}
use Rattle.dbl_capture_work.proofs.OpenSteps.{all_append, lasts_right}
use Rattle.dbl_capture_work.proofs.Puts.{report_none}
use Rattle.dbl_capture_work.proofs.Taking.{closes_mark, lasts_by, none_by_changes, reports_all, reports_none, reports_some, short_by_place}

-- a commit has a watermark where its transaction's end has one
pub marked_by : (ended : Ended) (changes : List Change) → is_some (mark_of (commit_by ended changes)) ≡ is_some ended.mark
marked_by ended changes = by ended.mark
  where
    by : (o : Option (List ℕ)) → is_some (watermark_in (body_of o changes)) ≡ is_some o
    by None = refl
    by (Some value) = refl

-- a transaction with a watermark has released nothing
pub nothing_released : (start f : Following) (head : Head) (changes : List Change) (now : ℤ) (released : List Record) → changes ≡ [] → IsAmid start head changes now released f → released ≡ []
nothing_released start f head changes now released none amid = (subst (λ (cs : List Change). AreReleased start head cs now released f.part) none amid.released_are).1

pub no_part_open : (start f : Following) (head : Head) (changes : List Change) (now : ℤ) (released : List Record) → changes ≡ [] → IsAmid start head changes now released f → f.part ≡ None
no_part_open start f head changes now released none amid = (subst (λ (cs : List Change). AreReleased start head cs now released f.part) none amid.released_are).0

-- the condition of a transaction's end
pub unmarked_so : (mark : Option (List ℕ)) (start f : Following) (head : Head) (changes : List Change) (now : ℤ) (released : List Record) → (IsSome mark → changes ≡ []) → IsAmid start head changes now released f → IsSome f.part → mark ≡ None
unmarked_so None start f head changes now released bare amid part = refl
unmarked_so (Some value) start f head changes now released bare amid part =
    let none : f.part ≡ None = no_part_open start f head changes now released (bare refl) amid in
    let wrong : IsSome {T = OpenPart} None = subst IsSome none part in
    absurd (cc wrong)

-- the follower's state for the Begin of the transaction that ends
pub ended_amid : (ended : Ended) (ms : List Message) (start : Following) (put : List Record) (work : SessionState) → IsAmidWork ms start put work → begin_of ms ≡ Some ended.head
    → IsAmid start ended.head (changes_so_far work.offset.infos ms) work.now_ms (put ++ records_in work.batch) work.follower
ended_amid ended ms start put work amid begun =
    subst (λ (h : Head). IsAmid start h (changes_so_far work.offset.infos ms) work.now_ms (put ++ records_in work.batch) work.follower) (ap head_in begun) amid.amid

-- a transaction of which no change had a value equal to the placeholder has one only in the rows of its window
pub marked_clash : (start : Following) (head : Head) (ended : Ended) (changes : List Change) → clash_of start.identity start.infos (commit_so_far head changes) ≡ None → (c : Clash) → clash_by start (commit_by ended changes) ≡ Some c
    → IsSome (mark_of (commit_by ended changes))
marked_clash start head ended changes clean c is = by ended.mark is
  where
    by : (o : Option (List ℕ)) → clash_by start (commit_by (record ended { mark = o }) changes) ≡ Some c → IsSome (watermark_in (body_of o changes))
    by None is =
        let commit : Commit = commit_by (record ended { mark = None }) changes in
        let same : clash_by start commit ≡ clash_of start.identity start.infos commit = ap (λ (o : Option Chunk). clash_in start o commit) (closing-None start.window) in
        let none : None ≡ Some c = sym clean ∙ (sym same ∙ is) in
        absurd (cc none)
    by (Some value) is = refl

-- ---- where the follower refused the end, or memory ran out before any record was appended

module _ {K : Type 0} (sink_model : SinkModel K) (ended : Ended) (ms : List Message) (start : Following) (put : List Record) (work new : SessionState) (sink : K) (report : Report) (h : Halt) where
  abbrev refused_commit : Commit
  refused_commit = commit_by ended (changes_so_far work.offset.infos ms)

  -- it appended nothing, and counted nothing
  pub refuses_commit : IsAmidWork ms start put work → (holds_so : (groups left : List (List Record)) → sink_model.holds sink groups → sink_model.may_leave sink left → left ≡ groups) → (may : (groups : List (List Record)) → sink_model.holds sink groups → sink_model.may_leave sink groups)
      → (h ≡ halt.Sink → ⊥) → ((len : ℕ) → h ≡ halt.RecordTooLong len → ⊥) → report.records ≤ 2 ^ 64 - 1 → report.chunks ≤ 2 ^ 64 - 1 → report.snapshot_rows ≤ 2 ^ 64 - 1
      → (h ≡ halt.Memory) ⊎ IsClashIn (clash_by start refused_commit) h
      → DeliversCommit sink_model refused_commit put (resting start work) new sink sink report report (Err h)
  refuses_commit amid holds_so may other no_long one two three cause = record {
    put_all = λ groups held. tt;
    left = λ groups left held can. inl (holds_so (groups ++ cut put) left held can);
    some = λ groups held. (groups, may groups held);
    kept = λ groups held not_sink. record {
      count = 0;
      few = inl refl;
      held = subst (sink_model.holds sink) (ap (λ (l : List Record). groups ++ cut l) (sym (append-nil put))) held;
      report = sym (report_none (is_some (mark_of refused_commit)) report one two three);
    };
    torn = λ groups held failed. let same : h ≡ halt.Sink = cc in absurd (other same);
    before = λ groups held len too_long. let same : h ≡ halt.RecordTooLong len = cc in absurd (no_long len same);
    stepped = tt;
    closed = tt;
    noted = reports_none (is_some (mark_of refused_commit)) (drop (length put) (records_by start refused_commit work.now_ms)) report one two three;
    counts = refl;
    causes = clash_halt (clash_by start refused_commit) (records_by start refused_commit work.now_ms) h cause;
    marked = marked_clash start (head_in (begin_of ms)) ended (changes_so_far work.offset.infos ms) amid.amid.no_clash;
    clash = λ some. refl;
    no_clash = λ failed. let same : h ≡ halt.Sink = cc in absurd (other same);
    listed = λ failed. let same : h ≡ halt.Sink = cc in absurd (other same);
    long = tt;
  }

-- ---- where the follower ended the transaction

module _ {K : Type 0} (sink_model : SinkModel K) (ended : Ended) (ms : List Message) (start : Following) (put records : List Record) (work new : SessionState) (sink new_sink : K) (report new_report : Report) (snapshot : Bool)
    (amid : IsAmidWork ms start put work)
    (ends : EndsWithCommit start (commit_by ended (changes_so_far work.offset.infos ms)) work.now_ms ((put ++ records_in work.batch) ++ records) new.follower)
    (snapshot_is : snapshot ≡ is_some (mark_of (commit_by ended (changes_so_far work.offset.infos ms)))) where
  abbrev commit : Commit
  commit = commit_by ended (changes_so_far work.offset.infos ms)

  abbrev rest : List Record
  rest = records_in work.batch ++ records

  abbrev all : List Record
  all = records_by start commit work.now_ms

  abbrev marked : Bool
  marked = is_some (mark_of commit)

  own : IsOwnBatch (records_in work.batch)
  own = own_gathered work.batch amid.gathered

  whole : put ++ rest ≡ all
  whole = sym (append_assoc put (records_in work.batch) records) ∙ ends.records_are

  dropped : drop (length put) all ≡ rest
  dropped = ap (drop (length put)) (sym whole) ∙ drop_front put rest

  pub rest_lasts : HasLastsAtItsEnd rest
  rest_lasts = lasts_right put rest (subst HasLastsAtItsEnd (sym whole) (lasts_by start commit work.now_ms))

  -- all were appended
  held_all : (groups : List (List Record)) → sink_model.holds new_sink ((groups ++ cut put) ++ cut rest) → sink_model.holds new_sink (groups ++ cut all)
  held_all groups =
      subst (sink_model.holds new_sink)
      (ap (λ (l : List Record). (groups ++ cut put) ++ cut l) (sym (take_whole rest))
      ∙ (groups_after put (records_in work.batch) records amid.batched own groups (length rest) ∙ ap (λ (l : List Record). groups ++ cut l) (ap (λ (l : List Record). put ++ l) (take_whole rest) ∙ whole)))

  -- the records of a window that it closes
  listed : HasSnapshotRecords commit (resting start work)
  listed = λ chunk closing. subst (IsSnapshot start.identity start.infos (closed_of chunk) commit work.now_ms) ends.records_are (ends.snapshot chunk closing)

  part_of : (n : ℕ) → take (length (put ++ take n rest)) all ≡ put ++ take n rest
  part_of n =
      ap (take (length (put ++ take n rest))) (sym whole ∙ (ap (λ (l : List Record). put ++ l) (sym (take-append-drop n rest)) ∙ sym (append_assoc put (take n rest) (drop n rest))))
      ∙ take_front (put ++ take n rest) (drop n rest)

  left_step : (groups left : List (List Record)) → IsLeftByCut (groups ++ cut put) [] rest left → IsLeftByStep commit (resting start work) put groups left
  left_step groups left is =
      let some = left_after put (records_in work.batch) records amid.batched own groups left is in
      inr (record {
        following = new.follower;
        steps = ends.steps;
        no_clash = ends.no_clash;
        listed = listed;
        cut_is = (length (put ++ take some.0 rest), some.1 ∙ ap (λ (l : List Record). groups ++ cut l) (sym (part_of some.0)));
      })

  -- what is held, as it is said of the commit
  as_commit : (groups : List (List Record)) → HoldsPut sink_model.holds (groups ++ cut put) snapshot [] rest report new_report new_sink → HoldsPut sink_model.holds groups marked put (drop (length put) all) report new_report new_sink
  as_commit groups h =
      subst (λ (l : List Record). HoldsPut sink_model.holds groups marked put l report new_report new_sink) (sym dropped)
      (subst (λ (b : Bool). HoldsPut sink_model.holds groups b put rest report new_report new_sink) snapshot_is
      (holds_after put (records_in work.batch) records amid.batched own sink_model.holds groups snapshot report new_report new_sink h))

  torn_commit : (groups : List (List Record)) → WasTorn sink_model (groups ++ cut put) snapshot [] rest report new_report new_sink → WasTorn sink_model groups marked put (drop (length put) all) report new_report new_sink
  torn_commit groups t =
      subst (λ (l : List Record). WasTorn sink_model groups marked put l report new_report new_sink) (sym dropped)
      (subst (λ (b : Bool). WasTorn sink_model groups b put rest report new_report new_sink) snapshot_is
      (torn_after put (records_in work.batch) records amid.batched own sink_model groups snapshot report new_report new_sink t))

  before_commit : (groups : List (List Record)) (h : Halt) → HasPutBefore sink_model.holds (groups ++ cut put) snapshot [] rest report new_report new_sink h → HasPutBefore sink_model.holds groups marked put (drop (length put) all) report new_report new_sink h
  before_commit groups h p =
      subst (λ (l : List Record). HasPutBefore sink_model.holds groups marked put l report new_report new_sink h) (sym dropped)
      (subst (λ (b : Bool). HasPutBefore sink_model.holds groups b put rest report new_report new_sink h) snapshot_is
      (before_after put (records_in work.batch) records amid.batched own sink_model.holds groups snapshot report new_report new_sink h p))

  noted_commit : WerePut snapshot rest report new_report → WerePut marked (drop (length put) all) report new_report
  noted_commit w = subst (λ (l : List Record). WerePut marked l report new_report) (sym dropped) (subst (λ (b : Bool). WerePut b rest report new_report) snapshot_is w)

  counted_commit : new_report ≡ report_with snapshot rest report → new_report ≡ report_with marked (drop (length put) all) report
  counted_commit is = is ∙ (ap (λ (b : Bool). report_with b rest report) snapshot_is ∙ ap (λ (l : List Record). report_with marked l report) (sym dropped))

  -- a record that is too long, among all of the commit
  long_commit : (h : Halt) → IsLongRecord rest h → IsLongRecord all h
  long_commit h long = subst (λ (l : List Record). IsLongRecord l h) whole (record {
    place = length put + long.place;
    item = long.item;
    stands = at_right put rest long.place long.item long.stands;
    first = subst (AllByRecursion (λ other. length (group_form (other ∷ [])) ≤ group_limit)) (sym (take_joined long.place put rest))
        (all_append (λ (other : Record). length (group_form (other ∷ [])) ≤ group_limit) put (take long.place rest) amid.short long.first);
    long = long.long;
    is = long.is;
  })

  short_commit : ((place : ℕ) (item : Record) → slice_get rest place ≡ Some item → 2 ^ 28 < length (group_form (item ∷ [])) → false ≡ true) → AreShort all
  short_commit never = subst AreShort whole (all_append (λ (item : Record). length (group_form (item ∷ [])) ≤ group_limit) put rest amid.short (short_by_place rest never))

  cause_commit : (h : Halt) → (h ≡ halt.Memory) ⊎ ((h ≡ halt.Sink) ⊎ IsLongRecord rest h) → (h ≡ halt.Memory) ⊎ ((h ≡ halt.Sink) ⊎ IsLongRecord all h)
  cause_commit h (inl memory) = inl memory
  cause_commit h (inr (inl failed)) = inr (inl failed)
  cause_commit h (inr (inr long)) = inr (inr (long_commit h long))

  no_clash_here : (c : Clash) → clash_by start commit ≡ Some c → IsSome (mark_of commit)
  no_clash_here c is =
      let wrong : None ≡ Some c = sym ends.no_clash ∙ is in
      absurd (cc wrong)

  -- an error of the appending
  pub stops_commit : {T : Type 0} (h : Halt) → PutsAll {T = T} sink_model rest snapshot sink new_sink report new_report (Err h) → DeliversCommit sink_model commit put (resting start work) new sink new_sink report new_report (Err h)
  stops_commit h puts = record {
    put_all = λ groups held. tt;
    left = λ groups left held may. left_step groups left (puts.leaves.left (groups ++ cut put) left held may);
    some = puts.leaves.some;
    kept = λ groups held other. as_commit groups (puts.leaves.kept (groups ++ cut put) held rest_lasts (λ failed. (let same : h ≡ halt.Sink = cc in other (ap (λ (x : Halt). Err x) same))));
    torn = λ groups held failed. torn_commit groups (puts.leaves.torn (groups ++ cut put) held rest_lasts (let same : h ≡ halt.Sink = cc in ap (λ (x : Halt). Err x) same));
    before = λ groups held len is. before_commit groups (halt.RecordTooLong len) (puts.before (groups ++ cut put) held rest_lasts len (let same : h ≡ halt.RecordTooLong len = cc in ap (λ (x : Halt). Err x) same));
    stepped = tt;
    closed = tt;
    noted = reports_some marked (drop (length put) all) report new_report (noted_commit (puts.leaves.noted rest_lasts));
    counts = puts.leaves.chunks rest_lasts;
    causes = put_halt (clash_by start commit) all h ends.no_clash (cause_commit h puts.causes);
    marked = no_clash_here;
    clash = λ some. refl;
    no_clash = λ failed. ends.no_clash;
    listed = λ failed. listed;
    long = tt;
  }

  -- the commit ends, and the session's offset with it
  pub done_commit : {T : Type 0} (x : T) (closed : Bool) (last_report : Report) → PutsAll sink_model rest snapshot sink new_sink report new_report (Ok x)
      → new ≡ record work { offset = record work.offset { lsn = ended.head.lsn; end_lsn = ended.end_lsn }; follower = new.follower; since = work.since + 1; batch = None }
      → closed ≡ closes (resting start work) commit → last_report ≡ record new_report { commits = new_report.commits + 1 }
      → DeliversCommit sink_model commit put (resting start work) new sink new_sink report last_report (Ok closed)
  done_commit x closed last_report puts same closed_is last = record {
    put_all = λ groups held. held_all groups (puts.put (groups ++ cut put) held);
    left = λ groups left held may. left_step groups left (puts.leaves.left (groups ++ cut put) left held may);
    some = puts.leaves.some;
    kept = λ groups held. tt;
    torn = λ groups held failed. (cc);
    before = λ groups held len is. (cc);
    stepped = record { steps = ends.steps; no_clash = ends.no_clash; listed = listed; same = same };
    closed = closed_is;
    noted = reports_all marked (drop (length put) all) report new_report last_report (counted_commit (puts.whole rest_lasts)) last;
    counts = tt;
    causes = tt;
    marked = no_clash_here;
    clash = λ some. absurd (some ends.no_clash);
    no_clash = λ failed. (cc);
    listed = λ failed. listed;
    long = short_commit (λ place item at more. puts.long place item at more);
  }

  -- a watermark closes a window where it gives records
  pub marked_closes : (IsSome ended.mark → changes_so_far work.offset.infos ms ≡ []) → (closed empty : Bool) (count : ℕ) → snapshot ≡ true → closed ≡ not empty → empty ≡ (count == 0) → count ≡ length records
      → closed ≡ closes (resting start work) commit
  marked_closes bare closed empty count is closed_is empty_is many =
      let some : IsSome ended.mark = sym (marked_by ended (changes_so_far work.offset.infos ms)) ∙ (sym snapshot_is ∙ is) in
      let none : put ++ records_in work.batch ≡ [] = nothing_released start work.follower (head_in (begin_of ms)) (changes_so_far work.offset.infos ms) work.now_ms (put ++ records_in work.batch) (bare some) amid.amid in
      let are : records ≡ all = ap (λ (l : List Record). l ++ records) (sym none) ∙ ends.records_are in
      closes_mark (resting start work) commit records closed empty count listed are (sym snapshot_is ∙ is) closed_is empty_is many

  -- and changes close none
  pub unmarked_closes : (closed : Bool) → snapshot ≡ false → closed ≡ false → closed ≡ closes (resting start work) commit
  unmarked_closes closed is none = none ∙ sym (none_by_changes (resting start work) commit (sym snapshot_is ∙ is))
