-- What the sink gains by a commit that is followed, and what a report counts of it.
use Rattle.std.proofs.Common.{◌≡◌, ◌∙◌, inl, inr, ◌+◌, ◌-◌, ◌^◌, ◌≤◌, ◌<◌, ℕ, suc, min, Bool, true, false, Option, Some, None, List, [], ◌∷◌, ◌++◌, length, filter, take, refl, sym, ap, ap₂, subst, arith, append_assoc, append-nil, length-append}
use Rattle.std.specs.Prelude.{if◌then◌else◌, is_some, bytes_eq}
use Rattle.std.specs.List.{AllByRecursion}
use Rattle.std.proofs.lemmas.List.Concat.{flat_map-append}
use Rattle.std.proofs.lemmas.List.Elements.{filter-append}
use Rattle.std.proofs.lemmas.Slice.Eq.{bytes_eq-Decides}
use Rattle.dbl_base.specs.declared.lsn.Lsn.{Lsn}
use Rattle.dbl_pgmsg.specs.declared.messages.Message.{Message}
use Rattle.dbl_record.specs.declared.record.Record.{Record}
use Rattle.dbl_record.specs.Acts.{is_progress}
use Rattle.dbl_record.specs.Cuts.{cut, joined}
use Rattle.dbl_record.proofs.CutLaws.{cut_apart}
use Rattle.dbl_model_table.specs.declared.change.Body.{Body}
use Rattle.dbl_model_table.specs.declared.change.Body.TheVariants.{Changes, Mark}
use Rattle.dbl_model_table.specs.declared.change.Commit.{Commit}
use Rattle.dbl_model_table.specs.declared.identity.Identity.{Identity}
use Rattle.dbl_model_table.specs.declared.table.TableInfo.{TableInfo}
use Rattle.dbl_capture_work.specs.ModelHistory.MarkTexts.{mark_text}
use Rattle.dbl_capture_work.specs.ModelHistory.MarkTexts.Side.{High}
use Rattle.dbl_capture_work.specs.ModelCommit.Stated.{commits_of, list_of}
use Rattle.dbl_capture_work.specs.ModelEvent.Clashes.{clash_of, snapshot_clash}
use Rattle.dbl_capture_work.specs.ModelEvent.EventJson.{envelopes}
use Rattle.dbl_capture_work.specs.ModelEvent.SnapshotLists.{IsSnapshot}
use Rattle.dbl_capture_work.proofs.ConsumeLawsNotices.{all_append}
use Rattle.dbl_capture_work.specs.Faithful.Kinds.{is_row}
use Rattle.dbl_capture_work.proofs.FaithfulAgree.{IsRun, commit_run}
use Rattle.dbl_capture_work.proofs.FaithfulItems.{all_weaker, zip_append}
use Rattle.dbl_capture_work.specs.Window.Plans.{Chunk, high_text}
use Rattle.dbl_capture_work.specs.Follow.declared.window.Window.{Window}
use Rattle.dbl_capture_work.specs.Follow.declared.window.Window.TheVariants.{Absent, Armed, Open}
use Rattle.dbl_capture_work.specs.Follow.Steps.{clash_by, clash_in, closed_of, closing, watermark_in, mark_of, records_by, records_of}
use Rattle.dbl_capture_work.specs.CaptureModel.Reports.{chunks_in, snapshot_row_count}
use Rattle.dbl_capture_work.proofs.CaptureModelEvents.{joined_cut, parted_at, run_at, snapshot_run, take_whole}
use Rattle.dbl_capture_work.specs.declared.report.Report.{Report}
use Rattle.dbl_capture_work.specs.declared.work.SessionState.{SessionState}
use Rattle.dbl_capture_work.specs.Groups.{counted, report_with}
use Rattle.dbl_capture_work.specs.Takes.{HasSnapshotRecords}
use Rattle.dbl_capture_work.specs.Works.{IsOwnChunk, IsOwnWaiting}
use Rattle.dbl_capture_work.proofs.FollowSnapshotSteps.{closing-None}
use Rattle.dbl_capture_laws.proofs.KindLemmas.{IsOfKind, chunks_so, kinds_by, kinds_taken, rows_so}
use Rattle.dbl_capture_laws.specs.Gained.{AreCounted, AreRisingCommits, AreSent, CommitsAreSent, IsGained, IsSentFor, Making, PutsAreCounted, making_of}

-- ---- numbers

le_lt : (a b c : ℕ) → a ≤ b → b < c → a ≤ c
le_lt a b c le lt = omega (arith, le, lt)

low_lt : (a b c : ℕ) → a ≤ b → b < c → a < c
low_lt a b c le lt = omega (arith, le, lt)

equal_le : (a b : ℕ) → a ≡ b → a ≤ b
equal_le a b is = omega (arith, is)

-- ---- lists

pub joined_snoc : (parts : List (List Record)) (part : List Record) → joined (parts ++ part ∷ []) ≡ joined parts ++ part
joined_snoc parts part = flat_map-append (λ (g : List Record). g) parts (part ∷ []) ∙ ap (λ (l : List Record). joined parts ++ l) (append-nil part)

take_after : (xs ys : List Record) (n : ℕ) → take (length xs + n) (xs ++ ys) ≡ xs ++ take n ys
take_after [] ys n = ap (λ (k : ℕ). take k ys) (none_first n)
  where
    none_first : (k : ℕ) → 0 + k ≡ k
    none_first k = omega arith
take_after (x ∷ xs) ys n = ap (λ (k : ℕ). take k (x ∷ (xs ++ ys))) (one_first (length xs) n) ∙ ap (λ (l : List Record). x ∷ l) (take_after xs ys n)
  where
    one_first : (a k : ℕ) → suc a + k ≡ suc (a + k)
    one_first a k = omega arith

-- ---- a commit is sent

rising_snoc : (low high : ℕ) (commits : List Commit) (commit : Commit) → AreRisingCommits low commits → AllByRecursion (λ other. other.lsn.0 ≤ high) commits → low ≤ high → high < commit.lsn.0 → AreRisingCommits low (commits ++ commit ∷ [])
rising_snoc low high [] commit rising under le lt = (low_lt low high commit.lsn.0 le lt, tt)
rising_snoc low high (first ∷ commits) commit rising under le lt = (rising.0, rising_snoc first.lsn.0 high commits commit rising.1 under.1 under.0 lt)

module _ (old : SessionState) (commit : Commit) where
  abbrev by : Making
  by = making_of old.offset old.now_ms old.chunk

  module _ (identity : old.follower.identity ≡ old.offset.identity) (infos : old.follower.infos ≡ old.offset.infos)
      (own : IsOwnWaiting old.offset.incarnation old.number old.offset.infos old.follower.cursors old.chunk old.follower.window) (clear : clash_by old.follower commit ≡ None) (listed : HasSnapshotRecords commit old) where
    none_closes : closing old.follower.window (mark_of commit) ≡ None → IsSentFor by commit (records_by old.follower commit old.now_ms)
    none_closes none = inl (record {
      clear = subst (λ (i : Identity). clash_of i old.offset.infos commit ≡ None) identity
          (subst (λ (l : List TableInfo). clash_of old.follower.identity l commit ≡ None) infos
          (subst (λ (o : Option Chunk). clash_in old.follower o commit ≡ None) none clear));
      are = ap (λ (o : Option Chunk). records_of old.follower o commit old.now_ms) none
          ∙ ap₂ (λ (i : Identity) (l : List TableInfo). envelopes i l commit old.now_ms) identity infos;
    })

    one_closes : (chunk : Chunk) → closing old.follower.window (mark_of commit) ≡ Some chunk → IsOwnChunk old.offset.incarnation old.number old.offset.infos old.follower.cursors old.chunk chunk → (value : List ℕ) → commit.body ≡ Mark value → value ≡ high_text chunk.plan
        → IsSentFor by commit (records_by old.follower commit old.now_ms)
    one_closes chunk some is value body text = inr (record {
      number = chunk.plan.number;
      mark = body ∙ ap (λ (v : List ℕ). Mark v) (text ∙ ap (λ (n : ℕ). mark_text n chunk.plan.number High) is.incarnation_is);
      closed = closed_of chunk;
      few = is.few;
      clear = subst (λ (i : Identity). snapshot_clash i old.offset.infos (closed_of chunk) ≡ None) identity
          (subst (λ (l : List TableInfo). snapshot_clash old.follower.identity l (closed_of chunk) ≡ None) infos
          (subst (λ (o : Option Chunk). clash_in old.follower o commit ≡ None) some clear));
      listed = subst (λ (i : Identity). IsSnapshot i old.offset.infos (closed_of chunk) commit old.now_ms (records_by old.follower commit old.now_ms)) identity
          (subst (λ (l : List TableInfo). IsSnapshot old.follower.identity l (closed_of chunk) commit old.now_ms (records_by old.follower commit old.now_ms)) infos
          (listed chunk some));
    })

    by_mark : (value : List ℕ) → commit.body ≡ Mark value → (window : Window) → old.follower.window ≡ window → IsSentFor by commit (records_by old.follower commit old.now_ms)
    by_mark value body Absent is = none_closes (ap (λ (w : Window). closing w (mark_of commit)) is)
    by_mark value body (Armed chunk) is = none_closes (ap (λ (w : Window). closing w (mark_of commit)) is)
    by_mark value body (Open chunk) is = opens (bytes_eq value (high_text chunk.plan)) refl
      where
        here : closing old.follower.window (mark_of commit) ≡ (if bytes_eq value (high_text chunk.plan) then Some chunk else None)
        here = ap (λ (w : Window). closing w (mark_of commit)) is ∙ ap (λ (b : Body). closing (Open chunk) (watermark_in b)) body

        opens : (b : Bool) → bytes_eq value (high_text chunk.plan) ≡ b → IsSentFor by commit (records_by old.follower commit old.now_ms)
        opens true text =
            one_closes chunk (here ∙ ap (λ (b : Bool). if b then Some chunk else None) text)
            (subst (λ (w : Window). IsOwnWaiting old.offset.incarnation old.number old.offset.infos old.follower.cursors old.chunk w) is own)
            value body ((bytes_eq-Decides value (high_text chunk.plan)).0 text)
        opens false text = none_closes (here ∙ ap (λ (b : Bool). if b then Some chunk else None) text)

    pub is_sent : (body : Body) → commit.body ≡ body → IsSentFor by commit (records_by old.follower commit old.now_ms)
    is_sent (Changes changes) is = none_closes (ap (λ (b : Body). closing old.follower.window (watermark_in b)) is ∙ closing-None old.follower.window)
    is_sent (Mark value) is = by_mark value is old.follower.window refl

  -- it stands at the commit
  pub at_commit : HasSnapshotRecords commit old → IsRun commit.lsn.0 (records_by old.follower commit old.now_ms)
  at_commit listed = closes (closing old.follower.window (mark_of commit)) refl
    where
      closes : (o : Option Chunk) → closing old.follower.window (mark_of commit) ≡ o → IsRun commit.lsn.0 (records_by old.follower commit old.now_ms)
      closes None is =
          subst (IsRun commit.lsn.0) (sym (ap (λ (o : Option Chunk). records_of old.follower o commit old.now_ms) is))
          (commit_run old.follower.identity old.follower.infos commit old.now_ms)
      closes (Some chunk) is = snapshot_run old.follower.identity old.follower.infos (closed_of chunk) commit old.now_ms (records_by old.follower commit old.now_ms) (listed chunk is)

abbrev part_of : SessionState → Commit → List Record
part_of old commit = records_by old.follower commit old.now_ms

pub commits_are_sent : CommitsAreSent
commits_are_sent after ms m commit old records is ends lt clear listed gained = (
  sent,
  groups_cut,
  all_append (λ (item : Record). item.position ≤ commit.lsn.0) records (part_of old commit)
      (all_weaker (λ (item : Record). item.position ≤ old.offset.lsn.0) (λ (item : Record). item.position ≤ commit.lsn.0) records (λ item le. le_lt item.position old.offset.lsn.0 commit.lsn.0 le lt) gained.within)
      (subst (AllByRecursion (λ (item : Record). item.position ≤ commit.lsn.0)) (take_whole (part_of old commit))
      (all_weaker (λ (item : Record). item.position ≡ commit.lsn.0) (λ (item : Record). item.position ≤ commit.lsn.0) (take (length (part_of old commit)) (part_of old commit)) (λ item at. equal_le item.position commit.lsn.0 at) (run_at commit.lsn.0 (part_of old commit) (length (part_of old commit)) run))),
  subst (AllByRecursion (λ (other : Commit). other.lsn.0 ≤ commit.lsn.0)) (sym commits_are)
      (all_append (λ (other : Commit). other.lsn.0 ≤ commit.lsn.0) (commits_of old.offset.infos ms) (commit ∷ [])
      (all_weaker (λ (other : Commit). other.lsn.0 ≤ old.offset.lsn.0) (λ (other : Commit). other.lsn.0 ≤ commit.lsn.0) (commits_of old.offset.infos ms) (λ other le. le_lt other.lsn.0 old.offset.lsn.0 commit.lsn.0 le lt) gained.commits_within)
      (equal_le commit.lsn.0 commit.lsn.0 refl, tt)),
)
  where
    run : IsRun commit.lsn.0 (part_of old commit)
    run = at_commit old commit listed

    commits_are : commits_of old.offset.infos (m ∷ ms) ≡ commits_of old.offset.infos ms ++ commit ∷ []
    commits_are = ap (λ (o : Option Commit). commits_of old.offset.infos ms ++ list_of o) ends

    sent : AreSent (making_of old.offset old.now_ms old.chunk) after.0 (commits_of old.offset.infos (m ∷ ms)) (records ++ (part_of old commit))
    sent = subst (λ (l : List Commit). AreSent (making_of old.offset old.now_ms old.chunk) after.0 l (records ++ (part_of old commit))) (sym commits_are) (record {
      parts = gained.sent.parts ++ (part_of old commit) ∷ [];
      each = zip_append (IsSentFor (making_of old.offset old.now_ms old.chunk)) (commits_of old.offset.infos ms) (commit ∷ []) gained.sent.parts ((part_of old commit) ∷ []) gained.sent.each (is_sent old commit is.identity is.infos is.own clear listed commit.body refl, tt);
      whole = ap (λ (l : List Record). l ++ (part_of old commit)) gained.sent.whole ∙ sym (joined_snoc gained.sent.parts (part_of old commit));
      rising = rising_snoc after.0 old.offset.lsn.0 (commits_of old.offset.infos ms) commit gained.sent.rising gained.commits_within gained.order lt;
    })

    groups_cut : (n : ℕ) → (groups : List (List Record)) → (groups ++ cut records) ++ cut (take n (part_of old commit)) ≡ groups ++ cut (take (length records + n) (records ++ (part_of old commit)))
    groups_cut n groups =
        append_assoc groups (cut records) (cut (take n (part_of old commit)))
        ∙ ap (λ (l : List (List Record)). groups ++ l)
        (sym (cut_apart records (take n (part_of old commit)) (parted_at old.offset.lsn.0 commit.lsn.0 records (take n (part_of old commit)) lt gained.within (run_at commit.lsn.0 (part_of old commit) n run)))
        ∙ ap cut (sym (take_after records (part_of old commit) n)))

-- ---- a commit's own records are sent

module _ (after : Lsn) (ms : List Message) (old : SessionState) (records : List Record) (commit : Commit) (gained : IsGained after ms old records)
    (lt : old.offset.lsn.0 < commit.lsn.0) where
  abbrev own_records : List Record
  own_records = envelopes old.offset.identity old.offset.infos commit old.now_ms

  pub own_are_sent : clash_of old.offset.identity old.offset.infos commit ≡ None
      → AreSent (making_of old.offset old.now_ms old.chunk) after.0 (commits_of old.offset.infos ms ++ commit ∷ []) (records ++ own_records)
  own_are_sent clear = record {
    parts = gained.sent.parts ++ own_records ∷ [];
    each = zip_append (IsSentFor (making_of old.offset old.now_ms old.chunk)) (commits_of old.offset.infos ms) (commit ∷ []) gained.sent.parts (own_records ∷ [])
        gained.sent.each (inl (record { clear = clear; are = refl }), tt);
    whole = ap (λ (l : List Record). l ++ own_records) gained.sent.whole ∙ sym (joined_snoc gained.sent.parts own_records);
    rising = rising_snoc after.0 old.offset.lsn.0 (commits_of old.offset.infos ms) commit gained.sent.rising gained.commits_within gained.order lt;
  }

  pub own_cut : (n : ℕ) (groups : List (List Record))
      → (groups ++ cut records) ++ cut (take n own_records) ≡ groups ++ cut (take (length records + n) (records ++ own_records))
  own_cut n groups =
      append_assoc groups (cut records) (cut (take n own_records))
      ∙ ap (λ (l : List (List Record)). groups ++ l)
      (sym (cut_apart records (take n own_records) (parted_at old.offset.lsn.0 commit.lsn.0 records (take n own_records) lt gained.within
      (run_at commit.lsn.0 own_records n (commit_run old.offset.identity old.offset.infos commit old.now_ms))))
      ∙ ap cut (sym (take_after records own_records n)))

-- ---- it is counted

-- a count goes on, as far as 64 bits tell
goes_on : (most count n m k : ℕ) → count ≡ min (0 + n) most → k ≡ n + m → min (count + m) most ≡ min (0 + k) most
goes_on most count n m k one two = omega (arith, one, two)

length_more : (xs ys zs : List Record) → zs ≡ xs ++ ys → length zs ≡ length xs + length ys
length_more xs ys zs is = ap length is ∙ length-append xs ys

filter_more : (f : Record → Bool) (xs ys zs : List Record) → zs ≡ xs ++ ys → length (filter f zs) ≡ length (filter f xs) + length (filter f ys)
filter_more f xs ys zs is = ap (λ (l : List Record). length (filter f l)) is ∙ (ap length (filter-append f xs ys) ∙ length-append (filter f xs) (filter f ys))

-- records of a commit, or of a snapshot, are counted as they are put
pub counted_on : (before after : Report) (snapshot : Bool) (items : List Record) (more : List (List Record)) → AreCounted more before → AllByRecursion (IsOfKind snapshot) items
    → after.records ≡ (report_with snapshot items before).records → after.chunks ≡ (report_with snapshot items before).chunks → after.snapshot_rows ≡ (report_with snapshot items before).snapshot_rows
    → AreCounted (more ++ cut items) after
counted_on before after snapshot items more c kinds one two three =
    let whole : joined (more ++ cut items) ≡ joined more ++ items = joined_cut more items in
    record {
      records = one ∙ goes_on (2 ^ 64 - 1) before.records (length (joined more)) (length items) (length (joined (more ++ cut items))) c.records (length_more (joined more) items (joined (more ++ cut items)) whole);
      chunks =
          two ∙ (ap (counted before.chunks) (sym (chunks_so snapshot items kinds))
          ∙ goes_on (2 ^ 64 - 1) before.chunks (chunks_in (joined more)) (chunks_in items) (chunks_in (joined (more ++ cut items))) c.chunks (filter_more (λ (item : Record). is_progress item.topic) (joined more) items (joined (more ++ cut items)) whole));
      rows =
          three ∙ (ap (counted before.snapshot_rows) (sym (rows_so snapshot items kinds))
          ∙ goes_on (2 ^ 64 - 1) before.snapshot_rows (snapshot_row_count (joined more)) (snapshot_row_count items) (snapshot_row_count (joined (more ++ cut items))) c.rows (filter_more is_row (joined more) items (joined (more ++ cut items)) whole));
    }

-- groups of the same records are counted alike
same_joined : (a b : List (List Record)) (report : Report) → joined a ≡ joined b → AreCounted a report → AreCounted b report
same_joined a b report same c = record {
  records = c.records ∙ ap (λ (l : List Record). counted 0 (length l)) same;
  chunks = c.chunks ∙ ap (λ (l : List Record). counted 0 (chunks_in l)) same;
  rows = c.rows ∙ ap (λ (l : List Record). counted 0 (snapshot_row_count l)) same;
}

-- records are counted that are put after others of their commit
pub counted_after : (before after : Report) (snapshot : Bool) (records put items : List Record) → AreCounted (cut records ++ cut put) before
    → AllByRecursion (IsOfKind snapshot) items
    → after.records ≡ (report_with snapshot items before).records → after.chunks ≡ (report_with snapshot items before).chunks
    → after.snapshot_rows ≡ (report_with snapshot items before).snapshot_rows
    → AreCounted (cut records ++ cut (put ++ items)) after
counted_after before after snapshot records put items c kinds one two three =
    same_joined ((cut records ++ cut put) ++ cut items) (cut records ++ cut (put ++ items)) after
    (joined_cut (cut records ++ cut put) items
    ∙ (ap (λ (l : List Record). l ++ items) (joined_cut (cut records) put)
    ∙ (append_assoc (joined (cut records)) put items ∙ sym (joined_cut (cut records) (put ++ items)))))
    (counted_on before after snapshot items (cut records ++ cut put) c kinds one two three)

pub puts_are_counted : PutsAreCounted
puts_are_counted commit work count before report more range moment listed c one two three =
    counted_on before report (is_some (mark_of commit)) (take count (records_by work.follower commit work.now_ms)) more c
    (kinds_taken (is_some (mark_of commit)) count (records_by work.follower commit work.now_ms) (kinds_by work.follower commit work.now_ms range moment listed)) one two three
