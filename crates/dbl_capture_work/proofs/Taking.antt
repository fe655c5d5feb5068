-- A message that is taken, and the records of a commit that is followed.
use Rattle.std.proofs.Common.{◌≡◌, ◌∙◌, ◌⊎◌, inl, inr, ◌+◌, ◌-◌, ◌^◌, ◌≤◌, ◌<◌, ℕ, ℤ, zero, suc, Bool, true, false, Option, Some, None, IfSome, All, List, [], ◌∷◌, ◌++◌, length, map, refl, sym, ap, subst, arith, length-append, le_refl}
use Rattle.std.specs.Prelude.{◌==◌, flat_map, is_some, not, option_map, slice_get, unwrap_or}
use Rattle.std.specs.List.{AllByRecursion}
use Rattle.std.proofs.lemmas.Bool.Decides.{nat_tests}
use Rattle.std.proofs.lemmas.List.Elements.{All-from_recursion}
use Rattle.dbl_pgmsg.specs.declared.messages.Message.{Message}
use Rattle.dbl_pgmsg.specs.Grammar.{FitsFields}
use Rattle.dbl_record.specs.declared.record.Record.{Record}
use Rattle.dbl_record.specs.Groups.{group_form}
use Rattle.dbl_model_table.specs.declared.change.Body.{Body}
use Rattle.dbl_model_table.specs.declared.change.Body.TheVariants.{Changes, Mark}
use Rattle.dbl_model_table.specs.declared.change.Change.{Change}
use Rattle.dbl_model_table.specs.declared.change.Commit.{Commit}
use Rattle.dbl_model_table.specs.declared.identity.Identity.{Identity}
use Rattle.dbl_model_table.specs.declared.row.Key.{Key}
use Rattle.dbl_model_table.specs.declared.row.Row.{Row}
use Rattle.dbl_model_table.specs.declared.table.TableInfo.{TableInfo}
use Rattle.dbl_model_table.specs.Rows.{changes_of}
use Rattle.dbl_model_history.specs.FitsInfos.{FitsInfos}
use Rattle.dbl_model_commit.specs.Stated.{commits_of, ended_commit, list_of}
use Rattle.dbl_model_commit.specs.StatedFits.{FitCommits}
use Rattle.dbl_model_commit.proofs.ChangeFits.{commits_fit}
use Rattle.dbl_envelope.specs.ModelEvent.Events.{notices, numbered}
use Rattle.dbl_envelope.specs.ModelEvent.EventJson.{envelopes, print}
use Rattle.dbl_envelope.specs.ModelEvent.SnapshotLists.{IsSnapshot}
use Rattle.dbl_envelope.specs.ModelEvent.Snapshots.{chunk_records, progress_record, read_record, read_records, snapshot}
use Rattle.dbl_envelope.proofs.ModelEventEventLemmas.{commits_are_numbered}
use Rattle.dbl_capture_model.proofs.FaithfulItems.{at_cases, first_some}
use Rattle.dbl_window.specs.Plans.{Chunk}
use Rattle.dbl_follow.specs.Followed.{Following}
use Rattle.dbl_follow.specs.Steps.{closed_of, closing, watermark_in, mark_of, records_by, records_of}
use Rattle.dbl_capture_work.specs.declared.work.SessionState.{SessionState}
use Rattle.dbl_capture_model.proofs.Events.{take_whole}
use Rattle.dbl_capture_work.specs.declared.report.Report.{Report}
use Rattle.dbl_capture_work.specs.Groups.{HasLastsAtItsEnd, WerePut, report_with}
use Rattle.dbl_capture_work.specs.Takes.{HasSnapshotRecords, ReportsStep}
use Rattle.dbl_capture_work.specs.Works.{AreShort}
use Rattle.dbl_capture_work.proofs.Puts.{report_none}
use Rattle.dbl_follow.proofs.SnapshotSteps.{closing-None}

-- ---- a message

last_fits : (infos : List TableInfo) (commits : List Commit) (commit : Commit) → FitCommits infos (commits ++ commit ∷ []) → AllByRecursion (FitsInfos infos) (changes_of commit)
last_fits infos [] commit fit = fit.0
last_fits infos (c ∷ commits) commit fit = last_fits infos commits commit fit.1

-- the commit that it ends fits
pub ended_fits : (infos : List TableInfo) (m : Message) (ms : List Message) (o : Option Commit) → AllByRecursion FitsFields (m ∷ ms) → o ≡ ended_commit infos m ms
    → IfSome o (λ commit. All (FitsInfos infos) (changes_of commit))
ended_fits infos m ms None fields is = tt
ended_fits infos m ms (Some commit) fields is =
    let fit : FitCommits infos (commits_of infos ms ++ list_of (ended_commit infos m ms)) = commits_fit infos (m ∷ ms) fields in
    All-from_recursion (FitsInfos infos) (changes_of commit)
    (last_fits infos (commits_of infos ms) commit (subst (λ (o : Option Commit). FitCommits infos (commits_of infos ms ++ list_of o)) (sym is) fit))

-- ---- the records of a commit

equal_then : (a b : ℕ) → (a == b) ≡ true → a ≡ b
equal_then a b is = grind (arith, nat_tests)

pub lasts_of_commit : (identity : Identity) (infos : List TableInfo) (commit : Commit) (now : ℤ) → HasLastsAtItsEnd (envelopes identity infos commit now)
lasts_of_commit identity infos commit now = record {
  each = λ place item at last. equal_then (place + 1) (length (envelopes identity infos commit now)) (sym (commits_are_numbered identity infos commit now place item at).2 ∙ last);
}

module _ (identity : Identity) (info : TableInfo) (commit : Commit) (now : ℤ) where
  reads_not_last : (ordinal : ℕ) (rows : List (Key × Row)) (place : ℕ) (item : Record) → slice_get (read_records identity info commit now ordinal rows) place ≡ Some item → item.last ≡ false
  reads_not_last ordinal [] place item at = cc
  reads_not_last ordinal (entry ∷ rows) zero item at = sym (ap (λ (r : Record). r.last) (first_some (read_record identity info commit now ordinal entry) item at))
  reads_not_last ordinal (entry ∷ rows) (suc place) item at = reads_not_last (ordinal + 1) rows place item at

  abbrev reads : List (Key × Row) → List Record
  reads rows = read_records identity info commit now 0 rows

  abbrev progress : List (Key × Row) → Option Key → Bool → Record
  progress rows through done = progress_record identity info commit (length rows) through done

  at_end : (place count j whole : ℕ) → place ≡ count + j → j ≡ 0 → whole ≡ count + 1 → place + 1 ≡ whole
  at_end place count j whole one two three = omega (arith, one, two, three)

  first_place : (r : Record) (j : ℕ) (item : Record) → slice_get (r ∷ []) j ≡ Some item → j ≡ 0
  first_place r zero item at = refl
  first_place r (suc j) item at = cc

  last_place : (rows : List (Key × Row)) (through : Option Key) (done : Bool) (place : ℕ) (item : Record) → item.last ≡ true
      → (slice_get (reads rows) place ≡ Some item) ⊎ ((j : ℕ) × (slice_get (progress rows through done ∷ []) j ≡ Some item) × (place ≡ length (reads rows) + j))
      → place + 1 ≡ length (reads rows ++ progress rows through done ∷ [])
  last_place rows through done place item last (inl here) = let wrong : false ≡ true = sym (reads_not_last 0 rows place item here) ∙ last in cc
  last_place rows through done place item last (inr there) =
      at_end place (length (reads rows)) there.0 (length (reads rows ++ progress rows through done ∷ [])) there.2 (first_place (progress rows through done) there.0 item there.1) (length-append (reads rows) (progress rows through done ∷ []))

  lasts_of_chunk : (rows : List (Key × Row)) (through : Option Key) (done : Bool) → HasLastsAtItsEnd (chunk_records identity info rows through done commit now)
  lasts_of_chunk rows through done = record { each = λ place item at last. last_place rows through done place item last (at_cases (reads rows) (progress rows through done ∷ []) place item at) }

lasts_of_snapshot : (f : Following) (chunk : Chunk) (commit : Commit) (now : ℤ) → HasLastsAtItsEnd (snapshot f.identity f.infos (closed_of chunk) commit now)
lasts_of_snapshot f chunk commit now = by (slice_get f.infos chunk.plan.table)
  where
    by : (o : Option TableInfo) → HasLastsAtItsEnd (unwrap_or (option_map (λ (info : TableInfo). chunk_records f.identity info chunk.rows chunk.through chunk.done commit now) o) [])
    by None = record { each = λ place item at last. cc }
    by (Some info) = lasts_of_chunk f.identity info commit now chunk.rows chunk.through chunk.done

-- of the records that a commit gives, the last alone is the last of it
pub lasts_by : (f : Following) (commit : Commit) (now : ℤ) → HasLastsAtItsEnd (records_by f commit now)
lasts_by f commit now = by (closing f.window (mark_of commit))
  where
    by : (o : Option Chunk) → HasLastsAtItsEnd (records_of f o commit now)
    by None = lasts_of_commit f.identity f.infos commit now
    by (Some chunk) = lasts_of_snapshot f chunk commit now

-- ---- whether a commit closes a window

no_changes : (commit : Commit) (value : List ℕ) → commit.body ≡ Mark value → changes_of commit ≡ []
no_changes commit value body = ap (λ (b : Body). elim b [ Changes changes ↦ changes | Mark value ↦ [] ]) body

-- a watermark alone gives no records
no_records : (identity : Identity) (infos : List TableInfo) (commit : Commit) (now : ℤ) (value : List ℕ) → commit.body ≡ Mark value → envelopes identity infos commit now ≡ []
no_records identity infos commit now value body =
    ap (λ (l : List Change). map (print identity commit now) (numbered commit.lsn.0 0 (flat_map (notices infos) l))) (no_changes commit value body)

pub none_by_mark : (work : SessionState) (commit : Commit) → is_some (mark_of commit) ≡ true → is_some (closing work.follower.window (mark_of commit)) ≡ false → records_by work.follower commit work.now_ms ≡ []
none_by_mark work commit mark none = by commit.body refl mark (closing work.follower.window (mark_of commit)) refl none
  where
    by : (b : Body) → commit.body ≡ b → is_some (watermark_in b) ≡ true → (o : Option Chunk) → closing work.follower.window (mark_of commit) ≡ o → is_some o ≡ false → records_of work.follower o commit work.now_ms ≡ []
    by (Changes changes) body mark o at none = cc
    by (Mark value) body mark None at none = no_records work.follower.identity work.follower.infos commit work.now_ms value body
    by (Mark value) body mark (Some chunk) at none = cc

no_end : (xs : List Record) (x : Record) → 1 ≤ length (xs ++ x ∷ [])
no_end [] x = omega arith
no_end (y ∷ xs) x = some (length (xs ++ x ∷ []))
  where
    some : (n : ℕ) → 1 ≤ suc n
    some n = omega arith

-- the window that a commit closes gives its progress
pub some_by_window : (work : SessionState) (commit : Commit) → HasSnapshotRecords commit work → is_some (closing work.follower.window (mark_of commit)) ≡ true → 1 ≤ length (records_by work.follower commit work.now_ms)
some_by_window work commit listed some = by (closing work.follower.window (mark_of commit)) refl some
  where
    by : (o : Option Chunk) → closing work.follower.window (mark_of commit) ≡ o → is_some o ≡ true → 1 ≤ length (records_of work.follower o commit work.now_ms)
    by None at some = cc
    by (Some chunk) at some =
        let list = listed chunk at in
        let identity = work.follower.identity in
        subst (λ (o : Option TableInfo). 1 ≤ length (unwrap_or (option_map (λ (info : TableInfo). chunk_records identity info chunk.rows chunk.through chunk.done commit work.now_ms) o) [])) (sym list.captured)
        (no_end (read_records identity list.info commit work.now_ms 0 chunk.rows) (progress_record identity list.info commit (length chunk.rows) chunk.through chunk.done))

zero_test : (n : ℕ) → n ≡ 0 → (n == 0) ≡ true
zero_test n is = grind (arith, nat_tests)

some_test : (n : ℕ) → 1 ≤ n → (n == 0) ≡ false
some_test n le = grind (arith, nat_tests)

zero_of : (n m : ℕ) → n ≡ m → m ≡ 0 → n ≡ 0
zero_of n m same is = omega (arith, same, is)

some_of : (n m : ℕ) → n ≡ m → 1 ≤ m → 1 ≤ n
some_of n m same le = omega (arith, same, le)

-- a watermark closes a window where it gives records
pub closes_mark : (work : SessionState) (commit : Commit) (items : List Record) (closed empty : Bool) (count : ℕ) → HasSnapshotRecords commit work → items ≡ records_by work.follower commit work.now_ms → is_some (mark_of commit) ≡ true
    → closed ≡ not empty → empty ≡ (count == 0) → count ≡ length items → closed ≡ is_some (closing work.follower.window (mark_of commit))
closes_mark work commit items closed empty count listed are mark closed_is empty_is many = by (is_some (closing work.follower.window (mark_of commit))) refl
  where
    by : (b : Bool) → is_some (closing work.follower.window (mark_of commit)) ≡ b → closed ≡ b
    by true some =
        let one : 1 ≤ length items = subst (λ (l : List Record). 1 ≤ length l) (sym are) (some_by_window work commit listed some) in
        closed_is ∙ ap not (empty_is ∙ some_test count (some_of count (length items) many one))
    by false none =
        let zero : length items ≡ 0 = ap length (are ∙ none_by_mark work commit mark none) in
        closed_is ∙ ap not (empty_is ∙ zero_test count (zero_of count (length items) many zero))

-- changes close none
pub none_by_changes : (work : SessionState) (commit : Commit) → is_some (mark_of commit) ≡ false → is_some (closing work.follower.window (mark_of commit)) ≡ false
none_by_changes work commit none = by (mark_of commit) none
  where
    by : (o : Option (List ℕ)) → is_some o ≡ false → is_some (closing work.follower.window o) ≡ false
    by None none = ap (λ (c : Option Chunk). is_some c) (closing-None work.follower.window)
    by (Some value) none = cc

-- ---- what a report has after a step

none_more : (n : ℕ) → n ≡ n + 0
none_more n = omega arith

none_below : (n : ℕ) → 0 ≤ n
none_below n = omega arith

pub reports_none : (snapshot : Bool) (records : List Record) (report : Report) → report.records ≤ 2 ^ 64 - 1 → report.chunks ≤ 2 ^ 64 - 1 → report.snapshot_rows ≤ 2 ^ 64 - 1 → ReportsStep snapshot records report report false
reports_none snapshot records report one two three = record {
  put = report;
  records_are = record { count = 0; within = none_below (length records); report = sym (report_none snapshot report one two three) };
  all = λ is. (cc);
  is = λ i. record report { commits = none_more report.commits i };
}

pub reports_some : (snapshot : Bool) (records : List Record) (before after : Report) → WerePut snapshot records before after → ReportsStep snapshot records before after false
reports_some snapshot records before after put = record {
  put = after;
  records_are = put;
  all = λ is. (cc);
  is = λ i. record after { commits = none_more after.commits i };
}

pub reports_all : (snapshot : Bool) (records : List Record) (before put after : Report) → put ≡ report_with snapshot records before → after ≡ record put { commits = put.commits + 1 } → ReportsStep snapshot records before after true
reports_all snapshot records before put after whole is = record {
  put = put;
  records_are = record { count = length records; within = le_refl (length records); report = whole ∙ ap (λ (l : List Record). report_with snapshot l before) (sym (take_whole records)) };
  all = λ done. whole;
  is = is;
}

-- ---- the records that a step returned

-- the follower was given the time of the session
pub step_are : (work : SessionState) (commit : Commit) (items : List Record) (m : ℤ) → m ≡ work.now_ms → items ≡ records_by work.follower commit m → items ≡ records_by work.follower commit work.now_ms
step_are work commit items m time are = subst (λ (n : ℤ). items ≡ records_by work.follower commit n) time are

pub step_listed : (work : SessionState) (commit : Commit) (items : List Record) (m : ℤ) → m ≡ work.now_ms → items ≡ records_by work.follower commit m
    → ((chunk : Chunk) → closing work.follower.window (mark_of commit) ≡ Some chunk → IsSnapshot work.follower.identity work.follower.infos (closed_of chunk) commit m items) → HasSnapshotRecords commit work
step_listed work commit items m time are listed = λ chunk is. (
    subst (λ (n : ℤ). IsSnapshot work.follower.identity work.follower.infos (closed_of chunk) commit n (records_by work.follower commit n)) time
    (subst (IsSnapshot work.follower.identity work.follower.infos (closed_of chunk) commit m) are (listed chunk is)))

-- none of the records is too long where every one of them could be put
pub short_by_place : (records : List Record) → ((place : ℕ) (item : Record) → slice_get records place ≡ Some item → 2 ^ 28 < length (group_form (item ∷ [])) → false ≡ true) → AreShort records
short_by_place [] never = tt
short_by_place (item ∷ records) never = (
  no_more (2 ^ 28) (length (group_form (item ∷ []))) (λ more. (let wrong : false ≡ true = never 0 item refl more in cc)),
  short_by_place records (λ place other at more. never (suc place) other at more),
)
  where
    no_more : (n m : ℕ) → (n < m → ⊥) → m ≤ n
    no_more n m never = omega (arith, never)
