-- A commit that is followed: its records, all of them or some first ones, after those that were put.
use Rattle.std.proofs.Common.{◌≡◌, ◌∙◌, ◌+◌, ◌≤◌, ◌<◌, ℕ, zero, suc, ℤ, max, Option, Some, None, List, [], ◌∷◌, ◌++◌, length, map, take, drop, refl, sym, ap, subst, arith, append_assoc}
use Rattle.std.specs.List.{AllByRecursion, AllZip}
use Rattle.dbl_pgmsg.specs.declared.messages.Message.{Message}
use Rattle.dbl_record.specs.declared.record.Record.{Record}
use Rattle.dbl_record.specs.Cuts.{cut, joined}
use Rattle.dbl_record.proofs.CutLaws.{cut_apart}
use Rattle.dbl_model_table.specs.declared.change.Commit.{Commit}
use Rattle.dbl_faithful.specs.ModelHistory.Fit.{AreInfosOf, IsFitHistory}
use Rattle.dbl_faithful.specs.ModelHistory.Ranges.{IsMomentInRange}
use Rattle.dbl_faithful.specs.ModelEvent.Events.{events_of}
use Rattle.dbl_faithful.specs.ModelEvent.EventJson.{envelopes}
use Rattle.dbl_faithful.specs.ModelEvent.Clashes.{clash_of}
use Rattle.dbl_faithful.proofs.ConsumeLawsNotices.{all_append}
use Rattle.dbl_follow.specs.ModelCommit.Stated.{list_of, ended_commit, commits_of}
use Rattle.dbl_faithful.specs.ToldEvents.{tell, IsClearPrint}
use Rattle.dbl_faithful.proofs.Agree.{IsRun, commit_run}
use Rattle.dbl_faithful.proofs.Items.{all_weaker}
use Rattle.dbl_faithful.specs.Onward.{PlacesRise, Adds}
use Rattle.dbl_faithful.proofs.Onward.{windows_rise}
use Rattle.dbl_follow.specs.Window.Plans.{Chunk}
use Rattle.dbl_follow.specs.Followed.{Following}
use Rattle.dbl_follow.specs.Steps.{mark_of, closed_of, closing, records_of, records_by}
use Rattle.dbl_capture_model.specs.Entries.{SessionStart}
use Rattle.dbl_capture_model.specs.Stages.{Stage, records_of_stage, read_at, PartsHistory}
use Rattle.dbl_capture_model.specs.Delivered.{IsDelivered}
use Rattle.dbl_capture_model.specs.Steps.{WasFollowed}
use Rattle.dbl_capture_model.specs.Going.{IsReading, KeepsStage}
use Rattle.dbl_capture_model.proofs.Delivered.{sent_on}
use Rattle.dbl_capture_model.proofs.Events.{cancel, clear_prints, snapshot_run, run_at, joined_cut, parted_at, all_before, rise_append, envelopes_rise}

-- ---- the commit comes next

pub read_more : (stage : Stage) (m : Message) (commit : Commit) → ended_commit stage.first.infos m stage.messages ≡ Some commit → commits_of stage.first.infos (m ∷ stage.messages) ≡ read_at stage ++ commit ∷ []
read_more stage m commit ends = ap (λ (o : Option Commit). read_at stage ++ list_of o) ends

-- what wasn't read begins with it
pub record IsNextOf (later : List Commit) (commit : Commit) : Type 0 where
  pub rest : List Commit
  pub is : later ≡ commit ∷ rest

pub next_is : (entry : SessionStart) (stage : Stage) (now : ℤ) (m : Message) (commit : Commit) (new : Following) (parts : PartsHistory stage) → IsReading entry stage → WasFollowed stage now m commit new → IsNextOf parts.later commit
next_is entry stage now m commit new parts reading followed =
    let some = followed.right.1 (followed.clean, reading.accepted) in
    let both : read_at stage ++ parts.later ≡ read_at stage ++ commit ∷ some.later =
    sym parts.stated ∙ (some.stated ∙ (ap (λ (l : List Commit). l ++ some.later) (read_more stage m commit followed.ends) ∙ append_assoc (read_at stage) (commit ∷ []) some.later)) in
    record { rest = some.later; is = cancel (read_at stage) parts.later (commit ∷ some.later) both }

-- ---- its records

-- what some first records are beside the log: they stand at the commit, and rise
pub record AreSent (commit : Commit) (records : List Record) : Type 0 where
  pub run : IsRun commit.lsn.0 records
  pub rise : (n : ℕ) → PlacesRise (take n records)

pub records_are : (stage : Stage) (now : ℤ) (m : Message) (commit : Commit) (new : Following) → WasFollowed stage now m commit new → AreSent commit (records_by stage.following commit now)
records_are stage now m commit new followed = by (closing stage.following.window (mark_of commit)) refl
  where
    by : (o : Option Chunk) → closing stage.following.window (mark_of commit) ≡ o → AreSent commit (records_by stage.following commit now)
    by None is =
        let same : records_by stage.following commit now ≡ envelopes stage.following.identity stage.following.infos commit now = ap (λ (o : Option Chunk). records_of stage.following o commit now) is in
        record {
          run = subst (IsRun commit.lsn.0) (sym same) (commit_run stage.following.identity stage.following.infos commit now);
          rise = λ n. subst (λ (l : List Record). PlacesRise (take n l)) (sym same) (envelopes_rise stage.following.identity stage.following.infos commit now n);
        }
    by (Some chunk) is =
        let listed = followed.listed chunk is in
        record {
          run = snapshot_run stage.following.identity stage.following.infos (closed_of chunk) commit now (records_by stage.following commit now) listed;
          rise = λ n. (windows_rise stage.following.identity stage.following.infos (closed_of chunk) commit now (records_by stage.following commit now) n listed).1;
        }

-- ---- what is appended

pub trans_lt : (a b c : ℕ) → a ≤ b → b < c → a < c
trans_lt a b c le lt = omega (arith, le, lt)

pub at_lt : (a b c : ℕ) → a < b → c ≡ b → a < c
at_lt a b c lt is = omega (arith, lt, is)

module _ (entry : SessionStart) (stage : Stage) (parts : PartsHistory stage) (kept : KeepsStage entry stage parts) (commit : Commit) (records : List Record) (lt : stage.lsn.0 < commit.lsn.0) (sent : AreSent commit records) (n : ℕ) where
  pub at_commit : AllByRecursion (λ item. item.position ≡ commit.lsn.0) (take n records)
  at_commit = run_at commit.lsn.0 records n sent.run

  -- what was appended, with some first records of the commit
  abbrev pub adds_more : Adds stage.first.lsn.0 (joined entry.groups) (records_of_stage stage ++ take n records)
  adds_more = record {
    more = kept.adds.more ++ take n records;
    is = ap (λ (l : List Record). l ++ take n records) kept.adds.is ∙ append_assoc (joined entry.groups) kept.adds.more (take n records);
    above = all_append (λ (item : Record). stage.first.lsn.0 < item.position) kept.adds.more (take n records) kept.adds.above
        (all_weaker (λ (item : Record). item.position ≡ commit.lsn.0) (λ (item : Record). stage.first.lsn.0 < item.position) (take n records)
        (λ item is. at_lt stage.first.lsn.0 commit.lsn.0 item.position (trans_lt stage.first.lsn.0 stage.lsn.0 commit.lsn.0 parts.order lt) is) at_commit);
    rise = rise_append kept.adds.more (take n records) kept.adds.rise (sent.rise n) (all_before stage.lsn.0 commit.lsn.0 kept.adds.more (take n records) lt kept.within at_commit);
  }

  -- in groups that are the cut of it
  pub grouped_more : stage.groups ++ cut (take n records) ≡ entry.groups ++ cut (kept.adds.more ++ take n records)
  grouped_more =
      ap (λ (l : List (List Record)). l ++ cut (take n records)) kept.grouped
      ∙ (append_assoc entry.groups (cut kept.adds.more) (cut (take n records))
      ∙ ap (λ (l : List (List Record)). entry.groups ++ l) (sym (cut_apart kept.adds.more (take n records) (parted_at stage.lsn.0 commit.lsn.0 kept.adds.more (take n records) lt kept.within at_commit))))

  pub joined_more : joined (stage.groups ++ cut (take n records)) ≡ records_of_stage stage ++ take n records
  joined_more = joined_cut stage.groups (take n records)

  equal_le : (a b : ℕ) → a ≡ b → a ≤ b
  equal_le a b is = omega (arith, is)

  less_le : (a b c : ℕ) → a ≤ b → b < c → a ≤ c
  less_le a b c le l = omega (arith, le, l)

  pub within_more : AllByRecursion (λ item. item.position ≤ commit.lsn.0) (kept.adds.more ++ take n records)
  within_more = all_append (λ (item : Record). item.position ≤ commit.lsn.0) kept.adds.more (take n records)
      (all_weaker (λ (item : Record). item.position ≤ stage.lsn.0) (λ (item : Record). item.position ≤ commit.lsn.0) kept.adds.more (λ item le. less_le item.position stage.lsn.0 commit.lsn.0 le lt) kept.within)
      (all_weaker (λ (item : Record). item.position ≡ commit.lsn.0) (λ (item : Record). item.position ≤ commit.lsn.0) (take n records) (λ item is. equal_le item.position commit.lsn.0 is) at_commit)

-- ---- a log that is delivered up to some commits

take_again : {X : Type 0} (k : ℕ) (xs : List X) → take (length (take k xs)) xs ≡ take k xs
take_again zero xs = refl
take_again (suc k) [] = refl
take_again (suc k) (x ∷ xs) = ap (λ (l : List _). x ∷ l) (take_again k xs)

-- some first records tell the first so many events
zipped : (stage : Stage) (commit : Commit) (now : ℤ) (n : ℕ) → IsMomentInRange now → clash_of stage.first.identity stage.first.infos commit ≡ None
    → AllZip (IsClearPrint stage.first.identity) (take (length (take n (envelopes stage.first.identity stage.first.infos commit now))) (drop 0 (map (tell commit) (events_of stage.first.infos commit)))) (take n (envelopes stage.first.identity stage.first.infos commit now))
zipped stage commit now n in_range clear =
    subst (λ (l : List Record). AllZip (IsClearPrint stage.first.identity) (take (length (take n (envelopes stage.first.identity stage.first.infos commit now))) (map (tell commit) (events_of stage.first.infos commit))) l)
    (take_again n (envelopes stage.first.identity stage.first.infos commit now))
    (clear_prints stage.first.identity stage.first.infos commit now (length (take n (envelopes stage.first.identity stage.first.infos commit now))) in_range clear)

-- with some first records of a commit that closes no window
pub sent_up : (stage : Stage) (fit : IsFitHistory stage.history) (captured : AreInfosOf stage.history stage.first.infos) (low high far : ℕ) (before : List Commit) (commit : Commit) (later : List Commit) (records : List Record) (now : ℤ) (n : ℕ) → IsMomentInRange now
    → clash_of stage.first.identity stage.first.infos commit ≡ None
    → IsDelivered stage.first.identity stage.first.infos stage.history stage.first.start.0 low high far before (commit ∷ later) 0 records
    → IsDelivered stage.first.identity stage.first.infos stage.history stage.first.start.0 low high (max far commit.lsn.0) before (commit ∷ later) (length (take n (envelopes stage.first.identity stage.first.infos commit now))) (records ++ take n (envelopes stage.first.identity stage.first.infos commit now))
sent_up stage fit captured low high far before commit later records now n in_range clear up =
    subst (λ (k : ℕ). IsDelivered stage.first.identity stage.first.infos stage.history stage.first.start.0 low high (max far commit.lsn.0) before (commit ∷ later) k (records ++ take n (envelopes stage.first.identity stage.first.infos commit now)))
    (none_first (length (take n (envelopes stage.first.identity stage.first.infos commit now))))
    (sent_on stage.first.identity stage.first.infos stage.history fit captured stage.first.start.0 low high far before commit later 0 records up (take n (envelopes stage.first.identity stage.first.infos commit now)) (zipped stage commit now n in_range clear))
  where
    none_first : (n : ℕ) → 0 + n ≡ n
    none_first n = omega arith
