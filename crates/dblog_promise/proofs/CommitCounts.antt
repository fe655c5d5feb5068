-- Messages that were read state the commits of the history after where reading began, up to the LSN of the last of them.
use Rattle.std.proofs.Common.{◌≡◌, ◌∙◌, ◌⊎◌, inl, inr, ℕ, suc, ◌<◌, ◌≤◌, Bool, true, false, cond, Option, Some, None, List, [], ◌∷◌, ◌++◌, length, map, filter, refl, sym, ap, subst, arith, append_assoc, le_refl}
use Rattle.std.specs.Prelude.{◌&&◌, is_some, nat_lt, nat_le, option_map}
use Rattle.std.specs.List.{AllByRecursion}
use Rattle.std.proofs.lemmas.Bool.{cases_lt}
use Rattle.std.proofs.lemmas.List.{append-nil}
use Rattle.dbl_base.specs.declared.lsn.Lsn.{Lsn}
use Rattle.dbl_pgmsg.specs.declared.messages.Message.{Message}
use Rattle.dbl_pgmsg.specs.declared.messages.Message.TheVariants as says
use Rattle.dbl_model_table.specs.declared.change.Commit.{Commit}
use Rattle.dbl_model_table.specs.declared.table.TableInfo.{TableInfo}
use Rattle.dbl_model_history.specs.History.{AreRising, History, IsRising, RawCommit}
use Rattle.dbl_model_history.specs.Typed.{typed_commit}
use Rattle.dbl_model_history.proofs.MomentLemmas.{lsns}
use Rattle.dbl_model_commit.specs.Blocks.{AreWithoutFault}
use Rattle.dbl_model_commit.specs.Past.{Head, begin_of, last_lsn, open_mark}
use Rattle.dbl_model_commit.specs.Stated.{commit_of, commits_of, ended_commit, first_of, list_of, mismatch, open_changes, place_fault}
use Rattle.dbl_source.specs.SourceModel.Stated.{ReadsRight, to_state}
use Rattle.dbl_capture_laws.proofs.FaithfulItems.{all_weaker}
use Rattle.dblog_promise.specs.Reports.{commits_between}

-- ---- commits that rise

chain : (a b c : ℕ) → a < b → b < c → a < c
chain a b c one two = omega (arith, one, two)

under : (a b : ℕ) → a < b → a ≤ b
under a b lt = omega (arith, lt)

all_above : (low : ℕ) (commits : List Commit) → AreRising low (lsns commits) → AllByRecursion (λ c. low < c.lsn.0) commits
all_above low [] rise = tt
all_above low (c ∷ commits) rise = (
  rise.0,
  all_weaker (λ (x : Commit). c.lsn.0 < x.lsn.0) (λ (x : Commit). low < x.lsn.0) commits (λ x lt. chain low c.lsn.0 x.lsn.0 rise.0 lt) (all_above c.lsn.0 commits rise.1),
)

rising_after : (low : ℕ) (before : List Commit) (c : Commit) (later : List Commit) → AreRising low (lsns (before ++ c ∷ later)) → AreRising c.lsn.0 (lsns later)
rising_after low [] c later rise = rise.1
rising_after low (b ∷ before) c later rise = rising_after b.lsn.0 before c later rise.1

-- one that others are before is after where they begin
rising_to : (low : ℕ) (before : List Commit) (c : Commit) (later : List Commit) → AreRising low (lsns (before ++ c ∷ later)) → low < c.lsn.0
rising_to low [] c later rise = rise.0
rising_to low (b ∷ before) c later rise = chain low b.lsn.0 c.lsn.0 rise.0 (rising_to b.lsn.0 before c later rise.1)

all_under : (low : ℕ) (before : List Commit) (c : Commit) (later : List Commit) → AreRising low (lsns (before ++ c ∷ later)) → AllByRecursion (λ x. x.lsn.0 ≤ c.lsn.0) (before ++ c ∷ [])
all_under low [] c later rise = (le_refl c.lsn.0, tt)
all_under low (b ∷ before) c later rise = (under b.lsn.0 c.lsn.0 (rising_to b.lsn.0 before c later rise.1), all_under b.lsn.0 before c later rise.1)

-- ---- the last commit

-- the commits end at this LSN; where there are none it is that after which reading began
abbrev EndAt : Lsn → List Commit → Lsn → Type 0
EndAt after commits lsn = ((commits ≡ []) × (lsn ≡ after)) ⊎ ((front : List Commit) × (last : Commit) × (commits ≡ front ++ last ∷ []) × (lsn ≡ last.lsn))

module _ (infos : List TableInfo) (after : Lsn) where
  -- a message that ends no commit
  still : (m : Message) (ms : List Message) → ended_commit infos m ms ≡ None → last_lsn after (m ∷ ms) ≡ last_lsn after ms
      → EndAt after (commits_of infos ms) (last_lsn after ms) → EndAt after (commits_of infos (m ∷ ms)) (last_lsn after (m ∷ ms))
  still m ms none same ends =
      let commits : commits_of infos (m ∷ ms) ≡ commits_of infos ms = ap (λ (o : Option Commit). commits_of infos ms ++ list_of o) none ∙ append-nil (commits_of infos ms) in
      subst (λ (lsn : Lsn). EndAt after (commits_of infos (m ∷ ms)) lsn) (sym same) (subst (λ (cs : List Commit). EndAt after cs (last_lsn after ms)) (sym commits) ends)

  open_at : (flags : ℕ) (lsn end_lsn : Lsn) (time : _) (o : Option Head) → first_of (place_fault (says.Commit flags lsn end_lsn time) (is_some o)) (mismatch o lsn) ≡ None → (begun : Head) × (o ≡ Some begun)
  open_at flags lsn end_lsn time None clean = absurd (let e : Some _ ≡ None = clean in cc)
  open_at flags lsn end_lsn time (Some begun) clean = (begun, refl)

  last_read : (ms : List Message) → AreWithoutFault infos after ms → EndAt after (commits_of infos ms) (last_lsn after ms)
  last_read [] ok = inl (refl, refl)
  last_read (says.Commit flags lsn end_lsn time ∷ ms) ok =
      let begins = open_at flags lsn end_lsn time (begin_of ms) ok.0 in
      let make = commit_of lsn end_lsn (open_mark ms) (open_changes infos ms) in
      inr (commits_of infos ms, make begins.0, ap (λ (o : Option Head). commits_of infos ms ++ list_of (option_map make o)) begins.1, refl)
  last_read (says.Begin lsn time xid ∷ ms) ok = still (says.Begin lsn time xid) ms refl refl (last_read ms ok.1)
  last_read (says.Origin lsn name ∷ ms) ok = still (says.Origin lsn name) ms refl refl (last_read ms ok.1)
  last_read (says.Relation oid namespace name identity columns ∷ ms) ok = still (says.Relation oid namespace name identity columns) ms refl refl (last_read ms ok.1)
  last_read (says.TypeName oid namespace name ∷ ms) ok = still (says.TypeName oid namespace name) ms refl refl (last_read ms ok.1)
  last_read (says.Insert oid new ∷ ms) ok = still (says.Insert oid new) ms refl refl (last_read ms ok.1)
  last_read (says.Update oid before new ∷ ms) ok = still (says.Update oid before new) ms refl refl (last_read ms ok.1)
  last_read (says.Delete oid before ∷ ms) ok = still (says.Delete oid before) ms refl refl (last_read ms ok.1)
  last_read (says.Truncate options oids ∷ ms) ok = still (says.Truncate options oids) ms refl refl (last_read ms ok.1)
  last_read (says.Logical flags lsn prefix content ∷ ms) ok = still (says.Logical flags lsn prefix content) ms refl refl (last_read ms ok.1)

  -- ---- the commits that are to be stated rise

  lt_is : (a b : ℕ) → a < b → nat_lt a b ≡ true
  lt_is a b lt = grind (arith, lt)

  not_lt : (a b : ℕ) → b ≤ a → nat_lt a b ≡ false
  not_lt a b le = grind (arith, le)

  le_is : (a b : ℕ) → a ≤ b → nat_le a b ≡ true
  le_is a b le = grind (arith, le)

  not_le : (a b : ℕ) → b < a → nat_le a b ≡ false
  not_le a b lt = grind (arith, lt)

  abbrev raw_lsns : List RawCommit → List ℕ
  raw_lsns commits = map (λ (c : RawCommit). c.lsn.0) commits

  abbrev subsequent : ℕ → List RawCommit → List Commit
  subsequent from commits = map (typed_commit infos) (filter (λ (c : RawCommit). nat_lt from c.lsn.0) commits)

  -- where all of them are after it
  all_rise : (from low : ℕ) (commits : List RawCommit) → from ≤ low → AreRising low (raw_lsns commits) → AreRising low (lsns (subsequent from commits))
  all_rise from low [] le rise = tt
  all_rise from low (c ∷ commits) le rise =
      let above : from < c.lsn.0 = omega (arith, le, rise.0) in
      subst (λ (b : Bool). AreRising low (lsns (map (typed_commit infos) (cond b (c ∷ filter (λ (c : RawCommit). nat_lt from c.lsn.0) commits) (filter (λ (c : RawCommit). nat_lt from c.lsn.0) commits)))))
      (sym (lt_is from c.lsn.0 above)) (rise.0, all_rise from c.lsn.0 commits (omega (arith, above)) rise.1)

  after_rise : (from low : ℕ) (commits : List RawCommit) → AreRising low (raw_lsns commits) → AreRising from (lsns (subsequent from commits))
  after_rise from low [] rise = tt
  after_rise from low (c ∷ commits) rise = elim (cases_lt from c.lsn.0) [
    | inl above ↦ subst (λ (b : Bool). AreRising from (lsns (map (typed_commit infos) (cond b (c ∷ filter (λ (c : RawCommit). nat_lt from c.lsn.0) commits) (filter (λ (c : RawCommit). nat_lt from c.lsn.0) commits)))))
        (sym (lt_is from c.lsn.0 above)) (above, all_rise from c.lsn.0 commits (omega (arith, above)) rise.1)
    | inr under ↦ subst (λ (b : Bool). AreRising from (lsns (map (typed_commit infos) (cond b (c ∷ filter (λ (c : RawCommit). nat_lt from c.lsn.0) commits) (filter (λ (c : RawCommit). nat_lt from c.lsn.0) commits)))))
        (sym (not_lt from c.lsn.0 under)) (after_rise from c.lsn.0 commits rise.1)
  ]

  -- ---- how many they are up to the last

  abbrev between : ℕ → ℕ → List RawCommit → List RawCommit
  between from to commits = filter (λ (c : RawCommit). nat_lt from c.lsn.0 && nat_le c.lsn.0 to) commits

  abbrev Counted : ℕ → ℕ → List RawCommit → Type 0
  Counted from to commits = (stated later : List Commit) → subsequent from commits ≡ stated ++ later
      → AllByRecursion (λ c. c.lsn.0 ≤ to) stated → AllByRecursion (λ c. to < c.lsn.0) later → length (between from to commits) ≡ length stated

  counts : (from to : ℕ) (commits : List RawCommit) (stated later : List Commit) → subsequent from commits ≡ stated ++ later
      → AllByRecursion (λ c. c.lsn.0 ≤ to) stated → AllByRecursion (λ c. to < c.lsn.0) later → length (between from to commits) ≡ length stated
  counts from to [] [] later is under over = refl
  counts from to [] (s ∷ stated) later is under over = absurd (let e : [] ≡ s ∷ (stated ++ later) = is in cc)
  counts from to (c ∷ commits) stated later is under over = by (nat_lt from c.lsn.0) is (counts from to commits)
    where
      rest : List Commit
      rest = subsequent from commits

      more : List RawCommit
      more = between from to commits

      one : (stated : List Commit) → typed_commit infos c ∷ rest ≡ stated ++ later → AllByRecursion (λ c. c.lsn.0 ≤ to) stated → Counted from to commits → length (cond (nat_le c.lsn.0 to) (c ∷ more) more) ≡ length stated
      one [] is under on =
          let e : typed_commit infos c ∷ rest ≡ later = is in
          let over : AllByRecursion (λ (x : Commit). to < x.lsn.0) (typed_commit infos c ∷ rest) = subst (AllByRecursion (λ (x : Commit). to < x.lsn.0)) (sym e) over in
          ap (λ (b : Bool). length (cond b (c ∷ more) more)) (not_le c.lsn.0 to over.0) ∙ on [] rest refl tt over.1
      one (s ∷ stated) is under on =
          let e : typed_commit infos c ∷ rest ≡ s ∷ (stated ++ later) = is in
          let same : typed_commit infos c ≡ s = cc in
          let others : rest ≡ stated ++ later = cc in
          let low : c.lsn.0 ≤ to = subst (λ (x : Commit). x.lsn.0 ≤ to) (sym same) under.0 in
          ap (λ (b : Bool). length (cond b (c ∷ more) more)) (le_is c.lsn.0 to low) ∙ ap suc (on stated later others under.1 over)

      by : (b : Bool) → map (typed_commit infos) (cond b (c ∷ filter (λ (c : RawCommit). nat_lt from c.lsn.0) commits) (filter (λ (c : RawCommit). nat_lt from c.lsn.0) commits)) ≡ stated ++ later → Counted from to commits
          → length (cond (b && nat_le c.lsn.0 to) (c ∷ more) more) ≡ length stated
      by true is on = one stated is under on
      by false is on = on stated later is under over

  -- ---- together

  states : (commits : List Commit) (ms : List Message) → ReadsRight infos after commits ms → AreWithoutFault infos after ms → (later : List Commit) × (commits ≡ commits_of infos ms ++ later)
  states commits [] right ok = (commits, refl)
  states commits (m ∷ ms) right ok = let some = right.1 ok in (some.later, some.stated)

  ended_count : (commits : List RawCommit) (stated later : List Commit) (lsn : Lsn) → EndAt after stated lsn → subsequent after.0 commits ≡ stated ++ later → AreRising after.0 (lsns (stated ++ later))
      → length (between after.0 lsn.0 commits) ≡ length stated
  ended_count commits stated later lsn (inl (none, is)) to rise =
      let over = all_above after.0 later (subst (λ (cs : List Commit). AreRising after.0 (lsns (cs ++ later))) none rise) in
      counts after.0 lsn.0 commits stated later to
      (subst (AllByRecursion (λ (c : Commit). c.lsn.0 ≤ lsn.0)) (sym none) tt)
      (subst (λ (l : Lsn). AllByRecursion (λ (c : Commit). l.0 < c.lsn.0) later) (sym is) over)
  ended_count commits stated later lsn (inr (front, last, is, at)) to rise =
      let rise : AreRising after.0 (lsns (front ++ last ∷ later)) = subst (λ (cs : List Commit). AreRising after.0 (lsns cs)) (ap (λ (cs : List Commit). cs ++ later) is ∙ append_assoc front (last ∷ []) later) rise in
      let under = all_under after.0 front last later rise in
      let over = all_above last.lsn.0 later (rising_after after.0 front last later rise) in
      counts after.0 lsn.0 commits stated later to
      (subst (λ (l : Lsn). AllByRecursion (λ (c : Commit). c.lsn.0 ≤ l.0) stated) (sym at) (subst (AllByRecursion (λ (c : Commit). c.lsn.0 ≤ last.lsn.0)) (sym is) under))
      (subst (λ (l : Lsn). AllByRecursion (λ (c : Commit). l.0 < c.lsn.0) later) (sym at) over)

  pub commits_counted : (history : History) (ms : List Message) → IsRising history → ReadsRight infos after (to_state infos after history) ms → AreWithoutFault infos after ms
      → length (commits_of infos ms) ≡ length (commits_between after.0 (last_lsn after ms).0 history)
  commits_counted history ms rising right ok =
      let some = states (to_state infos after history) ms right ok in
      let rise = subst (λ (cs : List Commit). AreRising after.0 (lsns cs)) some.1 (after_rise after.0 0 history.commits rising) in
      sym (ended_count history.commits (commits_of infos ms) some.0 (last_lsn after ms) (last_read ms ok) some.1 rise)
