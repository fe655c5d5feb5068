-- Which entries can't come after others, though they say that they can.
use Rattle.std.proofs.Common.{◌≡◌, ◌∙◌, ◌⊎◌, ℕ, zero, suc, ◌+◌, ◌-◌, ◌<◌, ◌≤◌, true, false, Option, None, Some, List, [], ◌∷◌, ◌++◌, length, length-append, refl, sym, ap, subst, arith, inl, inr}
use Rattle.std.specs.Prelude.{Result, Ok, Err, IfSome, is_some, option_to_list}
use Rattle.std.proofs.lemmas.List.{append-nil}
use Rattle.dbl_base.specs.declared.lsn.Lsn.{Lsn}
use Rattle.dbl_pgmsg.specs.declared.messages.Message.{Message}
use Rattle.dbl_demo_wal.specs.declared.entry.Entry.{Entry}
use Rattle.dbl_demo_wal.specs.declared.entry.Entry.TheVariants.{Commits, Marks, Confirms}
use Rattle.dbl_demo_wal.specs.Claims.{steps_of_commit}
use Rattle.dbl_demo_wal.specs.Entries.{entry_form, EncodesEntry}
use Rattle.dbl_script.specs.declared.script.Step.{Step}
use Rattle.dbl_tables.specs.declared.tables.Tables.{Tables}
use Rattle.dbl_tables.specs.Stands.{Stands}
use Rattle.dbl_demo_wal.proofs.EntryLaws.{one_entry}
use Rattle.dbl_demo_wal.specs.Workloads.{Workload, acts_at, log_at, log_before, steps_of}
use Rattle.dbl_demo_wal.specs.Sound.{session_commits, steps_in, IsConfirm, IsNextEntry, IsNextCommit, IsSilent}
use Rattle.dbl_demo_wal.proofs.GrowthLaws.{commits_stay}
use Rattle.dbl_demo_workload.specs.declared.checking.Checked.{Checked}
use Rattle.dbl_demo_workload.specs.declared.checking.Doubt.{Doubt}
use Rattle.dbl_demo_workload.specs.declared.checking.Doubt.TheVariants as doubt
use Rattle.dbl_demo_workload.specs.Checking.{CanGoOn, CantBe, CantCommit, HasFound, IsBad, IsChecked, NextCommit, RanAlone, RunsTo, SaysCommit, TakesConfirm, TakesMark}
use Rattle.dbl_demo_workload.specs.Steps.{HasRunSteps, IsNextRun}

abbrev Log : Type 0
Log = List (List Message)

-- ---- what was asked of an option

pub some_when : {A : Type 0} (o : Option A) → is_some o ≡ true → (x : A) × (o ≡ Some x)
some_when None is = absurd (let t = is in cc)
some_when (Some x) is = (x, refl)

pub none_when : {A : Type 0} (o : Option A) → is_some o ≡ false → o ≡ None
none_when None is = refl
none_when (Some x) is = absurd (let t = is in cc)

-- ---- logs by their lengths

abbrev count : Log → ℕ
count log = length log

-- after more steps there is no less
pub no_less : (w : Workload) (few more : ℕ) → few ≤ more → count (log_at w few) ≤ count (log_at w more)
no_less w few more le =
    let sum : few + (more - few) ≡ more = omega (arith, le) in
    let stay = commits_stay w few (more - few) in
    omega (arith, ap count (ap (log_at w) (sym sum) ∙ stay.1), length-append (log_at w few) stay.0)

one_longer : (log old : Log) (messages : List Message) → log ≡ old ++ messages ∷ [] → count log ≡ count old + 1
one_longer log old messages is = omega (arith, ap count is, length-append old (messages ∷ []))

-- ---- steps that the entries don't allow

module _ (w : Workload) (entries : List Entry) (steps : ℕ) where
  -- fewer than were done
  pub cant_fall : steps < steps_in entries → CantBe w entries steps
  cant_fall lt = ((λ messages next. absurd (omega (arith, lt, next.later))), (λ value next. absurd (omega (arith, lt, next.later))))

  -- more than there are
  pub cant_pass_end : length (steps_of w) < steps → CantBe w entries steps
  cant_pass_end lt = ((λ messages next. absurd (omega (arith, lt, next.there))), (λ value next. absurd (omega (arith, lt, next.there))))

  -- a step before the last commits
  pub cant_pass_over : (earlier : ℕ) (messages : List Message) → earlier < steps → log_at w earlier ≡ session_commits entries ++ messages ∷ [] → CantBe w entries steps
  cant_pass_over earlier messages lt log = ((λ other next. by_commit steps lt next.none_between), (λ value next. absurd (omega (arith, longer, no_less w earlier steps (omega (arith, lt)), ap count next.none_between))))
    where
      longer : count (log_at w earlier) ≡ count (session_commits entries) + 1
      longer = one_longer (log_at w earlier) (session_commits entries) messages log

      by_commit : (n : ℕ) → earlier < n → log_before w n ≡ session_commits entries → ⊥
      by_commit zero lt is = absurd (omega (arith, lt))
      by_commit (suc n) lt is = absurd (omega (arith, longer, no_less w earlier n (omega (arith, lt)), ap count is))

  -- the last step commits, so no watermark stands there
  pub cant_mark : (messages : List Message) → log_at w steps ≡ session_commits entries ++ messages ∷ [] → IsSilent w entries steps → ⊥
  cant_mark messages log silent = absurd (omega (arith, one_longer (log_at w steps) (session_commits entries) messages log, ap count silent.none_between))

  -- no step commits, so no commit stands there
  pub cant_commit : log_at w steps ≡ session_commits entries → CantCommit w entries steps
  cant_commit log messages next = absurd (omega (arith, one_longer (log_at w steps) (session_commits entries) messages next.is, ap count log))

  -- there is one commit at most
  pub one_commit : (a b : List Message) → IsNextCommit w entries steps a → IsNextCommit w entries steps b → a ≡ b
  one_commit a b of_a of_b = last_same (session_commits entries) (sym of_a.is ∙ of_b.is)
    where
      last_same : (front : Log) → front ++ a ∷ [] ≡ front ++ b ∷ [] → a ≡ b
      last_same [] h = cc
      last_same (x ∷ front) h = let rest : front ++ a ∷ [] ≡ front ++ b ∷ [] = cc in last_same front rest

-- ---- before the commit of the rows

module _ (w : Workload) (rows : List Message) (are : log_at w 0 ≡ rows ∷ []) where
  -- it is the first
  pub rows_next : IsNextCommit w [] 0 rows
  rows_next = record { later = omega arith; there = omega arith; none_between = refl; is = are }

  some_rows : (steps : ℕ) → 1 ≤ count (log_at w steps)
  some_rows steps = omega (arith, ap count are, no_less w 0 steps (omega arith))

  pub no_other_commit : (steps : ℕ) → 0 < steps → CantCommit w [] steps
  no_other_commit zero lt messages next = absurd (omega (arith, lt))
  no_other_commit (suc steps) lt messages next = absurd (omega (arith, some_rows steps, ap count next.none_between))

  pub no_mark : (steps : ℕ) → IsSilent w [] steps → ⊥
  no_mark steps silent = absurd (omega (arith, some_rows steps, ap count silent.none_between))

  pub no_confirm : (upto : Lsn) → IsConfirm w [] upto → ⊥
  no_confirm upto confirm = absurd (omega (arith, ap count are, confirm.begun))

-- ---- the bytes are of one entry

pub bad_of : (w : Workload) (entries : List Entry) (bytes : List ℕ) (entry : Entry) → EncodesEntry bytes entry → (IsNextEntry w entries entry → ⊥) → IsBad w entries bytes
bad_of w entries bytes entry spells none other of_other next = none (subst (IsNextEntry w entries) (one_entry bytes other entry of_other spells) next)

-- ---- a run of steps, up to the one that an entry counts last

-- so many steps were run, and none of those that were run commits anything
pub record IsRunTo (old now : Checked) (number : ℕ) : Type 0 where
  pub goes : CanGoOn now
  pub same : RanAlone old now
  pub at : now.done ≡ number
  pub from : old.done ≤ number
  pub so : (w : Workload) (entries : List Entry) → IsChecked w entries old → old.prepared.rows ≡ None → Stands w.tables (acts_at w number) now.prepared.store × (log_at w number ≡ session_commits entries)

-- after one more
abbrev pub one_on : Checked → ℕ → Tables → Checked
one_on now number store = record now { prepared = record now.prepared { store = store }; done = number + 1 }

-- the next step was run on the store
abbrev pub RunsNext : Checked → ℕ → Option (List Message) → Tables → Type 0
RunsNext now number committed store = (w : Workload) → now.prepared.steps.items ≡ steps_of w → Stands w.tables (acts_at w number) now.prepared.store → IsNextRun w number committed store

pub run_begins : (old : Checked) → CanGoOn old → IsRunTo old old old.done
run_begins old goes = record {
  goes = goes;
  same = refl;
  at = refl;
  from = omega arith;
  so = λ w entries is none. (is.stands, (let silent : IsSilent w entries old.done = subst (HasFound w entries old.done) none is.found in silent.none_between));
}

module _ (old now : Checked) (number : ℕ) (run : IsRunTo old now number) (committed : Option (List Message)) (store : Tables) (has_run : HasRunSteps now.prepared.steps.items (number + 1) store) (next : RunsNext now number committed store) where
  steps_same : now.prepared.steps.items ≡ old.prepared.steps.items
  steps_same = ap (λ (x : Checked). x.prepared.steps.items) run.same

  next_of : (w : Workload) (entries : List Entry) → IsChecked w entries old → old.prepared.rows ≡ None → IsNextRun w number committed store
  next_of w entries is none = next w (steps_same ∙ is.steps) (run.so w entries is none).0

  pub alone_on : RanAlone old (one_on now number store)
  alone_on = ap (λ (x : Checked). one_on x number store) run.same

  pub goes_on : CanGoOn (one_on now number store)
  goes_on = record { has_run = has_run; rows = run.goes.rows; named = run.goes.named }

  -- it committed nothing
  pub run_goes : committed ≡ None → IsRunTo old (one_on now number store) (number + 1)
  run_goes nothing = record {
    goes = goes_on;
    same = alone_on;
    at = refl;
    from = omega (arith, run.from);
    so = λ w entries is none. (let n = next_of w entries is none in
        (n.stands, n.log ∙ ap (λ (o : Option (List Message)). log_at w number ++ option_to_list o) nothing ∙ append-nil (log_at w number) ∙ (run.so w entries is none).1));
  }

  -- it was the last
  pub run_last : (steps : ℕ) → steps ≡ number + 1 → steps ≤ length now.prepared.steps.items → RunsTo steps old (one_on now number store) (Ok committed)
  run_last steps last within w entries is none =
      let n = next_of w entries is none in
      let here = (run.so w entries is none).1 in
      let count : suc number ≡ steps = omega (arith, last) in
      record {
        done = sym last;
        later = omega (arith, run.from, is.done, last);
        there = omega (arith, within, ap (λ (l : List Step). length l) (steps_same ∙ is.steps));
        stands = subst (λ (k : ℕ). Stands w.tables (acts_at w k) store) (sym last) n.stands;
        log = ap (log_at w) last ∙ n.log ∙ ap (λ (l : List (List Message)). l ++ option_to_list committed) here;
        before = said committed (ap (log_before w) (sym count) ∙ here);
      }
    where
      said : {A : Type 0} {P : Type 0} (o : Option A) → P → IfSome o (λ x. P)
      said None p = tt
      said (Some x) p = p

  -- an earlier one commits
  pub run_bad : (steps : ℕ) (messages : List Message) → number + 1 < steps → committed ≡ Some messages → RunsTo steps old (one_on now number store) (Err doubt.Bad)
  run_bad steps messages lt some w entries is none =
      let n = next_of w entries is none in
      cant_pass_over w entries steps (number + 1) messages lt
      (n.log ∙ ap (λ (o : Option (List Message)). log_at w number ++ option_to_list o) some ∙ ap (λ (l : List (List Message)). l ++ messages ∷ []) (run.so w entries is none).1)

-- the steps, as the code has them
module _ (old now : Checked) (number : ℕ) (run : IsRunTo old now number) (steps : List Step) (are : steps ≡ now.prepared.steps.items) where
  pub after_here : HasRunSteps steps number now.prepared.store
  after_here = subst (λ (s : List Step). HasRunSteps s number now.prepared.store) (sym are) (subst (λ (n : ℕ). HasRunSteps now.prepared.steps.items n now.prepared.store) run.at run.goes.has_run)

  pub left_here : (last : ℕ) → number < last → last ≤ length old.prepared.steps.items → number < length steps
  left_here last lt le = omega (arith, lt, le, ap (λ (l : List Step). length l) (are ∙ ap (λ (x : Checked). x.prepared.steps.items) run.same))

  pub after_at : (n : ℕ) (store : Tables) → HasRunSteps steps n store → HasRunSteps now.prepared.steps.items n store
  after_at n store has_run = subst (λ (s : List Step). HasRunSteps s n store) are has_run

  pub runs_next : (committed : Option (List Message)) (store : Tables) → ((w : Workload) → steps ≡ steps_of w → Stands w.tables (acts_at w number) now.prepared.store → IsNextRun w number committed store) → RunsNext now number committed store
  runs_next committed store ran w all stands = ran w (are ∙ all) stands

  pub within_here : (last : ℕ) → last ≤ length old.prepared.steps.items → last ≤ length now.prepared.steps.items
  within_here last le = omega (arith, le, ap (λ (x : Checked). length x.prepared.steps.items) run.same)

-- memory ran out: the store stands where it stood
module _ (old now : Checked) (number : ℕ) (run : IsRunTo old now number) (store : Tables) where
  abbrev pub left_with : Checked
  left_with = record now { prepared = record now.prepared { store = store } }

  pub alone_left : RanAlone old left_with
  alone_left = ap (λ (x : Checked). let y : Checked = record x { prepared = record x.prepared { store = store } } in y) run.same

  pub goes_left : HasRunSteps now.prepared.steps.items number store → CanGoOn left_with
  goes_left has_run = record { has_run = subst (λ (n : ℕ). HasRunSteps now.prepared.steps.items n store) (sym run.at) has_run; rows = run.goes.rows; named = run.goes.named }

-- no step was left to be run
pub run_none : (old now : Checked) (number steps : ℕ) → IsRunTo old now number → steps ≡ number → steps ≤ length old.prepared.steps.items → RunsTo steps old now (Ok None)
run_none old now number steps run last within w entries is none = record {
  done = run.at ∙ sym last;
  later = omega (arith, run.from, is.done, last);
  there = omega (arith, within, ap (λ (l : List Step). length l) is.steps);
  stands = subst (λ (k : ℕ). Stands w.tables (acts_at w k) now.prepared.store) (sym last) (run.so w entries is none).0;
  log = ap (log_at w) last ∙ (run.so w entries is none).1 ∙ sym (append-nil (session_commits entries));
  before = tt;
}

-- the entry counts fewer steps than were run, or more than there are
pub run_out : (old : Checked) (steps : ℕ) → (steps < old.done) ⊎ (length old.prepared.steps.items < steps) → RunsTo steps old old (Err doubt.Bad)
run_out old steps (inl few) w entries is none = cant_fall w entries steps (omega (arith, few, is.done))
run_out old steps (inr many) w entries is none = cant_pass_end w entries steps (omega (arith, many, ap (λ (l : List Step). length l) is.steps))

-- ---- the commit that an entry has to be

-- the rows are no longer wanted: it is what the steps commit
pub next_by_run : (steps : ℕ) (old new : Checked) (result : Result (Option (List Message)) Doubt) → old.prepared.rows ≡ None → RanAlone old new → RunsTo steps old new result → NextCommit steps old new result
next_by_run steps old new (Err doubt.Bad) none same runs w entries is = (runs w entries is none).0
next_by_run steps old new (Err doubt.Memory) none same runs w entries is = tt
next_by_run steps old new (Ok None) none same runs w entries is =
    let ran = runs w entries is none in cant_commit w entries steps (ran.log ∙ append-nil (session_commits entries))
next_by_run steps old new (Ok (Some messages)) none same runs w entries is =
    let ran = runs w entries is none in
    record {
      next = record {
        later = ran.later;
        there = ran.there;
        none_between = ran.before;
        is = ran.log;
      };
      done = ran.done;
      stands = ran.stands;
      found = ap (λ (x : Checked). x.prepared.rows) same ∙ none;
      names = ap (λ (x : Checked). x.prepared.names.items) same ∙ is.names;
      tables = ap (λ (x : Checked). x.prepared.tables.items) same ∙ is.tables;
      all = ap (λ (x : Checked). x.prepared.steps.items) same ∙ is.steps;
      commits = ap (λ (x : Checked). x.commits.items) same ∙ is.commits;
      confirmed = ap (λ (x : Checked). x.confirmed) same ∙ is.confirmed;
    }

-- the rows are wanted
pub next_is_rows : (old : Checked) (rows : List Message) → old.prepared.rows ≡ Some rows → NextCommit 0 old (record old { prepared = record old.prepared { rows = None } }) (Ok (Some rows))
next_is_rows old rows some w entries is =
    let found : HasFound w entries old.done (Some rows) = subst (HasFound w entries old.done) some is.found in
    let wanting = found.0 in
    let next : IsNextCommit w entries 0 rows = subst (λ (es : List Entry). IsNextCommit w es 0 rows) (sym wanting.none) (rows_next w rows wanting.are) in
    record {
      next = next;
      done = found.1;
      stands = subst (λ (n : ℕ). Stands w.tables (acts_at w n) old.prepared.store) found.1 is.stands;
      found = refl;
      names = is.names;
      tables = is.tables;
      all = is.steps;
      commits = is.commits;
      confirmed = is.confirmed;
    }

-- they are given away
pub rows_taken : (steps : ℕ) (old : Checked) (rows : List Message) (taken left : Option (List Message)) → old.prepared.rows ≡ Some rows → steps ≡ 0 → taken ≡ old.prepared.rows → left ≡ None
    → NextCommit steps old (record old { prepared = record old.prepared { rows = left } }) (Ok taken)
rows_taken steps old rows taken left some none value after =
    subst (λ (n : ℕ). NextCommit n old (record old { prepared = record old.prepared { rows = left } }) (Ok taken)) (sym none)
    (subst (λ (o : Option (List Message)). NextCommit 0 old (record old { prepared = record old.prepared { rows = o } }) (Ok taken)) (sym after)
    (subst (λ (o : Option (List Message)). NextCommit 0 old (record old { prepared = record old.prepared { rows = None } }) (Ok o)) (sym (value ∙ some)) (next_is_rows old rows some)))

pub next_no_rows : (steps : ℕ) (old : Checked) (rows : List Message) → old.prepared.rows ≡ Some rows → 0 < steps → NextCommit steps old old (Err doubt.Bad)
next_no_rows steps old rows some lt w entries is =
    let found : HasFound w entries old.done (Some rows) = subst (HasFound w entries old.done) some is.found in
    subst (λ (es : List Entry). CantCommit w es steps) (sym found.0.none) (no_other_commit w rows found.0.are steps lt)

-- ---- a commit

-- the entry says that it is a commit, and none can be
pub bad_commit : (w : Workload) (entries : List Entry) (bytes : List ℕ) (steps : ℕ) → SaysCommit bytes steps → CantCommit w entries steps → IsBad w entries bytes
bad_commit w entries bytes steps says cant entry spells next = by entry (says entry spells) next
  where
    by : (e : Entry) → steps_of_commit e ≡ Some steps → IsNextEntry w entries e → ⊥
    by (Commits n messages) is at = let same : n ≡ steps = cc in cant messages (subst (λ (k : ℕ). IsNextCommit w entries k messages) same at)
    by (Marks n value) is at = cc
    by (Confirms upto) is at = cc

-- another one has to be
pub other_commit : (w : Workload) (entries : List Entry) (bytes : List ℕ) (steps : ℕ) (messages : List Message) → SaysCommit bytes steps → IsNextCommit w entries steps messages → (bytes ≡ entry_form (Commits steps messages) → ⊥) → IsBad w entries bytes
other_commit w entries bytes steps messages says must other entry spells next = by entry (says entry spells) spells.spelled next
  where
    by : (e : Entry) → steps_of_commit e ≡ Some steps → bytes ≡ entry_form e → IsNextEntry w entries e → ⊥
    by (Commits n ms) is form at =
        let same : n ≡ steps = cc in
        let moved : IsNextCommit w entries steps ms = subst (λ (k : ℕ). IsNextCommit w entries k ms) same at in
        let ms_same : ms ≡ messages = one_commit w entries steps ms messages moved must in
        other (form ∙ ap (λ (k : ℕ). entry_form (Commits k ms)) same ∙ ap (λ (l : List Message). entry_form (Commits steps l)) ms_same)
    by (Marks n value) is form at = cc
    by (Confirms upto) is form at = cc

-- ---- a watermark, and a confirmed position

pub mark_of_rows : (number steps : ℕ) (old : Checked) (rows : List Message) → old.prepared.rows ≡ Some rows → TakesMark number steps old old (Err doubt.Bad)
mark_of_rows number steps old rows some value bytes w entries number_is spells is =
    let found : HasFound w entries old.done (Some rows) = subst (HasFound w entries old.done) some is.found in
    bad_of w entries bytes (Marks steps value) spells (λ silent. no_mark w rows found.0.are steps (subst (λ (es : List Entry). IsSilent w es steps) found.0.none silent))

pub mark_of_run : (number steps : ℕ) (old new : Checked) (messages : List Message) → old.prepared.rows ≡ None → RunsTo steps old new (Ok (Some messages)) → TakesMark number steps old new (Err doubt.Bad)
mark_of_run number steps old new messages none runs value bytes w entries number_is spells is =
    let ran = runs w entries is none in
    bad_of w entries bytes (Marks steps value) spells (cant_mark w entries steps messages ran.log)

pub mark_not_run : (number steps : ℕ) (old new : Checked) (e : Doubt) → old.prepared.rows ≡ None → RunsTo steps old new (Err e) → TakesMark number steps old new (Err e)
mark_not_run number steps old new doubt.Bad none runs value bytes w entries number_is spells is = bad_of w entries bytes (Marks steps value) spells ((runs w entries is none).1 value)
mark_not_run number steps old new doubt.Memory none runs value bytes w entries number_is spells is = tt

pub confirm_of_rows : (upto : Lsn) (old : Checked) (rows : List Message) → old.prepared.rows ≡ Some rows → TakesConfirm upto old old (Err doubt.Bad)
confirm_of_rows upto old rows some bytes w entries spells is =
    let found : HasFound w entries old.done (Some rows) = subst (HasFound w entries old.done) some is.found in
    bad_of w entries bytes (Confirms upto) spells (λ confirm. no_confirm w rows found.0.are upto (subst (λ (es : List Entry). IsConfirm w es upto) found.0.none confirm))

pub confirm_falls : (upto : Lsn) (old : Checked) → upto.0 < old.confirmed.0 → TakesConfirm upto old old (Err doubt.Bad)
confirm_falls upto old falls bytes w entries spells is =
    bad_of w entries bytes (Confirms upto) spells (λ confirm. absurd (omega (arith, falls, confirm.no_fall, ap (λ (l : Lsn). l.0) is.confirmed)))
