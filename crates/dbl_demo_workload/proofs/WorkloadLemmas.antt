-- What a workload commits is such as an entry can hold.
use Rattle.std.proofs.Common.{◌≡◌, ◌∙◌, ℕ, zero, suc, ◌+◌, ◌<◌, Option, None, Some, List, [], ◌∷◌, ◌++◌, length, map, get_or, sym, ap, subst, arith}
use Rattle.std.specs.Prelude.{Result, Ok, Err, IfOk, OnOk, option_to_list, slice_get, IfSome}
use Rattle.std.specs.List.{AllByRecursion}
use Rattle.dbl_base.specs.Lines.{lines_of}
use Rattle.dbl_pgmsg.specs.declared.messages.Message.{Message}
use Rattle.dbl_source_log.specs.declared.logged.LogTable.{LogTable}
use Rattle.dbl_source_log.specs.declared.logged.Logged.TheVariants.{Changes}
use Rattle.dbl_source_log.specs.Fair.{AreFairEntries, HasFewFaults, IsChangeOf}
use Rattle.dbl_demo_wal.specs.Entries.{HoldsChange}
use Rattle.dbl_script.specs.declared.script.Script.{Script}
use Rattle.dbl_script.specs.declared.script.Step.{Step}
use Rattle.dbl_tables_rows.specs.Acts.{Accepted, log_in}
use Rattle.dbl_tables_rows.specs.Sending.{log_tables}
use Rattle.dbl_demo_wal.specs.TablesLaws.Laws.{SerialRunsAreFair}
use Rattle.dbl_demo_wal.proofs.TablesLawsSendableLemmas.{runs_fair}
use Rattle.dbl_tables.specs.declared.tables.Tables.{Tables}
use Rattle.dbl_tables.specs.Stands.{Stands}
use Rattle.dbl_demo_wal.specs.Workloads.{IsWorkload, Workload, acts_at, log_at, workload_rows, session_steps_at, steps_of}
use Rattle.dbl_demo_wal.specs.SoundLaws.{WorkloadsAreInRange}
use Rattle.dbl_demo_wal.proofs.ContentLemmas.{scripts_filled}
use Rattle.dbl_demo_wal.proofs.RangeLaws.{workload_in_range}
use Rattle.dbl_demo_workload.proofs.StepLemmas.{acts_next, runnable_steps}
use Rattle.dbl_demo_workload.specs.Ready.{IsReady}
use Rattle.dbl_demo_workload.specs.Steps.{acts_with, FitAnEntry, HasRunSteps, IsNextRun, IsRun, IsRunnable, IsShortCommit}
use Rattle.dbl_demo_workload.specs.declared.preparing.Prepared.{Prepared}

abbrev IsFairChange : List LogTable → Message → Type 0
IsFairChange tables message = IsChangeOf tables message × HasFewFaults tables message

held : (tables : List LogTable) (messages : List Message) → AllByRecursion (IsFairChange tables) messages → AllByRecursion HoldsChange messages
held tables [] fair = tt
held tables (message ∷ messages) fair = ((fair.0.0.fits, fair.0.0.change), held tables messages fair.1)

-- the last commit of a fair log
last_held : (tables : List LogTable) (front : List (List Message)) (messages : List Message) → AreFairEntries tables (map Changes (front ++ messages ∷ [])) → AllByRecursion HoldsChange messages
last_held tables [] messages fair = held tables messages fair.0
last_held tables (other ∷ front) messages fair = last_held tables front messages fair.1

module _ (fair : SerialRunsAreFair) (ranges : WorkloadsAreInRange) (bytes : List ℕ) (w : Workload) (is : IsWorkload bytes w) (steps : ℕ) where
  log_fair : AreFairEntries (log_tables w.tables) (map Changes (log_at w steps))
  log_fair =
      let ranged = ranges bytes w is steps in
      (fair w.tables (workload_rows w) (session_steps_at w steps) ranged.described ranged.rows ranged.steps).entries

  holds : (front : List (List Message)) (messages : List Message) → log_at w steps ≡ front ++ messages ∷ [] → AllByRecursion HoldsChange messages
  holds front messages log = last_held (log_tables w.tables) front messages (subst (λ (l : List (List Message)). AreFairEntries (log_tables w.tables) (map Changes l)) log log_fair)

-- each commit of a workload holds changes alone
pub holds_changes : (bytes : List ℕ) (w : Workload) → IsWorkload bytes w → (steps : ℕ) (front : List (List Message)) (messages : List Message) → log_at w steps ≡ front ++ messages ∷ [] → AllByRecursion HoldsChange messages
holds_changes = holds runs_fair workload_in_range

-- the same of what is committed, or isn't
pub fits_entry : (bytes : List ℕ) (w : Workload) → IsWorkload bytes w → (steps : ℕ) (front : List (List Message)) (committed : Option (List Message)) → log_at w steps ≡ front ++ option_to_list committed → IfSome committed IsShortCommit → IfSome committed FitAnEntry
fits_entry bytes w is steps front None log short = tt
fits_entry bytes w is steps front (Some messages) log short = record { each = holds_changes bytes w is steps front messages log; short = short }

-- of the rows
pub rows_fit : (bytes : List ℕ) (w : Workload) (ready : Prepared) → IsWorkload bytes w → IsReady w ready → IfSome ready.rows FitAnEntry
rows_fit bytes w ready is of = fits_entry bytes w is 0 [] ready.rows of.rows of.short

-- the store is after no step of the workload that was read
pub ready_has_run : (bytes : List ℕ) (w : Workload) (ready : Prepared) → IsWorkload bytes w → IsReady w ready → HasRunSteps ready.steps.items 0 ready.store
ready_has_run bytes w ready is of = record { script = bytes; w = w; is = is; are = of.steps; there = omega arith; stands = of.stands }

-- ---- the next step

all_at : {A : Type 0} (P : A → Type 0) (xs : List A) (n : ℕ) (x : A) → AllByRecursion P xs → slice_get xs n ≡ Some x → P x
all_at P [] n x all there = absurd (let t = there in cc)
all_at P (y ∷ xs) zero x all there = let same : y ≡ x = (let t = there in cc) in subst P same all.0
all_at P (y ∷ xs) (suc n) x all there = all_at P xs n x all.1 there

-- each step that was read can be run
pub runnable_at : (steps : List Step) (done : ℕ) (store : Tables) (step : Step) → HasRunSteps steps done store → slice_get steps done ≡ Some step → IsRunnable step
runnable_at steps done store step has_run there =
    let filled = scripts_filled (lines_of has_run.script) in
    let all : AllByRecursion IsRunnable (steps_of has_run.w) = subst (λ (s : Script). AllByRecursion IsRunnable s.steps) (sym has_run.is.script) (runnable_steps _ filled.steps) in
    all_at IsRunnable steps done step (subst (AllByRecursion IsRunnable) (sym has_run.are) all) there

pub get_there : {A : Type 0} (xs : List A) (n : ℕ) (x : A) → n < length xs → x ≡ get_or xs n x → slice_get xs n ≡ Some x
get_there [] n x lt is = absurd (omega (arith, lt))
get_there {A = A} (y ∷ xs) zero x lt is = ap (λ (z : A). Some z) (sym is)
get_there (y ∷ xs) (suc n) x lt is = get_there xs n x (omega (arith, lt)) is

module _ (steps : List Step) (done : ℕ) (step : Step) (new : Tables) (there : slice_get steps done ≡ Some step) where
  module _ (w : Workload) (are : steps ≡ steps_of w) where
    next_ran : (committed : Option (List Message)) → IsRun w.tables (acts_at w done) step committed new → IsNextRun w done committed new
    next_ran committed ran =
        let at : slice_get (steps_of w) done ≡ Some step = ap (λ (l : List Step). slice_get l done) (sym are) ∙ there in
        let more : done + 1 ≡ suc done = omega arith in
        let acts : acts_at w (done + 1) ≡ acts_with w.tables (acts_at w done) step = ap (acts_at w) more ∙ acts_next w done step at in
        record { stands = subst (λ (p : List Accepted). Stands w.tables p new) (sym acts) ran.stands; log = ap log_in acts ∙ ran.log }

    pub all_ran : {E : Type 0} (r : Result (Option (List Message)) E) → IfOk r (λ committed. IsRun w.tables (acts_at w done) step committed new) → IfOk r (λ committed. IsNextRun w done committed new)
    all_ran (Ok committed) ran = next_ran committed ran
    all_ran (Err e) ran = tt

  module _ (old : Tables) (has_run : HasRunSteps steps done old) where
    abbrev Behind : Option (List Message) → Type 0
    Behind committed = IsRun has_run.w.tables (acts_at has_run.w done) step committed new

    pub all_fit : {E : Type 0} (r : Result (Option (List Message)) E) → IfOk r Behind → IfOk r (λ committed. IfSome committed FitAnEntry)
    all_fit (Ok committed) ran = fits_entry has_run.script has_run.w has_run.is (done + 1) (log_at has_run.w done) committed (next_ran has_run.w has_run.are committed ran).log ran.short
    all_fit (Err e) ran = tt

    pub all_since : {E : Type 0} → done < length steps → (r : Result (Option (List Message)) E) → IfOk r Behind → OnOk r (HasRunSteps steps (done + 1) new)
    all_since left (Ok committed) ran =
        record { script = has_run.script; w = has_run.w; is = has_run.is; are = has_run.are; there = omega (arith, left); stands = (next_ran has_run.w has_run.are committed ran).stands }
    all_since left (Err e) ran = tt
