-- Logs that grow: by an entry that may come after them, and by the commits of more steps.
use Rattle.std.proofs.Common.{◌≡◌, ◌∙◌, ℕ, zero, suc, ◌+◌, Result, Ok, Err, List, [], ◌∷◌, ◌++◌, length, take, drop, refl, sym, ap, subst, arith, append_assoc, length-append}
use Rattle.std.proofs.lemmas.List.{append-nil, map_push}
use Rattle.std.proofs.lemmas.List.Elements.{filter_map-append}
use Rattle.dbl_pgmsg.specs.declared.messages.Message.{Message}
use Rattle.dbl_script.specs.declared.script.Step.{Step}
use Rattle.dbl_demo_wal.specs.declared.entry.Entry.{Entry}
use Rattle.dbl_demo_wal.specs.Entries.{entry_form, workload_form, FitsWalEntry}
use Rattle.dbl_tables_laws.specs.TablesRows.declared.demo_table.DemoTable.{DemoTable}
use Rattle.dbl_tables_laws.specs.TablesRows.declared.error.StepError.{StepError}
use Rattle.dbl_tables_laws.specs.TablesRows.Acts.{Accepted, log_in, messages_by}
use Rattle.dbl_tables_laws.specs.TablesRows.Acts.Accepted.{Began, Did, Committed, RolledBack}
use Rattle.dbl_tables_laws.specs.TablesRows.Steps.{Step as SessionStep, judged}
use Rattle.dbl_tables_laws.specs.TablesRows.Serial.{accepted_onto, acts_after, initial_steps}
use Rattle.dbl_demo_wal.specs.Workloads.{Workload, acts_at, session_step_of, session_steps_at, session_steps_of, workload_rows, steps_of}
use Rattle.dbl_demo_wal.specs.Sound.{session_commits, HasInitialCommit, IsNextEntry, AreNext}
use Rattle.dbl_demo_wal.specs.Wals.{Wal, forms_of, IsWalOf}
use Rattle.dbl_demo_wal.specs.CrashState.{with_entries}
use Rattle.dbl_demo_wal.specs.SoundLaws.{SoundWalsGoOn, CommitsStay}
use Rattle.dbl_demo_wal.proofs.ListLemmas.{fits_push}
use Rattle.dbl_demo_wal.proofs.SerialLaws.{committed-push}

-- ---- one more entry

pub next_push : (w : Workload) (before entries : List Entry) (e : Entry) → AreNext w before entries → IsNextEntry w (before ++ entries) e → AreNext w before (entries ++ e ∷ [])
next_push w before [] e are next = (subst (λ (l : List Entry). IsNextEntry w l e) (append-nil before) next, tt)
next_push w before (x ∷ entries) e are next =
    (are.0, next_push w (before ++ x ∷ []) entries e are.1 (subst (λ (l : List Entry). IsNextEntry w l e) (sym (append_assoc before (x ∷ []) entries)) next))

pub begun_push : (w : Workload) (entries : List Entry) (e : Entry) → HasInitialCommit w entries → HasInitialCommit w (entries ++ e ∷ [])
begun_push w entries e begun =
    omega (arith, begun, ap (λ (l : List (List Message)). length l) (committed-push entries e), length-append (session_commits entries) (session_commits (e ∷ [])))

pub go_on : (wal : Wal) (entry : Entry) → IsWalOf (forms_of wal) wal → FitsWalEntry entry → IsNextEntry wal.workload wal.entries entry → IsWalOf (forms_of (with_entries wal (entry ∷ []))) (with_entries wal (entry ∷ []))
go_on wal entry is fits next = record {
  are = refl;
  workload = is.workload;
  fits = fits_push FitsWalEntry wal.entries entry is.fits fits;
  sound = record { each = next_push wal.workload [] wal.entries entry is.sound.each next; begun = begun_push wal.workload wal.entries entry is.sound.begun };
}

-- the forms of a wal with one more entry
pub forms_push : (wal : Wal) (entry : Entry) → forms_of (with_entries wal (entry ∷ [])) ≡ forms_of wal ++ entry_form entry ∷ []
forms_push wal entry = ap (λ (fs : List (List ℕ)). workload_form wal.script ∷ fs) (map_push entry_form wal.entries entry)

pub sound_wals_go_on : SoundWalsGoOn
sound_wals_go_on forms wal entry is fits next =
    let here : IsWalOf (forms_of wal) wal = subst (λ (fs : List (List ℕ)). IsWalOf fs wal) is.are is in
    let same : forms_of (with_entries wal (entry ∷ [])) ≡ forms ++ entry_form entry ∷ [] = forms_push wal entry ∙ ap (λ (fs : List (List ℕ)). fs ++ entry_form entry ∷ []) (sym is.are) in
    subst (λ (fs : List (List ℕ)). IsWalOf fs (with_entries wal (entry ∷ []))) same (go_on wal entry here fits next)

-- ---- more steps

abbrev Longer : List (List Message) → List (List Message) → Type 0
Longer old new = (rest : List (List Message)) × (new ≡ old ++ rest)

longer_same : (log : List (List Message)) → Longer log log
longer_same log = ([], sym (append-nil log))

longer_on : (a b c : List (List Message)) → Longer a b → Longer b c → Longer a c
longer_on a b c ab bc = (ab.0 ++ bc.0, bc.1 ∙ ap (λ (l : List (List Message)). l ++ bc.0) ab.1 ∙ append_assoc a ab.0 bc.0)

-- an act takes back no commit
log_on : (past : List Accepted) (r : Result Accepted StepError) → Longer (log_in past) (log_in (accepted_onto r past))
log_on past (Err e) = longer_same (log_in past)
log_on past (Ok (Began session)) = longer_same (log_in past)
log_on past (Ok (Did session message)) = longer_same (log_in past)
log_on past (Ok (Committed session)) = (messages_by session past ∷ [], refl)
log_on past (Ok (RolledBack session)) = longer_same (log_in past)

log_after : (tables : List DemoTable) (past : List Accepted) (steps : List SessionStep) → Longer (log_in past) (log_in (acts_after tables past steps))
log_after tables past [] = longer_same (log_in past)
log_after tables past (step ∷ steps) =
    let next = accepted_onto (judged tables past step) past in
    longer_on (log_in past) (log_in next) (log_in (acts_after tables next steps)) (log_on past (judged tables past step)) (log_after tables next steps)

pub acts_after-append : (tables : List DemoTable) (past : List Accepted) (steps more : List SessionStep) → acts_after tables past (steps ++ more) ≡ acts_after tables (acts_after tables past steps) more
acts_after-append tables past [] more = refl
acts_after-append tables past (step ∷ steps) more = acts_after-append tables (accepted_onto (judged tables past step) past) steps more

none_taken : (n : ℕ) → ◌≡◌ {A = List Step} (take n []) []
none_taken zero = refl
none_taken (suc n) = refl

take_plus : (few more : ℕ) (steps : List Step) → take (few + more) steps ≡ take few steps ++ take more (drop few steps)
take_plus zero more steps = let none : 0 + more ≡ more = omega arith in ap (λ (n : ℕ). take n steps) none
take_plus (suc few) more [] = none_taken (suc few + more) ∙ sym (none_taken more)
take_plus (suc few) more (step ∷ steps) =
    let k : suc few + more ≡ suc (few + more) = omega arith in
    ap (λ (n : ℕ). take n (step ∷ steps)) k ∙ ap (λ (l : List Step). step ∷ l) (take_plus few more steps)

-- what a few steps ask of the store, and what those after them ask
pub session_steps_plus : (w : Workload) (few more : ℕ) → session_steps_at w (few + more) ≡ session_steps_at w few ++ session_steps_of (take more (drop few (steps_of w)))
session_steps_plus w few more = ap session_steps_of (take_plus few more (steps_of w)) ∙ filter_map-append session_step_of (take few (steps_of w)) (take more (drop few (steps_of w)))

pub acts_plus : (w : Workload) (few more : ℕ) → acts_at w (few + more) ≡ acts_after w.tables (acts_at w few) (session_steps_of (take more (drop few (steps_of w))))
acts_plus w few more =
    let rows = initial_steps (workload_rows w) in
    let subsequent = session_steps_of (take more (drop few (steps_of w))) in
    ap (λ (cs : List SessionStep). acts_after w.tables [] (rows ++ cs)) (session_steps_plus w few more)
    ∙ ap (acts_after w.tables []) (sym (append_assoc rows (session_steps_at w few) subsequent))
    ∙ acts_after-append w.tables [] (rows ++ session_steps_at w few) subsequent

pub commits_stay : CommitsStay
commits_stay w few more =
    let subsequent = session_steps_of (take more (drop few (steps_of w))) in
    let longer = log_after w.tables (acts_at w few) subsequent in
    (longer.0, ap log_in (acts_plus w few more) ∙ longer.1)
