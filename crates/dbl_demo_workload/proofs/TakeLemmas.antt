-- One more entry that was checked and may stand there: what the entries amount to with it.
use Rattle.std.proofs.Common.{◌≡◌, ◌∙◌, ℕ, zero, suc, ◌+◌, ◌-◌, ◌<◌, ◌≤◌, ◌^◌, Bool, true, false, IsTrue, Decides, eqb, Option, None, Some, List, [], ◌∷◌, ◌++◌, length, take, drop, length-drop, refl, sym, ap, subst, arith}
use Rattle.std.specs.Cmp.Lexicographic.{pointwise}
use Rattle.std.proofs.lemmas.Bool.Decides.{Decides-eqb}
use Rattle.std.proofs.lemmas.Slice.Eq.{slice_eq-Decides}
use Rattle.std.specs.Prelude.{Result, Ok, Err, OnOk}
use Rattle.std.specs.List.{All}
use Rattle.std.proofs.lemmas.List.{append-nil, length-append}
use Rattle.std.proofs.lemmas.List.Elements.{All-push, All-weaker}
use Rattle.dbl_base.specs.declared.lsn.Lsn.{Lsn}
use Rattle.dbl_pgmsg.specs.declared.messages.Message.{Message}
use Rattle.dbl_demo_wal.specs.declared.entry.Entry.{Entry}
use Rattle.dbl_demo_wal.specs.declared.entry.Entry.TheVariants.{Commits, Marks, Confirms}
use Rattle.dbl_demo_wal.specs.Claims.{steps_of_commit}
use Rattle.dbl_demo_wal.specs.Entries.{entry_form, IsWalEntry, EncodesEntry}
use Rattle.dbl_tables.specs.Stands.{Stands}
use Rattle.dbl_demo_wal.specs.Workloads.{Workload, acts_at}
use Rattle.dbl_demo_wal.specs.Sound.{session_commits, HasInitialCommit, IsConfirm, IsSilent}
use Rattle.dbl_demo_wal.proofs.SerialLaws.{committed-push, steps_from-append}
use Rattle.dbl_demo_wal.proofs.GroupLemmas.{confirmed_from-append}
use Rattle.dbl_demo_wal.proofs.SizeLemmas.{few_in}
use Rattle.dbl_demo_workload.specs.declared.checking.Checked.{Checked}
use Rattle.dbl_demo_workload.specs.declared.checking.Doubt.{Doubt}
use Rattle.dbl_demo_workload.specs.declared.checking.Doubt.TheVariants as doubt
use Rattle.dbl_demo_workload.proofs.CheckLemmas.{bad_commit, no_less, other_commit}
use Rattle.dbl_demo_workload.proofs.StepLemmas.{places_append, silent_confirm, silent_mark}
use Rattle.dbl_demo_workload.specs.Checking.{CanGoOn, ChecksAt, ChecksCommit, commit_places, HasFound, HasCheckedSteps, IsChecked, IsEntryChecked, MustBe, NextCommit, RanAlone, RunsTo, TakesConfirm, TakesMark}
use Rattle.dbl_demo_workload.specs.Logs.{HasReadParts}
use Rattle.dbl_demo_workload.specs.Steps.{FitAnEntry}

-- with one more number
places_with : (w : Workload) (entries : List Entry) (entry : Entry) (number : ℕ) (old new : List ℕ) → commit_places (1 + length entries) (entry ∷ []) ≡ (1 + length entries) ∷ [] → number ≡ 1 + length entries → old ≡ commit_places 1 entries → new ≡ old ++ number ∷ []
    → new ≡ commit_places 1 (entries ++ entry ∷ [])
places_with w entries entry number old new counts number_is was is =
    is ∙ ap (λ (l : List ℕ). l ++ number ∷ []) was ∙ ap (λ (n : ℕ). commit_places 1 entries ++ n ∷ []) number_is ∙ ap (λ (l : List ℕ). commit_places 1 entries ++ l) (sym counts) ∙ sym (places_append 1 entries (entry ∷ []))

module _ (w : Workload) (entries : List Entry) (number : ℕ) (number_is : number ≡ 1 + length entries) (bytes : List ℕ) (old new : Checked) (same : new ≡ record old { commits = new.commits }) (pushed : new.commits.items ≡ old.commits.items ++ number ∷ []) where
  -- the commit that it had to be
  pub taken_commit : (steps : ℕ) (messages : List Message) → steps < 2 ^ 64 → FitAnEntry messages → MustBe w entries steps messages old → bytes ≡ entry_form (Commits steps messages) → IsEntryChecked w entries bytes new
  taken_commit steps messages fit held must is =
      let silent : IsSilent w (entries ++ Commits steps messages ∷ []) steps = record {
        later = omega (arith, steps_from-append 0 entries (Commits steps messages ∷ []));
        there = must.next.there;
        none_between = must.next.is ∙ sym (committed-push entries (Commits steps messages));
      } in
      let subsequent : IsChecked w (entries ++ Commits steps messages ∷ []) (record old { commits = new.commits }) = record {
        names = must.names;
        tables = must.tables;
        steps = must.all;
        stands = subst (λ (n : ℕ). Stands w.tables (acts_at w n) old.prepared.store) (sym must.done) must.stands;
        done = must.done ∙ sym (steps_from-append 0 entries (Commits steps messages ∷ []));
        found = subst (HasFound w (entries ++ Commits steps messages ∷ []) old.done) (sym must.found) (subst (λ (n : ℕ). IsSilent w (entries ++ Commits steps messages ∷ []) n) (sym must.done) silent);
        commits = places_with w entries (Commits steps messages) number old.commits.items new.commits.items refl number_is must.commits pushed;
        confirmed = must.confirmed ∙ sym (confirmed_from-append (record { 0 = 0 }) entries (Commits steps messages ∷ []));
      } in
      record {
        entry = Commits steps messages;
        spells = record { fits = record { steps_fit = fit; few = few_in messages held.short; each = held.each }; spelled = is };
        next = must.next;
        checked = subst (IsChecked w (entries ++ Commits steps messages ∷ [])) (sym same) subsequent;
      }

  -- a watermark after the steps that were run, if none of them commits
  pub taken_mark : (steps : ℕ) (value : List ℕ) (first : Checked) → EncodesEntry bytes (Marks steps value) → IsChecked w entries first → first.prepared.rows ≡ None → RanAlone first old → HasCheckedSteps w entries steps None old → IsEntryChecked w entries bytes new
  taken_mark steps value first spells was none ran run =
      let silent : IsSilent w entries steps = record { later = run.later; there = run.there; none_between = run.log ∙ append-nil (session_commits entries) } in
      let subsequent : IsChecked w (entries ++ Marks steps value ∷ []) (record old { commits = new.commits }) = record {
        names = ap (λ (x : Checked). x.prepared.names.items) ran ∙ was.names;
        tables = ap (λ (x : Checked). x.prepared.tables.items) ran ∙ was.tables;
        steps = ap (λ (x : Checked). x.prepared.steps.items) ran ∙ was.steps;
        stands = subst (λ (n : ℕ). Stands w.tables (acts_at w n) old.prepared.store) (sym run.done) run.stands;
        done = run.done ∙ sym (steps_from-append 0 entries (Marks steps value ∷ []));
        found = subst (HasFound w (entries ++ Marks steps value ∷ []) old.done) (sym (ap (λ (x : Checked). x.prepared.rows) ran ∙ none))
            (subst (λ (n : ℕ). IsSilent w (entries ++ Marks steps value ∷ []) n) (sym run.done) (silent_mark w entries steps value silent));
        commits = places_with w entries (Marks steps value) number old.commits.items new.commits.items refl number_is (ap (λ (x : Checked). x.commits.items) ran ∙ was.commits) pushed;
        confirmed = ap (λ (x : Checked). x.confirmed) ran ∙ was.confirmed ∙ sym (confirmed_from-append (record { 0 = 0 }) entries (Marks steps value ∷ []));
      } in
      record { entry = Marks steps value; spells = spells; next = silent; checked = subst (IsChecked w (entries ++ Marks steps value ∷ [])) (sym same) subsequent }

-- a confirmed position
pub taken_confirm : (w : Workload) (entries : List Entry) (bytes : List ℕ) (old new : Checked) (upto : Lsn) → new ≡ record old { confirmed = upto } → EncodesEntry bytes (Confirms upto) → IsChecked w entries old → old.prepared.rows ≡ None → IsConfirm w entries upto
    → IsEntryChecked w entries bytes new
taken_confirm w entries bytes old new upto same spells was none next =
    let silent : IsSilent w entries old.done = subst (HasFound w entries old.done) none was.found in
    let subsequent : IsChecked w (entries ++ Confirms upto ∷ []) (record old { confirmed = upto }) = record {
      names = was.names;
      tables = was.tables;
      steps = was.steps;
      stands = was.stands;
      done = was.done ∙ sym (steps_from-append 0 entries (Confirms upto ∷ []));
      found = subst (HasFound w (entries ++ Confirms upto ∷ []) old.done) (sym none) (silent_confirm w entries old.done upto silent);
      commits = was.commits ∙ sym (append-nil (commit_places 1 entries)) ∙ sym (places_append 1 entries (Confirms upto ∷ []));
      confirmed = sym (confirmed_from-append (record { 0 = 0 }) entries (Confirms upto ∷ []));
    } in
    record { entry = Confirms upto; spells = spells; next = next; checked = subst (IsChecked w (entries ++ Confirms upto ∷ [])) (sym same) subsequent }

-- ---- what always holds of the parts

pub parts_more : (number : ℕ) (old new : Checked) → HasReadParts number old → CanGoOn new → new.commits.items ≡ old.commits.items ++ number ∷ [] → HasReadParts (number + 1) new
parts_more number old new parts goes pushed = record {
  goes = goes;
  few = omega (arith, parts.few, ap (λ (l : List ℕ). length l) pushed, length-append old.commits.items (number ∷ []));
  there = subst (All (λ (n : ℕ). n < number + 1)) (sym pushed)
      (All-push (λ (n : ℕ). n < number + 1) old.commits.items number (All-weaker (λ (n : ℕ). n < number) (λ (n : ℕ). n < number + 1) (λ n lt. omega (arith, lt)) old.commits.items parts.there) (omega arith));
}

pub parts_on : (number : ℕ) (old new : Checked) → HasReadParts number old → new ≡ record old { confirmed = new.confirmed } → HasReadParts (number + 1) new
parts_on number old new parts same =
    let moved : HasReadParts (number + 1) (record old { confirmed = new.confirmed }) = record {
      goes = record { has_run = parts.goes.has_run; rows = parts.goes.rows; named = parts.goes.named };
      few = omega (arith, parts.few);
      there = All-weaker (λ (n : ℕ). n < number) (λ (n : ℕ). n < number + 1) (λ n lt. omega (arith, lt)) old.commits.items parts.there;
    } in
    subst (HasReadParts (number + 1)) (sym same) moved

-- ---- bytes that are compared

take_all : {A : Type 0} (xs : List A) (n : ℕ) → length xs ≤ n → take n xs ≡ xs
take_all [] zero le = refl
take_all [] (suc n) le = refl
take_all {A = A} (x ∷ xs) zero le = absurd (omega (arith, le))
take_all {A = A} (x ∷ xs) (suc n) le = ap (λ (l : List A). x ∷ l) (take_all xs n (omega (arith, le)))

abbrev pub IsSaid : Bool → List ℕ → List ℕ → Type 0
IsSaid r bytes form = (IsTrue r → bytes ≡ form) × (bytes ≡ form → IsTrue r)

-- after four bytes the buffer has the form
pub said_by : (r : Bool) (buffer bytes form : List ℕ) → r ≡ pointwise eqb (take (length buffer - 4) (drop 4 buffer)) bytes → drop 4 buffer ≡ form → IsSaid r bytes form
said_by r buffer bytes form is are =
    let whole : take (length buffer - 4) (drop 4 buffer) ≡ drop 4 buffer = take_all (drop 4 buffer) (length buffer - 4) (omega (arith, length-drop 4 buffer)) in
    let says : Decides r (form ≡ bytes) = slice_eq-Decides Decides-eqb form bytes r (is ∙ ap (λ (l : List ℕ). pointwise eqb l bytes) (whole ∙ are)) in
    ((λ t. sym (says.0 t)), (λ same. says.1 (sym same)))

-- of messages that were passed on
pub said_of : (r : Bool) (bytes : List ℕ) (steps : ℕ) (given messages : List Message) → given ≡ messages → IsSaid r bytes (entry_form (Commits steps given)) → IsSaid r bytes (entry_form (Commits steps messages))
said_of r bytes steps given messages same said = subst (λ (ms : List Message). IsSaid r bytes (entry_form (Commits steps ms))) same said

-- ---- a commit, as the code asks for it

module _ (number steps : ℕ) (bytes : List ℕ) (old next : Checked) where
  -- none can be
  pub none_can : (new : Checked) (e : Doubt) → NextCommit steps old next (Err e) → ChecksCommit number steps bytes old new (Err e)
  none_can new doubt.Bad can says w entries number_is is = bad_commit w entries bytes steps says (can w entries is)
  none_can new doubt.Memory can says w entries number_is is = tt

  pub none_is : NextCommit steps old next (Ok None) → ChecksCommit number steps bytes old next (Err doubt.Bad)
  none_is can says w entries number_is is = bad_commit w entries bytes steps says (can w entries is)

  module _ (messages : List Message) (must : NextCommit steps old next (Ok (Some messages))) where
    -- it is another one
    pub other_is : (r : Bool) → r ≡ false → IsSaid r bytes (entry_form (Commits steps messages)) → ChecksCommit number steps bytes old next (Err doubt.Bad)
    other_is r isnt said says w entries number_is is =
        let other : bytes ≡ entry_form (Commits steps messages) → ⊥ = (λ form. let contra : false ≡ true = sym isnt ∙ said.1 form in cc) in
        let m : MustBe w entries steps messages next = must w entries is in other_commit w entries bytes steps messages says m.next other

    -- it is this one
    pub commit_is : (new : Checked) → new ≡ record next { commits = new.commits } → new.commits.items ≡ next.commits.items ++ number ∷ [] → steps < 2 ^ 64 → FitAnEntry messages → bytes ≡ entry_form (Commits steps messages) → ChecksCommit number steps bytes old new (Ok tt)
    commit_is new same pushed fit held form says w entries number_is is = taken_commit w entries number number_is bytes next new same pushed steps messages fit held (must w entries is) form

-- ---- a watermark and a confirmed position, as the code takes them

pub mark_is : (number steps : ℕ) (old mid new : Checked) → old.prepared.rows ≡ None → RanAlone old mid → RunsTo steps old mid (Ok None) → new ≡ record mid { commits = new.commits } → new.commits.items ≡ mid.commits.items ++ number ∷ [] → TakesMark number steps old new (Ok tt)
mark_is number steps old mid new none ran runs same pushed value bytes w entries number_is spells is = taken_mark w entries number number_is bytes mid new same pushed steps value old spells is none ran (runs w entries is none)

pub confirm_is : (upto : Lsn) (old : Checked) → old.prepared.rows ≡ None → old.confirmed.0 ≤ upto.0 → TakesConfirm upto old (record old { confirmed = upto }) (Ok tt)
confirm_is upto old none rises bytes w entries spells is =
    let silent : IsSilent w entries old.done = subst (HasFound w entries old.done) none is.found in
    let begun : HasInitialCommit w entries = omega (arith, no_less w 0 old.done (omega arith), ap (λ (l : List (List Message)). length l) silent.none_between) in
    taken_confirm w entries bytes old (record old { confirmed = upto }) upto refl spells is none (record { begun = begun; no_fall = omega (arith, rises, ap (λ (l : Lsn). l.0) is.confirmed) })

-- ---- an entry, as it was read

-- it begins as a commit
pub at_commit : (number steps : ℕ) (bytes : List ℕ) (old new : Checked) (r : Result Unit Doubt) → ((e : Entry) → EncodesEntry bytes e → Some steps ≡ steps_of_commit e) → ChecksCommit number steps bytes old new r → ChecksAt number bytes old new r
at_commit number steps bytes old new r told checks w entries number_is is = checks (λ e spells. sym (told e spells)) w entries number_is is

-- it is a commit that doesn't begin as one
pub no_commit : (number steps : ℕ) (messages : List Message) (bytes : List ℕ) (old : Checked) → ((e : Entry) → EncodesEntry bytes e → None ≡ steps_of_commit e) → EncodesEntry bytes (Commits steps messages) → ChecksAt number bytes old old (Err doubt.Bad)
no_commit number steps messages bytes old told spells w entries number_is is e of_e next = let contra : ◌≡◌ {A = Option ℕ} None (Some steps) = told (Commits steps messages) spells in cc

-- it is none
pub no_entry : (number : ℕ) (bytes : List ℕ) (old : Checked) → (IsWalEntry bytes → ⊥) → ChecksAt number bytes old old (Err doubt.Bad)
no_entry number bytes old none w entries number_is is e of_e next = none (e, of_e)

pub parts_confirmed : (number : ℕ) (old new : Checked) (r : Result Unit Doubt) → HasReadParts number old → new ≡ record old { confirmed = new.confirmed } → OnOk r (HasReadParts (number + 1) new)
parts_confirmed number old new (Ok done) parts same = parts_on number old new parts same
parts_confirmed number old new (Err e) parts same = tt
