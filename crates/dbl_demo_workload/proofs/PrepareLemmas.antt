-- A workload that is taken line by line: its tables, then its rows, up to the first that can't be.
use Rattle.std.proofs.Common.{◌≡◌, ◌∙◌, ◌⊎◌, ℕ, zero, suc, ◌<◌, ◌≤◌, Bool, true, false, None, Some, List, [], ◌∷◌, ◌++◌, length, map, take, get_or, refl, sym, ap, ap₂, subst, arith, inl, inr}
use Rattle.std.specs.Prelude.{◌≢◌, ◌↔◌, Result, Ok, Err, IsOk, is_ok, IfSome, option_to_list}
use Rattle.std.specs.List.{AllByRecursion, AllZip}
use Rattle.std.proofs.lemmas.Bool.{cases_lt}
use Rattle.std.proofs.lemmas.List.{append-nil, map-append}
use Rattle.dbl_base.specs.Lines.{lines_of}
use Rattle.dbl_pgmsg.specs.declared.messages.Message.{Message}
use Rattle.dbl_model_table.specs.declared.named_cell.NamedCell.{NamedCell}
use Rattle.dbl_model_table.specs.declared.table.RawTable.{RawTable}
use Rattle.dbl_model_table.specs.declared.table.TableName.{TableName}
use Rattle.dbl_model_table.specs.declared.error.ModelError.{ModelError}
use Rattle.dbl_model_table.specs.declared.error.ModelError.TheVariants as model
use Rattle.dbl_model_table.specs.Made.{table_fault}
use Rattle.dbl_source_log.specs.declared.logged.LogTable.{LogTable}
use Rattle.dbl_script.specs.declared.error.ScriptError.{ScriptError}
use Rattle.dbl_script.specs.declared.error.ScriptError.TheVariants as script
use Rattle.dbl_script.specs.declared.script.Script.{Script}
use Rattle.dbl_script.specs.declared.script.ScriptTable.{ScriptTable}
use Rattle.dbl_script.specs.declared.script.ScriptRow.{ScriptRow}
use Rattle.dbl_script.specs.Scripts.{first_bad, script_of}
use Rattle.dbl_tables_rows.specs.declared.demo_table.DemoTable.{DemoTable}
use Rattle.dbl_tables_rows.specs.declared.error.StepError.{StepError}
use Rattle.dbl_tables_rows.specs.declared.error.StepError.TheVariants as errors
use Rattle.dbl_tables_rows.specs.Acts.{Accepted, log_in, messages_by}
use Rattle.dbl_tables_rows.specs.Acts.Accepted.{Committed}
use Rattle.dbl_tables_rows.specs.Sending.{log_table, log_tables}
use Rattle.dbl_tables_rows.specs.Steps.{Step as SessionStep, judged}
use Rattle.dbl_tables_rows.specs.Steps.Step.{Begin, Commit, Insert}
use Rattle.dbl_tables_rows.specs.Serial.{acts_after, accepted_onto}
use Rattle.dbl_tables.specs.declared.tables.Tables.{Tables}
use Rattle.dbl_tables.specs.declared.first_rows.FirstRows.{FirstRows}
use Rattle.dbl_tables.specs.FirstRows.{InsertsAfter, IsRowInserted}
use Rattle.dbl_tables.specs.Stands.{IsAccepted, IsGiven, Stands}
use Rattle.dbl_demo_wal.specs.Workloads.{AreAccepted, IsTableOf, IsWorkload, Workload, acts_at}
use Rattle.dbl_demo_wal.proofs.GrowthLaws.{acts_after-append}
use Rattle.dbl_demo_workload.specs.declared.error.DemoError.{DemoError}
use Rattle.dbl_demo_workload.specs.declared.error.DemoError.TheVariants as demo
use Rattle.dbl_demo_workload.proofs.OneOfLaws.{all_accepted, begun, same_calls}
use Rattle.dbl_demo_workload.proofs.RunLemmas.{commit_act, insert_silent, log_onto}
use Rattle.dbl_demo_workload.specs.Errors.{model_error, script_error}
use Rattle.dbl_demo_workload.specs.Preparing.{initial_row_calls, row_error, AreReadSoFar, AreTablesRead, CommitsRows, HasBadRowIn, HasBadTable, HasBadTableIn, InsertsRow, InsertsRows, IsReadyOf, IsRefusedBy}
use Rattle.dbl_demo_workload.specs.Ready.{IsReady}
use Rattle.dbl_demo_workload.specs.Refusals.{HasGoodLines, IsRefused, row_calls}
use Rattle.dbl_demo_workload.specs.Steps.{IsShortCommit}
use Rattle.dbl_demo_workload.specs.declared.preparing.Prepared.{Prepared}
use Rattle.dbl_demo_workload.specs.Preparing.{IsRefusedBy as refused_by}
use Rattle.dbl_demo_workload.specs.Refusals.{IsRefused as refused}
use Rattle.dbl_demo_workload.specs.Refusals.HasBadLines.{too_many, bad_line}

-- ---- an item of a list, and what stands before it

pub split_here : {A : Type 0} (xs : List A) (n : ℕ) (x : A) → n < length xs → x ≡ get_or xs n x → (subsequent : List A) × (xs ≡ take n xs ++ x ∷ subsequent)
split_here [] n x lt is = absurd (omega (arith, lt))
split_here {A = A} (y ∷ xs) zero x lt is = (xs, ap (λ (z : A). z ∷ xs) (sym is))
split_here {A = A} (y ∷ xs) (suc n) x lt is = let rest = split_here xs n x (omega (arith, lt)) is in (rest.0, ap (λ (l : List A). y ∷ l) rest.1)

-- ---- tables

pub none_read : AreReadSoFar [] [] [] []
none_read = record { read = record { are = tt; named = refl; log_is = refl }; good = tt }

zip_on : {A B : Type 0} (P : A → B → Type 0) (xs : List A) (ys : List B) (x : A) (y : B) → AllZip P xs ys → P x y → AllZip P (xs ++ x ∷ []) (ys ++ y ∷ [])
zip_on P [] [] x y all here = (here, tt)
zip_on P [] (b ∷ ys) x y all here = absurd all
zip_on P (a ∷ xs) [] x y all here = absurd all
zip_on P (a ∷ xs) (b ∷ ys) x y all here = (all.0, zip_on P xs ys x y all.1 here)

all_on : {A : Type 0} (P : A → Type 0) (xs : List A) (x : A) → AllByRecursion P xs → P x → AllByRecursion P (xs ++ x ∷ [])
all_on P [] x all here = (here, tt)
all_on P (y ∷ xs) x all here = (all.0, all_on P xs x all.1 here)

pub one_read : (lines : List ScriptTable) (names : List TableName) (tables : List DemoTable) (log : List LogTable) (line : ScriptTable) (name : TableName) (table : DemoTable) → AreReadSoFar lines names tables log → IsTableOf line table → table_fault line.raw ≡ None
    → name ≡ line.raw.name → AreReadSoFar (lines ++ line ∷ []) (names ++ name ∷ []) (tables ++ table ∷ []) (log ++ record { raw = record line.raw { version = 1 }; full = line.full } ∷ [])
one_read lines names tables log line name table so is none named =
    let same : name ≡ table.info.name = named ∙ ap (λ (raw : RawTable). raw.name) (sym is.info) in
    let entry : record { raw = record line.raw { version = 1 }; full = line.full } ≡ log_table table = ap₂ (λ (raw : RawTable) (full : Bool). let t : LogTable = record { raw = raw; full = full } in t) (sym is.info) (sym is.full) in
    record {
      read = record {
        are = zip_on IsTableOf lines tables line table so.read.are is;
        named = ap (λ (l : List TableName). l ++ name ∷ []) so.read.named ∙ ap (λ (n : TableName). map (λ (t : DemoTable). t.info.name) tables ++ n ∷ []) same ∙ sym (map-append (λ (t : DemoTable). t.info.name) tables (table ∷ []));
        log_is = ap (λ (l : List LogTable). l ++ record { raw = record line.raw { version = 1 }; full = line.full } ∷ []) so.read.log_is ∙ ap (λ (e : LogTable). log_tables tables ++ e ∷ []) entry ∙ sym (map-append log_table tables (table ∷ []));
      };
      good = all_on (λ (other : ScriptTable). table_fault other.raw ≡ None) lines line so.good none;
    }

-- out of memory, or the fault of the table
told_model : (e : ModelError) → (model_error e ≡ demo.Memory) ⊎ (model_error e ≡ demo.Model e)
told_model model.Memory = inl refl
told_model (model.BadName name) = inr refl
told_model (model.DuplicateColumn name column) = inr refl
told_model (model.FloatColumn name column) = inr refl
told_model (model.NoKey name) = inr refl
told_model (model.KeyType name column) = inr refl

pub bad_table : (line : ScriptTable) (e : ModelError) (f : DemoError) → (e ≡ model.Memory) ⊎ (table_fault line.raw ≡ Some e) → f ≡ model_error e → HasBadTable line f
bad_table line e f (inl memory) told = inl (told ∙ ap model_error memory)
bad_table line e f (inr fault) told =
    elim (told_model e) [
      | inl memory ↦ inl (told ∙ memory)
      | inr model ↦ inr (e, fault, told ∙ model)
    ]

pub bad_table_in : (lines : List ScriptTable) (n : ℕ) (line : ScriptTable) (f : DemoError) → n < length lines → line ≡ get_or lines n line → AllByRecursion (λ other. table_fault other.raw ≡ None) (take n lines)
    → HasBadTable line f → (f ≡ demo.Memory) ⊎ HasBadTableIn lines f
bad_table_in lines n line f lt is good (inl memory) = inl memory
bad_table_in lines n line f lt is good (inr bad) =
    let split = split_here lines n line lt is in
    inr (record { before = take n lines; table = line; subsequent = split.0; are = split.1; good = good; fault = bad.0; is_fault = bad.1; is = bad.2 })

-- ---- rows

module _ (tables : List DemoTable) (past : List Accepted) (call : SessionStep) where
  inserted_ok : (new : FirstRows) → IsRowInserted tables past call new → IsOk (judged tables past call) × InsertsAfter tables (accepted_onto (judged tables past call) past) new
  inserted_ok new is = (
    subst (λ (r : Result Accepted StepError). IsOk r) (sym is.accepted) refl,
    subst (λ (r : Result Accepted StepError). InsertsAfter tables (accepted_onto r past) new) (sym is.accepted) is.inserts,
  )

  refused_not_ok : (e : StepError) → e ≢ errors.Memory → (e ≡ errors.Memory) ⊎ (judged tables past call ≡ Err e) → ¬ IsOk (judged tables past call)
  refused_not_ok e other is ok = elim is [
    | inl memory ↦ other memory
    | inr why ↦ (let contra : false ≡ true = subst (λ (r : Result Accepted StepError). is_ok r ≡ true) why ok in cc)
  ]

-- out of memory, or the line
told_row : (e : StepError) (line : ℕ) → (row_error e line ≡ demo.Memory) ⊎ ((row_error e line ≡ demo.Script (script.BadLine line)) × (e ≢ errors.Memory))
told_row errors.Memory line = inl refl
told_row errors.AlreadyOpen line = inr (refl, λ same. cc)
told_row errors.NotOpen line = inr (refl, λ same. cc)
told_row errors.UnknownTable line = inr (refl, λ same. cc)
told_row errors.BadRow line = inr (refl, λ same. cc)
told_row (errors.RowLocked by) line = inr (refl, λ same. cc)
told_row errors.NoRow line = inr (refl, λ same. cc)
told_row errors.RowExists line = inr (refl, λ same. cc)
told_row errors.BadAlter line = inr (refl, λ same. cc)

-- a row's insert, whose cells are the row's
module _ (tables : List DemoTable) (past : List Accepted) (row : ScriptRow) (cells : List NamedCell) (are : cells ≡ row.cells) (new : FirstRows) where
  pub row_inserted : IsRowInserted tables past (Insert [] row.table cells) new → InsertsRow tables past row new (Ok tt)
  row_inserted is =
      subst (λ (cs : List NamedCell). IsOk (judged tables past (Insert [] row.table cs)) × InsertsAfter tables (accepted_onto (judged tables past (Insert [] row.table cs)) past) new) are
      (inserted_ok tables past (Insert [] row.table cells) new is)

  pub row_refused : (e : StepError) (f : DemoError) → f ≡ row_error e row.line → (e ≡ errors.Memory) ⊎ (judged tables past (Insert [] row.table cells) ≡ Err e) → InsertsRow tables past row new (Err f)
  row_refused e f told is = elim (told_row e row.line) [
    | inl memory ↦ inl (told ∙ memory)
    | inr line ↦ inr (told ∙ line.0, subst (λ (cs : List NamedCell). ¬ IsOk (judged tables past (Insert [] row.table cs))) are (refused_not_ok tables past (Insert [] row.table cells) e line.1 is))
  ]

accepted_on : (tables : List DemoTable) (steps : List SessionStep) (past : List Accepted) (step : SessionStep) → AreAccepted tables past steps → IsOk (judged tables (acts_after tables past steps) step) → AreAccepted tables past (steps ++ step ∷ [])
accepted_on tables [] past step all ok = (ok, tt)
accepted_on tables (s ∷ steps) past step all ok = (all.0, accepted_on tables steps (accepted_onto (judged tables past s) past) step all.1 ok)

abbrev insert : ScriptRow → SessionStep
insert row = Insert [] row.table row.cells

module _ (tables : List DemoTable) (past : List Accepted) where
  -- these rows were inserted
  abbrev pub AreIn : List ScriptRow → FirstRows → Type 0
  AreIn rows first = AreAccepted tables past (row_calls rows) × InsertsAfter tables (acts_after tables past (row_calls rows)) first

  -- and one more
  pub row_in : (rows : List ScriptRow) (row : ScriptRow) (first : FirstRows) → AreAccepted tables past (row_calls rows) → IsOk (judged tables (acts_after tables past (row_calls rows)) (insert row))
      → InsertsAfter tables (accepted_onto (judged tables (acts_after tables past (row_calls rows)) (insert row)) (acts_after tables past (row_calls rows))) first → AreIn (rows ++ row ∷ []) first
  row_in rows row first all ok inserts =
      let calls : row_calls (rows ++ row ∷ []) ≡ row_calls rows ++ insert row ∷ [] = map-append insert rows (row ∷ []) in
      let acts = ap (acts_after tables past) calls ∙ acts_after-append tables past (row_calls rows) (insert row ∷ []) in (
        subst (AreAccepted tables past) (sym calls) (accepted_on tables (row_calls rows) past (insert row) all ok),
        subst (λ (p : List Accepted). InsertsAfter tables p first) (sym acts) inserts,
      )

  pub bad_row : (rows : List ScriptRow) (n : ℕ) (row : ScriptRow) (e : DemoError) → n < length rows → row ≡ get_or rows n row → AreAccepted tables past (row_calls (take n rows))
      → (e ≡ demo.Script (script.BadLine row.line)) × (¬ IsOk (judged tables (acts_after tables past (row_calls (take n rows))) (insert row))) → HasBadRowIn tables past rows e
  bad_row rows n row e lt is all told =
      let split = split_here rows n row lt is in
      record { before = take n rows; row = row; subsequent = split.0; are = split.1; accepted = all; refused = told.1; is = told.0 }

-- ---- their commit

-- inserts commit nothing
rows_log : (tables : List DemoTable) (rows : List ScriptRow) (past : List Accepted) → log_in past ≡ [] → log_in (acts_after tables past (row_calls rows)) ≡ []
rows_log tables [] past none = none
rows_log tables (row ∷ rows) past none =
    rows_log tables rows (accepted_onto (judged tables past (insert row)) past) (log_onto tables past (insert row) (insert_silent tables past [] row.table row.cells) (judged tables past (insert row)) refl ∙ none)

module _ (tables : List DemoTable) (row : ScriptRow) (rows : List ScriptRow) where
  abbrev all : List ScriptRow
  all = row ∷ rows

  calls_are : initial_row_calls all ≡ Begin [] ∷ (row_calls all ++ Commit [] ∷ [])
  calls_are = ap (λ (l : List SessionStep). Begin [] ∷ (l ++ Commit [] ∷ [])) (same_calls all)

  abbrev inserted : List Accepted
  inserted = acts_after tables (begun tables) (row_calls all)

  acts_are : acts_after tables [] (initial_row_calls all) ≡ accepted_onto (judged tables inserted (Commit [])) inserted
  acts_are = ap (acts_after tables []) calls_are ∙ acts_after-append tables (begun tables) (row_calls all) (Commit [] ∷ [])

  module _ (new : Tables) (messages : List Message) (is : IsAccepted tables inserted (Commit []) new) (given : IsGiven inserted [] messages) where
    committed : acts_after tables [] (initial_row_calls all) ≡ is.act ∷ inserted
    committed = acts_are ∙ ap (λ (r : Result Accepted StepError). accepted_onto r inserted) is.accepted

    log_nothing : log_in inserted ≡ []
    log_nothing = rows_log tables all (begun tables) refl

    pub rows_committed : AreAccepted tables (begun tables) (row_calls all) → AreAccepted tables [] (initial_row_calls all) × Stands tables (acts_after tables [] (initial_row_calls all)) new × (log_in (acts_after tables [] (initial_row_calls all)) ≡ messages ∷ []) × IsShortCommit messages
    rows_committed ok =
        let act : Committed [] ≡ is.act = commit_act tables inserted [] is.act is.accepted in
        let log : log_in (is.act ∷ inserted) ≡ messages ∷ [] =
        subst (λ (a : Accepted). log_in (a ∷ inserted) ≡ messages ∷ []) act (ap (λ (l : List (List Message)). l ++ messages_by [] inserted ∷ []) log_nothing ∙ ap (λ (ms : List Message). ms ∷ []) (sym given.are)) in (
          all_accepted tables all ok,
          subst (λ (p : List Accepted). Stands tables p new) (sym committed) is.stands,
          ap log_in committed ∙ log,
          given.short,
        )

-- rows of which there is one at least
pub all_committed : (tables : List DemoTable) (rows : List ScriptRow) (first : FirstRows) (new : Tables) (messages : List Message) → 0 < length rows → InsertsRows tables (begun tables) rows first (Ok tt)
    → IsAccepted tables (acts_after tables (begun tables) (row_calls rows)) (Commit []) new → IsGiven (acts_after tables (begun tables) (row_calls rows)) [] messages → CommitsRows tables rows (Ok (new, Some messages))
all_committed tables [] first new messages some inserts is given = absurd (omega (arith, some))
all_committed tables (row ∷ rows) first new messages some inserts is given = rows_committed tables row rows new messages is given inserts.0

-- no rows
pub none_committed : (tables : List DemoTable) (rows : List ScriptRow) (store : Tables) → rows ≡ [] → Stands tables [] store → CommitsRows tables rows (Ok (store, None))
none_committed tables rows store none stands = subst (λ (rs : List ScriptRow). CommitsRows tables rs (Ok (store, None))) (sym none) (tt, stands, refl, tt)

-- ---- a script

module _ (script : Script) (tables : List DemoTable) (ready : Prepared) (read : AreTablesRead script.tables ready.names.items tables ready.tables.items) where
  abbrev w : Workload
  w = record { script = script; tables = tables }

  acts_are_first : acts_at w 0 ≡ acts_after tables [] (initial_row_calls script.rows)
  acts_are_first = ap (acts_after tables []) (append-nil (initial_row_calls script.rows))

  pub ready_of : ready.steps.items ≡ script.steps → AreAccepted tables [] (initial_row_calls script.rows) → Stands tables (acts_after tables [] (initial_row_calls script.rows)) ready.store → log_in (acts_after tables [] (initial_row_calls script.rows)) ≡ option_to_list ready.rows → IfSome ready.rows IsShortCommit
      → IsReadyOf script ready
  ready_of steps accepted stands logged short = record {
    tables = tables;
    are = read.are;
    accepted = accepted;
    is = record {
      names = read.named;
      tables = read.log_is;
      stands = subst (λ (p : List Accepted). Stands tables p ready.store) (sym acts_are_first) stands;
      steps = steps;
      rows = ap log_in acts_are_first ∙ logged;
      short = short;
    };
  }

-- ---- the bytes

module _ (bytes : List ℕ) (good : HasGoodLines bytes) (s : Script) (is : s ≡ script_of (lines_of bytes)) where
  pub workload_ready : (ready : Prepared) → IsReadyOf s ready → (w : Workload) × IsWorkload bytes w × IsReady w ready
  workload_ready ready of =
      (record { script = s; tables = of.tables }, record { few = good.few; good = good.good; script = is; tables = of.are; rows = of.accepted }, of.is)

  pub workload_refused : (e : DemoError) → IsRefusedBy s e → IsRefused bytes e
  workload_refused e (refused_by.table bad) =
      let moved : HasBadTableIn (script_of (lines_of bytes)).tables e = subst (λ (x : Script). HasBadTableIn x.tables e) is bad in
      refused.table moved.fault (record { lines = good; before = moved.before; table = moved.table; subsequent = moved.subsequent; are = moved.are; good = moved.good; fault = moved.is_fault }) moved.is
  workload_refused e (refused_by.row tables are bad) =
      let zipped : AllZip IsTableOf (script_of (lines_of bytes)).tables tables = subst (λ (x : Script). AllZip IsTableOf x.tables tables) is are in
      refused.row bad.row.line (record {
        lines = good;
        tables = tables;
        are_tables = zipped;
        before = bad.before;
        row = bad.row;
        subsequent = bad.subsequent;
        are = ap (λ (x : Script). x.rows) (sym is) ∙ bad.are;
        accepted = (refl, bad.accepted);
        refused = bad.refused;
        line = refl;
      }) bad.is

-- the lines can't be read, or memory ran out
pub lines_refused : (bytes : List ℕ) (e : ScriptError) (f : DemoError) → ((n : ℕ) → e ≡ script.BadLine n → first_bad (lines_of bytes) ≡ Some n) → (e ≡ script.TooManyLines) ↔ (1000000 < length (lines_of bytes)) → f ≡ script_error e → (f ≡ demo.Memory) ⊎ IsRefused bytes f
lines_refused bytes script.Memory f bad many told = inl told
lines_refused bytes script.TooManyLines f bad many told = inr (refused.lines script.TooManyLines (too_many (many.0 refl) refl) told)
lines_refused bytes (script.BadLine n) f bad many told =
    inr (refused.lines (script.BadLine n) (bad_line n (few (cases_lt 1000000 (length (lines_of bytes)))) (bad n refl) refl) told)
  where
    few : (1000000 < length (lines_of bytes)) ⊎ (length (lines_of bytes) ≤ 1000000) → length (lines_of bytes) ≤ 1000000
    few (inl more) = absurd (not_many (many.1 more))
      where
        not_many : script.BadLine n ≡ script.TooManyLines → ⊥
        not_many same = cc
    few (inr le) = le

-- the lines were read
pub lines_good : (bytes : List ℕ) → ((1000000 < length (lines_of bytes)) → ⊥) → first_bad (lines_of bytes) ≡ None → HasGoodLines bytes
lines_good bytes none good = record { few = few (cases_lt 1000000 (length (lines_of bytes))); good = good }
  where
    few : (1000000 < length (lines_of bytes)) ⊎ (length (lines_of bytes) ≤ 1000000) → length (lines_of bytes) ≤ 1000000
    few (inl more) = absurd (none more)
    few (inr le) = le
