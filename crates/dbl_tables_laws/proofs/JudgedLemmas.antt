-- What it takes that a step is accepted, and that locks stay apart after it.
use Rattle.std.proofs.Common.{◌≡◌, ◌≢◌, ◌∙◌, ◌≤◌, inl, inr, ℕ, Bool, true, false, Option, Some, None, List, [], ◌∷◌, ◌++◌, length, refl, sym, ap, subst, arith}
use Rattle.std.specs.Prelude.{◌||◌, ◌-◌, not, nat_lt, is_some, Result, Ok, Err}
use Rattle.std.specs.List.{list_any}
use Rattle.std.proofs.lemmas.Bool.Decides.{nat_tests}
use Rattle.dbl_tables_rows.specs.Pgmsg.declared.messages.Message.{Message}
use Rattle.dbl_tables_rows.specs.Pgmsg.Grammar.{spelling, message_limit}
use Rattle.dbl_tables_rows.specs.ModelTable.declared.named_cell.NamedCell.{NamedCell}
use Rattle.dbl_tables_rows.specs.ModelTable.declared.table.TableName.{TableName}
use Rattle.dbl_tables_rows.specs.ModelTable.declared.row.Key.{Key}
use Rattle.dbl_tables_rows.specs.ModelTable.Keys.{same_key}
use Rattle.dbl_model_table.proofs.Lists.{bool_case, and_left, and_right, or_false, or_none}
use Rattle.dbl_model_table.proofs.KeyLemmas.{same_key-is}
use Rattle.dbl_tables_rows.specs.ModelHistory.History.{RawChange, name_of}
use Rattle.dbl_tables_rows.specs.ModelHistory.History.RawChange.{Insert}
use Rattle.dbl_tables_rows.specs.SourceLog.declared.logged.LogTable.{LogTable}
use Rattle.dbl_tables_rows.specs.SourceLog.Relations.{first_oid}
use Rattle.dbl_tables_rows.specs.SourceLog.Texts.{Texts, key_in}
use Rattle.dbl_tables_rows.specs.SourceLog.TextRows.{log_table_named}
use Rattle.dbl_tables_rows.specs.SourceLog.RawChanges.{raw_changes}
use Rattle.dbl_source_log.proofs.ThemselvesLemmas.{name_same}
use Rattle.dbl_tables_rows.specs.declared.demo_table.DemoTable.{DemoTable}
use Rattle.dbl_tables_rows.specs.declared.error.StepError.{StepError}
use Rattle.dbl_tables_rows.specs.declared.error.StepError.TheVariants as errors
use Rattle.dbl_tables_rows.specs.Acts.{Accepted, is_open, messages_by}
use Rattle.dbl_tables_rows.specs.Acts.Accepted.{Did}
use Rattle.dbl_tables_rows.specs.Seen.{seen_rows}
use Rattle.dbl_tables_rows.specs.Locks.{names_key, names_key_in, is_of, locks, holds_key}
use Rattle.dbl_tables_rows.specs.Cells.{row_given, is_readable_row}
use Rattle.dbl_tables_rows.specs.Sending.{raw_of, log_table, log_tables, entry_size, entry_limit, column_limit, insert_message, is_too_long, is_too_large}
use Rattle.dbl_tables_rows.specs.Refusals.{◌>>=◌, refuse_step_if, some_or_refuse, refuse_by}
use Rattle.dbl_tables_rows.specs.Steps.{FoundTable, found, seen, in_the_way, table_judged, insert_in, insert_judged}
use Rattle.dbl_tables_laws.specs.Reachable.{AreTables, IsOrderly}
use Rattle.dbl_tables_laws.proofs.SeenLemmas.{names_distinct, named_there, other_text}
use Rattle.dbl_tables_laws.proofs.OpenLemmas.{nobody_holds}
use Rattle.dbl_tables_laws.proofs.OrderLemmas.{none_held, order_does}
use Rattle.dbl_tables_laws.proofs.MessageLemmas.{found_there, found_at_oid, insert_change}

-- ---- chains

-- what stands before in a chain
pub record Bound {A B : Type 0} (r : Result A StepError) (f : A → Result B StepError) (y : B) : Type 0 where
  pub item : A
  pub first : r ≡ Ok item
  pub rest : f item ≡ Ok y

pub bound : {A B : Type 0} (r : Result A StepError) (f : A → Result B StepError) (y : B) → (r >>= f) ≡ Ok y → Bound r f y
bound (Ok x) f y is = record { item = x; first = refl; rest = is }
bound (Err e) f y is = cc

-- a test that doesn't refuse
pub passed : {B : Type 0} (b : Bool) (e : StepError) (rest : Result B StepError) (y : B) → (refuse_step_if b e >>= λ u. rest) ≡ Ok y → (b ≡ false) × (rest ≡ Ok y)
passed true e rest y is = cc
passed false e rest y is = (refl, is)

pub passed_by : {B : Type 0} (o : Option (List ℕ)) (rest : Result B StepError) (y : B) → (refuse_by o >>= λ u. rest) ≡ Ok y → (o ≡ None) × (rest ≡ Ok y)
passed_by (Some by) rest y is = cc
passed_by None rest y is = (refl, is)

pub was_some : {A : Type 0} (o : Option A) (e : StepError) (x : A) → some_or_refuse o e ≡ Ok x → o ≡ Some x
was_some (Some y) e x is = let same : y ≡ x = cc in cc
was_some None e x is = cc

pub not_not : (b : Bool) → not b ≡ false → b ≡ true
not_not true is = refl
not_not false is = cc

-- an open session names a table that is there
pub record IsNamed (tables : List DemoTable) (past : List Accepted) (session : List ℕ) (name : TableName) (at : FoundTable) : Type 0 where
  pub begun : is_open session past ≡ true
  pub there : found tables name ≡ Some at

pub table_named_so : (tables : List DemoTable) (past : List Accepted) (session : List ℕ) (name : TableName) (at : FoundTable) → table_judged tables past session name ≡ Ok at → IsNamed tables past session name at
table_named_so tables past session name at is =
    let opened = passed (not (is_open session past)) errors.NotOpen (some_or_refuse (found tables name) errors.UnknownTable) at is in
    record { begun = not_not (is_open session past) opened.0; there = was_some (found tables name) errors.UnknownTable at opened.1 }

-- ---- sizes

pub short_entry : (messages : List Message) (m : Message) → is_too_long messages m ≡ false → entry_size (messages ++ m ∷ []) ≤ entry_limit
short_entry messages m short =
    let late : nat_lt entry_limit (entry_size (messages ++ m ∷ [])) ≡ false = (or_false (nat_lt message_limit (length (spelling m))) (nat_lt entry_limit (entry_size (messages ++ m ∷ []))) short).1 in
    grind (arith, nat_tests)

-- ---- keys of one table

module _ (tables : List DemoTable) (past : List Accepted) (session : List ℕ) (name : TableName) (at : FoundTable) (can : AreTables tables) (orderly : IsOrderly tables past) (found_it : found tables name ≡ Some at) where
  -- the table of its name is the one that was found
  pub named_at : log_table_named (log_tables tables) at.table.info.name ≡ Some (log_table at.table)
  named_at =
      let there = found_there first_oid tables name at found_it in
      named_there (log_tables tables) (at.oid - first_oid) (log_table at.table) (names_distinct tables past can orderly) there.there

  -- a lock of a change of this table is one of a key that it names
  pub locked_here : (c : RawChange) (other : TableName) (key : Key) → name_of c ≡ at.table.info.name → locks (log_tables tables) other key c ≡ true → (at.table.info.name ≡ other) × (names_key (raw_of at.table) key c ≡ true)
  locked_here c other key own locked =
      let of_it : is_of other c ≡ true = and_left (is_of other c) (names_key_in (log_table_named (log_tables tables) (name_of c)) key c) locked in
      let names_it : names_key_in (log_table_named (log_tables tables) (name_of c)) key c ≡ true = and_right (is_of other c) (names_key_in (log_table_named (log_tables tables) (name_of c)) key c) locked in
      let same : log_table_named (log_tables tables) (name_of c) ≡ Some (log_table at.table) = ap (log_table_named (log_tables tables)) own ∙ named_at in
      (sym own ∙ name_same (name_of c) other of_it, sym (ap (λ (o : Option LogTable). names_key_in o key c) same) ∙ names_it)

  -- nobody else holds a key where nobody is found in the way
  pub nobody_else : (keys : List Key) (key : Key) (t : List ℕ) → in_the_way tables past session at keys ≡ None → list_any (λ (k : Key). same_key k key) keys ≡ true → t ≢ session → holds_key (log_tables tables) past at.table.info.name key t ≡ false
  nobody_else keys key t none among apart = elim (bool_case (is_open t past)) [
    | inl opened ↦ one keys among (nobody_holds (λ (o : List ℕ). list_any (λ (k : Key). holds_key (log_tables tables) past at.table.info.name k o) keys) session t past none opened (other_text t session apart))
    | inr closed ↦ none_held (log_tables tables) past at.table.info.name key t (orderly.closed t closed)
  ]
    where
      one : (ks : List Key) → list_any (λ (k : Key). same_key k key) ks ≡ true → list_any (λ (k : Key). holds_key (log_tables tables) past at.table.info.name k t) ks ≡ false → holds_key (log_tables tables) past at.table.info.name key t ≡ false
      one [] among free = cc
      one (k ∷ ks) among free =
          let both = or_false (holds_key (log_tables tables) past at.table.info.name k t) (list_any (λ (x : Key). holds_key (log_tables tables) past at.table.info.name x t) ks) free in
          by (same_key k key) refl among both.0 (λ h. one ks h both.1)
        where
          by : (b : Bool) → same_key k key ≡ b → (b || list_any (λ (x : Key). same_key x key) ks) ≡ true → holds_key (log_tables tables) past at.table.info.name k t ≡ false → (list_any (λ (x : Key). same_key x key) ks ≡ true → holds_key (log_tables tables) past at.table.info.name key t ≡ false)
              → holds_key (log_tables tables) past at.table.info.name key t ≡ false
          by true same told here later = ap (λ (x : Key). holds_key (log_tables tables) past at.table.info.name x t) (sym (same_key-is k key same)) ∙ here
          by false other told here later = later told

  -- One more change of this table, all of whose keys are among some that nobody else holds, keeps locks apart.
  pub order_change : (m : Message) (c : RawChange) (keys : List Key) → is_open session past ≡ true → is_too_long (messages_by session past) m ≡ false → raw_changes (log_tables tables) (seen_rows (log_tables tables) past session) m ≡ c ∷ [] → name_of c ≡ at.table.info.name
      → ((key : Key) → names_key (raw_of at.table) key c ≡ true → list_any (λ (k : Key). same_key k key) keys ≡ true) → in_the_way tables past session at keys ≡ None → IsOrderly tables (Did session m ∷ past)
  order_change m c keys begun short is own among none =
      order_does tables past orderly session m begun (short_entry (messages_by session past) m short) (λ other key t apart locked.
      let told : (locks (log_tables tables) other key c || false) ≡ true = sym (ap (list_any (locks (log_tables tables) other key)) is) ∙ locked in
      let lock : locks (log_tables tables) other key c ≡ true = sym (or_none (locks (log_tables tables) other key c)) ∙ told in
      let here = locked_here c other key own lock in
      ap (λ (n : TableName). holds_key (log_tables tables) past n key t) (sym here.0) ∙ nobody_else keys key t none (among key here.1) apart)

-- ---- inserts

pub order_inserts : (tables : List DemoTable) (past : List Accepted) (session : List ℕ) (name : TableName) (cells : List NamedCell) (act : Accepted) → AreTables tables → IsOrderly tables past → insert_judged tables past session name cells ≡ Ok act → IsOrderly tables (act ∷ past)
order_inserts tables past session name cells act can orderly is =
    let b = bound (table_judged tables past session name) (λ at. insert_in tables past session at cells (row_given (raw_of at.table) cells)) act is in
    let at : FoundTable = b.item in
    let named = table_named_so tables past session name at b.first in
    let row : Texts = row_given (raw_of at.table) cells in
    let m : Message = insert_message at.oid row in
    let key : Key = key_in (raw_of at.table) row in
    let one = passed (not (is_readable_row (raw_of at.table) cells)) errors.BadRow (refuse_step_if (is_too_large at.table (messages_by session past) m) errors.BadRow >>= λ u. (refuse_by (in_the_way tables past session at (key ∷ [])) >>= λ v. (refuse_step_if (is_some (seen tables past session at key)) errors.RowExists >>= λ w. Ok (Did session m)))) act b.rest in
    let two = passed (is_too_large at.table (messages_by session past) m) errors.BadRow (refuse_by (in_the_way tables past session at (key ∷ [])) >>= λ v. (refuse_step_if (is_some (seen tables past session at key)) errors.RowExists >>= λ w. Ok (Did session m))) act one.1 in
    let three = passed_by (in_the_way tables past session at (key ∷ [])) (refuse_step_if (is_some (seen tables past session at key)) errors.RowExists >>= λ w. Ok (Did session m)) act two.1 in
    let four = passed (is_some (seen tables past session at key)) errors.RowExists (Ok (Did session m)) act three.1 in
    let did : Did session m ≡ act = (let told = four.1 in cc) in
    let short : is_too_long (messages_by session past) m ≡ false = (or_false (nat_lt column_limit (length (raw_of at.table).columns)) (is_too_long (messages_by session past) m) two.0).1 in
    subst (λ (a : Accepted). IsOrderly tables (a ∷ past)) did
    (order_change tables past session name at can orderly named.there m (Insert at.table.info.name (record { cells = row })) (key ∷ []) named.begun short
    (insert_change (log_tables tables) (seen_rows (log_tables tables) past session) at.oid (log_table at.table) row (found_at_oid tables name at named.there)) refl
    (λ other names_it. ap (λ (x : Bool). x || false) names_it) three.0)
