-- A truncate is accepted only where nobody else holds one of its tables or a key of one, and so keeps locks apart.
use Rattle.std.proofs.Common.{◌≡◌, ◌≢◌, ◌∙◌, inl, inr, ℕ, Bool, true, false, Option, Some, None, List, [], ◌∷◌, refl, sym, ap, subst}
use Rattle.std.specs.Prelude.{◌||◌, not, option_map, filter_map, Ok}
use Rattle.std.specs.List.{list_any, cons_option}
use Rattle.dbl_tables_rows.specs.Pgmsg.declared.messages.Message.{Message}
use Rattle.dbl_tables_rows.specs.ModelTable.declared.table.TableName.{TableName}
use Rattle.dbl_tables_rows.specs.ModelTable.declared.row.Key.{Key}
use Rattle.dbl_tables_rows.specs.ModelTable.Tables.{same_name}
use Rattle.dbl_model_table.proofs.Lists.{bool_case, and_left, or_false, or_right}
use Rattle.dbl_tables_rows.specs.ModelHistory.History.{RawChange, name_of}
use Rattle.dbl_tables_rows.specs.ModelHistory.History.RawChange.{Clear}
use Rattle.dbl_tables_rows.specs.SourceLog.declared.logged.LogTable.{LogTable}
use Rattle.dbl_tables_rows.specs.SourceLog.Relations.{first_oid, table_at}
use Rattle.dbl_tables_rows.specs.SourceLog.TextRows.{log_table_named}
use Rattle.dbl_tables_rows.specs.SourceLog.RawChanges.{changes_from}
use Rattle.dbl_source_log.proofs.ThemselvesLemmas.{name_same}
use Rattle.dbl_tables_rows.specs.declared.demo_table.DemoTable.{DemoTable}
use Rattle.dbl_tables_rows.specs.declared.error.StepError.TheVariants as errors
use Rattle.dbl_tables_rows.specs.Acts.{Accepted, is_open, messages_by}
use Rattle.dbl_tables_rows.specs.Acts.Accepted.{Did}
use Rattle.dbl_tables_rows.specs.Seen.{committed_rows, changes_by}
use Rattle.dbl_tables_rows.specs.Locks.{names_key_in, is_of, locks, holds_key, holds_some, table_holder}
use Rattle.dbl_tables_rows.specs.Sending.{log_tables, truncate_message, is_too_long}
use Rattle.dbl_tables_rows.specs.Refusals.{◌>>=◌, refuse_step_if, some_or_refuse, refuse_by}
use Rattle.dbl_tables_rows.specs.Steps.{FoundTable, found, oids_found, truncate_judged}
use Rattle.dbl_tables_laws.specs.Reachable.{IsOrderly}
use Rattle.dbl_tables_laws.proofs.SeenLemmas.{other_text}
use Rattle.dbl_tables_laws.proofs.OpenLemmas.{nobody_holds}
use Rattle.dbl_tables_laws.proofs.OrderLemmas.{order_does}
use Rattle.dbl_tables_laws.proofs.MessageLemmas.{found_there, found_at_oid}
use Rattle.dbl_tables_laws.proofs.JudgedLemmas.{bound, passed, passed_by, was_some, not_not, short_entry}

-- a test that is weaker than one that nothing passes
any_weaker : {X : Type 0} (p q : X → Bool) (xs : List X) → ((x : X) → p x ≡ true → q x ≡ true) → list_any q xs ≡ false → list_any p xs ≡ false
any_weaker p q [] weaker none = refl
any_weaker p q (x ∷ xs) weaker none =
    let both = or_false (q x) (list_any q xs) none in
    by (p x) refl both.0 (any_weaker p q xs weaker both.1)
  where
    by : (b : Bool) → p x ≡ b → q x ≡ false → list_any p xs ≡ false → (b || list_any p xs) ≡ false
    by true is other rest = let contra : true ≡ false = sym (weaker x is) ∙ other in cc
    by false is other rest = rest

-- who holds a key holds something of its table
some_held : (tables : List LogTable) (past : List Accepted) (name : TableName) (key : Key) (t : List ℕ) → holds_some tables past name t ≡ false → holds_key tables past name key t ≡ false
some_held tables past name key t none =
    any_weaker (locks tables name key) (is_of name) (changes_by tables past t) (λ c locked. and_left (is_of name c) (names_key_in (log_table_named tables (name_of c)) key c) locked) none

-- what a truncate locks is of a table that it names
clears_named : (tables : List DemoTable) (other : TableName) (key : Key) (names : List TableName) (oids : List ℕ) → oids_found tables names ≡ Ok oids
    → list_any (locks (log_tables tables) other key) (filter_map (λ (oid : ℕ). option_map (λ (t : LogTable). Clear t.raw.name) (table_at (log_tables tables) oid)) oids) ≡ true → list_any (λ (n : TableName). same_name n other) names ≡ true
clears_named tables other key [] oids is locked =
    let none : [] ≡ oids = cc in
    let contra : false ≡ true = subst (λ (l : List ℕ). list_any (locks (log_tables tables) other key) (filter_map (λ (oid : ℕ). option_map (λ (t : LogTable). Clear t.raw.name) (table_at (log_tables tables) oid)) l) ≡ true) (sym none) locked in
    cc
clears_named tables other key (name ∷ names) oids is locked =
    let a = bound (some_or_refuse (found tables name) errors.UnknownTable) (λ at. oids_found tables names >>= λ rest. Ok (at.oid ∷ rest)) oids is in
    let at : FoundTable = a.item in
    let b = bound (oids_found tables names) (λ rest. Ok (at.oid ∷ rest)) oids a.rest in
    let all : at.oid ∷ b.item ≡ oids = (let told = b.rest in cc) in
    let there : found tables name ≡ Some at = was_some (found tables name) errors.UnknownTable at a.first in
    let clear : ℕ → Option RawChange = λ (oid : ℕ). option_map (λ (t : LogTable). Clear t.raw.name) (table_at (log_tables tables) oid) in
    let here : list_any (locks (log_tables tables) other key) (cons_option (clear at.oid) (filter_map clear b.item)) ≡ true =
    subst (λ (l : List ℕ). list_any (locks (log_tables tables) other key) (filter_map clear l) ≡ true) (sym all) locked in
    let split : (locks (log_tables tables) other key (Clear at.table.info.name) || list_any (locks (log_tables tables) other key) (filter_map clear b.item)) ≡ true =
    subst (λ (o : Option LogTable). list_any (locks (log_tables tables) other key) (cons_option (option_map (λ (t : LogTable). Clear t.raw.name) o) (filter_map clear b.item)) ≡ true) (found_at_oid tables name at there) here in
    let same : at.table.info.name ≡ name = name_same at.table.info.name name (found_there first_oid tables name at there).named in
    elim (bool_case (locks (log_tables tables) other key (Clear at.table.info.name))) [
      | inl mine ↦ (
          let of_it : same_name at.table.info.name other ≡ true = and_left (same_name at.table.info.name other) (names_key_in (log_table_named (log_tables tables) at.table.info.name) key (Clear at.table.info.name)) mine in
          ap (λ (x : Bool). x || list_any (λ (n : TableName). same_name n other) names) (ap (λ (n : TableName). same_name n other) (sym same) ∙ of_it))
      | inr later ↦ (
          let rest : list_any (locks (log_tables tables) other key) (filter_map clear b.item) ≡ true = sym (ap (λ (x : Bool). x || list_any (locks (log_tables tables) other key) (filter_map clear b.item)) later) ∙ split in
          ap (λ (x : Bool). same_name name other || x) (clears_named tables other key names b.item b.first rest) ∙ or_right (same_name name other))
    ]

-- of a table that is among some, nobody holds anything who holds nothing of them
none_of_them : (tables : List LogTable) (past : List Accepted) (t : List ℕ) (other : TableName) (names : List TableName) → list_any (λ (n : TableName). same_name n other) names ≡ true → list_any (λ (n : TableName). holds_some tables past n t) names ≡ false → holds_some tables past other t ≡ false
none_of_them tables past t other [] among none = cc
none_of_them tables past t other (n ∷ names) among none =
    let both = or_false (holds_some tables past n t) (list_any (λ (x : TableName). holds_some tables past x t) names) none in
    by (same_name n other) refl among both.0 (λ told. none_of_them tables past t other names told both.1)
  where
    by : (b : Bool) → same_name n other ≡ b → (b || list_any (λ (x : TableName). same_name x other) names) ≡ true → holds_some tables past n t ≡ false → (list_any (λ (x : TableName). same_name x other) names ≡ true → holds_some tables past other t ≡ false) → holds_some tables past other t ≡ false
    by true same told here later = ap (λ (x : TableName). holds_some tables past x t) (sym (name_same n other same)) ∙ here
    by false apart told here later = later told

pub order_truncates : (tables : List DemoTable) (past : List Accepted) (session : List ℕ) (names : List TableName) (act : Accepted) → IsOrderly tables past → truncate_judged tables past session names ≡ Ok act → IsOrderly tables (act ∷ past)
order_truncates tables past session names act orderly is =
    let one = passed (not (is_open session past)) errors.NotOpen (oids_found tables names >>= λ oids. (refuse_step_if (is_too_long (messages_by session past) (truncate_message oids)) errors.BadRow >>= λ v. (refuse_by (table_holder (log_tables tables) past session names) >>= λ w. Ok (Did session (truncate_message oids))))) act is in
    let b = bound (oids_found tables names) (λ oids. refuse_step_if (is_too_long (messages_by session past) (truncate_message oids)) errors.BadRow >>= λ v. (refuse_by (table_holder (log_tables tables) past session names) >>= λ w. Ok (Did session (truncate_message oids)))) act one.1 in
    let m : Message = truncate_message b.item in
    let two = passed (is_too_long (messages_by session past) m) errors.BadRow (refuse_by (table_holder (log_tables tables) past session names) >>= λ w. Ok (Did session m)) act b.rest in
    let three = passed_by (table_holder (log_tables tables) past session names) (Ok (Did session m)) act two.1 in
    let did : Did session m ≡ act = (let told = three.1 in cc) in
    subst (λ (a : Accepted). IsOrderly tables (a ∷ past)) did
    (order_does tables past orderly session m (not_not (is_open session past) one.0) (short_entry (messages_by session past) m two.0) (λ other key t apart locked.
    some_held (log_tables tables) past other key t (free other t apart (clears_named tables other key names b.item b.first locked) three.0)))
  where
    free : (other : TableName) (t : List ℕ) → t ≢ session → list_any (λ (n : TableName). same_name n other) names ≡ true → table_holder (log_tables tables) past session names ≡ None → holds_some (log_tables tables) past other t ≡ false
    free other t apart among none = elim (bool_case (is_open t past)) [
      | inl opened ↦ none_of_them (log_tables tables) past t other names among (nobody_holds (λ (o : List ℕ). list_any (λ (n : TableName). holds_some (log_tables tables) past n o) names) session t past none opened (other_text t session apart))
      | inr closed ↦ ap (λ (ms : List Message). list_any (is_of other) (changes_from (log_tables tables) (committed_rows (log_tables tables) past) ms)) (orderly.closed t closed)
    ]
