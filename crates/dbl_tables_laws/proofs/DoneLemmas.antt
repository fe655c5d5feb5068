-- What there was where a step was accepted: chains of refusals, none of which stood.
use Rattle.std.proofs.Common.{◌≡◌, ◌∙◌, ◌≤◌, ℕ, true, false, Option, Some, None, List, [], ◌∷◌, length, sym, ap, arith}
use Rattle.std.specs.Prelude.{◌&&◌, not, nat_lt, is_some, option_map, Result, Ok}
use Rattle.std.proofs.lemmas.Bool.Decides.{nat_tests}
use Rattle.dbl_tables_rows.specs.Pgmsg.declared.messages.Message.{Message}
use Rattle.dbl_tables_rows.specs.ModelTable.declared.named_cell.NamedCell.{NamedCell}
use Rattle.dbl_tables_rows.specs.ModelTable.declared.row.Key.{Key}
use Rattle.dbl_tables_rows.specs.ModelTable.declared.table.TableName.{TableName}
use Rattle.dbl_tables_rows.specs.ModelTable.Keys.{same_key}
use Rattle.dbl_model_table.proofs.Lists.{and_right, or_false}
use Rattle.dbl_tables_rows.specs.SourceLog.Texts.{Texts, key_in}
use Rattle.dbl_tables_rows.specs.declared.demo_table.DemoTable.{DemoTable}
use Rattle.dbl_tables_rows.specs.declared.error.StepError.{StepError}
use Rattle.dbl_tables_rows.specs.declared.error.StepError.TheVariants as errors
use Rattle.dbl_tables_rows.specs.Acts.{Accepted, is_open, messages_by}
use Rattle.dbl_tables_rows.specs.Acts.Accepted.{Did}
use Rattle.dbl_tables_rows.specs.Cells.{row_given, key_given, key_set, is_readable_row, is_readable_key, is_readable_set}
use Rattle.dbl_tables_rows.specs.Locks.{table_holder}
use Rattle.dbl_tables_rows.specs.Refusals.{◌>>=◌, refuse_step_if, some_or_refuse, refuse_by}
use Rattle.dbl_tables_rows.specs.Sending.{raw_of, log_tables, column_limit, insert_message, delete_message, truncate_message, is_too_long, is_too_large}
use Rattle.dbl_tables_rows.specs.Steps.{FoundTable, seen, in_the_way, table_judged, insert_in, insert_judged, is_too_large_if, updating, update_in, update_judged, delete_in, delete_judged, oids_found, truncate_judged}
use Rattle.dbl_tables_laws.proofs.JudgedLemmas.{IsNamed, bound, passed, passed_by, was_some, not_not, table_named_so}

-- a message that isn't too large: the table has few columns, and the message isn't too long
narrow : (table : DemoTable) (messages : List Message) (m : Message) → is_too_large table messages m ≡ false → (length (raw_of table).columns ≤ 1600) × (is_too_long messages m ≡ false)
narrow table messages m small =
    let both = or_false (nat_lt column_limit (length (raw_of table).columns)) (is_too_long messages m) small in
    let wide : nat_lt 1600 (length (raw_of table).columns) ≡ false = both.0 in
    let few : length (raw_of table).columns ≤ 1600 = grind (arith, nat_tests) in
    (few, both.1)

-- the same where there is a row
narrow_there : (table : DemoTable) (messages : List Message) (f : Texts → Message) (o : Option Texts) (before : Texts) → o ≡ Some before → is_too_large_if table messages (option_map f o) ≡ false → (length (raw_of table).columns ≤ 1600) × (is_too_long messages (f before) ≡ false)
narrow_there table messages f o before there small = narrow table messages (f before) (sym (ap (λ (x : Option Texts). is_too_large_if table messages (option_map f x)) there) ∙ small)

module _ (tables : List DemoTable) (past : List Accepted) (session : List ℕ) where
  pub record IsInserted (name : TableName) (cells : List NamedCell) (act : Accepted) : Type 0 where
    pub at : FoundTable
    pub named : IsNamed tables past session name at
    pub readable : is_readable_row (raw_of at.table) cells ≡ true
    pub absent : is_some (seen tables past session at (key_in (raw_of at.table) (row_given (raw_of at.table) cells))) ≡ false
    pub few : length (raw_of at.table).columns ≤ 1600
    pub short : is_too_long (messages_by session past) (insert_message at.oid (row_given (raw_of at.table) cells)) ≡ false
    pub did : Did session (insert_message at.oid (row_given (raw_of at.table) cells)) ≡ act

  pub insert_done : (name : TableName) (cells : List NamedCell) (act : Accepted) → insert_judged tables past session name cells ≡ Ok act → IsInserted name cells act
  insert_done name cells act is =
      let b = bound (table_judged tables past session name) (λ at. insert_in tables past session at cells (row_given (raw_of at.table) cells)) act is in
      let at : FoundTable = b.item in
      let row : Texts = row_given (raw_of at.table) cells in
      let m : Message = insert_message at.oid row in
      let key : Key = key_in (raw_of at.table) row in
      let one = passed (not (is_readable_row (raw_of at.table) cells)) errors.BadRow (refuse_step_if (is_too_large at.table (messages_by session past) m) errors.BadRow >>= λ u. (refuse_by (in_the_way tables past session at (key ∷ [])) >>= λ v. (refuse_step_if (is_some (seen tables past session at key)) errors.RowExists >>= λ w. Ok (Did session m)))) act b.rest in
      let two = passed (is_too_large at.table (messages_by session past) m) errors.BadRow (refuse_by (in_the_way tables past session at (key ∷ [])) >>= λ v. (refuse_step_if (is_some (seen tables past session at key)) errors.RowExists >>= λ w. Ok (Did session m))) act one.1 in
      let three = passed_by (in_the_way tables past session at (key ∷ [])) (refuse_step_if (is_some (seen tables past session at key)) errors.RowExists >>= λ w. Ok (Did session m)) act two.1 in
      let four = passed (is_some (seen tables past session at key)) errors.RowExists (Ok (Did session m)) act three.1 in
      record {
        at = at;
        named = table_named_so tables past session name at b.first;
        readable = not_not (is_readable_row (raw_of at.table) cells) one.0;
        absent = four.0;
        few = (narrow at.table (messages_by session past) m two.0).0;
        short = (narrow at.table (messages_by session past) m two.0).1;
        did = (let same = four.1 in cc);
      }

  pub record IsDeleted (name : TableName) (key : List NamedCell) (act : Accepted) : Type 0 where
    pub at : FoundTable
    pub named : IsNamed tables past session name at
    pub before : Texts
    pub there : seen tables past session at (key_given (raw_of at.table) key) ≡ Some before
    pub free : in_the_way tables past session at (key_given (raw_of at.table) key ∷ []) ≡ None
    pub few : length (raw_of at.table).columns ≤ 1600
    pub short : is_too_long (messages_by session past) (delete_message at.oid at.table before) ≡ false
    pub did : Did session (delete_message at.oid at.table before) ≡ act

  pub delete_done : (name : TableName) (key : List NamedCell) (act : Accepted) → delete_judged tables past session name key ≡ Ok act → IsDeleted name key act
  delete_done name key act is =
      let b = bound (table_judged tables past session name) (λ at. delete_in tables past session at key (key_given (raw_of at.table) key)) act is in
      let at : FoundTable = b.item in
      let from : Key = key_given (raw_of at.table) key in
      let last : Texts → Result Accepted StepError = λ before. Ok (Did session (delete_message at.oid at.table before)) in
      let locked : Result Accepted StepError = some_or_refuse (seen tables past session at from) errors.NoRow >>= last in
      let large : Result Accepted StepError = refuse_by (in_the_way tables past session at (from ∷ [])) >>= λ u. locked in
      let one = passed (not (is_readable_key (raw_of at.table) key)) errors.BadRow (refuse_step_if (is_too_large_if at.table (messages_by session past) (option_map (delete_message at.oid at.table) (seen tables past session at from))) errors.BadRow >>= λ u. large) act b.rest in
      let two = passed (is_too_large_if at.table (messages_by session past) (option_map (delete_message at.oid at.table) (seen tables past session at from))) errors.BadRow large act one.1 in
      let three = passed_by (in_the_way tables past session at (from ∷ [])) locked act two.1 in
      let four = bound (some_or_refuse (seen tables past session at from) errors.NoRow) last act three.1 in
      let there : seen tables past session at from ≡ Some four.item = was_some (seen tables past session at from) errors.NoRow four.item four.first in
      record {
        at = at;
        named = table_named_so tables past session name at b.first;
        before = four.item;
        there = there;
        free = three.0;
        few = (narrow_there at.table (messages_by session past) (delete_message at.oid at.table) (seen tables past session at from) four.item there two.0).0;
        short = (narrow_there at.table (messages_by session past) (delete_message at.oid at.table) (seen tables past session at from) four.item there two.0).1;
        did = (let same = four.rest in cc);
      }

  pub record IsUpdated (name : TableName) (key set : List NamedCell) (act : Accepted) : Type 0 where
    pub at : FoundTable
    pub named : IsNamed tables past session name at
    pub readable : is_readable_set (raw_of at.table) set ≡ true
    pub before : Texts
    pub there : seen tables past session at (key_given (raw_of at.table) key) ≡ Some before
    pub free : in_the_way tables past session at (key_given (raw_of at.table) key ∷ key_set (raw_of at.table) key set ∷ []) ≡ None
    pub absent : (not (same_key (key_given (raw_of at.table) key) (key_set (raw_of at.table) key set)) && is_some (seen tables past session at (key_set (raw_of at.table) key set))) ≡ false
    pub few : length (raw_of at.table).columns ≤ 1600
    pub short : is_too_long (messages_by session past) (updating at set before) ≡ false
    pub did : Did session (updating at set before) ≡ act

  pub update_done : (name : TableName) (key set : List NamedCell) (act : Accepted) → update_judged tables past session name key set ≡ Ok act → IsUpdated name key set act
  update_done name key set act is =
      let b = bound (table_judged tables past session name) (λ at. update_in tables past session at key set (key_given (raw_of at.table) key) (key_set (raw_of at.table) key set)) act is in
      let at : FoundTable = b.item in
      let from : Key = key_given (raw_of at.table) key in
      let to : Key = key_set (raw_of at.table) key set in
      let last : Texts → Result Accepted StepError = λ before. (refuse_step_if (not (same_key from to) && is_some (seen tables past session at to)) errors.RowExists >>= λ u. Ok (Did session (updating at set before))) in
      let locked : Result Accepted StepError = some_or_refuse (seen tables past session at from) errors.NoRow >>= last in
      let large : Result Accepted StepError = refuse_by (in_the_way tables past session at (from ∷ to ∷ [])) >>= λ u. locked in
      let one = passed (not (is_readable_key (raw_of at.table) key && is_readable_set (raw_of at.table) set)) errors.BadRow (refuse_step_if (is_too_large_if at.table (messages_by session past) (option_map (updating at set) (seen tables past session at from))) errors.BadRow >>= λ u. large) act b.rest in
      let two = passed (is_too_large_if at.table (messages_by session past) (option_map (updating at set) (seen tables past session at from))) errors.BadRow large act one.1 in
      let three = passed_by (in_the_way tables past session at (from ∷ to ∷ [])) locked act two.1 in
      let four = bound (some_or_refuse (seen tables past session at from) errors.NoRow) last act three.1 in
      let there : seen tables past session at from ≡ Some four.item = was_some (seen tables past session at from) errors.NoRow four.item four.first in
      let five = passed (not (same_key from to) && is_some (seen tables past session at to)) errors.RowExists (Ok (Did session (updating at set four.item))) act four.rest in
      let both : (is_readable_key (raw_of at.table) key && is_readable_set (raw_of at.table) set) ≡ true = not_not (is_readable_key (raw_of at.table) key && is_readable_set (raw_of at.table) set) one.0 in
      record {
        at = at;
        named = table_named_so tables past session name at b.first;
        readable = and_right (is_readable_key (raw_of at.table) key) (is_readable_set (raw_of at.table) set) both;
        before = four.item;
        there = there;
        free = three.0;
        absent = five.0;
        few = (narrow_there at.table (messages_by session past) (updating at set) (seen tables past session at from) four.item there two.0).0;
        short = (narrow_there at.table (messages_by session past) (updating at set) (seen tables past session at from) four.item there two.0).1;
        did = (let same = five.1 in cc);
      }

  pub record IsTruncated (names : List TableName) (act : Accepted) : Type 0 where
    pub oids : List ℕ
    pub are : oids_found tables names ≡ Ok oids
    pub short : is_too_long (messages_by session past) (truncate_message oids) ≡ false
    pub did : Did session (truncate_message oids) ≡ act

  pub truncate_done : (names : List TableName) (act : Accepted) → truncate_judged tables past session names ≡ Ok act → IsTruncated names act
  truncate_done names act is =
      let one = passed (not (is_open session past)) errors.NotOpen (oids_found tables names >>= λ oids. (refuse_step_if (is_too_long (messages_by session past) (truncate_message oids)) errors.BadRow >>= λ v. (refuse_by (table_holder (log_tables tables) past session names) >>= λ w. Ok (Did session (truncate_message oids))))) act is in
      let b = bound (oids_found tables names) (λ oids. refuse_step_if (is_too_long (messages_by session past) (truncate_message oids)) errors.BadRow >>= λ v. (refuse_by (table_holder (log_tables tables) past session names) >>= λ w. Ok (Did session (truncate_message oids)))) act one.1 in
      let m : Message = truncate_message b.item in
      let two = passed (is_too_long (messages_by session past) m) errors.BadRow (refuse_by (table_holder (log_tables tables) past session names) >>= λ w. Ok (Did session m)) act b.rest in
      let three = passed_by (table_holder (log_tables tables) past session names) (Ok (Did session m)) act two.1 in
      record { oids = b.item; are = b.first; short = two.0; did = (let same = three.1 in cc) }
