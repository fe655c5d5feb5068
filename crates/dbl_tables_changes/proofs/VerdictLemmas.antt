-- What a change of rows is judged to be, told by what the store has: its first refusal, or its acceptance with what it writes.
use Rattle.std.proofs.Common.{◌≡◌, ◌∙◌, ◌⊎◌, ◌≤◌, inl, inr, ℕ, Bool, true, false, Option, Some, None, List, [], ◌∷◌, ◌++◌, length, refl, sym, ap, subst}
use Rattle.std.specs.Prelude.{◌&&◌, ◌||◌, not, IfSome, is_some, option_map, Result, Ok, Err}
use Rattle.std.specs.List.{AllByRecursion}
use Rattle.std.proofs.lemmas.List.{length-map}
use Rattle.dbl_pgmsg.specs.declared.messages.Message.{Message}
use Rattle.dbl_pgmsg.specs.Grammar.{Fits}
use Rattle.dbl_model_table.specs.declared.named_cell.NamedCell.{NamedCell}
use Rattle.dbl_model_table.specs.declared.row.Key.{Key}
use Rattle.dbl_model_table.specs.declared.table.RawRow.{RawRow}
use Rattle.dbl_model_table.specs.Infos.{raw_column}
use Rattle.dbl_model_table.specs.Keys.{same_key}
use Rattle.dbl_tables_rows.specs.ModelHistory.History.RawChange.{Insert, Update, Delete}
use Rattle.dbl_tables_rows.specs.SourceLog.RawChanges.{raw_changes}
use Rattle.dbl_tables_rows.specs.SourceLog.TextRows.{TextRows, updated_texts}
use Rattle.dbl_tables_rows.specs.SourceLog.Texts.{Texts, raw_key, key_from, key_in, old_row_in, all_texts}
use Rattle.dbl_tables_rows.specs.declared.demo_table.DemoTable.{DemoTable}
use Rattle.dbl_tables_rows.specs.declared.error.StepError.{StepError}
use Rattle.dbl_tables_rows.specs.declared.error.StepError.TheVariants as errors
use Rattle.dbl_tables_rows.specs.Acts.{Accepted, messages_by}
use Rattle.dbl_tables_rows.specs.Acts.Accepted.{Did}
use Rattle.dbl_tables_rows.specs.Cells.{row_given, row_set, key_given, key_set, is_readable_row, is_readable_key, is_readable_set}
use Rattle.dbl_tables_rows.specs.Refusals.{◌>>=◌, refuse_step_if, some_or_refuse, refuse_by}
use Rattle.dbl_tables_rows.specs.Seen.{seen_rows}
use Rattle.dbl_tables_rows.specs.Sending.{raw_of, log_table, log_tables, old_tuple, entry_size, entry_limit, insert_message, delete_message, moves, is_too_large}
use Rattle.dbl_tables_rows.specs.Steps.{FoundTable, seen, in_the_way, insert_in, is_too_large_if, updating, update_in, delete_in}
use Rattle.dbl_tables_laws.proofs.GivenLemmas.{wide_given, wide_row_set, key_in_set}
use Rattle.dbl_tables_laws.proofs.KeyedLemmas.{HasKey}
use Rattle.dbl_tables_laws.proofs.MessageLemmas.{found_at_oid, insert_change, delete_change}
use Rattle.dbl_tables_laws.proofs.StandingLemmas.{has_key}
use Rattle.dbl_tables_laws.proofs.UpdateLemmas.{IsUpdateOf, update_change}
use Rattle.dbl_tables_rows.specs.declared.rows.Rows.{Rows}
use Rattle.dbl_tables_rows.specs.Holders.{other_than, lesser_if}
use Rattle.dbl_tables_rows.specs.Views.{owner_at, seen_at}
use Rattle.dbl_tables_changes.specs.declared.planned.Planned.{Planned}
use Rattle.dbl_tables_changes.specs.declared.planned.Write.{Write}
use Rattle.dbl_tables_changes.specs.declared.sessions.Session.{Session}
use Rattle.dbl_tables_changes.specs.Written.{are_apart}
use Rattle.dbl_tables_changes.specs.Planned.{is_written, row_written, IsWrite, IsUpdateWritten, IsLate, IsUpdateLate, IsPlanned, IsAskedOfTable}
use Rattle.dbl_tables_changes.proofs.HolderLemmas.{at_one_key, at_two_keys}
use Rattle.dbl_tables_changes.proofs.PlanLemmas.{planned_one, insert_keys, insert_rows, delete_keys, delete_rows, update_keys, update_rows}

-- ---- steps of a chain

pub refused : {B : Type 0} (b : Bool) (e : StepError) (rest : Result B StepError) → b ≡ true → (refuse_step_if b e >>= λ u. rest) ≡ Err e
refused b e rest is = ap (λ (x : Bool). refuse_step_if x e >>= λ u. rest) is

pub let_on : {B : Type 0} (b : Bool) (e : StepError) (rest : Result B StepError) → b ≡ false → (refuse_step_if b e >>= λ u. rest) ≡ rest
let_on b e rest is = ap (λ (x : Bool). refuse_step_if x e >>= λ u. rest) is

pub stopped_by : {B : Type 0} (o : Option (List ℕ)) (by : List ℕ) (rest : Result B StepError) → o ≡ Some by → (refuse_by o >>= λ u. rest) ≡ Err (errors.RowLocked by)
stopped_by o by rest is = ap (λ (x : Option (List ℕ)). refuse_by x >>= λ u. rest) is

pub stopped_by_none : {B : Type 0} (o : Option (List ℕ)) (rest : Result B StepError) → o ≡ None → (refuse_by o >>= λ u. rest) ≡ rest
stopped_by_none o rest is = ap (λ (x : Option (List ℕ)). refuse_by x >>= λ u. rest) is

pub none_there : {A B : Type 0} (o : Option A) (e : StepError) (f : A → Result B StepError) → o ≡ None → (some_or_refuse o e >>= f) ≡ Err e
none_there {A} o e f is = ap (λ (x : Option A). some_or_refuse x e >>= f) is

pub some_there : {A B : Type 0} (o : Option A) (e : StepError) (f : A → Result B StepError) (x : A) → o ≡ Some x → (some_or_refuse o e >>= f) ≡ f x
some_there {A} o e f x is = ap (λ (y : Option A). some_or_refuse y e >>= f) is

columns_count : (table : DemoTable) → length (raw_of table).columns ≡ length table.info.columns
columns_count table = length-map table.info.columns raw_column

-- ---- what is asked

module _ (tables : List DemoTable) (past : List Accepted) (s : List ℕ) (at : FoundTable) (rows : Rows) (session : Session) (asked : IsAskedOfTable tables past s at rows session) where
  abbrev messages : List Message
  messages = messages_by s past

  -- ---- inserts

  module _ (cells : List NamedCell) where
    abbrev row : Texts
    row = row_given (raw_of at.table) cells

    abbrev its_key : Key
    its_key = key_in (raw_of at.table) row

    abbrev its_message : Message
    its_message = insert_message at.oid row

    abbrev last_insert : Result Accepted StepError
    last_insert = refuse_step_if (is_some (seen tables past s at its_key)) errors.RowExists >>= λ u. Ok (Did s its_message)

    abbrev locked_insert : Result Accepted StepError
    locked_insert = refuse_by (in_the_way tables past s at (its_key ∷ [])) >>= λ u. last_insert

    abbrev large_insert : Result Accepted StepError
    large_insert = refuse_step_if (is_too_large at.table messages its_message) errors.BadRow >>= λ u. locked_insert

    abbrev verdict : Result Accepted StepError
    verdict = insert_in tables past s at cells row

    pub insert_unreadable : is_readable_row (raw_of at.table) cells ≡ false → verdict ≡ Err errors.BadRow
    insert_unreadable bad = refused (not (is_readable_row (raw_of at.table) cells)) errors.BadRow large_insert (ap not bad)

    module _ (readable : is_readable_row (raw_of at.table) cells ≡ true) where
      to_large : verdict ≡ large_insert
      to_large = let_on (not (is_readable_row (raw_of at.table) cells)) errors.BadRow large_insert (ap not readable)

      pub insert_too_large : is_too_large at.table messages its_message ≡ true → verdict ≡ Err errors.BadRow
      insert_too_large large = to_large ∙ refused (is_too_large at.table messages its_message) errors.BadRow locked_insert large

      module _ (small : is_too_large at.table messages its_message ≡ false) where
        to_locked : verdict ≡ locked_insert
        to_locked = to_large ∙ let_on (is_too_large at.table messages its_message) errors.BadRow locked_insert small

        way : in_the_way tables past s at (its_key ∷ []) ≡ other_than s (owner_at rows its_key)
        way = at_one_key tables past s asked.standing.orderly at rows asked.are_rows its_key

        pub insert_locked : (by : List ℕ) → other_than s (owner_at rows its_key) ≡ Some by → verdict ≡ Err (errors.RowLocked by)
        insert_locked by held = to_locked ∙ stopped_by (in_the_way tables past s at (its_key ∷ [])) by last_insert (way ∙ held)

        module _ (free : other_than s (owner_at rows its_key) ≡ None) where
          to_last : verdict ≡ last_insert
          to_last = to_locked ∙ stopped_by_none (in_the_way tables past s at (its_key ∷ [])) last_insert (way ∙ free)

          pub insert_exists : is_some (seen_at rows s its_key) ≡ true → verdict ≡ Err errors.RowExists
          insert_exists there = to_last ∙ refused (is_some (seen tables past s at its_key)) errors.RowExists (Ok (Did s its_message)) (ap is_some (sym (asked.are_rows.sees s its_key)) ∙ there)

          pub insert_accepted : is_some (seen_at rows s its_key) ≡ false → verdict ≡ Ok (Did s its_message)
          insert_accepted none = to_last ∙ let_on (is_some (seen tables past s at its_key)) errors.RowExists (Ok (Did s its_message)) (ap is_some (sym (asked.are_rows.sees s its_key)) ∙ none)

          pub insert_planned : (planned : Planned) (r : RawRow) (w : Write) → is_some (seen_at rows s its_key) ≡ false → r.cells ≡ row → planned.message ≡ its_message → planned.writes.items ≡ w ∷ [] → IsWrite s its_key (Some r) w
              → planned.size ≡ entry_size (messages ++ its_message ∷ []) → planned.size ≤ entry_limit → Fits its_message → IsPlanned tables past s at verdict planned
          insert_planned planned r w none cells_are message_is writes_are is size short fits =
              let own : IsWrite s its_key (Some (record { cells = row })) w = subst (λ (t : Texts). IsWrite s its_key (Some (record { cells = t })) w) cells_are is in
              planned_one tables past s at asked.can asked.standing asked.there (Insert at.table.info.name (record { cells = row })) refl verdict planned
              (ap (raw_changes (log_tables tables) (seen_rows (log_tables tables) past s)) message_is
              ∙ insert_change (log_tables tables) (seen_rows (log_tables tables) past s) at.oid (log_table at.table) row (found_at_oid tables at.table.info.name at asked.there))
              (insert_accepted none ∙ ap (λ (m : Message). Ok (Did s m)) (sym message_is))
              (subst Fits (sym message_is) fits) (size ∙ ap (λ (m : Message). entry_size (messages ++ m ∷ [])) (sym message_is)) short
              (subst (AllByRecursion (λ (x : Write). x.held.by ≡ s)) (sym writes_are) (own.by, tt))
              (subst (λ (ws : List Write). are_apart ws ≡ true) (sym writes_are) refl)
              (subst (AllByRecursion (λ (x : Write). IfSome x.held.row (λ y. length y.cells ≡ length at.table.info.columns))) (sym writes_are)
              (subst (λ (o : Option RawRow). IfSome o (λ y. length y.cells ≡ length at.table.info.columns)) (sym own.row_is) (wide_given at.table.info cells ∙ columns_count at.table), tt))
              (λ k. insert_keys (raw_of at.table) s at.table.info.name (record { cells = row }) w own k ∙ ap (λ (ws : List Write). is_written ws k) (sym writes_are))
              (λ k. insert_rows (raw_of at.table) s at.table.info.name (record { cells = row }) w (seen_rows (log_tables tables) past s at.table.info.name) own k ∙ ap (λ (ws : List Write). row_written ws k (seen tables past s at k)) (sym writes_are))

  -- ---- deletes

  module _ (key : List NamedCell) where
    abbrev old_key : Key
    old_key = key_given (raw_of at.table) key

    abbrev last_delete : Texts → Result Accepted StepError
    last_delete before = Ok (Did s (delete_message at.oid at.table before))

    abbrev there_delete : Result Accepted StepError
    there_delete = some_or_refuse (seen tables past s at old_key) errors.NoRow >>= last_delete

    abbrev locked_delete : Result Accepted StepError
    locked_delete = refuse_by (in_the_way tables past s at (old_key ∷ [])) >>= λ u. there_delete

    abbrev is_large : Bool
    is_large = is_too_large_if at.table messages (option_map (delete_message at.oid at.table) (seen tables past s at old_key))

    abbrev large_delete : Result Accepted StepError
    large_delete = refuse_step_if is_large errors.BadRow >>= λ u. locked_delete

    abbrev delete_verdict : Result Accepted StepError
    delete_verdict = delete_in tables past s at key old_key

    pub delete_unreadable : is_readable_key (raw_of at.table) key ≡ false → delete_verdict ≡ Err errors.BadRow
    delete_unreadable bad = refused (not (is_readable_key (raw_of at.table) key)) errors.BadRow large_delete (ap not bad)

    module _ (readable : is_readable_key (raw_of at.table) key ≡ true) where
      to_large_delete : delete_verdict ≡ large_delete
      to_large_delete = let_on (not (is_readable_key (raw_of at.table) key)) errors.BadRow large_delete (ap not readable)

      way_of_delete : in_the_way tables past s at (old_key ∷ []) ≡ other_than s (owner_at rows old_key)
      way_of_delete = at_one_key tables past s asked.standing.orderly at rows asked.are_rows old_key

      sees : (o : Option Texts) → seen_at rows s old_key ≡ o → seen tables past s at old_key ≡ o
      sees o is = sym (asked.are_rows.sees s old_key) ∙ is

      -- no row: locks come first
      to_locked_none : seen_at rows s old_key ≡ None → delete_verdict ≡ locked_delete
      to_locked_none none = to_large_delete ∙ let_on is_large errors.BadRow locked_delete (ap (λ (o : Option Texts). is_too_large_if at.table messages (option_map (delete_message at.oid at.table) o)) (sees None none))

      pub delete_locked_none : (by : List ℕ) → seen_at rows s old_key ≡ None → other_than s (owner_at rows old_key) ≡ Some by → delete_verdict ≡ Err (errors.RowLocked by)
      delete_locked_none by none held = to_locked_none none ∙ stopped_by (in_the_way tables past s at (old_key ∷ [])) by there_delete (way_of_delete ∙ held)

      pub delete_missing : seen_at rows s old_key ≡ None → other_than s (owner_at rows old_key) ≡ None → delete_verdict ≡ Err errors.NoRow
      delete_missing none free =
          to_locked_none none ∙ (stopped_by_none (in_the_way tables past s at (old_key ∷ [])) there_delete (way_of_delete ∙ free)
          ∙ none_there (seen tables past s at old_key) errors.NoRow last_delete (sees None none))

      -- a row
      module _ (before : Texts) (there : seen_at rows s old_key ≡ Some before) where
        abbrev its_delete : Message
        its_delete = delete_message at.oid at.table before

        large_there : is_large ≡ is_too_large at.table messages its_delete
        large_there = ap (λ (o : Option Texts). is_too_large_if at.table messages (option_map (delete_message at.oid at.table) o)) (sees (Some before) there)

        pub delete_too_large : is_too_large at.table messages its_delete ≡ true → delete_verdict ≡ Err errors.BadRow
        delete_too_large large = to_large_delete ∙ refused is_large errors.BadRow locked_delete (large_there ∙ large)

        module _ (small : is_too_large at.table messages its_delete ≡ false) where
          to_locked_delete : delete_verdict ≡ locked_delete
          to_locked_delete = to_large_delete ∙ let_on is_large errors.BadRow locked_delete (large_there ∙ small)

          pub delete_locked : (by : List ℕ) → other_than s (owner_at rows old_key) ≡ Some by → delete_verdict ≡ Err (errors.RowLocked by)
          delete_locked by held = to_locked_delete ∙ stopped_by (in_the_way tables past s at (old_key ∷ [])) by there_delete (way_of_delete ∙ held)

          pub delete_accepted : other_than s (owner_at rows old_key) ≡ None → delete_verdict ≡ Ok (Did s its_delete)
          delete_accepted free =
              to_locked_delete ∙ (stopped_by_none (in_the_way tables past s at (old_key ∷ [])) there_delete (way_of_delete ∙ free)
              ∙ some_there (seen tables past s at old_key) errors.NoRow last_delete before (sees (Some before) there))

          pub delete_planned : (planned : Planned) (w : Write) → other_than s (owner_at rows old_key) ≡ None → planned.message ≡ its_delete → planned.writes.items ≡ w ∷ [] → IsWrite s old_key None w
              → planned.size ≡ entry_size (messages ++ its_delete ∷ []) → planned.size ≤ entry_limit → Fits its_delete → IsPlanned tables past s at delete_verdict planned
          delete_planned planned w free message_is writes_are is size short fits =
              let has = has_key tables past s at.table.info.name at asked.can asked.standing asked.there old_key before (sees (Some before) there) in
              let comes : key_from (raw_of at.table) (raw_key (raw_of at.table) before) ≡ old_key = has.0 in
              let own : IsWrite s (key_from (raw_of at.table) (raw_key (raw_of at.table) before)) None w = subst (λ (k : Key). IsWrite s k None w) (sym comes) is in
              planned_one tables past s at asked.can asked.standing asked.there (Delete at.table.info.name (raw_key (raw_of at.table) before) (old_row_in (log_table at.table) (old_tuple at.table before))) refl delete_verdict planned
              (ap (raw_changes (log_tables tables) (seen_rows (log_tables tables) past s)) message_is
              ∙ delete_change (log_tables tables) (seen_rows (log_tables tables) past s) at.oid at.table before (found_at_oid tables at.table.info.name at asked.there))
              (delete_accepted free ∙ ap (λ (m : Message). Ok (Did s m)) (sym message_is))
              (subst Fits (sym message_is) fits) (size ∙ ap (λ (m : Message). entry_size (messages ++ m ∷ [])) (sym message_is)) short
              (subst (AllByRecursion (λ (x : Write). x.held.by ≡ s)) (sym writes_are) (is.by, tt))
              (subst (λ (ws : List Write). are_apart ws ≡ true) (sym writes_are) refl)
              (subst (AllByRecursion (λ (x : Write). IfSome x.held.row (λ y. length y.cells ≡ length at.table.info.columns))) (sym writes_are)
              (subst (λ (o : Option RawRow). IfSome o (λ y. length y.cells ≡ length at.table.info.columns)) (sym is.row_is) tt, tt))
              (λ k. delete_keys (raw_of at.table) s at.table.info.name (raw_key (raw_of at.table) before) (old_row_in (log_table at.table) (old_tuple at.table before)) w own k ∙ ap (λ (ws : List Write). is_written ws k) (sym writes_are))
              (λ k. delete_rows (raw_of at.table) s at.table.info.name (raw_key (raw_of at.table) before) (old_row_in (log_table at.table) (old_tuple at.table before)) w (seen_rows (log_tables tables) past s at.table.info.name) own k ∙ ap (λ (ws : List Write). row_written ws k (seen tables past s at k)) (sym writes_are))

  -- ---- updates

  module _ (key set : List NamedCell) where
    abbrev from : Key
    from = key_given (raw_of at.table) key

    abbrev to : Key
    to = key_set (raw_of at.table) key set

    abbrev last_update : Texts → Result Accepted StepError
    last_update before = refuse_step_if (not (same_key from to) && is_some (seen tables past s at to)) errors.RowExists >>= λ u. Ok (Did s (updating at set before))

    abbrev there_update : Result Accepted StepError
    there_update = some_or_refuse (seen tables past s at from) errors.NoRow >>= last_update

    abbrev locked_update : Result Accepted StepError
    locked_update = refuse_by (in_the_way tables past s at (from ∷ to ∷ [])) >>= λ u. there_update

    abbrev is_large_update : Bool
    is_large_update = is_too_large_if at.table messages (option_map (updating at set) (seen tables past s at from))

    abbrev large_update : Result Accepted StepError
    large_update = refuse_step_if is_large_update errors.BadRow >>= λ u. locked_update

    abbrev update_verdict : Result Accepted StepError
    update_verdict = update_in tables past s at key set from to

    abbrev both_read : Bool
    both_read = is_readable_key (raw_of at.table) key && is_readable_set (raw_of at.table) set

    pub update_unreadable : both_read ≡ false → update_verdict ≡ Err errors.BadRow
    update_unreadable bad = refused (not both_read) errors.BadRow large_update (ap not bad)

    module _ (readable : both_read ≡ true) where
      to_large_update : update_verdict ≡ large_update
      to_large_update = let_on (not both_read) errors.BadRow large_update (ap not readable)

      way_of_update : in_the_way tables past s at (from ∷ to ∷ []) ≡ lesser_if (other_than s (owner_at rows from)) (other_than s (owner_at rows to))
      way_of_update = at_two_keys tables past s asked.standing.orderly at rows asked.are_rows from to

      sees_update : (k : Key) (o : Option Texts) → seen_at rows s k ≡ o → seen tables past s at k ≡ o
      sees_update k o is = sym (asked.are_rows.sees s k) ∙ is

      to_locked_missing : seen_at rows s from ≡ None → update_verdict ≡ locked_update
      to_locked_missing none = to_large_update ∙ let_on is_large_update errors.BadRow locked_update (ap (λ (o : Option Texts). is_too_large_if at.table messages (option_map (updating at set) o)) (sees_update from None none))

      pub update_locked_none : (by : List ℕ) → seen_at rows s from ≡ None → lesser_if (other_than s (owner_at rows from)) (other_than s (owner_at rows to)) ≡ Some by → update_verdict ≡ Err (errors.RowLocked by)
      update_locked_none by none held = to_locked_missing none ∙ stopped_by (in_the_way tables past s at (from ∷ to ∷ [])) by there_update (way_of_update ∙ held)

      pub update_missing : seen_at rows s from ≡ None → lesser_if (other_than s (owner_at rows from)) (other_than s (owner_at rows to)) ≡ None → update_verdict ≡ Err errors.NoRow
      update_missing none free =
          to_locked_missing none ∙ (stopped_by_none (in_the_way tables past s at (from ∷ to ∷ [])) there_update (way_of_update ∙ free)
          ∙ none_there (seen tables past s at from) errors.NoRow last_update (sees_update from None none))

      module _ (before : Texts) (there : seen_at rows s from ≡ Some before) where
        abbrev new_row : Texts
        new_row = row_set (raw_of at.table).columns set before

        abbrev its_update : Message
        its_update = updating at set before

        large_update_there : is_large_update ≡ is_too_large at.table messages its_update
        large_update_there = ap (λ (o : Option Texts). is_too_large_if at.table messages (option_map (updating at set) o)) (sees_update from (Some before) there)

        to_locked_update : is_too_large at.table messages its_update ≡ false → update_verdict ≡ locked_update
        to_locked_update small = to_large_update ∙ let_on is_large_update errors.BadRow locked_update (large_update_there ∙ small)

        to_last_update : is_too_large at.table messages its_update ≡ false → lesser_if (other_than s (owner_at rows from)) (other_than s (owner_at rows to)) ≡ None → update_verdict ≡ last_update before
        to_last_update small free =
            to_locked_update small ∙ (stopped_by_none (in_the_way tables past s at (from ∷ to ∷ [])) there_update (way_of_update ∙ free)
            ∙ some_there (seen tables past s at from) errors.NoRow last_update before (sees_update from (Some before) there))

        exists_as : (not (same_key from to) && is_some (seen_at rows s to)) ≡ (not (same_key from to) && is_some (seen tables past s at to))
        exists_as = ap (λ (o : Option Texts). not (same_key from to) && is_some o) (asked.are_rows.sees s to)

        -- a refusal, by what is late
        late : (e : StepError) (o : Option (List ℕ)) → lesser_if (other_than s (owner_at rows from)) (other_than s (owner_at rows to)) ≡ o → is_too_large at.table messages its_update ≡ false → IsLate rows s from to e o → update_verdict ≡ Err e
        late e (Some by) is small told =
            to_locked_update small ∙ (stopped_by (in_the_way tables past s at (from ∷ to ∷ [])) by there_update (way_of_update ∙ is) ∙ ap (λ (x : StepError). Err x) (sym told))
        late e None is small told =
            to_last_update small is ∙ (refused (not (same_key from to) && is_some (seen tables past s at to)) errors.RowExists (Ok (Did s its_update)) (sym exists_as ∙ told.1) ∙ ap (λ (x : StepError). Err x) (sym told.0))

        pub update_refused : (e : StepError) → ((e ≡ errors.BadRow) × (is_too_large at.table messages its_update ≡ true)) ⊎ ((is_too_large at.table messages its_update ≡ false) × IsUpdateLate rows s from to e) → update_verdict ≡ Err e
        update_refused e (inl large) = to_large_update ∙ (refused is_large_update errors.BadRow locked_update (large_update_there ∙ large.1) ∙ ap (λ (x : StepError). Err x) (sym large.0))
        update_refused e (inr told) = late e (lesser_if (other_than s (owner_at rows from)) (other_than s (owner_at rows to))) refl told.0 told.1

        -- what there is of the row

        abbrev own_rows : TextRows
        own_rows = seen_rows (log_tables tables) past s

        has : HasKey (raw_of at.table) from before
        has = has_key tables past s at.table.info.name at asked.can asked.standing asked.there from before (sees_update from (Some before) there)

        wide : length new_row ≡ length (raw_of at.table).columns
        wide = wide_row_set at.table.info set before has.1

        leads : key_in (raw_of at.table) new_row ≡ to
        leads = key_in_set at.table.info key set before has.1 has.0

        own_row : own_rows at.table.info.name (key_in (raw_of at.table) before) ≡ Some before
        own_row = ap (own_rows at.table.info.name) has.0 ∙ sees_update from (Some before) there

        moved : same_key from to ≡ false → moves at.table before new_row ≡ true
        moved other = ap (λ (k : Key). not (same_key k (key_in (raw_of at.table) new_row))) has.0 ∙ (ap (λ (k : Key). not (same_key from k)) leads ∙ ap not other)

        abbrev Trace : Type 0
        Trace = IsUpdateOf at.table own_rows before new_row (raw_changes (log_tables tables) own_rows its_update)

        as_told : Trace
        as_told = update_change at.table before new_row has.1 wide (log_tables tables) own_rows at.oid (found_at_oid tables at.table.info.name at asked.there)

        -- what was written is of the session, at keys of its own, and as wide as the table
        module _ (r : RawRow) (cells_are : r.cells ≡ new_row) where
          row_count : length r.cells ≡ length at.table.info.columns
          row_count = ap length cells_are ∙ (wide ∙ columns_count at.table)

          all_own : (ws : List Write) → IsUpdateWritten s from to r ws → AllByRecursion (λ (x : Write). x.held.by ≡ s) ws
          all_own [] w = absurd w
          all_own (a ∷ []) w = (w.1.by, tt)
          all_own (a ∷ b ∷ []) w = (w.1.by, (w.2.by, tt))
          all_own (a ∷ b ∷ c ∷ ws) w = absurd w

          all_apart : (ws : List Write) → IsUpdateWritten s from to r ws → are_apart ws ≡ true
          all_apart [] w = absurd w
          all_apart (a ∷ []) w = refl
          all_apart (a ∷ b ∷ []) w =
              ap (λ (k : Key). not (same_key k b.key || false) && true) w.1.key_is ∙ (ap (λ (k : Key). not (same_key from k || false) && true) w.2.key_is ∙ ap (λ (x : Bool). not (x || false) && true) w.0)
          all_apart (a ∷ b ∷ c ∷ ws) w = absurd w

          all_wide : (ws : List Write) → IsUpdateWritten s from to r ws → AllByRecursion (λ (x : Write). IfSome x.held.row (λ y. length y.cells ≡ length at.table.info.columns)) ws
          all_wide [] w = absurd w
          all_wide (a ∷ []) w = (subst (λ (o : Option RawRow). IfSome o (λ y. length y.cells ≡ length at.table.info.columns)) (sym w.1.row_is) row_count, tt)
          all_wide (a ∷ b ∷ []) w = (
            subst (λ (o : Option RawRow). IfSome o (λ y. length y.cells ≡ length at.table.info.columns)) (sym w.1.row_is) tt,
            (subst (λ (o : Option RawRow). IfSome o (λ y. length y.cells ≡ length at.table.info.columns)) (sym w.2.row_is) row_count, tt),
          )
          all_wide (a ∷ b ∷ c ∷ ws) w = absurd w

          subsequent : (u : Trace) (was : Option Texts) → (same_key from to ≡ false) ⊎ (was ≡ Some before) → updated_texts (all_texts u.cells) u.cells was ≡ Some r.cells
          subsequent u was (inl other) = u.subsequent own_row was (inl (moved other)) ∙ ap Some (sym cells_are)
          subsequent u was (inr same) = u.subsequent own_row was (inr same) ∙ ap Some (sym cells_are)

          planned_so : (u : Trace) (planned : Planned) → is_too_large at.table messages its_update ≡ false → lesser_if (other_than s (owner_at rows from)) (other_than s (owner_at rows to)) ≡ None
              → (not (same_key from to) && is_some (seen_at rows s to)) ≡ false → planned.message ≡ its_update → IsUpdateWritten s from to r planned.writes.items
              → planned.size ≡ entry_size (messages ++ its_update ∷ []) → planned.size ≤ entry_limit → Fits its_update → IsPlanned tables past s at update_verdict planned
          planned_so u planned small free absent message_is writes size short fits =
              planned_one tables past s at asked.can asked.standing asked.there (Update at.table.info.name u.from u.old u.cells) refl update_verdict planned
              (ap (raw_changes (log_tables tables) own_rows) message_is ∙ u.is)
              (to_last_update small free ∙ (let_on (not (same_key from to) && is_some (seen tables past s at to)) errors.RowExists (Ok (Did s its_update)) (sym exists_as ∙ absent) ∙ ap (λ (m : Message). Ok (Did s m)) (sym message_is)))
              (subst Fits (sym message_is) fits) (size ∙ ap (λ (m : Message). entry_size (messages ++ m ∷ [])) (sym message_is)) short
              (all_own planned.writes.items writes) (all_apart planned.writes.items writes) (all_wide planned.writes.items writes)
              (update_keys (raw_of at.table) s at.table.info.name u.from u.old u.cells from to r (u.from_key ∙ has.0) (u.to_key ∙ leads) planned.writes.items writes)
              (update_rows (raw_of at.table) s at.table.info.name u.from u.old u.cells from to r (u.from_key ∙ has.0) (u.to_key ∙ leads) (own_rows at.table.info.name) before (sees_update from (Some before) there)
              (subsequent u) planned.writes.items writes)

          pub update_planned : (planned : Planned) → is_too_large at.table messages its_update ≡ false → lesser_if (other_than s (owner_at rows from)) (other_than s (owner_at rows to)) ≡ None
              → (not (same_key from to) && is_some (seen_at rows s to)) ≡ false → planned.message ≡ its_update → IsUpdateWritten s from to r planned.writes.items
              → planned.size ≡ entry_size (messages ++ its_update ∷ []) → planned.size ≤ entry_limit → Fits its_update → IsPlanned tables past s at update_verdict planned
          update_planned = planned_so as_told
