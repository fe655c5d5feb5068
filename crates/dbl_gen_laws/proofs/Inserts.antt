-- The accounts are inserted one after the other by one session, and each is accepted.
use Rattle.std.proofs.Common.{◌≡◌, ◌∙◌, ◌+◌, ◌*◌, ◌<◌, ◌≤◌, ℕ, zero, suc, Bool, true, false, Option, Some, None, List, [], ◌∷◌, ◌++◌, length, map, refl, sym, ap, arith}
use Rattle.std.specs.Prelude.{◌||◌, ◌&&◌, not, is_some, nat_lt, if◌then◌else◌, bytes_eq, filter, Ok}
use Rattle.std.specs.List.{list_any}
use Rattle.std.proofs.lemmas.Bool.{le-ltb}
use Rattle.dbl_pgmsg.specs.declared.messages.Message.{Message}
use Rattle.dbl_pgmsg.specs.Grammar.{message_limit, spelling}
use Rattle.dbl_model_table.specs.declared.row.Key.{Key}
use Rattle.dbl_source_log.specs.declared.logged.LogTable.{LogTable}
use Rattle.dbl_source_log.specs.declared.logged.Logged.TheVariants.{Changes}
use Rattle.dbl_source_log.specs.Histories.{rows_of}
use Rattle.dbl_source_log.specs.RawChanges.{changes_from, raw_changes, text_rows_from}
use Rattle.dbl_source_log.specs.TextRows.{TextRows, no_text_rows, text_rows_with}
use Rattle.dbl_source_log.specs.Texts.{Texts}
use Rattle.dbl_tables_laws.proofs.SourceLogFitLogLemmas.{message_rows}
use Rattle.dbl_tables_rows.specs.declared.error.StepError.TheVariants as errors
use Rattle.dbl_tables_rows.specs.Acts.{Accepted, is_open, log_in, messages_by, open_in}
use Rattle.dbl_tables_rows.specs.Acts.Accepted.{Began, Did}
use Rattle.dbl_tables_rows.specs.Cells.{is_readable_row, row_given}
use Rattle.dbl_tables_rows.specs.Locks.{holds_key, least}
use Rattle.dbl_tables_rows.specs.Refusals.{◌>>=◌, refuse_by, refuse_step_if, some_or_refuse}
use Rattle.dbl_tables_rows.specs.Sending.{entry_limit, entry_size, is_too_large, log_tables, raw_of}
use Rattle.dbl_tables_rows.specs.Steps.{FoundTable, found, in_the_way, insert_in, judged, seen}
use Rattle.dbl_tables_rows.specs.Steps.Step.{Insert}
use Rattle.dbl_tables_rows.proofs.SizeLemmas.{size_push}
use Rattle.dbl_gen.specs.Laws.{account_cells, accounts_table}
use Rattle.dbl_gen_laws.proofs.Accounts.{accounts, keys_apart, own, put, put_size, readable, row_of, tables}

-- what the session did after so many accounts
abbrev pub past : ℕ → List Accepted
past zero = Began [] ∷ []
past (suc count) = Did [] (put (count + 1)) ∷ past count

pub still_open : (count : ℕ) → is_open [] (past count) ≡ true
still_open zero = refl
still_open (suc count) = still_open count

only_open : (count : ℕ) → open_in (past count) ≡ [] ∷ []
only_open zero = refl
only_open (suc count) = only_open count

none_committed : (count : ℕ) → log_in (past count) ≡ []
none_committed zero = refl
none_committed (suc count) = none_committed count

abbrev puts : ℕ → List Message
puts zero = []
puts (suc count) = puts count ++ put (count + 1) ∷ []

messages_are : (count : ℕ) → messages_by [] (past count) ≡ puts count
messages_are zero = refl
messages_are (suc count) = ap (λ (ms : List Message). ms ++ put (count + 1) ∷ []) (messages_are count)

-- ---- their entry is short

puts_size : (count : ℕ) → count ≤ 400000 → entry_size (puts count) ≤ 13 + 144 * count
puts_size zero few = omega arith
puts_size (suc count) few =
    omega (arith, few, puts_size count (omega (arith, few)), size_push (puts count) (put (count + 1)), put_size (count + 1) (omega (arith, few)))

short : (count : ℕ) → count < 400000 → is_too_large accounts (messages_by [] (past count)) (put (count + 1)) ≡ false
short count few =
    let m : Message = put (count + 1) in
    ap (λ (ms : List Message). is_too_large accounts ms m) (messages_are count)
    ∙ ap (λ (b : Bool). b || nat_lt entry_limit (entry_size (puts count ++ m ∷ []))) (le-ltb message_limit (length (spelling m)) (let one = put_size (count + 1) (omega (arith, few)) in omega (arith, one)))
    ∙ le-ltb entry_limit (entry_size (puts count ++ m ∷ [])) (let all = puts_size (suc count) (omega (arith, few)) in omega (arith, all, few))

-- ---- no other session is in the way

abbrev at : FoundTable
at = record { oid = 16384; table = accounts }

free : (count : ℕ) (keys : List Key) → in_the_way tables (past count) [] at keys ≡ None
free count keys =
    ap (λ (others : List (List ℕ)). least (filter (λ other. not (bytes_eq other []) && list_any (λ key. holds_key (log_tables tables) (past count) accounts_table.raw.name key other) keys) others)) (only_open count)

-- ---- no account has the key of a later one

push_rows : (ts : List LogTable) (rows : TextRows) (ms : List Message) (m : Message)
    → text_rows_from ts rows (ms ++ m ∷ []) ≡ text_rows_with ts (raw_changes ts (text_rows_from ts rows ms) m) (text_rows_from ts rows ms)
push_rows ts rows [] m = refl
push_rows ts rows (x ∷ ms) m = push_rows ts (text_rows_with ts (raw_changes ts rows x) rows) ms m

abbrev rows_after : ℕ → TextRows
rows_after count = text_rows_from (log_tables tables) no_text_rows (puts count)

absent : (count key : ℕ) → count < key → key < 1000000 → rows_after count accounts_table.raw.name (own key) ≡ None
absent zero key less small = refl
absent (suc count) key less small =
    ap (λ (rows : TextRows). rows accounts_table.raw.name (own key)) (push_rows (log_tables tables) no_text_rows (puts count) (put (count + 1)))
    ∙ ap (λ (b : Bool). if b then Some (row_of (count + 1)) else rows_after count accounts_table.raw.name (own key)) (keys_apart (count + 1) key (omega (arith, less, small)) small (omega (arith, less)))
    ∙ absent count key (omega (arith, less)) small

seen_is : (count : ℕ) (key : Key) → seen tables (past count) [] at key ≡ rows_after count accounts_table.raw.name key
seen_is count key =
    let ts : List LogTable = log_tables tables in
    ap (λ (log : List (List Message)). text_rows_with ts (changes_from ts (rows_of ts (map Changes log)) (messages_by [] (past count))) (rows_of ts (map Changes log)) accounts_table.raw.name key) (none_committed count)
    ∙ ap (λ (ms : List Message). text_rows_with ts (changes_from ts no_text_rows ms) no_text_rows accounts_table.raw.name key) (messages_are count)
    ∙ ap (λ (rows : TextRows). rows accounts_table.raw.name key) (sym (message_rows ts (puts count) no_text_rows))

-- ---- each is accepted

passes : (fine large there : Bool) (held : Option (List ℕ)) (act : Accepted) → fine ≡ true → large ≡ false → held ≡ None → there ≡ false
    → (refuse_step_if (not fine) errors.BadRow >>= λ (a : Unit). (refuse_step_if large errors.BadRow >>= λ (b : Unit). (refuse_by held >>= λ (c : Unit). (refuse_step_if there errors.RowExists >>= λ (d : Unit). Ok act)))) ≡ Ok act
passes true false false None act f l h t = refl
passes true false false (Some by) act f l h t = cc
passes true false true held act f l h t = cc
passes true true there held act f l h t = cc
passes false large there held act f l h t = cc

pub inserted : (count : ℕ) → count < 400000 → judged tables (past count) (Insert [] accounts_table.raw.name (account_cells (count + 1))) ≡ Ok (Did [] (put (count + 1)))
inserted count few =
    let key : ℕ = count + 1 in
    let none : seen tables (past count) [] at (own key) ≡ None = seen_is count (own key) ∙ absent count key (omega arith) (omega (arith, few)) in
    ap (λ (b : Bool). (refuse_step_if (not b) errors.NotOpen >>= λ (u : Unit). some_or_refuse (found tables accounts_table.raw.name) errors.UnknownTable) >>= λ (t : FoundTable). insert_in tables (past count) [] t (account_cells key) (row_given (raw_of t.table) (account_cells key))) (still_open count)
    ∙ passes (is_readable_row (raw_of accounts) (account_cells key)) (is_too_large accounts (messages_by [] (past count)) (put key)) (is_some (seen tables (past count) [] at (own key)))
    (in_the_way tables (past count) [] at (own key ∷ [])) (Did [] (put key)) (readable key (omega (arith, few))) (short count few) (free count (own key ∷ [])) (ap (λ (o : Option Texts). is_some o) none)
