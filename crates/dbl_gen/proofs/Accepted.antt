-- Every line of a workload that is made from a number is good.
use Rattle.std.proofs.Common.{◌≡◌, ◌∙◌, inl, inr, ℕ, zero, suc, ◌+◌, ◌-◌, ◌*◌, ◌<◌, ◌≤◌, ◌^◌, ◌%◌, ◌==◌, nat_lt, if◌then◌else◌, Bool, true, false, List, [], ◌∷◌, ◌++◌, append_assoc, length, length-append, Some, None, codes, refl, ap, sym, subst, arith}
use Rattle.std.specs.List.{list_all}
use Rattle.std.specs.Str.Parse.{digits_value}
use Rattle.std.proofs.lemmas.List.{append-nil}
use Rattle.std.proofs.lemmas.List.Folds.{list_all-append}
use Rattle.dbl_base.specs.Lines.{lines_of, lines_text}
use Rattle.dbl_model_table.specs.declared.table.TableName.{TableName}
use Rattle.dbl_script.specs.declared.script.Script.{Script}
use Rattle.dbl_script.specs.declared.script.ScriptRow.{ScriptRow}
use Rattle.dbl_script.specs.declared.script.ScriptTable.{ScriptTable}
use Rattle.dbl_script.specs.declared.line.Line.TheVariants.{Table, Row, Act}
use Rattle.dbl_script.specs.Reads.{all_of, some_of}
use Rattle.dbl_script.specs.Texts as text
use Rattle.dbl_script.specs.Columns.{column_of, named_column, typed_column, columns_of}
use Rattle.dbl_script.specs.Grammar.{identity_of, toast_of, table_in, worded, line_at}
use Rattle.dbl_script.specs.Scripts.{script_of, is_empty, may_follow, follows, is_good, first_bad_after, first_bad}
use Rattle.dbl_script.specs.Building.{with_said}
use Rattle.dbl_script.proofs.ScriptLemmas.{script_more}
use Rattle.dbl_gen.specs.Draws.{next_state, drawn}
use Rattle.dbl_gen.specs.Laws.{account_row, account_rows, accounts_table, empty_table, WorkloadsAreRead}
use Rattle.dbl_gen.specs.Workload.{line_of, accounts, numbered, id_cell, owner_cell, table_lines, row_lines, session, insert_line, balance_line, delete_line, note_line, row_line, change, begin_line, commit_line, tick_line, lines_before, group_lines, groups_from, last_lines, workload_lines, workload}
use Rattle.dbl_gen.proofs.Plain.{free, is_plain, and_both, lines_back}
use Rattle.dbl_gen.proofs.Steps.{IsStep, IsRow, accounts_named, utf8_plain, said_by_words, session_cases, tick_steps, begin_steps, commit_steps, delete_steps, insert_steps, balance_steps, note_steps, row_is, row_said}

-- ---- all lines are rows, or steps

abbrev pub AllSteps : List (List ℕ) → Type 0
AllSteps [] = Unit {0}
AllSteps (line ∷ lines) = IsStep line × AllSteps lines

abbrev pub AllRows : List (List ℕ) → Type 0
AllRows [] = Unit {0}
AllRows (line ∷ lines) = IsRow line × AllRows lines

both_steps : (xs ys : List (List ℕ)) → AllSteps xs → AllSteps ys → AllSteps (xs ++ ys)
both_steps [] ys first second = second
both_steps (x ∷ xs) ys first second = (first.0, both_steps xs ys first.1 second)

free_steps : (lines : List (List ℕ)) → AllSteps lines → list_all (free 10) lines ≡ true
free_steps [] all = refl
free_steps (line ∷ lines) all = and_both _ _ all.0.whole (free_steps lines all.1)

free_rows : (lines : List (List ℕ)) → AllRows lines → list_all (free 10) lines ≡ true
free_rows [] all = refl
free_rows (line ∷ lines) all = and_both _ _ all.0.whole (free_rows lines all.1)

-- what holds of each name of a session
by_session : (P : List ℕ → Type 0) → ((digit : ℕ) → text.session_of (115 ∷ digit ∷ []) ≡ Some (115 ∷ digit ∷ []) → is_plain (115 ∷ digit ∷ []) ≡ true → P (115 ∷ digit ∷ [])) → (group : ℕ) → P (session group)
unfolding text.session_of
by_session P each group =
    elim (session_cases group) [
      | inl zero_is ↦ subst P (sym zero_is) (each 48 refl refl)
      | inr other ↦ elim other [ inl one_is ↦ subst P (sym one_is) (each 49 refl refl) | inr two_is ↦ subst P (sym two_is) (each 50 refl refl) ]
    ]

begin_is : (group : ℕ) → IsStep (begin_line group)
begin_is group = by_session (λ s. IsStep (line_of (s ∷ codes "begin" ∷ []))) (λ digit reads plain. begin_steps digit reads plain) group

commit_is : (group : ℕ) → IsStep (commit_line group)
commit_is group = by_session (λ s. IsStep (line_of (s ∷ codes "commit" ∷ []))) (λ digit reads plain. commit_steps digit reads plain) group

insert_is : (group key : ℕ) → key < 2 ^ 64 → IsStep (insert_line group key)
insert_is group key small = by_session (λ s. IsStep (line_of (s ∷ codes "insert" ∷ accounts ∷ id_cell key ∷ owner_cell key ∷ codes "balance=0" ∷ codes "note=new" ∷ []))) (λ digit reads plain. insert_steps digit reads plain key small) group

balance_is : (group key balance : ℕ) → key < 2 ^ 64 → balance < 2 ^ 64 → IsStep (balance_line group key balance)
balance_is group key balance small fits = by_session (λ s. IsStep (line_of (s ∷ codes "update" ∷ accounts ∷ id_cell key ∷ codes "set" ∷ numbered (codes "balance=") balance ∷ []))) (λ digit reads plain. balance_steps digit reads plain key small balance fits) group

delete_is : (group key : ℕ) → key < 2 ^ 64 → IsStep (delete_line group key)
delete_is group key small = by_session (λ s. IsStep (line_of (s ∷ codes "delete" ∷ accounts ∷ id_cell key ∷ []))) (λ digit reads plain. delete_steps digit reads plain key small) group

note_is : (group key : ℕ) → key < 2 ^ 64 → group < 2 ^ 64 → IsStep (note_line group key)
note_is group key small fits = by_session (λ s. IsStep (line_of (s ∷ codes "update" ∷ accounts ∷ id_cell key ∷ codes "set" ∷ numbered (codes "note=g") group ∷ []))) (λ digit reads plain. note_steps digit reads plain key small group fits) group

pick : (b c d : Bool) (insert balance delete note : List ℕ × ℕ) → IsStep insert.0 → IsStep balance.0 → IsStep delete.0 → IsStep note.0 → IsStep (if b then insert else (if c then balance else (if d then delete else note))).0
pick true c d insert balance delete note i b e n = i
pick false true d insert balance delete note i b e n = b
pick false false true insert balance delete note i b e n = e
pick false false false insert balance delete note i b e n = n

change_steps : (rows group before : ℕ) → rows ≤ 400000 → group < 2 ^ 64 → IsStep (change rows group before).0
unfolding change
change_steps rows group before few fits =
    let first = next_state before in
    let second = next_state first in
    let third = next_state second in
    let key = 1 + drawn first % (rows + 100) in
    let balance = drawn third % 1000 in
    let small : key < 2 ^ 64 = omega arith in
    let low : balance < 2 ^ 64 = omega arith in
    pick (drawn second % 4 == 0) (drawn second % 4 == 1) (drawn second % 4 == 2) (insert_line group key, second) (balance_line group key balance, third) (delete_line group key, second) (note_line group key, second)
    (insert_is group key small) (balance_is group key balance small low) (delete_is group key small) (note_is group key small fits)

before_steps : (group : ℕ) → AllSteps (lines_before group)
before_steps group = by_test (nat_lt 1 group)
  where
    by_test : (b : Bool) → AllSteps (if b then commit_line (group - 1) ∷ [] else [])
    by_test true = (commit_is (group - 1), tt)
    by_test false = tt

group_steps : (rows group before : ℕ) → rows ≤ 400000 → group < 2 ^ 64 → AllSteps (group_lines rows group before).0
unfolding group_lines
group_steps rows group before few fits =
    (begin_is group, (change_steps rows group before few fits, (change_steps rows group (change rows group before).1 few fits, (change_steps rows group (change rows group (change rows group before).1).1 few fits, both_steps (lines_before group) (tick_line ∷ []) (before_steps group) (tick_steps, tt)))))

groups_steps : (rows count first before : ℕ) → rows ≤ 400000 → first + count < 2 ^ 64 → AllSteps (groups_from rows first count before)
unfolding groups_from
groups_steps rows zero first before few fits = tt
groups_steps rows (suc count) first before few fits =
    both_steps (group_lines rows first before).0 (groups_from rows (first + 1) count (group_lines rows first before).1) (group_steps rows first before few (omega arith)) (groups_steps rows count (first + 1) (group_lines rows first before).1 few (omega arith))

last_steps : (groups : ℕ) → AllSteps (last_lines groups)
last_steps groups = by_test (groups == 0)
  where
    by_test : (b : Bool) → AllSteps (if b then [] else commit_line groups ∷ [])
    by_test true = tt
    by_test false = (commit_is groups, tt)

rows_are : (count first : ℕ) → first + count < 2 ^ 64 → AllRows (row_lines first count)
unfolding row_lines
rows_are zero first fits = tt
rows_are (suc count) first fits = (row_is first (omega arith), rows_are count (first + 1) (omega arith))

-- ---- each line may follow those before it

good_step : (before : List (List ℕ)) (line : List ℕ) (rest : List (List ℕ)) → is_good before line ≡ true → first_bad_after before (line ∷ rest) ≡ first_bad_after (before ++ line ∷ []) rest
good_step before line rest is = rw is refl

steps_follow : (lines before : List (List ℕ)) → AllSteps lines → is_empty (script_of before).tables ≡ false → first_bad_after before lines ≡ None
unfolding may_follow
steps_follow [] before all some = rw some refl
steps_follow (line ∷ lines) before all some =
    let said : line_at (length before + 1) line ≡ Some (Act all.0.step) = all.0.says (length before + 1) in
    let good : is_good before line ≡ true = ap (follows (script_of before)) said ∙ rw some refl in
    let next : is_empty (script_of (before ++ line ∷ [])).tables ≡ false = ap (λ (s : Script). is_empty s.tables) (script_more before line ∙ ap (with_said (script_of before)) said) ∙ some in
    good_step before line lines good ∙ steps_follow lines (before ++ line ∷ []) all.1 next

rows_follow : (rows steps before : List (List ℕ)) → AllRows rows → AllSteps steps → is_empty (script_of before).tables ≡ false → is_empty (script_of before).steps ≡ true → first_bad_after before (rows ++ steps) ≡ None
unfolding may_follow
rows_follow [] steps before all later some none = steps_follow steps before later some
rows_follow (line ∷ rows) steps before all later some none =
    let said : line_at (length before + 1) line ≡ Some (Row (all.0.row (length before + 1))) = all.0.says (length before + 1) in
    let good : is_good before line ≡ true = ap (follows (script_of before)) said ∙ rw (some, none) refl in
    let more = script_more before line ∙ ap (with_said (script_of before)) said in
    let next : is_empty (script_of (before ++ line ∷ [])).tables ≡ false = ap (λ (s : Script). is_empty s.tables) more ∙ some in
    let still : is_empty (script_of (before ++ line ∷ [])).steps ≡ true = ap (λ (s : Script). is_empty s.steps) more ∙ none in
    good_step before line (rows ++ steps) good ∙ rows_follow rows steps (before ++ line ∷ []) all.1 later next still

-- ---- rows and steps add no table

steps_add_none : (lines before : List (List ℕ)) → AllSteps lines → (script_of (before ++ lines)).tables ≡ (script_of before).tables
steps_add_none [] before all = ap (λ ls. (script_of ls).tables) (append-nil before)
steps_add_none (line ∷ lines) before all =
    let said : line_at (length before + 1) line ≡ Some (Act all.0.step) = all.0.says (length before + 1) in
    ap (λ ls. (script_of ls).tables) (sym (append_assoc before (line ∷ []) lines))
    ∙ steps_add_none lines (before ++ line ∷ []) all.1
    ∙ ap (λ (s : Script). s.tables) (script_more before line ∙ ap (with_said (script_of before)) said)

rows_add_none : (rows steps before : List (List ℕ)) → AllRows rows → AllSteps steps → (script_of (before ++ (rows ++ steps))).tables ≡ (script_of before).tables
rows_add_none [] steps before all later = steps_add_none steps before later
rows_add_none (line ∷ rows) steps before all later =
    let said : line_at (length before + 1) line ≡ Some (Row (all.0.row (length before + 1))) = all.0.says (length before + 1) in
    ap (λ ls. (script_of ls).tables) (sym (append_assoc before (line ∷ []) (rows ++ steps)))
    ∙ rows_add_none rows steps (before ++ line ∷ []) all.1 later
    ∙ ap (λ (s : Script). s.tables) (script_more before line ∙ ap (with_said (script_of before)) said)

-- ---- steps add no row, and each row adds itself

steps_add_no_row : (lines before : List (List ℕ)) → AllSteps lines → (script_of (before ++ lines)).rows ≡ (script_of before).rows
steps_add_no_row [] before all = ap (λ ls. (script_of ls).rows) (append-nil before)
steps_add_no_row (line ∷ lines) before all =
    let said : line_at (length before + 1) line ≡ Some (Act all.0.step) = all.0.says (length before + 1) in
    ap (λ ls. (script_of ls).rows) (sym (append_assoc before (line ∷ []) lines))
    ∙ steps_add_no_row lines (before ++ line ∷ []) all.1
    ∙ ap (λ (s : Script). s.rows) (script_more before line ∙ ap (with_said (script_of before)) said)

rows_add : (count first : ℕ) (steps before : List (List ℕ)) → first + count < 2 ^ 64 → AllSteps steps
    → (script_of (before ++ (row_lines first count ++ steps))).rows ≡ (script_of before).rows ++ account_rows first (length before + 1) count
unfolding row_lines
rows_add zero first steps before fits later = steps_add_no_row steps before later ∙ sym (append-nil (script_of before).rows)
rows_add (suc count) first steps before fits later =
    let line : List ℕ = row_line first in
    let row : ScriptRow = account_row first (length before + 1) in
    let said : line_at (length before + 1) line ≡ Some (Row row) = row_said first (length before + 1) (omega arith) in
    let one : (script_of (before ++ line ∷ [])).rows ≡ (script_of before).rows ++ row ∷ [] = ap (λ (s : Script). s.rows) (script_more before line ∙ ap (with_said (script_of before)) said) in
    let next : length (before ++ line ∷ []) + 1 ≡ length before + 1 + 1 = ap (λ n. n + 1) (length-append before (line ∷ [])) in
    ap (λ ls. (script_of ls).rows) (sym (append_assoc before (line ∷ []) (row_lines (first + 1) count ++ steps)))
    ∙ rows_add count (first + 1) steps (before ++ line ∷ []) (omega arith) later
    ∙ ap (λ rows. rows ++ account_rows (first + 1) (length (before ++ line ∷ []) + 1) count) one
    ∙ ap (λ n. ((script_of before).rows ++ row ∷ []) ++ account_rows (first + 1) n count) next
    ∙ append_assoc (script_of before).rows (row ∷ []) (account_rows (first + 1) (length before + 1 + 1) count)

-- ---- the tables

empty_name : TableName
empty_name = record { schema = codes "public"; name = codes "empty" }

empty_named : text.table_name_of (codes "public.empty") ≡ Some (record { schema = codes "public"; name = codes "empty" })
unfolding text.table_name_of text.name_of
empty_named = rw (utf8_plain (codes "public") refl, utf8_plain (codes "empty") refl) refl

abbrev accounts_at : ℕ → ScriptTable
accounts_at number = record {
  raw = record {
    name = record { schema = codes "public"; name = codes "accounts" };
    columns = record { name = codes "id"; oid = 20 } ∷ record { name = codes "owner"; oid = 25 } ∷ record { name = codes "balance"; oid = 20 } ∷ record { name = codes "note"; oid = 25 } ∷ [];
    key = codes "id" ∷ [];
    version = 1;
  };
  full = false;
  toast = digits_value 10 (codes "64");
  line = number;
}

abbrev empty_at : ℕ → ScriptTable
empty_at number = record {
  raw = record {
    name = record { schema = codes "public"; name = codes "empty" };
    columns = record { name = codes "id"; oid = 23 } ∷ record { name = codes "name"; oid = 25 } ∷ [];
    key = codes "id" ∷ [];
    version = 1;
  };
  full = false;
  toast = digits_value 10 (codes "64");
  line = number;
}

abbrev accounts_words : List (List ℕ)
accounts_words = accounts ∷ codes "default" ∷ codes "toast" ∷ codes "64" ∷ codes "id:int8:key" ∷ codes "owner:text" ∷ codes "balance:int8" ∷ codes "note:text" ∷ []

abbrev empty_words : List (List ℕ)
empty_words = codes "public.empty" ∷ codes "default" ∷ codes "toast" ∷ codes "64" ∷ codes "id:int4:key" ∷ codes "name:text" ∷ []

accounts_said : (number : ℕ) → line_at number (line_of (codes "table" ∷ accounts_words)) ≡ Some (Table (accounts_at number))
unfolding worded table_in identity_of toast_of columns_of column_of named_column typed_column some_of all_of text.number_of text.column_name_of text.oid_of text.listed_oid_of text.measured_oid_of
accounts_said number = said_by_words number (codes "table") accounts_words (Table (accounts_at number)) refl refl (rw accounts_named refl)

empty_said : (number : ℕ) → line_at number (line_of (codes "table" ∷ empty_words)) ≡ Some (Table (empty_at number))
unfolding worded table_in identity_of toast_of columns_of column_of named_column typed_column some_of all_of text.number_of text.column_name_of text.oid_of text.listed_oid_of text.measured_oid_of
empty_said number = said_by_words number (codes "table") empty_words (Table (empty_at number)) refl refl (rw empty_named refl)

first_line : List ℕ
first_line = line_of (codes "table" ∷ accounts_words)

second_line : List ℕ
second_line = line_of (codes "table" ∷ empty_words)

tables_are : table_lines ≡ first_line ∷ second_line ∷ []
unfolding first_line second_line
tables_are = refl

one_table : script_of (first_line ∷ []) ≡ record { tables = accounts_at 1 ∷ []; rows = []; steps = [] }
unfolding first_line
one_table = rw (accounts_said 1) refl

first_good : is_good [] first_line ≡ true
unfolding may_follow first_line
first_good = rw (accounts_said 1) refl

second_good : is_good (first_line ∷ []) second_line ≡ true
unfolding may_follow second_line
second_good = rw (one_table, empty_said 2) refl

two_tables : script_of (first_line ∷ second_line ∷ []) ≡ record { tables = accounts_at 1 ∷ empty_at 2 ∷ []; rows = []; steps = [] }
unfolding second_line
two_tables = script_more (first_line ∷ []) second_line ∙ rw (one_table, empty_said 2) refl

-- ---- the whole

whole_is : (number rows groups : ℕ) → workload_lines number rows groups ≡ first_line ∷ second_line ∷ (row_lines 1 rows ++ (groups_from rows 1 groups number ++ last_lines groups))
unfolding workload_lines
whole_is number rows groups =
    append_assoc (table_lines ++ row_lines 1 rows) (groups_from rows 1 groups number) (last_lines groups)
    ∙ append_assoc table_lines (row_lines 1 rows) (groups_from rows 1 groups number ++ last_lines groups)
    ∙ ap (λ tables. tables ++ (row_lines 1 rows ++ (groups_from rows 1 groups number ++ last_lines groups))) tables_are

module _ (number rows groups : ℕ) (few_rows : rows ≤ 400000) (few_groups : groups ≤ 90000) where
  later : AllSteps (groups_from rows 1 groups number ++ last_lines groups)
  later = both_steps (groups_from rows 1 groups number) (last_lines groups) (groups_steps rows groups 1 number few_rows (omega arith)) (last_steps groups)

  accounts_are : AllRows (row_lines 1 rows)
  accounts_are = rows_are rows 1 (omega arith)

  lines_are : lines_of (workload number rows groups) ≡ first_line ∷ second_line ∷ (row_lines 1 rows ++ (groups_from rows 1 groups number ++ last_lines groups))
  unfolding first_line second_line
  lines_are =
      ap (λ lines. lines_of (lines_text lines)) (whole_is number rows groups)
      ∙ lines_back (first_line ∷ second_line ∷ (row_lines 1 rows ++ (groups_from rows 1 groups number ++ last_lines groups)))
      (list_all-append (free 10) (row_lines 1 rows) (groups_from rows 1 groups number ++ last_lines groups) ∙ and_both _ _ (free_rows (row_lines 1 rows) accounts_are) (free_steps (groups_from rows 1 groups number ++ last_lines groups) later))

  -- no line is bad
  pub no_bad_line : first_bad (lines_of (workload number rows groups)) ≡ None
  no_bad_line =
      let rest = row_lines 1 rows ++ (groups_from rows 1 groups number ++ last_lines groups) in
      let some : is_empty (script_of (first_line ∷ second_line ∷ [])).tables ≡ false = ap (λ (s : Script). is_empty s.tables) two_tables in
      let none : is_empty (script_of (first_line ∷ second_line ∷ [])).steps ≡ true = ap (λ (s : Script). is_empty s.steps) two_tables in
      ap first_bad lines_are
      ∙ good_step [] first_line (second_line ∷ rest) first_good
      ∙ good_step (first_line ∷ []) second_line rest second_good
      ∙ rows_follow (row_lines 1 rows) (groups_from rows 1 groups number ++ last_lines groups) (first_line ∷ second_line ∷ []) accounts_are later some none

  -- the tables are the two
  pub tables_read : (script_of (lines_of (workload number rows groups))).tables ≡ accounts_table ∷ empty_table ∷ []
  tables_read =
      ap (λ ls. (script_of ls).tables) lines_are
      ∙ rows_add_none (row_lines 1 rows) (groups_from rows 1 groups number ++ last_lines groups) (first_line ∷ second_line ∷ []) accounts_are later
      ∙ ap (λ (s : Script). s.tables) two_tables

  -- the rows are the accounts
  pub rows_read : (script_of (lines_of (workload number rows groups))).rows ≡ account_rows 1 3 rows
  rows_read =
      ap (λ ls. (script_of ls).rows) lines_are
      ∙ rows_add rows 1 (groups_from rows 1 groups number ++ last_lines groups) (first_line ∷ second_line ∷ []) (omega arith) later
      ∙ ap (λ (s : Script). s.rows ++ account_rows 1 3 rows) two_tables

-- ---- how many lines

length_rows : (count first : ℕ) → length (row_lines first count) ≡ count
unfolding row_lines
length_rows zero first = refl
length_rows (suc count) first = let rest = length_rows count (first + 1) in omega arith

length_before : (group : ℕ) → length (lines_before group) ≤ 1
length_before group = by_test (nat_lt 1 group)
  where
    by_test : (b : Bool) → length (if b then commit_line (group - 1) ∷ [] else []) ≤ 1
    by_test true = omega arith
    by_test false = omega arith

length_group : (rows group before : ℕ) → length (group_lines rows group before).0 ≤ 6
unfolding group_lines
length_group rows group before = let one = length_before group in let size = length-append (lines_before group) (tick_line ∷ []) in omega arith

length_groups : (rows count first before : ℕ) → length (groups_from rows first count before) ≤ 6 * count
unfolding groups_from
length_groups rows zero first before = omega arith
length_groups rows (suc count) first before =
    let one = length_group rows first before in
    let rest = length_groups rows count (first + 1) (group_lines rows first before).1 in
    let size = length-append (group_lines rows first before).0 (groups_from rows (first + 1) count (group_lines rows first before).1) in
    omega arith

length_last : (groups : ℕ) → length (last_lines groups) ≤ 1
length_last groups = by_test (groups == 0)
  where
    by_test : (b : Bool) → length (if b then [] else commit_line groups ∷ []) ≤ 1
    by_test true = omega arith
    by_test false = omega arith

pub few_lines : (number rows groups : ℕ) → rows ≤ 400000 → groups ≤ 90000 → length (lines_of (workload number rows groups)) ≤ 1000000
few_lines number rows groups few_rows few_groups =
    let same = ap length (lines_are number rows groups few_rows few_groups) in
    let all_rows = length_rows rows 1 in
    let all_groups = length_groups rows groups 1 number in
    let end = length_last groups in
    let size = length-append (row_lines 1 rows) (groups_from rows 1 groups number ++ last_lines groups) in
    let later_size = length-append (groups_from rows 1 groups number) (last_lines groups) in
    omega arith

pub workload_read : WorkloadsAreRead
workload_read number rows groups few_rows few_groups = record {
  good = no_bad_line number rows groups few_rows few_groups;
  few = few_lines number rows groups few_rows few_groups;
  tables = tables_read number rows groups few_rows few_groups;
  rows_are = rows_read number rows groups few_rows few_groups;
}
