-- How many bytes a workload has at most.
use Rattle.std.proofs.Common.{◌≡◌, inl, inr, ℕ, zero, suc, ◌+◌, ◌-◌, ◌*◌, ◌<◌, ◌≤◌, ◌%◌, ◌==◌, nat_lt, Bool, true, false, List, [], ◌∷◌, ◌++◌, length, codes, refl, ap, arith, if◌then◌else◌}
use Rattle.std.specs.Fmt.{decimal}
use Rattle.std.proofs.lemmas.Fmt.{length-decimal-le}
use Rattle.std.proofs.lemmas.List.{length-append}
use Rattle.dbl_base.specs.Lines.{lines_text}
use Rattle.dbl_gen.specs.Draws.{next_state, drawn}
use Rattle.dbl_gen.specs.Laws.{WorkloadsAreShort}
use Rattle.dbl_gen.specs.Workload.{line_of, accounts, numbered, id_cell, owner_cell, row_line, row_lines, session, insert_line, balance_line, delete_line, note_line, change, begin_line, commit_line, tick_line, lines_before, group_lines, groups_from, last_lines, workload_lines}
use Rattle.dbl_gen.proofs.Steps.{session_cases}

-- ---- lines of words, and texts of lines

abbrev rest_size : List (List ℕ) → ℕ
rest_size [] = 0
rest_size (word ∷ words) = 1 + (length word + rest_size words)

line_size : (first : List ℕ) (words : List (List ℕ)) → length (line_of (first ∷ words)) ≡ length first + rest_size words
line_size first [] = omega arith
line_size first (second ∷ words) = omega (arith, length-append first (32 ∷ line_of (second ∷ words)), line_size second words)

abbrev total : List (List ℕ) → ℕ
total [] = 0
total (line ∷ lines) = length line + (1 + total lines)

text_size : (lines : List (List ℕ)) → length (lines_text lines) ≡ total lines
text_size [] = refl
text_size (line ∷ lines) = omega (arith, length-append line (10 ∷ lines_text lines), text_size lines)

total-append : (xs ys : List (List ℕ)) → total (xs ++ ys) ≡ total xs + total ys
total-append [] ys = omega arith
total-append (x ∷ xs) ys = omega (arith, total-append xs ys)

-- ---- the words with numbers

six : (n : ℕ) → n < 1000000 → length (decimal n) ≤ 6
six n few = length-decimal-le 6 n (omega arith) few (omega arith)

numbered_size : (front : List ℕ) (n : ℕ) → n < 1000000 → length (numbered front n) ≤ length front + 6
numbered_size front n few = omega (arith, length-append front (decimal n), six n few)

session_size : (group : ℕ) → length (session group) ≡ 2
session_size group = elim (session_cases group) [
  | inl zero_is ↦ ap length zero_is
  | inr other ↦ elim other [ inl one_is ↦ ap length one_is | inr two_is ↦ ap length two_is ]
]

-- ---- lines

row_size : (key : ℕ) → key < 1000000 → length (row_line key) ≤ 125
unfolding row_line
row_size key few =
    let size = line_size (codes "row") (accounts ∷ id_cell key ∷ owner_cell key ∷ codes "balance=100" ∷ codes "note=nnnnnnnnnnnnnnnnnnnnnnnnnnnnnnnnnnnnnnnnnnnnnnnnnnnnnnnnnnnnnnnn" ∷ []) in
    omega (arith, size, numbered_size (codes "id=") key few, numbered_size (codes "owner=u") key few)

insert_size : (group key : ℕ) → key < 1000000 → length (insert_line group key) ≤ 68
insert_size group key few =
    let size = line_size (session group) (codes "insert" ∷ accounts ∷ id_cell key ∷ owner_cell key ∷ codes "balance=0" ∷ codes "note=new" ∷ []) in
    omega (arith, size, session_size group, numbered_size (codes "id=") key few, numbered_size (codes "owner=u") key few)

balance_size : (group key balance : ℕ) → key < 1000000 → balance < 1000000 → length (balance_line group key balance) ≤ 68
balance_size group key balance few small =
    let size = line_size (session group) (codes "update" ∷ accounts ∷ id_cell key ∷ codes "set" ∷ numbered (codes "balance=") balance ∷ []) in
    omega (arith, size, session_size group, numbered_size (codes "id=") key few, numbered_size (codes "balance=") balance small)

delete_size : (group key : ℕ) → key < 1000000 → length (delete_line group key) ≤ 68
delete_size group key few =
    let size = line_size (session group) (codes "delete" ∷ accounts ∷ id_cell key ∷ []) in
    omega (arith, size, session_size group, numbered_size (codes "id=") key few)

note_size : (group key : ℕ) → key < 1000000 → group < 1000000 → length (note_line group key) ≤ 68
note_size group key few small =
    let size = line_size (session group) (codes "update" ∷ accounts ∷ id_cell key ∷ codes "set" ∷ numbered (codes "note=g") group ∷ []) in
    omega (arith, size, session_size group, numbered_size (codes "id=") key few, numbered_size (codes "note=g") group small)

begin_size : (group : ℕ) → length (begin_line group) ≡ 8
begin_size group = omega (arith, line_size (session group) (codes "begin" ∷ []), session_size group)

commit_size : (group : ℕ) → length (commit_line group) ≡ 9
commit_size group = omega (arith, line_size (session group) (codes "commit" ∷ []), session_size group)

mod_less : (n m : ℕ) → 0 < m → n % m < m
mod_less n m some = omega (arith, some)

abbrev chosen : ℕ → ℕ → ℕ → ℕ → ℕ → Bool → Bool → Bool → List ℕ × ℕ
chosen group key balance second third inserts sets deletes =
    if inserts then (insert_line group key, second)
    else (if sets then (balance_line group key balance, third) else (if deletes then (delete_line group key, second) else (note_line group key, second)))

one_size : (group key balance second third : ℕ) → key < 1000000 → balance < 1000000 → group ≤ 90000 → (inserts sets deletes : Bool) → length (chosen group key balance second third inserts sets deletes).0 ≤ 68
one_size group key balance second third few small few_groups true sets deletes = insert_size group key few
one_size group key balance second third few small few_groups false true deletes = balance_size group key balance few small
one_size group key balance second third few small few_groups false false true = delete_size group key few
one_size group key balance second third few small few_groups false false false = note_size group key few (omega arith)

change_size : (rows group before : ℕ) → rows ≤ 400000 → group ≤ 90000 → length (change rows group before).0 ≤ 68
unfolding change
change_size rows group before few_rows few_groups =
    let first = next_state before in
    let second = next_state first in
    let third = next_state second in
    let kind = drawn second % 4 in
    one_size group (1 + drawn first % (rows + 100)) (drawn third % 1000) second third (omega (arith, mod_less (drawn first) (rows + 100) (omega arith))) (omega (arith, mod_less (drawn third) 1000 (omega arith))) few_groups
    (kind == 0) (kind == 1) (kind == 2)

before_size : (group : ℕ) → total (lines_before group) ≤ 10
before_size group = by (nat_lt 1 group)
  where
    by : (b : Bool) → total (if b then commit_line (group - 1) ∷ [] else []) ≤ 10
    by true = omega (arith, commit_size (group - 1))
    by false = omega arith

group_size : (rows group before : ℕ) → rows ≤ 400000 → group ≤ 90000 → total (group_lines rows group before).0 ≤ 231
unfolding group_lines
group_size rows group before few_rows few_groups =
    let one = change rows group before in
    let two = change rows group one.1 in
    omega (arith, begin_size group, change_size rows group before few_rows few_groups, change_size rows group one.1 few_rows few_groups, change_size rows group two.1 few_rows few_groups, before_size group, total-append (lines_before group) (tick_line ∷ []))

rows_size : (count first : ℕ) → first + count ≤ 1000000 → total (row_lines first count) ≤ 126 * count
unfolding row_lines
rows_size zero first few = omega arith
rows_size (suc count) first few = omega (arith, row_size first (omega arith), rows_size count (first + 1) (omega arith))

groups_size : (rows count first before : ℕ) → rows ≤ 400000 → first + count ≤ 90001 → total (groups_from rows first count before) ≤ 231 * count
unfolding groups_from
groups_size rows zero first before few_rows few = omega arith
groups_size rows (suc count) first before few_rows few =
    omega (
      arith,
      group_size rows first before few_rows (omega arith),
      groups_size rows count (first + 1) (group_lines rows first before).1 few_rows (omega arith),
      total-append (group_lines rows first before).0 (groups_from rows (first + 1) count (group_lines rows first before).1),
    )

last_size : (groups : ℕ) → total (last_lines groups) ≤ 10
last_size groups = by (groups == 0)
  where
    by : (b : Bool) → total (if b then [] else commit_line groups ∷ []) ≤ 10
    by true = omega arith
    by false = omega (arith, commit_size groups)

-- ---- all

pub workloads_short : WorkloadsAreShort
unfolding workload_lines
workloads_short number rows groups few_rows few_groups =
    omega (
      arith,
      text_size (workload_lines number rows groups),
      total-append (row_lines 1 rows ++ groups_from rows 1 groups number) (last_lines groups),
      total-append (row_lines 1 rows) (groups_from rows 1 groups number),
      rows_size rows 1 (omega arith),
      groups_size rows groups 1 number few_rows (omega arith),
      last_size groups,
    )
