-- The lines of a generated workload.
use Rattle.std.specs.Prelude.{ℕ, zero, suc, ◌+◌, ◌-◌, ◌%◌, ◌==◌, nat_lt, if◌then◌else◌, List, [], ◌∷◌, ◌++◌, codes}
use Rattle.std.specs.List.{join_with_byte}
use Rattle.std.specs.Fmt.{decimal}
use Rattle.dbl_base.specs.Lines.{lines_text}
use Rattle.dbl_gen.specs.Draws.{next_state, drawn}

-- a line of these words, separated by spaces
abbrev pub line_of : List (List ℕ) → List ℕ
line_of words = join_with_byte 32 words

-- the name of the table of accounts
abbrev pub accounts : List ℕ
accounts = codes "public.accounts"

-- a text followed by a decimal number
abbrev pub numbered : List ℕ → ℕ → List ℕ
numbered front number = front ++ decimal number

-- the cell of an account's key
abbrev pub id_cell : ℕ → List ℕ
id_cell key = numbered (codes "id=") key

-- the cell of an account's owner
abbrev pub owner_cell : ℕ → List ℕ
owner_cell key = numbered (codes "owner=u") key

-- the lines of two tables, the second of which stays empty
abbrev pub table_lines : List (List ℕ)
table_lines = codes "table public.accounts default toast 64 id:int8:key owner:text balance:int8 note:text"
    ∷ codes "table public.empty default toast 64 id:int4:key name:text" ∷ []

-- the line of an account in the initial state
unfoldable pub row_line : ℕ → List ℕ
row_line key =
    line_of (codes "row" ∷ accounts ∷ id_cell key ∷ owner_cell key ∷ codes "balance=100" ∷ codes
    "note=nnnnnnnnnnnnnnnnnnnnnnnnnnnnnnnnnnnnnnnnnnnnnnnnnnnnnnnnnnnnnnnn" ∷ [])

-- the lines of this many accounts, from this key on
unfoldable pub row_lines : ℕ → ℕ → List (List ℕ)
row_lines first zero = []
row_lines first (suc count) = row_line first ∷ row_lines (first + 1) count

-- the session of a group of steps; the three take turns
abbrev pub session : ℕ → List ℕ
session group = numbered (codes "s") (group % 3)

-- the line that inserts an account
abbrev pub insert_line : ℕ → ℕ → List ℕ
insert_line group key =
    line_of (session group ∷ codes "insert" ∷ accounts ∷ id_cell key ∷ owner_cell key ∷ codes "balance=0" ∷ codes "note=new" ∷ [])

-- the line that updates an account's balance
abbrev pub balance_line : ℕ → ℕ → ℕ → List ℕ
balance_line group key balance =
    line_of (session group ∷ codes "update" ∷ accounts ∷ id_cell key ∷ codes "set" ∷ numbered (codes "balance=") balance ∷ [])

-- the line that deletes an account
abbrev pub delete_line : ℕ → ℕ → List ℕ
delete_line group key = line_of (session group ∷ codes "delete" ∷ accounts ∷ id_cell key ∷ [])

-- the line that updates an account's note
abbrev pub note_line : ℕ → ℕ → List ℕ
note_line group key = line_of (session group ∷ codes "update" ∷ accounts ∷ id_cell key ∷ codes "set" ∷ numbered (codes "note=g") group ∷ [])

-- A change of one account by a group of steps, and the next state of the generator: one draw for the key, one for the kind, and one for a
-- balance if needed.
unfoldable pub change : ℕ → ℕ → ℕ → List ℕ × ℕ
change rows group before =
    let first = next_state before in
    let second = next_state first in
    let third = next_state second in
    let key = 1 + drawn first % (rows + 100) in
    let kind = drawn second % 4 in
    if kind == 0 then (insert_line group key, second)
    else (if kind == 1 then (balance_line group key (drawn third % 1000), third)
    else (if kind == 2 then (delete_line group key, second) else (note_line group key, second)))

-- the line that begins a group's transaction
abbrev pub begin_line : ℕ → List ℕ
begin_line group = line_of (session group ∷ codes "begin" ∷ [])

-- the line that commits a group's transaction
abbrev pub commit_line : ℕ → List ℕ
commit_line group = line_of (session group ∷ codes "commit" ∷ [])

-- the line of a tick
abbrev pub tick_line : List ℕ
tick_line = codes "tick"

-- the commit of the previous group's transaction, if there is one
abbrev pub lines_before : ℕ → List (List ℕ)
lines_before group = if nat_lt 1 group then commit_line (group - 1) ∷ [] else []

-- a group of steps: a transaction begins and makes three changes, and the previous one commits
unfoldable pub group_lines : ℕ → ℕ → ℕ → List (List ℕ) × ℕ
group_lines rows group before =
    let one = change rows group before in
    let two = change rows group one.1 in
    let three = change rows group two.1 in
    (begin_line group ∷ one.0 ∷ two.0 ∷ three.0 ∷ (lines_before group ++ tick_line ∷ []), three.1)

-- this many groups, from this number on
unfoldable pub groups_from : ℕ → ℕ → ℕ → ℕ → List (List ℕ)
groups_from rows first zero before = []
groups_from rows first (suc count) before = let group =
    group_lines rows first before in group.0 ++ groups_from rows (first + 1) count group.1

-- the commit of the last transaction, after all groups
abbrev pub last_lines : ℕ → List (List ℕ)
last_lines groups = if groups == 0 then [] else commit_line groups ∷ []

-- the lines of the workload of a number, with this many accounts and groups
unfoldable pub workload_lines : ℕ → ℕ → ℕ → List (List ℕ)
workload_lines number rows groups = table_lines ++ row_lines 1 rows ++ groups_from rows 1 groups number ++ last_lines groups

-- the workload of a number, with this many accounts and groups, as text
abbrev pub workload : ℕ → ℕ → ℕ → List ℕ
workload number rows groups = lines_text (workload_lines number rows groups)
