-- What the lines of a workload say.
use Rattle.std.proofs.Common.{◌≡◌, ◌⊎◌, inl, inr, ℕ, zero, suc, ◌<◌, ◌^◌, ◌%◌, true, false, List, [], ◌∷◌, get_or, Some, codes, refl, ap, arith}
use Rattle.std.specs.Fmt.{decimal}
use Rattle.std.specs.List.{list_all}
use Rattle.std.proofs.lemmas.Bool.{ltb-true}
use Rattle.std.proofs.lemmas.Fmt.{decimal_digit}
use Rattle.std.proofs.lemmas.List.{append-nil}
use Rattle.std.proofs.lemmas.Str.{is_utf8-from_IsUtf8, IsUtf8-from_ascii}
use Rattle.dbl_base.specs.Lines.{is_passed_over}
use Rattle.dbl_model_table.specs.declared.table.TableName.{TableName}
use Rattle.dbl_model_table.specs.declared.named_cell.NamedCell.{NamedCell}
use Rattle.dbl_script.specs.declared.script.ScriptRow.{ScriptRow}
use Rattle.dbl_script.specs.declared.script.Step.{Step}
use Rattle.dbl_script.specs.declared.script.Step.TheVariants.{Begin, Commit, Insert, Update, Delete, Tick}
use Rattle.dbl_script.specs.declared.line.Line.{Line}
use Rattle.dbl_script.specs.declared.line.Line.TheVariants.{Row, Act}
use Rattle.dbl_script.specs.Reads.{all_of, some_of}
use Rattle.dbl_script.specs.Texts as text
use Rattle.dbl_script.specs.Grammar.{value_cell_of, cell_in, cell_of, row_in, insert_in, update_in, delete_in, verb_in, step_in, worded, line_at}
use Rattle.dbl_gen.specs.Laws.{account_row}
use Rattle.dbl_gen.specs.Workload.{line_of, accounts, numbered, id_cell, owner_cell, row_line, session}
use Rattle.dbl_gen.proofs.Plain.{free, is_plain, plain_words, plain_line, and_both, plain_decimal, free_percent, parts_last, and_first, and_second}

ascii_at : (bytes : List ℕ) → is_plain bytes ≡ true → (i : ℕ) → get_or bytes i 0 < 128
ascii_at [] is i = omega arith
ascii_at (c ∷ cs) is zero = ltb-true c 128 (and_first _ _ (and_first _ _ is))
ascii_at (c ∷ cs) is (suc i) = ascii_at cs (and_second _ _ is) i

pub utf8_plain : (bytes : List ℕ) → is_plain bytes ≡ true → text.utf8_text bytes ≡ Some bytes
unfolding text.utf8_text
utf8_plain bytes is = rw (is_utf8-from_IsUtf8 bytes (IsUtf8-from_ascii bytes (λ i. ascii_at bytes is i))) refl

-- a plain word is the text of a cell as it stands
pub text_plain : (bytes : List ℕ) → is_plain bytes ≡ true → text.text_of bytes ≡ Some bytes
unfolding text.text_of text.unescaped_bytes text.escapes_of
text_plain bytes is = rw (parts_last 37 bytes (free_percent bytes is), append-nil bytes) (utf8_plain bytes is)

abbrev pub named : List ℕ → List ℕ → NamedCell
named column value = record { column = column; text = Some value }

pub value_plain : (column value : List ℕ) → text.column_name_of column ≡ Some column → is_plain value ≡ true → value_cell_of (column, value) ≡ Some (named column value)
unfolding value_cell_of
value_plain column value name is = rw (name, text_plain value is) refl

abbrev pub account_name : TableName
account_name = record { schema = codes "public"; name = codes "accounts" }

pub accounts_named : text.table_name_of accounts ≡ Some account_name
unfolding text.table_name_of text.name_of
accounts_named = rw (utf8_plain (codes "public") refl, utf8_plain (codes "accounts") refl) refl

module _ (key : ℕ) (small : key < 2 ^ 64) where
  plain_key : is_plain (decimal key) ≡ true
  plain_key = plain_decimal key small

  pub id_read : cell_of (id_cell key) ≡ Some (named (codes "id") (decimal key))
  unfolding cell_of cell_in text.column_name_of
  id_read = value_plain (codes "id") (decimal key) refl plain_key

  pub owner_read : cell_of (owner_cell key) ≡ Some (named (codes "owner") (117 ∷ decimal key))
  unfolding cell_of cell_in text.column_name_of
  owner_read = value_plain (codes "owner") (117 ∷ decimal key) refl plain_key

  pub balance_read : cell_of (numbered (codes "balance=") key) ≡ Some (named (codes "balance") (decimal key))
  unfolding cell_of cell_in text.column_name_of
  balance_read = value_plain (codes "balance") (decimal key) refl plain_key

  pub note_read : cell_of (numbered (codes "note=g") key) ≡ Some (named (codes "note") (103 ∷ decimal key))
  unfolding cell_of cell_in text.column_name_of
  note_read = value_plain (codes "note") (103 ∷ decimal key) refl plain_key

-- cells that are written out
no_balance : cell_of (codes "balance=0") ≡ Some (named (codes "balance") (codes "0"))
unfolding cell_of cell_in text.column_name_of
no_balance = value_plain (codes "balance") (codes "0") refl refl

new_note : cell_of (codes "note=new") ≡ Some (named (codes "note") (codes "new"))
unfolding cell_of cell_in text.column_name_of
new_note = value_plain (codes "note") (codes "new") refl refl

hundred : cell_of (codes "balance=100") ≡ Some (named (codes "balance") (codes "100"))
unfolding cell_of cell_in text.column_name_of
hundred = value_plain (codes "balance") (codes "100") refl refl

long_note : cell_of (codes "note=nnnnnnnnnnnnnnnnnnnnnnnnnnnnnnnnnnnnnnnnnnnnnnnnnnnnnnnnnnnnnnnn") ≡ Some (named (codes "note") (codes "nnnnnnnnnnnnnnnnnnnnnnnnnnnnnnnnnnnnnnnnnnnnnnnnnnnnnnnnnnnnnnnn"))
unfolding cell_of cell_in text.column_name_of
long_note = value_plain (codes "note") (codes "nnnnnnnnnnnnnnnnnnnnnnnnnnnnnnnnnnnnnnnnnnnnnnnnnnnnnnnnnnnnnnnn") refl refl

-- ---- lines

-- the line with this word at its beginning says what its words do
pub said_by_words : (number : ℕ) (first : List ℕ) (words : List (List ℕ)) (line : Line) → is_passed_over (line_of (first ∷ words)) ≡ false → list_all is_plain (first ∷ words) ≡ true → worded number (first ∷ words) ≡ Some line → line_at number (line_of (first ∷ words)) ≡ Some line
unfolding line_at
said_by_words number first words line kept plain said = rw (kept, plain_words first words plain) said

-- the three sessions
pub session_cases : (group : ℕ) → (session group ≡ codes "s0") ⊎ ((session group ≡ codes "s1") ⊎ (session group ≡ codes "s2"))
session_cases group = by_rest (group % 3) (omega arith)
  where
    by_rest : (n : ℕ) → n < 3 → (numbered (codes "s") n ≡ codes "s0") ⊎ ((numbered (codes "s") n ≡ codes "s1") ⊎ (numbered (codes "s") n ≡ codes "s2"))
    by_rest zero small = inl (ap (λ ds. 115 ∷ ds) (decimal_digit 0 (omega arith)))
    by_rest (suc zero) small = inr (inl (ap (λ ds. 115 ∷ ds) (decimal_digit 1 (omega arith))))
    by_rest (suc (suc zero)) small = inr (inr (ap (λ ds. 115 ∷ ds) (decimal_digit 2 (omega arith))))
    by_rest (suc (suc (suc n))) small = absurd (omega arith)

-- a line that says a step, and one that says a row
pub record IsStep (line : List ℕ) : Type 0 where
  pub whole : free 10 line ≡ true
  pub step : Step
  pub says : (number : ℕ) → line_at number line ≡ Some (Act step)

pub record IsRow (line : List ℕ) : Type 0 where
  pub whole : free 10 line ≡ true
  pub row : ℕ → ScriptRow
  pub says : (number : ℕ) → line_at number line ≡ Some (Row (row number))

steps_by_words : (first : List ℕ) (words : List (List ℕ)) (step : Step) → is_passed_over (line_of (first ∷ words)) ≡ false → list_all is_plain (first ∷ words) ≡ true → ((number : ℕ) → worded number (first ∷ words) ≡ Some (Act step)) → IsStep (line_of (first ∷ words))
steps_by_words first words step kept plain said = record {
  whole = plain_line (first ∷ words) plain;
  step = step;
  says = λ number. said_by_words number first words (Act step) kept plain (said number);
}

pub tick_steps : IsStep (codes "tick")
unfolding worded
tick_steps = steps_by_words (codes "tick") [] Tick refl refl (λ number. refl)

module _ (digit : ℕ) (reads : text.session_of (115 ∷ digit ∷ []) ≡ Some (115 ∷ digit ∷ [])) (plain : is_plain (115 ∷ digit ∷ []) ≡ true) where
  pub begin_steps : IsStep (line_of ((115 ∷ digit ∷ []) ∷ codes "begin" ∷ []))
  unfolding worded step_in verb_in
  begin_steps = steps_by_words (115 ∷ digit ∷ []) (codes "begin" ∷ []) (Begin (115 ∷ digit ∷ [])) refl (and_both _ _ plain refl) (λ number. rw reads refl)

  pub commit_steps : IsStep (line_of ((115 ∷ digit ∷ []) ∷ codes "commit" ∷ []))
  unfolding worded step_in verb_in
  commit_steps = steps_by_words (115 ∷ digit ∷ []) (codes "commit" ∷ []) (Commit (115 ∷ digit ∷ [])) refl (and_both _ _ plain refl) (λ number. rw reads refl)

  module _ (key : ℕ) (small : key < 2 ^ 64) where
    id_cells : List NamedCell
    id_cells = named (codes "id") (decimal key) ∷ []

    pub delete_steps : IsStep (line_of ((115 ∷ digit ∷ []) ∷ codes "delete" ∷ accounts ∷ id_cell key ∷ []))
    unfolding worded step_in verb_in delete_in some_of all_of id_cells
    delete_steps = steps_by_words (115 ∷ digit ∷ []) (codes "delete" ∷ accounts ∷ id_cell key ∷ []) (Delete (115 ∷ digit ∷ []) account_name id_cells) refl
        (and_both _ _ plain (and_both _ _ (plain_decimal key small) refl))
        (λ number. rw (reads, accounts_named, id_read key small) refl)

    insert_cells : List NamedCell
    insert_cells = named (codes "id") (decimal key) ∷ named (codes "owner") (117 ∷ decimal key) ∷ named (codes "balance") (codes "0") ∷ named (codes "note") (codes "new") ∷ []

    pub insert_steps : IsStep (line_of ((115 ∷ digit ∷ []) ∷ codes "insert" ∷ accounts ∷ id_cell key ∷ owner_cell key ∷ codes "balance=0" ∷ codes "note=new" ∷ []))
    unfolding worded step_in verb_in insert_in some_of all_of insert_cells
    insert_steps = steps_by_words (115 ∷ digit ∷ []) (codes "insert" ∷ accounts ∷ id_cell key ∷ owner_cell key ∷ codes "balance=0" ∷ codes "note=new" ∷ []) (Insert (115 ∷ digit ∷ []) account_name insert_cells) refl
        (and_both _ _ plain (and_both _ _ (plain_decimal key small) (and_both _ _ (plain_decimal key small) refl)))
        (λ number. rw (reads, accounts_named, id_read key small, owner_read key small, no_balance, new_note) refl)

    pub balance_steps : (balance : ℕ) → balance < 2 ^ 64 → IsStep (line_of ((115 ∷ digit ∷ []) ∷ codes "update" ∷ accounts ∷ id_cell key ∷ codes "set" ∷ numbered (codes "balance=") balance ∷ []))
    unfolding worded step_in verb_in update_in some_of all_of id_cells
    balance_steps balance fits = steps_by_words (115 ∷ digit ∷ []) (codes "update" ∷ accounts ∷ id_cell key ∷ codes "set" ∷ numbered (codes "balance=") balance ∷ []) (Update (115 ∷ digit ∷ []) account_name id_cells (named (codes "balance") (decimal balance) ∷ [])) refl
        (and_both _ _ plain (and_both _ _ (plain_decimal key small) (and_both _ _ (plain_decimal balance fits) refl)))
        (λ number. rw (reads, accounts_named, id_read key small, balance_read balance fits) refl)

    pub note_steps : (group : ℕ) → group < 2 ^ 64 → IsStep (line_of ((115 ∷ digit ∷ []) ∷ codes "update" ∷ accounts ∷ id_cell key ∷ codes "set" ∷ numbered (codes "note=g") group ∷ []))
    unfolding worded step_in verb_in update_in some_of all_of id_cells
    note_steps group fits = steps_by_words (115 ∷ digit ∷ []) (codes "update" ∷ accounts ∷ id_cell key ∷ codes "set" ∷ numbered (codes "note=g") group ∷ []) (Update (115 ∷ digit ∷ []) account_name id_cells (named (codes "note") (103 ∷ decimal group) ∷ [])) refl
        (and_both _ _ plain (and_both _ _ (plain_decimal key small) (and_both _ _ (plain_decimal group fits) refl)))
        (λ number. rw (reads, accounts_named, id_read key small, note_read group fits) refl)

-- an account of the beginning
row_words : ℕ → List (List ℕ)
row_words key = accounts ∷ id_cell key ∷ owner_cell key ∷ codes "balance=100" ∷ codes "note=nnnnnnnnnnnnnnnnnnnnnnnnnnnnnnnnnnnnnnnnnnnnnnnnnnnnnnnnnnnnnnnn" ∷ []

row_plain : (key : ℕ) → key < 2 ^ 64 → list_all is_plain (codes "row" ∷ row_words key) ≡ true
unfolding row_words
row_plain key small = and_both _ _ (plain_decimal key small) (and_both _ _ (plain_decimal key small) refl)

pub row_said : (key number : ℕ) → key < 2 ^ 64 → line_at number (row_line key) ≡ Some (Row (account_row key number))
unfolding row_line row_words worded row_in some_of all_of
row_said key number small =
    said_by_words number (codes "row") (row_words key) (Row (account_row key number)) refl (row_plain key small)
    (rw (accounts_named, id_read key small, owner_read key small, hundred, long_note) refl)

pub row_is : (key : ℕ) → key < 2 ^ 64 → IsRow (row_line key)
unfolding row_line row_words
row_is key small = record {
  whole = plain_line (codes "row" ∷ row_words key) (row_plain key small);
  row = account_row key;
  says = λ number. row_said key number small;
}
