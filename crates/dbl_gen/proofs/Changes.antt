-- What a change is, by its kind.
use Rattle.std.proofs.Common.{◌≡◌, ℕ, ◌+◌, ◌%◌, ◌==◌, ◌≢◌, if◌then◌else◌, List, refl}
use Rattle.std.proofs.lemmas.Bool.{ne_eqb}
use Rattle.dbl_gen.specs.Draws.{next_state, drawn}
use Rattle.dbl_gen.specs.Workload.{insert_line, balance_line, delete_line, note_line, change}

-- a change of this kind and key, the states being known
abbrev pub changed : ℕ → ℕ → ℕ → ℕ → ℕ → List ℕ × ℕ
changed group key kind second third =
    if kind == 0 then (insert_line group key, second)
    else (if kind == 1 then (balance_line group key (drawn third % 1000), third)
    else (if kind == 2 then (delete_line group key, second) else (note_line group key, second)))

pub change_is : (rows group before first second key kind : ℕ) → first ≡ next_state before → second ≡ next_state first → key ≡ 1 + drawn first % (rows + 100) → kind ≡ drawn second % 4
    → change rows group before ≡ changed group key kind second (next_state second)
unfolding change
change_is rows group before first second key kind first_is second_is key_is kind_is = rw (key_is, kind_is, second_is, first_is) refl

pub inserts : (group key kind second third : ℕ) → kind ≡ 0 → changed group key kind second third ≡ (insert_line group key, second)
inserts group key kind second third is = rw is refl

pub sets_balance : (group key kind second third : ℕ) → kind ≡ 1 → changed group key kind second third ≡ (balance_line group key (drawn third % 1000), third)
sets_balance group key kind second third is = rw is refl

pub deletes : (group key kind second third : ℕ) → kind ≡ 2 → changed group key kind second third ≡ (delete_line group key, second)
deletes group key kind second third is = rw is refl

pub sets_note : (group key kind second third : ℕ) → kind ≢ 0 → kind ≢ 1 → kind ≢ 2 → changed group key kind second third ≡ (note_line group key, second)
sets_note group key kind second third no_insert no_balance no_delete = rw (ne_eqb kind 0 no_insert, ne_eqb kind 1 no_balance, ne_eqb kind 2 no_delete) refl
