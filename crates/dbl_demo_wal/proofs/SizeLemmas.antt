-- How long the entry of a commit is: as long as dbl_tables_rows counts it, so that a commit of its store always fits into one.
use Rattle.std.proofs.Common.{◌≡◌, ◌∙◌, ◌+◌, ◌<◌, ◌≤◌, ◌^◌, ℕ, List, [], ◌∷◌, length, map, refl, ap, arith}
use Rattle.std.specs.Prelude.{fold, sum, flat_map}
use Rattle.std.proofs.lemmas.List.{length-append}
use Rattle.dbl_pgmsg.specs.declared.messages.Message.{Message}
use Rattle.dbl_pgmsg.specs.Grammar.{spelling}
use Rattle.dbl_record.specs.Fields.{number32, number64}
use Rattle.dbl_record.proofs.Sizes.{number32_size, number64_size}
use Rattle.dbl_demo_wal.specs.declared.entry.Entry.TheVariants.{Commits}
use Rattle.dbl_demo_wal.specs.Entries.{change_form, changes_form, entry_form}
use Rattle.dbl_tables_laws.specs.TablesRows.Sending.{entry_size, entry_limit}
use Rattle.dbl_tables_laws.proofs.TablesRowsSizeLemmas.{size_in}

-- the sum with one more in front
sum_front : (ns : List ℕ) (n : ℕ) → sum (n ∷ ns) ≡ n + sum ns
sum_front ns n = by 0 ns
  where
    by : (a : ℕ) (xs : List ℕ) → fold (λ (b x : ℕ). b + x) (a + n) xs ≡ n + fold (λ (b x : ℕ). b + x) a xs
    by a [] = omega arith
    by a (x ∷ xs) =
        let turned : a + n + x ≡ a + x + n = omega arith in
        ap (λ (k : ℕ). fold (λ (b x : ℕ). b + x) k xs) turned ∙ by (a + x) xs

change_size : (m : Message) → length (change_form m) ≡ size_in m
unfolding change_form
change_size m = omega (arith, number32_size (length (spelling m)), length-append (number32 (length (spelling m))) (spelling m))

changes_size : (ms : List Message) → length (flat_map change_form ms) ≡ sum (map size_in ms)
changes_size [] = refl
changes_size (m ∷ ms) = omega (arith, changes_size ms, change_size m, sum_front (map size_in ms) (size_in m), length-append (change_form m) (flat_map change_form ms))

form_size : (ms : List Message) → length (changes_form ms) ≡ 4 + sum (map size_in ms)
unfolding changes_form
form_size ms = omega (arith, changes_size ms, number32_size (length ms), length-append (number32 (length ms)) (flat_map change_form ms))

pub commit_size : (steps : ℕ) (ms : List Message) → length (entry_form (Commits steps ms)) ≡ entry_size ms
unfolding entry_form
commit_size steps ms = omega (arith, form_size ms, number64_size steps, length-append (number64 steps) (changes_form ms))

-- each change takes four bytes and more
fewer : (ms : List Message) → length ms ≤ sum (map size_in ms)
fewer [] = omega arith
fewer (m ∷ ms) = omega (arith, fewer ms, sum_front (map size_in ms) (size_in m))

pub few_in : (ms : List Message) → entry_size ms ≤ entry_limit → length ms < 2 ^ 32
few_in ms short = omega (arith, fewer ms, short)
