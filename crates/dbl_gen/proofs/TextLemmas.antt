-- Lines that are written one after the other.
use Rattle.std.proofs.Common.{◌≡◌, ◌∙◌, ℕ, suc, ◌+◌, ◌-◌, ◌<◌, ◌≤◌, List, [], ◌∷◌, ◌++◌, append_assoc, refl, ap, sym, arith}
use Rattle.std.proofs.lemmas.List.{append-nil}
use Rattle.dbl_base.specs.Lines.{lines_text}
use Rattle.dbl_base.proofs.LineLemmas.{lines_text-append}
use Rattle.dbl_gen.specs.Workload.{row_line, row_lines, change, begin_line, lines_before, tick_line, group_lines, groups_from, table_lines, last_lines, workload_lines}

-- what is written of a line in pieces
pub joined_one : (old p d q e end : List ℕ) → old ++ (p ++ (d ++ (q ++ (e ++ end)))) ≡ old ++ ((p ++ (d ++ (q ++ e))) ++ end)
joined_one old p d q e end = simp append_assoc

pub joined_two : (old p d q e t end : List ℕ) → old ++ (p ++ (d ++ (q ++ (e ++ (t ++ end))))) ≡ old ++ ((p ++ (d ++ (q ++ (e ++ t)))) ++ end)
joined_two old p d q e t end = simp append_assoc

pub joined_three : (old p d q e r f end : List ℕ) → old ++ (p ++ (d ++ (q ++ (e ++ (r ++ (f ++ end)))))) ≡ old ++ ((p ++ (d ++ (q ++ (e ++ (r ++ f))))) ++ end)
joined_three old p d q e r f end = simp append_assoc

pub joined_four : (old p d q e r f t end : List ℕ) → old ++ (p ++ (d ++ (q ++ (e ++ (r ++ (f ++ (t ++ end))))))) ≡ old ++ ((p ++ (d ++ (q ++ (e ++ (r ++ (f ++ t)))))) ++ end)
joined_four old p d q e r f t end = simp append_assoc

-- one more row
pub rows_more : (before after whole : List ℕ) (row count : ℕ) → row < count → before ++ lines_text (row_lines (row + 1) (count - row)) ≡ whole → after ≡ before ++ lines_text (row_line (row + 1) ∷ [])
    → after ++ lines_text (row_lines (row + 1 + 1) (count - (row + 1))) ≡ whole
unfolding row_lines
rows_more before after whole row count less so_far is =
    let left : count - row ≡ suc (count - (row + 1)) = omega arith in
    let one : lines_text (row_lines (row + 1) (count - row)) ≡ lines_text (row_line (row + 1) ∷ []) ++ lines_text (row_lines (row + 1 + 1) (count - (row + 1))) = rw left (lines_text-append (row_line (row + 1) ∷ []) (row_lines (row + 1 + 1) (count - (row + 1)))) in
    ap (λ front. front ++ lines_text (row_lines (row + 1 + 1) (count - (row + 1)))) is
    ∙ append_assoc before (lines_text (row_line (row + 1) ∷ [])) (lines_text (row_lines (row + 1 + 1) (count - (row + 1))))
    ∙ ap (λ rest. before ++ rest) (sym one) ∙ so_far

-- one more group
pub groups_more : (before after whole : List ℕ) (rows group count state next : ℕ) → group < count → before ++ lines_text (groups_from rows (group + 1) (count - group) state) ≡ whole
    → after ≡ before ++ lines_text (group_lines rows (group + 1) state).0 → next ≡ (group_lines rows (group + 1) state).1
    → after ++ lines_text (groups_from rows (group + 1 + 1) (count - (group + 1)) next) ≡ whole
unfolding groups_from
groups_more before after whole rows group count state next less so_far is next_is =
    let left : count - group ≡ suc (count - (group + 1)) = omega arith in
    let one : lines_text (groups_from rows (group + 1) (count - group) state) ≡ lines_text (group_lines rows (group + 1) state).0 ++ lines_text (groups_from rows (group + 1 + 1) (count - (group + 1)) (group_lines rows (group + 1) state).1)
    = rw left (lines_text-append (group_lines rows (group + 1) state).0 (groups_from rows (group + 1 + 1) (count - (group + 1)) (group_lines rows (group + 1) state).1)) in
    ap (λ front. front ++ lines_text (groups_from rows (group + 1 + 1) (count - (group + 1)) next)) is
    ∙ append_assoc before (lines_text (group_lines rows (group + 1) state).0) (lines_text (groups_from rows (group + 1 + 1) (count - (group + 1)) next))
    ∙ ap (λ s. before ++ (lines_text (group_lines rows (group + 1) state).0 ++ lines_text (groups_from rows (group + 1 + 1) (count - (group + 1)) s))) next_is
    ∙ ap (λ rest. before ++ rest) (sym one) ∙ so_far

-- all rows are written
pub rows_done : (before whole : List ℕ) (row count : ℕ) → count ≤ row → before ++ lines_text (row_lines (row + 1) (count - row)) ≡ whole → before ≡ whole
unfolding row_lines
rows_done before whole row count all so_far =
    let left : count - row ≡ 0 = omega arith in
    sym (append-nil before) ∙ sym (rw left refl) ∙ so_far

-- all groups are written
pub groups_done : (before whole : List ℕ) (rows group count state : ℕ) → count ≤ group → before ++ lines_text (groups_from rows (group + 1) (count - group) state) ≡ whole → before ≡ whole
unfolding groups_from
groups_done before whole rows group count state all so_far =
    let left : count - group ≡ 0 = omega arith in
    sym (append-nil before) ∙ sym (rw left refl) ∙ so_far

-- ---- one group

chain : (old a b c d e f : List ℕ) → (((((old ++ a) ++ b) ++ c) ++ d) ++ e) ++ f ≡ old ++ (a ++ (b ++ (c ++ (d ++ (e ++ f)))))
chain old a b c d e f = simp append_assoc

text_group : (a b c d : List ℕ) (lines : List (List ℕ)) (last : List ℕ)
    → lines_text (a ∷ b ∷ c ∷ d ∷ (lines ++ last ∷ [])) ≡ lines_text (a ∷ []) ++ (lines_text (b ∷ []) ++ (lines_text (c ∷ []) ++ (lines_text (d ∷ []) ++ (lines_text lines ++ lines_text (last ∷ [])))))
text_group a b c d lines last =
    lines_text-append (a ∷ []) (b ∷ c ∷ d ∷ (lines ++ last ∷ []))
    ∙ ap (λ r. lines_text (a ∷ []) ++ r) (lines_text-append (b ∷ []) (c ∷ d ∷ (lines ++ last ∷ []))
    ∙ ap (λ r. lines_text (b ∷ []) ++ r) (lines_text-append (c ∷ []) (d ∷ (lines ++ last ∷ []))
    ∙ ap (λ r. lines_text (c ∷ []) ++ r) (lines_text-append (d ∷ []) (lines ++ last ∷ [])
    ∙ ap (λ r. lines_text (d ∷ []) ++ r) (lines_text-append lines (last ∷ [])))))

-- texts that follow from one another, by six lines and more
all_written : (old one two three four five six a b c d : List ℕ) (lines : List (List ℕ)) (last : List ℕ) → one ≡ old ++ lines_text (a ∷ []) → two ≡ one ++ lines_text (b ∷ []) → three ≡ two ++ lines_text (c ∷ []) → four ≡ three ++ lines_text (d ∷ [])
    → five ≡ four ++ lines_text lines → six ≡ five ++ lines_text (last ∷ []) → six ≡ old ++ lines_text (a ∷ b ∷ c ∷ d ∷ (lines ++ last ∷ []))
all_written old one two three four five six a b c d lines last one_is two_is three_is four_is five_is six_is =
    rw (six_is, five_is, four_is, three_is, two_is, one_is) (chain old (lines_text (a ∷ [])) (lines_text (b ∷ [])) (lines_text (c ∷ [])) (lines_text (d ∷ [])) (lines_text lines) (lines_text (last ∷ [])) ∙ ap (λ r. old ++ r) (sym (text_group a b c d lines last)))

group_is : (rows group start first second : ℕ) → first ≡ (change rows group start).1 → second ≡ (change rows group first).1
    → begin_line group ∷ (change rows group start).0 ∷ (change rows group first).0 ∷ (change rows group second).0 ∷ (lines_before group ++ tick_line ∷ []) ≡ (group_lines rows group start).0
unfolding group_lines
group_is rows group start first second first_is second_is = rw (second_is, first_is) refl

pub group_written : (old one two three four five six : List ℕ) (rows group start first second : ℕ) → one ≡ old ++ lines_text (begin_line group ∷ []) → two ≡ one ++ lines_text ((change rows group start).0 ∷ []) → first ≡ (change rows group start).1
    → three ≡ two ++ lines_text ((change rows group first).0 ∷ []) → second ≡ (change rows group first).1 → four ≡ three ++ lines_text ((change rows group second).0 ∷ [])
    → five ≡ four ++ lines_text (lines_before group) → six ≡ five ++ lines_text (tick_line ∷ []) → six ≡ old ++ lines_text (group_lines rows group start).0
group_written old one two three four five six rows group start first second one_is two_is first_is three_is second_is four_is five_is six_is =
    all_written old one two three four five six (begin_line group) (change rows group start).0 (change rows group first).0 (change rows group second).0 (lines_before group) tick_line one_is two_is three_is four_is five_is six_is
    ∙ ap (λ lines. old ++ lines_text lines) (group_is rows group start first second first_is second_is)

pub group_state : (rows group start first second third : ℕ) → first ≡ (change rows group start).1 → second ≡ (change rows group first).1 → third ≡ (change rows group second).1 → third ≡ (group_lines rows group start).1
unfolding group_lines
group_state rows group start first second third first_is second_is third_is = rw (third_is, second_is, first_is) refl

-- ---- the whole

pub workload_text : (number rows groups : ℕ) → lines_text (workload_lines number rows groups) ≡ ((lines_text table_lines ++ lines_text (row_lines 1 rows)) ++ lines_text (groups_from rows 1 groups number)) ++ lines_text (last_lines groups)
unfolding workload_lines
workload_text number rows groups =
    lines_text-append (table_lines ++ row_lines 1 rows ++ groups_from rows 1 groups number) (last_lines groups)
    ∙ ap (λ front. front ++ lines_text (last_lines groups)) (lines_text-append (table_lines ++ row_lines 1 rows) (groups_from rows 1 groups number) ∙ ap (λ front. front ++ lines_text (groups_from rows 1 groups number)) (lines_text-append table_lines (row_lines 1 rows)))
