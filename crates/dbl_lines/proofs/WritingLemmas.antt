-- Texts that are written one after the other.
use Rattle.std.proofs.Common.{◌≡◌, ◌∙◌, ℕ, ◌+◌, Option, Some, List, [], ◌++◌, length, take, drop, sym, ap, subst, append_assoc, append-nil}
use Rattle.std.proofs.lemmas.List.{take-append-drop}
use Rattle.std.proofs.Math.Seq.{take-append-add, take-append_seam}
use Rattle.dbl_base.specs.Lines.{lines_text}
use Rattle.dbl_base.proofs.LineLemmas.{lines_text-append}
use Rattle.dbl_lines.specs.declared.error.PrintError.{PrintError}
use Rattle.dbl_lines.specs.declared.error.PrintError.TheVariants.{OutputFailed, Memory}
use Rattle.dbl_lines.specs.Writing.{Wrote, WrotePrefix, PrintFails}

pub wrote_none : (before : Option (List ℕ)) (text : List ℕ) → text ≡ [] → Wrote before before text
wrote_none before text none bytes is = is ∙ ap Some (sym (ap (λ t. bytes ++ t) none ∙ append-nil bytes))

pub wrote_then : (before middle after : Option (List ℕ)) (first second : List ℕ) → Wrote before middle first → Wrote middle after second → Wrote before after (first ++ second)
wrote_then before middle after first second one two bytes is = two (bytes ++ first) (one bytes is) ∙ ap Some (append_assoc bytes first second)

pub front_then : (before middle after : Option (List ℕ)) (first second : List ℕ) → Wrote before middle first → WrotePrefix middle after second → WrotePrefix before after (first ++ second)
front_then before middle after first second one two bytes is =
    let part = two (bytes ++ first) (one bytes is) in
    (length first + part.0, part.1 ∙ ap Some (append_assoc bytes first (take part.0 second) ∙ ap (λ t. bytes ++ t) (sym (take-append-add first second part.0))))

take_of : {A : Type 0} (n : ℕ) (xs ys : List A) → take n xs ≡ take (length (take n xs)) (xs ++ ys)
take_of n xs ys =
    let split : xs ++ ys ≡ take n xs ++ (drop n xs ++ ys) = ap (λ l. l ++ ys) (sym (take-append-drop n xs)) ∙ append_assoc (take n xs) (drop n xs) ys in
    sym (ap (take (length (take n xs))) split ∙ take-append_seam (take n xs) (drop n xs ++ ys))

-- a prefix of a prefix
pub front_more : (before after : Option (List ℕ)) (first second : List ℕ) → WrotePrefix before after first → WrotePrefix before after (first ++ second)
front_more before after first second front bytes is =
    let part = front bytes is in
    (length (take part.0 first), part.1 ∙ ap (λ t. Some (bytes ++ t)) (take_of part.0 first second))

-- more lines were to follow
pub fails_more : (lines more : List (List ℕ)) (error : PrintError) (before after : Option (List ℕ)) → PrintFails lines error before after → PrintFails (lines ++ more) error before after
fails_more lines more OutputFailed before after fails = subst (WrotePrefix before after) (sym (lines_text-append lines more)) (front_more before after (lines_text lines) (lines_text more) fails)
fails_more lines more Memory before after fails = (length (take fails.0 lines), subst (λ ls. Wrote before after (lines_text ls)) (take_of fails.0 lines more) fails.1)
