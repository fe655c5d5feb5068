-- Lines that are applied one after another.
use Rattle.std.proofs.Common.{◌≡◌, ◌∙◌, ◌==◌, ℕ, ◌+◌, ◌<◌, ◌≤◌, List, [], ◌∷◌, ◌++◌, Bool, true, false, cond, Option, Some, None, length, append_assoc, append-nil, refl, sym, ap, subst, arith}
use Rattle.std.proofs.lemmas.Bool.Decides.{nat_tests}
use Rattle.std.specs.List.{cons_option}
use Rattle.std.specs.Option.{option_to_list}
use Rattle.std.specs.Str.{IsUtf8, is_utf8}
use Rattle.std.proofs.lemmas.Str.{IsUtf8-from_is_utf8, is_utf8-from_IsUtf8}
use Rattle.dbl_base.specs.Lines.{lines_of}
use Rattle.dbl_record.specs.Acts.{Reading}
use Rattle.dbl_record.specs.Reading.{reading_in}
use Rattle.dbl_consume.specs.declared.consumer.Consumer.{Consumer}
use Rattle.dbl_consume.specs.Holdings.{Took, placeholder_of}
use Rattle.dblog_replay.specs.declared.apply.LineFault.{LineFault}
use Rattle.dblog_replay.specs.Apply.{reading_of_line, readings_of_lines, fault_in, line_fault_of, or_later_line, first_line_fault, first_fault_from}

-- the lines up to this number were applied
pub record IsApplying (placeholder text rest : List ℕ) (held : Consumer) (number : ℕ) : Type 0 where
  pub taken : List Reading
  pub took : Took taken held
  pub same : placeholder_of held ≡ placeholder
  pub faults : first_line_fault placeholder (lines_of text) ≡ first_fault_from (number + 1) placeholder (lines_of rest)
  pub all : readings_of_lines (lines_of text) ≡ taken ++ readings_of_lines (lines_of rest)
  pub count : number + length rest ≤ length text

cons_option-append : {A : Type 0} (o : Option A) (xs : List A) → cons_option o xs ≡ option_to_list o ++ xs
cons_option-append None xs = refl
cons_option-append (Some x) xs = refl

pub applying_begins : (placeholder text : List ℕ) (held : Consumer) → Took [] held → placeholder_of held ≡ placeholder → IsApplying placeholder text text held 0
applying_begins placeholder text held took same = record { taken = []; took = took; same = same; faults = refl; all = refl; count = omega arith }

-- one more line was applied
pub one_applied : (placeholder text rest line subsequent : List ℕ) (old new : Consumer) (number next : ℕ) → IsApplying placeholder text rest old number
    → lines_of rest ≡ line ∷ lines_of subsequent → length subsequent < length rest → next ≡ number + 1 → fault_in (placeholder_of old) line ≡ None
    → ((taken : List Reading) → Took taken old → Took (taken ++ option_to_list (reading_of_line line)) new) → placeholder_of new ≡ placeholder_of old
    → IsApplying placeholder text subsequent new next
one_applied placeholder text rest line subsequent old new number next so_far first shorter next_is good took kept =
    let good' : fault_in placeholder line ≡ None = subst (λ p. fault_in p line ≡ None) so_far.same good in
    record {
      taken = so_far.taken ++ option_to_list (reading_of_line line);
      took = took so_far.taken so_far.took;
      same = kept ∙ so_far.same;
      faults =
          so_far.faults ∙ ap (first_fault_from (number + 1) placeholder) first
          ∙ ap (λ f. or_later_line (number + 1) f (first_fault_from (number + 1 + 1) placeholder (lines_of subsequent))) good'
          ∙ ap (λ n. first_fault_from (n + 1) placeholder (lines_of subsequent)) (sym next_is);
      all =
          so_far.all ∙ ap (λ lines. so_far.taken ++ readings_of_lines lines) first
          ∙ ap (λ rs. so_far.taken ++ rs) (cons_option-append (reading_of_line line) (readings_of_lines (lines_of subsequent)))
          ∙ sym (append_assoc so_far.taken (option_to_list (reading_of_line line)) (readings_of_lines (lines_of subsequent)));
      count = omega arith;
    }

-- at the end of the text all lines were applied
pub applied_all : (placeholder text rest : List ℕ) (held : Consumer) (number : ℕ) → IsApplying placeholder text rest held number → length rest ≡ 0
    → Took (readings_of_lines (lines_of text)) held × (placeholder_of held ≡ placeholder) × (first_line_fault placeholder (lines_of text) ≡ None)
applied_all placeholder text [] held number so_far end =
    (subst (λ taken. Took taken held) (sym (so_far.all ∙ append-nil so_far.taken)) so_far.took, so_far.same, so_far.faults)
applied_all placeholder text (c ∷ cs) held number so_far end = absurd (omega arith)

-- the next line is the first that isn't applied
pub fault_next : (placeholder text rest line subsequent : List ℕ) (old : Consumer) (number next : ℕ) (fault : LineFault)
    → IsApplying placeholder text rest old number
    → lines_of rest ≡ line ∷ lines_of subsequent → next ≡ number + 1 → fault_in (placeholder_of old) line ≡ Some fault
    → first_line_fault placeholder (lines_of text) ≡ Some (record { number = next; fault = fault })
fault_next placeholder text rest line subsequent old number next fault so_far first next_is bad =
    let bad' : fault_in placeholder line ≡ Some fault = subst (λ p. fault_in p line ≡ Some fault) so_far.same bad in
    so_far.faults ∙ ap (first_fault_from (number + 1) placeholder) first
    ∙ ap (λ f. or_later_line (number + 1) f (first_fault_from (number + 1 + 1) placeholder (lines_of subsequent))) bad'
    ∙ ap (λ n. Some (record { number = n; fault = fault })) (sym next_is)

-- ---- one line

module _ (line : List ℕ) (some : 0 < length line) where
  pub reading_of_text : IsUtf8 line → reading_of_line line ≡ reading_in line
  reading_of_text text = go line some text
    where
      go : (bytes : List ℕ) → 0 < length bytes → IsUtf8 bytes → reading_of_line bytes ≡ reading_in bytes
      go [] some text = absurd (omega arith)
      go (c ∷ cs) some text = ap (λ b. cond b (reading_in (c ∷ cs)) None) (is_utf8-from_IsUtf8 (c ∷ cs) text)

  pub reading_of_no_text : (IsUtf8 line → ⊥) → reading_of_line line ≡ None
  reading_of_no_text none = go line some none
    where
      is_no : (bytes : List ℕ) (b : Bool) → is_utf8 bytes ≡ b → (IsUtf8 bytes → ⊥) → cond b (reading_in bytes) None ≡ None
      is_no bytes true e none = absurd (none (IsUtf8-from_is_utf8 bytes e))
      is_no bytes false e none = refl

      go : (bytes : List ℕ) → 0 < length bytes → (IsUtf8 bytes → ⊥) → reading_of_line bytes ≡ None
      go [] some none = absurd (omega arith)
      go (c ∷ cs) some none = is_no (c ∷ cs) (is_utf8 (c ∷ cs)) refl none

  pub fault_of_line : (placeholder : List ℕ) → fault_in placeholder line ≡ line_fault_of placeholder (reading_of_line line)
  fault_of_line placeholder = go line some
    where
      go : (bytes : List ℕ) → 0 < length bytes → fault_in placeholder bytes ≡ line_fault_of placeholder (reading_of_line bytes)
      go [] some = absurd (omega arith)
      go (c ∷ cs) some = refl

-- a line whose record is this, if it has one
pub reading_of_bytes : (line text : List ℕ) (reading : Option Reading) → 0 < length line → text ≡ line → IsUtf8 line → reading_in text ≡ reading
    → reading_of_line line ≡ reading
reading_of_bytes line text reading some same utf8 is = reading_of_text line some utf8 ∙ ap reading_in (sym same) ∙ is

pub some_bytes : (line : List ℕ) → (length line == 0) ≡ false → 0 < length line
some_bytes line e = grind (arith, nat_tests)

pub regroup : (a b c d : List ℕ) → a ++ (b ++ (c ++ d)) ≡ ((a ++ b) ++ c) ++ d
regroup a b c d = sym (simp append_assoc)
