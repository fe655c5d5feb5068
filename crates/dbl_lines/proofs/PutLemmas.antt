-- Lines that are put one after the other.
use Rattle.std.proofs.Common.{◌≡◌, ◌∙◌, ℕ, ◌+◌, ◌<◌, Option, Some, Result, Ok, Err, OnOk, IfErr, List, [], ◌∷◌, ◌++◌, length, take, drop, map, refl, sym, ap, subst, append_assoc, append-nil, arith}
use Rattle.std.specs.List.{slice_index_or}
use Rattle.std.proofs.lemmas.List.{drop_more, drop_all}
use Rattle.std.proofs.Math.Seq.{take-append_seam}
use Rattle.dbl_base.specs.Lines.{lines_text}
use Rattle.dbl_base.proofs.LineLemmas.{lines_text-append}
use Rattle.dbl_lines.specs.declared.error.PrintError.{PrintError}
use Rattle.dbl_lines.specs.declared.error.PrintError.TheVariants.{OutputFailed, Memory}
use Rattle.dbl_lines.specs.Writing.{Wrote, WrotePrefix, PrintFails, Prints}
use Rattle.dbl_lines.specs.Gathering.{IsPut, Puts, PutFails, PutsLines, StaysPut}
use Rattle.dbl_lines.proofs.WritingLemmas.{wrote_none, wrote_then, front_then, fails_more}

-- ---- what is put

-- the text of what is written and gathered
put_text : (start now : Option (List ℕ)) (gathered : List ℕ) (lines : List (List ℕ)) → (h : IsPut start now gathered lines) → lines_text h.written ++ gathered ≡ lines_text lines
put_text start now gathered lines h = ap (λ t. lines_text h.written ++ t) h.gathered_are ∙ sym (lines_text-append h.written h.kept) ∙ ap lines_text h.all_are

some_is : (a b : List ℕ) → Some a ≡ Some b → a ≡ b
some_is a b is = cc

pub text_told : (bytes now gathered : List ℕ) (lines : List (List ℕ)) → IsPut (Some bytes) (Some now) gathered lines → now ++ gathered ≡ bytes ++ lines_text lines
text_told bytes now gathered lines h =
    ap (λ t. t ++ gathered) (some_is now (bytes ++ lines_text h.written) (h.wrote bytes refl)) ∙ append_assoc bytes (lines_text h.written) gathered ∙ ap (λ t. bytes ++ t) (put_text (Some bytes) (Some now) gathered lines h)

-- nothing is put yet
pub none_put : (before : Option (List ℕ)) (gathered : List ℕ) → gathered ≡ [] → IsPut before before gathered []
none_put before gathered none = record { written = []; kept = []; wrote = wrote_none before [] refl; gathered_are = none; all_are = refl }

-- one more line is gathered
pub line_put : (start now : Option (List ℕ)) (gathered filled line : List ℕ) (lines : List (List ℕ)) → filled ≡ gathered ++ line ++ 10 ∷ [] → IsPut start now gathered lines → IsPut start now filled (lines ++ line ∷ [])
line_put start now gathered filled line lines is h = record {
  written = h.written;
  kept = h.kept ++ line ∷ [];
  wrote = h.wrote;
  gathered_are = is ∙ append_assoc gathered line (10 ∷ []) ∙ ap (λ t. t ++ (line ++ 10 ∷ [])) h.gathered_are ∙ sym (lines_text-append h.kept (line ∷ []));
  all_are = sym (append_assoc h.written h.kept (line ∷ [])) ∙ ap (λ ls. ls ++ line ∷ []) h.all_are;
}

-- all is written
pub all_written : (start now next : Option (List ℕ)) (gathered : List ℕ) (lines : List (List ℕ)) → Wrote now next gathered → IsPut start now gathered lines → Wrote start next (lines_text lines)
all_written start now next gathered lines wrote h = subst (Wrote start next) (put_text start now gathered lines h) (wrote_then start now next (lines_text h.written) gathered h.wrote wrote)

pub gathered_written : (start now next : Option (List ℕ)) (gathered emptied : List ℕ) (lines : List (List ℕ)) → emptied ≡ [] → Wrote now next gathered → IsPut start now gathered lines → IsPut start next emptied lines
gathered_written start now next gathered emptied lines none wrote h =
    record { written = lines; kept = []; wrote = all_written start now next gathered lines wrote h; gathered_are = none; all_are = append-nil lines }

-- the output failed while it was being written
pub gathered_fails : (start now next : Option (List ℕ)) (gathered : List ℕ) (lines : List (List ℕ)) → WrotePrefix now next gathered → IsPut start now gathered lines → WrotePrefix start next (lines_text lines)
gathered_fails start now next gathered lines front h = subst (WrotePrefix start next) (put_text start now gathered lines h) (front_then start now next (lines_text h.written) gathered h.wrote front)

-- memory ran out: the first lines are written
pub memory_fails : (start now : Option (List ℕ)) (gathered : List ℕ) (lines more : List (List ℕ)) → IsPut start now gathered lines → PrintFails (lines ++ more) Memory start now
memory_fails start now gathered lines more h =
    let first : take (length h.written) (lines ++ more) ≡ h.written
    = ap (take (length h.written)) (ap (λ ls. ls ++ more) (sym h.all_are) ∙ append_assoc h.written h.kept more) ∙ take-append_seam h.written (h.kept ++ more) in
    (length h.written, subst (λ ls. Wrote start now (lines_text ls)) (sym first) h.wrote)

-- what is gathered was to be written at last
pub finishes : (start now next : Option (List ℕ)) (gathered : List ℕ) (lines : List (List ℕ)) (result : Result (Unit {0}) PrintError) → IsPut start now gathered lines
    → OnOk result (Wrote now next gathered) → IfErr result (λ error. (error ≡ OutputFailed) × WrotePrefix now next gathered) → Prints lines result start next
finishes start now next gathered lines (Ok done) h wrote front = all_written start now next gathered lines wrote h
finishes start now next gathered lines (Err error) h wrote front = subst (λ e. PrintFails lines e start next) (sym front.0) (gathered_fails start now next gathered lines front.1 h)

-- ---- more lines

pub no_lines : (gathered : List ℕ) (before : Option (List ℕ)) → Puts [] gathered gathered before before
no_lines gathered before start earlier h = subst (IsPut start before gathered) (sym (append-nil earlier)) h

pub puts_then : (xs ys : List (List ℕ)) (gathered middle later : List ℕ) (before now after : Option (List ℕ)) → Puts xs gathered middle before now → Puts ys middle later now after → Puts (xs ++ ys) gathered later before after
puts_then xs ys gathered middle later before now after one two start earlier h = subst (IsPut start after later) (append_assoc earlier xs ys) (two start (earlier ++ xs) (one start earlier h))

pub puts_then_fails : (xs ys : List (List ℕ)) (gathered middle : List ℕ) (error : PrintError) (before now after : Option (List ℕ)) → Puts xs gathered middle before now → PutFails ys middle error now after → PutFails (xs ++ ys) gathered error before after
puts_then_fails xs ys gathered middle error before now after one fails start earlier h =
    subst (λ ls. PrintFails ls error start after) (append_assoc earlier xs ys) (fails start (earlier ++ xs) (one start earlier h))

-- more lines would have followed
pub fails_before : (xs ys : List (List ℕ)) (gathered : List ℕ) (error : PrintError) (before after : Option (List ℕ)) → PutFails xs gathered error before after → PutFails (xs ++ ys) gathered error before after
fails_before xs ys gathered error before after fails start earlier h =
    subst (λ ls. PrintFails ls error start after) (append_assoc earlier xs ys) (fails_more (earlier ++ xs) ys error start after (fails start earlier h))

pub memory_before : (xs ys : List (List ℕ)) (gathered later : List ℕ) (before after : Option (List ℕ)) → Puts xs gathered later before after → PutFails (xs ++ ys) gathered Memory before after
memory_before xs ys gathered later before after puts start earlier h =
    subst (λ ls. PrintFails ls Memory start after) (append_assoc earlier xs ys) (memory_fails start after later (earlier ++ xs) ys (puts start earlier h))

-- ---- all lines but those that are left

pub record IsPutting (all left : List (List ℕ)) (gathered later : List ℕ) (before after : Option (List ℕ)) : Type 0 where
  pub first : List (List ℕ)
  pub is : first ++ left ≡ all
  pub puts : Puts first gathered later before after

pub putting_begins : (all : List (List ℕ)) (gathered : List ℕ) (before : Option (List ℕ)) → IsPutting all all gathered gathered before before
putting_begins all gathered before = record { first = []; is = refl; puts = no_lines gathered before }

pub putting_more : (all left more next : List (List ℕ)) (gathered middle later : List ℕ) (before now after : Option (List ℕ)) → IsPutting all left gathered middle before now → left ≡ more ++ next → Puts more middle later now after
    → IsPutting all next gathered later before after
putting_more all left more next gathered middle later before now after so_far split puts = record {
  first = so_far.first ++ more;
  is = append_assoc so_far.first more next ∙ ap (λ ls. so_far.first ++ ls) (sym split) ∙ so_far.is;
  puts = puts_then so_far.first more gathered middle later before now after so_far.puts puts;
}

pub putting_ends : (all left : List (List ℕ)) (gathered later : List ℕ) (before after : Option (List ℕ)) → IsPutting all left gathered later before after → left ≡ [] → Puts all gathered later before after
putting_ends all left gathered later before after so_far none =
    subst (λ lines. Puts lines gathered later before after) (sym (append-nil so_far.first) ∙ ap (λ ls. so_far.first ++ ls) (sym none) ∙ so_far.is) so_far.puts

pub putting_fails : (all left more next : List (List ℕ)) (gathered middle : List ℕ) (error : PrintError) (before now after : Option (List ℕ)) → IsPutting all left gathered middle before now → left ≡ more ++ next → PutFails more middle error now after
    → PutFails all gathered error before after
putting_fails all left more next gathered middle error before now after so_far split fails =
    let here = puts_then_fails so_far.first more gathered middle error before now after so_far.puts fails in
    subst (λ lines. PutFails lines gathered error before after) (append_assoc so_far.first more next ∙ ap (λ ls. so_far.first ++ ls) (sym split) ∙ so_far.is) (fails_before (so_far.first ++ more) next gathered error before after here)

pub putting_starves : (all left : List (List ℕ)) (gathered later : List ℕ) (before after : Option (List ℕ)) → IsPutting all left gathered later before after → PutFails all gathered Memory before after
putting_starves all left gathered later before after so_far =
    subst (λ lines. PutFails lines gathered Memory before after) so_far.is (memory_before so_far.first left gathered later before after so_far.puts)

-- ---- where nothing was gathered at first

pub put_prints : (lines : List (List ℕ)) (gathered later : List ℕ) (before now after : Option (List ℕ)) (result : Result (Unit {0}) PrintError) → gathered ≡ [] → Puts lines gathered later before now
    → OnOk result (Wrote now after later) → IfErr result (λ error. (error ≡ OutputFailed) × WrotePrefix now after later) → Prints lines result before after
put_prints lines gathered later before now after result none puts = finishes before now after later lines result (puts before [] (none_put before gathered none))

pub put_fails_prints : (lines : List (List ℕ)) (gathered : List ℕ) (error : PrintError) (before after : Option (List ℕ)) → gathered ≡ [] → PutFails lines gathered error before after → PrintFails lines error before after
put_fails_prints lines gathered error before after none fails = fails before [] (none_put before gathered none)

-- ---- the items that are left of a list

pub left_here : {A : Type 0} (f : A → List ℕ) (xs : List A) (i : ℕ) (x : A) → i < length xs → x ≡ slice_index_or xs i x → map f (drop i xs) ≡ f x ∷ map f (drop (i + 1) xs)
left_here f xs i x within is = ap (map f) (drop_more xs i x within ∙ ap (λ y. y ∷ drop (i + 1) xs) (sym is))

pub none_left : {A : Type 0} (f : A → List ℕ) (xs : List A) (i : ℕ) → length xs ≡ i → map f (drop i xs) ≡ []
none_left f xs i all = ap (map f) (drop_all i xs (omega arith))

-- ---- one line

pub put_line : (line gathered filled later : List ℕ) (result : Result (Unit {0}) PrintError) (before after : Option (List ℕ)) → filled ≡ gathered ++ line ++ 10 ∷ [] → StaysPut result filled later before after → PutsLines (line ∷ []) result gathered later before after
put_line line gathered filled later (Ok done) before after is stays = λ start earlier h. stays start (earlier ++ line ∷ []) (line_put start before gathered filled line earlier is h)
put_line line gathered filled later (Err error) before after is stays = λ start earlier h. stays start (earlier ++ line ∷ []) (line_put start before gathered filled line earlier is h)

pub line_starves : (lines : List (List ℕ)) (gathered : List ℕ) (error : PrintError) (before : Option (List ℕ)) → error ≡ Memory → PutFails lines gathered error before before
line_starves lines gathered error before is = subst (λ e. PutFails lines gathered e before before) (sym is) (λ start earlier h. memory_fails start before gathered earlier lines h)

pub stays_put : (gathered later : List ℕ) (result : Result (Unit {0}) PrintError) (before after : Option (List ℕ)) → OnOk result (Wrote before after gathered) → OnOk result (later ≡ []) → IfErr result (λ error. (error ≡ OutputFailed) × WrotePrefix before after gathered)
    → StaysPut result gathered later before after
stays_put gathered later (Ok done) before after wrote none front = λ start lines h. gathered_written start before after gathered later lines none wrote h
stays_put gathered later (Err error) before after wrote none front = λ start lines h. subst (λ e. PrintFails lines e start after) (sym front.0) (gathered_fails start before after gathered lines front.1 h)

pub no_memory : (result : Result (Unit {0}) PrintError) → IfErr result (λ error. error ≡ OutputFailed) → result ≡ Err Memory → ⊥
no_memory (Ok done) failed is = cc
no_memory (Err OutputFailed) failed is = cc
no_memory (Err Memory) failed is = cc
