-- A script that is built line by line.
use Rattle.std.proofs.Common.{◌≡◌, ◌∙◌, ℕ, ◌+◌, Bool, true, false, List, [], ◌∷◌, ◌++◌, append_assoc, Option, Some, None, length, length-append, refl, ap, sym, arith}
use Rattle.std.proofs.lemmas.List.{append-nil}
use Rattle.std.specs.List.{filter_map, cons_option}
use Rattle.dbl_script.specs.declared.script.Script.{Script}
use Rattle.dbl_script.specs.declared.line.Line.{Line}
use Rattle.dbl_script.specs.declared.line.Line.TheVariants.{Passed, Table, Row, Act}
use Rattle.dbl_script.specs.Grammar.{line_at}
use Rattle.dbl_base.specs.Lines.{lines_of}
use Rattle.dbl_script.specs.Scripts.{said, table_said, row_said, step_said, script_of, is_empty, follows, is_good, first_bad_after, first_bad}
use Rattle.dbl_script.specs.Building.{with_line, with_said}

cons_option-append : {A : Type 0} (o : Option A) (xs ys : List A) → cons_option o (xs ++ ys) ≡ cons_option o xs ++ ys
cons_option-append None xs ys = refl
cons_option-append (Some x) xs ys = refl

filter_map-append : {A B : Type 0} (f : A → Option B) (xs ys : List A) → filter_map f (xs ++ ys) ≡ filter_map f xs ++ filter_map f ys
filter_map-append f [] ys = refl
filter_map-append f (x ∷ xs) ys = ap (cons_option (f x)) (filter_map-append f xs ys) ∙ cons_option-append (f x) (filter_map f xs) (filter_map f ys)

-- what one more line says is after what the others say
said_more : (n m : ℕ) (before : List (List ℕ)) (line : List ℕ) → m ≡ n + length before → said n (before ++ line ∷ []) ≡ said n before ++ cons_option (line_at m line) []
said_more n m [] line is = let same : m ≡ n = omega arith in ap (λ k. cons_option (line_at k line) []) (sym same)
said_more n m (first ∷ before) line is = ap (cons_option (line_at n first)) (said_more (n + 1) m before line (omega arith)) ∙ cons_option-append (line_at n first) (said (n + 1) before) (cons_option (line_at m line) [])

abbrev script_said : List Line → Script
script_said all = record { tables = filter_map table_said all; rows = filter_map row_said all; steps = filter_map step_said all }

one_line : (all : List Line) (line : Line) → script_said (all ++ line ∷ []) ≡ with_line (script_said all) line
one_line all Passed = rw (filter_map-append table_said all (Passed ∷ []), filter_map-append row_said all (Passed ∷ []), filter_map-append step_said all (Passed ∷ [])) (simp append-nil)
one_line all (Table table) = rw (filter_map-append table_said all (Table table ∷ []), filter_map-append row_said all (Table table ∷ []), filter_map-append step_said all (Table table ∷ [])) (simp append-nil)
one_line all (Row row) = rw (filter_map-append table_said all (Row row ∷ []), filter_map-append row_said all (Row row ∷ []), filter_map-append step_said all (Row row ∷ [])) (simp append-nil)
one_line all (Act step) = rw (filter_map-append table_said all (Act step ∷ []), filter_map-append row_said all (Act step ∷ []), filter_map-append step_said all (Act step ∷ [])) (simp append-nil)

said_line : (all : List Line) (o : Option Line) → script_said (all ++ cons_option o []) ≡ with_said (script_said all) o
said_line all None = ap script_said (append-nil all)
said_line all (Some line) = one_line all line

-- the script of one more line
pub script_more : (before : List (List ℕ)) (line : List ℕ) → script_of (before ++ line ∷ []) ≡ with_said (script_of before) (line_at (length before + 1) line)
script_more before line = ap script_said (said_more 1 (length before + 1) before line (omega arith)) ∙ said_line (said 1 before) (line_at (length before + 1) line)

-- the lines before the rest are good, and this is their script
pub record IsBuilding (lines rest : List (List ℕ)) (script : Script) (number : ℕ) : Type 0 where
  pub before : List (List ℕ)
  pub parts : before ++ rest ≡ lines
  pub script_is : script ≡ script_of before
  pub number_is : number ≡ length before
  pub bad : first_bad lines ≡ first_bad_after before rest
  pub count : number + length rest ≡ length lines

pub building_begins : (lines : List (List ℕ)) (script : Script) → script ≡ script_of [] → IsBuilding lines lines script 0
building_begins lines script is = record { before = []; parts = refl; script_is = is; number_is = refl; bad = refl; count = omega arith }

good_as : (lines rest next : List (List ℕ)) (script : Script) (number : ℕ) (line : List ℕ) (b : Bool) (so_far : IsBuilding lines rest script number) → follows script (line_at (number + 1) line) ≡ b → is_good so_far.before line ≡ b
good_as lines rest next script number line b so_far is = sym (ap (λ n. follows (script_of so_far.before) (line_at (n + 1) line)) so_far.number_is) ∙ sym (ap (λ s. follows s (line_at (number + 1) line)) so_far.script_is) ∙ is

pub building_more : (lines rest next : List (List ℕ)) (script new : Script) (number : ℕ) (line : List ℕ) → IsBuilding lines rest script number → rest ≡ line ∷ next
    → follows script (line_at (number + 1) line) ≡ true → new ≡ with_said script (line_at (number + 1) line) → IsBuilding lines next new (number + 1)
building_more lines rest next script new number line so_far rest_is good new_is =
    let is : is_good so_far.before line ≡ true = good_as lines rest next script number line true so_far good in
    record {
      before = so_far.before ++ line ∷ [];
      parts = append_assoc so_far.before (line ∷ []) next ∙ ap (λ xs. so_far.before ++ xs) (sym rest_is) ∙ so_far.parts;
      script_is = new_is ∙ ap (λ s. with_said s (line_at (number + 1) line)) so_far.script_is ∙ ap (λ n. with_said (script_of so_far.before) (line_at (n + 1) line)) so_far.number_is ∙ sym (script_more so_far.before line);
      number_is = ap (λ n. n + 1) so_far.number_is ∙ sym (length-append so_far.before (line ∷ []));
      bad = so_far.bad ∙ ap (first_bad_after so_far.before) rest_is ∙ rw is refl;
      count = let size : length rest ≡ length (line ∷ next) = ap length rest_is in let so = so_far.count in omega arith;
    }

pub building_bad : (lines rest next : List (List ℕ)) (script : Script) (number : ℕ) (line : List ℕ) → IsBuilding lines rest script number → rest ≡ line ∷ next
    → follows script (line_at (number + 1) line) ≡ false → first_bad lines ≡ Some (number + 1)
building_bad lines rest next script number line so_far rest_is bad =
    let is : is_good so_far.before line ≡ false = good_as lines rest next script number line false so_far bad in
    so_far.bad ∙ ap (first_bad_after so_far.before) rest_is ∙ rw is (ap (λ n. Some (n + 1)) (sym so_far.number_is))

empty_as : (lines rest : List (List ℕ)) (script : Script) (number : ℕ) (b : Bool) (so_far : IsBuilding lines rest script number) → is_empty script.tables ≡ b → is_empty (script_of so_far.before).tables ≡ b
empty_as lines rest script number b so_far is = sym (ap (λ (s : Script). is_empty s.tables) so_far.script_is) ∙ is

pub building_ends : (lines rest : List (List ℕ)) (script : Script) (number : ℕ) → IsBuilding lines rest script number → rest ≡ [] → is_empty script.tables ≡ false
    → (script ≡ script_of lines) × (first_bad lines ≡ None)
building_ends lines rest script number so_far rest_is some =
    let is = empty_as lines rest script number false so_far some in
    let all : so_far.before ≡ lines = sym (append-nil so_far.before) ∙ ap (λ xs. so_far.before ++ xs) (sym rest_is) ∙ so_far.parts in
    (so_far.script_is ∙ ap script_of all, so_far.bad ∙ ap (first_bad_after so_far.before) rest_is ∙ rw is refl)

pub building_lacks : (lines rest : List (List ℕ)) (script : Script) (number : ℕ) → IsBuilding lines rest script number → rest ≡ [] → is_empty script.tables ≡ true → first_bad lines ≡ Some (number + 1)
building_lacks lines rest script number so_far rest_is none =
    let is = empty_as lines rest script number true so_far none in
    so_far.bad ∙ ap (first_bad_after so_far.before) rest_is ∙ rw is (ap (λ n. Some (n + 1)) (sym so_far.number_is))

-- an empty text has no lines
pub no_lines : (bytes : List ℕ) → length bytes ≡ 0 → lines_of bytes ≡ []
no_lines [] is = refl
no_lines (c ∷ cs) is = absurd (omega arith)
