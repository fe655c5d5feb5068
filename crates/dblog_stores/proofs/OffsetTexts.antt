-- The text of an offset, piece by piece.
use Rattle.std.proofs.Common.{◌≡◌, ◌∙◌, ℕ, zero, suc, ◌+◌, ◌<◌, true, false, cond, Option, Ok, Err, OnOk, IfErr, List, [], ◌∷◌, ◌++◌, map, length, drop, get_or, codes, refl, sym, ap, subst, append_assoc, arith}
use Rattle.std.specs.List.{zip, AllZip}
use Rattle.std.proofs.lemmas.List.{drop_more, length-map}
use Rattle.std.proofs.lemmas.Slice.Zip.{get_or-zip, length-zip}
use Rattle.dbl_base.specs.Lines.{lines_text}
use Rattle.dbl_value_types.specs.declared.column_type.PgType.{PgType}
use Rattle.dbl_value_types.specs.declared.value.Val.{Val}
use Rattle.dbl_model_table.specs.declared.row.Key.{Key}
use Rattle.dbl_model_table.specs.declared.table.TableInfo.{TableInfo}
use Rattle.dbl_model_table.specs.Infos.{key_types}
use Rattle.dbl_model_table.specs.Tables.{full_name}
use Rattle.dbl_model_history.specs.declared.cursor.Cursor.{Cursor}
use Rattle.dbl_model_history.specs.Fit.{AreOf, IsKeyOf}
use Rattle.dbl_lines.specs.Writing.{Wrote, WrotePrefix}
use Rattle.dblog_stores.specs.declared.error.CommandError.TheVariants.{OutputFailed}
use Rattle.dblog_stores.specs.Answers.{last_text, state_text, table_line}
use Rattle.dblog_stores.specs.Ends.{CutsLines, CommandEnd, Ends}

-- ---- numbers

pub numbers_regroup : (a i b s c p : List ℕ) → a ++ (i ++ (10 ∷ (b ++ (s ++ (10 ∷ (c ++ (p ++ 10 ∷ []))))))) ≡ (a ++ i) ++ 10 ∷ ((b ++ s) ++ 10 ∷ ((c ++ p) ++ 10 ∷ []))
numbers_regroup a i b s c p = sym (simp append_assoc)

-- ---- tables with their cursors

pub zip_at : {A B : Type 0} (xs : List A) (ys : List B) (i : ℕ) (x : A) (y : B) → length ys ≡ length xs → i < length xs → x ≡ get_or xs i x → y ≡ get_or ys i y → (x, y) ≡ get_or (zip xs ys) i (x, y)
zip_at xs ys i x y long lt first second = λ j. sym (get_or-zip xs ys i (x, y) lt (omega (arith, long)) ∙ (λ k. (sym first k, sym second k))) j

pub zip_long : {A B : Type 0} (xs : List A) (ys : List B) → length ys ≡ length xs → length (zip xs ys) ≡ length xs
zip_long xs ys long = omega (arith, length-zip xs ys, long)

-- ---- a table

line_regroup : (n a b c : List ℕ) → ((n ++ a) ++ b) ++ c ≡ n ++ (a ++ (b ++ c))
line_regroup n a b c = simp append_assoc

open_regroup : (n a b l c : List ℕ) → ((n ++ a) ++ (b ++ l)) ++ c ≡ n ++ (a ++ (b ++ (l ++ c)))
open_regroup n a b l c = simp append_assoc

pub done_line : (info : TableInfo) (cursor : Cursor) → cursor.done ≡ true → full_name info.name ++ codes " done\n" ≡ table_line (info, cursor) ++ 10 ∷ []
done_line info cursor done =
    let states : state_text info cursor ≡ codes "done" = ap (λ b. cond b (codes "done") (codes "open " ++ last_text info cursor.last)) done in
    sym (ap (λ s. ((full_name info.name ++ codes " ") ++ s) ++ 10 ∷ []) states ∙ line_regroup (full_name info.name) (codes " ") (codes "done") (10 ∷ []))

pub open_line : (info : TableInfo) (cursor : Cursor) (last : List ℕ) → cursor.done ≡ false → last_text info cursor.last ≡ last → full_name info.name ++ (codes " open " ++ (last ++ 10 ∷ [])) ≡ table_line (info, cursor) ++ 10 ∷ []
open_line info cursor last done is =
    let states : state_text info cursor ≡ codes "open " ++ last = ap (λ b. cond b (codes "done") (codes "open " ++ last_text info cursor.last)) done ∙ ap (λ t. codes "open " ++ t) is in
    sym (ap (λ s. ((full_name info.name ++ codes " ") ++ s) ++ 10 ∷ []) states ∙ open_regroup (full_name info.name) (codes " ") (codes "open ") last (10 ∷ []))

are_long : (types : List PgType) (values : List Val) → AreOf types values → length values ≡ length types
are_long [] [] are = refl
are_long [] (v ∷ values) are = absurd are
are_long (ty ∷ types) [] are = absurd are
are_long (ty ∷ types) (v ∷ values) are = ap suc (are_long types values are.1)

-- a key has a cell for each of its table's key columns
pub key_long : (info : TableInfo) (key : Key) → IsKeyOf info key → length key.cells ≡ length info.key
key_long info key is = are_long (key_types info) key.cells is ∙ length-map info.key _

-- ---- tables

pub all_zip_at : {A B : Type 0} (R : A → B → Type 0) (xs : List A) (ys : List B) (i : ℕ) (x : A) (y : B) → AllZip R xs ys → i < length xs → x ≡ get_or xs i x → y ≡ get_or ys i y → R x y
all_zip_at R [] ys i x y are within first second = absurd (omega arith)
all_zip_at R (a ∷ xs) [] i x y are within first second = absurd are
all_zip_at R (a ∷ xs) (b ∷ ys) zero x y are within first second = subst (λ v. R v y) (sym first) (subst (λ w. R a w) (sym second) are.0)
all_zip_at R (a ∷ xs) (b ∷ ys) (suc i) x y are within first second = all_zip_at R xs ys i x y are.1 (omega arith) first second

pub lines_go : (old new total : List ℕ) (tables : List (TableInfo × Cursor)) (i : ℕ) (t : TableInfo × Cursor) → i < length tables → t ≡ get_or tables i t → new ≡ old ++ (table_line t ++ 10 ∷ [])
    → old ++ lines_text (map table_line (drop i tables)) ≡ total → new ++ lines_text (map table_line (drop (i + 1) tables)) ≡ total
lines_go old new total tables i t within there is so_far =
    let split : drop i tables ≡ t ∷ drop (i + 1) tables = drop_more tables i t within ∙ ap (λ y. y ∷ drop (i + 1) tables) (sym there) in
    let rest = lines_text (map table_line (drop (i + 1) tables)) in
    ap (λ n. n ++ rest) is ∙ append_assoc old (table_line t ++ 10 ∷ []) rest ∙ ap (λ l. old ++ l) (append_assoc (table_line t) (10 ∷ []) rest)
    ∙ sym (ap (λ d. old ++ lines_text (map table_line d)) split) ∙ so_far

-- ---- the whole text

pub text_ends : (lines : List (List ℕ)) (text : List ℕ) (end : CommandEnd) (before after : Option (List ℕ)) → text ≡ lines_text lines → OnOk end (Wrote before after text) → IfErr end (λ error. (error ≡ OutputFailed) × WrotePrefix before after text) → Ends (Ok lines) end before after
text_ends lines text (Ok done) before after is wrote front = subst (Wrote before after) is wrote
text_ends lines text (Err error) before after is wrote front = subst (λ e. CutsLines lines e before after) (sym front.0) (subst (WrotePrefix before after) is front.1)
