-- A script whose lines are good has few tables, of different names.
use Rattle.std.proofs.Common.{◌≡◌, ◌∙◌, ℕ, ◌+◌, ◌<◌, ◌&&◌, ◌||◌, not, nat_lt, if◌then◌else◌, Bool, true, false, List, [], ◌∷◌, ◌++◌, length, map, Option, Some, None, refl, sym, ap, subst, arith, append_assoc, length-append}
use Rattle.std.specs.List.{list_any}
use Rattle.std.proofs.lemmas.Bool.{ltb-true}
use Rattle.std.proofs.lemmas.List.{append-nil, map_push}
use Rattle.dbl_script.specs.ModelTable.declared.table.TableName.{TableName}
use Rattle.dbl_script.specs.ModelTable.Tables.{same_name, are_distinct}
use Rattle.dbl_model_table.proofs.Lists.{and_left, and_right, and_both}
use Rattle.dbl_script.specs.declared.script.Script.{Script}
use Rattle.dbl_script.specs.declared.script.ScriptTable.{ScriptTable}
use Rattle.dbl_script.specs.declared.line.Line.{Line}
use Rattle.dbl_script.specs.declared.line.Line.TheVariants.{Passed, Table, Row, Act}
use Rattle.dbl_script.specs.Grammar.{line_at}
use Rattle.dbl_script.specs.Scripts.{script_of, is_empty, may_follow, follows, is_good, first_bad_after}
use Rattle.dbl_script.specs.Building.{with_line, with_said}
use Rattle.dbl_demo_wal.specs.Contents.{HasFewTables, GoodScriptsHaveFewTables}
use Rattle.dbl_script.proofs.ScriptLemmas.{script_more}

-- ---- one name more

any_push : (p : TableName → Bool) (xs : List TableName) (x : TableName) → list_any p xs ≡ false → p x ≡ false → list_any p (xs ++ x ∷ []) ≡ false
any_push p [] x none one = or_false (p x) false one refl
  where
    or_false : (a b : Bool) → a ≡ false → b ≡ false → (a || b) ≡ false
    or_false true b h k = cc
    or_false false b h k = k
any_push p (y ∷ xs) x none one = both (p y) (list_any p xs) (list_any p (xs ++ x ∷ [])) none (λ rest. any_push p xs x rest one)
  where
    both : (a b c : Bool) → (a || b) ≡ false → (b ≡ false → c ≡ false) → (a || c) ≡ false
    both true b c h k = cc
    both false b c h k = k h

not_any : (b : Bool) → not b ≡ true → b ≡ false
not_any true h = cc
not_any false h = refl

is_not : (b : Bool) → b ≡ false → not b ≡ true
is_not true h = cc
is_not false h = refl

or_first : (a b : Bool) → (a || b) ≡ false → a ≡ false
or_first true b h = cc
or_first false b h = refl

or_second : (a b : Bool) → (a || b) ≡ false → b ≡ false
or_second true b h = cc
or_second false b h = h

distinct_push : (xs : List TableName) (x : TableName) → are_distinct same_name xs ≡ true → list_any (λ other. same_name other x) xs ≡ false → are_distinct same_name (xs ++ x ∷ []) ≡ true
distinct_push [] x distinct new = refl
distinct_push (y ∷ xs) x distinct new =
    and_both _ _
    (is_not _ (any_push (same_name y) xs x (not_any _ (and_left _ _ distinct)) (or_first (same_name y x) _ new)))
    (distinct_push xs x (and_right (not (list_any (same_name y) xs)) _ distinct) (or_second (same_name y x) _ new))

any_named : (tables : List ScriptTable) (name : TableName) → list_any (λ (other : ScriptTable). same_name other.raw.name name) tables ≡ list_any (λ other. same_name other name) (map (λ table. table.raw.name) tables)
any_named [] name = refl
any_named (table ∷ tables) name = ap (λ (b : Bool). same_name table.raw.name name || b) (any_named tables name)

-- ---- one line more

few_more : (s : Script) (table : ScriptTable) → HasFewTables s → length s.tables < 64 → list_any (λ (other : ScriptTable). same_name other.raw.name table.raw.name) s.tables ≡ false → HasFewTables (with_line s (Table table))
few_more s table has room new = record {
  few = omega (arith, room, length-append s.tables (table ∷ []));
  distinct = ap (are_distinct same_name) (map_push (λ (t : ScriptTable). t.raw.name) s.tables table)
      ∙ distinct_push (map (λ (t : ScriptTable). t.raw.name) s.tables) table.raw.name has.distinct (sym (any_named s.tables table.raw.name) ∙ new);
}

good_line : (s : Script) (line : Line) → HasFewTables s → may_follow s line ≡ true → HasFewTables (with_line s line)
unfolding may_follow
good_line s Passed has h = has
good_line s (Table table) has h =
    let first = and_left (is_empty s.rows && is_empty s.steps && nat_lt (length s.tables) 64) _ h in
    let room : length s.tables < 64 = ltb-true _ _ (and_right (is_empty s.rows && is_empty s.steps) _ first) in
    few_more s table has room (not_any _ (and_right (is_empty s.rows && is_empty s.steps && nat_lt (length s.tables) 64) _ h))
good_line s (Row row) has h = record { few = has.few; distinct = has.distinct }
good_line s (Act step) has h = record { few = has.few; distinct = has.distinct }

good_said : (s : Script) (said : Option Line) → HasFewTables s → follows s said ≡ true → HasFewTables (with_said s said)
good_said s None has h = has
good_said s (Some line) has h = good_line s line has h

-- ---- all lines

good_from : (before lines : List (List ℕ)) → HasFewTables (script_of before) → first_bad_after before lines ≡ None → HasFewTables (script_of (before ++ lines))
good_from before [] has none = subst (λ (l : List (List ℕ)). HasFewTables (script_of l)) (sym (append-nil before)) has
good_from before (line ∷ lines) has none = by_test (is_good before line) refl none (λ more rest. good_from (before ++ line ∷ []) lines more rest)
  where
    by_test : (b : Bool) → is_good before line ≡ b → (if b then first_bad_after (before ++ line ∷ []) lines else Some (length before + 1)) ≡ None
        → (HasFewTables (script_of (before ++ line ∷ [])) → first_bad_after (before ++ line ∷ []) lines ≡ None → HasFewTables (script_of ((before ++ line ∷ []) ++ lines))) → HasFewTables (script_of (before ++ line ∷ lines))
    by_test true good rest on =
        let more : HasFewTables (script_of (before ++ line ∷ [])) = subst HasFewTables (sym (script_more before line)) (good_said (script_of before) (line_at (length before + 1) line) has good) in
        subst (λ (l : List (List ℕ)). HasFewTables (script_of l)) (append_assoc before (line ∷ []) lines) (on more rest)
    by_test false good rest on = absurd (let r = rest in cc)

pub good_scripts : GoodScriptsHaveFewTables
good_scripts lines none = good_from [] lines (record { few = omega arith; distinct = refl }) none
