use Rattle.std.proofs.Common.{◌≡◌, ◌∙◌, ◌<◌, ◌≤◌, ◌++◌, true, false, [], List, length, take, sym, ap, subst, arith}
use Rattle.std.specs.Prelude.{nat_le, option_to_list}
use Rattle.std.proofs.lemmas.Bool.Decides.{nat_tests}
use Rattle.std.proofs.lemmas.List.{append-nil}
use Rattle.dbl_model_table.specs.declared.table.RawRow.{RawRow}
use Rattle.dbl_tables.proofs.SelectLemmas.{Entry, rows_of}
use Rattle.dbl_tables.proofs.SelectStands.{gathered_more, pushed_few, gathered_all, gathered_full}
use Rattle.dbl_tables.proofs.selecting.first_rows.Goals as goal

-- as many as are asked for
pub returns-then-are_enough : goal.returns-then-are_enough
returns-then-are_enough c =
    let rows : List RawRow = c.loop-key.rows.items in
    let few : length rows ≤ c.args.limit = c.loop-key.invariant.few in
    let many : nat_le c.args.limit (length rows) ≡ true = sym c.are_enough.ensures ∙ c.if-are_enough.true in
    let full : length rows ≡ c.args.limit = grind (arith, nat_tests) in
    sym (gathered_full rows (rows_of c.loop-key._key-iterator) c.args.limit full) ∙ c.loop-key.invariant.so_far

pub loop-key-preserved : goal.loop-key-preserved
loop-key-preserved c =
    let rows : List RawRow = c.loop-key.rows.items in
    let e : Entry = (c.in-Some._key.now, c.in-Some.slot.now) in
    let left : List Entry = c.next.new.self in
    let push : c.push_committed.new.rows.items ≡ rows ++ option_to_list e.1.committed = c.in_ok-push_committed.ensures in
    let fewer : nat_le c.args.limit (length rows) ≡ false = sym c.are_enough.ensures ∙ c.if-are_enough.false in
    let less : length rows < c.args.limit = grind (arith, nat_tests) in
    record {
      so_far = ap (take c.args.limit) (ap (λ (l : List RawRow). l ++ rows_of left) push ∙ (sym (gathered_more rows e left) ∙ ap (λ (es : List Entry). rows ++ rows_of es) (sym c.in-Some.ensures.steps))) ∙ c.loop-key.invariant.so_far;
      few = subst (λ (l : List RawRow). length l ≤ c.args.limit) (sym push) (pushed_few rows e.1.committed c.args.limit less);
    }

-- no more slots
pub returns : goal.returns
returns c =
    let rows : List RawRow = c.loop-key.rows.items in
    let none : c.loop-key._key-iterator ≡ [] = c.in-None.ensures.steps.0 in
    sym (gathered_all rows c.args.limit c.loop-key.invariant.few)
    ∙ (ap (take c.args.limit) (sym (append-nil rows) ∙ ap (λ (es : List Entry). rows ++ rows_of es) (sym none)) ∙ c.loop-key.invariant.so_far)
