use Rattle.std.proofs.Common.{◌≡◌, ◌∙◌, ◌<◌, ◌≤◌, ℕ, List, length, sym, ap, subst}
use Rattle.std.specs.Prelude.{nat_lt}
use Rattle.std.proofs.lemmas.Option.{slice_get-get_or}
use Rattle.dbl_tables_rows.specs.declared.rows.Rows.{Rows}
use Rattle.dbl_tables_rows.specs.Changing.{IsEnded}
use Rattle.dbl_tables_rows.specs.Ends.{EachChanges}
use Rattle.dbl_tables_rows.proofs.RowLemmas.{SoFar, none_so_far, more_so_far, all_so_far, taken_whole}
use Rattle.dbl_tables_rows.proofs.ends.end_tables.Goals as goal

pub loop-rows-init : goal.loop-rows-init
loop-rows-init c =
    subst (λ (l : List Rows). EachChanges (λ p old new. SoFar (nat_lt p 0) (IsEnded c.args.session.now) old new) c.args.tables.now.items l) (sym c.deref_mut-rows-items.ensures.value)
    (none_so_far (IsEnded c.args.session.now) c.args.tables.now.items)

pub loop-rows-preserved : goal.loop-rows-preserved
loop-rows-preserved c =
    let within : c.loop-rows.rows-index < length c.loop-rows.rows-items = subst (λ (n : ℕ). c.loop-rows.rows-index < n) (sym c.loop-rows.auto.rows-items) c.loop-rows-test.true in
    more_so_far (IsEnded c.args.session.now) c.loop-rows.rows-index c.args.tables.now.items c.loop-rows.rows-items _ c.end.new.rows
    (slice_get-get_or c.loop-rows.rows-items c.loop-rows.rows-index c.rows-item.result within) c.end.ensures c.loop-rows.invariant

pub returns : goal.returns
returns c =
    let same : length c.loop-rows.rows-items ≡ length c.args.tables.now.items = c.loop-rows.auto.rows-items ∙ ap length c.deref_mut-rows-items.ensures.value in
    let all : length c.loop-rows.rows-items ≤ c.loop-rows.rows-index = subst (λ (n : ℕ). n ≤ c.loop-rows.rows-index) (sym c.loop-rows.auto.rows-items) c.loop-rows-test.false in
    let count : c.args.tables.now.len ≡ length c.loop-rows.rows-items = sym c.deref_mut-rows-items.ensures.len ∙ sym c.loop-rows.auto.rows-items in
    subst (λ (l : List Rows). EachChanges (λ p old new. IsEnded c.args.session.now old new) c.args.tables.now.items l) (sym (taken_whole c.args.tables.now.len c.loop-rows.rows-items c.args.tables.now.items same count))
    (all_so_far (IsEnded c.args.session.now) c.loop-rows.rows-index c.args.tables.now.items c.loop-rows.rows-items all c.loop-rows.invariant)
