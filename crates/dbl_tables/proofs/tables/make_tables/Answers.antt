use Rattle.std.proofs.Common.{◌≡◌, ◌∙◌, ◌++◌, ◌∷◌, [], List, sym, subst, arith}
use Rattle.std.specs.List.{AllZip}
use Rattle.std.proofs.lemmas.List.{map-id}
use Rattle.std.proofs.lemmas.Iterator.Adapters.{YieldsList-from_vec}
use Rattle.std.proofs.lemmas.Iterator.Consumers.{YieldsList-end}
use Rattle.dbl_tables_rows.specs.declared.demo_table.DemoTable.{DemoTable}
use Rattle.dbl_tables_rows.specs.declared.rows.Rows.{Rows}
use Rattle.dbl_tables.specs.Stands.{IsMade}
use Rattle.dbl_tables.proofs.MadeLemmas.{zip_more}
use Rattle.dbl_tables.proofs.tables.make_tables.Goals as goal

pub loop-table-preserved : goal.loop-table-preserved
loop-table-preserved c =
    let is : IsMade c.in-Some.table c.in_ok-make_rows.field-0 = record {
      table_is = c.in_ok-make_rows.ensures.table;
      places = c.in_ok-make_rows.ensures.places.each;
      slots = c.in_ok-make_rows.ensures.slots;
      cleared = c.in_ok-make_rows.ensures.cleared;
      holders = c.in_ok-make_rows.ensures.holders;
    } in
    subst (λ (l : List Rows). AllZip IsMade (c.loop-table.yielded ++ c.in-Some.table ∷ []) l) (sym c.in_ok-push.ensures.items)
    (zip_more c.loop-table.yielded c.loop-table.made.items c.in-Some.table c.in_ok-make_rows.field-0 c.loop-table.invariant is)

pub returns-clause-made : goal.returns-clause-made
returns-clause-made c =
    let gives = c.into_iter-table-iterator.ensures.into_iter_gives in
    let road = YieldsList-from_vec c.args.tables.items gives.0 (omega (arith, gives.1, c.args.tables.ok.0)) in
    let all : c.loop-table.yielded ≡ c.args.tables.items =
    sym (map-id c.loop-table.yielded) ∙ (YieldsList-end road c.loop-table.yielded c.loop-table.table-iterator c.loop-table.yielded_by c.next.result c.next.new.self c.in-None.is c.next.ensures.steps).0 in
    subst (λ (l : List DemoTable). AllZip IsMade l c.loop-table.made.items) all c.loop-table.invariant
