use Rattle.std.proofs.Common.{◌≡◌, ◌∙◌, ◌+◌, ◌<◌, Option, Some, List, ◌∷◌, ◌++◌, [], length, sym, ap, subst, arith}
use Rattle.std.specs.Prelude.{Ok}
use Rattle.std.specs.List.{AllByRecursion}
use Rattle.std.specs.Vec.Iter.{into_iter_items}
use Rattle.std.proofs.lemmas.List.{length_push}
use Rattle.dbl_model_table.specs.declared.row.Key.{Key}
use Rattle.dbl_model_table.specs.declared.row.Row.{Row}
use Rattle.dbl_model_history.specs.KeyBounds.{IsAbove}
use Rattle.dbl_model_history.specs.KeyedRows.{AreAbove, last_key}
use Rattle.dbl_window.specs.Plans.{plan_of}
use Rattle.dbl_window.specs.Reading.{row_read, rows_read}
use Rattle.dbl_window.specs.Changing.{FitsRow}
use Rattle.dbl_window.proofs.Loops.{with_front}
use Rattle.dbl_window.proofs.LoopLemmas.{rows_more, row_above}
use Rattle.dbl_window.proofs.MapLemmas.{above_more, last_more, all_more}
use Rattle.dbl_window.proofs.reading.read_rows.Goals as goal

pub loop-raw-preserved : goal.loop-raw-preserved
loop-raw-preserved c =
    let frame = c.args.frame.now in
    let plan = plan_of frame in
    let count = c.loop-raw.count in
    let through = c.loop-raw.through in
    let old = c.loop-raw.read.entries in
    let key = c.in_ok-key.key in
    let row = c.in_ok-key.row in
    let items = into_iter_items c.loop-raw.raw-iterator in
    let rest = into_iter_items c.next.new.self in
    let raw = c.in-Some-raw.raw in
    let inv = c.loop-raw.invariant in
    let are : items ≡ raw ∷ rest = c.in-Some-raw.ensures.steps.0 in
    let read : row_read plan count through raw ≡ Ok (key, row) = ap (λ (o : Option Key). row_read plan count o raw) (sym c.as_ref.ensures.value) ∙ c.in_ok-key.ensures.read in
    let above : IsAbove (last_key frame.above old) key = subst (λ (o : Option Key). IsAbove o key) inv.last (row_above plan count through raw (key, row) read) in
    let put : c.put_row.new.rows.entries ≡ old ++ (key, row) ∷ [] = c.in_ok-put_row.ensures.last frame.above inv.ordered above in
    let copied : c.in_ok-copy.field-0 ≡ key = c.in_ok-copy.ensures in
    let long : length c.put_row.new.rows.entries ≡ length old + 1 = ap length put ∙ length_push old (key, row) in
    let within : count < frame.limit = c.in_ok-key.ensures.within in
    let counted : count ≡ length old = inv.counted in
    record {
      rows = ap (λ (l : List (Key × Row)). with_front l (rows_read plan (count + 1) (Some c.in_ok-copy.field-0) rest)) put
          ∙ (ap (λ (k : Key). with_front (old ++ (key, row) ∷ []) (rows_read plan (count + 1) (Some k) rest)) copied
          ∙ rows_more plan count through old items rest raw (key, row) _ inv.rows are read);
      ordered = subst (AreAbove frame.above) (sym put) (above_more frame.above old key row inv.ordered above);
      last = ap (λ (k : Key). Some k) copied ∙ (sym (last_more frame.above old key row) ∙ ap (last_key frame.above) (sym put));
      counted = omega (arith, long, counted);
      few = omega (arith, within);
      fit = subst (AllByRecursion (FitsRow frame.info)) (sym put) (all_more (FitsRow frame.info) old (key, row) inv.fit c.in_ok-key.ensures.fits);
    }

pub returns-clause-through : goal.returns-clause-through
returns-clause-through c = c.loop-raw.invariant.last
