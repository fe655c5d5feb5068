use Rattle.std.proofs.Common.{◌≡◌, ◌∙◌, ◌≤◌, List, Some, length, get_or, ap, subst}
use Rattle.std.specs.Prelude.{slice_get}
use Rattle.std.proofs.lemmas.Option.{slice_get_read}
use Rattle.dbl_model_history.specs.declared.cursor.Cursor.{Cursor}
use Rattle.dbl_consume_laws.specs.Prints.{ReportsProgress}
use Rattle.cases_ages.proofs.PlainAgeLemmas.{refuted}
use Rattle.cases_ages.proofs.ToldLemmas.{told_decides, none_more, none_at}
use Rattle.cases_ages.proofs.progress.is_told_by.Goals as goal

pub returns-then-says : goal.returns-then-says
returns-then-says c =
    told_decides c.args.log.now.identity.now c.args.info.now c.args.item.now c.args.key.now c.cursor-item.result.last c.cursor-item.result.done c.covers.result
    (c.in_ok-says.ensures.0 c.if-says.true) c.covers.ensures

pub loop-cursor-preserved : goal.loop-cursor-preserved
loop-cursor-preserved c =
    let said : c.deref-cursor-items.result.now ≡ c.args.log.now.said.now.items = c.deref-cursor-items.ensures.value in
    let at : slice_get c.args.log.now.said.now.items c.loop-cursor.cursor-index ≡ Some c.cursor-item.result =
    slice_get_read c.args.log.now.said.now.items (length c.deref-cursor-items.result.now) c.loop-cursor.cursor-index c.cursor-item.result (ap length said) c.loop-cursor-test.true
    (c.cursor-item.is ∙ ap (λ (l : List Cursor). get_or l c.loop-cursor.cursor-index c.cursor-item.result) said) in
    none_more (λ (x : Cursor). ReportsProgress c.args.log.now.identity.now c.args.info.now c.args.item.now x.last x.done) c.args.log.now.said.now.items c.loop-cursor.cursor-index c.cursor-item.result at
    (refuted c.in_ok-says.says c.if-says.false c.in_ok-says.ensures) c.loop-cursor.invariant

pub returns-then-of : goal.returns-then-of
returns-then-of c =
    let said : c.deref-cursor-items.result.now ≡ c.args.log.now.said.now.items = c.deref-cursor-items.ensures.value in
    record {
      of = c.in_ok-of.ensures.0 c.if-of.true;
      unlisted = none_at (λ (x : Cursor). ReportsProgress c.args.log.now.identity.now c.args.info.now c.args.item.now x.last x.done) c.args.log.now.said.now.items c.loop-cursor.cursor-index
          (subst (λ (l : List Cursor). length l ≤ c.loop-cursor.cursor-index) said c.loop-cursor-test.false) c.loop-cursor.invariant;
    }
