use Rattle.std.proofs.Common.{◌≡◌, ◌∙◌, ◌≤◌, ℕ, Bool, Option, List, length, take, get_or, sym, ap, subst}
use Rattle.std.specs.Prelude.{is_some, option_and_then}
use Rattle.std.specs.List.{list_all}
use Rattle.std.proofs.lemmas.List.{take_all}
use Rattle.dbl_model_table.specs.declared.named_cell.NamedCell.{NamedCell}
use Rattle.dbl_model_table.specs.Infos.{name_at}
use Rattle.dbl_tables_rows.specs.Cells.{text_given}
use Rattle.dbl_tables_rows.proofs.KeyTexts.{has_key_texts_is}
use Rattle.dbl_tables_rows.proofs.PlaceLemmas.{name_there, never_out, all_more, not_all}
use Rattle.dbl_tables_rows.proofs.given.has_key_texts.Goals as goal
use Rattle.dbl_tables_rows.proofs.given.has_key_texts.Goals.{in-Some, in-None}

pub returns-then-not-has_text : goal.returns-then-not-has_text
returns-then-not-has_text c =
    let key : c.deref-place-items.result.now ≡ c.args.info.now.key = c.deref-place-items.ensures.value ∙ c.items.ensures in
    let columns : c.deref.result.now ≡ c.args.info.now.columns = c.deref.ensures.value ∙ c.items-in-loop-place.ensures in
    let at : ℕ → Bool = λ p. is_some (text_given c.args.cells.now (name_at c.args.info.now.columns p)) in
    let one : c.match-get.has_text ≡ at (get_or c.args.info.now.key c.loop-place.place-index 0) = elim c.match-get.branch [
      | in-Some w ↦
          w.has_text-is
          ∙ (w.has_text-has_text.ensures
          ∙ (ap (λ (o : Option NamedCell). is_some (option_and_then (λ (given : NamedCell). given.text) o)) w.cell_named.ensures
          ∙ ap (λ (n : List ℕ). is_some (text_given c.args.cells.now n)) (name_there c.args.info.now c.deref.result.now c.deref-place-items.result.now columns key c.loop-place.place-index c.loop-place-test.true w.in-Some.column.now w.in-Some.ensures.lookup.1)))
      | in-None w ↦ absurd (never_out c.args.info.now c.deref.result.now c.deref-place-items.result.now columns key c.loop-place.place-index c.loop-place-test.true w.in-None.ensures.lookup.0)
    ] in
    sym (has_key_texts_is c.args.info.now c.args.cells.now ∙ not_all c.args.info.now c.deref.result.now c.deref-place-items.result.now columns key c.loop-place.place-index c.loop-place-test.true at (sym one ∙ c.if-not-has_text.true))

pub loop-place-preserved : goal.loop-place-preserved
loop-place-preserved c =
    let key : c.deref-place-items.result.now ≡ c.args.info.now.key = c.deref-place-items.ensures.value ∙ c.items.ensures in
    let columns : c.deref.result.now ≡ c.args.info.now.columns = c.deref.ensures.value ∙ c.items-in-loop-place.ensures in
    let at : ℕ → Bool = λ p. is_some (text_given c.args.cells.now (name_at c.args.info.now.columns p)) in
    let one : c.match-get.has_text ≡ at (get_or c.args.info.now.key c.loop-place.place-index 0) = elim c.match-get.branch [
      | in-Some w ↦
          w.has_text-is
          ∙ (w.has_text-has_text.ensures
          ∙ (ap (λ (o : Option NamedCell). is_some (option_and_then (λ (given : NamedCell). given.text) o)) w.cell_named.ensures
          ∙ ap (λ (n : List ℕ). is_some (text_given c.args.cells.now n)) (name_there c.args.info.now c.deref.result.now c.deref-place-items.result.now columns key c.loop-place.place-index c.loop-place-test.true w.in-Some.column.now w.in-Some.ensures.lookup.1)))
      | in-None w ↦ absurd (never_out c.args.info.now c.deref.result.now c.deref-place-items.result.now columns key c.loop-place.place-index c.loop-place-test.true w.in-None.ensures.lookup.0)
    ] in
    all_more c.args.info.now c.deref.result.now c.deref-place-items.result.now columns key c.loop-place.place-index c.loop-place-test.true at c.loop-place.invariant (sym one ∙ c.if-not-has_text.false)

pub returns : goal.returns
returns c =
    let key : c.deref-place-items.result.now ≡ c.args.info.now.key = c.deref-place-items.ensures.value ∙ c.items.ensures in
    let whole : take c.loop-place.place-index c.args.info.now.key ≡ c.args.info.now.key = take_all c.loop-place.place-index c.args.info.now.key (subst (λ (l : List ℕ). length l ≤ c.loop-place.place-index) key c.loop-place-test.false) in
    sym (has_key_texts_is c.args.info.now c.args.cells.now ∙ (sym (ap (list_all (λ (p : ℕ). is_some (text_given c.args.cells.now (name_at c.args.info.now.columns p)))) whole) ∙ c.loop-place.invariant))
